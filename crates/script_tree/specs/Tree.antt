-- A script as everyone above the reader sees it: the tree of its forms, laid out flat.
use Rattle.std.specs.Prelude.{List}
use Rattle.script_tree.specs.declared.program.Decl.{Decl}
use Rattle.script_tree.specs.declared.program.Text.{Text}
use Rattle.script_tree.specs.declared.program.Stmt.{Stmt}
use Rattle.script_tree.specs.declared.program.EventTree.{EventTree}

-- the declarations, the texts, and every block and event by its place, the outer before the inner
pub record Tree : Type 0 where
  pub decls : List Decl
  pub texts : List Text
  pub blocks : List (List Stmt)
  pub events : List EventTree
