-- Which programs are run so far: those that declare triggers and computations alone, and have but these
-- statements.
use Rattle.std.specs.Prelude.{Bool, true, false, ◌&&◌, List}
use Rattle.std.specs.List.{list_all}
use Rattle.script_tree.specs.declared.program.CompRef.{CompRef}
use Rattle.script_tree.specs.declared.program.CompRef.TheVariants.{Root, Named, Promise as PromiseIn}
use Rattle.script_tree.specs.declared.program.Decl.{Decl}
use Rattle.script_tree.specs.declared.program.Kind.{Kind}
use Rattle.script_tree.specs.declared.program.Kind.TheVariants.{Trigger, Comp}
use Rattle.script_tree.specs.declared.program.Stmt.{Stmt}
use Rattle.script_tree.specs.declared.program.Stmt.TheVariants.{Set, Add, Sub, Mul, Put, Get, Say, Raise, Break, Return, Cancel, Peek, Signal, Detach, Spawn, Yield, If, Loop, Try, Await, Attach, Wait, Check, Forbid, Permit, Under}
use Rattle.script_tree.specs.Tree.{Tree}

abbrev pub is_built_kind : Kind → Bool
is_built_kind Trigger = true
is_built_kind Comp = true
is_built_kind _ = false

-- no promise register holds a computation yet
abbrev pub is_built_comp : CompRef → Bool
is_built_comp Root = true
is_built_comp (Named place) = true
is_built_comp (PromiseIn register) = false

abbrev pub is_built_stmt : Stmt → Bool
is_built_stmt (Set r v) = true
is_built_stmt (Add r v) = true
is_built_stmt (Sub r v) = true
is_built_stmt (Mul r v) = true
is_built_stmt (Put k v) = true
is_built_stmt (Get r k) = true
is_built_stmt (Say v) = true
is_built_stmt (Raise v) = true
is_built_stmt Break = true
is_built_stmt (Return r c v) = is_built_comp c
is_built_stmt (Cancel r c v) = is_built_comp c
is_built_stmt (Peek r q c) = is_built_comp c
is_built_stmt (Signal t) = true
is_built_stmt (Await t) = true
is_built_stmt (Attach r c t) = is_built_comp c
is_built_stmt (Detach c t) = is_built_comp c
is_built_stmt (Wait r c) = is_built_comp c
is_built_stmt (Spawn text v) = true
is_built_stmt Yield = true
is_built_stmt Check = true
is_built_stmt (If a t b p q) = true
is_built_stmt (Loop p) = true
is_built_stmt (Try p r h) = true
is_built_stmt (Forbid p) = true
is_built_stmt (Permit p) = true
is_built_stmt (Under c p) = is_built_comp c
is_built_stmt _ = false

-- the statements of every block
abbrev pub is_built : Tree → Bool
is_built tree =
    list_all (λ (d : Decl). is_built_kind d.kind) tree.decls && list_all (λ (block : List Stmt). list_all is_built_stmt block) tree.blocks
