use Rattle.std.proofs.Common.{◌≡◌, ◌++◌, drop, map}
use Rattle.script_tree.specs.declared.program.Decl.{Decl}
use Rattle.pic_report.specs.Names.{read_names}
use Rattle.pic_report.specs.Report.{comp_decls, comp_names}
use Rattle.pic_report.proofs.comps.comp_names.Given as goal

abbrev pub invariant-loop-decl : goal.invariant-loop-decl
invariant-loop-decl l =
    read_names l.names.items ++ map (λ (d : Decl). d.name) (comp_decls (drop l.decl-index l.decl-items)) ≡ comp_names l.fn.program
