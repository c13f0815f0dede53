-- What a run begins with: the start, the bodies of main and of the clock, and the port.
use Rattle.std.proofs.Common.{◌≡◌, ◌+◌, ◌≤◌, true, Option, Some, None, [], length, refl, sym, ap, subst, ◌∙◌, arith}
use Rattle.std.proofs.lemmas.List.{length-replicate}
use Rattle.pic_machine.specs.declared.birth.Birth.{Birth}
use Rattle.pic_machine.specs.declared.state.CompState.TheVariants.{Running}
use Rattle.pic_machine.specs.declared.state.TrigState.TheVariants.{Initial}
use Rattle.pic_machine.specs.declared.world.Start.{Start}
use Rattle.pic_machine.specs.State.{CanStart, world_at}
use Rattle.port_plain.specs.Shown.{Shown as Port, IsMain, IsClock, sight_of}
use Rattle.script_tree.specs.declared.thing.Sort.TheVariants as sort
use Rattle.script_tree.specs.Tree.{Tree}
use Rattle.fiber_body.specs.Context.{count_of}
use Rattle.fiber_body.specs.Shown.{Shown as Body, carry_of}
use Rattle.fiber_body.specs.New.{IsNew}
use Rattle.fiber_body.specs.Fits.{Fits}
use Rattle.fiber_body.specs.Starts.{start_of}
use Rattle.fiber_poll.specs.Built.{is_built}
use Rattle.fiber_poll.specs.Polls.{IsPortOf}
use Rattle.pic_run.specs.Limits.{limits}
use Rattle.pic_report.specs.View.{BeginsRunning}
use Rattle.pic_run.specs.Over.{IsOpened}
use Rattle.pic_run.specs.Run.{origin}

-- ---- the start

pub can_start : (script : Tree) (start : Start) → start ≡ start_of script limits → start.triggers ≤ 256 → start.comps ≤ 257 → CanStart start
can_start script start is few_triggers few_comps =
    let triggers : (start_of script limits).triggers ≤ 256 = subst (λ (s : Start). s.triggers ≤ 256) is few_triggers in
    let comps : (start_of script limits).comps ≤ 257 = subst (λ (s : Start). s.comps ≤ 257) is few_comps in
    subst CanStart (sym is) (record { root = omega arith; triggers = omega (arith, triggers); comps = omega (arith, comps); main = omega arith })

-- the computations that stand are the root and those that the script declares
pub begins_running : (script : Tree) → BeginsRunning script (origin script)
begins_running script = refl

-- ---- bodies

-- nothing has happened to a new body
module _ (body : Body) (program : Option Tree) (birth : Birth) where
  pub new_clock : IsNew body program birth (Some 0) → IsClock carry_of Fits body
  new_clock new = record { number = new.number_is; owes = new.owes; fitting = new.fits }

  pub new_main : IsNew body program birth None → (start : Start) → CanStart start → birth ≡ record { text = start.text; value = 0; current = 0 } → IsMain carry_of Fits start body
  new_main new start can is = record {
    unnumbered = new.number_is;
    text = ap (λ (b : Birth). b.text) (new.birth_is ∙ is);
    current = omega (arith, can.root, ap (λ (b : Birth). b.current) (new.birth_is ∙ is));
    owes = new.owes;
    fitting = new.fits;
  }

-- ---- the port

triggers_stand : (script : Tree) (port : Port Body) → IsOpened script port → length (world_at port.start).triggers ≡ count_of sort.Trigger script.decls
triggers_stand script port opened = ap (λ (s : Start). length (world_at s).triggers) opened.start ∙ length-replicate (count_of sort.Trigger script.decls) Initial

comps_stand : (script : Tree) (port : Port Body) → IsOpened script port → length (world_at port.start).comps ≡ count_of sort.Comp script.decls + 1
comps_stand script port opened = ap (λ (s : Start). length (world_at s).comps) opened.start ∙ length-replicate (count_of sort.Comp script.decls + 1) (Running [])

pub opened_polls : (script : Tree) (port : Port Body) → IsOpened script port → is_built script ≡ true → IsPortOf script (sight_of carry_of port)
opened_polls script port opened built =
    let comps = comps_stand script port opened in
    record {
      share = opened.share;
      built = built;
      triggers = omega (arith, triggers_stand script port opened);
      comps = omega (arith, comps);
      main = omega (arith, comps, ap (λ (b : Birth). b.current) opened.birth);
    }
