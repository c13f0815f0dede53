use Rattle.std.proofs.Common.{◌≡◌, take}
use Rattle.std.specs.List.{count_by}
use Rattle.pic_report.specs.declared.view.FiberView.{FiberView}
use Rattle.pic_report.specs.Report.{is_suspended}
use Rattle.pic_report.proofs.view.RunView.suspended_count.Given as goal

abbrev pub invariant-loop-fiber : goal.invariant-loop-fiber
invariant-loop-fiber l = l.count ≡ count_by (λ (fiber : FiberView). is_suspended fiber.state) (take l.fiber-index l.fiber-items)
