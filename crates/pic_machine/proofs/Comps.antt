-- While no call makes a computation, there are as many as at first.
use Rattle.std.proofs.Common.{◌≡◌, List, [], ◌∷◌, length, refl, ◌∙◌}
use Rattle.pic_machine.specs.Happened.{Happened}
use Rattle.pic_machine.specs.State.{State}
use Rattle.pic_machine.specs.Step.{after}
use Rattle.pic_machine.specs.History.{Origin, world_from, world}
use Rattle.pic_machine.proofs.Steps.{length-comps}

comps_from : (w : State) (hs : List Happened) → length (world_from w hs).comps ≡ length w.comps
comps_from w [] = refl
comps_from w (h ∷ hs) = comps_from (after w h.entry.fiber h.entry.call) hs ∙ length-comps w h.entry.call

pub comps_stay : (origin : Origin) (hs : List Happened) → length (world origin hs).comps ≡ length origin.world.comps
comps_stay origin hs = comps_from origin.world hs
