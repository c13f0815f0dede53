use Rattle.std.proofs.Common.{◌≡◌, ◌+◌, ◌*◌, ◌-◌, ◌++◌, take, slice_get, flat_map, string_bytes}
use Rattle.script_tree.specs.Canon.{event_text, events_text}
use Rattle.script_tree.proofs.showing.+events.Given as goal

abbrev pub decreases-write_group : goal.decreases-write_group
decreases-write_group l = 3 * l.levels + 1

abbrev pub decreases-write_event : goal.decreases-write_event
decreases-write_event l = 3 * l.levels + 2

abbrev pub decreases-write_events : goal.decreases-write_events
decreases-write_events l = 3 * l.levels

-- the events so far were written
abbrev pub invariant-write_events-loop-place : goal.invariant-write_events-loop-place
invariant-write_events-loop-place l =
    string_bytes l.out ≡ string_bytes l.initial.out
    ++ flat_map (λ place. event_text (events_text (l.levels - 1) l.program (l.depth + 1)) l.program l.depth (slice_get l.program.events place)) (take l.place-index l.places)
