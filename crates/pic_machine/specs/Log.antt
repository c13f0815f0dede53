-- What one fiber did in a history.
use Rattle.std.specs.Prelude.{◌≢◌, ℕ, Bool, true, false, ◌==◌, ◌&&◌, not, List, map, filter}
use Rattle.std.specs.List.{AllByRecursion}
use Rattle.pic_machine.specs.declared.entry.Call.{Call}
use Rattle.pic_machine.specs.declared.entry.Call.TheVariants.{Turn, NewTrigger, NewPlace, Look}
use Rattle.pic_machine.specs.declared.entry.Entry.{Entry}
use Rattle.pic_machine.specs.declared.entry.Reply.{Reply}
use Rattle.pic_machine.specs.declared.entry.Reply.TheVariants.{Made}
use Rattle.pic_machine.specs.Happened.{Happened}

abbrev pub is_turn : Call → Bool
is_turn Turn = true
is_turn _ = false

-- an entry of fiber f that is no turn
abbrev pub is_logged : ℕ → Happened → Bool
is_logged f h = (h.entry.fiber == f) && not (is_turn h.entry.call)

-- what fiber f did, in order; that its turns began is left out
abbrev pub log : List Happened → ℕ → List Happened
log hs f = filter (is_logged f) hs

abbrev pub is_look : Call → Bool
is_look (Look t) = true
is_look _ = false

-- a marked entry fulfils what its fiber owed, unless it is a look at a trigger, since nothing else is
-- allowed then within a turn, as `DutiesAllow` says
abbrev pub is_due : Happened → Bool
is_due h = h.owing && not (is_look h.entry.call)

-- a fiber's own log: its log without the entries by which it fulfilled what it owed, so that what is left
-- is what its text asks for
abbrev pub own : List Happened → List Happened
own hs = filter (λ h. not (is_due h)) hs

-- what a report leaves out: that a turn began, and that a trigger or a place was made
abbrev pub is_hidden : Call → Reply → Bool
is_hidden NewTrigger (Made n) = true
is_hidden NewPlace (Made n) = true
is_hidden call reply = is_turn call

-- the entries that a report shows
abbrev pub is_visible : Happened → Bool
is_visible h = not (is_hidden h.entry.call h.entry.reply)

abbrev pub visible : List Happened → List Entry
visible hs = map (λ h. h.entry) (filter is_visible hs)

-- the entries of all that happened, without the births
abbrev pub entries : List Happened → List Entry
entries hs = map (λ h. h.entry) hs

-- none of the entries is fiber f's
abbrev pub Others : ℕ → List Happened → Type 0
Others f hs = AllByRecursion (λ h. h.entry.fiber ≢ f) hs
