-- How a history that is stored as entries and births grows, and what of it each of them tells.
use Rattle.std.proofs.Common.{◌≡◌, ◌+◌, ℕ, suc, Bool, true, false, cond, Option, Some, None, List, [], ◌∷◌, ◌++◌, length, slice_get, drop, filter, refl, sym, ap, subst, ◌∙◌, append-nil, arith}
use Rattle.std.proofs.lemmas.List.{length-append}
use Rattle.std.proofs.lemmas.List.Elements.{filter-append}
use Rattle.pic_machine.specs.declared.birth.Birth.{Birth}
use Rattle.pic_machine.specs.declared.entry.Call.{Call}
use Rattle.pic_machine.specs.declared.entry.Call.TheVariants.{Fork}
use Rattle.pic_machine.specs.declared.entry.Entry.{Entry}
use Rattle.pic_machine.specs.declared.entry.Reply.{Reply}
use Rattle.pic_machine.specs.declared.entry.Reply.TheVariants.{Made}
use Rattle.pic_machine.specs.Duty.{is_owing}
use Rattle.pic_machine.specs.Happened.{Happened}
use Rattle.pic_machine.specs.Sight.{Carry}
use Rattle.pic_machine.specs.State.{State, owed_of}
use Rattle.pic_machine.specs.Step.{MakesNoFiber, after}
use Rattle.pic_machine.specs.History.{event, forked, happening, world_from}
use Rattle.pic_machine.specs.Log.{entries}
use Rattle.port_plain.specs.Shown.{Shown, births_in, made_of, with_entry}
use Rattle.port_plain.specs.Stored.{IsStored}
use Rattle.port_plain.specs.Paired.{HasEachBirth, is_making, makes_fiber, paired}

-- ---- which entries made a fiber

pub making_none : (call : Call) (reply : Reply) → MakesNoFiber call → is_making call reply ≡ false
making_none (Fork text value) reply none = absurd none
making_none _ reply none = refl

pub making_full : (text value : ℕ) (reply : Reply) → None ≡ made_of reply → is_making (Fork text value) reply ≡ false
making_full text value (Made g) none = absurd (let e : None ≡ Some g = none in cc)
making_full text value _ none = refl

pub making_one : (text value n : ℕ) (reply : Reply) → Some n ≡ made_of reply → (is_making (Fork text value) reply ≡ true) × (reply ≡ Made n)
making_one text value n (Made g) made = (refl, let e : Some n ≡ Some g = made in cc)
making_one text value n _ made = absurd (let e : Some n ≡ None = made in cc)

-- ---- one entry more

-- the mark of an entry behind others
abbrev mark_behind : State → List Happened → Entry → Bool
mark_behind w hs e = is_owing (owed_of (world_from w hs) e.fiber) e.call

-- the first of what is stored, with its birth and its mark
abbrev first : State → Entry → List Birth → Happened
first w e births = record { entry = e; birth = cond (makes_fiber e) (slice_get births 0) None; owing = mark_behind w [] e }

-- the births behind those of the first entry
abbrev later : Entry → List Birth → List Birth
later e births = cond (makes_fiber e) (drop 1 births) births

pub paired-event : (w : State) (es : List Entry) (births : List Birth) (e : Entry) → makes_fiber e ≡ false
    → paired w (es ++ e ∷ []) births ≡ paired w es births ++ record { entry = e; birth = None; owing = mark_behind w (paired w es births) e } ∷ []
paired-event w [] births e none = rw none refl
paired-event w (x ∷ es) births e none = ap (λ (hs : List Happened). first w x births ∷ hs) (paired-event (after w x.fiber x.call) es (later x births) e none)

pub births-event : (es : List Entry) (births : List Birth) (e : Entry) → makes_fiber e ≡ false → HasEachBirth es births → HasEachBirth (es ++ e ∷ []) births
births-event es births e none each = each ∙ sym (ap (λ (xs : List Entry). length xs) (filter-append makes_fiber es (e ∷ []) ∙ rw none (append-nil (filter makes_fiber es))))

pub births-forked : (es : List Entry) (births : List Birth) (e : Entry) (birth : Birth) → makes_fiber e ≡ true → HasEachBirth es births → HasEachBirth (es ++ e ∷ []) (births ++ birth ∷ [])
births-forked es births e birth made each =
    let grown : filter makes_fiber (es ++ e ∷ []) ≡ filter makes_fiber es ++ e ∷ [] = filter-append makes_fiber es (e ∷ []) ∙ rw made refl in
    length-append births (birth ∷ []) ∙ (ap (λ (n : ℕ). n + 1) each ∙ (sym (length-append (filter makes_fiber es) (e ∷ [])) ∙ sym (ap (λ (xs : List Entry). length xs) grown)))

-- what the entry of a fork and its birth add
abbrev IsForked : State → List Entry → List Birth → Entry → Birth → Type 0
IsForked w es births e birth =
    paired w (es ++ e ∷ []) (births ++ birth ∷ []) ≡ paired w es births ++ record { entry = e; birth = Some birth; owing = mark_behind w (paired w es births) e } ∷ []

module _ (x : Entry) (es : List Entry) where
  -- without the first entry there are as many births less as it made fibers
  one_less : (birth : Birth) (births : List Birth) → makes_fiber x ≡ true → HasEachBirth (x ∷ es) (birth ∷ births) → HasEachBirth es births
  one_less birth births made each =
      let all : suc (length births) ≡ suc (length (filter makes_fiber es)) = subst (λ (b : Bool). suc (length births) ≡ length (cond b (x ∷ filter makes_fiber es) (filter makes_fiber es))) made each in
      omega (arith, all)

  no_less : (births : List Birth) → makes_fiber x ≡ false → HasEachBirth (x ∷ es) births → HasEachBirth es births
  no_less births none each = subst (λ (b : Bool). length births ≡ length (cond b (x ∷ filter makes_fiber es) (filter makes_fiber es))) none each

  never_none : makes_fiber x ≡ true → HasEachBirth (x ∷ es) [] → ⊥
  never_none made each =
      let all : 0 ≡ suc (length (filter makes_fiber es)) = subst (λ (b : Bool). 0 ≡ length (cond b (x ∷ filter makes_fiber es) (filter makes_fiber es))) made each in
      omega (arith, all)

  -- the step of the lemma below
  forked_step : (w : State) (b : Bool) → makes_fiber x ≡ b → (births : List Birth) (e : Entry) (birth : Birth) → HasEachBirth (x ∷ es) births
      → ((bs : List Birth) → HasEachBirth es bs → IsForked (after w x.fiber x.call) es bs e birth) → IsForked w (x ∷ es) births e birth
  forked_step w false is births e birth each rest = rw is (ap (λ (hs : List Happened). record { entry = x; birth = None; owing = mark_behind w [] x } ∷ hs) (rest births (no_less births is each)))
  forked_step w true is [] e birth each rest = absurd (never_none is each)
  forked_step w true is (b ∷ births) e birth each rest = rw is (ap (λ (hs : List Happened). record { entry = x; birth = Some b; owing = mark_behind w [] x } ∷ hs) (rest births (one_less b births is each)))

  -- and that of the one behind it
  births_step : (w : State) (b : Bool) → makes_fiber x ≡ b → (births : List Birth) → HasEachBirth (x ∷ es) births
      → ((bs : List Birth) → HasEachBirth es bs → births_in (paired (after w x.fiber x.call) es bs) ≡ bs) → births_in (paired w (x ∷ es) births) ≡ births
  births_step w false is births each rest = rw is (rest births (no_less births is each))
  births_step w true is [] each rest = absurd (never_none is each)
  births_step w true is (b ∷ births) each rest = rw is (ap (λ (bs : List Birth). b ∷ bs) (rest births (one_less b births is each)))

pub paired-forked : (w : State) (es : List Entry) (births : List Birth) (e : Entry) (birth : Birth) → makes_fiber e ≡ true → HasEachBirth es births → IsForked w es births e birth
paired-forked w [] [] e birth made each = rw made refl
paired-forked w [] (b ∷ births) e birth made each = absurd (let none : suc (length births) ≡ 0 = each in omega (arith, none))
paired-forked w (x ∷ es) births e birth made each = forked_step x es w (makes_fiber x) refl births e birth each (λ bs of_rest. paired-forked (after w x.fiber x.call) es bs e birth made of_rest)

-- ---- what is stored, as the front tells it

pub entries-paired : (w : State) (es : List Entry) (births : List Birth) → entries (paired w es births) ≡ es
entries-paired w [] births = refl
entries-paired w (x ∷ es) births = ap (λ (xs : List Entry). x ∷ xs) (entries-paired (after w x.fiber x.call) es (later x births))

pub births_in-paired : (w : State) (es : List Entry) (births : List Birth) → HasEachBirth es births → births_in (paired w es births) ≡ births
births_in-paired w [] [] each = refl
births_in-paired w [] (b ∷ births) each = absurd (let none : suc (length births) ≡ 0 = each in omega (arith, none))
births_in-paired w (x ∷ es) births each = births_step x es w (makes_fiber x) refl births each (λ bs of_rest. births_in-paired (after w x.fiber x.call) es bs of_rest)

-- ---- the port, when more is stored

-- what was stored after an entry that made no fiber
module _ (w : State) (es more : List Entry) (births : List Birth) (f : ℕ) (call : Call) (reply : Reply) (is : more ≡ es ++ record { fiber = f; call = call; reply = reply } ∷ []) (none : is_making call reply ≡ false) where
  abbrev of_event : Entry
  of_event = record { fiber = f; call = call; reply = reply }

  pub event_front : paired w more births ≡ paired w es births ++ happening (mark_behind w (paired w es births) of_event) f call reply ∷ []
  event_front = ap (λ (xs : List Entry). paired w xs births) is ∙ paired-event w es births of_event none

  -- of a call that no duty asks for
  pub free_front : is_owing (owed_of (world_from w (paired w es births)) f) call ≡ false → paired w more births ≡ paired w es births ++ event f call reply ∷ []
  free_front free = event_front ∙ ap (λ (owing : Bool). paired w es births ++ happening owing f call reply ∷ []) free

  pub event_births : HasEachBirth es births → HasEachBirth more births
  event_births each = subst (λ (xs : List Entry). HasEachBirth xs births) (sym is) (births-event es births of_event none each)

-- and after the entry of a fork that made a fiber
module _ (w : State) (es more : List Entry) (births all : List Birth) (f text value n : ℕ) (reply : Reply) (birth : Birth) (is : more ≡ es ++ record { fiber = f; call = Fork text value; reply = reply } ∷ []) (are : all ≡ births ++ birth ∷ []) (made : Some n ≡ made_of reply) (each : HasEachBirth es births) where
  abbrev of_fork : Entry
  of_fork = record { fiber = f; call = Fork text value; reply = reply }

  pub forked_front : is_owing (owed_of (world_from w (paired w es births)) f) (Fork text value) ≡ false → birth.text ≡ text → birth.value ≡ value → paired w more all ≡ paired w es births ++ forked f n birth ∷ []
  forked_front free same_text same_value =
      let entry : of_fork ≡ (forked f n birth).entry = rw (same_text, same_value, (making_one text value n reply made).1) refl in
      ap (λ (xs : List Entry). paired w xs all) is ∙ (ap (λ (bs : List Birth). paired w (es ++ of_fork ∷ []) bs) are
      ∙ (paired-forked w es births of_fork birth (making_one text value n reply made).0 each
      ∙ (ap (λ (owing : Bool). paired w es births ++ record { entry = of_fork; birth = Some birth; owing = owing } ∷ []) free
      ∙ ap (λ (e : Entry). paired w es births ++ record { entry = e; birth = Some birth; owing = false } ∷ []) entry)))

  pub forked_births : HasEachBirth more all
  forked_births = rw (is, are) (births-forked es births of_fork birth (making_one text value n reply made).0 each)

-- the front grew by what happened, which the port tells
module _ {B : Type 0} (port : Shown B) (front : List Happened) (happened : Shown B → Happened) (grown : front ≡ port.front ++ happened port ∷ []) where
  pub shown_more : (now : Shown B) → port ≡ now → record port { front = front } ≡ with_entry now (happened now)
  shown_more now same = ap (λ (hs : List Happened). record port { front = hs }) grown ∙ ap (λ (q : Shown B). with_entry q (happened q)) same

  pub stored_more : {S : Type 0} (seen : B → Carry S) (fits : B → List Happened → Type 0) (w : State) (bodies : List (Option B)) (ticking : B) → IsStored seen fits (with_entry port (happened port)) w bodies ticking → IsStored seen fits (record port { front = front }) w bodies ticking
  stored_more seen fits w bodies ticking stored = subst (λ (hs : List Happened). IsStored seen fits (record port { front = hs }) w bodies ticking) (sym grown) stored
