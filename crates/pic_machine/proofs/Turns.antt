-- How a turn is put together, call by call, and how the turns of a port that is alone stand in order.
use Rattle.std.proofs.Common.{◌≡◌, ℕ, ◌≤◌, inl, inr, true, false, Option, Some, None, List, [], ◌∷◌, ◌++◌, refl, sym, ap, subst, ◌∙◌, append_assoc, append-nil, arith}
use Rattle.std.proofs.lemmas.Grind.{flat_map-append}
use Rattle.pic_machine.specs.declared.entry.Call.TheVariants as call
use Rattle.pic_machine.specs.declared.entry.Reply.TheVariants as reply
use Rattle.pic_machine.specs.Happened.{Happened}
use Rattle.pic_machine.specs.History.{event}
use Rattle.pic_machine.specs.Log.{Others, is_turn, log}
use Rattle.pic_machine.specs.Order.{GoesOn, InOrder, IsOwn, IsTurn, Stops, readied, readied_by, turn}
use Rattle.pic_machine.specs.Sight.{Carry, Sight, Holds, fiber_of}
use Rattle.pic_machine.specs.Lending.{Began, Grown, Later, Lent, Made, Rose, Spared}
use Rattle.pic_machine.specs.Turning.{Adds, Grew, Stopped, Went}
use Rattle.pic_machine.proofs.Lists.{each-append}
use Rattle.pic_machine.proofs.Onward.{log_made}
use Rattle.pic_machine.proofs.Staying.{log_stays}

-- ---- counts and lines

pub rose_from : (a b c : ℕ) → a ≤ b → Rose b c → Rose a c
rose_from a b c below (inl more) = inl (omega arith)
rose_from a b c below (inr most) = inr most

pub readied-append : (xs ys : List Happened) → readied (xs ++ ys) ≡ readied xs ++ readied ys
readied-append xs ys = flat_map-append (λ (h : Happened). readied_by h.entry.fiber h.entry.call h.entry.reply) xs ys

pub Adds-nil : (line : Option (List ℕ)) → Adds line line []
Adds-nil None = tt
Adds-nil (Some told) = (told, refl, sym (append-nil told))

pub Adds-trans : (a b c : Option (List ℕ)) (xs ys : List ℕ) → Adds a b xs → Adds b c ys → Adds a c (xs ++ ys)
Adds-trans a b None xs ys p q = tt
Adds-trans a None (Some z) xs ys p q = absurd (let none : None ≡ Some q.0 = q.1 in cc)
Adds-trans a (Some y) (Some z) xs ys p q =
    let same : y ≡ q.0 = (let e : Some y ≡ Some q.0 = q.1 in cc) in
    (p.0, p.1, q.2 ∙ (ap (λ (w : List ℕ). w ++ ys) (sym same ∙ p.2) ∙ append_assoc p.0 xs ys))

-- ---- the front

pub Later-trans : {S : Type 0} (a b c : Sight S) (xs ys : List Happened) → Later a b xs → Later b c ys → Later a c (xs ++ ys)
Later-trans a b c xs ys p q = record {
  board = q.board ∙ p.board;
  origin = q.origin ∙ p.origin;
  share = q.share ∙ p.share;
  alone = q.alone ∙ p.alone;
  front = q.front ∙ (ap (λ (zs : List Happened). zs ++ ys) p.front ∙ append_assoc a.front xs ys);
  steady = omega (arith, p.steady, q.steady);
}

-- nothing happened
pub grew_same : {S : Type 0} (a : Sight S) (f : ℕ) → Grew a a f []
grew_same a f = record {
  more = [];
  later = record { board = refl; origin = refl; share = refl; alone = refl; front = sym (append-nil a.front); steady = omega arith };
  own = tt;
  log = sym (append-nil (log a.front f));
  alone = λ alone. refl;
}

-- the fiber's own entry was made
pub grew_made : {S : Type 0} (a b : Sight S) (f : ℕ) (h : Happened) → Made a b h → h.entry.fiber ≡ f → is_turn h.entry.call ≡ false → Grew a b f (h ∷ [])
grew_made a b f h made mine within = record {
  more = made.others ++ h ∷ [];
  later = made.later;
  own = (record { by = mine; within = within }, tt);
  log = ap (λ (zs : List Happened). log zs f) (made.later.front ∙ sym (append_assoc a.front made.others (h ∷ [])))
      ∙ log_made a.front made.others h f (subst (λ (g : ℕ). Others g made.others) mine made.not_mine) mine within;
  alone = λ alone. ap (λ (zs : List Happened). zs ++ h ∷ []) (made.none alone);
}

-- others made what they made, and the fiber nothing
pub grew_others : {S : Type 0} (a b : Sight S) (f : ℕ) (grown : Grown a b) → Others f grown.others → Grew a b f []
grew_others a b f grown apart = record {
  more = grown.others;
  later = grown.later;
  own = tt;
  log = ap (λ (zs : List Happened). log zs f) grown.later.front ∙ (log_stays a.front grown.others f apart ∙ sym (append-nil (log a.front f)));
  alone = grown.none;
}

pub Grew-trans : {S : Type 0} (a b c : Sight S) (f : ℕ) (xs ys : List Happened) → Grew a b f xs → Grew b c f ys → Grew a c f (xs ++ ys)
Grew-trans a b c f xs ys p q = record {
  more = p.more ++ q.more;
  later = Later-trans a b c p.more q.more p.later q.later;
  own = each-append (IsOwn f) xs ys p.own q.own;
  log = q.log ∙ (ap (λ (zs : List Happened). zs ++ ys) p.log ∙ append_assoc (log a.front f) xs ys);
  alone = λ alone. ap (λ (zs : List Happened). zs ++ q.more) (p.alone alone) ∙ ap (λ (zs : List Happened). xs ++ zs) (q.alone (p.later.alone ∙ alone));
}

-- ---- a turn under way

-- it begins
pub went_none : {S : Type 0} (p : Sight S) (a : Carry S) (line : Option (List ℕ)) → Holds p a → Went p p a a line line
went_none p a line holds = record { going = []; grew = grew_same p (fiber_of a); on = tt; line = Adds-nil line; holds = holds; number = refl }

pub same_fiber : {S : Type 0} (a b : Carry S) → b.number ≡ a.number → fiber_of b ≡ fiber_of a
same_fiber {S} a b same = ap (λ (n : Option ℕ). fiber_of (record a { number = n })) same

module _ {S : Type 0} (p q r : Sight S) (a b c : Carry S) (start now later : Option (List ℕ)) where
  -- one more part of it
  pub Went-trans : Went p q a b start now → Went q r b c now later → Went p r a c start later
  Went-trans before next = record {
    going = before.going ++ next.going;
    grew = Grew-trans p q r (fiber_of a) before.going next.going before.grew (subst (λ (f : ℕ). Grew q r f next.going) (same_fiber a b before.number) next.grew);
    on = each-append GoesOn before.going next.going before.on next.on;
    line = subst (Adds start later) (sym (readied-append before.going next.going)) (Adds-trans start now later (readied before.going) (readied next.going) before.line next.line);
    holds = next.holds;
    number = next.number ∙ before.number;
  }

module _ {S : Type 0} (p q : Sight S) (a b : Carry S) (now later : Option (List ℕ)) where
  -- a call that made an entry, and the line got what it made ready
  pub went_lent : (h : Happened) → Lent p q a b h → h.entry.fiber ≡ fiber_of a → is_turn h.entry.call ≡ false → GoesOn h → Adds now later (readied (h ∷ [])) → Went p q a b now later
  went_lent h lent mine within on line = record {
    going = h ∷ [];
    grew = grew_made p q (fiber_of a) h lent.made mine within;
    on = (on, tt);
    line = line;
    holds = lent.holds;
    number = lent.number;
  }

module _ {S : Type 0} (p q : Sight S) (a b : Carry S) (now : Option (List ℕ)) where
  -- a call that was refused
  pub went_spared : Spared p q a b → Went p q a b now now
  went_spared spared = record {
    going = [];
    grew = grew_others p q (fiber_of a) spared.kept.grown spared.not_mine;
    on = tt;
    line = Adds-nil now;
    holds = spared.holds;
    number = spared.same.number;
  }

-- ---- a turn that is over

module _ {S : Type 0} (p q r : Sight S) (a b : Carry S) (start now later : Option (List ℕ)) (How : Happened → Type 0) where
  -- its last entry was made, and the port has the body back
  pub went_stopped : (h : Happened) → Went p q a b start now → Made q r h → h.entry.fiber ≡ fiber_of b → is_turn h.entry.call ≡ false → Stops h → How h → Adds now later (readied (h ∷ [])) → r.out ≡ None
      → Stopped p r (fiber_of a) start later How
  went_stopped h before made mine within last how line out = record {
    going = before.going;
    final = h;
    grew = Grew-trans p q r (fiber_of a) before.going (h ∷ []) before.grew (grew_made q r (fiber_of a) h made (mine ∙ same_fiber a b before.number) within);
    on = before.on;
    last = last;
    is = how;
    line = subst (Adds start later) (sym (readied-append before.going (h ∷ []))) (Adds-trans start now later (readied before.going) (readied (h ∷ [])) before.line line);
    out = out;
    legal = made.legal;
  }

-- ---- the order of turns

-- on a port that is alone, a claim and the turn that follows are the next turn in the order, and the line,
-- which was the rest of the ready list, is the ready list again
pub turn_in_order : {S : Type 0} (Picks : List ℕ → Type 0) (p q r : Sight S) (f : ℕ) (before behind line : List ℕ) (How : Happened → Type 0) → p.alone ≡ true → InOrder Picks p.front (before ++ f ∷ behind) → Picks before
    → Began p q (event f call.Turn reply.Plain) → Stopped q r f (Some (before ++ behind)) (Some line) How → InOrder Picks r.front line
turn_in_order Picks p q r f before behind line How alone order picks began stopped =
    let own = stopped.going ++ stopped.final ∷ [] in
    let first : q.front ≡ p.front ++ event f call.Turn reply.Plain ∷ [] = began.later.front ∙ ap (λ (zs : List Happened). p.front ++ (zs ++ event f call.Turn reply.Plain ∷ [])) (began.none alone) in
    let rest : stopped.grew.more ≡ own = stopped.grew.alone (began.later.alone ∙ alone) in
    let front : r.front ≡ p.front ++ event f call.Turn reply.Plain ∷ own =
    stopped.grew.later.front ∙ (ap (λ (zs : List Happened). q.front ++ zs) rest ∙ (ap (λ (zs : List Happened). zs ++ own) first ∙ append_assoc p.front (event f call.Turn reply.Plain ∷ []) own)) in
    let is : IsTurn f own = record { going = stopped.going; final = stopped.final; is = refl; own = stopped.grew.own; on = stopped.on; last = stopped.last } in
    let told : Some (before ++ behind) ≡ Some stopped.line.0 = stopped.line.1 in
    let same : before ++ behind ≡ stopped.line.0 = cc in
    let lines : line ≡ (before ++ behind) ++ readied own = stopped.line.2 ∙ ap (λ (w : List ℕ). w ++ readied own) (sym same) in
    subst (λ (zs : List Happened). InOrder Picks zs line) (sym front)
    (subst (λ (w : List ℕ). InOrder Picks (p.front ++ event f call.Turn reply.Plain ∷ own) w) (sym lines) (turn before behind own order picks is))
