-- From what was put to a sink that gathers, to what the sink behind it has taken at the end of a call.
use Rattle.std.proofs.Common.{◌≡◌, ℕ, ◌<◌, ◌≤◌, ◌⊎◌, inl, inr, Option, Some, None, List, [], Result, Ok, Err, OnOk, refl, sym, ap, subst, ◌∙◌, append-nil, le_trans, eq-or-lt_of_le, arith}
use Rattle.std.specs.Prelude.{IsErrOf}
use Rattle.std.specs.Io.KnownBytes.{Appends, append_known}
use Rattle.std.proofs.KnownBytes.{Appends-kept}
use Rattle.pic_io.specs.declared.sink.SinkRefusal.{SinkRefusal}
use Rattle.pic_io.specs.declared.sink.SinkRefusal.TheVariants as sink
use Rattle.pic_io.specs.Faults.{Rose}
use Rattle.pic_io.specs.Handed.{HandsOn}
use Rattle.pic_io.proofs.Handed.{HandsOn-whole}
use Rattle.pic_run.specs.declared.status.Status.{Status}
use Rattle.pic_run.specs.Promise.{Output, whole, fault, memory, Serves, ServesAtMost, TookAtMost, TookNoMore, finished_status}

-- ---- counts

rose_after : (a b c : ℕ) → a ≤ b → Rose b c → Rose a c
rose_after a b c steady (inl less) = inl (omega (arith, steady, less))
rose_after a b c steady (inr full) = inr full

rose_before : (a b c : ℕ) → a ≤ b → b ≤ c → Rose a b → Rose a c
rose_before a b c first steady (inl less) = inl (omega (arith, steady, less))
rose_before a b c first steady (inr full) = by_order (eq-or-lt_of_le (le_trans first steady)) where
  by_order : (a ≡ c) ⊎ (a < c) → Rose a c
  by_order (inl same) = inr (omega (arith, same, full, first, steady))
  by_order (inr less) = inl less

-- ---- bytes

-- what the two together have taken of a text
handed : (a m n : Option (List ℕ)) (gathered left text : List ℕ) → HandsOn m n gathered left → Appends a (append_known m gathered) text → Appends a (append_known n left) text
handed a m n gathered left text hands took = Appends-kept a (append_known m gathered) (append_known n left) text took (HandsOn-whole m n gathered left hands)

known_nil : (a : Option (List ℕ)) → append_known a [] ≡ a
known_nil None = refl
known_nil (Some x) = ap Some (append-nil x)

-- what the sink that gathers told by the end of a call
abbrev pub gathered_output : Option (List ℕ) → Option (List ℕ) → List ℕ → ℕ → ℕ → Output
gathered_output a m gathered before between = record { before = a; now = append_known m gathered; faults = before; faults_now = between }

-- a call whose text was gathered, after which what was gathered was handed on
module _ (D : List ℕ → Status → Type 0) (a m n : Option (List ℕ)) (gathered left : List ℕ) (hands : HandsOn m n gathered left)
    (before between after : ℕ) (steady : before ≤ between) (goes_on : between ≤ after) where
  at_most : TookNoMore D a (append_known m gathered) → TookAtMost D a n
  at_most (inl none) = record { held_back = left; took = inl (handed a m n gathered left [] hands none) }
  at_most (inr took) = record {
    held_back = left;
    took = inr (record {
      text = took.text;
      status = took.status;
      due = took.due;
      front = record { front = took.front.front; back = took.front.back; is = took.front.is; taken = handed a m n gathered left took.front.front hands took.front.taken };
    });
  }

  no_more : {status : Status} → Serves D (gathered_output a m gathered before between) status → TookNoMore D a (append_known m gathered)
  no_more (whole {text} {status} due appends) = inr (record { text = text; status = status; due = due; front = record { front = text; back = []; is = sym (append-nil text); taken = appends } })
  no_more (fault rose more) = more
  no_more (memory more) = more

  -- all of it was handed on
  all_handed : {status : Status} → left ≡ [] → Serves D (gathered_output a m gathered before between) status → ServesAtMost D (record { before = a; now = n; faults = before; faults_now = after }) status
  all_handed none (whole {text} due appends) =
      whole due (subst (λ (b : Option (List ℕ)). Appends a b text) (ap (append_known n) none ∙ known_nil n) (handed a m n gathered left text hands appends))
  all_handed none (fault rose more) = fault (rose_before before between after steady goes_on rose) (at_most more)
  all_handed none (memory more) = memory (at_most more)

  pub finishes : (handing : Result (Unit {0}) SinkRefusal) (called : Status) → OnOk handing (left ≡ []) → (IsErrOf handing sink.Failed → Rose between after) → Serves D (gathered_output a m gathered before between) called
      → ServesAtMost D (record { before = a; now = n; faults = before; faults_now = after }) (finished_status handing called)
  finishes (Ok u) called all failed serves = all_handed all serves
  finishes (Err sink.Failed) called all failed serves = fault (rose_after before between after steady (failed refl)) (at_most (no_more serves))
  finishes (Err sink.Memory) called all failed serves = memory (at_most (no_more serves))
