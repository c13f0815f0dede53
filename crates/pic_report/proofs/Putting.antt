-- What is written piece by piece.
use Rattle.std.proofs.Common.{◌≡◌, ℕ, ◌≤◌, inl, inr, Option, Some, None, List, [], ◌++◌, length, take, drop, Result, Ok, Err, refl, sym, ap, subst, ◌∙◌, arith, append_assoc, append-nil, take-append-drop}
use Rattle.std.proofs.lemmas.Grind.{flat_map-append}
use Rattle.std.specs.Io.KnownBytes.{Appends, Keeps}
use Rattle.std.proofs.KnownBytes.{Appends-trans, Appends-nil}
use Rattle.pic_io.specs.Faults.{Rose}
use Rattle.pic_io.specs.declared.sink.SinkRefusal.{SinkRefusal}
use Rattle.pic_io.specs.declared.sink.SinkRefusal.TheVariants as sink
use Rattle.pic_report.specs.declared.refusal.ReportRefusal.{ReportRefusal}
use Rattle.pic_report.specs.declared.refusal.ReportRefusal.TheVariants.{WriteFault}
use Rattle.pic_report.specs.Refusals.{refusal_of}
use Rattle.pic_report.specs.Report.{joined}
use Rattle.pic_report.specs.Output.{Puts}

-- a front of the text was taken, and this is left
pub record IsPut (before now : Option (List ℕ)) (faults faults_now : ℕ) (text rest : List ℕ) : Type 0 where
  pub front : List ℕ
  pub is : text ≡ front ++ rest
  pub taken : Appends before now front
  pub steady : faults ≤ faults_now

pub put_none : (before : Option (List ℕ)) (faults : ℕ) (text : List ℕ) → IsPut before before faults faults text text
put_none before faults text = record { front = []; is = refl; taken = Appends-nil before; steady = omega arith }

pub put_on : (before now later : Option (List ℕ)) (faults faults_now faults_later : ℕ) (text rest : List ℕ) (n : ℕ) → IsPut before now faults faults_now text rest → n ≤ length rest
    → Appends now later (take n rest) → faults_now ≤ faults_later → IsPut before later faults faults_later text (drop n rest)
put_on before now later faults faults_now faults_later text rest n put within appends steady = record {
  front = put.front ++ take n rest;
  is = put.is ∙ (ap (λ (w : List ℕ). put.front ++ w) (sym (take-append-drop n rest)) ∙ sym (append_assoc put.front (take n rest) (drop n rest)));
  taken = Appends-trans before now later put.front (take n rest) put.taken appends;
  steady = omega (arith, put.steady);
}

appends_keeps : (before now later : Option (List ℕ)) (bs : List ℕ) → Appends before now bs → Keeps now later → Appends before later bs
appends_keeps None now later bs p q = tt
appends_keeps (Some x) None later bs p q = absurd p
appends_keeps (Some x) (Some y) None bs p q = absurd q
appends_keeps (Some x) (Some y) (Some z) bs p q = q ∙ p

rose_from : (a b c : ℕ) → a ≤ b → Rose b c → Rose a c
rose_from a b c below (inl more) = inl (omega arith)
rose_from a b c below (inr most) = inr most

failed_so : (refusal : SinkRefusal) → refusal_of refusal ≡ WriteFault → refusal ≡ sink.Failed
failed_so sink.Failed is = refl
failed_so sink.Memory is = absurd cc

-- a piece was refused
pub put_refused : (before now later : Option (List ℕ)) (faults faults_now faults_later : ℕ) (text rest : List ℕ) (refusal : SinkRefusal) → IsPut before now faults faults_now text rest → Keeps now later
    → faults_now ≤ faults_later → (refusal ≡ sink.Failed → Rose faults_now faults_later) → Puts before later faults faults_later text (Err (refusal_of refusal))
put_refused before now later faults faults_now faults_later text rest refusal put keeps steady rose = record {
  whole = tt;
  refused = record { front = put.front; back = rest; is = put.is; taken = appends_keeps before now later put.front put.taken keeps };
  fault = λ is. rose_from faults faults_now faults_later put.steady (rose (failed_so refusal (let same : refusal_of refusal ≡ WriteFault = cc in same)));
  steady = omega (arith, put.steady);
}

pub put_whole : (before now : Option (List ℕ)) (faults faults_now : ℕ) (text rest : List ℕ) → IsPut before now faults faults_now text rest → rest ≡ [] → Puts before now faults faults_now text (Ok tt)
put_whole before now faults faults_now text rest put none = record {
  whole = subst (Appends before now) (sym (put.is ∙ (ap (λ (w : List ℕ). put.front ++ w) none ∙ append-nil put.front))) put.taken;
  refused = tt;
  fault = λ is. absurd cc;
  steady = put.steady;
}

-- ---- one text after the other

module _ {before now later : Option (List ℕ)} {faults faults_now faults_later : ℕ} where
  -- what was put of a text, after what was put before it
  pub puts_then : {text rest : List ℕ} (first behind : List ℕ) (e : ReportRefusal) → IsPut before now faults faults_now text rest → rest ≡ first ++ behind → Puts now later faults_now faults_later first (Err e)
      → Puts before later faults faults_later text (Err e)
  puts_then first behind e put is puts = record {
    whole = tt;
    refused = record {
      front = put.front ++ puts.refused.front;
      back = puts.refused.back ++ behind;
      is = put.is ∙ (ap (λ (w : List ℕ). put.front ++ w) (is ∙ (ap (λ (w : List ℕ). w ++ behind) puts.refused.is ∙ append_assoc puts.refused.front puts.refused.back behind)) ∙ sym (append_assoc put.front puts.refused.front (puts.refused.back ++ behind)));
      taken = Appends-trans before now later put.front puts.refused.front put.taken puts.refused.taken;
    };
    fault = λ same. rose_from faults faults_now faults_later put.steady (puts.fault same);
    steady = omega (arith, put.steady, puts.steady);
  }

  pub puts_on : {text rest : List ℕ} (first behind : List ℕ) → IsPut before now faults faults_now text rest → rest ≡ first ++ behind → Puts now later faults_now faults_later first (Ok tt)
      → IsPut before later faults faults_later text behind
  puts_on first behind put is puts = record {
    front = put.front ++ first;
    is = put.is ∙ (ap (λ (w : List ℕ). put.front ++ w) is ∙ sym (append_assoc put.front first behind));
    taken = Appends-trans before now later put.front first put.taken puts.whole;
    steady = omega (arith, put.steady, puts.steady);
  }

  -- the last text, whatever came of it
  pub puts_last : {text rest : List ℕ} (r : Result (Unit {0}) ReportRefusal) → IsPut before now faults faults_now text rest → Puts now later faults_now faults_later rest r → Puts before later faults faults_later text r
  puts_last {rest = rest} (Err e) put puts = puts_then rest [] e put (sym (append-nil rest)) puts
  puts_last {rest = rest} (Ok u) put puts = put_whole before later faults faults_later _ [] (puts_on rest [] put (sym (append-nil rest)) puts) refl

pub joined-append : (xs ys : List (List ℕ)) → joined (xs ++ ys) ≡ joined xs ++ joined ys
joined-append xs ys = flat_map-append (λ (line : List ℕ). line) xs ys
