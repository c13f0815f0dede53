-- What a sink has taken of a text, and why no more.
use Rattle.std.specs.Prelude.{◌≡◌, ℕ, ◌≤◌, ◌++◌, Option, List, Result, OnOk, OnErr, IsErrOf}
use Rattle.std.specs.Io.KnownBytes.{Appends}
use Rattle.pic_io.specs.Faults.{Rose}
use Rattle.pic_report.specs.declared.refusal.ReportRefusal.{ReportRefusal}
use Rattle.pic_report.specs.declared.refusal.ReportRefusal.TheVariants.{WriteFault}

-- the sink took a front of the text
pub record AppendsFront (before now : Option (List ℕ)) (text : List ℕ) : Type 0 where
  pub front : List ℕ
  pub back : List ℕ
  pub is : text ≡ front ++ back
  pub taken : Appends before now front

-- all of the text was taken; or a front of it, and the sink's faults rose or memory was wanted
pub record Puts (before now : Option (List ℕ)) (faults faults_now : ℕ) (text : List ℕ)
    (result : Result (Unit {0}) ReportRefusal) : Type 0 where
  pub whole : OnOk result (Appends before now text)
  pub refused : OnErr result (AppendsFront before now text)
  pub fault : IsErrOf result WriteFault → Rose faults faults_now
  pub steady : faults ≤ faults_now
