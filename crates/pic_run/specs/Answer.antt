-- What the top call has made ready to write. Only its own contracts cite these words.
use Rattle.std.specs.Prelude.{◌≡◌, ℕ, List, Result, Ok, Err}
use Rattle.std.specs.Arc.{arc_value}
use Rattle.std.specs.String.{string_bytes}
use Rattle.pic_run.specs.declared.answer.Answer.{Answer}
use Rattle.pic_run.specs.declared.answer.Answer.TheVariants.{Text, Made, Report}
use Rattle.pic_report.specs.declared.refusal.ReportRefusal.{ReportRefusal}
use Rattle.pic_report.specs.declared.refusal.ReportRefusal.TheVariants as refusal
use Rattle.pic_report.specs.View.{view_text}
use Rattle.script_tree.specs.declared.refusal.Refused.{Refused as Refusal}
use Rattle.pic_run.specs.Refusal.{refusal_text}
use Rattle.pic_run.specs.declared.status.Status.{Status}
use Rattle.pic_run.specs.declared.status.Status.TheVariants.{Refused, WriteFault, OutOfMemory}

abbrev pub answer_text : Answer → List ℕ
answer_text (Text text status) = text.now
answer_text (Made text status) = string_bytes text
answer_text (Report made) = view_text (arc_value made.program) made.view

abbrev pub answer_status : Answer → Status
answer_status (Text text status) = status
answer_status (Made text status) = status
answer_status (Report made) = made.status

-- the status of a call whose text was written so
abbrev pub ended_status : Result (Unit {0}) ReportRefusal → Status → Status
ended_status (Ok u) good = good
ended_status (Err refusal.WriteFault) good = WriteFault
ended_status (Err refusal.Memory) good = OutOfMemory

-- the answer is the line that tells the refusal
pub record Tells (answer : Answer) (r : Refusal) : Type 0 where
  pub text : answer_text answer ≡ refusal_text r
  pub status : answer_status answer ≡ Refused
