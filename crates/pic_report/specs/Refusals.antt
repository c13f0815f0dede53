-- Which refusal of a text a sink's refusal is. Only the conversion of the one into the other cites this
-- word, and no public function's contract.
use Rattle.pic_io.specs.declared.sink.SinkRefusal.{SinkRefusal}
use Rattle.pic_io.specs.declared.sink.SinkRefusal.TheVariants as sink
use Rattle.pic_report.specs.declared.refusal.ReportRefusal.{ReportRefusal}
use Rattle.pic_report.specs.declared.refusal.ReportRefusal.TheVariants.{WriteFault, Memory}

abbrev pub refusal_of : SinkRefusal → ReportRefusal
refusal_of sink.Failed = WriteFault
refusal_of sink.Memory = Memory
