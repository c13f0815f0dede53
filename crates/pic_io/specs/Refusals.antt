-- What the refusals of files and sinks print.
use Rattle.std.specs.Prelude.{ℕ, List, codes}
use Rattle.pic_io.specs.declared.files.ReadRefusal.{ReadRefusal}
use Rattle.pic_io.specs.declared.files.ReadRefusal.TheVariants as read
use Rattle.pic_io.specs.declared.sink.SinkRefusal.{SinkRefusal}
use Rattle.pic_io.specs.declared.sink.SinkRefusal.TheVariants as sink

-- why a file gave no content
abbrev pub read_refusal_text : ReadRefusal → List ℕ
read_refusal_text read.TooLarge = codes "the file is too large"
read_refusal_text read.Failed = codes "the file could not be read"
read_refusal_text read.Memory = codes "out of memory"

-- why a sink took nothing
abbrev pub sink_refusal_text : SinkRefusal → List ℕ
sink_refusal_text sink.Failed = codes "the sink took nothing"
sink_refusal_text sink.Memory = codes "out of memory"
