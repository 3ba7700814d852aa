-- The text of a sink that never fails, and how many calls were made.
use Rattle.std.specs.Prelude.{ℕ, List}
use Rattle.or_host.specs.declared.sure_sink.SureSink.{SureSink}

abbrev pub sure_text : SureSink → List ℕ
sure_text s = s.text.items

abbrev pub sure_puts : SureSink → ℕ
sure_puts s = s.puts
