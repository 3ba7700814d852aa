-- The text of a sink in memory, and which of its calls fail.
use Rattle.std.specs.Prelude.{◌≡◌, ℕ, List, []}
use Rattle.or_host.specs.Schedule.{IsStart}
use Rattle.or_host.specs.declared.schedule.Schedule.{Schedule}
use Rattle.or_host.specs.declared.mem_sink.MemSink.{MemSink}

abbrev pub text_of : MemSink → List ℕ
text_of s = s.text.items

abbrev pub calls_of : MemSink → Schedule
calls_of s = s.schedule

pub record IsNewSink (fail : List ℕ) (s : MemSink) : Type 0 where
  pub empty : text_of s ≡ []
  pub start : IsStart fail (calls_of s)
