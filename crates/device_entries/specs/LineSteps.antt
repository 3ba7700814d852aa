-- What a line is read as.
use Rattle.std.specs.Prelude.{◌≡◌, ℕ, true, false, List, Some, None}
use Rattle.device_entries.specs.declared.lines.DeviceLine.{DeviceLine}
use Rattle.device_entries.specs.declared.lines.DeviceLine.TheVariants.{Other, Short, Whole}
use Rattle.device_entries.specs.Lines.{is_device_line, entry_in_line}

-- no M line, one with fewer than six words, or one with its transistor
abbrev pub ReadsAs : List ℕ → DeviceLine → Type 0
ReadsAs line Other = is_device_line line ≡ false
ReadsAs line Short = (is_device_line line ≡ true) × (entry_in_line line ≡ None)
ReadsAs line (Whole entry) = (is_device_line line ≡ true) × (entry_in_line line ≡ Some entry)
