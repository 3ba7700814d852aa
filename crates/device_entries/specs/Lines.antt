-- The transistors of a subcircuit: its M lines.
use Rattle.std.specs.Prelude.{◌≡◌, ◌≢◌, ◌<◌, ℕ, Bool, false, List, [], ◌∷◌, Option, Some, None, Contains, IsTrue, filter, filter_map, slice_get}
use Rattle.spice_text.specs.LogicalLines.{starts_with}
use Rattle.spice_text.specs.Words.{words_of, lower, before_assignment}
use Rattle.device_entries.specs.declared.entry.DeviceEntry.{DeviceEntry}
use Rattle.device_entries.specs.declared.lines.LineFault.{LineFault}
use Rattle.device_entries.specs.declared.lines.LineFault.TheVariants.{BadDevice, Memory}
use Rattle.device_entries.specs.Entries.{entry_of}

-- the first of the words begins with m
abbrev pub begins_with_m : List (List ℕ) → Bool
begins_with_m [] = false
begins_with_m (first ∷ words) = starts_with 109 first

-- the line's first word begins with m or M
abbrev pub is_device_line : List ℕ → Bool
is_device_line line = begins_with_m (words_of (lower line))

-- name, drain, gate, source, bulk and model, and what stands behind them
abbrev pub entry_in_words : List (List ℕ) → Option DeviceEntry
entry_in_words (name ∷ drain ∷ gate ∷ source ∷ bulk ∷ model ∷ others) = Some (entry_of model gate drain source)
entry_in_words words = None

-- the transistor of a line, in lower case; a word that holds `=` and all after it don't count
abbrev pub entry_in_line : List ℕ → Option DeviceEntry
entry_in_line line = entry_in_words (before_assignment (words_of (lower line)))

-- the line is no M line, or it has its six words
abbrev pub IsGoodLine : List ℕ → Type 0
IsGoodLine line = IsTrue (is_device_line line) → entry_in_line line ≢ None

-- every M line has its six words, and these are their transistors in order
pub record AreLineEntries (lines : List (List ℕ)) (entries : List DeviceEntry) : Type 0 where
  pub good : (line : List ℕ) → Contains lines line → IsGoodLine line
  pub are : entries ≡ filter_map entry_in_line (filter is_device_line lines)

-- the line at this place, counting from 0, is the first M line with fewer than six words
pub record IsFirstBadLine (lines : List (List ℕ)) (place : ℕ) : Type 0 where
  pub line : List ℕ
  pub there : slice_get lines place ≡ Some line
  pub begins : IsTrue (is_device_line line)
  pub short : entry_in_line line ≡ None
  pub before : (earlier : ℕ) (other : List ℕ) → earlier < place → slice_get lines earlier ≡ Some other → IsGoodLine other

abbrev pub IsLineFault : List (List ℕ) → LineFault → Type 0
IsLineFault lines (BadDevice line) = IsFirstBadLine lines line
IsLineFault lines Memory = Unit {0}
