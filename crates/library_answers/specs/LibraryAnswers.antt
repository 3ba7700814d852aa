-- Bytes spell a library or have a fault.
use Rattle.std.specs.Prelude.{◌≢◌, ◌⊎◌, ◌≤◌, ◌^◌, ℕ, List, length}
use Rattle.gds_records.specs.Bytes.{AreBytes}
use Rattle.gds_library.specs.declared.fault.GdsFault.{GdsFault}
use Rattle.gds_library.specs.declared.fault.GdsFault.TheVariants as fault
use Rattle.gds_library.specs.declared.library.Library.{Library}
use Rattle.gds_library.specs.Grammar.{Spells}
use Rattle.gds_library.specs.FirstFault.{IsFaultOf}

-- a library that the bytes spell, or a fault of theirs that isn't out of memory
abbrev pub HasLibraryAnswer : List ℕ → Type 0
HasLibraryAnswer bytes =
    ((lib : Library) × Spells bytes lib) ⊎ ((f : GdsFault) × (f ≢ fault.Memory) × IsFaultOf f bytes)

-- bytes have the one or the other
abbrev pub LibraryAnswersAreThere : Type 0
LibraryAnswersAreThere = (bytes : List ℕ) → AreBytes bytes → length bytes ≤ 2 ^ 64 → HasLibraryAnswer bytes
