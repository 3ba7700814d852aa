-- Bytes have at most one fault, and none where they spell a library.
use Rattle.std.specs.Prelude.{◌≡◌, ◌≢◌, ℕ, List}
use Rattle.gds_library.specs.declared.fault.GdsFault.{GdsFault}
use Rattle.gds_library.specs.declared.fault.GdsFault.TheVariants as fault
use Rattle.gds_library.specs.declared.library.Library.{Library}
use Rattle.gds_library.specs.Grammar.{Spells}
use Rattle.gds_library.specs.FirstFault.{IsFaultOf}

-- two faults of some bytes are one, out of memory aside
abbrev pub FaultsAreUnique : Type 0
FaultsAreUnique = (bytes : List ℕ) (f g : GdsFault) → f ≢ fault.Memory → g ≢ fault.Memory → IsFaultOf f bytes
    → IsFaultOf g bytes → f ≡ g

-- bytes that spell a library have no fault
abbrev pub FaultsExcludeLibraries : Type 0
FaultsExcludeLibraries = (bytes : List ℕ) (lib : Library) (f : GdsFault) → f ≢ fault.Memory → IsFaultOf f bytes
    → Spells bytes lib → ⊥
