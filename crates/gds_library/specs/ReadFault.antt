-- Naming the fault where reading stopped.
use Rattle.std.specs.Prelude.{◌≡◌, ◌≢◌, ◌+◌, ◌*◌, ℕ, List, [], ◌∷◌, ◌++◌, nat_le, if◌then◌else◌, Option, Some}
use Rattle.gds_records.specs.declared.code.TheConstants.{XY}
use Rattle.gds_records.specs.declared.error.Demand.{Demand}
use Rattle.gds_records.specs.declared.error.Demand.TheVariants.{Plain, Units, Outline, Transform, Track, NewName}
use Rattle.gds_records.specs.Record.{StreamRecord}
use Rattle.gds_records.specs.Bytes.{byte_length, AreZero}
use Rattle.gds_library.specs.declared.fault.GdsFault.{GdsFault}
use Rattle.gds_library.specs.declared.fault.GdsFault.TheVariants as fault
use Rattle.gds_library.specs.FirstFault.{wanted_after}

-- how many points an XY has where so many bytes are left
abbrev pub wanted_before : ℕ → Option ℕ → List StreamRecord → Option ℕ
wanted_before left now [] = now
wanted_before left now (e ∷ es) =
    if nat_le (byte_length (e ∷ es)) left then now else wanted_before left (wanted_after now e.code) es

-- no bytes are left, or the first of them isn't zero
abbrev pub IsZeroNever : List ℕ → Type 0
IsZeroNever [] = Unit {0}
IsZeroNever (b ∷ bytes) = b ≢ 0

-- zero bytes stand before the tail
pub record SkipsZeros (bytes tail : List ℕ) : Type 0 where
  pub zeros : List ℕ
  pub parts : bytes ≡ zeros ++ tail
  pub zero : AreZero zeros

-- the record that stands here is an XY with another number of points than is wanted
pub record Miscounts (wanted : Option ℕ) (code size : ℕ) : Type 0 where
  pub count : ℕ
  pub named : code ≡ XY
  pub is : wanted ≡ Some count
  pub other : size ≢ 8 * count + 4

-- the fault of a demand that isn't met
abbrev pub unmet_fault_of : ℕ → ℕ → Demand → GdsFault
unmet_fault_of at code Plain = fault.BadRecord at code
unmet_fault_of at code Units = fault.BadUnits at
unmet_fault_of at code Outline = fault.NotManhattan at
unmet_fault_of at code Transform = fault.BadTransform at
unmet_fault_of at code Track = fault.BadPath at
unmet_fault_of at code NewName = fault.Twice at
