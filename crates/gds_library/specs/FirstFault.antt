-- The first record that no library has after those before it, and what is wrong with it.
use Rattle.std.specs.Prelude.{◌≡◌, ◌≢◌, ◌⊎◌, ◌*◌, ◌%◌, ◌<◌, ℕ, List, [], ◌∷◌, ◌++◌, length, true, false, Option, Some, None, ◌==◌, if◌then◌else◌}
use Rattle.gds_records.specs.declared.code.TheConstants.{SREF, AREF, TEXT, XY, ENDEL}
use Rattle.gds_records.specs.declared.error.Demand.{Demand}
use Rattle.gds_records.specs.declared.error.Demand.TheVariants.{Plain, Units, Outline, Transform, Track, NewName}
use Rattle.gds_records.specs.Record.{StreamRecord, is_formed, AreFormed}
use Rattle.gds_records.specs.Bytes.{record_bytes, records_bytes, code_in, length_in, AreZero}
use Rattle.gds_records.specs.Part.{Judge}
use Rattle.gds_records.specs.Spelling.{IsAtEnd, all_count}
use Rattle.gds_library.specs.declared.fault.GdsFault.{GdsFault}
use Rattle.gds_library.specs.declared.fault.GdsFault.TheVariants as fault
use Rattle.gds_library.specs.declared.library.Library.{Library}
use Rattle.gds_library.specs.Grammar.{library, Spells}

-- some library's records begin with these, where these demands count
abbrev pub IsBegun : Judge → List StreamRecord → Type 0
IsBegun judge rs = (more : List StreamRecord) × (lib : Library) × library lib judge IsAtEnd (rs ++ more)

-- where the first fault stands: after records that begin a library and don't end it
pub record Stands (bytes : List ℕ) (done : List StreamRecord) (rest : List ℕ) (at : ℕ) : Type 0 where
  pub parts : bytes ≡ records_bytes done ++ rest
  pub offset : at ≡ length (records_bytes done)
  pub formed : AreFormed done
  pub begun : IsBegun all_count done
  pub open_end : (lib : Library) → library lib all_count IsAtEnd done → ⊥

-- fewer bytes than four, or than the length
abbrev pub IsCutShort : List ℕ → Type 0
IsCutShort rest = (length rest < 4) ⊎ (length rest < length_in rest)

-- an odd length, or one below four
abbrev pub IsMissized : List ℕ → Type 0
IsMissized rest = (length_in rest % 2 ≡ 1) ⊎ (length_in rest < 4)

-- how many points an XY has after a record of this code, where that is fixed
abbrev pub wanted_after : Option ℕ → ℕ → Option ℕ
wanted_after now code =
    if code == SREF then Some 1 else
    (if code == TEXT then Some 1 else (if code == AREF then Some 3 else (if code == ENDEL then None else now)))

-- how many points an XY has after these records: one in SREF and TEXT, three in AREF, and any number elsewhere
abbrev pub points_wanted : Option ℕ → List StreamRecord → Option ℕ
points_wanted now [] = now
points_wanted now (e ∷ es) = points_wanted (wanted_after now e.code) es

-- an XY of a reference or a label with another number of points
pub record HasWrongCount (done : List StreamRecord) (e : StreamRecord) : Type 0 where
  pub count : ℕ
  pub code : e.code ≡ XY
  pub wanted : points_wanted None done ≡ Some count
  pub other : length e.content ≢ 8 * count

-- the record could stand here if this demand did not count, and can't where it does
pub record IsUnmet (demand : Demand) (done : List StreamRecord) (e : StreamRecord) : Type 0 where
  pub without : (judge : Judge) → judge demand ≡ false → IsBegun judge (done ++ e ∷ [])
  pub alone : (judge : Judge) → judge demand ≡ true → IsBegun judge (done ++ e ∷ []) → ⊥

-- the whole record that stands first, which is well formed, and has the right number of points where that is fixed
pub record IsNextRecord (rest : List ℕ) (done : List StreamRecord) (e : StreamRecord) : Type 0 where
  pub after : List ℕ
  pub parts : rest ≡ record_bytes e ++ after
  pub formed : is_formed e ≡ true
  pub counted : HasWrongCount done e → ⊥

-- the record is whole, and is none of the table, or has the wrong number of points, or data that this place never has
abbrev pub IsBad : List ℕ → List StreamRecord → StreamRecord → Type 0
IsBad rest done e = (after : List ℕ) × (rest ≡ record_bytes e ++ after) × (e.whole ≡ true)
    × ((is_formed e ≡ false) ⊎ (HasWrongCount done e ⊎ IsUnmet Plain done e))

-- the fault that stands there
abbrev pub IsFaultOf : GdsFault → List ℕ → Type 0
IsFaultOf (fault.Truncated at) bytes = (done : List StreamRecord) × (rest : List ℕ) × Stands bytes done rest at
    × IsCutShort rest
IsFaultOf (fault.BadRecord at code) bytes =
    (done : List StreamRecord) × (rest : List ℕ) × Stands bytes done rest at × (IsCutShort rest → ⊥)
    × (code ≡ code_in rest) × (IsMissized rest ⊎ ((e : StreamRecord) × IsBad rest done e))
IsFaultOf (fault.NotInPlace at code) bytes =
    (done : List StreamRecord) × (rest : List ℕ) × (e : StreamRecord) × Stands bytes done rest at
    × IsNextRecord rest done e × (code ≡ e.code) × ((judge : Judge) → IsBegun judge (done ++ e ∷ []) → ⊥)
IsFaultOf (fault.BadUnits at) bytes = (done : List StreamRecord) × (rest : List ℕ) × (e : StreamRecord)
    × Stands bytes done rest at × IsNextRecord rest done e × IsUnmet Units done e
IsFaultOf (fault.NotManhattan at) bytes = (done : List StreamRecord) × (rest : List ℕ) × (e : StreamRecord)
    × Stands bytes done rest at × IsNextRecord rest done e × IsUnmet Outline done e
IsFaultOf (fault.BadTransform at) bytes = (done : List StreamRecord) × (rest : List ℕ) × (e : StreamRecord)
    × Stands bytes done rest at × IsNextRecord rest done e × IsUnmet Transform done e
IsFaultOf (fault.BadPath at) bytes = (done : List StreamRecord) × (rest : List ℕ) × (e : StreamRecord)
    × Stands bytes done rest at × IsNextRecord rest done e × IsUnmet Track done e
IsFaultOf (fault.Twice at) bytes = (done : List StreamRecord) × (rest : List ℕ) × (e : StreamRecord)
    × Stands bytes done rest at × IsNextRecord rest done e × IsUnmet NewName done e
IsFaultOf (fault.TrailingBytes at) bytes =
    (records : List StreamRecord) × (zeros : List ℕ) × (b : ℕ) × (more : List ℕ)
    × (bytes ≡ records_bytes records ++ (zeros ++ b ∷ more)) × (at ≡ length (records_bytes records ++ zeros))
    × AreFormed records × ((lib : Library) × library lib all_count IsAtEnd records) × AreZero zeros × (b ≢ 0)
IsFaultOf fault.Memory bytes = Unit {0}

-- the bytes spell no library, of which out of memory says nothing
abbrev pub IsRefused : GdsFault → List ℕ → Type 0
IsRefused fault.Memory bytes = Unit {0}
IsRefused f bytes = (lib : Library) → Spells bytes lib → ⊥
