-- Reading a library, one record after the other.
use Rattle.std.specs.Prelude.{◌≡◌, ◌≤◌, ◌^◌, ◌||◌, ℕ, Bool, List, [], length, Option, Some, None, if◌then◌else◌}
use Rattle.std.specs.List.{list_any}
use Rattle.std.specs.Str.{bytes_eq}
use Rattle.gds_records.specs.declared.code.TheConstants.{HEADER, BGNLIB, LIBNAME, UNITS, ENDLIB, BGNSTR, STRNAME, ENDSTR, REFLIBS, FONTS, GENERATIONS, ATTRTABLE}
use Rattle.gds_records.specs.declared.error.Demand.TheVariants as demand
use Rattle.gds_records.specs.Record.{unpadded}
use Rattle.gds_records.specs.Reading.{Reader, as_value, then_at, past, taken_at, skip_at, until_at, next_at}
use Rattle.gds_records.specs.Values.{string_of}
use Rattle.gds_library.specs.declared.names.StructureNames.{StructureNames}
use Rattle.gds_library.specs.declared.library.Element.{Element}
use Rattle.gds_library.specs.declared.library.Structure.{Structure}
use Rattle.gds_library.specs.declared.library.Library.{Library}
use Rattle.gds_library.specs.Values.{units_of}
use Rattle.gds_library.specs.Grammar.{kept_elements, Spells}
use Rattle.gds_library.specs.StructureNames.{has_name}
use Rattle.gds_library.specs.ReadElements.{item_at}

-- {element} ENDSTR, with the elements of which nothing is kept
unfoldable pub items_at : Reader (List (Option Element))
items_at rs = until_at (λ seen. item_at) ENDSTR (length rs) [] rs

unfoldable pub elements_at : Reader (List Element)
elements_at rs = as_value kept_elements (items_at rs)

abbrev pub is_taken : List Structure → List ℕ → Bool
is_taken before text = list_any (λ (s : Structure). bytes_eq text s.name) before

-- a name that no structure before has
abbrev pub new_text_of : List Structure → List ℕ → Option (List ℕ)
new_text_of before content = if is_taken before (unpadded content) then None else Some (unpadded content)

-- the names are those of the structures
abbrev pub AreStructureNames : StructureNames → List Structure → Type 0
AreStructureNames names before = (text : List ℕ) → has_name names text ≡ is_taken before text

-- the names are those of the structures and one more
abbrev pub AreStructureNamesAnd : StructureNames → List ℕ → List Structure → Type 0
AreStructureNamesAnd names name before = (text : List ℕ)
    → has_name names text ≡ (bytes_eq text name || is_taken before text)

abbrev pub as_structure : List ℕ × List Element → Structure
as_structure z = record { name = z.0; elements = z.1 }

-- BGNSTR STRNAME {element} ENDSTR
unfoldable pub structure_at : List Structure → Reader Structure
structure_at before rs = as_value as_structure
    (past (next_at BGNSTR rs) (λ rs. then_at (taken_at demand.NewName STRNAME (new_text_of before) rs)
    (λ n. elements_at)))

-- {structure} ENDLIB
unfoldable pub structures_at : Reader (List Structure)
structures_at rs = until_at structure_at ENDLIB (length rs) [] rs

-- [REFLIBS] [FONTS] [ATTRTABLE] [GENERATIONS]
unfoldable pub skip_tables_at : Reader (Unit {0})
skip_tables_at rs = past (skip_at REFLIBS rs)
    (λ rs. past (skip_at FONTS rs) (λ rs. past (skip_at ATTRTABLE rs) (skip_at GENERATIONS)))

abbrev pub as_library : List ℕ × (Unit {0} × List Structure) → Library
as_library z = record { name = z.0; structs = z.1.1 }

unfoldable pub library_at : Reader Library
library_at rs = as_value as_library
    (past (next_at HEADER rs) (λ rs. past (next_at BGNLIB rs)
    (λ rs. then_at (taken_at demand.Plain LIBNAME string_of rs) (λ n rs.
    past (skip_tables_at rs) (λ rs. then_at (taken_at demand.Units UNITS units_of rs) (λ u. structures_at))))))

-- bytes that spell a library spell no other
abbrev pub LibrariesAreUnique : Type 0
LibrariesAreUnique = (bytes : List ℕ) (a b : Library) → length bytes ≤ 2 ^ 64 → Spells bytes a → Spells bytes b → a ≡ b
