-- The names that leaf cells have already.
use Rattle.std.specs.Prelude.{◌≡◌, ℕ, List, Bool, ◌||◌, Option, Some}
use Rattle.std.specs.List.{find, list_any}
use Rattle.std.specs.Str.{str_eq_ignore_ascii_case}
use Rattle.gds_library.specs.declared.library.Structure.{Structure}
use Rattle.netlist.specs.declared.deck.Subckt.{Subckt}
use Rattle.leaf_tables.specs.declared.kit.Kit.{Kit}
use Rattle.leaf_tables.specs.declared.part.PartFault.{PartFault}
use Rattle.leaf_tables.specs.declared.part.PartFault.TheVariants as part_fault

-- a structure or subcircuit of the leaf cells has the name, without regard to case
abbrev pub is_structure_name : List Structure → List ℕ → Bool
is_structure_name structs name = list_any (λ (s : Structure). str_eq_ignore_ascii_case s.name name) structs

abbrev pub is_subckt_name : List Subckt → List ℕ → Bool
is_subckt_name subckts name = list_any (λ (s : Subckt). str_eq_ignore_ascii_case s.name name) subckts

abbrev pub is_taken : Kit → List ℕ → Bool
is_taken kit name = is_structure_name kit.lib.structs name || is_subckt_name kit.deck.subckts name

abbrev pub first_taken : Kit → List (List ℕ) → Option (List ℕ)
first_taken kit names = find (is_taken kit) names

-- the first of the names that is taken
abbrev pub IsTakenFault : Kit → List (List ℕ) → PartFault → Type 0
IsTakenFault kit names (part_fault.NameTaken name) = first_taken kit names ≡ Some name
IsTakenFault kit names part_fault.Memory = Unit {0}
IsTakenFault kit names fault = ⊥
