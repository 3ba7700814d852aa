-- The name of the windows: the least of its kind with which no name in the leaf cells' files begins.
use Rattle.std.specs.Prelude.{◌≡◌, ◌⊎◌, ◌↔◌, ℕ, ◌++◌, ◌<◌, List, Contains, IsTrue}
use Rattle.or_geom.specs.Gathering.{SomeGives}
use Rattle.gds_library.specs.declared.library.Structure.{Structure}
use Rattle.netlist.specs.declared.deck.Subckt.{Subckt}
use Rattle.label_binding.specs.LowerCase.{in_lower_case}
use Rattle.sram_plan.specs.Config.{is_output_name}
use Rattle.leaf_tables.specs.declared.kit.Kit.{Kit}
use Rattle.kit_check.specs.Digits.{IsNumberIn, IsNumberedName}

-- the text begins with the other, without regard to case
pub record BeginsWith (text start : List ℕ) : Type 0 where
  pub rest : List ℕ
  pub is : in_lower_case text ≡ in_lower_case start ++ rest

-- A name that a macro may have, and with which no structure's and no subcircuit's name begins, without regard to case.
pub record IsFreeName (kit : Kit) (name : List ℕ) : Type 0 where
  pub output : IsTrue (is_output_name name)
  pub structs : (s : Structure) → Contains kit.lib.structs s → BeginsWith s.name name → ⊥
  pub subckts : (s : Subckt) → Contains kit.deck.subckts s → BeginsWith s.name name → ⊥

-- The name of this kind with the least number for which it is free.
pub record IsWindowName (kit : Kit) (name : List ℕ) : Type 0 where
  pub number : ℕ
  pub named : IsNumberedName number name
  pub free : IsFreeName kit name
  pub least : (less : ℕ) → less < number → (other : List ℕ) × IsNumberedName less other × (IsFreeName kit other → ⊥)

-- the name of one of the structures, or of the subcircuits, begins with the number
abbrev pub IsStructNumber : List Structure → ℕ → Type 0
IsStructNumber structs number = SomeGives (λ (s : Structure). IsNumberIn s.name) structs number

abbrev pub IsSubcktNumber : List Subckt → ℕ → Type 0
IsSubcktNumber subckts number = SomeGives (λ (s : Subckt). IsNumberIn s.name) subckts number

-- exactly the numbers with which these names begin
abbrev pub AreNumbersOf : Kit → List ℕ → Type 0
AreNumbersOf kit numbers = (number : ℕ) → Contains numbers number ↔ (IsStructNumber kit.lib.structs number ⊎ IsSubcktNumber kit.deck.subckts number)
