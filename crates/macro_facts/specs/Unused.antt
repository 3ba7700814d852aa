-- Names under which no name is taken.
use Rattle.std.specs.Prelude.{◌≡◌, ℕ, List, ◌++◌, map, Contains}
use Rattle.std.specs.Char.{to_ascii_lowercase}
use Rattle.gds_library.specs.declared.library.Structure.{Structure}
use Rattle.netlist.specs.declared.deck.Subckt.{Subckt}
use Rattle.sram_plan.specs.declared.numbers.Plan.{Plan}
use Rattle.leaf_tables.specs.declared.kit.Kit.{Kit}
use Rattle.leaf_tables.specs.declared.part.PartFault.TheVariants as part_fault
use Rattle.leaf_tables.specs.Kits.{IsKit}
use Rattle.port_lists.specs.Held.{Held}
use Rattle.sram_macro.specs.Macro.{IsMacroFault}

-- no structure's and no subcircuit's name begins with the name, without regard to case
pub record IsUnusedName (kit : Kit) (name : List ℕ) : Type 0 where
  pub structs : (s : Structure) (rest : List ℕ) → Contains kit.lib.structs s → map to_ascii_lowercase s.name ≡ map to_ascii_lowercase name ++ rest → ⊥
  pub subckts : (s : Subckt) (rest : List ℕ) → Contains kit.deck.subckts s → map to_ascii_lowercase s.name ≡ map to_ascii_lowercase name ++ rest → ⊥

-- Under such a name no fault of a macro is that a name is taken.
abbrev pub UnusedNamesAreFree : Type 0
UnusedNamesAreFree = (kit : Kit) (plan : Plan) (held : Held) (name taken : List ℕ) → IsKit kit → IsUnusedName kit name → IsMacroFault kit plan held name (part_fault.NameTaken taken) → ⊥
