-- The leaf cells of a macro's netlist.
use Rattle.std.specs.Prelude.{ℕ, List, [], ◌∷◌, ◌++◌, map, false, true}
use Rattle.cell_roles.specs.Roles.{all_roles}
use Rattle.leaf_tables.specs.declared.kit.Kit.{Kit}
use Rattle.port_lists.specs.Cells.{cell_in, fixed_cell_in}
use Rattle.port_lists.specs.Held.{Held}
use Rattle.port_lists.specs.Held.Held.{Stored, Fixed}
use Rattle.port_lists.specs.Contents.{AreHeldBy}
use Rattle.rom_leaves.specs.RomLeaves.{HasRomLeaves}
use Rattle.sram_plan.specs.declared.numbers.Plan.{Plan}
use Rattle.sram_plan.specs.PlanNumbers.{organization}

-- the cells of the fourteen roles, and of the two that hold fixed bits where there are such
abbrev pub leaf_names : Kit → Held → List (List ℕ)
leaf_names kit Stored = map (cell_in kit.tech.roles) all_roles
leaf_names kit (Fixed words) = map (cell_in kit.tech.roles) all_roles ++ fixed_cell_in kit.tech.roles false ∷ fixed_cell_in kit.tech.roles true ∷ []

-- the kit has the cells that hold fixed bits
abbrev pub HasCellsFor : Kit → Held → Type 0
HasCellsFor kit Stored = Unit {0}
HasCellsFor kit (Fixed words) = HasRomLeaves kit

-- what is to be held fits the plan and the kit
pub record IsHeld (kit : Kit) (plan : Plan) (held : Held) : Type 0 where
  pub fit : AreHeldBy (organization plan) held
  pub cells : HasCellsFor kit held
