-- For each kit, plan, contents and name there is a macro, or a fault of a part.
use Rattle.std.specs.Prelude.{◌≢◌, ◌≡◌, ◌⊎◌, ℕ, List, true}
use Rattle.std.specs.declared.alloc.Global.{Global}
use Rattle.leaf_tables.specs.declared.kit.Kit.{Kit}
use Rattle.leaf_tables.specs.declared.part.PartFault.{PartFault}
use Rattle.leaf_tables.specs.declared.part.PartFault.TheVariants as part_fault
use Rattle.leaf_tables.specs.Kits.{IsKit}
use Rattle.sram_netlist.specs.Numbers.{ArePlanNumbers}
use Rattle.sram_plan.specs.Config.{is_output_name}
use Rattle.sram_plan.specs.declared.numbers.Plan.{Plan}
use Rattle.sram_plan.specs.PlanNumbers.{numbers_of}
use Rattle.port_lists.specs.Held.{Held}
use Rattle.sram_macro.specs.declared.assembly.Macro.{Macro}
use Rattle.sram_macro.specs.Leaves.{IsHeld}
use Rattle.sram_macro.specs.Macro.{IsMacro, IsMacroFault}

-- a fault of this kind that isn't out of memory
pub record HasPartFault (IsFaultOf : PartFault → Type 0) : Type 0 where
  pub fault : PartFault
  pub real : fault ≢ part_fault.Memory
  pub is : IsFaultOf fault

-- Whatever the kit, the plan and the contents that fit both, there is a macro of the name or a fault. (A layout's lists are those of a
-- program, which have an allocator.)
abbrev pub MacrosOrFaultsAreThere : Type 0
MacrosOrFaultsAreThere = (alloc : Global) (kit : Kit) (plan : Plan) (held : Held) (name : List ℕ) → IsKit kit → ArePlanNumbers (numbers_of plan) → IsHeld kit plan held → is_output_name name ≡ true
    → ((m : Macro) × IsMacro kit plan held name m) ⊎ HasPartFault (IsMacroFault kit plan held name)
