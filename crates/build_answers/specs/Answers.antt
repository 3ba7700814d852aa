-- A kit, a plan and what is held have a macro that is sound, or a fault.
use Rattle.std.specs.Prelude.{◌≢◌, ◌≡◌, ◌⊎◌, ℕ, List, true}
use Rattle.std.specs.declared.alloc.Global.{Global}
use Rattle.sram_netlist.specs.Numbers.{ArePlanNumbers}
use Rattle.sram_plan.specs.Config.{is_output_name}
use Rattle.sram_plan.specs.declared.numbers.Plan.{Plan}
use Rattle.sram_plan.specs.PlanNumbers.{numbers_of}
use Rattle.port_lists.specs.Held.{Held}
use Rattle.leaf_tables.specs.declared.kit.Kit.{Kit}
use Rattle.leaf_tables.specs.Kits.{IsKit}
use Rattle.sram_macro.specs.declared.assembly.Macro.{Macro}
use Rattle.sram_macro.specs.Leaves.{IsHeld}
use Rattle.macro_build.specs.declared.built.BuildFault.{BuildFault}
use Rattle.macro_build.specs.declared.built.BuildFault.TheVariants as build_fault
use Rattle.macro_build.specs.Built.{IsBuildFault, IsSoundMacro}

-- a fault that isn't want of memory
pub record HasBuildFault (kit : Kit) (plan : Plan) (held : Held) (name : List ℕ) : Type 0 where
  pub fault : BuildFault
  pub real : fault ≢ build_fault.Memory
  pub is : IsBuildFault kit plan held name fault

-- a macro that breaks no rule and is joined as its netlist says, or such a fault
abbrev pub HasSoundMacroOrFault : Kit → Plan → Held → List ℕ → Type 0
HasSoundMacroOrFault kit plan held name = ((m : Macro) × IsSoundMacro kit plan held name m) ⊎ HasBuildFault kit plan held name

-- Each kit and each plan have one of the two. What a macro owns is owned by some allocator.
abbrev pub SoundMacrosOrFaultsAreThere : Type 0
SoundMacrosOrFaultsAreThere = (alloc : Global) (kit : Kit) (plan : Plan) (held : Held) (name : List ℕ)
    → IsKit kit → ArePlanNumbers (numbers_of plan) → IsHeld kit plan held → is_output_name name ≡ true → HasSoundMacroOrFault kit plan held name
