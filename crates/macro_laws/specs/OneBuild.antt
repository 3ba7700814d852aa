-- A kit, a plan and what is held are built in one way, or refused in one way.
use Rattle.std.specs.Prelude.{◌≡◌, ◌≢◌, ℕ, List}
use Rattle.leaf_tables.specs.declared.kit.Kit.{Kit}
use Rattle.leaf_tables.specs.Kits.{IsKit}
use Rattle.sram_plan.specs.declared.numbers.Plan.{Plan}
use Rattle.port_lists.specs.Held.{Held}
use Rattle.macro_build.specs.Built.{IsBuilt, IsBuildFault}
use Rattle.macro_build.specs.declared.built.Built.{Built}
use Rattle.macro_build.specs.declared.built.BuildFault.{BuildFault}
use Rattle.macro_build.specs.declared.built.BuildFault.TheVariants as build_fault

-- the same bytes and numbers
pub record AreSameViews (a b : Built) : Type 0 where
  pub spice : a.spice.items ≡ b.spice.items
  pub gds : a.gds.items ≡ b.gds.items
  pub lef : a.lef.items ≡ b.lef.items
  pub verilog : a.verilog.items ≡ b.verilog.items
  pub tracks : a.tracks ≡ b.tracks
  pub leaves : a.leaves ≡ b.leaves
  pub width : a.width ≡ b.width
  pub height : a.height ≡ b.height

-- what is built of them under a name has the same views
abbrev pub BuildsAreUnique : Type 0
BuildsAreUnique = (kit : Kit) (plan : Plan) (held : Held) (name : List ℕ) (a b : Built) → IsKit kit → IsBuilt kit plan held name a → IsBuilt kit plan held name b → AreSameViews a b

-- two reasons why nothing is built are one, out of memory aside
abbrev pub BuildFaultsAreUnique : Type 0
BuildFaultsAreUnique = (kit : Kit) (plan : Plan) (held : Held) (name : List ℕ) (f g : BuildFault) → IsKit kit → f ≢ build_fault.Memory → g ≢ build_fault.Memory
    → IsBuildFault kit plan held name f → IsBuildFault kit plan held name g → f ≡ g

-- and there is none where something is built
abbrev pub BuildFaultsExcludeBuilds : Type 0
BuildFaultsExcludeBuilds = (kit : Kit) (plan : Plan) (held : Held) (name : List ℕ) (f : BuildFault) (built : Built) → IsKit kit → f ≢ build_fault.Memory
    → IsBuildFault kit plan held name f → IsBuilt kit plan held name built → ⊥
