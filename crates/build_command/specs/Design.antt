-- What a memory is built of, over the files that a store tells.
use Rattle.std.specs.Prelude.{◌≡◌, ℕ, List, ◌++◌, Result, Ok, Err, codes}
use Rattle.or_host.specs.Files.{Files}
use Rattle.gds_library.specs.declared.library.Library.{Library}
use Rattle.gds_library.specs.FirstFault.{IsFaultOf}
use Rattle.gds_library.specs.Grammar.{Spells}
use Rattle.sram_netlist.specs.Numbers.{ArePlanNumbers}
use Rattle.sram_plan.specs.Config.{IsConfig}
use Rattle.sram_plan.specs.Configuration.{configuration}
use Rattle.sram_plan.specs.Plan.{IsPlanOf, IsWordsPerRow}
use Rattle.sram_plan.specs.PlanNumbers.{numbers_of}
use Rattle.sram_plan.specs.declared.config.Config.{Config}
use Rattle.sram_plan.specs.declared.numbers.Plan.{Plan}
use Rattle.tech_rules.specs.declared.tech.Tech.{Tech}
use Rattle.leaf_tables.specs.declared.kit.Kit.{Kit}
use Rattle.leaf_tables.specs.Faults.{IsSpelled, IsKitFault}
use Rattle.leaf_tables.specs.Kits.{IsKit, IsKitOf}
use Rattle.reply_lines.specs.declared.refusal.Refusal.{Refusal}
use Rattle.reply_lines.specs.declared.refusal.Refusal.TheVariants as refusal_of
use Rattle.command_steps.specs.File.{IsFile, IsTechnologyFile}
use Rattle.command_steps.specs.Outcome.{WithoutRefusal, ValueOrFault, Then}
use Rattle.build_command.specs.declared.design.Design.{Design}

-- the configuration that bytes are, or what is wrong with them
abbrev pub IsConfiguration : List ℕ → Result Config Refusal → Type 0
IsConfiguration bytes = ValueOrFault (λ config. configuration bytes ≡ Ok config) (λ fault. configuration bytes ≡ Err fault) refusal_of.Config

abbrev pub IsConfigFile : Files → List ℕ → Result Config Refusal → Type 0
IsConfigFile files name = Then (IsFile files name) IsConfiguration

-- the plan of a configuration, or that no count of words in a row fits
abbrev pub IsPlanned : Config → Result Plan Refusal → Type 0
IsPlanned config = ValueOrFault (IsPlanOf config) (λ fault. (wpr : ℕ) → ¬ IsWordsPerRow config wpr) refusal_of.Plan

-- bytes that spell a library, or their first fault
abbrev pub IsLeafLayout : List ℕ → Result (List ℕ) Refusal → Type 0
IsLeafLayout bytes = ValueOrFault (λ same. (same ≡ bytes) × IsSpelled bytes) (λ fault. IsFaultOf fault bytes) refusal_of.Gds

abbrev pub IsLeafLayoutFile : Files → List ℕ → Result (List ℕ) Refusal → Type 0
IsLeafLayoutFile files name = Then (IsFile files name) IsLeafLayout

-- the kit of a technology, a layout and subcircuits, or the first fault of these
abbrev pub IsKitOrFault : Tech → List ℕ → List ℕ → Result Kit Refusal → Type 0
IsKitOrFault tech gds sp = ValueOrFault (IsKitOf tech gds sp) (IsKitFault tech gds sp) refusal_of.Kit

-- the subcircuits after the layout
abbrev pub IsKitOver : Files → List ℕ → Tech → List ℕ → Result Kit Refusal → Type 0
IsKitOver files name tech gds = Then (IsFile files (name ++ codes ".sp")) (IsKitOrFault tech gds)

-- the layout after the technology
abbrev pub IsKitWith : Files → List ℕ → Tech → Result Kit Refusal → Type 0
IsKitWith files name tech = Then (IsLeafLayoutFile files (name ++ codes ".gds")) (IsKitOver files name tech)

-- the library that bytes spell, or their first fault
abbrev pub IsLeafLibrary : List ℕ → Result Library Refusal → Type 0
IsLeafLibrary bytes = ValueOrFault (Spells bytes) (λ fault. IsFaultOf fault bytes) refusal_of.Gds

-- a file of this name holds bytes that spell this library, or are refused
abbrev pub IsLeafLibraryFile : Files → List ℕ → Result Library Refusal → Type 0
IsLeafLibraryFile files name = Then (IsFile files name) IsLeafLibrary

-- the kit of a technology, a library and subcircuits, or the first fault: those of whichever layout spells the library
abbrev pub IsKitOfLibrary : Tech → Library → List ℕ → Result Kit Refusal → Type 0
IsKitOfLibrary tech lib sp =
    ValueOrFault (λ kit. (gds : List ℕ) → Spells gds lib → IsKitOf tech gds sp kit) (λ fault. (gds : List ℕ) → Spells gds lib → IsKitFault tech gds sp fault) refusal_of.Kit

-- the subcircuits after the library
abbrev pub IsKitOverLibrary : Files → List ℕ → Tech → Library → Result Kit Refusal → Type 0
IsKitOverLibrary files name tech lib = Then (IsFile files (name ++ codes ".sp")) (IsKitOfLibrary tech lib)

-- the kit of this name: the technology first
abbrev pub IsKitUnder : Files → List ℕ → Result Kit Refusal → Type 0
IsKitUnder files name = Then (IsTechnologyFile files (name ++ codes ".toml")) (IsKitWith files name)

-- the kit after the plan
abbrev pub IsDesignWith : Files → Config → Plan → Result Design Refusal → Type 0
IsDesignWith files config plan =
    Then (IsKitUnder files config.tech_name) (λ kit. WithoutRefusal (λ design. design ≡ record { config = config; plan = plan; kit = kit }))

-- the plan after the configuration
abbrev pub IsDesignOf : Files → Config → Result Design Refusal → Type 0
IsDesignOf files config = Then (IsPlanned config) (IsDesignWith files config)

-- the design that the file of this name asks for: the configuration first
abbrev pub IsDesign : Files → List ℕ → Result Design Refusal → Type 0
IsDesign files name = Then (IsConfigFile files name) (IsDesignOf files)

-- what is known of every design that is read
pub record IsGoodDesign (design : Design) : Type 0 where
  pub config : IsConfig design.config
  pub planned : IsPlanOf design.config design.plan
  pub numbers : ArePlanNumbers (numbers_of design.plan)
  pub kit : IsKit design.kit
