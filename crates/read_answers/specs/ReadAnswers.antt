-- What bytes are read as: never refused for want of memory, and good where they are read.
use Rattle.std.specs.Prelude.{◌≡◌, ◌≢◌, ℕ, List, Ok, Err}
use Rattle.tech_rules.specs.Technology.{technology}
use Rattle.tech_rules.specs.declared.fault.TechFault.{TechFault}
use Rattle.tech_rules.specs.declared.fault.TechFault.TheVariants as tech_fault
use Rattle.sram_plan.specs.Config.{IsConfig}
use Rattle.sram_plan.specs.Configuration.{configuration}
use Rattle.sram_plan.specs.declared.config.Config.{Config}
use Rattle.sram_plan.specs.declared.fault.ConfigFault.{ConfigFault}
use Rattle.sram_plan.specs.declared.fault.ConfigFault.TheVariants as config_fault

-- bytes that are no technology have a fault that is no want of memory
abbrev pub TechnologiesLast : Type 0
TechnologiesLast = (bytes : List ℕ) (fault : TechFault) → technology bytes ≡ Err fault → fault ≢ tech_fault.Memory

-- and so have bytes that are no configuration
abbrev pub ConfigurationsLast : Type 0
ConfigurationsLast = (bytes : List ℕ) (fault : ConfigFault) → configuration bytes ≡ Err fault → fault ≢ config_fault.Memory

-- a configuration that bytes are is one that a memory can be made of
abbrev pub ConfigurationsAreGood : Type 0
ConfigurationsAreGood = (bytes : List ℕ) (config : Config) → configuration bytes ≡ Ok config → IsConfig config
