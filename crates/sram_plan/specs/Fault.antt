-- The faults of a configuration's keys.
use Rattle.toml_keys.specs.Fault.{KeyFaults}
use Rattle.sram_plan.specs.declared.fault.ConfigFault.{ConfigFault}
use Rattle.sram_plan.specs.declared.fault.ConfigFault.TheVariants.{Missing, WrongKind, OutOfRange, Memory}

abbrev pub config_faults : KeyFaults ConfigFault
config_faults = record { missing = λ key. Missing key; wrong_kind = λ key. WrongKind key; out_of_range = λ key. OutOfRange key; memory = Memory }
