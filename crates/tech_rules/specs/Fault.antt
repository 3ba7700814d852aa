-- The faults of a technology file, and a table of it.
use Rattle.toml_keys.specs.Fault.{KeyFaults}
use Rattle.tech_rules.specs.declared.fault.TechFault.{TechFault}
use Rattle.tech_rules.specs.declared.fault.TechFault.TheVariants.{Missing, WrongKind, OutOfRange, Memory}

-- the faults of its keys
abbrev pub tech_faults : KeyFaults TechFault
tech_faults = record { missing = Missing; wrong_kind = WrongKind; out_of_range = OutOfRange; memory = Memory }
