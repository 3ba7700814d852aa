-- A table of the document with its path, as data.
use Rattle.std.specs.Prelude.{string_bytes}
use Rattle.toml.specs.View.{view}
use Rattle.toml_keys.specs.declared.table.KeyTable.{KeyTable}
use Rattle.toml_keys.specs.Fault.{KeyFaults}
use Rattle.toml_keys.specs.Keys.{Section}

abbrev pub section_of : {F : Type 0} → KeyFaults F → KeyTable F → Section F
section_of faults t = record { path = string_bytes t.path; table = view t.table.now; faults = faults }
