-- Subcircuits whose names are in lower case.
use Rattle.std.specs.Prelude.{◌≡◌, List, map}
use Rattle.std.specs.List.{AllByRecursion}
use Rattle.spice_netlist.specs.declared.resolved.ResolvedSubckt.{ResolvedSubckt}
use Rattle.spice_netlist.specs.declared.resolved.ResolvedInstance.{ResolvedInstance}
use Rattle.spice_text.specs.Words.{lower}

pub record IsLowInstance (i : ResolvedInstance) : Type 0 where
  pub name : lower i.name ≡ i.name
  pub nodes : map lower i.nodes ≡ i.nodes

pub record IsLowSubckt (s : ResolvedSubckt) : Type 0 where
  pub ports : map lower s.ports ≡ s.ports
  pub instances : AllByRecursion IsLowInstance s.instances

abbrev pub AreLow : List ResolvedSubckt → Type 0
AreLow subckts = AllByRecursion IsLowSubckt subckts
