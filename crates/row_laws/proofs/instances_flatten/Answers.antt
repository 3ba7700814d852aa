use Rattle.std.proofs.Common.{List}
use Rattle.spice_netlist.specs.Pins.{NamedPin}
use Rattle.row_laws.proofs.FlatLaws.{flat_instances}
use Rattle.row_laws.proofs.instances_flatten.Goals as goal

pub returns : goal.returns
returns c subckts above see f ps qs before after a b = flat_instances (λ (rows : List NamedPin). rows) subckts above see f ps qs before after a b
