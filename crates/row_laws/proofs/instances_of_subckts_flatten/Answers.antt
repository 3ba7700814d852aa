use Rattle.std.proofs.Common.{List}
use Rattle.spice_netlist.specs.Pins.{NamedPin}
use Rattle.row_laws.proofs.FlatLaws.{flat_cell}
use Rattle.row_laws.proofs.instances_of_subckts_flatten.Goals as goal

pub returns : goal.returns
returns c subckts above see f p k groups there no_leaf sized inner = flat_cell (λ (rows : List NamedPin). rows) subckts above see f p k groups there no_leaf sized inner
