-- What is proved of the netlist and its names.
use Rattle.std.specs.Prelude.{◌≡◌}
use Rattle.sram_netlist.specs.Organization.{Organization, IsBuildable}
use Rattle.sram_netlist.specs.Nets.{Net}
use Rattle.sram_netlist.specs.Instances.{LeafInstance}
use Rattle.sram_netlist.specs.InstanceList.{leaf_instances}
use Rattle.sram_netlist.specs.Membership.{IsOneOf, HasLeafInstance, HasLeafNet, IsNameable}
use Rattle.sram_netlist.specs.Names.{full_name}

-- two nets of a memory have one name, seen from the top, only where they are one net
abbrev pub TextsTell : Type 0
TextsTell = (plan : Organization) (x y : Net) → IsBuildable plan → IsNameable plan x → IsNameable plan y → full_name plan x ≡ full_name plan y → x ≡ y

-- the list of a memory's instances has exactly those that it has
abbrev pub ListsAgree : Type 0
ListsAgree = (plan : Organization) (leaf : LeafInstance) → (IsOneOf leaf (leaf_instances plan) → HasLeafInstance plan leaf) × (HasLeafInstance plan leaf → IsOneOf leaf (leaf_instances plan))

-- the nets on the ports of instances are among those that have names of their own
abbrev pub NetsNamed : Type 0
NetsNamed = (plan : Organization) (x : Net) → HasLeafNet plan x → IsNameable plan x
