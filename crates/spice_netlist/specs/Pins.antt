-- The pins of the leaf instances of a walk, and the named rows of a top.
use Rattle.std.specs.Prelude.{ℕ, ◌+◌, List, [], ◌∷◌, ◌++◌, map, if◌then◌else◌, slice_index_or}
use Rattle.std.specs.List.{flat_map}
use Rattle.spice_netlist.specs.declared.resolved.ResolvedSubckt.{ResolvedSubckt}
use Rattle.spice_netlist.specs.Resolved.{subckt_name_at, ports_at, leaf_at}
use Rattle.spice_netlist.specs.declared.resolved.ResolvedInstance.{ResolvedInstance}
use Rattle.spice_netlist.specs.Walk.{FlatNet, local, FlatInstance, net_above, path_above, walk_at}

-- a pin of a leaf instance: the names of the instances down to the leaf, separated by /, the index of the leaf, its own
-- among the leaf's ports, and its net
pub record InstancePin : Type 0 where
  pub path : List ℕ
  pub of : ℕ
  pub port : ℕ
  pub net : FlatNet

-- pins from this port on, which are on the nets in their order
abbrev pub pins_from : List ℕ → ℕ → ℕ → List FlatNet → List InstancePin
pins_from path of port [] = []
pins_from path of port (net ∷ nets) =
    record { path = path; of = of; port = port; net = net } ∷ pins_from path of (port + 1) nets

-- a pin inside the instance, seen from outside
abbrev pub pin_above : ResolvedInstance → List (List ℕ) → InstancePin → InstancePin
pin_above instance ports p = record {
  path = path_above instance p.path;
  of = p.of;
  port = p.port;
  net = net_above instance ports p.net;
}

-- the pins of the instance, where it is one of a leaf
abbrev pub pins_in : List ResolvedSubckt → FlatInstance → List InstancePin
pins_in subckts v = if leaf_at subckts v.of then pins_from v.path v.of 0 v.nets else []

-- the pins of the leaf instances
abbrev pub pins_of : List ResolvedSubckt → List FlatInstance → List InstancePin
pins_of subckts visits = flat_map (pins_in subckts) visits

-- a row before nets are numbered
pub record NamedPin : Type 0 where
  pub path : List ℕ
  pub leaf : List ℕ
  pub pin : List ℕ
  pub net : FlatNet

-- a port of the top
abbrev pub port_row : List ℕ → NamedPin
port_row port = record { path = []; leaf = []; pin = port; net = local port }

-- a pin of a leaf instance
abbrev pub pin_row : List ResolvedSubckt → InstancePin → NamedPin
pin_row subckts p = record {
  path = p.path;
  leaf = subckt_name_at subckts p.of;
  pin = slice_index_or (ports_at subckts p.of) p.port [];
  net = p.net;
}

-- the top's ports, and then the pins of the leaf instances
abbrev pub named_rows : List ResolvedSubckt → ℕ → List NamedPin
named_rows subckts top =
    map port_row (ports_at subckts top) ++ map (pin_row subckts) (pins_of subckts (walk_at subckts top))
