-- What the walk sees of a subcircuit that it is in.
use Rattle.std.specs.Prelude.{ℕ, ◌≤◌, ◌+◌, List, [], ◌∷◌, ◌++◌, map, take, Option, None, Some, slice_index_or}
use Rattle.spice_netlist.specs.declared.resolved.ResolvedSubckt.{ResolvedSubckt}
use Rattle.spice_netlist.specs.declared.resolved.ResolvedInstance.{ResolvedInstance}
use Rattle.spice_netlist.specs.declared.instance_path.InstancePath.{InstancePath}
use Rattle.spice_netlist.specs.declared.level.WalkLevel.{WalkLevel}
use Rattle.spice_netlist.specs.declared.level.LevelNet.{LevelNet}
use Rattle.spice_netlist.specs.Found.{found}
use Rattle.spice_netlist.specs.Walk.{FlatNet, local, FlatInstance}
use Rattle.spice_netlist.specs.Pins.{NamedPin}
use Rattle.spice_netlist.specs.NetKeys.{path_key}

-- the key of a net, where this is the path
abbrev pub level_key : List ℕ → LevelNet → List ℕ
level_key net_path n = take n.prefix net_path ++ n.name.now

-- the net whose name is the key
abbrev pub keyed_net : List ℕ → LevelNet → FlatNet
keyed_net net_path n = local (level_key net_path n)

-- no net has more of the path than so many bytes
abbrev pub AreWithinPath : ℕ → List LevelNet → Type 0
AreWithinPath net_path [] = Unit {0}
AreWithinPath net_path (n ∷ ns) = (n.prefix ≤ net_path) × AreWithinPath net_path ns

-- a subcircuit, seen from the top: the names of the instances down to it, each with a / and each with an A behind it,
-- which port a name is, and the keys of the ports' nets
pub record View : Type 0 where
  pub path : List ℕ
  pub inside : List ℕ
  pub find : List ℕ → Option ℕ
  pub nets : List (List ℕ)

-- the key of the port at the index, or that of a net inside
abbrev pub key_or : List ℕ → List (List ℕ) → Option ℕ → List ℕ
key_or inside keys None = inside
key_or inside keys (Some index) = slice_index_or keys index []

-- the key of the subcircuit's own net of this name, seen from the top
abbrev pub seen_name : View → List ℕ → List ℕ
seen_name v name = key_or (v.inside ++ name) v.nets (v.find name)

-- the key of a net of this path and name inside the subcircuit, seen from the top
abbrev pub seen_key : View → List (List ℕ) → List ℕ → List ℕ
seen_key v [] name = seen_name v name
seen_key v (i ∷ path) name = v.inside ++ path_key (i ∷ path) name

-- the net whose name is the key
abbrev pub seen_net : View → FlatNet → FlatNet
seen_net v net = local (seen_key v net.path net.name)

-- an instance inside, seen from the top
abbrev pub seen_visit : View → FlatInstance → FlatInstance
seen_visit v x = record { path = v.path ++ x.path; of = x.of; nets = map (seen_net v) x.nets }

-- the view of a level, where this is the path
abbrev pub view_of : List ℕ → List ℕ → WalkLevel → View
view_of path net f = record {
  path = take f.prefix path;
  inside = take f.prefix net;
  find = found f.ports.now;
  nets = map (level_key net) f.nets.items;
}

-- the instance itself, of the subcircuit at the index, where this is the path to it
abbrev pub own_visit : InstancePath → ResolvedInstance → ℕ → List LevelNet → FlatInstance
own_visit above i index nets = record { path = above.path.items ++ i.name; of = index; nets = map (keyed_net above.net.items) nets }

-- the rows of an instance of a leaf from this port on, whose nets are these in their order
abbrev pub leaf_rows : ResolvedSubckt → List ℕ → List ℕ → ℕ → List LevelNet → List NamedPin
leaf_rows subckt path net_path port [] = []
leaf_rows subckt path net_path port (net ∷ nets) =
    record { path = path; leaf = subckt.name; pin = slice_index_or subckt.ports port []; net = keyed_net net_path net }
    ∷ leaf_rows subckt path net_path (port + 1) nets
