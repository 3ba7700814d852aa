-- The walk through a hierarchy, depth first.
use Rattle.std.specs.Prelude.{ℕ, zero, suc, ◌+◌, nat_eq, List, [], ◌∷◌, ◌++◌, length, map, Option, None, Some, if◌then◌else◌, slice_index_or}
use Rattle.std.specs.List.{flat_map}
use Rattle.spice_netlist.specs.declared.resolved.ResolvedSubckt.{ResolvedSubckt}
use Rattle.spice_netlist.specs.declared.resolved.ResolvedInstance.{ResolvedInstance}
use Rattle.spice_netlist.specs.Names.{index_of}
use Rattle.spice_netlist.specs.Resolved.{ports_at, leaf_at, instances_at}

-- a net: the names of the instances down to the outermost subcircuit in which it is local, and its name there
pub record FlatNet : Type 0 where
  pub path : List (List ℕ)
  pub name : List ℕ

-- a net that is local
abbrev pub local : List ℕ → FlatNet
local name = record { path = []; name = name }

-- an instance that the walk comes to: its path, the index of its subcircuit, and the nets of its nodes
pub record FlatInstance : Type 0 where
  pub path : List ℕ
  pub of : ℕ
  pub nets : List FlatNet

-- the node at the port's index, or a net inside
abbrev pub node_or : FlatNet → List (List ℕ) → Option ℕ → FlatNet
node_or inside nodes None = inside
node_or inside nodes (Some index) = local (slice_index_or nodes index [])

-- the net of this path and name inside the instance, seen from outside: a port is joined with the instance's node,
-- another net is local inside
abbrev pub net_by : ResolvedInstance → List (List ℕ) → List (List ℕ) → List ℕ → FlatNet
net_by instance ports [] name =
    node_or (record { path = instance.name ∷ []; name = name }) instance.nodes (index_of ports name)
net_by instance ports (i ∷ path) name = record { path = instance.name ∷ i ∷ path; name = name }

abbrev pub net_above : ResolvedInstance → List (List ℕ) → FlatNet → FlatNet
net_above instance ports net = net_by instance ports net.path net.name

-- a path inside the instance, seen from outside
abbrev pub path_above : ResolvedInstance → List ℕ → List ℕ
path_above instance path = instance.name ++ 47 ∷ path

-- an instance inside the instance, seen from outside
abbrev pub visit_above : ResolvedInstance → List (List ℕ) → FlatInstance → FlatInstance
visit_above instance ports v = record {
  path = path_above instance v.path;
  of = v.of;
  nets = map (net_above instance ports) v.nets;
}

-- the instance itself, and then what the walk comes to inside it; nothing where its subcircuit isn't there
abbrev pub visits_in : List ResolvedSubckt → (ℕ → List FlatInstance) → ResolvedInstance → Option ℕ → List FlatInstance
visits_in subckts inside instance None = []
visits_in subckts inside instance (Some index) =
    record { path = instance.name; of = index; nets = map local instance.nodes }
    ∷ map (visit_above instance (ports_at subckts index)) (inside index)

-- the walk through the instances, by what it comes to inside the subcircuit at an index
abbrev pub visits_by : List ResolvedSubckt → (ℕ → List FlatInstance) → List ResolvedInstance → List FlatInstance
visits_by subckts inside instances = flat_map (λ p. visits_in subckts inside p p.index) instances

-- the walk through the instances, so many levels deep
abbrev pub visits : List ResolvedSubckt → ℕ → List ResolvedInstance → List FlatInstance
visits subckts zero instances = []
visits subckts (suc depth) instances =
    visits_by subckts (λ index. visits subckts depth (instances_at subckts index)) instances

-- the walk through the subcircuit at an index: without cycles there are no more levels than subcircuits
abbrev pub walk_at : List ResolvedSubckt → ℕ → List FlatInstance
walk_at subckts index = visits subckts (length subckts) (instances_at subckts index)

-- the path of the first instance whose nodes aren't as many as its subcircuit's ports
abbrev pub first_bad : List ResolvedSubckt → List FlatInstance → Option (List ℕ)
first_bad subckts [] = None
first_bad subckts (v ∷ vs) =
    if nat_eq (length v.nets) (length (ports_at subckts v.of)) then first_bad subckts vs else Some v.path

-- how many instances of leaves there are
abbrev pub leaf_count : List ResolvedSubckt → List FlatInstance → ℕ
leaf_count subckts [] = 0
leaf_count subckts (v ∷ vs) = (if leaf_at subckts v.of then 1 else 0) + leaf_count subckts vs
