-- A deck whose names are resolved: in lower case, each instance with the index of its subcircuit.
use Rattle.std.specs.Prelude.{ℕ, Bool, ◌&&◌, ◌||◌, not, is_some, List, [], ◌∷◌, map, Option, true, if◌then◌else◌, filter_map, slice_index_or, false}
use Rattle.netlist.specs.declared.deck.Subckt.{Subckt}
use Rattle.netlist.specs.declared.deck.Instance.{Instance}
use Rattle.spice_netlist.specs.declared.resolved.ResolvedSubckt.{ResolvedSubckt}
use Rattle.spice_netlist.specs.declared.resolved.ResolvedInstance.{ResolvedInstance}
use Rattle.spice_text.specs.Words.{lower}
use Rattle.spice_netlist.specs.Names.{same_name, index_of}

-- the names of the subcircuits
abbrev pub names_of : List Subckt → List (List ℕ)
names_of subckts = map (λ s. lower s.name) subckts

-- an instance, where `index` says at which index a subcircuit of a name stands
abbrev pub resolved_instance : (List ℕ → Option ℕ) → Instance → ResolvedInstance
resolved_instance index i = record {
  name = lower i.name;
  nodes = map lower i.nodes;
  of = lower i.of;
  index = index (lower i.of);
}

-- no instances
abbrev pub is_bare : List Instance → Bool
is_bare [] = true
is_bare (i ∷ is) = false

-- the subcircuit isn't the top, and is named as a leaf or has no instances
abbrev pub is_leaf : List ℕ → (List ℕ → Option ℕ) → Subckt → Bool
is_leaf top leaf s = not (same_name (lower s.name) top) && (is_some (leaf (lower s.name)) || is_bare s.instances)

-- a subcircuit; the instances of a leaf aren't looked at
abbrev pub resolved_subckt : List ℕ → (List ℕ → Option ℕ) → (List ℕ → Option ℕ) → Subckt → ResolvedSubckt
resolved_subckt top leaf index s = record {
  name = lower s.name;
  ports = map lower s.ports;
  leaf = is_leaf top leaf s;
  instances = if is_leaf top leaf s then [] else map (resolved_instance index) s.instances;
}

-- the subcircuits of a deck, for a top in lower case and these leaves
abbrev pub resolved_subckts : List Subckt → List ℕ → List (List ℕ) → List ResolvedSubckt
resolved_subckts subckts top leaves =
    map (resolved_subckt top (index_of (map lower leaves)) (index_of (names_of subckts))) subckts

-- of the subcircuit at an index
abbrev pub subckt_name_at : List ResolvedSubckt → ℕ → List ℕ
subckt_name_at subckts index = slice_index_or (map (λ b. b.name) subckts) index []

abbrev pub ports_at : List ResolvedSubckt → ℕ → List (List ℕ)
ports_at subckts index = slice_index_or (map (λ b. b.ports) subckts) index []

abbrev pub leaf_at : List ResolvedSubckt → ℕ → Bool
leaf_at subckts index = slice_index_or (map (λ b. b.leaf) subckts) index false

abbrev pub instances_at : List ResolvedSubckt → ℕ → List ResolvedInstance
instances_at subckts index = slice_index_or (map (λ b. b.instances) subckts) index []

-- the indices of the subcircuits that the instances are instances of
abbrev pub subckt_references : List ResolvedInstance → List ℕ
subckt_references instances = filter_map (λ p. p.index) instances

-- for each subcircuit, the indices of those that it refers to
abbrev pub graph : List ResolvedSubckt → List (List ℕ)
graph subckts = map (λ b. subckt_references b.instances) subckts
