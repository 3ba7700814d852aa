-- What a walk flattens to: the rows of known instances of leaves, with good ports.
use Rattle.std.specs.Prelude.{◌≡◌, ℕ, List, [], ◌∷◌, ◌++◌, length, map, None}
use Rattle.std.specs.List.{flat_map}
use Rattle.spice_netlist.specs.declared.resolved.ResolvedSubckt.{ResolvedSubckt}
use Rattle.spice_netlist.specs.declared.resolved.ResolvedInstance.{ResolvedInstance}
use Rattle.spice_netlist.specs.Resolved.{ports_at}
use Rattle.spice_netlist.specs.Walk.{FlatNet, local, FlatInstance, net_above, first_bad, leaf_count}
use Rattle.spice_netlist.specs.NetKeys.{path_key}
use Rattle.spice_netlist.specs.Pins.{NamedPin, pins_of, pin_row}

-- an instance, seen from the top: `above` is the path to the subcircuit in which the walk began, `see` gives the keys of nets
abbrev pub moved : List ℕ → (FlatNet → List ℕ) → FlatInstance → FlatInstance
moved above see v = record { path = above ++ v.path; of = v.of; nets = map (λ n. local (see n)) v.nets }

abbrev pub rows_from : List ResolvedSubckt → List ℕ → (FlatNet → List ℕ) → List FlatInstance → List NamedPin
rows_from subckts above see vs = map (pin_row subckts) (pins_of subckts (map (moved above see) vs))

-- a leaf's pins in order, each with the key of its net
abbrev pub zip_rows : List ℕ → List ℕ → List (List ℕ) → List (List ℕ) → List NamedPin
zip_rows path leaf [] nets = []
zip_rows path leaf (pin ∷ pins) [] = []
zip_rows path leaf (pin ∷ pins) (net ∷ nets) = record { path = path; leaf = leaf; pin = pin; net = local net } ∷ zip_rows path leaf pins nets

-- the rows of the leaf instances that a walk comes to are those of `xs` in order, and each instance has as many nodes as
-- its subcircuit has ports
pub record Flattens {X : Type 0} (row_of : X → List NamedPin) (subckts : List ResolvedSubckt) (above : List ℕ)
    (see : FlatNet → List ℕ) (vs : List FlatInstance) (xs : List X) : Type 0 where
  pub rows : rows_from subckts above see vs ≡ flat_map row_of xs
  pub good : first_bad subckts vs ≡ None
  pub leaves : leaf_count subckts vs ≡ length xs

-- the path into an instance, and the keys of the nets inside it
abbrev pub path_in : List ℕ → ResolvedInstance → List ℕ
path_in above p = above ++ (p.name ++ (47 ∷ []))

abbrev pub see_in : List ResolvedSubckt → (FlatNet → List ℕ) → ResolvedInstance → ℕ → FlatNet → List ℕ
see_in subckts see p k n = see (net_above p (ports_at subckts k) n)

-- a net that is local further inside has this key
abbrev pub IsDeep : (FlatNet → List ℕ) → List ℕ → Type 0
IsDeep see inside = (instance : List ℕ) (path : List (List ℕ)) (name : List ℕ)
    → see (record { path = instance ∷ path; name = name }) ≡ inside ++ path_key (instance ∷ path) name

-- inside an instance
abbrev pub inside_instance : List ℕ → List ℕ → List ℕ
inside_instance inside name = inside ++ (name ++ (65 ∷ []))
