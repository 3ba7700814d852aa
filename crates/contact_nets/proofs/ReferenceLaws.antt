-- References to the instances of drawn cells, and the leaf cells of a kit that is known.
use Rattle.std.proofs.Common.{◌≡◌, ◌∙◌, ℕ, zero, suc, ◌+◌, ◌<◌, List, [], ◌∷◌, ◌++◌, Some, refl, sym, ap, subst, arith}
use Rattle.std.specs.Prelude.{slice_get, map}
use Rattle.std.proofs.lemmas.Option.{same_Some}
use Rattle.gds_library.specs.declared.library.Element.{Element}
use Rattle.gds_library.specs.declared.library.Structure.{Structure}
use Rattle.cell_roles.specs.declared.role.Role.{Role}
use Rattle.tech_rules.specs.declared.tech.Layer.{Layer}
use Rattle.cell_hierarchy.specs.Plain.{FlatLists}
use Rattle.cell_hierarchy.specs.FlatLists.{AreFlatLists}
use Rattle.cell_hierarchy.proofs.OneListsLaws.{one_pair}
use Rattle.cell_builder.specs.declared.cell.DrawnCell.{DrawnCell}
use Rattle.cell_builder.specs.declared.cell.PlacedInstance.{PlacedInstance}
use Rattle.cell_builder.specs.Flat.{IsDrawn}
use Rattle.cell_builder.specs.Structures.{instance_element, wire_element, label_element}
use Rattle.sram_netlist.specs.InstanceList.{numbers_from, tabulate}
use Rattle.leaf_tables.specs.declared.kit.Kit.{Kit}
use Rattle.kit_rules.specs.Layout.{IsFlatLeaf}
use Rattle.leaf_contacts.specs.Chains.{Reference, IsReferenceOf}
use Rattle.kit_nets.specs.KitLeaf.{KnownLeaf}
use Rattle.good_nets.proofs.SeenLaws.{mapped_at}

pub left_at : {X : Type 0} (xs ys : List X) (k : ℕ) (x : X) → slice_get xs k ≡ Some x → slice_get (xs ++ ys) k ≡ Some x
left_at [] ys k x e = absurd cc
left_at (y ∷ xs) ys zero x e = e
left_at (y ∷ xs) ys (suc k) x e = left_at xs ys k x e

from_at : {X : Type 0} (f : ℕ → X) (n k i : ℕ) → i < n → slice_get (map f (numbers_from k n)) i ≡ Some (f (k + i))
from_at f zero k i lt = absurd (omega (arith, lt))
from_at f (suc n) k zero lt = ap (λ (j : ℕ). Some (f j)) (omega arith)
from_at f (suc n) k (suc i) lt = from_at f n (suc k) i (omega (arith, lt)) ∙ ap (λ (j : ℕ). Some (f j)) (omega arith)

zero_plus : (i : ℕ) → 0 + i ≡ i
zero_plus i = omega arith

one_more : (n i : ℕ) → suc (n + i) ≡ suc n + i
one_more n i = omega arith

-- behind what is made number by number
pub right_at : {X : Type 0} (f : ℕ → X) (n : ℕ) (ys : List X) (i : ℕ) (x : X) → slice_get ys i ≡ Some x → slice_get (tabulate n f ++ ys) (n + i) ≡ Some x
right_at f n ys i x e = go n 0 where
  go : (n k : ℕ) → slice_get (map f (numbers_from k n) ++ ys) (n + i) ≡ Some x
  go zero k = subst (λ (j : ℕ). slice_get ys j ≡ Some x) (sym (zero_plus i)) e
  go (suc n) k = subst (λ (j : ℕ). slice_get (f k ∷ (map f (numbers_from (suc k) n) ++ ys)) j ≡ Some x) (one_more n i) (go n (suc k))

-- what stands at a place of a list that is made number by number
pub made_at : {X : Type 0} (f : ℕ → X) (n i : ℕ) → i < n → slice_get (tabulate n f) i ≡ Some (f i)
made_at f n i lt = from_at f n 0 i lt ∙ ap (λ (j : ℕ). Some (f j)) (zero_plus i)

-- the reference to the instance at this place of its cell
abbrev pub reference_to : ℕ → PlacedInstance → Reference
reference_to k i = record { element = k; column = 0; row = 0; cell = i.of; place = i.place }

-- A drawn cell refers to each of its instances.
pub refers_to : (layers : List Layer) (structs : List Structure) (cell : DrawnCell) → IsDrawn layers structs cell → (k : ℕ) (i : PlacedInstance) → slice_get cell.instances k ≡ Some i → IsReferenceOf structs cell.name (reference_to k i)
refers_to layers structs cell drawn k i at =
    let there : slice_get drawn.sorted.instances k ≡ Some i = subst (λ (is : List PlacedInstance). slice_get is k ≡ Some i) (sym drawn.order.instances) at in
    let among = left_at (map instance_element drawn.sorted.instances) (map (wire_element layers) drawn.sorted.wires ++ map (label_element layers) drawn.sorted.labels) k (instance_element i) (mapped_at instance_element drawn.sorted.instances k i there) in
    record { element = instance_element i; there = subst (λ (es : List Element). slice_get es k ≡ Some (instance_element i)) (sym drawn.is) among; refers = (refl, refl, refl, refl) }

-- A role's cell and its flat lists are those that the kit knows.
pub known_lists : (kit : Kit) (known : (r : Role) → KnownLeaf kit r) (r : Role) (cell : List ℕ) (lists : FlatLists) → IsFlatLeaf kit r cell lists → (cell ≡ (known r).cell) × (lists ≡ (known r).lists)
known_lists kit known r cell lists is =
    let same : cell ≡ (known r).cell = same_Some cell (known r).cell (sym is.plays ∙ (known r).plays) in
    (same, one_pair kit.tech.layers kit.lib.structs (known r).cell lists (known r).lists (subst (λ (c : List ℕ). AreFlatLists kit.tech.layers kit.lib.structs c lists) same is.flat) (known r).flat)
