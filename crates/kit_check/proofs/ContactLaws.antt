-- The loose shapes of a kit's leaf cells: any lists of them touch the same.
use Rattle.std.proofs.Common.{◌≡◌, ℕ, ◌<◌, Bool, List, [], ◌∷◌, inl, inr, length, get_or, Some, refl, sym, subst, ◌∙◌, arith}
use Rattle.std.specs.Prelude.{◌↔◌, slice_get, Contains, IsTrue}
use Rattle.std.proofs.lemmas.List.{length-map, same_lists}
use Rattle.std.proofs.lemmas.Option.{same_Some, slice_get_within, slice_get_read, get_or_from_slice_get}
use Rattle.or_geom.specs.declared.shape.Shape.{Shape}
use Rattle.or_geom.specs.Distance.{IsReachable}
use Rattle.or_geom.specs.Reachable.{AreReachable}
use Rattle.or_geom.proofs.ListLaws.{contained_at, contains_cases, contains_first, contains_later, contains_none}
use Rattle.gds_library.specs.declared.library.Structure.{Structure}
use Rattle.cell_roles.specs.declared.role.Role.{Role}
use Rattle.cell_roles.specs.Roles.{all_roles, role_ports}
use Rattle.cell_hierarchy.specs.Plain.{FlatLists}
use Rattle.cell_hierarchy.proofs.OneListsLaws.{shapes_of_lists}
use Rattle.cell_hierarchy.proofs.FlatNearLaws.{flat_near}
use Rattle.leaf_shapes.proofs.PinLaws.{exists_at}
use Rattle.leaf_tables.specs.declared.kit.Kit.{Kit}
use Rattle.leaf_nets.specs.declared.leaves.LooseLeaf.{LooseLeaf}
use Rattle.leaf_nets.specs.Loose.{IsLoose}
use Rattle.leaf_nets.specs.Leaves.{IsLooseLeaf, AreLooseLeaves}
use Rattle.leaf_nets.proofs.TakeLaws.{mapped_at}
use Rattle.leaf_contacts.specs.Chains.{Reference, IsInstance}
use Rattle.leaf_contacts.specs.Contact.{leaf_cell_names, HasLooseContact, IsLooseAt}
use Rattle.leaf_contacts.specs.Marks.{AreNearLeaves}
use Rattle.kit_check.specs.Judged.{TouchesOutside}
use Rattle.kit_check.proofs.PinLaws.{one_leaf}

-- they lie near the origin

reachable_listed : (shapes : List Shape) (s : Shape) → AreReachable shapes → Contains shapes s → IsReachable s.rect
reachable_listed [] s near h = absurd (contains_none s h)
reachable_listed (t ∷ ts) s near h = elim (contains_cases t ts s h) [ inl e ↦ subst (λ (x : Shape). IsReachable x.rect) (sym e) near.0 | inr later ↦ reachable_listed ts s near.1 later ]

reachable_if : (shapes : List Shape) → ((s : Shape) → Contains shapes s → IsReachable s.rect) → AreReachable shapes
reachable_if [] near = tt
reachable_if (s ∷ ss) near = (near s (contains_first s ss), reachable_if ss (λ t h. near t (contains_later s ss t h)))

-- the leaf at a place, its role, and the leaf of another list there
record ArePaired (kit : Kit) (leaves : List LooseLeaf) (place : ℕ) (leaf : LooseLeaf) : Type 0 where
  role : Role
  other : LooseLeaf
  there : slice_get leaves place ≡ Some other
  of_leaf : IsLooseLeaf kit role leaf
  of_other : IsLooseLeaf kit role other

paired : (kit : Kit) (a b : List LooseLeaf) (place : ℕ) (leaf : LooseLeaf) → AreLooseLeaves kit a → AreLooseLeaves kit b → slice_get b place ≡ Some leaf → ArePaired kit a place leaf
paired kit a b place leaf p q here =
    let within = slice_get_within b place leaf here in
    let long_a = p.sized in
    let long_b = q.sized in
    let role = exists_at all_roles place (omega (arith, within, long_b)) in
    let other = exists_at a place (omega (arith, within, long_a, long_b)) in
    record { role = role.0; other = other.0; there = other.1; of_leaf = q.each place role.0 leaf role.1 here; of_other = p.each place role.0 other.0 role.1 other.1 }

same_cell : (kit : Kit) (role : Role) (x y : LooseLeaf) → IsLooseLeaf kit role x → IsLooseLeaf kit role y → x.cell ≡ y.cell
same_cell kit role x y p q = same_Some x.cell y.cell (sym p.flat.plays ∙ q.flat.plays)

same_shapes : (kit : Kit) (role : Role) (x y : LooseLeaf) (inner : Shape) → IsLooseLeaf kit role x → IsLooseLeaf kit role y → Contains x.shapes inner → Contains y.shapes inner
same_shapes kit role x y inner p q h =
    let lists : p.lists ≡ q.lists = one_leaf kit role x.cell y.cell p.lists q.lists p.flat q.flat in
    (q.loose inner).1 (subst (λ (l : FlatLists). IsLoose kit.tech.connects l (role_ports role) inner) lists ((p.loose inner).0 h))

place_of : (leaves : List LooseLeaf) (leaf : LooseLeaf) (listed : Contains leaves leaf) → slice_get leaves listed.0 ≡ Some leaf
place_of leaves leaf listed = slice_get_read leaves (length leaves) listed.0 leaf refl listed.1 (sym listed.2)

pub near_leaves : (kit : Kit) (leaves : List LooseLeaf) → AreLooseLeaves kit leaves → AreNearLeaves leaves
near_leaves kit leaves p leaf listed =
    let at = paired kit leaves leaves listed.0 leaf p p (place_of leaves leaf listed) in
    let lists = at.of_leaf.lists in
    let near = flat_near kit.tech.layers kit.lib.structs leaf.cell lists.shapes (shapes_of_lists kit.tech.layers kit.lib.structs leaf.cell lists at.of_leaf.flat.flat) in
    reachable_if leaf.shapes (λ s h. reachable_listed lists.shapes s near ((at.of_leaf.loose s).0 h).listed)

same_names : (kit : Kit) (a b : List LooseLeaf) → AreLooseLeaves kit a → AreLooseLeaves kit b → leaf_cell_names b ≡ leaf_cell_names a
same_names kit a b p q = same_lists (leaf_cell_names b) (leaf_cell_names a) long same
  where
    long : length (leaf_cell_names b) ≡ length (leaf_cell_names a)
    long = length-map b (λ (leaf : LooseLeaf). leaf.cell) ∙ (q.sized ∙ (sym p.sized ∙ sym (length-map a (λ (leaf : LooseLeaf). leaf.cell))))

    same : (k : ℕ) (d : List ℕ) → k < length (leaf_cell_names b) → get_or (leaf_cell_names b) k d ≡ get_or (leaf_cell_names a) k d
    same k d lt =
        let count = length-map b (λ (leaf : LooseLeaf). leaf.cell) in
        let here = exists_at b k (omega (arith, lt, count)) in
        let at = paired kit a b k here.0 p q here.1 in
        get_or_from_slice_get (leaf_cell_names b) k here.0.cell d (mapped_at (λ (leaf : LooseLeaf). leaf.cell) b k here.0 here.1)
        ∙ (same_cell kit at.role here.0 at.other at.of_leaf at.of_other ∙ sym (get_or_from_slice_get (leaf_cell_names a) k at.other.cell d (mapped_at (λ (leaf : LooseLeaf). leaf.cell) a k at.other at.there)))

loose_as : (kit : Kit) (structs : List Structure) (top : List ℕ) (a b : List LooseLeaf) (chain : List Reference) (shape : Shape) → AreLooseLeaves kit a → AreLooseLeaves kit b → IsLooseAt structs top b chain shape → IsLooseAt structs top a chain shape
loose_as kit structs top a b chain shape p q h =
    let at = paired kit a b h.listed.0 h.leaf p q (place_of b h.leaf h.listed) in
    let cell = same_cell kit at.role h.leaf at.other at.of_leaf at.of_other in
    record {
      leaf = at.other;
      listed = contained_at a h.listed.0 at.other at.there;
      instance = subst (λ (c : List ℕ). IsInstance (leaf_cell_names a) structs top chain c) cell (subst (λ (l : List (List ℕ)). IsInstance l structs top chain h.leaf.cell) (same_names kit a b p q) h.instance);
      inner = h.inner;
      loose = same_shapes kit at.role h.leaf at.other h.inner at.of_leaf at.of_other h.loose;
      moved = h.moved;
    }

contact_as : (kit : Kit) (structs : List Structure) (top : List ℕ) (a b : List LooseLeaf) → AreLooseLeaves kit a → AreLooseLeaves kit b → HasLooseContact kit.tech structs top b → HasLooseContact kit.tech structs top a
contact_as kit structs top a b p q h = record { chain = h.chain; shape = h.shape; loose = loose_as kit structs top a b h.chain h.shape p q h.loose; other = h.other; outside = h.outside; touch = h.touch }

-- what these touch is what any do
pub touching_is : (kit : Kit) (name : List ℕ) (structs : List Structure) (leaves : List LooseLeaf) → AreLooseLeaves kit leaves → HasLooseContact kit.tech structs name leaves ↔ TouchesOutside kit name structs
touching_is kit name structs leaves p = (
  (λ h. record { leaves = leaves; are = p; contact = h }),
  (λ t. contact_as kit structs name leaves t.leaves p t.are t.contact),
)

pub touching_found : (kit : Kit) (name : List ℕ) (structs : List Structure) (leaves : List LooseLeaf) (found : Bool) → AreLooseLeaves kit leaves → IsTrue found ↔ HasLooseContact kit.tech structs name leaves → IsTrue found ↔ TouchesOutside kit name structs
touching_found kit name structs leaves found p h = let is = touching_is kit name structs leaves p in ((λ t. is.0 (h.0 t)), (λ t. h.1 (is.1 t)))
