-- What is found in the leaf cells, role by role.
use Rattle.std.proofs.Common.{◌≡◌, inl, inr, ℕ, ◌+◌, ◌<◌, List, [], ◌∷◌, ◌++◌, length, Some, refl, sym, ap, subst, length-append, arith}
use Rattle.std.specs.Prelude.{slice_get}
use Rattle.std.proofs.lemmas.Bool.{cases_lt}
use Rattle.std.proofs.lemmas.Option.{slice_get_within}
use Rattle.or_geom.proofs.ListLaws.{one_at}
use Rattle.cell_hierarchy.proofs.CellLaws.{after_push, IsLast}
use Rattle.cell_roles.specs.declared.role.Role.{Role}
use Rattle.cell_roles.specs.Roles.{all_roles}
use Rattle.leaf_tables.specs.declared.kit.Kit.{Kit}
use Rattle.leaf_nets.specs.declared.leaves.LooseLeaf.{LooseLeaf}
use Rattle.leaf_nets.specs.Leaves.{HasRightPins, HasWrongPin, HaveRightPins, HasFirstWrongPin, IsLooseLeaf, AreLooseLeaves}

-- The leaf cells of the roles before a place are right, and these are their loose shapes.
pub record KitSoFar (kit : Kit) (i : ℕ) (leaves : List LooseLeaf) : Type 0 where
  pub right : (place : ℕ) (role : Role) → place < i → slice_get all_roles place ≡ Some role → HasRightPins kit role
  pub sized : length leaves ≡ i
  pub each : (place : ℕ) (role : Role) (leaf : LooseLeaf) → slice_get all_roles place ≡ Some role → slice_get leaves place ≡ Some leaf → IsLooseLeaf kit role leaf

pub kit_begins : (kit : Kit) → KitSoFar kit 0 []
kit_begins kit = record {
  right = λ place role lt there. absurd (omega (arith, lt));
  sized = refl;
  each = λ place role leaf there here. let within = slice_get_within [] place leaf here in absurd (omega (arith, within));
}

pub kit_more : (kit : Kit) (i : ℕ) (role : Role) (leaf : LooseLeaf) (leaves next : List LooseLeaf) → slice_get all_roles i ≡ Some role → next ≡ leaves ++ leaf ∷ [] → HasRightPins kit role → IsLooseLeaf kit role leaf → KitSoFar kit i leaves → KitSoFar kit (i + 1) next
kit_more kit i role leaf leaves next here is right loose far = record {
  right = λ place other lt there. elim (cases_lt place i) [
    | inl less ↦ far.right place other less there
    | inr ge ↦ let e : place ≡ i = omega (arith, lt, ge) in subst (HasRightPins kit) (one_at all_roles i role other here (subst (λ (k : ℕ). slice_get all_roles k ≡ Some other) e there)) right
  ];
  sized = let long = length-append leaves (leaf ∷ []) in let s = far.sized in let e = ap length is in omega (arith, long, s, e);
  each = λ place other one there at. elim (after_push leaves leaf place one (subst (λ (l : List LooseLeaf). slice_get l place ≡ Some one) is at)) [
    | inl old ↦ far.each place other one there old
    | inr last ↦ last_is place other one there last
  ];
}
  where
    last_is : (place : ℕ) (other : Role) (one : LooseLeaf) → slice_get all_roles place ≡ Some other → IsLast leaves leaf place one → IsLooseLeaf kit other one
    last_is place other one there last =
        let s = far.sized in
        let p = last.place in
        let e : place ≡ i = omega (arith, s, p) in
        let same : role ≡ other = one_at all_roles i role other here (subst (λ (k : ℕ). slice_get all_roles k ≡ Some other) e there) in
        subst (λ (l : LooseLeaf). IsLooseLeaf kit other l) (sym last.is) (subst (λ (r : Role). IsLooseLeaf kit r leaf) same loose)

pub kit_wrong : (kit : Kit) (i : ℕ) (role : Role) (pin : List ℕ) (leaves : List LooseLeaf) → slice_get all_roles i ≡ Some role → HasWrongPin kit role pin → KitSoFar kit i leaves → HasFirstWrongPin kit role pin
kit_wrong kit i role pin leaves here wrong far = record { place = i; there = here; wrong = wrong; before = λ earlier other lt there. far.right earlier other lt there }

pub kit_ends : (kit : Kit) (i : ℕ) (leaves : List LooseLeaf) → i ≡ length all_roles → KitSoFar kit i leaves → HaveRightPins kit × AreLooseLeaves kit leaves
kit_ends kit i leaves all far = (
  (λ place role there. let within = slice_get_within all_roles place role there in far.right place role (omega (arith, within, all)) there),
  record { sized = let s = far.sized in omega (arith, s, all); each = far.each },
)
