-- The loose shapes of leaf cells are listed, where a contradiction is to be shown.
use Rattle.std.proofs.Common.{◌≡◌, ◌⊎◌, inl, inr, ℕ, zero, suc, List, [], ◌∷◌, length, Some, refl, sym, ap, subst}
use Rattle.std.specs.Prelude.{Contains, slice_get, ◌↔◌}
use Rattle.std.proofs.lemmas.Option.{same_Some}
use Rattle.or_geom.proofs.ListLaws.{contains_none, contains_cases, contains_here, contains_later}
use Rattle.cell_roles.specs.declared.role.Role.{Role}
use Rattle.cell_roles.specs.Roles.{all_roles}
use Rattle.cell_roles.specs.Roles.{role_ports}
use Rattle.leaf_nets.specs.Loose.{IsLoose}
use Rattle.leaf_nets.specs.declared.leaves.LooseLeaf.{LooseLeaf}
use Rattle.leaf_nets.specs.Leaves.{HaveRightPins, HasRightPins, IsLooseLeaf, AreLooseLeaves}
use Rattle.leaf_tables.specs.declared.kit.Kit.{Kit}

-- exactly those of the items that have P
abbrev ArePicked : {X : Type 0} → (X → Type 0) → List X → List X → Type 0
ArePicked {X} P xs ys = (x : X) → Contains ys x ↔ (Contains xs x × P x)

either : {A : Type 0} → ((A ⊎ (A → ⊥)) → ⊥) → ⊥
either {A} k = k (inr (λ (a : A). k (inl a)))

none_picked : {X : Type 0} (P : X → Type 0) → ArePicked P [] []
none_picked {X} P x = (λ has. absurd (contains_none x has), λ both. absurd (contains_none x both.0))

with_first : {X : Type 0} (P : X → Type 0) (x : X) (xs ys : List X) → ArePicked P xs ys → P x → ArePicked P (x ∷ xs) (x ∷ ys)
with_first {X} P x xs ys picked here z = (
  λ has. elim (contains_cases x ys z has) [
    | inl e ↦ (contains_here x xs z e, subst P (sym e) here)
    | inr later ↦ let both = (picked z).0 later in (contains_later x xs z both.0, both.1)
  ],
  λ both. elim (contains_cases x xs z both.0) [
    | inl e ↦ contains_here x ys z e
    | inr later ↦ contains_later x ys z ((picked z).1 (later, both.1))
  ],
)

without_first : {X : Type 0} (P : X → Type 0) (x : X) (xs ys : List X) → ArePicked P xs ys → (P x → ⊥) → ArePicked P (x ∷ xs) ys
without_first {X} P x xs ys picked lacks z = (
  λ has. let both = (picked z).0 has in (contains_later x xs z both.0, both.1),
  λ both. elim (contains_cases x xs z both.0) [
    | inl e ↦ absurd (lacks (subst P e both.1))
    | inr later ↦ (picked z).1 (later, both.1)
  ],
)

pub picked : {X : Type 0} (P : X → Type 0) (xs : List X) → ((ys : List X) → ArePicked P xs ys → ⊥) → ⊥
picked {X} P [] k = k [] (none_picked P)
picked {X} P (x ∷ xs) k = picked P xs (λ ys are. either (λ (d : P x ⊎ (P x → ⊥)). elim d [
  | inl here ↦ k (x ∷ ys) (with_first P x xs ys are here)
  | inr lacks ↦ k ys (without_first P x xs ys are lacks)
]))

-- the leaves of these roles, in order
record AreLeavesOf (kit : Kit) (roles : List Role) (leaves : List LooseLeaf) : Type 0 where
  sized : length leaves ≡ length roles
  each : (place : ℕ) (role : Role) (leaf : LooseLeaf) → slice_get roles place ≡ Some role → slice_get leaves place ≡ Some leaf → IsLooseLeaf kit role leaf

with_leaf : (kit : Kit) (role : Role) (roles : List Role) (leaf : LooseLeaf) (leaves : List LooseLeaf) → IsLooseLeaf kit role leaf → AreLeavesOf kit roles leaves → AreLeavesOf kit (role ∷ roles) (leaf ∷ leaves)
with_leaf kit role roles leaf leaves is are = record { sized = ap suc are.sized; each = each } where
  each : (place : ℕ) (r : Role) (l : LooseLeaf) → slice_get (role ∷ roles) place ≡ Some r → slice_get (leaf ∷ leaves) place ≡ Some l → IsLooseLeaf kit r l
  each zero r l a b = subst (λ (x : Role). IsLooseLeaf kit x l) (same_Some role r a) (subst (IsLooseLeaf kit role) (same_Some leaf l b) is)
  each (suc place) r l a b = are.each place r l a b

leaves_of : (kit : Kit) (roles : List Role) → ((place : ℕ) (role : Role) → slice_get roles place ≡ Some role → HasRightPins kit role) → ((leaves : List LooseLeaf) → AreLeavesOf kit roles leaves → ⊥) → ⊥
leaves_of kit [] right k = k [] (record { sized = refl; each = λ place role leaf a b. absurd cc })
leaves_of kit (role ∷ roles) right k =
    let here = right 0 role refl in
    leaves_of kit roles (λ place other at. right (suc place) other at) (λ leaves are.
    picked (IsLoose kit.tech.connects here.lists (role_ports role)) here.lists.shapes (λ loose is.
    k (record { cell = here.cell; shapes = loose } ∷ leaves)
    (with_leaf kit role roles (record { cell = here.cell; shapes = loose }) leaves (record { lists = here.lists; flat = here.flat; loose = λ shape. (λ has. ((is shape).0 has).1, λ one. (is shape).1 (one.listed, one)) }) are)))

-- What follows from the loose leaves of a kit, and is a contradiction, follows.
pub with_loose_leaves : (kit : Kit) → HaveRightPins kit → ((leaves : List LooseLeaf) → AreLooseLeaves kit leaves → ⊥) → ⊥
with_loose_leaves kit right k = leaves_of kit all_roles right (λ leaves are. k leaves (record { sized = are.sized; each = are.each }))
