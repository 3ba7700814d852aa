-- A kit has one first pin whose labels don't name it rightly, or none.
use Rattle.std.proofs.Common.{◌≡◌, inl, inr, ℕ, List, Some, sym, subst, ◌∙◌, arith}
use Rattle.std.specs.Prelude.{slice_get}
use Rattle.std.proofs.lemmas.Bool.{cases_lt}
use Rattle.std.proofs.lemmas.Option.{same_Some}
use Rattle.or_geom.proofs.ListLaws.{one_at}
use Rattle.cell_roles.specs.declared.role.Role.{Role}
use Rattle.cell_roles.specs.Roles.{all_roles, role_ports}
use Rattle.tech_rules.specs.declared.tech.Connect.{Connect}
use Rattle.cell_hierarchy.specs.FlatLists.{AreFlatLists}
use Rattle.cell_hierarchy.specs.Plain.{FlatLists}
use Rattle.cell_hierarchy.proofs.OneListsLaws.{one_pair}
use Rattle.leaf_tables.specs.declared.kit.Kit.{Kit}
use Rattle.kit_rules.specs.Layout.{IsFlatLeaf}
use Rattle.leaf_nets.specs.RightPins.{AreRightPins, IsFirstWrongPin}
use Rattle.leaf_nets.specs.Leaves.{HasRightPins, HasWrongPin, HaveRightPins, HasFirstWrongPin}

pub one_leaf : (kit : Kit) (role : Role) (a b : List ℕ) (v w : FlatLists) → IsFlatLeaf kit role a v → IsFlatLeaf kit role b w → v ≡ w
one_leaf kit role a b v w p q =
    let cell : b ≡ a = same_Some b a (sym q.plays ∙ p.plays) in
    one_pair kit.tech.layers kit.lib.structs a v w p.flat (subst (λ (c : List ℕ). AreFlatLists kit.tech.layers kit.lib.structs c w) cell q.flat)

right_or_wrong : (connections : List Connect) (lists : FlatLists) (pins : List (List ℕ)) (pin : List ℕ) → AreRightPins connections lists pins → IsFirstWrongPin connections lists pins pin → ⊥
right_or_wrong connections lists pins pin right wrong = wrong.wrong (right wrong.place pin wrong.here)

one_wrong_pin : (connections : List Connect) (lists : FlatLists) (pins : List (List ℕ)) (a b : List ℕ) → IsFirstWrongPin connections lists pins a → IsFirstWrongPin connections lists pins b → a ≡ b
one_wrong_pin connections lists pins a b p q = elim (cases_lt p.place q.place) [
  | inl less ↦ absurd (p.wrong (q.before p.place a less p.here))
  | inr ge ↦ elim (cases_lt q.place p.place) [
    | inl more ↦ absurd (q.wrong (p.before q.place b more q.here))
    | inr le ↦ let same : q.place ≡ p.place = omega (arith, ge, le) in one_at pins p.place a b p.here (subst (λ (k : ℕ). slice_get pins k ≡ Some b) same q.here)
  ]
]

role_right_or_wrong : (kit : Kit) (role : Role) (pin : List ℕ) → HasRightPins kit role → HasWrongPin kit role pin → ⊥
role_right_or_wrong kit role pin p q =
    let same = one_leaf kit role q.cell p.cell q.lists p.lists q.flat p.flat in
    right_or_wrong kit.tech.connects p.lists (role_ports role) pin p.right (subst (λ (l : FlatLists). IsFirstWrongPin kit.tech.connects l (role_ports role) pin) same q.wrong)

pub pins_right_or_wrong : (kit : Kit) (role : Role) (pin : List ℕ) → HaveRightPins kit → HasFirstWrongPin kit role pin → ⊥
pins_right_or_wrong kit role pin right wrong = role_right_or_wrong kit role pin (right wrong.place role wrong.there) wrong.wrong

-- the first wrong pins are those of one role, and one
pub record IsOnePin (r s : Role) (a b : List ℕ) : Type 0 where
  pub role : r ≡ s
  pub pin : a ≡ b

same_place : (kit : Kit) (r s : Role) (a b : List ℕ) (p : HasFirstWrongPin kit r a) (q : HasFirstWrongPin kit s b) → q.place ≡ p.place → IsOnePin r s a b
same_place kit r s a b p q same =
    let role : s ≡ r = one_at all_roles p.place s r (subst (λ (k : ℕ). slice_get all_roles k ≡ Some s) same q.there) p.there in
    let wrong : HasWrongPin kit r b = subst (λ (x : Role). HasWrongPin kit x b) role q.wrong in
    let lists = one_leaf kit r wrong.cell p.wrong.cell wrong.lists p.wrong.lists wrong.flat p.wrong.flat in
    record {
      role = sym role;
      pin = one_wrong_pin kit.tech.connects p.wrong.lists (role_ports r) a b p.wrong.wrong (subst (λ (l : FlatLists). IsFirstWrongPin kit.tech.connects l (role_ports r) b) lists wrong.wrong);
    }

pub one_first_pin : (kit : Kit) (r s : Role) (a b : List ℕ) → HasFirstWrongPin kit r a → HasFirstWrongPin kit s b → IsOnePin r s a b
one_first_pin kit r s a b p q = elim (cases_lt p.place q.place) [
  | inl less ↦ absurd (role_right_or_wrong kit r a (q.before p.place r less p.there) p.wrong)
  | inr ge ↦ elim (cases_lt q.place p.place) [
    | inl more ↦ absurd (role_right_or_wrong kit s b (p.before q.place s more q.there) q.wrong)
    | inr le ↦ same_place kit r s a b p q (omega (arith, ge, le))
  ]
]
