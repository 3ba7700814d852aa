-- The shapes whose net is that of no pin.
use Rattle.std.proofs.Common.{◌≡◌, inl, inr, ℕ, ◌+◌, ◌<◌, ◌≤◌, List, [], ◌∷◌, ◌++◌, length, Some, refl, sym, subst, arith}
use Rattle.std.specs.Prelude.{Contains, slice_get}
use Rattle.std.proofs.lemmas.Bool.{cases_lt}
use Rattle.std.proofs.lemmas.Option.{slice_get_within}
use Rattle.std.proofs.lemmas.List.Elements.{Contains-append_left, Contains-push, Contains-push_cases}
use Rattle.or_geom.specs.declared.shape.Shape.{Shape}
use Rattle.or_geom.specs.Gathering.{SomeHas}
use Rattle.or_geom.proofs.ListLaws.{contains_none, contained_at, one_at}
use Rattle.leaf_shapes.proofs.PlaceLaws.{at_contained}
use Rattle.tech_rules.specs.declared.tech.Connect.{Connect}
use Rattle.cell_hierarchy.specs.Plain.{FlatLists}
use Rattle.leaf_nets.specs.Loose.{IsJoint, AreLoose}
use Rattle.leaf_nets.specs.Numbers.{HasNetNumber, IsFreeShape, AreFreeShapes, AreNetsBefore}
use Rattle.leaf_nets.proofs.PinLaws.{AreNumbered, one_net, one_number, has_number, bound_for}

-- exactly those are listed
pub record FreeSoFar (connections : List Connect) (shapes : List Shape) (nets numbers : List ℕ) (i : ℕ) (listed : List Shape) : Type 0 where
  pub only : (s : Shape) → Contains listed s → IsFreeShape connections shapes nets numbers s
  pub each : (s : Shape) (k n : ℕ) → k < i → slice_get shapes k ≡ Some s → slice_get nets k ≡ Some n → SomeHas (IsJoint s.layer) connections → (Contains numbers n → ⊥) → Contains listed s

pub free_begins : (connections : List Connect) (shapes : List Shape) (nets numbers : List ℕ) → FreeSoFar connections shapes nets numbers 0 []
free_begins connections shapes nets numbers = record {
  only = λ s h. absurd (contains_none s h);
  each = λ s k n lt there number on other. absurd (omega (arith, lt));
}

-- one more shape, which is one of them
pub free_adds : (connections : List Connect) (shapes : List Shape) (nets numbers : List ℕ) (i n : ℕ) (shape : Shape) (listed : List Shape) → slice_get shapes i ≡ Some shape → slice_get nets i ≡ Some n → SomeHas (IsJoint shape.layer) connections
    → (Contains numbers n → ⊥) → FreeSoFar connections shapes nets numbers i listed → FreeSoFar connections shapes nets numbers (i + 1) (listed ++ shape ∷ [])
free_adds connections shapes nets numbers i n shape listed here number on other far = record {
  only = λ s h. elim (Contains-push_cases listed shape s h) [
    | inl old ↦ far.only s old
    | inr same ↦ subst (IsFreeShape connections shapes nets numbers) same (record { number = n; has = record { place = i; there = here; is = number }; on = on; other = other })
  ];
  each = λ s k m lt there number_is joint free. elim (cases_lt k i) [
    | inl less ↦ Contains-append_left listed (shape ∷ []) s (far.each s k m less there number_is joint free)
    | inr ge ↦
        let e : k ≡ i = omega (arith, lt, ge) in
        subst (Contains (listed ++ shape ∷ [])) (one_at shapes i shape s here (subst (λ (j : ℕ). slice_get shapes j ≡ Some s) e there)) (Contains-push listed shape)
  ];
}

-- one more shape, which is none
pub free_skips : (connections : List Connect) (shapes : List Shape) (nets numbers : List ℕ) (i n : ℕ) (shape : Shape) (listed : List Shape) → slice_get shapes i ≡ Some shape → slice_get nets i ≡ Some n → (SomeHas (IsJoint shape.layer) connections × (Contains numbers n → ⊥) → ⊥)
    → FreeSoFar connections shapes nets numbers i listed → FreeSoFar connections shapes nets numbers (i + 1) listed
free_skips connections shapes nets numbers i n shape listed here number not far = record {
  only = far.only;
  each = λ s k m lt there number_is joint free. elim (cases_lt k i) [
    | inl less ↦ far.each s k m less there number_is joint free
    | inr ge ↦
        let e : k ≡ i = omega (arith, lt, ge) in
        let same : s ≡ shape = one_at shapes i s shape (subst (λ (j : ℕ). slice_get shapes j ≡ Some s) e there) here in
        let one : n ≡ m = one_at nets i n m number (subst (λ (j : ℕ). slice_get nets j ≡ Some m) e number_is) in
        absurd (not (subst (λ (t : Shape). SomeHas (IsJoint t.layer) connections) same joint, (λ h. free (subst (Contains numbers) one h))))
  ];
}

pub free_ends : (connections : List Connect) (shapes : List Shape) (nets numbers : List ℕ) (i : ℕ) (listed : List Shape) → length shapes ≤ i → FreeSoFar connections shapes nets numbers i listed → AreFreeShapes connections shapes nets numbers listed
free_ends connections shapes nets numbers i listed over far s = (
  far.only s,
  (λ f. let within = slice_get_within shapes f.has.place s f.has.there in far.each s f.has.place f.number (omega (arith, within, over)) f.has.there f.has.is f.on f.other),
)

-- The shapes whose number is that of no pin are the loose ones.
pub free_are_loose : (connections : List Connect) (lists : FlatLists) (nets : List ℕ) (pins : List (List ℕ)) (numbers : List ℕ) (free : List Shape) → AreNumbered connections lists nets → AreNetsBefore lists nets pins (length pins) numbers
    → AreFreeShapes connections lists.shapes nets numbers free → AreLoose connections lists pins free
free_are_loose connections lists nets pins numbers free numbered are exact s = (
  (λ h.
      let f = (exact s).0 h in
      record {
        listed = contained_at lists.shapes f.has.place s f.has.there;
        on = f.on;
        free = λ pin bound among binds touching.
            let m = has_number connections lists nets bound numbered binds.binds.listed in
            let same = one_number connections lists nets s bound f.number m.0 numbered f.has m.1 touching in
            let inside = among.1 in
            f.other ((are f.number).1 (record {
              place = among.0;
              before = inside;
              pin = pin;
              there = at_contained pins pin among;
              on = record { label = binds.label; listed = binds.listed; of = binds.of; gives = record { shape = bound; binds = binds.binds; has = subst (HasNetNumber lists.shapes nets bound) (sym same) m.1 } };
            }));
      }),
  (λ l.
      let n = has_number connections lists nets s numbered l.listed in
      (exact s).1 (record {
        number = n.0;
        has = n.1;
        on = l.on;
        other = λ h.
            let b = (are n.0).0 h in
            l.free b.pin b.on.gives.shape (contained_at pins b.place b.pin b.there) (bound_for lists nets b.pin n.0 b.on) (one_net connections lists nets s b.on.gives.shape n.0 n.0 numbered n.1 b.on.gives.has refl);
      })),
)
