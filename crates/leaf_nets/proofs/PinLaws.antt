-- Which pins are right, told by the numbers of nets.
use Rattle.std.proofs.Common.{◌≡◌, ◌⊎◌, inl, inr, ℕ, ◌+◌, ◌<◌, List, [], ◌∷◌, ◌++◌, length, Some, refl, sym, subst, arith}
use Rattle.std.specs.Prelude.{Contains, slice_get}
use Rattle.std.specs.List.Sorted.{IsStrictlySortedBy}
use Rattle.std.proofs.lemmas.Bool.{cases_lt}
use Rattle.std.proofs.lemmas.Option.{slice_get_within, slice_get-get_or}
use Rattle.std.proofs.lemmas.List.Elements.{Contains-append_left, Contains-push, Contains-push_cases}
use Rattle.or_geom.specs.declared.shape.Shape.{Shape}
use Rattle.or_geom.specs.ShapeOrder.{shape_order}
use Rattle.or_geom.proofs.ListLaws.{contains_none, one_at}
use Rattle.tech_rules.specs.declared.tech.Connect.{Connect}
use Rattle.tech_rules.specs.Net.{AreOnOneNet}
use Rattle.element_drawing.specs.PlainLabel.{PlainLabel}
use Rattle.cell_hierarchy.specs.Plain.{FlatLists}
use Rattle.net_extractor.specs.ShapeNets.{AreShapeNets}
use Rattle.label_binding.specs.BoundPlaces.{label_anchor}
use Rattle.leaf_shapes.proofs.PlaceLaws.{at_contained}
use Rattle.leaf_nets.specs.declared.pin.PinBinding.TheVariants.{Unlabelled, On, Wrong}
use Rattle.leaf_nets.specs.RightPins.{BindsForPin, IsRightPin, ArePinsRightBefore}
use Rattle.leaf_nets.specs.Numbers.{HasNetNumber, GivesNet, HasPinNet, IsPinBinding, IsOnNet, IsNetBefore, AreNetsBefore, AreRightNets}
use Rattle.leaf_nets.proofs.BoundLaws.{one_bound}

-- the flat lists of a cell in order, and the numbers of the nets of its shapes
pub record AreNumbered (connections : List Connect) (lists : FlatLists) (nets : List ℕ) : Type 0 where
  pub rises : IsStrictlySortedBy shape_order lists.shapes
  pub are : AreShapeNets connections lists.shapes nets

-- each shape has a number
pub has_number : (connections : List Connect) (lists : FlatLists) (nets : List ℕ) (s : Shape) → AreNumbered connections lists nets → Contains lists.shapes s → (n : ℕ) × HasNetNumber lists.shapes nets s n
has_number connections lists nets s numbered listed =
    let sized = numbered.are.sized in
    let inside = listed.1 in
    let within : listed.0 < length nets = omega (arith, sized, inside) in
    (_, record { place = listed.0; there = at_contained lists.shapes s listed; is = slice_get-get_or nets listed.0 0 within })

-- shapes of one number are on one net, and the other way round
pub one_net : (connections : List Connect) (lists : FlatLists) (nets : List ℕ) (s t : Shape) (m n : ℕ) → AreNumbered connections lists nets → HasNetNumber lists.shapes nets s m → HasNetNumber lists.shapes nets t n → m ≡ n → AreOnOneNet connections lists.shapes s t
one_net connections lists nets s t m n numbered a b same = (numbered.are.one a.place b.place m n s t a.there b.there a.is b.is).0 same

pub one_number : (connections : List Connect) (lists : FlatLists) (nets : List ℕ) (s t : Shape) (m n : ℕ) → AreNumbered connections lists nets → HasNetNumber lists.shapes nets s m → HasNetNumber lists.shapes nets t n → AreOnOneNet connections lists.shapes s t → m ≡ n
one_number connections lists nets s t m n numbered a b on = (numbered.are.one a.place b.place m n s t a.there b.there a.is b.is).1 on

-- a label of the pin that binds a shape, told by the shape's number
bound_number : (connections : List Connect) (lists : FlatLists) (nets : List ℕ) (pin : List ℕ) (s : Shape) → AreNumbered connections lists nets → BindsForPin lists pin s → (n : ℕ) × HasNetNumber lists.shapes nets s n × HasPinNet lists.shapes nets lists.labels pin n
bound_number connections lists nets pin s numbered b =
    let h = has_number connections lists nets s numbered b.binds.listed in
    (h.0, h.1, record { label = b.label; listed = b.listed; of = b.of; gives = record { shape = s; binds = b.binds; has = h.1 } })

pub bound_for : (lists : FlatLists) (nets : List ℕ) (pin : List ℕ) (n : ℕ) → (h : HasPinNet lists.shapes nets lists.labels pin n) → BindsForPin lists pin h.gives.shape
bound_for lists nets pin n h = record { label = h.label; listed = h.listed; of = h.of; binds = h.gives.binds }

-- a label gives one number
given_once : (connections : List Connect) (lists : FlatLists) (nets : List ℕ) (label : PlainLabel) (m n : ℕ) → AreNumbered connections lists nets → GivesNet lists.shapes nets label m → GivesNet lists.shapes nets label n → m ≡ n
given_once connections lists nets label m n numbered a b =
    let same = one_bound lists.shapes (label_anchor label) a.shape b.shape numbered.rises a.binds b.binds in
    one_number connections lists nets a.shape b.shape m n numbered a.has b.has (subst (λ (t : Shape). AreOnOneNet connections lists.shapes a.shape t) same (record { path = []; leads = refl }))

-- A pin of which the labels are wrong isn't right.
pub wrong_pin : (connections : List Connect) (lists : FlatLists) (nets : List ℕ) (pins : List (List ℕ)) (place : ℕ) (pin : List ℕ) → AreNumbered connections lists nets → IsPinBinding lists.shapes nets lists.labels pin Wrong → IsRightPin connections lists pins place pin → ⊥
wrong_pin connections lists nets pins place pin numbered (inl u) right = right.bound u.label u.listed u.of u.none
wrong_pin connections lists nets pins place pin numbered (inr t) right =
    t.differ (one_number connections lists nets t.first.gives.shape t.second.gives.shape t.m t.n numbered t.first.gives.has t.second.gives.has
    (right.one t.first.gives.shape t.second.gives.shape (bound_for lists nets pin t.m t.first) (bound_for lists nets pin t.n t.second)))

-- Nor is one that is on the net of an earlier pin.
pub repeated_pin : (connections : List Connect) (lists : FlatLists) (nets : List ℕ) (pins : List (List ℕ)) (place n : ℕ) (pin : List ℕ) → AreNumbered connections lists nets → IsNetBefore lists nets pins place n → HasPinNet lists.shapes nets lists.labels pin n
    → IsRightPin connections lists pins place pin → ⊥
repeated_pin connections lists nets pins place n pin numbered before on right =
    right.apart before.place before.pin before.before before.there before.on.gives.shape on.gives.shape (bound_for lists nets before.pin n before.on) (bound_for lists nets pin n on)
    (one_net connections lists nets before.on.gives.shape on.gives.shape n n numbered before.on.gives.has on.gives.has refl)

-- A pin without labels is right.
pub bare_pin : (connections : List Connect) (lists : FlatLists) (nets : List ℕ) (pins : List (List ℕ)) (place : ℕ) (pin : List ℕ) → IsPinBinding lists.shapes nets lists.labels pin Unlabelled → IsRightPin connections lists pins place pin
bare_pin connections lists nets pins place pin none = record {
  bound = λ label listed of unbound. none label listed of;
  one = λ s t a b. absurd (none a.label a.listed a.of);
  apart = λ earlier other lt there s t a b on. none b.label b.listed b.of;
}

-- the number of a shape that the pin's labels bind
number_is : (connections : List Connect) (lists : FlatLists) (nets : List ℕ) (pin : List ℕ) (n : ℕ) (s : Shape) → AreNumbered connections lists nets → IsOnNet lists.shapes nets lists.labels pin n → BindsForPin lists pin s → HasNetNumber lists.shapes nets s n
number_is connections lists nets pin n s numbered on b =
    let g = on.all b.label b.listed b.of in
    subst (λ (t : Shape). HasNetNumber lists.shapes nets t n) (one_bound lists.shapes (label_anchor b.label) g.shape s numbered.rises g.binds b.binds) g.has

-- One whose labels bind shapes of one number is, where no earlier pin has this number.
pub single_pin : (connections : List Connect) (lists : FlatLists) (nets : List ℕ) (pins : List (List ℕ)) (place n : ℕ) (pin : List ℕ) → AreNumbered connections lists nets → IsPinBinding lists.shapes nets lists.labels pin (On n)
    → (IsNetBefore lists nets pins place n → ⊥) → IsRightPin connections lists pins place pin
single_pin connections lists nets pins place n pin numbered on fresh = record {
  bound = λ label listed of unbound. let g = on.all label listed of in unbound g.shape g.binds.listed g.binds.under;
  one = λ s t a b. one_net connections lists nets s t n n numbered (number_is connections lists nets pin n s numbered on a) (number_is connections lists nets pin n t numbered on b) refl;
  apart = λ earlier other lt there s t a b touching.
      let m = bound_number connections lists nets other s numbered a in
      let same = one_number connections lists nets s t m.0 n numbered m.1 (number_is connections lists nets pin n t numbered on b) touching in
      fresh (record { place = earlier; before = lt; pin = other; there = there; on = subst (HasPinNet lists.shapes nets lists.labels other) same m.2 });
}

-- The pins before a place are right, and these are the numbers of their nets.
pub record PinsSoFar (connections : List Connect) (lists : FlatLists) (nets : List ℕ) (pins : List (List ℕ)) (i : ℕ) (numbers : List ℕ) : Type 0 where
  pub right : ArePinsRightBefore connections lists pins i
  pub numbered : AreNetsBefore lists nets pins i numbers

pub pins_begin : (connections : List Connect) (lists : FlatLists) (nets : List ℕ) (pins : List (List ℕ)) → PinsSoFar connections lists nets pins 0 []
pins_begin connections lists nets pins = record {
  right = λ place pin lt there. absurd (omega arith);
  numbered = λ number. ((λ listed. absurd (contains_none number listed)), (λ before. let lt = before.before in absurd (omega (arith, lt))));
}

right_more : (connections : List Connect) (lists : FlatLists) (pins : List (List ℕ)) (i : ℕ) (pin : List ℕ) → slice_get pins i ≡ Some pin → IsRightPin connections lists pins i pin → ArePinsRightBefore connections lists pins i → ArePinsRightBefore connections lists pins (i + 1)
right_more connections lists pins i pin here right before place other lt there = elim (cases_lt place i) [
  | inl less ↦ before place other less there
  | inr ge ↦
      let e : i ≡ place = omega arith in
      subst (IsRightPin connections lists pins place) (one_at pins place pin other (subst (λ (j : ℕ). slice_get pins j ≡ Some pin) e here) there) (subst (λ (j : ℕ). IsRightPin connections lists pins j pin) e right)
]

further : (lists : FlatLists) (nets : List ℕ) (pins : List (List ℕ)) (i n : ℕ) → IsNetBefore lists nets pins i n → IsNetBefore lists nets pins (i + 1) n
further lists nets pins i n b = let lt = b.before in record { place = b.place; before = omega (arith, lt); pin = b.pin; there = b.there; on = b.on }

-- a net of one of the pins up to this one is that of an earlier pin, or of this one
nearer : (lists : FlatLists) (nets : List ℕ) (pins : List (List ℕ)) (i n : ℕ) (pin : List ℕ) → slice_get pins i ≡ Some pin → IsNetBefore lists nets pins (i + 1) n → IsNetBefore lists nets pins i n ⊎ HasPinNet lists.shapes nets lists.labels pin n
nearer lists nets pins i n pin here b = elim (cases_lt b.place i) [
  | inl less ↦ inl (record { place = b.place; before = less; pin = b.pin; there = b.there; on = b.on })
  | inr ge ↦
      let lt = b.before in
      let e : b.place ≡ i = omega (arith, lt, ge) in
      inr (subst (λ (p : List ℕ). HasPinNet lists.shapes nets lists.labels p n) (one_at pins i b.pin pin (subst (λ (j : ℕ). slice_get pins j ≡ Some b.pin) e b.there) here) b.on)
]

pub pins_bare : (connections : List Connect) (lists : FlatLists) (nets : List ℕ) (pins : List (List ℕ)) (i : ℕ) (pin : List ℕ) (numbers : List ℕ) → slice_get pins i ≡ Some pin → IsPinBinding lists.shapes nets lists.labels pin Unlabelled
    → PinsSoFar connections lists nets pins i numbers → PinsSoFar connections lists nets pins (i + 1) numbers
pins_bare connections lists nets pins i pin numbers here none far = record {
  right = right_more connections lists pins i pin here (bare_pin connections lists nets pins i pin none) far.right;
  numbered = λ n. (
    (λ listed. further lists nets pins i n ((far.numbered n).0 listed)),
    (λ b. elim (nearer lists nets pins i n pin here b) [ inl old ↦ (far.numbered n).1 old | inr on ↦ absurd (none on.label on.listed on.of) ]),
  );
}

pub pins_single : (connections : List Connect) (lists : FlatLists) (nets : List ℕ) (pins : List (List ℕ)) (i m : ℕ) (pin : List ℕ) (numbers : List ℕ) → AreNumbered connections lists nets → slice_get pins i ≡ Some pin → IsPinBinding lists.shapes nets lists.labels pin (On m)
    → (Contains numbers m → ⊥) → PinsSoFar connections lists nets pins i numbers → PinsSoFar connections lists nets pins (i + 1) (numbers ++ m ∷ [])
pins_single connections lists nets pins i m pin numbers numbered here on fresh far = record {
  right = right_more connections lists pins i pin here (single_pin connections lists nets pins i m pin numbered on (λ b. fresh ((far.numbered m).1 b))) far.right;
  numbered = λ n. (
    (λ listed. elim (Contains-push_cases numbers m n listed) [
      | inl old ↦ further lists nets pins i n ((far.numbered n).0 old)
      | inr is ↦ record { place = i; before = omega arith; pin = pin; there = here; on = subst (HasPinNet lists.shapes nets lists.labels pin) is on.some }
    ]),
    (λ b. elim (nearer lists nets pins i n pin here b) [
      | inl old ↦ Contains-append_left numbers (m ∷ []) n ((far.numbered n).1 old)
      | inr has ↦ subst (Contains (numbers ++ m ∷ [])) (given_once connections lists nets has.label m n numbered (on.all has.label has.listed has.of) has.gives) (Contains-push numbers m)
    ]),
  );
}

pub pins_end : (connections : List Connect) (lists : FlatLists) (nets : List ℕ) (pins : List (List ℕ)) (i : ℕ) (numbers : List ℕ) → length pins ≡ i → PinsSoFar connections lists nets pins i numbers → AreRightNets connections lists nets pins numbers
pins_end connections lists nets pins i numbers done far = record {
  right = λ place pin there. let within = slice_get_within pins place pin there in far.right place pin (omega (arith, within, done)) there;
  numbered = subst (λ (k : ℕ). AreNetsBefore lists nets pins k numbers) (sym done) far.numbered;
}
