-- What one more label of a pin says of the pin's nets.
use Rattle.std.proofs.Common.{◌≡◌, ◌≢◌, inl, inr, ℕ, List, [], ◌∷◌, ◌++◌, sym, subst}
use Rattle.std.specs.Prelude.{Contains}
use Rattle.std.proofs.lemmas.List.Elements.{Contains-append_left, Contains-push, Contains-push_cases}
use Rattle.or_geom.specs.declared.shape.Shape.{Shape}
use Rattle.or_geom.proofs.ListLaws.{contains_none}
use Rattle.element_drawing.specs.PlainLabel.{PlainLabel}
use Rattle.label_binding.specs.Binding.{BindsNone}
use Rattle.label_binding.specs.BoundPlaces.{label_anchor}
use Rattle.leaf_shapes.specs.Candidates.{IsLabelOfPin}
use Rattle.leaf_nets.specs.declared.pin.PinBinding.{PinBinding}
use Rattle.leaf_nets.specs.declared.pin.PinBinding.TheVariants.{Unlabelled, On, Wrong}
use Rattle.leaf_nets.specs.Numbers.{GivesNet, HasPinNet, IsPinBinding}

-- what a label says it still says beside one more
with_more : (shapes : List Shape) (nets : List ℕ) (labels : List PlainLabel) (pin : List ℕ) (label : PlainLabel) (n : ℕ) → HasPinNet shapes nets labels pin n → HasPinNet shapes nets (labels ++ label ∷ []) pin n
with_more shapes nets labels pin label n h = record { label = h.label; listed = Contains-append_left labels (label ∷ []) h.label h.listed; of = h.of; gives = h.gives }

with_last : (shapes : List Shape) (nets : List ℕ) (labels : List PlainLabel) (pin : List ℕ) (label : PlainLabel) (n : ℕ) → IsLabelOfPin pin label → GivesNet shapes nets label n → HasPinNet shapes nets (labels ++ label ∷ []) pin n
with_last shapes nets labels pin label n of gives = record { label = label; listed = Contains-push labels label; of = of; gives = gives }

-- each label of the longer list is one of the shorter, or the last
each_label : (P : PlainLabel → Type 0) (labels : List PlainLabel) (label : PlainLabel) → ((l : PlainLabel) → Contains labels l → P l) → P label → (l : PlainLabel) → Contains (labels ++ label ∷ []) l → P l
each_label P labels label all here l h = elim (Contains-push_cases labels label l h) [ inl old ↦ all l old | inr is ↦ subst P is here ]

-- the last label binds nothing
pub last_unbound : (shapes : List Shape) (nets : List ℕ) (labels : List PlainLabel) (pin : List ℕ) (label : PlainLabel) → IsLabelOfPin pin label → BindsNone shapes (label_anchor label) → IsPinBinding shapes nets (labels ++ label ∷ []) pin Wrong
last_unbound shapes nets labels pin label of none = inl (record { label = label; listed = Contains-push labels label; of = of; none = none })

-- the last label is the first of its pin
pub last_alone : (shapes : List Shape) (nets : List ℕ) (labels : List PlainLabel) (pin : List ℕ) (label : PlainLabel) (n : ℕ) → IsPinBinding shapes nets labels pin Unlabelled → IsLabelOfPin pin label → GivesNet shapes nets label n
    → IsPinBinding shapes nets (labels ++ label ∷ []) pin (On n)
last_alone shapes nets labels pin label n unlabelled of gives = record {
  some = with_last shapes nets labels pin label n of gives;
  all = each_label (λ (l : PlainLabel). IsLabelOfPin pin l → GivesNet shapes nets l n) labels label (λ l listed is. absurd (unlabelled l listed is)) (λ is. gives);
}

-- the last label agrees with those before
pub last_agrees : (shapes : List Shape) (nets : List ℕ) (labels : List PlainLabel) (pin : List ℕ) (label : PlainLabel) (m n : ℕ) → m ≡ n → IsPinBinding shapes nets labels pin (On m) → IsLabelOfPin pin label → GivesNet shapes nets label n
    → IsPinBinding shapes nets (labels ++ label ∷ []) pin (On m)
last_agrees shapes nets labels pin label m n same on of gives = record {
  some = with_more shapes nets labels pin label m on.some;
  all = each_label (λ (l : PlainLabel). IsLabelOfPin pin l → GivesNet shapes nets l m) labels label on.all (λ is. subst (GivesNet shapes nets label) (sym same) gives);
}

-- it doesn't
pub last_differs : (shapes : List Shape) (nets : List ℕ) (labels : List PlainLabel) (pin : List ℕ) (label : PlainLabel) (m n : ℕ) → m ≢ n → IsPinBinding shapes nets labels pin (On m) → IsLabelOfPin pin label → GivesNet shapes nets label n
    → IsPinBinding shapes nets (labels ++ label ∷ []) pin Wrong
last_differs shapes nets labels pin label m n differ on of gives =
    inr (record { m = m; n = n; first = with_more shapes nets labels pin label m on.some; second = with_last shapes nets labels pin label n of gives; differ = differ })

-- what was wrong stays wrong
pub still_wrong : (shapes : List Shape) (nets : List ℕ) (labels : List PlainLabel) (pin : List ℕ) (label : PlainLabel) → IsPinBinding shapes nets labels pin Wrong → IsPinBinding shapes nets (labels ++ label ∷ []) pin Wrong
still_wrong shapes nets labels pin label (inl u) = inl (record { label = u.label; listed = Contains-append_left labels (label ∷ []) u.label u.listed; of = u.of; none = u.none })
still_wrong shapes nets labels pin label (inr t) =
    inr (record { m = t.m; n = t.n; first = with_more shapes nets labels pin label t.m t.first; second = with_more shapes nets labels pin label t.n t.second; differ = t.differ })

-- a label of another pin changes nothing
pub not_of_pin : (shapes : List Shape) (nets : List ℕ) (labels : List PlainLabel) (pin : List ℕ) (label : PlainLabel) (found : PinBinding) → (IsLabelOfPin pin label → ⊥) → IsPinBinding shapes nets labels pin found → IsPinBinding shapes nets (labels ++ label ∷ []) pin found
not_of_pin shapes nets labels pin label Unlabelled other none = each_label (λ (l : PlainLabel). IsLabelOfPin pin l → ⊥) labels label none other
not_of_pin shapes nets labels pin label (On n) other on = record {
  some = with_more shapes nets labels pin label n on.some;
  all = each_label (λ (l : PlainLabel). IsLabelOfPin pin l → GivesNet shapes nets l n) labels label on.all (λ is. absurd (other is));
}
not_of_pin shapes nets labels pin label Wrong other wrong = still_wrong shapes nets labels pin label wrong

-- no labels
pub none_yet : (shapes : List Shape) (nets : List ℕ) (pin : List ℕ) → IsPinBinding shapes nets [] pin Unlabelled
none_yet shapes nets pin label listed is = contains_none label listed
