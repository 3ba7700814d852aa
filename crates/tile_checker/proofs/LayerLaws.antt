-- The order of shapes is first that of their layers: of two shapes on the layers of a space rule, the one that comes first is on the lesser.
use Rattle.std.proofs.Common.{◌≡◌, ◌⊎◌, inl, inr, ℕ, ◌≤◌, min, max, refl, arith}
use Rattle.std.specs.Ordering.{nat_cmp, ordering_then}
use Rattle.std.specs.declared.cmp.Ordering.{Ordering}
use Rattle.std.specs.declared.cmp.Ordering.TheVariants.{Less, Equal, Greater}
use Rattle.std.proofs.lemmas.Bool.{cases_lt}
use Rattle.std.proofs.lemmas.Cmp.{ranked}
use Rattle.or_geom.specs.declared.shape.Shape.{Shape}
use Rattle.or_geom.specs.ShapeOrder.{rect_order, shape_order}
use Rattle.tile_checker.specs.declared.space.SpaceRule.{SpaceRule}
use Rattle.tile_checker.specs.Firsts.{IsPartner, HasNoPartner}

first_part : (x y : ℕ) (o p : Ordering) → o ≡ nat_cmp x y → ordering_then o p ≡ Less → x ≤ y
first_part x y Less p is less = let lt = ranked x y Less is in omega (arith, lt)
first_part x y Equal p is less = let same = ranked x y Equal is in omega (arith, same)
first_part x y Greater p is less = absurd cc

-- what comes after is on no lesser layer
pub layers_rise : (a b : Shape) → shape_order a b ≡ Less → a.layer ≤ b.layer
layers_rise a b less = first_part a.layer b.layer (nat_cmp a.layer b.layer) (rect_order a.rect b.rect) refl less

abbrev pub lesser : ℕ → ℕ → ℕ
lesser layer other = min layer other

pub on_lesser : (layer other : ℕ) (a b : Shape) → ((a.layer ≡ layer) × (b.layer ≡ other)) ⊎ ((a.layer ≡ other) × (b.layer ≡ layer)) → shape_order a b ≡ Less → a.layer ≡ lesser layer other
on_lesser layer other a b (inl on) less = let le = layers_rise a b less in omega (arith, le, on.0, on.1)
on_lesser layer other a b (inr on) less = let le = layers_rise a b less in omega (arith, le, on.0, on.1)

-- the greater layer is the partner of the lesser
pub has_partner : (rule : SpaceRule) (layer partner : ℕ) → layer ≡ min rule.layer rule.other → partner ≡ max rule.layer rule.other → IsPartner rule layer partner
has_partner rule layer partner low high = elim (cases_lt rule.layer rule.other) [
  | inl lt ↦ inl (omega (arith, lt, low), omega (arith, lt, high))
  | inr ge ↦ inr (omega (arith, ge, low), omega (arith, ge, high))
]

-- a layer that isn't the lesser has none, or the lesser
pub has_none : (rule : SpaceRule) (layer : ℕ) → (layer ≡ min rule.layer rule.other → ⊥) → HasNoPartner rule layer
has_none rule layer other_layer partner p = elim (cases_lt partner layer) [
  | inl lt ↦ lt
  | inr ge ↦ absurd (other_layer (elim p [ inl on ↦ omega (arith, ge, on.0, on.1) | inr on ↦ omega (arith, ge, on.0, on.1) ]))
]
