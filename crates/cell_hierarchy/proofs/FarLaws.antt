-- The first of some points.
use Rattle.std.proofs.Common.{◌≡◌, ◌≢◌, ◌⊎◌, inl, inr, ℕ, ◌+◌, ◌<◌, ◌≤◌, false, List, length, get_or, Option, Some, None, refl, sym, ap, subst, ◌∙◌, arith}
use Rattle.std.specs.Prelude.{slice_get}
use Rattle.std.specs.Cmp.{IsTotalOrder}
use Rattle.std.specs.Ordering.{ordering_reverse, is_gt}
use Rattle.std.specs.declared.cmp.Ordering.{Ordering}
use Rattle.std.specs.declared.cmp.Ordering.TheVariants.{Less, Equal, Greater}
use Rattle.std.proofs.lemmas.Cmp.{on_total, then_total, int_cmp_total, upto, tied_itself}
use Rattle.std.proofs.lemmas.Option.{same_Some, slice_get_read}
use Rattle.or_geom.specs.declared.shape.Point.{Point}
use Rattle.or_geom.specs.declared.shape.Shape.{Shape}
use Rattle.or_geom.proofs.PlaceLaws.{same_point}
use Rattle.or_geom.proofs.ListLaws.{contained_at}
use Rattle.or_geom.specs.Place.{low_corner, high_corner}
use Rattle.gds_records.specs.Values.{IsShort}
use Rattle.cell_hierarchy.specs.FlatLists.{point_order}
use Rattle.cell_hierarchy.specs.Below.{SomeBelow}
use Rattle.cell_hierarchy.specs.Far.{IsFirst, IsFirstOf, earlier, first_of, upper_left, lower_right, IsFarAt, IsFarCorner, HasFarCorner, HasFarPoint, IsFarCornerAt, IsFarPointAt}
use Rattle.cell_hierarchy.proofs.BelowLaws.{step_to, step_from}

pub point_total : IsTotalOrder point_order
point_total = then_total (on_total (λ (p : Point). p.x) int_cmp_total) (on_total (λ (p : Point). p.y) int_cmp_total)

not_greater : (o : Ordering) → o ≢ Greater → is_gt o ≡ false
not_greater Less h = refl
not_greater Equal h = refl
not_greater Greater h = absurd (h refl)

is_not_greater : (o : Ordering) → is_gt o ≡ false → o ≢ Greater
is_not_greater Less h e = absurd cc
is_not_greater Equal h e = absurd cc
is_not_greater Greater h e = absurd cc

up_to : (p q r : Point) → point_order p q ≢ Greater → point_order q r ≢ Greater → point_order p r ≢ Greater
up_to p q r a b = is_not_greater (point_order p r) (upto point_total p q r (not_greater (point_order p q) a) (not_greater (point_order q r) b))

itself : (p : Point) → point_order p p ≢ Greater
itself p e = let same : ◌≡◌ {A = Ordering} Equal Greater = sym (tied_itself point_total p) ∙ e in cc

turned : (p q : Point) → point_order p q ≡ Greater → point_order q p ≢ Greater
turned p q e f =
    let less : ◌≡◌ {A = Ordering} Greater Less = sym f ∙ (point_total.antisymm q p ∙ ap ordering_reverse e) in cc

earlier_is : (P Q : Point → Type 0) (p q : Point) (o : Ordering) → point_order p q ≡ o → IsFirst P p → IsFirst Q q → IsFirst (λ r. P r ⊎ Q r) (earlier o p q)
earlier_is P Q p q Less e a b = record {
  has = inl a.has;
  first = λ r h. elim h [
    | inl x ↦ a.first r x
    | inr y ↦ up_to p q r (λ g. let k : ◌≡◌ {A = Ordering} Less Greater = sym e ∙ g in cc) (b.first r y)
  ];
}
earlier_is P Q p q Equal e a b = record {
  has = inl a.has;
  first = λ r h. elim h [
    | inl x ↦ a.first r x
    | inr y ↦ up_to p q r (λ g. let k : ◌≡◌ {A = Ordering} Equal Greater = sym e ∙ g in cc) (b.first r y)
  ];
}
earlier_is P Q p q Greater e a b = record {
  has = inr b.has;
  first = λ r h. elim h [ inl x ↦ up_to q p r (turned p q e) (a.first r x) | inr y ↦ b.first r y ];
}

pub first_of_both : (P Q : Point → Type 0) (a b : Option Point) → IsFirstOf P a → IsFirstOf Q b → IsFirstOf (λ r. P r ⊎ Q r) (first_of a b)
first_of_both P Q None None a b = λ r h. elim h [ inl x ↦ a r x | inr y ↦ b r y ]
first_of_both P Q None (Some q) a b = record { has = inr b.has; first = λ r h. elim h [ inl x ↦ absurd (a r x) | inr y ↦ b.first r y ] }
first_of_both P Q (Some p) None a b = record { has = inl a.has; first = λ r h. elim h [ inl x ↦ a.first r x | inr y ↦ absurd (b r y) ] }
first_of_both P Q (Some p) (Some q) a b = earlier_is P Q p q (point_order p q) refl a b

pub first_as : (P Q : Point → Type 0) (o : Option Point) → ((r : Point) → P r → Q r) → ((r : Point) → Q r → P r) → IsFirstOf P o → IsFirstOf Q o
first_as P Q None to from a = λ r h. a r (from r h)
first_as P Q (Some p) to from a = record { has = to p a.has; first = λ r h. a.first r (from r h) }

pub joined : (P Q : Point → Type 0) (a b o : Option Point) → o ≡ first_of a b → IsFirstOf P a → IsFirstOf Q b → IsFirstOf (λ r. P r ⊎ Q r) o
joined P Q a b o is f g = subst (IsFirstOf (λ r. P r ⊎ Q r)) (sym is) (first_of_both P Q a b f g)

-- one point
pub one_far : (p : Point) → (IsShort p → ⊥) → IsFirst (IsFarAt p) p
one_far p far = record { has = record { is = refl; far = far }; first = λ r h. subst (λ (q : Point). point_order p q ≢ Greater) h.is (itself p) }

pub none_far : (p : Point) → IsShort p → (q : Point) → IsFarAt p q → ⊥
none_far p short q h = h.far (subst IsShort h.is short)

-- the four corners
abbrev AtCorners : Shape → Point → Type 0
AtCorners s p = (IsFarAt (low_corner s.rect) p ⊎ IsFarAt (upper_left s.rect) p) ⊎ (IsFarAt (lower_right s.rect) p ⊎ IsFarAt (high_corner s.rect) p)

x_of : (p q : Point) → p ≡ q → q.x ≡ p.x
x_of p q e = ap (λ (r : Point). r.x) (sym e)

y_of : (p q : Point) → p ≡ q → q.y ≡ p.y
y_of p q e = ap (λ (r : Point). r.y) (sym e)

is_corner : (s : Shape) (p : Point) → AtCorners s p → IsFarCorner s p
is_corner s p (inl (inl h)) = record { corner = record { x = inl (x_of (low_corner s.rect) p h.is); y = inl (y_of (low_corner s.rect) p h.is) }; far = h.far }
is_corner s p (inl (inr h)) = record { corner = record { x = inl (x_of (upper_left s.rect) p h.is); y = inr (y_of (upper_left s.rect) p h.is) }; far = h.far }
is_corner s p (inr (inl h)) = record { corner = record { x = inr (x_of (lower_right s.rect) p h.is); y = inl (y_of (lower_right s.rect) p h.is) }; far = h.far }
is_corner s p (inr (inr h)) = record { corner = record { x = inr (x_of (high_corner s.rect) p h.is); y = inr (y_of (high_corner s.rect) p h.is) }; far = h.far }

which_corner : (s : Shape) (p : Point) → (p.x ≡ s.rect.x1) ⊎ (p.x ≡ s.rect.x2) → (p.y ≡ s.rect.y1) ⊎ (p.y ≡ s.rect.y2) → (IsShort p → ⊥) → AtCorners s p
which_corner s p (inl x) (inl y) far = inl (inl (record { is = same_point (low_corner s.rect) p (sym x) (sym y); far = far }))
which_corner s p (inl x) (inr y) far = inl (inr (record { is = same_point (upper_left s.rect) p (sym x) (sym y); far = far }))
which_corner s p (inr x) (inl y) far = inr (inl (record { is = same_point (lower_right s.rect) p (sym x) (sym y); far = far }))
which_corner s p (inr x) (inr y) far = inr (inr (record { is = same_point (high_corner s.rect) p (sym x) (sym y); far = far }))

at_corner : (p corner : Point) (o : Option Point) → p ≡ corner → IsFirstOf (IsFarAt p) o → IsFirstOf (IsFarAt corner) o
at_corner p corner o e f = subst (λ (q : Point). IsFirstOf (IsFarAt q) o) e f

pub two_corners : (p q a b : Point) (x y o : Option Point) → p ≡ a → q ≡ b → IsFirstOf (IsFarAt p) x → IsFirstOf (IsFarAt q) y → o ≡ first_of x y → IsFirstOf (λ r. IsFarAt a r ⊎ IsFarAt b r) o
two_corners p q a b x y o ea eb f g is = joined (IsFarAt a) (IsFarAt b) x y o is (at_corner p a x ea f) (at_corner q b y eb g)

pub corners_far : (s : Shape) (left right o : Option Point) → IsFirstOf (λ r. IsFarAt (low_corner s.rect) r ⊎ IsFarAt (upper_left s.rect) r) left → IsFirstOf (λ r. IsFarAt (lower_right s.rect) r ⊎ IsFarAt (high_corner s.rect) r) right
    → o ≡ first_of left right → IsFirstOf (IsFarCorner s) o
corners_far s left right o l r is =
    let all = joined (λ p. IsFarAt (low_corner s.rect) p ⊎ IsFarAt (upper_left s.rect) p) (λ p. IsFarAt (lower_right s.rect) p ⊎ IsFarAt (high_corner s.rect) p) left right o is l r in
    first_as (AtCorners s) (IsFarCorner s) o (is_corner s) (λ p h. which_corner s p h.corner.x h.corner.y h.far) all

-- a loop over the items of a list, where `At` tells of the one at a place
pub first_begins : (At : ℕ → Point → Type 0) → IsFirstOf (SomeBelow At 0) None
first_begins At = λ p b. let lt = b.below in omega arith

pub first_goes_on : (At : ℕ → Point → Type 0) (k : ℕ) (Here : Point → Type 0) (now here next : Option Point) → next ≡ first_of now here → ((p : Point) → Here p → At k p) → ((p : Point) → At k p → Here p)
    → IsFirstOf (SomeBelow At k) now → IsFirstOf Here here → IsFirstOf (SomeBelow At (k + 1)) next
first_goes_on At k Here now here next is to from a b =
    first_as (λ p. SomeBelow At k p ⊎ At k p) (SomeBelow At (k + 1)) next (step_to At k) (step_from At k)
    (joined (SomeBelow At k) (At k) now here next is a (first_as Here (At k) here to from b))

pub corner_goes_on : (shapes : List Shape) (k : ℕ) (shape : Shape) (now here next : Option Point) → k < length shapes → shape ≡ get_or shapes k shape → next ≡ first_of now here
    → IsFirstOf (SomeBelow (IsFarCornerAt shapes) k) now → IsFirstOf (IsFarCorner shape) here → IsFirstOf (SomeBelow (IsFarCornerAt shapes) (k + 1)) next
corner_goes_on shapes k shape now here next lt is e a b =
    let stands = slice_get_read shapes _ k shape refl lt is in
    first_goes_on (IsFarCornerAt shapes) k (IsFarCorner shape) now here next e (λ p h. record { shape = shape; stands = stands; is = h })
    (λ p h. subst (λ (s : Shape). IsFarCorner s p) (same_Some h.shape shape (sym h.stands ∙ stands)) h.is) a b

pub point_goes_on : (points : List Point) (k : ℕ) (own : Point) (now here next : Option Point) → k < length points → own ≡ get_or points k own → next ≡ first_of now here
    → IsFirstOf (SomeBelow (IsFarPointAt points) k) now → IsFirstOf (IsFarAt own) here → IsFirstOf (SomeBelow (IsFarPointAt points) (k + 1)) next
point_goes_on points k own now here next lt is e a b =
    let stands = slice_get_read points _ k own refl lt is in
    first_goes_on (IsFarPointAt points) k (IsFarAt own) now here next e (λ p h. record { own = own; stands = stands; is = h })
    (λ p h. subst (λ (q : Point). IsFarAt q p) (same_Some h.own own (sym h.stands ∙ stands)) h.is) a b

stands_at : {Y : Type 0} (ys : List Y) (k : ℕ) (y : Y) → k < length ys → get_or ys k y ≡ y → slice_get ys k ≡ Some y
stands_at ys k y lt is = slice_get_read ys _ k y refl lt (sym is)

pub corner_ends : (shapes : List Shape) (k : ℕ) (o : Option Point) → length shapes ≤ k → IsFirstOf (SomeBelow (IsFarCornerAt shapes) k) o → IsFirstOf (HasFarCorner shapes) o
corner_ends shapes k o le a =
    first_as (SomeBelow (IsFarCornerAt shapes) k) (HasFarCorner shapes) o (λ p b. record { shape = b.has.shape; among = contained_at shapes b.index b.has.shape b.has.stands; is = b.has.is })
    (λ p h. record { index = h.among.0; below = omega (arith, h.among.1); has = record { shape = h.shape; stands = stands_at shapes h.among.0 h.shape h.among.1 h.among.2; is = h.is } }) a

pub point_ends : (points : List Point) (k : ℕ) (o : Option Point) → length points ≤ k → IsFirstOf (SomeBelow (IsFarPointAt points) k) o → IsFirstOf (HasFarPoint points) o
point_ends points k o le a =
    first_as (SomeBelow (IsFarPointAt points) k) (HasFarPoint points) o (λ p b. record { own = b.has.own; among = contained_at points b.index b.has.own b.has.stands; is = b.has.is })
    (λ p h. record { index = h.among.0; below = omega (arith, h.among.1); has = record { own = h.own; stands = stands_at points h.among.0 h.own h.among.1 h.among.2; is = h.is } }) a
