-- What holds or doesn't, and the first item of a list that isn't good.
use Rattle.std.proofs.Common.{◌≡◌, ◌⊎◌, inl, inr, ℕ, zero, suc, ◌<◌, ℤ, ◌≤ℤ◌, List, [], ◌∷◌, length, Option, Some, None, Bool, true, false, refl, ap}
use Rattle.std.proofs.Common.{subst, arith}
use Rattle.std.specs.Bool.{Decides}
use Rattle.std.specs.Cmp.{booleans_Decides}
use Rattle.std.specs.Ordering.{int_eq}
use Rattle.std.specs.Bool.{beq}
use Rattle.std.specs.Prelude.{slice_get, Contains}
use Rattle.std.proofs.lemmas.Bool.{cases_eq}
use Rattle.std.proofs.lemmas.Bool.Decides.{Decides-int_eq}
use Rattle.std.proofs.lemmas.Int.{by_lt_z, ints}
use Rattle.std.proofs.lemmas.Option.{slice_get_within}
use Rattle.or_geom.specs.Gathering.{SomeHas}
use Rattle.leaf_shapes.proofs.PlaceLaws.{at_contained}

abbrev pub Decided : Type 0 → Type 0
Decided P = P ⊎ (P → ⊥)

pub by_test : (b : Bool) (P : Type 0) → Decides b P → Decided P
by_test true P d = inl (d.0 refl)
by_test false P d = inr (λ p. let clash : ◌≡◌ {A = Bool} false true = d.1 p in absurd cc)

pub decide_both : (P Q : Type 0) → Decided P → Decided Q → Decided (P × Q)
decide_both P Q (inl p) (inl q) = inl (p, q)
decide_both P Q (inl p) (inr none) = inr (λ b. none b.1)
decide_both P Q (inr none) d = inr (λ b. none b.0)

pub decide_like : (P Q : Type 0) → (P → Q) → (Q → P) → Decided P → Decided Q
decide_like P Q forth back (inl p) = inl (forth p)
decide_like P Q forth back (inr none) = inr (λ q. none (back q))

-- that it doesn't hold comes first
pub turned : (P : Type 0) → Decided P → (P → ⊥) ⊎ P
turned P (inl p) = inr p
turned P (inr none) = inl none

pub decide_int : (a b : ℤ) → Decided (a ≡ b)
decide_int a b = by_test (int_eq a b) (a ≡ b) (Decides-int_eq a b)

pub decide_at_most : (a b : ℤ) → Decided (a ≤ℤ b)
decide_at_most a b = by_lt_z b a (λ lt. inr (λ (le : a ≤ℤ b). omega (arith, ints))) (λ le. inl le)

pub decide_bool : (a b : Bool) → Decided (a ≡ b)
decide_bool a b = by_test (beq a b) (a ≡ b) (booleans_Decides a b)

-- lists and options of what is the same or not
pub decide_lists : {X : Type 0} → ((x y : X) → Decided (x ≡ y)) → (xs ys : List X) → Decided (xs ≡ ys)
decide_lists same [] [] = inl refl
decide_lists same [] (y ∷ ys) = inr (λ e. absurd (cc))
decide_lists same (x ∷ xs) [] = inr (λ e. absurd (cc))
decide_lists {X} same (x ∷ xs) (y ∷ ys) = elim (same x y) [
  | inl head ↦ elim (decide_lists same xs ys) [
    | inl tail ↦ inl (λ i. head i ∷ tail i)
    | inr other ↦ inr (λ e. let t : xs ≡ ys = cc in other t)
  ]
  | inr other ↦ inr (λ e. let h : x ≡ y = cc in other h)
]

pub decide_options : {X : Type 0} → ((x y : X) → Decided (x ≡ y)) → (a b : Option X) → Decided (a ≡ b)
decide_options same None None = inl refl
decide_options same None (Some y) = inr (λ e. absurd (cc))
decide_options same (Some x) None = inr (λ e. absurd (cc))
decide_options {X} same (Some x) (Some y) = elim (same x y) [
  | inl e ↦ inl (ap (λ (z : X). Some z) e)
  | inr other ↦ inr (λ e. let h : x ≡ y = cc in other h)
]

pub decide_text : (a b : List ℕ) → Decided (a ≡ b)
decide_text = decide_lists cases_eq

-- each item is good
abbrev pub AllGood : {X : Type 0} → (X → Type 0) → List X → Type 0
AllGood {X} Good items = (place : ℕ) (item : X) → slice_get items place ≡ Some item → Good item

-- the first item that is bad, where those before it are good
pub record IsFirstBad {X : Type 0} (Good Bad : X → Type 0) (items : List X) : Type 0 where
  pub place : ℕ
  pub item : X
  pub there : slice_get items place ≡ Some item
  pub bad : Bad item
  pub before : (earlier : ℕ) (other : X) → earlier < place → slice_get items earlier ≡ Some other → Good other

good_more : {X : Type 0} (Good : X → Type 0) (x : X) (xs : List X) → Good x → AllGood Good xs → AllGood Good (x ∷ xs)
good_more {X} Good x xs good all zero y there = let e : x ≡ y = cc in subst Good e good
good_more Good x xs good all (suc k) y there = all k y there

before_more : {X : Type 0} (Good Bad : X → Type 0) (x : X) (xs : List X) → Good x → (first : IsFirstBad Good Bad xs)
    → (k : ℕ) (y : X) → k < suc first.place → slice_get (x ∷ xs) k ≡ Some y → Good y
before_more {X} Good Bad x xs good first zero y lt there = let e : x ≡ y = cc in subst Good e good
before_more Good Bad x xs good first (suc k) y lt there = first.before k y (omega (arith, lt)) there

-- all items of a list are good, or one is the first bad one
pub all_or_first : {X : Type 0} (Good Bad : X → Type 0) (items : List X) → ((place : ℕ) (x : X) → slice_get items place ≡ Some x → Good x ⊎ Bad x)
    → AllGood Good items ⊎ IsFirstBad Good Bad items
all_or_first {X} Good Bad [] each = inl (λ k y there. let lt = slice_get_within [] k y there in absurd (omega (arith, lt)))
all_or_first Good Bad (x ∷ xs) each = elim (each 0 x refl) [
  | inr bad ↦ inr (record { place = 0; item = x; there = refl; bad = bad; before = λ k y lt at. absurd (omega (arith, lt)) })
  | inl good ↦ elim (all_or_first Good Bad xs (λ k y there. each (suc k) y there)) [
    | inl all ↦ inl (good_more Good x xs good all)
    | inr first ↦
        inr
        (record { place = suc first.place; item = first.item; there = first.there; bad = first.bad; before = before_more Good Bad x xs good first })
  ]
]

-- what is good at each place is so of each item
pub good_contained : {X : Type 0} (Good : X → Type 0) (items : List X) → AllGood Good items → (x : X) → Contains items x → Good x
good_contained Good items all x h = all h.0 x (at_contained items x h)

-- what each item of a list gives, in one list
pub record AreGiven {X Y : Type 0} (Of : X → Y → Type 0) (items : List X) (given : List Y) : Type 0 where
  pub sized : length given ≡ length items
  pub each : (place : ℕ) (x : X) (y : Y) → slice_get items place ≡ Some x → slice_get given place ≡ Some y → Of x y

one_given : {X Y : Type 0} (Of : X → Y → Type 0) (x u : X) (y v : Y) → ◌≡◌ {A =
    Option X} (Some x) (Some u) → ◌≡◌ {A = Option Y} (Some y) (Some v) → Of x y → Of u v
one_given {X} {Y} Of x u y v a b is = let p : x ≡ u = cc in let q : y ≡ v = cc in subst (λ (w : Y). Of u w) q (subst (λ (w : X). Of w y) p is)

given_more : {X Y : Type 0} (Of : X → Y → Type 0) (x : X) (xs : List X) (y : Y) (ys : List Y) → Of x y → AreGiven Of xs ys
    → (k : ℕ) (u : X) (v : Y) → slice_get (x ∷ xs) k ≡ Some u → slice_get (y ∷ ys) k ≡ Some v → Of u v
given_more Of x xs y ys is rest zero u v at_u at_v = one_given Of x u y v at_u at_v is
given_more Of x xs y ys is rest (suc k) u v at_u at_v = rest.each k u v at_u at_v

pub all_given : {X Y : Type 0} (Of : X → Y → Type 0) (items : List X) → AllGood (λ (x : X). (y : Y) × Of x y) items
    → (given : List Y) × AreGiven Of items given
all_given {X} {Y} Of [] all =
    ([], record { sized = refl; each = λ k u v at_u at_v. let lt = slice_get_within [] k u at_u in absurd (omega (arith, lt)) })
all_given Of (x ∷ xs) all =
    let first = all 0 x refl in
    let rest = all_given Of xs (λ k y there. all (suc k) y there) in
    (first.0 ∷ rest.0, record { sized = let s = rest.1.sized in omega (arith, s); each = given_more Of x xs first.0 rest.0 first.1 rest.1 })

-- some item has it, or none
pub decide_some : {X : Type 0} (P : X → Type 0) (items : List X) → ((x : X) → Decided (P x)) → Decided (SomeHas P items)
decide_some P [] each = inr (λ h. h)
decide_some P (x ∷ xs) each = elim (each x) [
  | inl here ↦ inl (inl here)
  | inr not ↦ elim (decide_some P xs each) [
    | inl later ↦ inl (inr later)
    | inr none ↦ inr (λ h. elim h [ inl here ↦ not here | inr later ↦ none later ])
  ]
]
