-- Numbers that repeat at steps at least as wide as a pitch: where two of them are nearer than the pitch, so are two of the first steps.
use Rattle.std.proofs.Common.{◌≡◌, ◌⊎◌, inl, inr, ℕ, zero, suc, ◌+◌, ◌*◌, ◌-◌, ◌<◌, ◌≤◌, ℤ, pos, ◌+ℤ◌, ◌≤ℤ◌, ◌<ℤ◌, List, [], ◌∷◌, ◌++◌, map, flat_map, ap, subst, arith}
use Rattle.std.specs.List.{AllByRecursion}
use Rattle.std.proofs.lemmas.Int.{ints, by_lt_z}
use Rattle.std.proofs.lemmas.Bool.{cases_order}
use Rattle.sram_netlist.specs.InstanceList.{numbers_from, tabulate_lists}
use Rattle.spacing_laws.proofs.CloseLaws.{AreNear, HasNear, HasClose, HasBetween, near_sym, between_sym, between_front, between_back, between_either, close_front, close_back, close_between, HasParts, close_parts}

-- Lists one after another

pub record IsOneOfLists (p : ℤ) (f : ℕ → List ℤ) (ys : List ℤ) (low high : ℕ) : Type 0 where
  pub i : ℕ
  pub from : low ≤ i
  pub to : i < high
  pub is : HasBetween p (f i) ys

pub between_lists : (p : ℤ) (f : ℕ → List ℤ) (ys : List ℤ) (k n : ℕ) → HasBetween p (flat_map f (numbers_from k n)) ys → IsOneOfLists p f ys k (k + n)
between_lists p f ys k zero h = absurd h
between_lists p f ys k (suc n) h = elim (between_either p (f k) (flat_map f (numbers_from (suc k) n)) ys h) [
  | inl l ↦ record { i = k; from = omega arith; to = omega arith; is = l }
  | inr r ↦
      let later = between_lists p f ys (suc k) n r in
      let a = later.from in
      let b = later.to in
      record { i = later.i; from = omega (arith, a); to = omega (arith, b); is = later.is }
]

pub to_between_lists : (p : ℤ) (f : ℕ → List ℤ) (ys : List ℤ) (k n i : ℕ) → k ≤ i → i < k + n → HasBetween p (f i) ys → HasBetween p (flat_map f (numbers_from k n)) ys
to_between_lists p f ys k zero i a b h = absurd (omega (arith, a, b))
to_between_lists p f ys k (suc n) i a b h = elim (cases_order i k) [
  | inl same ↦ between_front p (f k) (flat_map f (numbers_from (suc k) n)) ys (subst (λ (m : ℕ). HasBetween p (f m) ys) same h)
  | inr (inl less) ↦ absurd (omega (arith, a, less))
  | inr (inr more) ↦ between_back p (f k) (flat_map f (numbers_from (suc k) n)) ys (to_between_lists p f ys (suc k) n i (omega (arith, more)) (omega (arith, b)) h)
]

pub record IsCloseInOne (p : ℤ) (f : ℕ → List ℤ) (low high : ℕ) : Type 0 where
  pub i : ℕ
  pub from : low ≤ i
  pub to : i < high
  pub is : HasClose p (f i)

pub record IsCloseInTwo (p : ℤ) (f : ℕ → List ℤ) (low high : ℕ) : Type 0 where
  pub i : ℕ
  pub j : ℕ
  pub from : low ≤ i
  pub rises : i < j
  pub to : j < high
  pub is : HasBetween p (f i) (f j)

abbrev pub IsCloseInLists : ℤ → (ℕ → List ℤ) → ℕ → ℕ → Type 0
IsCloseInLists p f low high = IsCloseInOne p f low high ⊎ IsCloseInTwo p f low high

from_before : (p : ℤ) (f : ℕ → List ℤ) (k n : ℕ) → IsCloseInLists p f (suc k) (suc k + n) → IsCloseInLists p f k (k + suc n)
from_before p f k n (inl r) = let a = r.from in let b = r.to in inl (record { i = r.i; from = omega (arith, a); to = omega (arith, b); is = r.is })
from_before p f k n (inr r) = let a = r.from in let b = r.to in inr (record { i = r.i; j = r.j; from = omega (arith, a); rises = r.rises; to = omega (arith, b); is = r.is })

with_first : (p : ℤ) (f : ℕ → List ℤ) (k n : ℕ) → (HasClose p (flat_map f (numbers_from (suc k) n)) → IsCloseInLists p f (suc k) (suc k + n)) → HasParts p (f k) (flat_map f (numbers_from (suc k) n)) → IsCloseInLists p f k (k + suc n)
with_first p f k n more (inl l) = inl (record { i = k; from = omega arith; to = omega arith; is = l })
with_first p f k n more (inr (inl m)) = from_before p f k n (more m)
with_first p f k n more (inr (inr r)) =
    let other = between_lists p f (f k) (suc k) n (between_sym p (f k) (flat_map f (numbers_from (suc k) n)) r) in
    let a = other.from in
    let b = other.to in
    inr (record { i = k; j = other.i; from = omega arith; rises = omega (arith, a); to = omega (arith, b); is = between_sym p (f other.i) (f k) other.is })

pub close_lists : (p : ℤ) (f : ℕ → List ℤ) (k n : ℕ) → HasClose p (flat_map f (numbers_from k n)) → IsCloseInLists p f k (k + n)
close_lists p f k zero h = absurd h
close_lists p f k (suc n) h = with_first p f k n (λ m. close_lists p f (suc k) n m) (close_parts p (f k) (flat_map f (numbers_from (suc k) n)) h)

pub to_close_one : (p : ℤ) (f : ℕ → List ℤ) (k n i : ℕ) → k ≤ i → i < k + n → HasClose p (f i) → HasClose p (flat_map f (numbers_from k n))
to_close_one p f k zero i a b h = absurd (omega (arith, a, b))
to_close_one p f k (suc n) i a b h = elim (cases_order i k) [
  | inl same ↦ close_front p (f k) (flat_map f (numbers_from (suc k) n)) (subst (λ (m : ℕ). HasClose p (f m)) same h)
  | inr (inl less) ↦ absurd (omega (arith, a, less))
  | inr (inr more) ↦ close_back p (f k) (flat_map f (numbers_from (suc k) n)) (to_close_one p f (suc k) n i (omega (arith, more)) (omega (arith, b)) h)
]

pub to_close_two : (p : ℤ) (f : ℕ → List ℤ) (k n i j : ℕ) → k ≤ i → i < j → j < k + n → HasBetween p (f i) (f j) → HasClose p (flat_map f (numbers_from k n))
to_close_two p f k zero i j a b c h = absurd (omega (arith, a, b, c))
to_close_two p f k (suc n) i j a b c h = elim (cases_order i k) [
  | inl same ↦
      close_between p (f k) (flat_map f (numbers_from (suc k) n))
      (between_sym p (flat_map f (numbers_from (suc k) n)) (f k) (to_between_lists p f (f k) (suc k) n j (omega (arith, b, same)) (omega (arith, c)) (between_sym p (f k) (f j) (subst (λ (m : ℕ). HasBetween p (f m) (f j)) same h))))
  | inr (inl less) ↦ absurd (omega (arith, a, less))
  | inr (inr more) ↦ close_back p (f k) (flat_map f (numbers_from (suc k) n)) (to_close_two p f (suc k) n i j (omega (arith, more)) b (omega (arith, c)) h)
]

-- Numbers that repeat at steps of a width, from z on

abbrev pub number_at : ℤ → ℕ → ℕ → ℤ → ℤ
number_at z w i u = (z +ℤ pos (i * w)) +ℤ u

abbrev pub block : ℤ → ℕ → List ℤ → ℕ → List ℤ
block z w us i = map (number_at z w i) us

-- within a step
pub record IsInStep (w : ℕ) (u : ℤ) : Type 0 where
  pub above : pos 0 ≤ℤ u
  pub below : u ≤ℤ pos w

abbrev pub AreInStep : ℕ → List ℤ → Type 0
AreInStep w us = AllByRecursion (IsInStep w) us

product_step : (i d w : ℕ) → (i + suc d) * w ≡ i * w + (w + d * w)
product_step zero d w = grind arith
product_step (suc i) d w = let e = product_step i d w in grind (arith, e)

-- two of the repeated numbers stand in one step or in neighbouring ones, and are as near in the first
abbrev pub AreNearFirst : ℤ → ℤ → ℕ → ℕ → ℕ → ℤ → ℤ → Type 0
AreNearFirst p z w i j u v =
    ((i ≡ j) × AreNear p (number_at z w 0 u) (number_at z w 0 v))
    ⊎ (((i < j) × AreNear p (number_at z w 0 u) (number_at z w 1 v))
    ⊎ ((j < i) × AreNear p (number_at z w 1 u) (number_at z w 0 v)))

far : (p y u v : ℤ) (m n w : ℕ) → IsInStep w u → IsInStep w v → p ≤ℤ pos w → m + (w + w) ≤ n → AreNear p ((y +ℤ pos m) +ℤ u) ((y +ℤ pos n) +ℤ v) → ⊥
far p y u v m n w in_u in_v wide more (inl (g, h)) = let a = in_u.below in let b = in_v.above in omega (arith, ints, a, b, wide, more, h)
far p y u v m n w in_u in_v wide more (inr (g, h)) = let a = in_u.below in let b = in_v.above in let c = in_u.above in omega (arith, ints, a, b, c, wide, more, g, h)

in_same : (p z y u v : ℤ) (m n o : ℕ) → o ≡ 0 → m ≡ n → AreNear p ((y +ℤ pos m) +ℤ u) ((y +ℤ pos n) +ℤ v) → AreNear p ((z +ℤ pos o) +ℤ u) ((z +ℤ pos o) +ℤ v)
in_same p z y u v m n o e f (inl (g, h)) = inl (omega (arith, ints, e, f, g), omega (arith, ints, e, f, h))
in_same p z y u v m n o e f (inr (g, h)) = inr (omega (arith, ints, e, f, g), omega (arith, ints, e, f, h))

in_next : (p z y u v : ℤ) (m n o q w : ℕ) → o ≡ 0 → q ≡ w → n ≡ m + w → AreNear p ((y +ℤ pos m) +ℤ u) ((y +ℤ pos n) +ℤ v) → AreNear p ((z +ℤ pos o) +ℤ u) ((z +ℤ pos q) +ℤ v)
in_next p z y u v m n o q w e f s (inl (g, h)) = inl (omega (arith, ints, e, f, s, g), omega (arith, ints, e, f, s, h))
in_next p z y u v m n o q w e f s (inr (g, h)) = inr (omega (arith, ints, e, f, s, g), omega (arith, ints, e, f, s, h))

none : (w : ℕ) → 0 * w ≡ 0
none w = omega arith

one : (w : ℕ) → 1 * w ≡ w
one w = omega arith

-- the second in a later step
later_near : (p z y : ℤ) (w i d : ℕ) (u v : ℤ) → IsInStep w u → IsInStep w v → p ≤ℤ pos w → AreNear p (number_at y w i u) (number_at y w (i + suc d) v) → AreNear p (number_at z w 0 u) (number_at z w 1 v)
later_near p z y w i zero u v in_u in_v wide near = let e = product_step i 0 w in let f = none w in in_next p z y u v (i * w) ((i + 1) * w) (0 * w) (1 * w) w (none w) (one w) (omega (arith, e, f)) near
later_near p z y w i (suc d) u v in_u in_v wide near =
    let e = product_step i (suc d) w in
    let f = product_step 0 d w in
    let g = none w in
    absurd (far p y u v (i * w) ((i + suc (suc d)) * w) w in_u in_v wide (behind_two (i * w) ((i + suc (suc d)) * w) w (suc d * w) (d * w) e (by_one d w)) near)
  where
    by_one : (d w : ℕ) → suc d * w ≡ w + d * w
    by_one d w = grind arith

    behind_two : (m n w a b : ℕ) → n ≡ m + (w + a) → a ≡ w + b → m + (w + w) ≤ n
    behind_two m n w a b e f = omega (arith, e, f)

later_at : (p z y : ℤ) (w i j : ℕ) (u v : ℤ) → i < j → IsInStep w u → IsInStep w v → p ≤ℤ pos w → AreNear p (number_at y w i u) (number_at y w j v) → AreNear p (number_at z w 0 u) (number_at z w 1 v)
later_at p z y w i j u v less in_u in_v wide near =
    let e : j ≡ i + suc (j - i - 1) = omega (arith, less) in
    later_near p z y w i (j - i - 1) u v in_u in_v wide (subst (λ (k : ℕ). AreNear p (number_at y w i u) (number_at y w k v)) e near)

pub near_first : (p z y : ℤ) (w i j : ℕ) (u v : ℤ) → IsInStep w u → IsInStep w v → p ≤ℤ pos w → AreNear p (number_at y w i u) (number_at y w j v) → AreNearFirst p z w i j u v
near_first p z y w i j u v in_u in_v wide near = elim (cases_order i j) [
  | inl same ↦ inl (same, in_same p z y u v (i * w) (j * w) (0 * w) (none w) (ap (λ (k : ℕ). k * w) same) near)
  | inr (inl less) ↦ inr (inl (less, later_at p z y w i j u v less in_u in_v wide near))
  | inr (inr more) ↦
      inr (inr (more, near_sym p (number_at z w 0 v) (number_at z w 1 u) (later_at p z y w j i v u more in_v in_u wide (near_sym p (number_at y w i u) (number_at y w j v) near))))
]

-- so of lists of numbers

abbrev pub IsNearFirst : ℤ → ℤ → ℕ → ℕ → ℕ → ℤ → List ℤ → Type 0
IsNearFirst p z w i j u vs =
    ((i ≡ j) × HasNear p (number_at z w 0 u) (block z w vs 0))
    ⊎ (((i < j) × HasNear p (number_at z w 0 u) (block z w vs 1))
    ⊎ ((j < i) × HasNear p (number_at z w 1 u) (block z w vs 0)))

near_head : (p z : ℤ) (w i j : ℕ) (u v : ℤ) (vs : List ℤ) → AreNearFirst p z w i j u v → IsNearFirst p z w i j u (v ∷ vs)
near_head p z w i j u v vs (inl h) = inl (h.0, inl h.1)
near_head p z w i j u v vs (inr (inl h)) = inr (inl (h.0, inl h.1))
near_head p z w i j u v vs (inr (inr h)) = inr (inr (h.0, inl h.1))

near_tail : (p z : ℤ) (w i j : ℕ) (u v : ℤ) (vs : List ℤ) → IsNearFirst p z w i j u vs → IsNearFirst p z w i j u (v ∷ vs)
near_tail p z w i j u v vs (inl h) = inl (h.0, inr h.1)
near_tail p z w i j u v vs (inr (inl h)) = inr (inl (h.0, inr h.1))
near_tail p z w i j u v vs (inr (inr h)) = inr (inr (h.0, inr h.1))

near_list : (p z y : ℤ) (w i j : ℕ) (u : ℤ) (vs : List ℤ) → IsInStep w u → AreInStep w vs → p ≤ℤ pos w → HasNear p (number_at y w i u) (block y w vs j) → IsNearFirst p z w i j u vs
near_list p z y w i j u [] in_u in_vs wide h = absurd h
near_list p z y w i j u (v ∷ vs) in_u in_vs wide (inl h) = near_head p z w i j u v vs (near_first p z y w i j u v in_u in_vs.0 wide h)
near_list p z y w i j u (v ∷ vs) in_u in_vs wide (inr h) = near_tail p z w i j u v vs (near_list p z y w i j u vs in_u in_vs.1 wide h)

abbrev pub AreBetweenFirst : ℤ → ℤ → ℕ → ℕ → ℕ → List ℤ → List ℤ → Type 0
AreBetweenFirst p z w i j us vs =
    ((i ≡ j) × HasBetween p (block z w us 0) (block z w vs 0))
    ⊎ (((i < j) × HasBetween p (block z w us 0) (block z w vs 1))
    ⊎ ((j < i) × HasBetween p (block z w us 1) (block z w vs 0)))

between_head : (p z : ℤ) (w i j : ℕ) (u : ℤ) (us vs : List ℤ) → IsNearFirst p z w i j u vs → AreBetweenFirst p z w i j (u ∷ us) vs
between_head p z w i j u us vs (inl h) = inl (h.0, inl h.1)
between_head p z w i j u us vs (inr (inl h)) = inr (inl (h.0, inl h.1))
between_head p z w i j u us vs (inr (inr h)) = inr (inr (h.0, inl h.1))

between_tail : (p z : ℤ) (w i j : ℕ) (u : ℤ) (us vs : List ℤ) → AreBetweenFirst p z w i j us vs → AreBetweenFirst p z w i j (u ∷ us) vs
between_tail p z w i j u us vs (inl h) = inl (h.0, inr h.1)
between_tail p z w i j u us vs (inr (inl h)) = inr (inl (h.0, inr h.1))
between_tail p z w i j u us vs (inr (inr h)) = inr (inr (h.0, inr h.1))

between_blocks : (p z y : ℤ) (w i j : ℕ) (us vs : List ℤ) → AreInStep w us → AreInStep w vs → p ≤ℤ pos w → HasBetween p (block y w us i) (block y w vs j) → AreBetweenFirst p z w i j us vs
between_blocks p z y w i j [] vs in_us in_vs wide h = absurd h
between_blocks p z y w i j (u ∷ us) vs in_us in_vs wide (inl h) = between_head p z w i j u us vs (near_list p z y w i j u vs in_us.0 in_vs wide h)
between_blocks p z y w i j (u ∷ us) vs in_us in_vs wide (inr h) = between_tail p z w i j u us vs (between_blocks p z y w i j us vs in_us.1 in_vs wide h)

at_first : (p z : ℤ) (w i : ℕ) (u : ℤ) (vs : List ℤ) → IsNearFirst p z w i i u vs → HasNear p (number_at z w 0 u) (block z w vs 0)
at_first p z w i u vs (inl h) = h.1
at_first p z w i u vs (inr (inl h)) = let less = h.0 in absurd (omega (arith, less))
at_first p z w i u vs (inr (inr h)) = let less = h.0 in absurd (omega (arith, less))

close_block : (p z y : ℤ) (w i : ℕ) (us : List ℤ) → AreInStep w us → p ≤ℤ pos w → HasClose p (block y w us i) → HasClose p (block z w us 0)
close_block p z y w i [] in_us wide h = absurd h
close_block p z y w i (u ∷ us) in_us wide (inl h) = inl (at_first p z w i u us (near_list p z y w i i u us in_us.0 in_us.1 wide h))
close_block p z y w i (u ∷ us) in_us wide (inr h) = inr (close_block p z y w i us in_us.1 wide h)

-- The numbers in all of so many steps.

abbrev pub repeats : ℤ → ℕ → List ℤ → ℕ → List ℤ
repeats z w us n = tabulate_lists n (block z w us)

pub close_repeats : (p z y : ℤ) (w n m : ℕ) (us : List ℤ) → 2 ≤ m → AreInStep w us → p ≤ℤ pos w → HasClose p (repeats y w us n) → HasClose p (repeats z w us m)
close_repeats p z y w n m us two in_us wide h = by (close_lists p (block y w us) 0 n h)
  where
    first : (i j : ℕ) → i < j → AreBetweenFirst p z w i j us us → HasClose p (repeats z w us m)
    first i j less (inl h) = let e = h.0 in absurd (omega (arith, e, less))
    first i j less (inr (inl h)) = to_close_two p (block z w us) 0 m 0 1 (omega arith) (omega arith) (omega (arith, two)) h.1
    first i j less (inr (inr h)) = let e = h.0 in absurd (omega (arith, e, less))

    by : IsCloseInLists p (block y w us) 0 (0 + n) → HasClose p (repeats z w us m)
    by (inl r) = to_close_one p (block z w us) 0 m 0 (omega arith) (omega (arith, two)) (close_block p z y w r.i us in_us wide r.is)
    by (inr r) = first r.i r.j r.rises (between_blocks p z y w r.i r.j us us in_us in_us wide r.is)

-- one of the first, and the other of the second of these lists
pub to_between_two : (p : ℤ) (f g : ℕ → List ℤ) (n m i j : ℕ) → i < n → j < m → HasBetween p (f i) (g j) → HasBetween p (tabulate_lists n f) (tabulate_lists m g)
to_between_two p f g n m i j a b h =
    to_between_lists p f (tabulate_lists m g) 0 n i (omega arith) (omega (arith, a))
    (between_sym p (tabulate_lists m g) (f i) (to_between_lists p g (f i) 0 m j (omega arith) (omega (arith, b)) (between_sym p (f i) (g j) h)))

pub between_repeats : (p z y : ℤ) (w n m : ℕ) (us vs : List ℤ) → 2 ≤ m → AreInStep w us → AreInStep w vs → p ≤ℤ pos w → HasBetween p (repeats y w us n) (repeats y w vs n) → HasBetween p (repeats z w us m) (repeats z w vs m)
between_repeats p z y w n m us vs two in_us in_vs wide h =
    let a = between_lists p (block y w us) (repeats y w vs n) 0 n h in
    let b = between_lists p (block y w vs) (block y w us a.i) 0 n (between_sym p (block y w us a.i) (repeats y w vs n) a.is) in
    by a.i b.i (between_blocks p z y w a.i b.i us vs in_us in_vs wide (between_sym p (block y w vs b.i) (block y w us a.i) b.is))
  where
    by : (i j : ℕ) → AreBetweenFirst p z w i j us vs → HasBetween p (repeats z w us m) (repeats z w vs m)
    by i j (inl h) = to_between_two p (block z w us) (block z w vs) m m 0 0 (omega (arith, two)) (omega (arith, two)) h.1
    by i j (inr (inl h)) = to_between_two p (block z w us) (block z w vs) m m 0 1 (omega (arith, two)) (omega (arith, two)) h.1
    by i j (inr (inr h)) = to_between_two p (block z w us) (block z w vs) m m 1 0 (omega (arith, two)) (omega (arith, two)) h.1

-- where no two are near, a step is at least as wide as the pitch

step_near : (p z u : ℤ) (w m n : ℕ) → pos w <ℤ p → m ≡ 0 → n ≡ w → AreNear p ((z +ℤ pos m) +ℤ u) ((z +ℤ pos n) +ℤ u)
step_near p z u w m n less e f = inl (omega (arith, ints, less, e, f), omega (arith, ints, less, e, f))

pub wide_steps : (p z : ℤ) (w m : ℕ) (u : ℤ) (us : List ℤ) → 2 ≤ m → (HasClose p (repeats z w (u ∷ us) m) → ⊥) → p ≤ℤ pos w
wide_steps p z w m u us two apart =
    by_lt_z {P = p ≤ℤ pos w} (pos w) p
    (λ less. absurd (apart (to_close_two p (block z w (u ∷ us)) 0 m 0 1 (omega arith) (omega arith) (omega (arith, two)) (inl (inl (step_near p z u w (0 * w) (1 * w) less (none w) (one w)))))))
    (λ more. more)

-- numbers at both kinds of places, as they repeat
pub close_both : (p z y : ℤ) (w n m : ℕ) (us vs : List ℤ) → 2 ≤ m → AreInStep w us → AreInStep w vs → p ≤ℤ pos w → HasClose p (repeats y w us n ++ repeats y w vs n) → HasClose p (repeats z w us m ++ repeats z w vs m)
close_both p z y w n m us vs two in_us in_vs wide h = by (close_parts p (repeats y w us n) (repeats y w vs n) h)
  where
    by : HasParts p (repeats y w us n) (repeats y w vs n) → HasClose p (repeats z w us m ++ repeats z w vs m)
    by (inl l) = close_front p (repeats z w us m) (repeats z w vs m) (close_repeats p z y w n m us two in_us wide l)
    by (inr (inl r)) = close_back p (repeats z w us m) (repeats z w vs m) (close_repeats p z y w n m vs two in_vs wide r)
    by (inr (inr b)) = close_between p (repeats z w us m) (repeats z w vs m) (between_repeats p z y w n m us vs two in_us in_vs wide b)
