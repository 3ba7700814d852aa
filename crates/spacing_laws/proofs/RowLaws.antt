-- Cells side by side: where no cell is narrower than a pitch, two numbers that are nearer stand in one cell or in neighbouring ones.
use Rattle.std.proofs.Common.{◌≡◌, ◌⊎◌, inl, inr, ℕ, ℤ, pos, ◌+ℤ◌, ◌≤ℤ◌, ◌<ℤ◌, List, [], ◌∷◌, ◌++◌, map, refl, sym, subst, arith}
use Rattle.std.specs.List.{AllByRecursion}
use Rattle.std.proofs.lemmas.Int.{ints}
use Rattle.sram_netlist.specs.Membership.{IsOneOf}
use Rattle.spacing_laws.proofs.CloseLaws.{from_nothing, AreNear, HasNear, HasClose, HasBetween, between_sym, between_front, between_either, close_front, close_back, close_between, HasParts, close_parts}
use Rattle.spacing_laws.proofs.RepeatLaws.{AreInStep}

-- Numbers that are moved

abbrev pub moved : ℤ → List ℤ → List ℤ
moved z us = map (λ u. z +ℤ u) us

near_moved : (p x y z u v : ℤ) → AreNear p ((x +ℤ z) +ℤ u) ((y +ℤ z) +ℤ v) → AreNear p (x +ℤ u) (y +ℤ v)
near_moved p x y z u v (inl (g, h)) = inl (omega (arith, ints, g), omega (arith, ints, h))
near_moved p x y z u v (inr (g, h)) = inr (omega (arith, ints, g), omega (arith, ints, h))

near_back_moved : (p x y z u v : ℤ) → AreNear p (x +ℤ u) (y +ℤ v) → AreNear p ((x +ℤ z) +ℤ u) ((y +ℤ z) +ℤ v)
near_back_moved p x y z u v (inl (g, h)) = inl (omega (arith, ints, g), omega (arith, ints, h))
near_back_moved p x y z u v (inr (g, h)) = inr (omega (arith, ints, g), omega (arith, ints, h))

list_unmoved : (p x y z u : ℤ) (vs : List ℤ) → HasNear p ((x +ℤ z) +ℤ u) (moved (y +ℤ z) vs) → HasNear p (x +ℤ u) (moved y vs)
list_unmoved p x y z u [] h = absurd h
list_unmoved p x y z u (v ∷ vs) (inl h) = inl (near_moved p x y z u v h)
list_unmoved p x y z u (v ∷ vs) (inr h) = inr (list_unmoved p x y z u vs h)

list_moved : (p x y z u : ℤ) (vs : List ℤ) → HasNear p (x +ℤ u) (moved y vs) → HasNear p ((x +ℤ z) +ℤ u) (moved (y +ℤ z) vs)
list_moved p x y z u [] h = absurd h
list_moved p x y z u (v ∷ vs) (inl h) = inl (near_back_moved p x y z u v h)
list_moved p x y z u (v ∷ vs) (inr h) = inr (list_moved p x y z u vs h)

pub between_unmoved : (p x y z : ℤ) (us vs : List ℤ) → HasBetween p (moved (x +ℤ z) us) (moved (y +ℤ z) vs) → HasBetween p (moved x us) (moved y vs)
between_unmoved p x y z [] vs h = absurd h
between_unmoved p x y z (u ∷ us) vs (inl h) = inl (list_unmoved p x y z u vs h)
between_unmoved p x y z (u ∷ us) vs (inr h) = inr (between_unmoved p x y z us vs h)

pub between_moved : (p x y z : ℤ) (us vs : List ℤ) → HasBetween p (moved x us) (moved y vs) → HasBetween p (moved (x +ℤ z) us) (moved (y +ℤ z) vs)
between_moved p x y z [] vs h = absurd h
between_moved p x y z (u ∷ us) vs (inl h) = inl (list_moved p x y z u vs h)
between_moved p x y z (u ∷ us) vs (inr h) = inr (between_moved p x y z us vs h)

pub close_unmoved : (p x z : ℤ) (us : List ℤ) → HasClose p (moved (x +ℤ z) us) → HasClose p (moved x us)
close_unmoved p x z [] h = absurd h
close_unmoved p x z (u ∷ us) (inl h) = inl (list_unmoved p x x z u us h)
close_unmoved p x z (u ∷ us) (inr h) = inr (close_unmoved p x z us h)

pub close_moved : (p x z : ℤ) (us : List ℤ) → HasClose p (moved x us) → HasClose p (moved (x +ℤ z) us)
close_moved p x z [] h = absurd h
close_moved p x z (u ∷ us) (inl h) = inl (list_moved p x x z u us h)
close_moved p x z (u ∷ us) (inr h) = inr (close_moved p x z us h)

-- Numbers up to a place, and numbers a pitch behind it

abbrev pub AreUpTo : ℤ → List ℤ → Type 0
AreUpTo m xs = AllByRecursion (λ x. x ≤ℤ m) xs

abbrev pub AreFrom : ℤ → List ℤ → Type 0
AreFrom m xs = AllByRecursion (λ x. m ≤ℤ x) xs

not_near : (p m x y : ℤ) → x ≤ℤ m → (m +ℤ p) ≤ℤ y → AreNear p x y → ⊥
not_near p m x y a b (inl (g, h)) = omega (arith, ints, a, b, h)
not_near p m x y a b (inr (g, h)) = let d : pos 0 <ℤ p = omega (arith, ints, g, h) in omega (arith, ints, a, b, g, d)

pub none_near : (p m x : ℤ) (ys : List ℤ) → x ≤ℤ m → AreFrom (m +ℤ p) ys → HasNear p x ys → ⊥
none_near p m x [] a b h = h
none_near p m x (y ∷ ys) a b (inl h) = not_near p m x y a b.0 h
none_near p m x (y ∷ ys) a b (inr h) = none_near p m x ys a b.1 h

pub none_between : (p m : ℤ) (xs ys : List ℤ) → AreUpTo m xs → AreFrom (m +ℤ p) ys → HasBetween p xs ys → ⊥
none_between p m [] ys a b h = h
none_between p m (x ∷ xs) ys a b (inl h) = none_near p m x ys a.0 b h
none_between p m (x ∷ xs) ys a b (inr h) = none_between p m xs ys a.1 b h

pub all_append : (P : ℤ → Type 0) (xs ys : List ℤ) → AllByRecursion P xs → AllByRecursion P ys → AllByRecursion P (xs ++ ys)
all_append P [] ys a b = b
all_append P (x ∷ xs) ys a b = (a.0, all_append P xs ys a.1 b)

pub all_from : (m n : ℤ) (xs : List ℤ) → m ≤ℤ n → AreFrom n xs → AreFrom m xs
all_from m n [] le a = tt
all_from m n (x ∷ xs) le a = (let b = a.0 in omega (arith, ints, le, b), all_from m n xs le a.1)

pub all_up_to : (m n : ℤ) (xs : List ℤ) → m ≤ℤ n → AreUpTo m xs → AreUpTo n xs
all_up_to m n [] le a = tt
all_up_to m n (x ∷ xs) le a = (let b = a.0 in omega (arith, ints, le, b), all_up_to m n xs le a.1)

pub moved_up_to : (z : ℤ) (w : ℕ) (us : List ℤ) → AreInStep w us → AreUpTo (z +ℤ pos w) (moved z us)
moved_up_to z w [] is = tt
moved_up_to z w (u ∷ us) is = (let b = is.0.below in omega (arith, ints, b), moved_up_to z w us is.1)

pub moved_from : (z : ℤ) (w : ℕ) (us : List ℤ) → AreInStep w us → AreFrom z (moved z us)
moved_from z w [] is = tt
moved_from z w (u ∷ us) is = (let b = is.0.above in omega (arith, ints, b), moved_from z w us is.1)

-- these two stand side by side in the list
abbrev pub HasPair : {T : Type 0} → T → T → List T → Type 0
HasPair r s [] = ⊥
HasPair r s (x ∷ []) = ⊥
HasPair r s (x ∷ y ∷ l) = ((r ≡ x) × (s ≡ y)) ⊎ HasPair r s (y ∷ l)

pub pair_later : {T : Type 0} (r s x : T) (l : List T) → HasPair r s l → HasPair r s (x ∷ l)
pair_later r s x [] h = absurd h
pair_later r s x (y ∷ l) h = inr h

-- A row of cells of kinds, which have widths, and offsets where numbers stand

module _ {T : Type 0} (width : T → ℕ) (offsets : T → List ℤ) where
  abbrev pub row_xs : List T → ℤ → List ℤ
  row_xs [] z = []
  row_xs (r ∷ rs) z = moved z (offsets r) ++ row_xs rs (z +ℤ pos (width r))

  -- the numbers stand in the cell, which is at least so wide
  pub record IsWideCell (p : ℤ) (r : T) : Type 0 where
    pub inside : AreInStep (width r) (offsets r)
    pub wide : p ≤ℤ pos (width r)

  abbrev pub AreWideCells : ℤ → List T → Type 0
  AreWideCells p l = AllByRecursion (IsWideCell p) l

  -- two numbers of a cell, of two that stand side by side
  abbrev pub IsCloseKind : ℤ → T → Type 0
  IsCloseKind p r = HasClose p (moved (pos 0) (offsets r))

  abbrev pub AreCloseKinds : ℤ → T → T → Type 0
  AreCloseKinds p r s = HasBetween p (moved (pos 0) (offsets r)) (moved (pos (width r)) (offsets s))

  pub record HasCloseCell (p : ℤ) (l : List T) : Type 0 where
    pub kind : T
    pub listed : IsOneOf kind l
    pub close : IsCloseKind p kind

  pub record HasClosePair (p : ℤ) (l : List T) : Type 0 where
    pub first : T
    pub second : T
    pub listed : HasPair first second l
    pub close : AreCloseKinds p first second

  row_from : (p z : ℤ) (l : List T) → AreWideCells p l → AreFrom z (row_xs l z)
  row_from p z [] is = tt
  row_from p z (r ∷ rs) is =
      all_append (λ x. z ≤ℤ x) (moved z (offsets r)) (row_xs rs (z +ℤ pos (width r))) (moved_from z (width r) (offsets r) is.0.inside)
      (all_from z (z +ℤ pos (width r)) (row_xs rs (z +ℤ pos (width r))) (omega (arith, ints)) (row_from p (z +ℤ pos (width r)) rs is.1))

  cell_later : (p : ℤ) (r : T) (l : List T) → HasCloseCell p l ⊎ HasClosePair p l → HasCloseCell p (r ∷ l) ⊎ HasClosePair p (r ∷ l)
  cell_later p r l (inl c) = inl (record { kind = c.kind; listed = inr c.listed; close = c.close })
  cell_later p r l (inr c) = inr (record { first = c.first; second = c.second; listed = pair_later c.first c.second r l c.listed; close = c.close })

  swapped : (a b : ℤ) → a +ℤ b ≡ b +ℤ a
  swapped a b = omega (arith, ints)

  -- between a cell and the row behind it
  pair_here : (p z : ℤ) (r : T) (rs : List T) → IsWideCell p r → AreWideCells p rs → HasBetween p (moved z (offsets r)) (row_xs rs (z +ℤ pos (width r))) → HasClosePair p (r ∷ rs)
  pair_here p z r [] is all h = absurd (none_between p (z +ℤ pos (width r)) (moved z (offsets r)) [] (moved_up_to z (width r) (offsets r) is.inside) tt h)
  pair_here p z r (s ∷ ss) is all h = by (between_either p (moved y (offsets s)) (row_xs ss (y +ℤ pos (width s))) (moved z (offsets r)) (between_sym p (moved z (offsets r)) (row_xs (s ∷ ss) y) h))
    where
      y : ℤ
      y = z +ℤ pos (width r)

      by : HasBetween p (moved (z +ℤ pos (width r)) (offsets s)) (moved z (offsets r)) ⊎ HasBetween p (row_xs ss ((z +ℤ pos (width r)) +ℤ pos (width s))) (moved z (offsets r)) → HasClosePair p (r ∷ s ∷ ss)
      by (inl near) = record {
        first = r;
        second = s;
        listed = inl (refl, refl);
        close = between_unmoved p (pos 0) (pos (width r)) z (offsets r) (offsets s)
            (subst (λ (a : ℤ). HasBetween p (moved a (offsets r)) (moved (pos (width r) +ℤ z) (offsets s))) (from_nothing z)
            (subst (λ (a : ℤ). HasBetween p (moved z (offsets r)) (moved a (offsets s))) (swapped z (pos (width r))) (between_sym p (moved (z +ℤ pos (width r)) (offsets s)) (moved z (offsets r)) near)));
      }
      by (inr far) =
          let end = z +ℤ pos (width r) +ℤ pos (width s) in
          let wide = all.0.wide in
          absurd (none_between p (z +ℤ pos (width r)) (moved z (offsets r)) (row_xs ss end) (moved_up_to z (width r) (offsets r) is.inside)
          (all_from ((z +ℤ pos (width r)) +ℤ p) end (row_xs ss end) (omega (arith, ints, wide)) (row_from p end ss all.1))
          (between_sym p (row_xs ss end) (moved z (offsets r)) far))

  pub close_in_row : (p z : ℤ) (l : List T) → AreWideCells p l → HasClose p (row_xs l z) → HasCloseCell p l ⊎ HasClosePair p l
  close_in_row p z [] all h = absurd h
  close_in_row p z (r ∷ rs) all h = by (λ (later : HasClose p (row_xs rs (z +ℤ pos (width r)))). close_in_row p (z +ℤ pos (width r)) rs all.1 later) (close_parts p (moved z (offsets r)) (row_xs rs (z +ℤ pos (width r))) h)
    where
      by : (HasClose p (row_xs rs (z +ℤ pos (width r))) → HasCloseCell p rs ⊎ HasClosePair p rs) → HasParts p (moved z (offsets r)) (row_xs rs (z +ℤ pos (width r))) → HasCloseCell p (r ∷ rs) ⊎ HasClosePair p (r ∷ rs)
      by later (inl here) = inl (record { kind = r; listed = inl refl; close = close_unmoved p (pos 0) z (offsets r) (subst (λ (a : ℤ). HasClose p (moved a (offsets r))) (from_nothing z) here) })
      by later (inr (inl there)) = cell_later p r rs (later there)
      by later (inr (inr both)) = inr (pair_here p z r rs all.0 all.1 both)

  -- and back
  pub cell_in_row : (p z : ℤ) (r : T) (l : List T) → IsOneOf r l → IsCloseKind p r → HasClose p (row_xs l z)
  cell_in_row p z r [] listed close = absurd listed
  cell_in_row p z r (s ∷ ss) (inl e) close =
      close_front p (moved z (offsets s)) (row_xs ss (z +ℤ pos (width s)))
      (subst (λ (t : T). HasClose p (moved z (offsets t))) (sym e) (subst (λ (a : ℤ). HasClose p (moved a (offsets r))) (sym (from_nothing z)) (close_moved p (pos 0) z (offsets r) close)))
  cell_in_row p z r (s ∷ ss) (inr later) close = close_back p (moved z (offsets s)) (row_xs ss (z +ℤ pos (width s))) (cell_in_row p (z +ℤ pos (width s)) r ss later close)

  side_by_side : (p z : ℤ) (r s : T) (l : List T) → AreCloseKinds p r s → HasClose p (row_xs (r ∷ s ∷ l) z)
  side_by_side p z r s l close =
      let rest = row_xs l ((z +ℤ pos (width r)) +ℤ pos (width s)) in
      close_between p (moved z (offsets r)) (moved (z +ℤ pos (width r)) (offsets s) ++ rest)
      (between_sym p (moved (z +ℤ pos (width r)) (offsets s) ++ rest) (moved z (offsets r))
      (between_front p (moved (z +ℤ pos (width r)) (offsets s)) rest (moved z (offsets r))
      (between_sym p (moved z (offsets r)) (moved (z +ℤ pos (width r)) (offsets s))
      (subst (λ (a : ℤ). HasBetween p (moved a (offsets r)) (moved (z +ℤ pos (width r)) (offsets s))) (sym (from_nothing z))
      (subst (λ (a : ℤ). HasBetween p (moved (pos 0 +ℤ z) (offsets r)) (moved a (offsets s))) (swapped (pos (width r)) z)
      (between_moved p (pos 0) (pos (width r)) z (offsets r) (offsets s) close))))))

  pub pair_in_row : (p z : ℤ) (r s : T) (l : List T) → HasPair r s l → AreCloseKinds p r s → HasClose p (row_xs l z)
  pair_in_row p z r s [] listed close = absurd listed
  pair_in_row p z r s (x ∷ []) listed close = absurd listed
  pair_in_row p z r s (x ∷ y ∷ l) (inl (e, f)) close = side_by_side p z x y l (subst (λ (t : T). AreCloseKinds p t y) e (subst (AreCloseKinds p r) f close))
  pair_in_row p z r s (x ∷ y ∷ l) (inr later) close = close_back p (moved z (offsets x)) (row_xs (y ∷ l) (z +ℤ pos (width x))) (pair_in_row p (z +ℤ pos (width x)) r s (y ∷ l) later close)
