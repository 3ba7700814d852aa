-- The taps of a bank: where no two are too close in the model's, none are.
use Rattle.std.proofs.Common.{◌≡◌, ◌⊎◌, inl, inr, ℕ, ◌+◌, ◌%◌, ◌==◌, ℤ, pos, ◌+ℤ◌, ◌-ℤ◌, ◌*ℤ◌, ◌≤ℤ◌, Bool, true, false, cond, List, [], ◌∷◌, ◌++◌, flat_map, refl, sym, ap, subst, ◌∙◌, arith}
use Rattle.std.proofs.lemmas.Int.{ints}
use Rattle.or_geom.specs.declared.shape.Rect.{Rect}
use Rattle.wire_drawing.specs.declared.route.Tap.{Tap}
use Rattle.rail_bus.specs.Rails.{tap_ys}
use Rattle.leaf_shapes.specs.declared.pins.LeafPin.{LeafPin}
use Rattle.sram_netlist.specs.InstanceList.{numbers_from, tabulate_lists}
use Rattle.row_decoder.specs.RowTaps.{corner_at, lower_end, pin_tap, row_place, RowLeaves, input_taps, row_taps}
use Rattle.macro_layout.specs.Places.{upright, mirrored_at}
use Rattle.sram_netlist.specs.Organization.{power_of_two}
use Rattle.sram_netlist.specs.Netlist.{high_bits}
use Rattle.macro_layout.specs.Floorplan.{line_count}
use Rattle.bank_layout.proofs.HighestLaws.{upright_low, mirrored_low}
use Rattle.spacing_laws.proofs.CloseLaws.{from_nothing, HasNear, HasClose, HasBetween, HasParts, close_parts, close_front, close_back, close_between, between_sym}
use Rattle.spacing_laws.proofs.RowLaws.{moved, between_moved, between_unmoved, close_moved, close_unmoved, AreUpTo, AreFrom, none_near, none_between}

-- Lists of numbers: Z and e are moved together, and the others stand a pitch below

-- the numbers of Z, and e, are moved from b to c
unmoved_close : (p b c : ℤ) (us : List ℤ) → HasClose p (moved b us) → HasClose p (moved c us)
unmoved_close p b c us h =
    subst (λ (a : ℤ). HasClose p (moved a us)) (sym (from_nothing c))
    (close_moved p (pos 0) c us (close_unmoved p (pos 0) b us (subst (λ (a : ℤ). HasClose p (moved a us)) (from_nothing b) h)))

unmoved_between : (p b c : ℤ) (us vs : List ℤ) → HasBetween p (moved b us) (moved b vs) → HasBetween p (moved c us) (moved c vs)
unmoved_between p b c us vs h =
    subst (λ (a : ℤ). HasBetween p (moved a us) (moved a vs)) (sym (from_nothing c))
    (between_moved p (pos 0) (pos 0) c us vs (between_unmoved p (pos 0) (pos 0) b us vs (subst (λ (a : ℤ). HasBetween p (moved a us) (moved a vs)) (from_nothing b) h)))

-- a number that is near a list of three parts
between_three : (p x y : ℤ) (us vs : List ℤ) → HasBetween p us (x ∷ y ∷ vs) → HasBetween p us (x ∷ []) ⊎ (HasBetween p us (y ∷ []) ⊎ HasBetween p us vs)
between_three p x y [] vs h = absurd h
between_three p x y (u ∷ us) vs (inl (inl h)) = inl (inl (inl h))
between_three p x y (u ∷ us) vs (inl (inr (inl h))) = inr (inl (inl (inl h)))
between_three p x y (u ∷ us) vs (inl (inr (inr h))) = inr (inr (inl h))
between_three p x y (u ∷ us) vs (inr h) = by (between_three p x y us vs h)
  where
    by : HasBetween p us (x ∷ []) ⊎ (HasBetween p us (y ∷ []) ⊎ HasBetween p us vs) → HasBetween p (u ∷ us) (x ∷ []) ⊎ (HasBetween p (u ∷ us) (y ∷ []) ⊎ HasBetween p (u ∷ us) vs)
    by (inl a) = inl (inr a)
    by (inr (inl a)) = inr (inl (inr a))
    by (inr (inr a)) = inr (inr (inr a))

middle_between : (p x y : ℤ) (us vs : List ℤ) → HasBetween p us (y ∷ []) → HasBetween p us (x ∷ y ∷ vs)
middle_between p x y [] vs h = absurd h
middle_between p x y (u ∷ us) vs (inl (inl h)) = inl (inr (inl h))
middle_between p x y (u ∷ us) vs (inl (inr h)) = absurd h
middle_between p x y (u ∷ us) vs (inr h) = inr (middle_between p x y us vs h)

-- what stands below, and what from b on
pub record AreLayers (p b s e : ℤ) (zs cs : List ℤ) : Type 0 where
  pub rows : AreFrom b (moved b zs)
  pub above : b ≤ℤ (b +ℤ e)
  pub sense : (s +ℤ p) ≤ℤ b
  pub choices : AreUpTo (b -ℤ p) cs
  pub apart : HasClose p cs → ⊥

pub taps_move : (p b c s e : ℤ) (zs cs ds : List ℤ) → AreLayers p b s e zs cs → (HasNear p s cs → HasNear p s ds) → HasClose p (moved b zs ++ (s ∷ (b +ℤ e) ∷ cs)) → HasClose p (moved c zs ++ (s ∷ (c +ℤ e) ∷ ds))
taps_move p b c s e zs cs ds is same h = by (close_parts p (moved b zs) (s ∷ (b +ℤ e) ∷ cs) h)
  where
    behind : b ≡ (b -ℤ p) +ℤ p
    behind = omega (arith, ints)

    from_low : (xs : List ℤ) → AreFrom b xs → AreFrom ((b -ℤ p) +ℤ p) xs
    from_low xs a = subst (λ (m : ℤ). AreFrom m xs) behind a

    sense_low : s ≤ℤ (b -ℤ p)
    sense_low = let a = is.sense in omega (arith, ints, a)

    -- the precharge cell's, and those below
    low_parts : HasClose p (s ∷ (b +ℤ e) ∷ cs) → HasClose p (s ∷ (c +ℤ e) ∷ ds)
    low_parts (inl (inl near)) = absurd (none_near p (b -ℤ p) s ((b +ℤ e) ∷ []) sense_low (from_low ((b +ℤ e) ∷ []) (is.above, tt)) (inl near))
    low_parts (inl (inr near)) = inl (inr (same near))
    low_parts (inr (inl near)) = absurd (none_between p (b -ℤ p) cs ((b +ℤ e) ∷ []) is.choices (from_low ((b +ℤ e) ∷ []) (is.above, tt)) (between_sym p ((b +ℤ e) ∷ []) cs (inl near)))
    low_parts (inr (inr close)) = absurd (is.apart close)

    by : HasParts p (moved b zs) (s ∷ (b +ℤ e) ∷ cs) → HasClose p (moved c zs ++ (s ∷ (c +ℤ e) ∷ ds))
    by (inl rows) = close_front p (moved c zs) (s ∷ (c +ℤ e) ∷ ds) (unmoved_close p b c zs rows)
    by (inr (inl others)) = close_back p (moved c zs) (s ∷ (c +ℤ e) ∷ ds) (low_parts others)
    by (inr (inr both)) = three (between_three p s (b +ℤ e) (moved b zs) cs both)
      where
        three : HasBetween p (moved b zs) (s ∷ []) ⊎ (HasBetween p (moved b zs) ((b +ℤ e) ∷ []) ⊎ HasBetween p (moved b zs) cs) → HasClose p (moved c zs ++ (s ∷ (c +ℤ e) ∷ ds))
        three (inl sense) = absurd (none_between p (b -ℤ p) (s ∷ []) (moved b zs) (sense_low, tt) (from_low (moved b zs) is.rows) (between_sym p (moved b zs) (s ∷ []) sense))
        three (inr (inl top)) = close_between p (moved c zs) (s ∷ (c +ℤ e) ∷ ds) (middle_between p s (c +ℤ e) (moved c zs) ds (unmoved_between p b c zs (e ∷ []) top))
        three (inr (inr choice)) = absurd (none_between p (b -ℤ p) cs (moved b zs) is.choices (from_low (moved b zs) is.rows) (between_sym p (moved b zs) cs choice))

-- The heights of the taps of rows

-- how high above its row a pin's lower end is
unfoldable pub row_low : ℤ → ℕ → Rect → ℤ
row_low height r rect = lower_end (row_place height (corner_at (pos 0) (pos 0)) r) rect

row_moved : (x y height : ℤ) (r : ℕ) (rect : Rect) → lower_end (row_place height (corner_at x y) r) rect ≡ y +ℤ row_low height r rect
unfolding row_low
row_moved x y height r rect = by (r % 2 == 0)
  where
    up : (m : ℤ) → (y +ℤ m) +ℤ rect.y1 ≡ y +ℤ ((pos 0 +ℤ m) +ℤ rect.y1)
    up m = omega (arith, ints)

    down : (m : ℤ) → (y +ℤ m) -ℤ rect.y2 ≡ y +ℤ ((pos 0 +ℤ m) -ℤ rect.y2)
    down m = omega (arith, ints)

    by : (even : Bool) → lower_end (cond even (upright x (y +ℤ (pos r *ℤ height))) (mirrored_at x (y +ℤ (pos (r + 1) *ℤ height)))) rect
        ≡ y +ℤ lower_end (cond even (upright (pos 0) (pos 0 +ℤ (pos r *ℤ height))) (mirrored_at (pos 0) (pos 0 +ℤ (pos (r + 1) *ℤ height)))) rect
    by true = upright_low x (y +ℤ (pos r *ℤ height)) rect ∙ (up (pos r *ℤ height) ∙ ap (λ (z : ℤ). y +ℤ z) (sym (upright_low (pos 0) (pos 0 +ℤ (pos r *ℤ height)) rect)))
    by false = mirrored_low x (y +ℤ (pos (r + 1) *ℤ height)) rect ∙ (down (pos (r + 1) *ℤ height) ∙ ap (λ (z : ℤ). y +ℤ z) (sym (mirrored_low (pos 0) (pos 0 +ℤ (pos (r + 1) *ℤ height)) rect)))

-- of the inputs of a row, one for each group
unfoldable pub input_lows : ℤ → ℕ → List LeafPin → List ℕ → List ℤ
input_lows height r pins [] = []
input_lows height r [] (b ∷ bs) = []
input_lows height r (p ∷ ps) (b ∷ bs) = row_low height r p.rect ∷ input_lows height r ps bs

inputs_moved : (x y height : ℤ) (k : ℕ) (pins : List LeafPin) (groups : List ℕ) (rail r : ℕ) → tap_ys (input_taps (row_place height (corner_at x y) k) pins groups rail r) ≡ moved y (input_lows height k pins groups)
unfolding input_lows
inputs_moved x y height k pins [] rail r = refl
inputs_moved x y height k [] (b ∷ bs) rail r = refl
inputs_moved x y height k (p ∷ ps) (b ∷ bs) rail r = λ i. row_moved x y height k p.rect i ∷ inputs_moved x y height k ps bs (rail + power_of_two b) (high_bits b r) i

unfoldable pub row_lows : List ℕ → RowLeaves → ℕ → List ℤ
row_lows groups leaves r = input_lows leaves.height r leaves.inputs groups ++ row_low leaves.height r leaves.enable.rect ∷ []

pub ys_append : (xs ys : List Tap) → tap_ys (xs ++ ys) ≡ tap_ys xs ++ tap_ys ys
ys_append [] ys = refl
ys_append (x ∷ xs) ys = ap (λ (l : List ℤ). x.y ∷ l) (ys_append xs ys)

moved_append : (z : ℤ) (xs ys : List ℤ) → moved z (xs ++ ys) ≡ moved z xs ++ moved z ys
moved_append z [] ys = refl
moved_append z (x ∷ xs) ys = ap (λ (l : List ℤ). (z +ℤ x) ∷ l) (moved_append z xs ys)

row_ys : (x y : ℤ) (groups : List ℕ) (leaves : RowLeaves) (r : ℕ) → tap_ys (row_taps groups leaves (corner_at x y) r) ≡ moved y (row_lows groups leaves r)
unfolding row_lows
row_ys x y groups leaves r =
    ys_append (input_taps (row_place leaves.height (corner_at x y) r) leaves.inputs groups 0 r) (pin_tap (line_count groups) (row_place leaves.height (corner_at (x +ℤ leaves.gate_width) y) r) leaves.enable ∷ [])
    ∙ ((λ i. inputs_moved x y leaves.height r leaves.inputs groups 0 r i ++ row_moved (x +ℤ leaves.gate_width) y leaves.height r leaves.enable.rect i ∷ [])
    ∙ sym (moved_append y (input_lows leaves.height r leaves.inputs groups) (row_low leaves.height r leaves.enable.rect ∷ [])))

all_row_ys : (x y : ℤ) (groups : List ℕ) (leaves : RowLeaves) (ns : List ℕ) → tap_ys (flat_map (row_taps groups leaves (corner_at x y)) ns) ≡ moved y (flat_map (row_lows groups leaves) ns)
all_row_ys x y groups leaves [] = refl
all_row_ys x y groups leaves (n ∷ ns) =
    ys_append (row_taps groups leaves (corner_at x y) n) (flat_map (row_taps groups leaves (corner_at x y)) ns)
    ∙ ((λ i. row_ys x y groups leaves n i ++ all_row_ys x y groups leaves ns i) ∙ sym (moved_append y (row_lows groups leaves n) (flat_map (row_lows groups leaves) ns)))

-- The taps of so many rows have the same heights above the first row, wherever it is.
unfoldable pub rows_lows : List ℕ → RowLeaves → ℕ → List ℤ
rows_lows groups leaves n = tabulate_lists n (row_lows groups leaves)

pub rows_ys : (x y : ℤ) (groups : List ℕ) (leaves : RowLeaves) (n : ℕ) → tap_ys (tabulate_lists n (row_taps groups leaves (corner_at x y))) ≡ moved y (rows_lows groups leaves n)
unfolding rows_lows
rows_ys x y groups leaves n = all_row_ys x y groups leaves (numbers_from 0 n)
