-- Lists of pins by formula, which of them are at a side, and where a placed pin lies.
use Rattle.std.proofs.Common.{◌≡◌, ℕ, zero, suc, ◌+◌, ◌<◌, ℤ, List, [], ◌∷◌, ◌++◌, map, Bool, true, false, cond, refl, ap, sym, ◌∙◌, arith}
use Rattle.std.specs.List.{filter}
use Rattle.std.specs.Prelude.{◌≢◌, pos, ◌+ℤ◌, ◌-ℤ◌}
use Rattle.std.specs.Ordering.{int_eq}
use Rattle.std.specs.Int.{int_max, int_min}
use Rattle.std.proofs.lemmas.Bool.Decides.{Decides-int_eq}
use Rattle.std.proofs.lemmas.Int.{ints, clamps}
use Rattle.std.proofs.lemmas.List.{append-nil}
use Rattle.std.proofs.lemmas.List.Elements.{filter-append}
use Rattle.sram_netlist.specs.InstanceList.{tabulate_lists}
use Rattle.port_lists.proofs.TabulateLaws.{tabulate_lists_more, map_append}
use Rattle.or_geom.specs.declared.shape.Rect.{Rect}
use Rattle.macro_layout.specs.Places.{upright, mirrored_at}
use Rattle.part_edges.specs.PartPins.{PartPin, placed_pin}

plus_one : (n : ℕ) → suc n ≡ n + 1
plus_one n = omega arith

-- a list more at the end
pub one_list_more : {A : Type 0} (n : ℕ) (f : ℕ → List A) → tabulate_lists (suc n) f ≡ tabulate_lists n f ++ f n
one_list_more n f = ap (λ m. tabulate_lists m f) (plus_one n) ∙ tabulate_lists_more n f

-- lists that are the same one by one
pub same_lists : {A : Type 0} (n : ℕ) (f g : ℕ → List A) → ((k : ℕ) → k < n → f k ≡ g k) → tabulate_lists n f ≡ tabulate_lists n g
same_lists zero f g same = refl
same_lists (suc n) f g same =
    one_list_more n f ∙ ((λ i. same_lists n f g (λ k lt. same k (omega (arith, lt))) i ++ same n (omega arith) i) ∙ sym (one_list_more n g))

-- lists that are all empty
pub no_lists : {A : Type 0} (n : ℕ) (f : ℕ → List A) → ((k : ℕ) → k < n → f k ≡ []) → tabulate_lists n f ≡ []
no_lists zero f none = refl
no_lists (suc n) f none = one_list_more n f ∙ (λ i. no_lists n f (λ k lt. none k (omega (arith, lt))) i ++ none n (omega arith) i)

-- what passes, list by list
pub filter_lists : {A : Type 0} (p : A → Bool) (n : ℕ) (f : ℕ → List A) → filter p (tabulate_lists n f) ≡ tabulate_lists n (λ k. filter p (f k))
filter_lists p zero f = refl
filter_lists {A} p (suc n) f =
    ap (filter p) (one_list_more n f) ∙ (filter-append p (tabulate_lists n f) (f n)
    ∙ (ap (λ (l : List A). l ++ filter p (f n)) (filter_lists p n f) ∙ sym (one_list_more n (λ k. filter p (f k)))))

pub map_lists : {A B : Type 0} (h : A → B) (n : ℕ) (f : ℕ → List A) → map h (tabulate_lists n f) ≡ tabulate_lists n (λ k. map h (f k))
map_lists h zero f = refl
map_lists {A} {B} h (suc n) f =
    ap (map h) (one_list_more n f) ∙ (map_append h (tabulate_lists n f) (f n)
    ∙ (ap (λ (l : List B). l ++ map h (f n)) (map_lists h n f) ∙ sym (one_list_more n (λ k. map h (f k)))))

-- only the list at one place isn't empty: the last, or the first
pub only_last : {A : Type 0} (n : ℕ) (f : ℕ → List A) → ((k : ℕ) → k < n → f k ≡ []) → tabulate_lists (suc n) f ≡ f n
only_last {A} n f none = one_list_more n f ∙ ap (λ (l : List A). l ++ f n) (no_lists n f none)

pub only_first : {A : Type 0} (n : ℕ) (f : ℕ → List A) → ((k : ℕ) → 0 < k → k < suc n → f k ≡ []) → tabulate_lists (suc n) f ≡ f 0
only_first zero f none = append-nil (f 0)
only_first (suc n) f none =
    one_list_more (suc n) f ∙ ((λ i. only_first n f (λ k some lt. none k some (omega (arith, lt))) i ++ none (suc n) (omega arith) (omega arith) i) ∙ append-nil (f 0))

-- a list of two of which both pass, or neither
pub both_pass : {A : Type 0} (p : A → Bool) (a b : A) → p a ≡ true → p b ≡ true → filter p (a ∷ b ∷ []) ≡ a ∷ b ∷ []
both_pass p a b one two = (λ i. cond (one i) (a ∷ cond (two i) (b ∷ []) []) (cond (two i) (b ∷ []) []))

pub neither_passes : {A : Type 0} (p : A → Bool) (a b : A) → p a ≡ false → p b ≡ false → filter p (a ∷ b ∷ []) ≡ []
neither_passes p a b one two = (λ i. cond (one i) (a ∷ cond (two i) (b ∷ []) []) (cond (two i) (b ∷ []) []))

-- whether two numbers are the same
pub equal_numbers : (x y : ℤ) → x ≡ y → int_eq x y ≡ true
equal_numbers x y same = (Decides-int_eq x y).1 same

pub other_numbers : (x y : ℤ) → x ≢ y → int_eq x y ≡ false
other_numbers x y differ = by (int_eq x y) refl where
  by : (t : Bool) → int_eq x y ≡ t → t ≡ false
  by true is = absurd (differ ((Decides-int_eq x y).0 is))
  by false is = refl

-- a pin that lies so
abbrev pub pin_at : List ℕ → ℤ → ℤ → ℤ → PartPin
pin_at net left low high = record { net = net; left = left; low = low; high = high }

-- a pin of an upright cell
pub upright_pin : (net : List ℕ) (x y : ℤ) (r : Rect) → placed_pin net (upright x y) r ≡ pin_at net (x +ℤ r.x1) (y +ℤ r.y1) (y +ℤ r.y2)
upright_pin net x y r =
    let wide = r.wide in
    let tall = r.tall in
    let left : int_min (r.x1 +ℤ x) (r.x2 +ℤ x) ≡ x +ℤ r.x1 = omega (arith, ints, clamps, wide) in
    let low : int_min (r.y1 +ℤ y) (r.y2 +ℤ y) ≡ y +ℤ r.y1 = omega (arith, ints, clamps, tall) in
    let high : int_max (r.y1 +ℤ y) (r.y2 +ℤ y) ≡ y +ℤ r.y2 = omega (arith, ints, clamps, tall) in
    λ i. pin_at net (left i) (low i) (high i)

-- a pin of a cell that is mirrored, whose shape goes from the lower to the upper side
pub mirrored_pin : (net : List ℕ) (x y : ℤ) (height : ℤ) (r : Rect) → r.y1 ≡ pos 0 → r.y2 ≡ height → placed_pin net (mirrored_at x (y +ℤ height)) r ≡ pin_at net (x +ℤ r.x1) y (y +ℤ height)
mirrored_pin net x y height r from to =
    let wide = r.wide in
    let tall = r.tall in
    let left : int_min (r.x1 +ℤ x) (r.x2 +ℤ x) ≡ x +ℤ r.x1 = omega (arith, ints, clamps, wide) in
    let low : int_min ((pos 0 -ℤ r.y1) +ℤ (y +ℤ height)) ((pos 0 -ℤ r.y2) +ℤ (y +ℤ height)) ≡ y = omega (arith, ints, clamps, tall, from, to) in
    let high : int_max ((pos 0 -ℤ r.y1) +ℤ (y +ℤ height)) ((pos 0 -ℤ r.y2) +ℤ (y +ℤ height)) ≡ y +ℤ height = omega (arith, ints, clamps, tall, from, to) in
    λ i. pin_at net (left i) (low i) (high i)
