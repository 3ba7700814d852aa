-- Neighbours of the sorted numbers.
use Rattle.std.proofs.Common.{◌≡◌, ◌+◌, ◌-◌, ◌<ℤ◌, ◌+ℤ◌, ◌-ℤ◌, ◌≤ℤ◌, ℕ, ℤ, List, true, false, int_lt, pos, get_or, w64, FitsSigned, to_z, of_z, inl, inr, subst, arith}
use Rattle.std.proofs.lemmas.Bool.{cases_lt}
use Rattle.std.proofs.lemmas.Int.{ints, to_z-of_z}
use Rattle.std.proofs.lemmas.List.Sorted.{IsPermutation-sym}
use Rattle.or_geom.specs.Distance.{IsNear}
use Rattle.wire_drawing.proofs.SpacingLaws.{AreApartBelow, near_at, at_default, first_close_at, first_permuted, none_close, close_permuted}
use Rattle.wire_drawing.proofs.route.first_close.Goals as goal

difference_fits : (x y : ℤ) → IsNear x → IsNear y → FitsSigned w64 (to_z w64 (of_z w64 y) -ℤ to_z w64 (of_z w64 x))
difference_fits x y m n = omega (arith, ints, m.above, m.below, n.above, n.below)

pub overflow_sub-second : goal.overflow_sub-second
overflow_sub-second c =
    let xs = c.sort_unstable.new.self.items in
    let first = c.index-first.result.now in
    let second = c.index-second.result.now in
    let near_first : IsNear first = near_at c.args.numbers.items xs (c.loop-k.k - 1) first c.sort_unstable.ensures.permutation c.requires (omega arith) c.index-first.ensures in
    let near_second : IsNear second = near_at c.args.numbers.items xs c.loop-k.k second c.sort_unstable.ensures.permutation c.requires (omega arith) c.index-second.ensures in
    difference_fits first second near_first near_second

difference_is : (x y : ℤ) → IsNear x → IsNear y → to_z w64 (of_z w64 (to_z w64 (of_z w64 y) -ℤ to_z w64 (of_z w64 x))) ≡ y -ℤ x
difference_is x y m n = omega (arith, ints, m.above, m.below, n.above, n.below)

kept : (x : ℤ) → IsNear x → to_z w64 (of_z w64 x) ≡ x
kept x m = omega (arith, ints, m.above, m.below)

below : (a b : ℤ) → int_lt a b ≡ true → a <ℤ b
below a b is = grind (arith, ints)

not_below : (a b : ℤ) → int_lt a b ≡ false → b ≤ℤ a
not_below a b is = grind (arith, ints)

-- the test of two neighbours says whether they are close
is_close : (x y pitch : ℤ) → IsNear x → IsNear y → FitsSigned w64 pitch → int_lt (to_z w64 (of_z w64 (to_z w64 (of_z w64 y) -ℤ to_z w64 (of_z w64 x)))) (to_z w64 (of_z w64 pitch)) ≡ true → y <ℤ (x +ℤ pitch)
is_close x y pitch m n fits is =
    let less = below (y -ℤ x) pitch (rw (difference_is x y m n, to_z-of_z w64 pitch fits) at is) in
    omega (arith, ints, less)

is_apart : (x y pitch : ℤ) → IsNear x → IsNear y → FitsSigned w64 pitch → int_lt (to_z w64 (of_z w64 (to_z w64 (of_z w64 y) -ℤ to_z w64 (of_z w64 x)))) (to_z w64 (of_z w64 pitch)) ≡ false → (x +ℤ pitch) ≤ℤ y
is_apart x y pitch m n fits is =
    let more = not_below (y -ℤ x) pitch (rw (difference_is x y m n, to_z-of_z w64 pitch fits) at is) in
    omega (arith, ints, more)

-- the invariant, with the pitch as it was passed
apart_so_far : (pitch : ℤ) (xs : List ℤ) (k : ℕ) → FitsSigned w64 pitch → AreApartBelow (to_z w64 (of_z w64 pitch)) xs k → AreApartBelow pitch xs k
apart_so_far pitch xs k fits apart m positive lt = let gap = apart m positive lt in omega (arith, ints, gap, fits)

one_more : (pitch : ℤ) (xs : List ℤ) (k : ℕ) → FitsSigned w64 pitch → AreApartBelow (to_z w64 (of_z w64 pitch)) xs k → (get_or xs (k - 1) (pos 0) +ℤ pitch) ≤ℤ get_or xs k (pos 0) → AreApartBelow (to_z w64 (of_z w64 pitch)) xs (k + 1)
one_more pitch xs k fits apart here m positive lt = elim (cases_lt m k) [
  | inl less ↦ apart m positive less
  | inr ge ↦
      let e : k ≡ m = omega (arith, ge, lt) in
      subst (λ (n : ℕ). (get_or xs (n - 1) (pos 0) +ℤ to_z w64 (of_z w64 pitch)) ≤ℤ get_or xs n (pos 0)) e (omega (arith, ints, here, fits))
]

pub returns-then-second-first : goal.returns-then-second-first
returns-then-second-first c =
    let xs = c.sort_unstable.new.self.items in
    let first = c.index-first.result.now in
    let second = c.index-second.result.now in
    let near_first : IsNear first = near_at c.args.numbers.items xs (c.loop-k.k - 1) first c.sort_unstable.ensures.permutation c.requires (omega arith) c.index-first.ensures in
    let near_second : IsNear second = near_at c.args.numbers.items xs c.loop-k.k second c.sort_unstable.ensures.permutation c.requires (omega arith) c.index-second.ensures in
    let at_first = at_default xs (c.loop-k.k - 1) first (omega arith) c.index-first.ensures in
    let at_second = at_default xs c.loop-k.k second (omega arith) c.index-second.ensures in
    let close = is_close first second c.args.pitch near_first near_second c.ranges.pitch c.if-second-first.true in
    let found = first_close_at c.args.pitch xs c.loop-k.k c.sort_unstable.ensures.sorted (omega arith) (omega arith) (apart_so_far c.args.pitch xs c.loop-k.k c.ranges.pitch c.loop-k.invariant) (omega (arith, ints, close, at_first, at_second)) in
    let here = rw (at_first, at_second) at found in
    rw (kept first near_first, kept second near_second) (first_permuted c.args.pitch xs c.args.numbers.items first second (IsPermutation-sym c.args.numbers.items xs c.sort_unstable.ensures.permutation) here)

pub loop-k-preserved : goal.loop-k-preserved
loop-k-preserved c =
    let xs = c.sort_unstable.new.self.items in
    let first = c.index-first.result.now in
    let second = c.index-second.result.now in
    let near_first : IsNear first = near_at c.args.numbers.items xs (c.loop-k.k - 1) first c.sort_unstable.ensures.permutation c.requires (omega arith) c.index-first.ensures in
    let near_second : IsNear second = near_at c.args.numbers.items xs c.loop-k.k second c.sort_unstable.ensures.permutation c.requires (omega arith) c.index-second.ensures in
    let at_first = at_default xs (c.loop-k.k - 1) first (omega arith) c.index-first.ensures in
    let at_second = at_default xs c.loop-k.k second (omega arith) c.index-second.ensures in
    let gap = is_apart first second c.args.pitch near_first near_second c.ranges.pitch c.if-second-first.false in
    one_more c.args.pitch xs c.loop-k.k c.ranges.pitch c.loop-k.invariant (omega (arith, ints, gap, at_first, at_second))

pub returns : goal.returns
returns c = λ close.
    let xs = c.sort_unstable.new.self.items in
    none_close c.args.pitch xs c.loop-k.k c.sort_unstable.ensures.sorted (omega arith) (apart_so_far c.args.pitch xs c.loop-k.k c.ranges.pitch c.loop-k.invariant)
    (close.0, close.1, close_permuted c.args.pitch c.args.numbers.items xs close.0 close.1 c.sort_unstable.ensures.permutation close.2)
