-- The nets of a bank's rails: each has one rail.
use Rattle.std.proofs.Common.{◌≡◌, ◌⊎◌, inl, inr, ℕ, zero, suc, ◌+◌, ◌<◌, ◌≤◌, List, [], ◌∷◌, ◌++◌, length, Some, refl, ap, sym, ◌∙◌, arith}
use Rattle.std.specs.Prelude.{slice_get}
use Rattle.std.specs.List.{AllByRecursion}
use Rattle.std.proofs.lemmas.List.{length-append}
use Rattle.std.proofs.lemmas.Option.{same_Some, slice_get_within}
use Rattle.sram_netlist.specs.Organization.{Organization, IsBuildable, IsGroupSize, power_of_two}
use Rattle.sram_netlist.specs.Nets.{Net, Clkb, Wlen, Sen, Control, Line, WlenAt, SenAt}
use Rattle.sram_netlist.specs.Netlist.{low_bits, high_bits, row_lines, wlen_at, sen_at}
use Rattle.sram_netlist.specs.InstanceList.{tabulate}
use Rattle.sram_netlist.proofs.Bounds.{size_small}
use Rattle.memory_laws.proofs.Decode.{low_below}
use Rattle.macro_layout.specs.Floorplan.{line_count}
use Rattle.macro_layout.specs.Pins.{line_nets, choice_nets, rail_nets}
use Rattle.bank_layout.proofs.ListLaws.{at_tabulated, tabulated_at, tabulated_long}
use Rattle.bank_layout.proofs.LineLaws.{line_at, line_from}

pub in_front : {X : Type 0} (xs ys : List X) (i : ℕ) → i < length xs → slice_get (xs ++ ys) i ≡ slice_get xs i
in_front [] ys i lt = absurd (omega (arith, lt))
in_front (x ∷ xs) ys zero lt = refl
in_front (x ∷ xs) ys (suc i) lt = in_front xs ys i (omega (arith, lt))

pub behind : {X : Type 0} (xs ys : List X) (n i : ℕ) → n ≡ length xs + i → slice_get (xs ++ ys) n ≡ slice_get ys i
behind [] ys n i e = ap (slice_get ys) (let same : n ≡ i = omega (arith, e) in same)
behind (x ∷ xs) ys zero i e = absurd (omega (arith, e))
behind (x ∷ xs) ys (suc n) i e = behind xs ys n i (omega (arith, e))

pub record IsBehind {X : Type 0} (xs ys : List X) (i : ℕ) (x : X) : Type 0 where
  pub k : ℕ
  pub is : i ≡ length xs + k
  pub at : slice_get ys k ≡ Some x

pub split_at : {X : Type 0} (xs ys : List X) (i : ℕ) (x : X) → slice_get (xs ++ ys) i ≡ Some x → (slice_get xs i ≡ Some x) ⊎ IsBehind xs ys i x
split_at [] ys i x e = inr (record { k = i; is = omega arith; at = e })
split_at (y ∷ xs) ys zero x e = inl e
split_at (y ∷ xs) ys (suc i) x e = elim (split_at xs ys i x e) [ inl first ↦ inl first | inr later ↦ inr (let is = later.is in record { k = later.k; is = omega (arith, is); at = later.at }) ]

pub lines_long : (groups : List ℕ) (o : ℕ) → length (line_nets groups o) ≡ line_count groups
lines_long [] o = refl
lines_long (b ∷ bs) o =
    let rest = lines_long bs (o + b) in
    let first = tabulated_long (power_of_two b) (Line o b) in
    let both = length-append (tabulate (power_of_two b) (Line o b)) (line_nets bs (o + b)) in
    omega (arith, rest, first, both)

-- the line of a row in a group
pub line_net : (groups : List ℕ) (o r group : ℕ) → group < length groups → slice_get (line_nets groups o) (line_at groups 0 r group) ≡ slice_get (row_lines groups o r) group
line_net [] o r group lt = absurd (omega (arith, lt))
line_net (b ∷ bs) o r zero lt =
    let low = low_below b r in
    let long = tabulated_long (power_of_two b) (Line o b) in
    let none : 0 + low_bits b r ≡ low_bits b r = omega arith in
    ap (slice_get (line_nets (b ∷ bs) o)) none ∙ (in_front (tabulate (power_of_two b) (Line o b)) (line_nets bs (o + b)) (low_bits b r) (omega (arith, low, long)) ∙ tabulated_at (power_of_two b) (Line o b) (low_bits b r) low)
line_net (b ∷ bs) o r (suc group) lt =
    let long = tabulated_long (power_of_two b) (Line o b) in
    let from = line_from bs (0 + power_of_two b) (high_bits b r) group (omega (arith, lt)) in
    behind (tabulate (power_of_two b) (Line o b)) (line_nets bs (o + b)) (line_at bs (0 + power_of_two b) (high_bits b r) group) (line_at bs 0 (high_bits b r) group) (omega (arith, long, from))
    ∙ line_net bs (o + b) (high_bits b r) group (omega (arith, lt))

-- a line whose bits begin behind these
pub record IsLineFrom (from : ℕ) (net : Net) : Type 0 where
  pub bit : ℕ
  pub bits : ℕ
  pub number : ℕ
  pub above : from ≤ bit
  pub is : net ≡ Line bit bits number

pub line_of : (groups : List ℕ) (o i : ℕ) (net : Net) → slice_get (line_nets groups o) i ≡ Some net → IsLineFrom o net
line_of [] o i net e = let lt = slice_get_within [] i net e in absurd (omega (arith, lt))
line_of (b ∷ bs) o i net e = elim (split_at (tabulate (power_of_two b) (Line o b)) (line_nets bs (o + b)) i net e) [
  | inl first ↦ record { bit = o; bits = b; number = i; above = omega arith; is = at_tabulated (power_of_two b) (Line o b) i net first }
  | inr later ↦ (let r = line_of bs (o + b) later.k net later.at in let above = r.above in record { bit = r.bit; bits = r.bits; number = r.number; above = omega (arith, above); is = r.is })
]

number_of : Net → ℕ
number_of (Line o b k) = k
number_of net = 0

bit_of : Net → ℕ
bit_of (Line o b k) = o
bit_of net = 0

same_number : (o b i j : ℕ) (net : Net) → net ≡ Line o b i → net ≡ Line o b j → i ≡ j
unfolding number_of
same_number o b i j net first second = ap number_of (sym first ∙ second)

same_bit : (o b i p c j : ℕ) (net : Net) → net ≡ Line o b i → net ≡ Line p c j → o ≡ p
unfolding bit_of
same_bit o b i p c j net first second = ap bit_of (sym first ∙ second)

one_line : (groups : List ℕ) (o i j : ℕ) (net : Net) → AllByRecursion IsGroupSize groups → slice_get (line_nets groups o) i ≡ Some net → slice_get (line_nets groups o) j ≡ Some net → i ≡ j
one_line [] o i j net all e f = let lt = slice_get_within [] i net e in absurd (omega (arith, lt))
one_line (b ∷ bs) o i j net all e f = by (λ k m x y. one_line bs (o + b) k m net all.1 x y) (split_at (tabulate (power_of_two b) (Line o b)) (line_nets bs (o + b)) i net e) (split_at (tabulate (power_of_two b) (Line o b)) (line_nets bs (o + b)) j net f) where
  some : 0 < b
  some = (size_small b all.0).0

  apart : (k m : ℕ) → slice_get (tabulate (power_of_two b) (Line o b)) k ≡ Some net → slice_get (line_nets bs (o + b)) m ≡ Some net → ⊥
  apart k m here there =
      let r = line_of bs (o + b) m net there in
      let above = r.above in
      let same = same_bit o b k r.bit r.bits r.number net (at_tabulated (power_of_two b) (Line o b) k net here) r.is in
      let s = some in
      omega (arith, above, same, s)

  by : ((k m : ℕ) → slice_get (line_nets bs (o + b)) k ≡ Some net → slice_get (line_nets bs (o + b)) m ≡ Some net → k ≡ m)
      → (slice_get (tabulate (power_of_two b) (Line o b)) i ≡ Some net) ⊎ IsBehind (tabulate (power_of_two b) (Line o b)) (line_nets bs (o + b)) i net
      → (slice_get (tabulate (power_of_two b) (Line o b)) j ≡ Some net) ⊎ IsBehind (tabulate (power_of_two b) (Line o b)) (line_nets bs (o + b)) j net → i ≡ j
  by rest (inl x) (inl y) = same_number o b i j net (at_tabulated (power_of_two b) (Line o b) i net x) (at_tabulated (power_of_two b) (Line o b) j net y)
  by rest (inl x) (inr y) = absurd (apart i y.k x y.at)
  by rest (inr x) (inl y) = absurd (apart j x.k y x.at)
  by rest (inr x) (inr y) = let same = rest x.k y.k x.at y.at in let a = x.is in let c = y.is in omega (arith, same, a, c)

-- the place of a net among those behind the lines
place_of : Net → ℕ
place_of (Control Wlen) = 0
place_of (WlenAt b) = 0
place_of (Control Sen) = 1
place_of (SenAt b) = 1
place_of (Line o b k) = 3 + k
place_of net = 2

abbrev pub others : Organization → List Net
others plan = wlen_at plan.bank_bits 0 ∷ sen_at plan.bank_bits 0 ∷ Control Clkb ∷ choice_nets plan.col_bits

wlen_place : (n : ℕ) → place_of (wlen_at n 0) ≡ 0
unfolding place_of
wlen_place zero = refl
wlen_place (suc n) = refl

sen_place : (n : ℕ) → place_of (sen_at n 0) ≡ 1
unfolding place_of
sen_place zero = refl
sen_place (suc n) = refl

pub choice_at : (bits k : ℕ) (net : Net) → slice_get (choice_nets bits) k ≡ Some net → net ≡ Line 0 bits k
choice_at zero k net e = let lt = slice_get_within [] k net e in absurd (omega (arith, lt))
choice_at (suc n) k net e = at_tabulated (power_of_two (suc n)) (Line 0 (suc n)) k net e

other_place : (plan : Organization) (i : ℕ) (net : Net) → slice_get (others plan) i ≡ Some net → i ≡ place_of net
unfolding place_of
other_place plan zero net e = sym (wlen_place plan.bank_bits) ∙ ap place_of (same_Some (wlen_at plan.bank_bits 0) net e)
other_place plan (suc zero) net e = sym (sen_place plan.bank_bits) ∙ ap place_of (same_Some (sen_at plan.bank_bits 0) net e)
other_place plan (suc (suc zero)) net e = ap place_of (same_Some (Control Clkb) net e)
other_place plan (suc (suc (suc k))) net e = let is : 3 + k ≡ place_of net = sym (ap place_of (choice_at plan.col_bits k net e)) in omega (arith, is)

some_choice : (bits k : ℕ) (net : Net) → slice_get (choice_nets bits) k ≡ Some net → 0 < bits
some_choice zero k net e = let lt = slice_get_within [] k net e in absurd (omega (arith, lt))
some_choice (suc n) k net e = omega arith

-- no line of a group stands behind the lines
no_both : (plan : Organization) (k m : ℕ) (net : Net) → slice_get (line_nets plan.groups plan.col_bits) k ≡ Some net → slice_get (others plan) m ≡ Some net → ⊥
unfolding place_of
no_both plan k zero net line other = let r = line_of plan.groups plan.col_bits k net line in let at : 0 ≡ 3 + r.number = other_place plan zero net other ∙ ap place_of r.is in omega (arith, at)
no_both plan k (suc zero) net line other = let r = line_of plan.groups plan.col_bits k net line in let at : 1 ≡ 3 + r.number = other_place plan (suc zero) net other ∙ ap place_of r.is in omega (arith, at)
no_both plan k (suc (suc zero)) net line other = let r = line_of plan.groups plan.col_bits k net line in let at : 2 ≡ 3 + r.number = other_place plan (suc (suc zero)) net other ∙ ap place_of r.is in omega (arith, at)
no_both plan k (suc (suc (suc m))) net line other =
    let r = line_of plan.groups plan.col_bits k net line in
    let some = some_choice plan.col_bits m net other in
    let same = same_bit 0 plan.col_bits m r.bit r.bits r.number net (choice_at plan.col_bits m net other) r.is in
    let above = r.above in
    omega (arith, some, same, above)

-- each net has one rail
pub one_rail : (plan : Organization) (i j : ℕ) (net : Net) → IsBuildable plan → slice_get (rail_nets plan 0) i ≡ Some net → slice_get (rail_nets plan 0) j ≡ Some net → i ≡ j
one_rail plan i j net built e f = by (split_at lines (others plan) i net e) (split_at lines (others plan) j net f) where
  lines : List Net
  lines = line_nets plan.groups plan.col_bits

  by : (slice_get lines i ≡ Some net) ⊎ IsBehind lines (others plan) i net → (slice_get lines j ≡ Some net) ⊎ IsBehind lines (others plan) j net → i ≡ j
  by (inl x) (inl y) = one_line plan.groups plan.col_bits i j net built.sizes x y
  by (inl x) (inr y) = absurd (no_both plan i y.k net x y.at)
  by (inr x) (inl y) = absurd (no_both plan j x.k net y x.at)
  by (inr x) (inr y) = let a = other_place plan x.k net x.at in let b = other_place plan y.k net y.at in let c = x.is in let d = y.is in omega (arith, a, b, c, d)
