-- Each place between a bank's first row or column and its last column lies in a zone, which has its like in one window.
use Rattle.std.proofs.Common.{◌≡◌, inl, inr, ℕ, zero, suc, ◌+◌, ◌*◌, ◌<◌, ◌≤◌, ℤ, pos, negsuc, ◌+ℤ◌, ◌-ℤ◌, ◌*ℤ◌, ◌≤ℤ◌, ◌<ℤ◌, List, refl, sym, subst, arith}
use Rattle.std.proofs.Math.Nat.{mul-le-mul_right, mul_assoc, suc-mul}
use Rattle.std.proofs.lemmas.Bool.{cases_lt}
use Rattle.std.proofs.lemmas.Int.{ints}
use Rattle.tech_rules.specs.declared.tech.Wire.{Wire}
use Rattle.sram_netlist.specs.Organization.{Organization, words_per_row, columns_of, banks_of}
use Rattle.sram_netlist.specs.BitCells.{Alike}
use Rattle.macro_layout.specs.LayoutKit.{LayoutKit}
use Rattle.macro_layout.specs.Places.{Floorplan, bank_x, columns_x, bit_width}
use Rattle.macro_layout.specs.Wires.{columns_end}
use Rattle.good_places.specs.Beside.{AreAtOneEdge, HaveOneLeftPart}
use Rattle.good_places.specs.Leaves.{Zone, column_zone, front_zone, slice_zone, ReachesNeighboursOnly}
use Rattle.good_places.specs.Zones.{IsLaid}
use Rattle.good_places.specs.Seen.{AreAlikeZones}
use Rattle.good_places.specs.Kinds.{AreOfOneKind}
use Rattle.good_places.specs.Windows.{with_bits, IsWindowOf, IsWrittenPlan}
use Rattle.good_places.proofs.TailLaws.{has_tail, few_bits, many_columns}
use Rattle.good_places.proofs.PairLaws.{columns_are_alike_zones, fronts_are_alike_zones, slices_are_alike_zones}
use Rattle.good_places.proofs.WindowLaws.{power_low}

-- so many of this width fit
pub record IsPartAt (n u : ℕ) : Type 0 where
  pub i : ℕ
  pub from : i * u ≤ n
  pub to : n < i * u + u

pub part_at : (n u : ℕ) → 0 < u → IsPartAt n u
part_at zero u some = record { i = 0; from = none u; to = omega (arith, some, none u) } where
  none : (u : ℕ) → 0 * u ≤ 0
  none u = omega arith
part_at (suc n) u some =
    let p = part_at n u some in
    elim (cases_lt (suc n) (p.i * u + u)) [
      | inl lt ↦ record { i = p.i; from = let a = p.from in omega (arith, a); to = lt }
      | inr ge ↦ record { i = suc p.i; from = let e = suc-mul p.i u in omega (arith, e, ge); to = let e = suc-mul p.i u in let a = p.to in omega (arith, e, a, some) }
    ]

pub part_inside : (n u i all : ℕ) → i * u ≤ n → n < all * u → i < all
part_inside n u i all from lt = elim (cases_lt i all) [
  | inl less ↦ less
  | inr ge ↦ let le = mul-le-mul_right u ge in absurd (omega (arith, le, from, lt))
]

natural : (z : ℤ) → pos 0 ≤ℤ z → (n : ℕ) × (z ≡ pos n)
natural (pos n) low = (n, refl)
natural (negsuc n) low = absurd (omega (arith, ints, low))

-- a zone with its like, which begins at this height and between whose ends the number lies
pub record HasZoneAt (reach : ℤ) (plan other : Organization) (kit : LayoutKit) (bit : List ℕ) (f g : Floorplan) (low x : ℤ) : Type 0 where
  pub here : Zone
  pub there : Zone
  pub alike : AreAlikeZones reach plan other kit (Alike bit) f g here there
  pub kind : AreOfOneKind reach plan other kit f g here there
  pub at_low : here.low ≡ low
  pub left : here.left ≤ℤ x
  pub right : x <ℤ here.right

module _ (plan : Organization) (kit : LayoutKit) (bit : List ℕ) (wire : Wire) (f : Floorplan) (reach : ℤ) (p : IsWrittenPlan plan) (laid : IsLaid plan kit wire f) (short : ReachesNeighboursOnly kit wire reach) where
  -- the window with as many bits, but few
  pub window : Organization
  window = with_bits plan (few_bits plan.word_size p.words).0 (few_bits plan.word_size p.words).0 0

  pub window_is : IsWindowOf plan window
  unfolding window
  window_is = let k = few_bits plan.word_size p.words in inl (k.0, k.1.some, k.1.few, refl)

  pub one_left : HaveOneLeftPart plan window
  unfolding window
  one_left = record { groups = refl; col_bits = refl; bank_bits = refl }

  bit_some : 0 < bit_width kit
  bit_some = let a = short.some in let b = short.bitcell in go reach (bit_width kit) a b where
    go : (r : ℤ) (w : ℕ) → pos 1 ≤ℤ r → r ≤ℤ pos w → 0 < w
    go r w a b = omega (arith, ints, a, b)

  times_some : (n w : ℕ) → 0 < n → 0 < w → 0 < n * w
  times_some n w a b = grind (arith, a, b)

  -- the memory's columns and the window's
  pub columns_some : 0 < columns_of plan * bit_width kit
  columns_some = times_some (columns_of plan) (bit_width kit) (times_some plan.word_size (words_per_row plan) p.words (power_low plan.col_bits)) bit_some

  pub window_columns : 0 < columns_of window * bit_width kit
  unfolding window
  window_columns = let k = few_bits plan.word_size p.words in times_some (k.0 * words_per_row plan) (bit_width kit) (times_some k.0 (words_per_row plan) k.1.some (power_low plan.col_bits)) bit_some

  -- where a number behind the columns' left end stands among so many of this width
  pub record IsAmongAt (c q : ℤ) (all u : ℕ) (x : ℤ) : Type 0 where
    pub i : ℕ
    pub inside : i < all
    pub from : ((c +ℤ pos (i * u)) +ℤ q) ≤ℤ x
    pub to : x <ℤ (((c +ℤ pos (i * u)) +ℤ q) +ℤ pos u)

  among_at : (c q x : ℤ) (all u : ℕ) → 0 < u → (c +ℤ q) ≤ℤ x → x <ℤ ((c +ℤ pos (all * u)) +ℤ q) → IsAmongAt c q all u x
  among_at c q x all u some from to =
      let n = natural (x -ℤ (c +ℤ q)) (omega (arith, ints, from)) in
      let d = part_at n.0 u some in
      let e = n.1 in
      let p1 = d.from in
      let p2 = d.to in
      record {
        i = d.i;
        inside = part_inside n.0 u d.i all p1 (omega (arith, ints, e, to));
        from = omega (arith, ints, e, p1);
        to = omega (arith, ints, e, p2);
      }

  module _ (g : Floorplan) (there : IsLaid window kit wire g) (b : ℕ) (below : b < banks_of plan) where
    column_at : (c : ℕ) → c < columns_of plan → (x : ℤ) → (column_zone plan kit f b c).left ≤ℤ x → x <ℤ (column_zone plan kit f b c).right → HasZoneAt reach plan window kit bit f g f.column_y x
    unfolding window
    column_at c lt x left right =
        let k = few_bits plan.word_size p.words in
        let h = has_tail (columns_of plan) c (k.0 * words_per_row plan) (many_columns plan.word_size k.0 (words_per_row plan) (power_low plan.col_bits) k.1.many) lt in
        record {
          here = column_zone plan kit f b c;
          there = column_zone window kit g b h.d;
          alike = columns_are_alike_zones plan window kit bit wire f g reach one_left laid there short b c h.d h.edge;
          kind = inl (record { bank = b; below = below; c = c; d = h.d; edge = h.edge; next = h.next; here_is = refl; there_is = refl });
          at_low = refl;
          left = left;
          right = right;
        }

    -- in the columns
    pub columns_at : (x : ℤ) → bank_x f b (columns_x plan kit f) ≤ℤ x → x <ℤ bank_x f b (columns_end plan kit f) → HasZoneAt reach plan window kit bit f g f.column_y x
    columns_at x from to = let a = among_at (columns_x plan kit f) (pos b *ℤ f.bank_width) x (columns_of plan) (bit_width kit) bit_some from to in column_at a.i a.inside x a.from a.to

    some_columns : 0 < columns_of plan
    some_columns = times_some plan.word_size (words_per_row plan) p.words (power_low plan.col_bits)

    -- in front of them
    pub fronts_at : (x : ℤ) → bank_x f b f.row_x ≤ℤ x → x <ℤ bank_x f b (columns_x plan kit f) → HasZoneAt reach plan window kit bit f g f.column_y x
    unfolding window
    fronts_at x from to =
        let k = few_bits plan.word_size p.words in
        let h = has_tail (columns_of plan) 0 (k.0 * words_per_row plan) (many_columns plan.word_size k.0 (words_per_row plan) (power_low plan.col_bits) k.1.many) some_columns in
        let edge : AreAtOneEdge (columns_of plan) 0 (columns_of window) 0 = subst (λ (j : ℕ). AreAtOneEdge (columns_of plan) 0 (k.0 * words_per_row plan) j) (h.edge.first.0 refl) h.edge in
        record {
          here = front_zone plan kit f b;
          there = front_zone window kit g b;
          alike = fronts_are_alike_zones plan window kit bit wire f g reach one_left laid there short b edge;
          kind = inr (inl (record { bank = b; below = below; edge = edge; here_is = refl; there_is = refl }));
          at_low = refl;
          left = from;
          right = to;
        }

    -- in the slices
    slice_at : (i : ℕ) → i < plan.word_size → (x : ℤ) → (slice_zone plan kit f b i).left ≤ℤ x → x <ℤ (slice_zone plan kit f b i).right → HasZoneAt reach plan window kit bit f g f.write_y x
    unfolding window
    slice_at i lt x left right =
        let k = few_bits plan.word_size p.words in
        let h = has_tail plan.word_size i k.0 k.1.many lt in
        record {
          here = slice_zone plan kit f b i;
          there = slice_zone window kit g b h.d;
          alike = slices_are_alike_zones plan window kit bit wire f g reach one_left laid there short b i h.d h.edge;
          kind = inr (inr (inl (record { bank = b; below = below; i = i; j = h.d; edge = h.edge; next = h.next; here_is = refl; there_is = refl })));
          at_low = refl;
          left = left;
          right = right;
        }

    pub slices_at : (x : ℤ) → bank_x f b (columns_x plan kit f) ≤ℤ x → x <ℤ bank_x f b (columns_end plan kit f) → HasZoneAt reach plan window kit bit f g f.write_y x
    slices_at x from to =
        let c = columns_x plan kit f in
        let q = pos b *ℤ f.bank_width in
        let w = words_per_row plan in
        let v = bit_width kit in
        let a = among_at c q x plan.word_size (w * v) (times_some w v (power_low plan.col_bits) bit_some) from (subst (λ (n : ℕ). x <ℤ ((c +ℤ pos n) +ℤ q)) (mul_assoc plan.word_size w v) to) in
        slice_at a.i a.inside x (subst (λ (n : ℕ). ((c +ℤ pos n) +ℤ q) ≤ℤ x) (sym (mul_assoc a.i w v)) a.from) (subst (λ (n : ℕ). x <ℤ (((c +ℤ pos n) +ℤ q) +ℤ pos (w * v))) (sym (mul_assoc a.i w v)) a.to)
