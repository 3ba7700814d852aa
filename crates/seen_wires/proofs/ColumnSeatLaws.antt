-- Where an instance of a column, or of one in front of the columns, stands in the small memory.
use Rattle.std.proofs.Common.{◌≡◌, ◌⊎◌, inl, inr, ◌∙◌, ℕ, zero, suc, ◌+◌, ◌*◌, ◌<◌, ◌≤◌, ℤ, pos, ◌+ℤ◌, ◌-ℤ◌, ◌*ℤ◌, ◌≤ℤ◌, ◌<ℤ◌, List, sym, ap, subst, arith}
use Rattle.std.proofs.lemmas.Int.{ints}
use Rattle.or_geom.specs.declared.shape.Rect.{Rect}
use Rattle.tech_rules.specs.declared.tech.Connect.{Connect}
use Rattle.sram_netlist.specs.Organization.{Organization, banks_of, columns_of, words_per_row, power_of_two}
use Rattle.sram_netlist.specs.Instances.{LeafInstance, SenseAt, WriteAt, BitAt, NandAt, DriverAt, PrechargeAt, MuxAt, TieAt, LogicAt}
use Rattle.sram_netlist.specs.Membership.{HasLeafInstance}
use Rattle.macro_layout.specs.Places.{Floorplan, bank_x, columns_x, column_x, bit_width}
use Rattle.good_places.specs.Leaves.{Zone, column_zone, front_zone}
use Rattle.good_places.proofs.NearLaws.{is_first}
use Rattle.macro_layout.specs.Cells.{column_leaf}
use Rattle.kit_nets.specs.StatedParts.{Source, Standing}
use Rattle.seen_pairs.specs.Counterpart.{IsOfColumns, IsOfFronts, leaf_bank, number_of, right_by, columns_up}
use Rattle.small_rows.specs.Few.{IsAmongFew}
use Rattle.small_wires.specs.Seen.{IsNearZone}
use Rattle.seen_pairs.specs.Window.{IsSeenSource, HasSeenWindow}
use Rattle.small_wires.proofs.AnchorLaws.{Anchored, column_anchor, front_anchor}
use Rattle.seen_pairs.proofs.BankPairLaws.{Counter, column_found, front_found, columns_few}
use Rattle.seen_pairs.proofs.SeatLaws.{zone_at, column_seat, front_seat, column_below}
use Rattle.small_wires.proofs.SpanLaws.{beside_few, near_numbers}

column_bank : (s : Source) (leaf : LeafInstance) → IsOfColumns leaf ⊎ IsOfFronts leaf → HasLeafInstance s.plan leaf → leaf_bank leaf < banks_of s.plan
column_bank s (BitAt b r c) of has = has.0
column_bank s (NandAt b r) of has = has.0
column_bank s (DriverAt b r) of has = has.0
column_bank s (PrechargeAt b c) of has = has.0
column_bank s (MuxAt b c) of has = has.0
column_bank s (TieAt b c) of has = has.0
column_bank s (WriteAt b i) (inl of) has = absurd of
column_bank s (WriteAt b i) (inr of) has = absurd of
column_bank s (SenseAt b i) (inl of) has = absurd of
column_bank s (SenseAt b i) (inr of) has = absurd of
column_bank s (LogicAt cell) (inl of) has = absurd of
column_bank s (LogicAt cell) (inr of) has = absurd of

pub end_below : (plan : Organization) (n c : ℕ) → HasLeafInstance plan (column_leaf n 0 c) → c < columns_of plan
end_below plan zero c has = has.1.0
end_below plan (suc n) c has = has.1.0

pub power_low : (k : ℕ) → 1 ≤ power_of_two k
power_low zero = omega arith
power_low (suc k) = let p = power_low k in omega (arith, p)

-- a later column isn't near to what ends where the columns begin
pub column_later : (reach cf cg qk q qg l t : ℤ) (u a : ℕ) → cg ≡ cf → qk ≡ q → ((cg +ℤ qg) +ℤ pos u) ≤ℤ (l +ℤ ((qg -ℤ q) -ℤ pos a)) → t ≤ℤ (cf +ℤ qk) → l <ℤ (t +ℤ reach) → reach ≤ℤ pos u → ⊥
column_later reach cf cg qk q qg l t u a h1 h2 h3 h4 h5 h6 = omega (arith, ints, h1, h2, h3, h4, h5, h6)

module _ (connections : List Connect) (s : Source) (by reach : ℤ) (is : IsSeenSource connections s by reach) (window : HasSeenWindow connections s) (i : Standing s) where
  abbrev f : Floorplan
  f = s.floorplan

  abbrev g : Floorplan
  g = window.floorplan

  abbrev wpr : ℕ
  wpr = words_per_row s.plan

  abbrev bw : ℕ
  bw = bit_width s.kit

  abbrev b : ℕ
  b = leaf_bank i.leaf

  abbrev dy : ℤ
  dy = columns_up f g

  abbrev z : Zone
  z = zone_at connections s by reach is i

  -- how an instance of a column, or in front of one, stands there
  pub record IsColumnSeat : Type 0 where
    pub m : ℕ
    pub c : Counter connections s by reach is window m (right_by s.plan s.kit f g b m) dy i
    pub anchor : Anchored connections s by reach is window b m bw z (right_by s.plan s.kit f g b m)
    pub low_is : z.low ≡ f.column_y
    pub in_bank_i : b < banks_of s.plan
    pub next_to : (e : ℕ) (t : Rect) → IsNearZone reach z t → bank_x f b (column_x s.plan s.kit f e) ≤ℤ t.x1 → t.x2 ≤ℤ (bank_x f b (column_x s.plan s.kit f e) +ℤ pos bw) → e < columns_of s.plan → (j : ℕ) × (e ≡ j + m * wpr) × (j < window.word * wpr)

  pub column_is_seat : IsOfColumns i.leaf → IsColumnSeat
  column_is_seat of = record {
    m = chosen.0;
    c = column_found connections s by reach is window i of chosen.1.d chosen.0 chosen.1.sum chosen.1.inside;
    anchor = subst (λ (y : Zone). Anchored connections s by reach is window b chosen.0 bw y (right_by s.plan s.kit f g b chosen.0)) (sym zone_is) (column_anchor connections s by reach is window b (number_of i.leaf) chosen.0 below_i chosen.1);
    low_is = ap (λ (y : Zone). y.low) zone_is;
    in_bank_i = column_bank s i.leaf (inl of) i.has;
    next_to = λ e t near from to lt. beside_few (columns_of s.plan) (window.word * wpr) (number_of i.leaf) (chosen.0 * wpr) e chosen.1
        (near_numbers bw (number_of i.leaf) e reach (columns_x s.plan s.kit f +ℤ (pos b *ℤ f.bank_width)) z t is.short.bitcell (go (columns_x s.plan s.kit f) (pos b *ℤ f.bank_width) z.left (number_of i.leaf * bw) (ap (λ (y : Zone). y.left) zone_is)) (go2 (columns_x s.plan s.kit f) (pos b *ℤ f.bank_width) z.right (number_of i.leaf * bw) bw (ap (λ (y : Zone). y.right) zone_is))
        (go3 (columns_x s.plan s.kit f) (pos b *ℤ f.bank_width) t.x1 (e * bw) from) (go4 (columns_x s.plan s.kit f) (pos b *ℤ f.bank_width) t.x2 (e * bw) bw to) near) lt;
  } where
    zone_is : z ≡ column_zone s.plan s.kit f b (number_of i.leaf)
    zone_is = column_seat s.plan s.kit f i.leaf i.place of

    below_i : number_of i.leaf < columns_of s.plan
    below_i = column_below s.plan i.leaf of i.has

    chosen : (m : ℕ) × IsAmongFew (columns_of s.plan) (window.word * wpr) (number_of i.leaf) (m * wpr)
    chosen = columns_few connections s by reach is window (number_of i.leaf) below_i

    go : (x q l : ℤ) (a : ℕ) → l ≡ (x +ℤ pos a) +ℤ q → l ≡ (x +ℤ q) +ℤ pos a
    go x q l a h = omega (arith, ints, h)

    go2 : (x q l : ℤ) (a u : ℕ) → l ≡ ((x +ℤ pos a) +ℤ q) +ℤ pos u → l ≡ ((x +ℤ q) +ℤ pos a) +ℤ pos u
    go2 x q l a u h = omega (arith, ints, h)

    go3 : (x q t : ℤ) (a : ℕ) → ((x +ℤ pos a) +ℤ q) ≤ℤ t → ((x +ℤ q) +ℤ pos a) ≤ℤ t
    go3 x q t a h = omega (arith, ints, h)

    go4 : (x q t : ℤ) (a u : ℕ) → t ≤ℤ (((x +ℤ pos a) +ℤ q) +ℤ pos u) → t ≤ℤ (((x +ℤ q) +ℤ pos a) +ℤ pos u)
    go4 x q t a u h = omega (arith, ints, h)

  columns_here : 0 < columns_of s.plan
  columns_here = times s.plan.word_size wpr is.words (power_low s.plan.col_bits) where
    times : (n w : ℕ) → 0 < n → 1 ≤ w → 0 < n * w
    times n w a c = grind (arith, a, c)

  pub front_is_seat : IsOfFronts i.leaf → IsColumnSeat
  front_is_seat of = record {
    m = 0;
    c = front_found connections s by reach is window i of;
    anchor = subst (λ (y : Zone). Anchored connections s by reach is window b 0 bw y (right_by s.plan s.kit f g b 0)) (sym zone_is) (front_anchor connections s by reach is window b at_first);
    low_is = ap (λ (y : Zone). y.low) zone_is;
    in_bank_i = column_bank s i.leaf (inr of) i.has;
    next_to = λ e t near from to lt. (0, zero_of e (is_first e bw reach (columns_x s.plan s.kit f +ℤ (pos b *ℤ f.bank_width)) is.short.bitcell (let n = near.right in let r = ap (λ (y : Zone). y.right) zone_is in go (columns_x s.plan s.kit f) (pos b *ℤ f.bank_width) t.x1 z.right (e * bw) from n r)), inside_first);
  } where
    zone_is : z ≡ front_zone s.plan s.kit f b
    zone_is = front_seat s.plan s.kit f i.leaf i.place of

    chosen : (m : ℕ) × IsAmongFew (columns_of s.plan) (window.word * wpr) 0 (m * wpr)
    chosen = columns_few connections s by reach is window 0 columns_here

    at_first : IsAmongFew (columns_of s.plan) (window.word * wpr) 0 0
    at_first = let e = chosen.1.sum in subst (IsAmongFew (columns_of s.plan) (window.word * wpr) 0) (let z0 : chosen.0 * wpr ≡ 0 = omega (arith, e) in z0) chosen.1

    inside_first : 0 < window.word * wpr
    inside_first = let a = chosen.1.inside in omega (arith, a)

    zero_of : (e : ℕ) → e ≡ 0 → e ≡ 0 + 0 * wpr
    zero_of e is0 = is0 ∙ nothing wpr where
      nothing : (w : ℕ) → 0 ≡ 0 + 0 * w
      nothing w = omega arith

    go : (x q t r : ℤ) (a : ℕ) → ((x +ℤ pos a) +ℤ q) ≤ℤ t → t <ℤ (r +ℤ reach) → r ≡ x +ℤ q → ((x +ℤ q) +ℤ pos a) <ℤ ((x +ℤ q) +ℤ reach)
    go x q t r a h1 h2 h3 = omega (arith, ints, h1, h2, h3)
