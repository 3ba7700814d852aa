-- Around zones of one kind the bars and joiners of two memories stand alike.
use Rattle.std.proofs.Common.{◌≡◌, ◌⊎◌, inl, inr, ◌∙◌, ℕ, ◌+◌, ◌*◌, ◌<◌, ℤ, pos, ◌+ℤ◌, ◌*ℤ◌, ◌≤ℤ◌, ◌<ℤ◌, refl, sym, subst, arith}
use Rattle.std.proofs.lemmas.Int.{ints}
use Rattle.cell_roles.specs.declared.role.Role.TheVariants.{Write, Sense, Precharge}
use Rattle.tech_rules.specs.declared.tech.Wire.{Wire}
use Rattle.sram_netlist.specs.Organization.{Organization, power_of_two, columns_of, banks_of}
use Rattle.macro_layout.specs.LayoutKit.{LayoutKit}
use Rattle.macro_layout.specs.Places.{Floorplan, bank_x, columns_x, bit_width}
use Rattle.macro_layout.specs.Floorplan.{Tracks, upper_y, column_channel_y}
use Rattle.macro_layout.specs.Wires.{columns_end, trunk_x}
use Rattle.good_places.specs.Beside.{HaveOneLeftPart}
use Rattle.good_places.specs.Leaves.{Zone, ReachesNeighboursOnly}
use Rattle.good_places.specs.Seen.{IsMovedZone}
use Rattle.good_wires.specs.Drawn.{IsDrawnMemory}
use Rattle.good_wires.proofs.LevelLaws.{sides}
use Rattle.supply_bars.proofs.HeightLaws as heights
use Rattle.supply_bars.specs.Heights.{Storey, LogicRow, Slices, Columns, Height, LogicLow, LogicHigh, WriteLow, WriteHigh, SenseLow, SenseHigh, ColumnLow, ColumnHigh, CellRow, PrechargeLow, PrechargeHigh, part_of, low, bar_begin, HasJoiner, precharge_rise}
use Rattle.supply_bars.proofs.PartLaws.{tall_of, banks_end, joiner_begins}
use Rattle.supply_bars.proofs.SideLaws.{IsAlikeLeft, IsAlikeRight, IsBankSide, AreBankSides}

-- the joiners of the zones' bank
pub record AreJoinersAlike (plan other : Organization) (kit : LayoutKit) (f g : Floorplan) (reach ex : ℤ) (here there : Zone) (h : Height) : Type 0 where
  pub bank : ℕ
  pub below : bank < banks_of plan
  pub below_there : bank < banks_of other
  pub from_here : bank_x f bank f.row_x ≤ℤ here.left
  pub to_here : here.right ≤ℤ bank_x f bank (columns_end plan kit f)
  pub from_there : bank_x g bank g.row_x ≤ℤ there.left
  pub to_there : there.right ≤ℤ bank_x g bank (columns_end other kit g)
  pub wide_here : bar_begin plan kit f h <ℤ columns_end plan kit f
  pub wide_there : bar_begin other kit g h <ℤ columns_end other kit g
  pub left : IsAlikeLeft reach ex here.left there.left (bank_x f bank (bar_begin plan kit f h)) (bank_x g bank (bar_begin other kit g h))
  pub right : IsAlikeRight reach ex here.right there.right (bank_x f bank (columns_end plan kit f)) (bank_x g bank (columns_end other kit g))

-- zones of one part, so much further right and up, beside which bars and joiners of the part begin and end alike
pub record ArePaired (plan other : Organization) (kit : LayoutKit) (wire : Wire) (f g : Floorplan) (reach ex ey : ℤ) (here there : Zone) : Type 0 where
  pub same : HaveOneLeftPart plan other
  pub part : Storey
  pub low_here : here.low ≡ low f part
  pub high_here : here.high ≡ low f part +ℤ tall_of plan kit part
  pub low_there : there.low ≡ low g part
  pub high_there : there.high ≡ low g part +ℤ tall_of other kit part
  pub moved : IsMovedZone ex ey here there
  pub end_here : (here.right +ℤ wire.space) ≤ℤ trunk_x plan kit wire f
  pub end_there : (there.right +ℤ wire.space) ≤ℤ trunk_x other kit wire g
  pub bars : (h : Height) → part ≡ part_of h → IsAlikeLeft reach ex here.left there.left (bar_begin plan kit f h) (bar_begin other kit g h)
  pub joiners : (h : Height) → HasJoiner h → part ≡ part_of h → AreJoinersAlike plan other kit f g reach ex here there h

left_back : (reach ex dx here there x y : ℤ) → ex +ℤ dx ≡ pos 0 → IsAlikeLeft reach ex here there x y → IsAlikeLeft reach dx there here y x
left_back reach ex dx here there x y z (inl e) = inl (omega (arith, ints, z, e))
left_back reach ex dx here there x y z (inr both) = inr (both.1, both.0)

right_back : (reach ex dx here there x y : ℤ) → ex +ℤ dx ≡ pos 0 → IsAlikeRight reach ex here there x y → IsAlikeRight reach dx there here y x
right_back reach ex dx here there x y z (inl e) = inl (omega (arith, ints, z, e))
right_back reach ex dx here there x y z (inr both) = inr (both.1, both.0)

pub zone_back : (ex ey dx dy : ℤ) (here there : Zone) → ex +ℤ dx ≡ pos 0 → ey +ℤ dy ≡ pos 0 → IsMovedZone ex ey here there → IsMovedZone dx dy there here
zone_back ex ey dx dy here there zx zy m = record {
  left = let e = m.left in omega (arith, ints, e, zx);
  right = let e = m.right in omega (arith, ints, e, zx);
  low = let e = m.low in omega (arith, ints, e, zy);
  high = let e = m.high in omega (arith, ints, e, zy);
}

left_part_back : (plan other : Organization) → HaveOneLeftPart plan other → HaveOneLeftPart other plan
left_part_back plan other s = record { groups = sym s.groups; col_bits = sym s.col_bits; bank_bits = sym s.bank_bits }

pub paired_back : (plan other : Organization) (kit : LayoutKit) (wire : Wire) (f g : Floorplan) (reach ex ey dx dy : ℤ) (here there : Zone) → ex +ℤ dx ≡ pos 0 → ey +ℤ dy ≡ pos 0 → ArePaired plan other kit wire f g reach ex ey here there → ArePaired other plan kit wire g f reach dx dy there here
paired_back plan other kit wire f g reach ex ey dx dy here there zx zy p = record {
  same = left_part_back plan other p.same;
  part = p.part;
  low_here = p.low_there;
  high_here = p.high_there;
  low_there = p.low_here;
  high_there = p.high_here;
  moved = zone_back ex ey dx dy here there zx zy p.moved;
  end_here = p.end_there;
  end_there = p.end_here;
  bars = λ h at. left_back reach ex dx here.left there.left (bar_begin plan kit f h) (bar_begin other kit g h) zx (p.bars h at);
  joiners = λ h has at. let j = p.joiners h has at in record {
    bank = j.bank;
    below = j.below_there;
    below_there = j.below;
    from_here = j.from_there;
    to_here = j.to_there;
    from_there = j.from_here;
    to_there = j.to_here;
    wide_here = j.wide_there;
    wide_there = j.wide_here;
    left = left_back reach ex dx here.left there.left (bank_x f j.bank (bar_begin plan kit f h)) (bank_x g j.bank (bar_begin other kit g h)) zx j.left;
    right = right_back reach ex dx here.right there.right (bank_x f j.bank (columns_end plan kit f)) (bank_x g j.bank (columns_end other kit g)) zx j.right;
  };
}

-- Which of the three edges bars begin at
abbrev pub BeginsAt : Height → Type 0
BeginsAt h = ((LogicRow ≡ part_of h) × ((plan : Organization) (kit : LayoutKit) (f : Floorplan) → bar_begin plan kit f h ≡ f.logic_x)) ⊎ (((plan : Organization) (kit : LayoutKit) (f : Floorplan) → bar_begin plan kit f h ≡ columns_x plan kit f) ⊎ ((plan : Organization) (kit : LayoutKit) (f : Floorplan) → bar_begin plan kit f h ≡ f.row_x))

pub begins_at : (h : Height) → BeginsAt h
begins_at LogicLow = inl (refl, λ plan kit f. refl)
begins_at LogicHigh = inl (refl, λ plan kit f. refl)
begins_at WriteLow = inr (inl (λ plan kit f. refl))
begins_at WriteHigh = inr (inl (λ plan kit f. refl))
begins_at SenseLow = inr (inl (λ plan kit f. refl))
begins_at SenseHigh = inr (inl (λ plan kit f. refl))
begins_at ColumnLow = inr (inl (λ plan kit f. refl))
begins_at ColumnHigh = inr (inr (λ plan kit f. refl))
begins_at (CellRow r) = inr (inr (λ plan kit f. refl))
begins_at PrechargeLow = inr (inr (λ plan kit f. refl))
begins_at PrechargeHigh = inr (inl (λ plan kit f. refl))

pub logic_begin : (h : Height) → LogicRow ≡ part_of h → (plan : Organization) (kit : LayoutKit) (f : Floorplan) → bar_begin plan kit f h ≡ f.logic_x
logic_begin LogicLow e plan kit f = refl
logic_begin LogicHigh e plan kit f = refl
logic_begin WriteLow e plan kit f = cc
logic_begin WriteHigh e plan kit f = cc
logic_begin SenseLow e plan kit f = cc
logic_begin SenseHigh e plan kit f = cc
logic_begin ColumnLow e plan kit f = cc
logic_begin ColumnHigh e plan kit f = cc
logic_begin (CellRow r) e plan kit f = cc
logic_begin PrechargeLow e plan kit f = cc
logic_begin PrechargeHigh e plan kit f = cc

pub no_joiner : (h : Height) → HasJoiner h → LogicRow ≡ part_of h → ⊥
no_joiner LogicLow has e = has
no_joiner LogicHigh has e = has
no_joiner WriteLow has e = has
no_joiner WriteHigh has e = cc
no_joiner SenseLow has e = has
no_joiner SenseHigh has e = has
no_joiner ColumnLow has e = has
no_joiner ColumnHigh has e = cc
no_joiner (CellRow r) has e = has
no_joiner PrechargeLow has e = has
no_joiner PrechargeHigh has e = has

-- Upper ends of parts
module _ (plan : Organization) (kit : LayoutKit) (wire : Wire) (tracks : Tracks) (f : Floorplan) (m : IsDrawnMemory plan kit wire tracks f) where
  pub upper_end : upper_y kit f ≡ low f Columns +ℤ tall_of plan kit Columns
  upper_end = go f.precharge_y f.column_y (precharge_rise kit plan.col_bits plan.groups) (kit.height Precharge) (heights.precharge_at plan kit wire tracks f m) where
    go : (p c : ℤ) (h k : ℕ) → p ≡ c +ℤ pos h → p +ℤ pos k ≡ c +ℤ pos (h + k)
    go p c h k e = omega (arith, ints, e)

  pub channel_end : column_channel_y kit f ≡ low f Slices +ℤ tall_of plan kit Slices
  channel_end = go f.sense_y f.write_y (kit.height Write) (kit.height Sense) (heights.sense_y plan kit wire tracks f m) where
    go : (p c : ℤ) (h k : ℕ) → p ≡ c +ℤ pos h → p +ℤ pos k ≡ c +ℤ pos (h + k)
    go p c h k e = omega (arith, ints, e)

  -- a zone of a bank ends before the trunk
  pub bank_ends : (reach : ℤ) (b : ℕ) (z : Zone) (rows columns end : ℤ) → b < banks_of plan → IsBankSide plan kit f reach b z rows columns end → (z.right +ℤ wire.space) ≤ℤ trunk_x plan kit wire f
  bank_ends reach b z rows columns end lt side = go z.right (columns_end plan kit f) f.bank_width (pos b *ℤ f.bank_width) end wire.space (trunk_x plan kit wire f) m.stands.bank_width side.to_end side.some_end (banks_end plan kit wire tracks f m b lt) where
    go : (r e w q gap s t : ℤ) → w ≡ e → e +ℤ q ≡ r +ℤ gap → pos 0 ≤ℤ gap → ((w +ℤ q) +ℤ s) ≤ℤ t → (r +ℤ s) ≤ℤ t
    go r e w q gap s t a b c d = omega (arith, ints, a, b, c, d)

module _ (plan other : Organization) (kit : LayoutKit) (wire : Wire) (tracks many : Tracks) (f g : Floorplan) (m : IsDrawnMemory plan kit wire tracks f) (n : IsDrawnMemory other kit wire many g) (reach : ℤ) (short : ReachesNeighboursOnly kit wire reach) (same : HaveOneLeftPart plan other) where
  below_there : (b : ℕ) → b < banks_of plan → b < banks_of other
  below_there b lt = subst (λ (k : ℕ). b < power_of_two k) (sym same.bank_bits) lt

  -- what a bank's sides tell of bars and joiners
  pub from_sides : (ex ey : ℤ) (b : ℕ) (part : Storey) (here there : Zone) (rows columns end rows2 columns2 end2 : ℤ) → b < banks_of plan → (LogicRow ≡ part → ⊥) → here.low ≡ low f part → here.high ≡ low f part +ℤ tall_of plan kit part → there.low ≡ low g part → there.high ≡ low g part +ℤ tall_of other kit part
      → IsMovedZone ex ey here there → IsBankSide plan kit f reach b here rows columns end → IsBankSide other kit g reach b there rows2 columns2 end2 → AreBankSides plan other kit f g reach ex b here there → ArePaired plan other kit wire f g reach ex ey here there
  from_sides ex ey b part here there rows columns end rows2 columns2 end2 lt upper lh hh lt2 ht moved side side2 sides = record {
    same = same;
    part = part;
    low_here = lh;
    high_here = hh;
    low_there = lt2;
    high_there = ht;
    moved = moved;
    end_here = bank_ends plan kit wire tracks f m reach b here rows columns end lt side;
    end_there = bank_ends other kit wire many g n reach b there rows2 columns2 end2 (below_there b lt) side2;
    bars = bars;
    joiners = λ h has at. record {
      bank = b;
      below = lt;
      below_there = below_there b lt;
      from_here = after here.left (bank_x f b f.row_x) rows side.from_rows side.some_rows;
      to_here = before here.right (bank_x f b (columns_end plan kit f)) end side.to_end side.some_end;
      from_there = after there.left (bank_x g b g.row_x) rows2 side2.from_rows side2.some_rows;
      to_there = before there.right (bank_x g b (columns_end other kit g)) end2 side2.to_end side2.some_end;
      wide_here = longer (bar_begin plan kit f h) (columns_x plan kit f) (columns_of plan * bit_width kit) (joiner_begins plan kit wire tracks f m h has).1 side.wide;
      wide_there = longer (bar_begin other kit g h) (columns_x other kit g) (columns_of other * bit_width kit) (joiner_begins other kit wire many g n h has).1 side2.wide;
      left = joiner_left h at;
      right = sides.joiner_end;
    };
  } where
    after : (l x r : ℤ) → l ≡ x +ℤ r → pos 0 ≤ℤ r → x ≤ℤ l
    after l x r e some = omega (arith, ints, e, some)

    longer : (b c : ℤ) (n : ℕ) → b ≤ℤ c → reach ≤ℤ pos n → b <ℤ (c +ℤ pos n)
    longer b c n le wide = let one = short.some in omega (arith, ints, le, wide, one)

    before : (r x e : ℤ) → x ≡ r +ℤ e → pos 0 ≤ℤ e → r ≤ℤ x
    before r x e is some = omega (arith, ints, is, some)

    bars : (h : Height) → part ≡ part_of h → IsAlikeLeft reach ex here.left there.left (bar_begin plan kit f h) (bar_begin other kit g h)
    bars h at = elim (begins_at h) [
      | inl logic ↦ absurd (upper (logic.0 ∙ sym at))
      | inr rest ↦ elim rest [
        | inl is ↦ subst (λ (x : ℤ). IsAlikeLeft reach ex here.left there.left x (bar_begin other kit g h)) (sym (is plan kit f)) (subst (IsAlikeLeft reach ex here.left there.left (columns_x plan kit f)) (sym (is other kit g)) sides.bar_columns)
        | inr is ↦ subst (λ (x : ℤ). IsAlikeLeft reach ex here.left there.left x (bar_begin other kit g h)) (sym (is plan kit f)) (subst (IsAlikeLeft reach ex here.left there.left f.row_x) (sym (is other kit g)) sides.bar_rows)
      ]
    ]

    joiner_left : (h : Height) → part ≡ part_of h → IsAlikeLeft reach ex here.left there.left (bank_x f b (bar_begin plan kit f h)) (bank_x g b (bar_begin other kit g h))
    joiner_left h at = elim (begins_at h) [
      | inl logic ↦ absurd (upper (logic.0 ∙ sym at))
      | inr rest ↦ elim rest [
        | inl is ↦ subst (λ (x : ℤ). IsAlikeLeft reach ex here.left there.left (bank_x f b x) (bank_x g b (bar_begin other kit g h))) (sym (is plan kit f)) (subst (λ (y : ℤ). IsAlikeLeft reach ex here.left there.left (bank_x f b (columns_x plan kit f)) (bank_x g b y)) (sym (is other kit g)) sides.joiner_columns)
        | inr is ↦ subst (λ (x : ℤ). IsAlikeLeft reach ex here.left there.left (bank_x f b x) (bank_x g b (bar_begin other kit g h))) (sym (is plan kit f)) (subst (λ (y : ℤ). IsAlikeLeft reach ex here.left there.left (bank_x f b f.row_x) (bank_x g b y)) (sym (is other kit g)) sides.joiner_rows)
      ]
    ]
