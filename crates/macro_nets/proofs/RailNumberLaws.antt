-- The rails of a bank that carry a row's lines, the enables and the column choices.
use Rattle.std.proofs.Common.{◌≡◌, inl, inr, ℕ, zero, suc, ◌+◌, ◌<◌, ℤ, pos, ◌≤ℤ◌, ◌+ℤ◌, List, [], ◌∷◌, Option, Some, refl, sym, subst, arith}
use Rattle.std.specs.Prelude.{slice_get}
use Rattle.std.proofs.lemmas.Int.{ints}
use Rattle.tech_rules.specs.declared.tech.Wire.{Wire}
use Rattle.wire_drawing.specs.Drawing.{pitch}
use Rattle.tech_rules.specs.Facts.{AreSizes}
use Rattle.sram_netlist.specs.Organization.{Organization, power_of_two}
use Rattle.sram_netlist.specs.Nets.{Net, Clkb, Control, Line}
use Rattle.sram_netlist.specs.Netlist.{row_lines, wlen_at, sen_at, low_bits, high_bits}
use Rattle.sram_netlist.specs.Membership.{IsOneOf, IsGroup}
use Rattle.sram_netlist.specs.InstanceList.{tabulate}
use Rattle.sram_netlist.proofs.InstanceLists.{in_front, in_back, to_each, place_in}
use Rattle.sram_rows.proofs.Segments.{low_few}
use Rattle.macro_layout.specs.Floorplan.{rail_count, rail_x}
use Rattle.macro_layout.specs.Pins.{line_nets, choice_nets, rail_nets}
use Rattle.good_places.proofs.NumberLaws.{banks_before}
use Rattle.good_wires.proofs.LevelLaws.{rails_count, pitch_low}
use Rattle.joined_nets.proofs.WireNetLaws.{place_below}

-- the rail of bank 0 with the net
pub record HasRail (plan : Organization) (net : Net) : Type 0 where
  pub rail : ℕ
  pub on : slice_get (rail_nets plan 0) rail ≡ Some net

abbrev behind_lines : Organization → List Net
behind_lines plan = wlen_at plan.bank_bits 0 ∷ sen_at plan.bank_bits 0 ∷ Control Clkb ∷ choice_nets plan.col_bits

railed : (plan : Organization) (net : Net) → IsOneOf net (rail_nets plan 0) → HasRail plan net
railed plan net is = let at = place_in net (rail_nets plan 0) is in record { rail = at.0; on = at.1 }

behind : (plan : Organization) (net : Net) → IsOneOf net (behind_lines plan) → HasRail plan net
behind plan net is = railed plan net (in_back net (line_nets plan.groups plan.col_bits) (behind_lines plan) is)

-- a line of a row, of one of the groups
pub record IsRowLine (groups : List ℕ) (from : ℕ) (net : Net) : Type 0 where
  pub o : ℕ
  pub b : ℕ
  pub k : ℕ
  pub is : net ≡ Line o b k
  pub group : IsGroup groups from o b
  pub few : k < power_of_two b
  pub listed : IsOneOf (Line o b k) (line_nets groups from)

some_same : (x y : Net) → ◌≡◌ {A = Option Net} (Some x) (Some y) → x ≡ y
some_same x y e = cc

pub row_line : (groups : List ℕ) (from r port : ℕ) (net : Net) → slice_get (row_lines groups from r) port ≡ Some net → IsRowLine groups from net
row_line [] from r port net h = absurd cc
row_line (g ∷ gs) from r zero net h = record {
  o = from;
  b = g;
  k = low_bits g r;
  is = sym (some_same (Line from g (low_bits g r)) net h);
  group = inl (refl, refl);
  few = low_few g r;
  listed = in_front (Line from g (low_bits g r)) (tabulate (power_of_two g) (Line from g)) (line_nets gs (from + g)) (to_each (power_of_two g) (Line from g) (low_bits g r) (low_few g r));
}
row_line (g ∷ gs) from r (suc port) net h =
    let later = row_line gs (from + g) (high_bits g r) port net h in
    record {
      o = later.o;
      b = later.b;
      k = later.k;
      is = later.is;
      group = inr later.group;
      few = later.few;
      listed = in_back (Line later.o later.b later.k) (tabulate (power_of_two g) (Line from g)) (line_nets gs (from + g)) later.listed;
    }

-- Its rail,
pub line_rail : (plan : Organization) (net : Net) → IsRowLine plan.groups plan.col_bits net → HasRail plan net
line_rail plan net line = subst (HasRail plan) (sym line.is) (railed plan (Line line.o line.b line.k) (in_front (Line line.o line.b line.k) (line_nets plan.groups plan.col_bits) (behind_lines plan) line.listed))

-- and those of the enables, of the clock and of a column choice
pub wlen_rail : (plan : Organization) → HasRail plan (wlen_at plan.bank_bits 0)
wlen_rail plan = behind plan (wlen_at plan.bank_bits 0) (inl refl)

pub sen_rail : (plan : Organization) → HasRail plan (sen_at plan.bank_bits 0)
sen_rail plan = behind plan (sen_at plan.bank_bits 0) (inr (inl refl))

pub clock_rail : (plan : Organization) → HasRail plan (Control Clkb)
clock_rail plan = behind plan (Control Clkb) (inr (inr (inl refl)))

pub choice_rail : (plan : Organization) (net : Net) → IsOneOf net (choice_nets plan.col_bits) → HasRail plan net
choice_rail plan net is = behind plan net (inr (inr (inr is)))

-- A rail ends before the rows begin.
pub rail_before : (plan : Organization) (wire : Wire) (j : ℕ) (net : Net) (row : ℤ) → AreSizes wire → slice_get (rail_nets plan 0) j ≡ Some net → row ≡ rail_x wire (rail_count plan) → (rail_x wire j +ℤ wire.width) ≤ℤ row
rail_before plan wire j net row sizes on at =
    let lt = place_below (rail_nets plan 0) j net on in
    let count = rails_count plan 0 in
    let up = banks_before (j + 1) (rail_count plan + 1) (pitch wire) (omega (arith, lt, count)) (pitch_low wire sizes) in
    by (rail_x wire j) row wire.width wire.space (rail_x wire (rail_count plan)) up at sizes.space.from
  where
    by : (x row w s all : ℤ) → (x +ℤ (w +ℤ s)) ≤ℤ all → row ≡ all → pos 1 ≤ℤ s → (x +ℤ w) ≤ℤ row
    by x row w s all le is some = omega (arith, ints, le, is, some)
