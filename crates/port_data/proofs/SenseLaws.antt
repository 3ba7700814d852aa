-- The pins at the bottom of the column channel are those of the sense cells.
use Rattle.std.proofs.Common.{◌≡◌, inl, inr, ℕ, zero, suc, ◌*◌, ◌<◌, ℤ, pos, ◌+ℤ◌, ◌*ℤ◌, true, false, Some, refl, ap, sym, ◌∙◌, arith}
use Rattle.std.specs.Prelude.{slice_get}
use Rattle.std.proofs.lemmas.Int.{ints}
use Rattle.std.proofs.lemmas.Option.{same_Some}
use Rattle.cell_roles.specs.declared.role.Role.TheVariants.{Bitcell, Sense}
use Rattle.sram_netlist.specs.Organization.{Organization, words_per_row}
use Rattle.sram_netlist.specs.Nets.{Net, Vdd, Gnd, Dout}
use Rattle.sram_netlist.specs.Instances.{SenseAt}
use Rattle.sram_netlist.specs.Netlist.{lo_net, ro_net, sen_at, ports}
use Rattle.port_lists.proofs.TabulateLaws.{some_lines}
use Rattle.macro_layout.specs.LayoutKit.{LayoutKit}
use Rattle.macro_layout.specs.Places.{Floorplan, columns_x, bank_x, column_x}
use Rattle.macro_layout.specs.Floorplan.{choice_count}
use Rattle.macro_layout.specs.Channels.{Numbered, MeetsColumnBottom}
use Rattle.macro_layout.specs.Pins.{column_nets}
use Rattle.port_data.specs.Pins.{columns_in, sense_ends}
use Rattle.port_data.proofs.MeetLaws.{IsOfLines, IsSenseLine}
use Rattle.port_data.proofs.NetLaws.{IsColumnNet, column_net, lo_numbered, ro_numbered, is_among, among, number_of_lo, number_of_ro}
use Rattle.floorplan.proofs.UprightLaws.{begins_at, begins_only}

-- where a cell of a column stands, from the left end of the columns
pub in_bank : (left columns width : ℤ) (n : ℕ) (x : ℤ) → x ≡ pos n +ℤ left → x +ℤ columns ≡ left +ℤ ((columns +ℤ pos n) +ℤ (pos 0 *ℤ width))
in_bank left columns width n x at = omega (arith, ints, at)

pub from_bank : (left columns width : ℤ) (n : ℕ) (x : ℤ) → x +ℤ columns ≡ left +ℤ ((columns +ℤ pos n) +ℤ (pos 0 *ℤ width)) → x ≡ pos n +ℤ left
from_bank left columns width n x at = omega (arith, ints, at)

abbrev slice_at : Organization → LayoutKit → Floorplan → ℕ → ℤ
slice_at plan kit floorplan i = bank_x floorplan 0 (column_x plan kit floorplan (i * words_per_row plan))

sense_there : (plan : Organization) (kit : LayoutKit) (floorplan : Floorplan) (i port : ℕ) (net : Net) (x : ℤ) → i < plan.word_size → slice_get (ports plan (SenseAt 0 i)) port ≡ Some net
    → x ≡ pos ((i * words_per_row plan) * kit.width Bitcell) +ℤ (kit.pin Sense port 1).x1 → MeetsColumnBottom plan kit floorplan net (x +ℤ columns_x plan kit floorplan)
sense_there plan kit floorplan i port net x below on at = (
  i,
  port,
  begins_at plan kit floorplan (SenseAt 0 i) port 1 net (slice_at plan kit floorplan i) floorplan.sense_y (x +ℤ columns_x plan kit floorplan) (some_lines plan.bank_bits, below) on refl
      (in_bank (kit.pin Sense port 1).x1 (columns_x plan kit floorplan) floorplan.bank_width ((i * words_per_row plan) * kit.width Bitcell) x at),
)

-- a line of the formula is a pin of a sense cell
pub sense_meets : (plan : Organization) (kit : LayoutKit) (floorplan : Floorplan) (number : ℕ) (x : ℤ) → IsSenseLine kit (columns_in plan kit) number x → Numbered (column_nets plan) (MeetsColumnBottom plan kit floorplan) number (x +ℤ columns_x plan kit floorplan)
sense_meets plan kit floorplan number x line = elim line.is [
  | inl lo ↦ (lo_net plan.col_bits 0 line.bit, ap (slice_get (column_nets plan)) lo.0 ∙ lo_numbered plan line.bit line.below, sense_there plan kit floorplan line.bit 0 (lo_net plan.col_bits 0 line.bit) x line.below refl lo.1)
  | inr ro ↦ (ro_net plan.col_bits 0 line.bit, ap (slice_get (column_nets plan)) ro.0 ∙ ro_numbered plan line.bit line.below, sense_there plan kit floorplan line.bit 1 (ro_net plan.col_bits 0 line.bit) x line.below refl ro.1)
]

enable_not_among : (bits : ℕ) → is_among (sen_at bits 0) ≡ false
enable_not_among zero = refl
enable_not_among (suc n) = refl

pub never : (net other : Net) → is_among net ≡ true → Some other ≡ Some net → is_among other ≡ false → ⊥
never net other is same not = let t : true ≡ false = sym is ∙ (ap is_among (sym (same_Some other net same)) ∙ not) in cc

-- which of the lines a port of a sense cell is
sense_line : (plan : Organization) (kit : LayoutKit) (i port number : ℕ) (net : Net) (x : ℤ) → IsColumnNet plan number net → slice_get (ports plan (SenseAt 0 i)) port ≡ Some net → x ≡ pos ((i * words_per_row plan) * kit.width Bitcell) +ℤ (kit.pin Sense port 1).x1
    → IsOfLines (choice_count plan.col_bits) (sense_ends kit) i ((i * words_per_row plan) * kit.width Bitcell) number x
sense_line plan kit i zero number net x is on at = inl (number_of_lo plan number net i (sym (same_Some (lo_net plan.col_bits 0 i) net on)) is, at)
sense_line plan kit i (suc zero) number net x is on at = inr (number_of_ro plan number net i (sym (same_Some (ro_net plan.col_bits 0 i) net on)) is, at)
sense_line plan kit i (suc (suc zero)) number net x is on at = absurd (never net (Dout i) (among plan number net is) on refl)
sense_line plan kit i (suc (suc (suc zero))) number net x is on at = absurd (never net (sen_at plan.bank_bits 0) (among plan number net is) on (enable_not_among plan.bank_bits))
sense_line plan kit i (suc (suc (suc (suc zero)))) number net x is on at = absurd (never net Vdd (among plan number net is) on refl)
sense_line plan kit i (suc (suc (suc (suc (suc zero))))) number net x is on at = absurd (never net Gnd (among plan number net is) on refl)
sense_line plan kit i (suc (suc (suc (suc (suc (suc port)))))) number net x is on at = absurd cc

-- a pin of a sense cell is a line of the formula
pub meets_sense : (plan : Organization) (kit : LayoutKit) (floorplan : Floorplan) (number : ℕ) (x : ℤ) → Numbered (column_nets plan) (MeetsColumnBottom plan kit floorplan) number (x +ℤ columns_x plan kit floorplan) → IsSenseLine kit (columns_in plan kit) number x
meets_sense plan kit floorplan number x (net, at, (i, port, from)) =
    record {
      bit = i;
      below = from.is.has.1;
      is = sense_line plan kit i port number net x (column_net plan number net at) from.is.on
          (from_bank (kit.pin Sense port 1).x1 (columns_x plan kit floorplan) floorplan.bank_width ((i * words_per_row plan) * kit.width Bitcell) x
          (begins_only plan kit floorplan (SenseAt 0 i) port 1 net (slice_at plan kit floorplan i) floorplan.sense_y (x +ℤ columns_x plan kit floorplan) from from.is.stands));
    }
