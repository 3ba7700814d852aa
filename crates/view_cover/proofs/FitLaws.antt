-- What leaf cells have to be, and the numbers of a floorplan that they give: heights one upon another, and banks side by side.
use Rattle.std.proofs.Common.{◌≡◌, ℕ, ◌+◌, ◌*◌, ◌<◌, ◌≤◌, ℤ, pos, ◌+ℤ◌, ◌*ℤ◌, ◌≤ℤ◌, sym, subst, arith}
use Rattle.std.specs.Int.{int_max}
use Rattle.std.proofs.lemmas.Int.{ints, clamps}
use Rattle.cell_roles.specs.declared.role.Role.{Role}
use Rattle.cell_roles.specs.declared.role.Role.TheVariants.{Bitcell, Precharge, Mux, Tie, Sense, Write, RowNand2, RowNand3, Driver, Nand2, Nand3, Inv, Dff, Delay}
use Rattle.tech_rules.specs.declared.tech.Wire.{Wire}
use Rattle.wire_drawing.specs.Drawing.{pitch}
use Rattle.tech_rules.specs.Facts.{AreSizes}
use Rattle.channel_router.specs.Wires.{channel_height, track_y}
use Rattle.sram_netlist.specs.Organization.{Organization, IsWritten, words_per_row, bank_rows, columns_of, banks_of}
use Rattle.sram_netlist.specs.Netlist.{role}
use Rattle.sram_netlist.specs.InstanceList.{logic_cells}
use Rattle.macro_layout.specs.LayoutKit.{LayoutKit}
use Rattle.macro_layout.specs.Places.{Floorplan, bit_width, bit_height, drive_width, columns_x, total_width}
use Rattle.macro_layout.specs.Floorplan.{Tracks, rail_count, rail_x, column_role, write_height, column_channel_y, upper_y, IsFloorplan}
use Rattle.view_cover.proofs.NumberLaws.{banks_right, pitches_before, pitch_before, pitch_more}
use Rattle.view_cover.specs.Bits.{LiesInCell}

-- the cells of the logic row
abbrev pub IsLogicRole : Role → Type 0
IsLogicRole Nand2 = Unit {0}
IsLogicRole Nand3 = Unit {0}
IsLogicRole Inv = Unit {0}
IsLogicRole Dff = Unit {0}
IsLogicRole Delay = Unit {0}
IsLogicRole role = ⊥

-- Pins lie in their cells; a wire fits the height of each cell; on the second metal a wire that begins where a pin does ends in
-- the cell; and cells are as high or as wide as those beside them.
pub record FitsWires (kit : LayoutKit) (wire : Wire) : Type 0 where
  pub inside : (role : Role) (port metal : ℕ) → LiesInCell (kit.width role) (kit.height role) (kit.pin role port metal)
  pub tall : (role : Role) → wire.width ≤ℤ pos (kit.height role)
  pub logic_across : (role : Role) → IsLogicRole role → (port : ℕ) → ((kit.pin role port 1).x1 +ℤ wire.width) ≤ℤ pos (kit.width role)
  pub sense_across : (port : ℕ) → ((kit.pin Sense port 1).x1 +ℤ wire.width) ≤ℤ pos (kit.width Sense)
  pub upward : (port : ℕ) → ((kit.pin Precharge port 2).y1 +ℤ wire.width) ≤ℤ pos (kit.height Precharge)
  pub nand2 : kit.height RowNand2 ≡ kit.height Bitcell
  pub nand3 : kit.height RowNand3 ≡ kit.height Bitcell
  pub driver : kit.height Driver ≡ kit.height Bitcell
  pub precharge : kit.width Precharge ≡ kit.width Bitcell
  pub mux : kit.width Mux ≡ kit.width Bitcell
  pub tie : kit.width Tie ≡ kit.width Bitcell
  pub logic : (role : Role) → IsLogicRole role → kit.height role ≡ kit.height Inv

-- a floorplan of such cells, whose slices are wide enough
pub record AreGiven (plan : Organization) (kit : LayoutKit) (wire : Wire) (tracks : Tracks) (f : Floorplan) : Type 0 where
  pub sizes : AreSizes wire
  pub stands : IsFloorplan plan kit wire tracks f
  pub fits : FitsWires kit wire
  pub sense : kit.width Sense ≤ words_per_row plan * kit.width Bitcell
  pub write : IsWritten plan → kit.width Write ≤ words_per_row plan * kit.width Bitcell

-- where the banks end or the logic row does, whichever is further right
abbrev pub contents_end : Organization → LayoutKit → Floorplan → ℤ
contents_end plan kit f = int_max (pos (banks_of plan) *ℤ f.bank_width) (f.logic_x +ℤ pos (total_width plan kit (logic_cells plan)))

-- Heights

-- the rows' lower ends, and room for a wire in each but the write cells', which there may be none of
pub record Rises (w inv write sense channel column array precharge upper : ℤ) : Type 0 where
  pub wire : pos 1 ≤ℤ w
  pub to_inv : w ≤ℤ inv
  pub to_write : inv ≤ℤ write
  pub to_sense : write ≤ℤ sense
  pub to_channel : (sense +ℤ w) ≤ℤ channel
  pub to_column : channel ≤ℤ column
  pub to_array : (column +ℤ w) ≤ℤ array
  pub to_precharge : array ≤ℤ precharge
  pub to_upper : (precharge +ℤ w) ≤ℤ upper

rises_from : (hi hw hs hc rows hp : ℕ) (w main channel wy sy cy ay py : ℤ) → pos 1 ≤ℤ w → w ≤ℤ pos hi → w ≤ℤ pos hs → w ≤ℤ pos hc → w ≤ℤ pos hp → pos 0 ≤ℤ main → pos 0 ≤ℤ channel
    → wy ≡ pos hi +ℤ main → sy ≡ wy +ℤ pos hw → cy ≡ (sy +ℤ pos hs) +ℤ channel → ay ≡ cy +ℤ pos hc → py ≡ ay +ℤ pos rows → Rises w (pos hi) wy sy (sy +ℤ pos hs) cy ay py (py +ℤ pos hp)
rises_from hi hw hs hc rows hp w main channel wy sy cy ay py one a c d e m n p q r s t = record {
  wire = one;
  to_inv = a;
  to_write = omega (arith, ints, m, p);
  to_sense = omega (arith, ints, q);
  to_channel = omega (arith, ints, c);
  to_column = omega (arith, ints, n, r);
  to_array = omega (arith, ints, d, s);
  to_precharge = omega (arith, ints, t);
  to_upper = omega (arith, ints, e);
}

pub pitch_low : (wire : Wire) → AreSizes wire → pos 0 ≤ℤ pitch wire
pitch_low wire s = let a = s.width.from in let b = s.space.from in omega (arith, ints, a, b)

height_from : (space all : ℤ) → pos 1 ≤ℤ space → pos 0 ≤ℤ all → pos 0 ≤ℤ (space +ℤ all)
height_from space all a b = omega (arith, ints, a, b)

pub height_low : (wire : Wire) (n : ℕ) → AreSizes wire → pos 0 ≤ℤ channel_height wire n
height_low wire n s = height_from wire.space (pos n *ℤ pitch wire) s.space.from (banks_right n (pitch wire) (pitch_low wire s))

track_room : (low space w before here all : ℤ) → here ≤ℤ all → here ≡ before +ℤ (w +ℤ space) → pos 1 ≤ℤ space → ((low +ℤ (space +ℤ before)) +ℤ w) ≤ℤ (low +ℤ (space +ℤ all))
track_room low space w before here all le is one = omega (arith, ints, le, is, one)

-- a track's wire ends within its channel
pub track_fits : (low : ℤ) (wire : Wire) (t n : ℕ) → AreSizes wire → t < n → (track_y low wire t +ℤ wire.width) ≤ℤ (low +ℤ channel_height wire n)
track_fits low wire t n s lt = track_room low wire.space wire.width (pos t *ℤ pitch wire) (pos (t + 1) *ℤ pitch wire) (pos n *ℤ pitch wire) (pitches_before t n (pitch wire) lt (pitch_low wire s)) (pitch_more t (pitch wire)) s.space.from

above_low : (low h : ℤ) → pos 0 ≤ℤ h → low ≤ℤ (low +ℤ h)
above_low low h a = omega (arith, ints, a)

pub track_above : (low : ℤ) (wire : Wire) (t : ℕ) → AreSizes wire → low ≤ℤ track_y low wire t
track_above low wire t s = above_low low (channel_height wire t) (height_low wire t s)

-- Widths

-- a rail's wire ends before what stands behind the last rail
rail_room : (w space here all : ℤ) → (here +ℤ (w +ℤ space)) ≤ℤ all → pos 1 ≤ℤ space → (here +ℤ w) ≤ℤ all
rail_room w space here all le one = omega (arith, ints, le, one)

pub rail_before : (wire : Wire) (rail rails : ℕ) → AreSizes wire → rail < rails → (rail_x wire rail +ℤ wire.width) ≤ℤ rail_x wire rails
rail_before wire rail rails s lt =
    let le = pitches_before (rail + 1) (rails + 1) (pitch wire) (omega (arith, lt)) (pitch_low wire s) in
    rail_room wire.width wire.space (rail_x wire rail) (rail_x wire rails) (subst (λ (z : ℤ). z ≤ℤ rail_x wire rails) (pitch_more (rail + 1) (pitch wire)) le) s.space.from

pub rail_from : (wire : Wire) (rail : ℕ) → AreSizes wire → pitch wire ≤ℤ rail_x wire rail
rail_from wire rail s = pitch_before rail (pitch wire) (pitch_low wire s)

-- banks stand from a pitch on, and they and the logic row end a space before the trunks
pub record Reaches (p row_x columns_x bank_width all end : ℤ) : Type 0 where
  pub pitch_up : pos 0 ≤ℤ p
  pub to_row : p ≤ℤ row_x
  pub to_columns : row_x ≤ℤ columns_x
  pub to_bank : columns_x ≤ℤ bank_width
  pub to_end : all ≤ℤ end

reaches_from : (p row_x bank_width all logic : ℤ) (drive columns : ℕ) → pos 0 ≤ℤ p → p ≤ℤ row_x → bank_width ≡ (row_x +ℤ pos drive) +ℤ pos columns → Reaches p row_x (row_x +ℤ pos drive) bank_width all (int_max all logic)
reaches_from p row_x bank_width all logic drive columns a b c = record { pitch_up = a; to_row = b; to_columns = omega (arith, ints); to_bank = omega (arith, ints, c); to_end = omega (arith, ints, clamps) }

pub logic_ends : (all logic : ℤ) → logic ≤ℤ int_max all logic
logic_ends all logic = omega (arith, ints, clamps)

module _ (plan : Organization) (kit : LayoutKit) (wire : Wire) (tracks : Tracks) (f : Floorplan) (g : AreGiven plan kit wire tracks f) where
  pub rises : Rises wire.width (pos (kit.height Inv)) f.write_y f.sense_y (column_channel_y kit f) f.column_y f.array_y f.precharge_y (upper_y kit f)
  rises =
      let s = g.stands in
      rises_from (kit.height Inv) (write_height plan kit) (kit.height Sense) (kit.height (column_role plan.col_bits)) (bank_rows plan * bit_height kit) (kit.height Precharge) wire.width (channel_height wire tracks.main) (channel_height wire tracks.column) f.write_y f.sense_y f.column_y f.array_y f.precharge_y
      g.sizes.width.from (g.fits.tall Inv) (g.fits.tall Sense) (g.fits.tall (column_role plan.col_bits)) (g.fits.tall Precharge) (height_low wire tracks.main g.sizes) (height_low wire tracks.column g.sizes) s.write_y s.sense_y s.column_y s.array_y s.precharge_y

  pub reaches : Reaches (pitch wire) f.row_x (columns_x plan kit f) f.bank_width (pos (banks_of plan) *ℤ f.bank_width) (contents_end plan kit f)
  reaches =
      reaches_from (pitch wire) f.row_x f.bank_width (pos (banks_of plan) *ℤ f.bank_width) (f.logic_x +ℤ pos (total_width plan kit (logic_cells plan))) (drive_width plan kit) (columns_of plan * bit_width kit)
      (pitch_low wire g.sizes) (subst (λ (z : ℤ). pitch wire ≤ℤ z) (sym g.stands.row_x) (rail_from wire (rail_count plan) g.sizes)) g.stands.bank_width
