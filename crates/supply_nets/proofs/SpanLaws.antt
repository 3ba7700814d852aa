-- How far to the left and to the right leaf instances stand: between the ends of their supplies' bars.
use Rattle.std.proofs.Common.{◌≡◌, ℕ, ◌+◌, ◌*◌, ◌<◌, ◌≤◌, ℤ, pos, ◌≤ℤ◌, ◌+ℤ◌, ◌*ℤ◌, ◌∷◌, sym, ap, subst, ◌∙◌, arith}
use Rattle.std.specs.Int.{int_max}
use Rattle.std.proofs.lemmas.Int.{ints, clamps}
use Rattle.or_geom.specs.declared.place.Place.{Place}
use Rattle.cell_roles.specs.declared.role.Role.TheVariants.{Driver}
use Rattle.wire_drawing.specs.Drawing.{pitch}
use Rattle.tech_rules.specs.Facts.{AreSizes}
use Rattle.sram_netlist.specs.Organization.{columns_of, banks_of, words_per_row}
use Rattle.sram_netlist.specs.Instances.{LogicCell, LogicAt}
use Rattle.sram_netlist.specs.InstanceList.{logic_cells}
use Rattle.sram_netlist.specs.Netlist.{role}
use Rattle.macro_layout.specs.Places.{upright, bank_x, columns_x, column_x, gate_width, drive_width, bit_width, total_width, StandsInRow}
use Rattle.macro_layout.specs.Floorplan.{IsFloorplan, rail_count}
use Rattle.macro_layout.specs.Wires.{trunk_x}
use Rattle.good_places.proofs.NumberLaws.{all_of, banks_before, times_low}
use Rattle.good_places.proofs.RowLaws.{total_split}
use Rattle.kit_nets.specs.StatedParts.{Source}

-- a cell from x on, so wide, stands right of a bar's begin and left of the supplies' trunks
pub record IsSpan (s : Source) (from x : ℤ) (width : ℕ) : Type 0 where
  pub left : from ≤ℤ x
  pub right : (x +ℤ pos width) ≤ℤ trunk_x s.plan s.kit s.wire s.floorplan

module _ (s : Source) (sizes : AreSizes s.wire) (floor : IsFloorplan s.plan s.kit s.wire s.tracks s.floorplan) where
  low_row : pos 0 ≤ℤ s.floorplan.row_x
  low_row = subst (λ (z : ℤ). pos 0 ≤ℤ z) (sym floor.row_x) (times_low (rail_count s.plan + 1) (pitch s.wire) (pitch_low s.wire.width s.wire.space sizes.width.from sizes.space.from)) where
    pitch_low : (width space : ℤ) → pos 1 ≤ℤ width → pos 1 ≤ℤ space → pos 0 ≤ℤ (width +ℤ space)
    pitch_low width space a b = omega (arith, ints, a, b)

  low_bank : pos 0 ≤ℤ s.floorplan.bank_width
  low_bank = wide s.floorplan.row_x s.floorplan.bank_width (drive_width s.plan s.kit) (columns_of s.plan * bit_width s.kit) low_row floor.bank_width where
    wide : (row bank : ℤ) (d n : ℕ) → pos 0 ≤ℤ row → bank ≡ (row +ℤ pos d) +ℤ pos n → pos 0 ≤ℤ bank
    wide row bank d n a e = omega (arith, ints, a, e)

  -- in a bank
  bank_span : (b width : ℕ) (from x : ℤ) → b < banks_of s.plan → from ≤ℤ x → (x +ℤ pos width) ≤ℤ s.floorplan.bank_width → IsSpan s from (bank_x s.floorplan b x) width
  bank_span b width from x of_bank left right = record {
    left = begins from x (pos b *ℤ s.floorplan.bank_width) left (times_low b s.floorplan.bank_width low_bank);
    right = ends x (pos b *ℤ s.floorplan.bank_width) s.floorplan.bank_width (pos (banks_of s.plan) *ℤ s.floorplan.bank_width) (s.floorplan.logic_x +ℤ pos (total_width s.plan s.kit (logic_cells s.plan))) s.wire.space width right (banks_before b (banks_of s.plan) s.floorplan.bank_width of_bank low_bank) sizes.space.from;
  } where
    begins : (from x d : ℤ) → from ≤ℤ x → pos 0 ≤ℤ d → from ≤ℤ (x +ℤ d)
    begins from x d a b = omega (arith, ints, a, b)

    ends : (x d bank all logic space : ℤ) (width : ℕ) → (x +ℤ pos width) ≤ℤ bank → (d +ℤ bank) ≤ℤ all → pos 1 ≤ℤ space → ((x +ℤ d) +ℤ pos width) ≤ℤ (int_max all logic +ℤ space)
    ends x d bank all logic space width a b c = omega (arith, ints, clamps, a, b, c)

  -- columns and slices
  in_columns : (c n : ℕ) → c + n ≤ columns_of s.plan * bit_width s.kit → ((columns_x s.plan s.kit s.floorplan +ℤ pos c) +ℤ pos n) ≤ℤ s.floorplan.bank_width
  in_columns c n le = by (columns_x s.plan s.kit s.floorplan) s.floorplan.bank_width c n (columns_of s.plan * bit_width s.kit) le floor.bank_width where
    by : (x bank : ℤ) (c n all : ℕ) → c + n ≤ all → bank ≡ x +ℤ pos all → ((x +ℤ pos c) +ℤ pos n) ≤ℤ bank
    by x bank c n all le is = omega (arith, ints, le, is)

  right_of : (x : ℤ) (n : ℕ) → x ≤ℤ (x +ℤ pos n)
  right_of x n = omega (arith, ints)

  pub column_span : (b c : ℕ) → b < banks_of s.plan → c < columns_of s.plan → IsSpan s (columns_x s.plan s.kit s.floorplan) (bank_x s.floorplan b (column_x s.plan s.kit s.floorplan c)) (bit_width s.kit)
  column_span b c of_bank of_column = bank_span b (bit_width s.kit) (columns_x s.plan s.kit s.floorplan) (column_x s.plan s.kit s.floorplan c) of_bank (right_of (columns_x s.plan s.kit s.floorplan) (c * bit_width s.kit)) (in_columns (c * bit_width s.kit) (bit_width s.kit) (all_of c (columns_of s.plan) (bit_width s.kit) of_column))

  pub slice_span : (b i width : ℕ) → b < banks_of s.plan → i < s.plan.word_size → width ≤ words_per_row s.plan * bit_width s.kit → IsSpan s (columns_x s.plan s.kit s.floorplan) (bank_x s.floorplan b (column_x s.plan s.kit s.floorplan (i * words_per_row s.plan))) width
  slice_span b i width of_bank of_bit narrow = bank_span b width (columns_x s.plan s.kit s.floorplan) (column_x s.plan s.kit s.floorplan (i * words_per_row s.plan)) of_bank (right_of (columns_x s.plan s.kit s.floorplan) ((i * words_per_row s.plan) * bit_width s.kit))
      (in_columns ((i * words_per_row s.plan) * bit_width s.kit) width (within i s.plan.word_size (words_per_row s.plan) (bit_width s.kit) width narrow (all_of i s.plan.word_size (words_per_row s.plan * bit_width s.kit) of_bit)))
    where
      within : (i n w b width : ℕ) → width ≤ w * b → i * (w * b) + w * b ≤ n * (w * b) → (i * w) * b + width ≤ (n * w) * b
      within i n w b width le all =
          let one : (i * w) * b ≡ i * (w * b) = grind arith in
          let two : (n * w) * b ≡ n * (w * b) = grind arith in
          omega (arith, le, all, one, two)

  -- what stands in front of the columns
  pub gate_span : (b : ℕ) → b < banks_of s.plan → IsSpan s s.floorplan.row_x (bank_x s.floorplan b s.floorplan.row_x) (gate_width s.plan s.kit)
  gate_span b of_bank = bank_span b (gate_width s.plan s.kit) s.floorplan.row_x s.floorplan.row_x of_bank (omega (arith, ints)) (by s.floorplan.row_x s.floorplan.bank_width (gate_width s.plan s.kit) (s.kit.width Driver) (columns_of s.plan * bit_width s.kit) floor.bank_width) where
    by : (x bank : ℤ) (g d all : ℕ) → bank ≡ (x +ℤ pos (g + d)) +ℤ pos all → (x +ℤ pos g) ≤ℤ bank
    by x bank g d all is = omega (arith, ints, is)

  pub driver_span : (b : ℕ) → b < banks_of s.plan → IsSpan s s.floorplan.row_x (bank_x s.floorplan b (s.floorplan.row_x +ℤ pos (gate_width s.plan s.kit))) (s.kit.width Driver)
  driver_span b of_bank = bank_span b (s.kit.width Driver) s.floorplan.row_x (s.floorplan.row_x +ℤ pos (gate_width s.plan s.kit)) of_bank (right_of s.floorplan.row_x (gate_width s.plan s.kit)) (by s.floorplan.row_x s.floorplan.bank_width (gate_width s.plan s.kit) (s.kit.width Driver) (columns_of s.plan * bit_width s.kit) floor.bank_width) where
    by : (x bank : ℤ) (g d all : ℕ) → bank ≡ (x +ℤ pos (g + d)) +ℤ pos all → ((x +ℤ pos g) +ℤ pos d) ≤ℤ bank
    by x bank g d all is = omega (arith, ints, is)

  -- right of where the columns begin is right of where rows do
  pub from_row : (x : ℤ) (width : ℕ) → IsSpan s (columns_x s.plan s.kit s.floorplan) x width → IsSpan s s.floorplan.row_x x width
  from_row x width span = record { left = by s.floorplan.row_x x (drive_width s.plan s.kit) span.left; right = span.right } where
    by : (row x : ℤ) (d : ℕ) → (row +ℤ pos d) ≤ℤ x → row ≤ℤ x
    by row x d le = omega (arith, ints, le)

  -- a cell of the logic row
  pub record IsInLogicRow (cell : LogicCell) (place : Place) : Type 0 where
    pub x : ℤ
    pub at : place ≡ upright x (pos 0)
    pub span : IsSpan s s.floorplan.logic_x x (s.kit.width (role s.plan (LogicAt cell)))

  pub logic_span : (cell : LogicCell) (place : Place) → StandsInRow s.plan s.kit s.floorplan cell place → IsInLogicRow cell place
  logic_span cell place stands =
      let before = total_width s.plan s.kit stands.before in
      let split : total_width s.plan s.kit (logic_cells s.plan) ≡ before + (s.kit.width (role s.plan (LogicAt cell)) + total_width s.plan s.kit stands.after) = ap (total_width s.plan s.kit) stands.row ∙ total_split s.plan s.kit stands.before (cell ∷ stands.after) in
      record {
        x = s.floorplan.logic_x +ℤ pos before;
        at = stands.at;
        span = record {
          left = right_of s.floorplan.logic_x before;
          right = by s.floorplan.logic_x (pos (banks_of s.plan) *ℤ s.floorplan.bank_width) s.wire.space before (s.kit.width (role s.plan (LogicAt cell))) (total_width s.plan s.kit stands.after) (total_width s.plan s.kit (logic_cells s.plan)) split sizes.space.from;
        };
      }
    where
      by : (x banks space : ℤ) (before w after all : ℕ) → all ≡ before + (w + after) → pos 1 ≤ℤ space → ((x +ℤ pos before) +ℤ pos w) ≤ℤ (int_max banks (x +ℤ pos all) +ℤ space)
      by x banks space before w after all is some = omega (arith, ints, clamps, is, some)
