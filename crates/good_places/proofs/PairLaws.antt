-- Zones of two memories around which leaf instances stand alike.
use Rattle.std.proofs.Common.{◌≡◌, ◌∙◌, ℕ, ◌+◌, ◌*◌, ℤ, pos, ◌+ℤ◌, ◌-ℤ◌, ◌*ℤ◌, List, ◌∷◌, ◌++◌, refl, sym, ap, arith}
use Rattle.std.proofs.lemmas.Int.{ints}
use Rattle.cell_roles.specs.declared.role.Role.TheVariants.{Bitcell, Precharge, Sense, Inv}
use Rattle.sram_netlist.specs.Organization.{Organization, power_of_two, words_per_row, columns_of}
use Rattle.sram_netlist.specs.Instances.{LogicCell}
use Rattle.sram_netlist.specs.Netlist.{logic_role}
use Rattle.macro_layout.specs.Places.{bank_x, column_x, bit_width, drive_width, total_width}
use Rattle.good_places.specs.Beside.{AreAtOneEdge, HaveOneLeftPart}
use Rattle.good_places.specs.Columns.{right_of, up_of}
use Rattle.good_places.specs.Zones.{slice_right_of}
use Rattle.good_places.specs.Row.{AreAlikeParts, behind}
use Rattle.good_places.specs.Pairs.{ColumnsAreAlikeZones, FrontsAreAlikeZones, SlicesAreAlikeZones, CellsAreAlikeZones}
use Rattle.good_places.proofs.ColumnLaws as columns
use Rattle.good_places.proofs.AlikeLaws.{columns_are_near_alike, fronts_are_near_alike, slices_are_near_alike}
use Rattle.good_places.proofs.AlikeLaws as slices
use Rattle.good_places.proofs.RowLaws.{cells_are_near_alike, same_widths, total_split}

back : (x y : ℤ) → (x -ℤ y) +ℤ (y -ℤ x) ≡ pos 0
back x y = omega (arith, ints)

there : (x y : ℤ) → x ≡ y +ℤ (x -ℤ y)
there x y = omega (arith, ints)

further : (x y : ℤ) (w v : ℕ) → w ≡ v → x +ℤ pos w ≡ (y +ℤ pos v) +ℤ (x -ℤ y)
further x y w v e = omega (arith, ints, e)

same_back : (plan other : Organization) → HaveOneLeftPart plan other → HaveOneLeftPart other plan
same_back plan other s = record { groups = sym s.groups; col_bits = sym s.col_bits; bank_bits = sym s.bank_bits }

edge_back : (n c m d : ℕ) → AreAtOneEdge n c m d → AreAtOneEdge m d n c
edge_back n c m d e = record { here = e.there; there = e.here; first = (e.first.1, e.first.0); last = (e.last.1, e.last.0) }

up_more : (p q d : ℤ) (h : ℕ) → q +ℤ d ≡ p → p +ℤ pos h ≡ (q +ℤ pos h) +ℤ d
up_more p q d h e = omega (arith, ints, e)

pub columns_are_alike_zones : ColumnsAreAlikeZones
columns_are_alike_zones plan other kit bit wire f g reach same laid laid_there short b c d edge = record {
  right = right_of plan kit f other g b c d;
  up = up_of f g;
  left = right_of other kit g plan f b d c;
  down = up_of g f;
  back_x = back (bank_x f b (column_x plan kit f c)) (bank_x g b (column_x other kit g d));
  back_y = back f.column_y g.column_y;
  same = record {
    left = there (bank_x f b (column_x plan kit f c)) (bank_x g b (column_x other kit g d));
    right = further (bank_x f b (column_x plan kit f c)) (bank_x g b (column_x other kit g d)) (kit.width Bitcell) (kit.width Bitcell) refl;
    low = there f.column_y g.column_y;
    high = up_more f.precharge_y g.precharge_y (up_of f g) (kit.height Precharge) (columns.precharge_up plan other kit bit wire laid.tracks laid_there.tracks f g same laid.stands laid_there.stands b c d edge);
  };
  to = columns_are_near_alike plan other kit bit wire f g reach same laid laid_there short b c d edge;
  from = columns_are_near_alike other plan kit bit wire g f reach (same_back plan other same) laid_there laid short b d c (edge_back (columns_of plan) c (columns_of other) d edge);
}

first_end : (x y p q : ℤ) (d e z w : ℕ) → (x +ℤ pos d) +ℤ p ≡ ((y +ℤ pos e) +ℤ q) +ℤ ((((x +ℤ pos d) +ℤ pos (0 * z)) +ℤ p) -ℤ (((y +ℤ pos e) +ℤ pos (0 * w)) +ℤ q))
first_end x y p q d e z w = let a : 0 * z ≡ 0 = omega arith in let b : 0 * w ≡ 0 = omega arith in omega (arith, ints, a, b)

pub fronts_are_alike_zones : FrontsAreAlikeZones
fronts_are_alike_zones plan other kit bit wire f g reach same laid laid_there short b edge = record {
  right = right_of plan kit f other g b 0 0;
  up = up_of f g;
  left = right_of other kit g plan f b 0 0;
  down = up_of g f;
  back_x = back (bank_x f b (column_x plan kit f 0)) (bank_x g b (column_x other kit g 0));
  back_y = back f.column_y g.column_y;
  same = record {
    left = sym (columns.front plan other kit bit wire laid.tracks laid_there.tracks f g same laid.stands laid_there.stands b 0 0 edge refl);
    right = first_end f.row_x g.row_x (pos b *ℤ f.bank_width) (pos b *ℤ g.bank_width) (drive_width plan kit) (drive_width other kit) (bit_width kit) (bit_width kit);
    low = there f.column_y g.column_y;
    high = up_more f.precharge_y g.precharge_y (up_of f g) (kit.height Precharge) (columns.precharge_up plan other kit bit wire laid.tracks laid_there.tracks f g same laid.stands laid_there.stands b 0 0 edge);
  };
  to = fronts_are_near_alike plan other kit bit wire f g reach same laid laid_there short b edge;
  from = fronts_are_near_alike other plan kit bit wire g f reach (same_back plan other same) laid_there laid short b (edge_back (columns_of plan) 0 (columns_of other) 0 edge);
}

pub slices_are_alike_zones : SlicesAreAlikeZones
slices_are_alike_zones plan other kit bit wire f g reach same laid laid_there short b i j edge = record {
  right = slice_right_of plan kit f other g b i j;
  up = f.write_y -ℤ g.write_y;
  left = slice_right_of other kit g plan f b j i;
  down = g.write_y -ℤ f.write_y;
  back_x = back (bank_x f b (column_x plan kit f (i * words_per_row plan))) (bank_x g b (column_x other kit g (j * words_per_row other)));
  back_y = back f.write_y g.write_y;
  same = record {
    left = there (bank_x f b (column_x plan kit f (i * words_per_row plan))) (bank_x g b (column_x other kit g (j * words_per_row other)));
    right = further (bank_x f b (column_x plan kit f (i * words_per_row plan))) (bank_x g b (column_x other kit g (j * words_per_row other))) (words_per_row plan * kit.width Bitcell) (words_per_row other * kit.width Bitcell) (ap (λ (n : ℕ). power_of_two n * kit.width Bitcell) (sym same.col_bits));
    low = there f.write_y g.write_y;
    high = up_more f.sense_y g.sense_y (f.write_y -ℤ g.write_y) (kit.height Sense) (slices.sense_up plan other kit bit wire f g same laid laid_there b i j edge);
  };
  to = slices_are_near_alike plan other kit bit wire f g reach same laid laid_there short b i j edge;
  from = slices_are_near_alike other plan kit bit wire g f reach (same_back plan other same) laid_there laid short b j i (edge_back plan.word_size i other.word_size j edge);
}

cell_there : (x y : ℤ) (a b c d : ℕ) → c ≡ d → x +ℤ pos (a + c) ≡ (y +ℤ pos (b + d)) +ℤ ((x +ℤ pos a) -ℤ (y +ℤ pos b))
cell_there x y a b c d e = omega (arith, ints, e)

stays : (x : ℤ) → x ≡ x +ℤ pos 0
stays x = omega (arith, ints)

more : (x y d : ℤ) (w v : ℕ) → x ≡ y +ℤ d → w ≡ v → x +ℤ pos w ≡ (y +ℤ pos v) +ℤ d
more x y d w v e s = omega (arith, ints, e, s)

nothing : pos 0 +ℤ pos 0 ≡ pos 0
nothing = omega (arith, ints)

parts_back : (plan other : Organization) (front part back front2 part2 back2 : List LogicCell) → AreAlikeParts plan other front part back front2 part2 back2 → AreAlikeParts other plan front2 part2 back2 front part back
parts_back plan other front part back front2 part2 back2 p = record { here = p.there; there = p.here; alike = sym p.alike }

pub cells_are_alike_zones : CellsAreAlikeZones
cells_are_alike_zones plan other kit bit wire f g reach laid laid_there short front before after back front2 before2 after2 back2 cell cell2 parts roles role guarded guarded2 =
    let left : behind plan kit f (front ++ before) ≡ behind other kit g (front2 ++ before2) +ℤ (behind plan kit f front -ℤ behind other kit g front2) =
    ap (λ (n : ℕ). f.logic_x +ℤ pos n) (total_split plan kit front before)
    ∙ cell_there f.logic_x g.logic_x (total_width plan kit front) (total_width other kit front2) (total_width plan kit before) (total_width other kit before2) (same_widths plan other kit before before2 roles)
    ∙ ap (λ (n : ℕ). (g.logic_x +ℤ pos n) +ℤ (behind plan kit f front -ℤ behind other kit g front2)) (sym (total_split other kit front2 before2)) in
    record {
      right = behind plan kit f front -ℤ behind other kit g front2;
      up = pos 0;
      left = behind other kit g front2 -ℤ behind plan kit f front;
      down = pos 0;
      back_x = zero_sum (behind plan kit f front) (behind other kit g front2);
      back_y = nothing;
      same = record {
        left = left;
        right = more (behind plan kit f (front ++ before)) (behind other kit g (front2 ++ before2)) (behind plan kit f front -ℤ behind other kit g front2) (kit.width (logic_role plan cell)) (kit.width (logic_role other cell2)) left (ap kit.width role);
        low = stays (pos 0);
        high = stays (pos (kit.height Inv));
      };
      to = cells_are_near_alike plan other kit bit wire f g reach laid laid_there short front (before ++ (cell ∷ after)) back front2 before2 after2 back2 cell2 parts guarded2;
      from = cells_are_near_alike other plan kit bit wire g f reach laid_there laid short front2 (before2 ++ (cell2 ∷ after2)) back2 front before after back cell (parts_back plan other front (before ++ (cell ∷ after)) back front2 (before2 ++ (cell2 ∷ after2)) back2 parts) guarded;
    }
  where
    zero_sum : (x y : ℤ) → (x -ℤ y) +ℤ (y -ℤ x) ≡ pos 0
    zero_sum x y = omega (arith, ints)
