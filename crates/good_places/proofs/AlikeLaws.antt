-- Zones around which leaf instances stand alike.
use Rattle.std.proofs.Common.{◌≡◌, ◌∙◌, ℕ, ◌+◌, ◌*◌, ◌<◌, ℤ, pos, ◌+ℤ◌, ◌-ℤ◌, ◌*ℤ◌, List, refl, sym, ap, subst, arith}
use Rattle.std.proofs.lemmas.Int.{ints}
use Rattle.or_geom.specs.declared.place.Place.{Place}
use Rattle.cell_roles.specs.declared.role.Role.TheVariants.{Write}
use Rattle.tech_rules.specs.declared.tech.Wire.{Wire}
use Rattle.sram_netlist.specs.Organization.{Organization, power_of_two, words_per_row, banks_of}
use Rattle.sram_netlist.specs.Instances.{LeafInstance, BitAt, NandAt, DriverAt, PrechargeAt, WriteAt, SenseAt, MuxAt, TieAt, LogicAt}
use Rattle.sram_netlist.specs.Membership.{HasLeafInstance}
use Rattle.sram_netlist.specs.Netlist.{role}
use Rattle.sram_netlist.specs.BitCells.{Alike}
use Rattle.macro_layout.specs.LayoutKit.{LayoutKit}
use Rattle.macro_layout.specs.Places.{Floorplan, IsPlaceOf, bank_x, column_x, columns_x, bit_width, leaf_cell, upright}
use Rattle.macro_layout.specs.Floorplan.{write_height}
use Rattle.good_places.specs.Beside.{IsBesideSlice, AreAtOneEdge, HaveOneLeftPart, StandsMoved, moved_place}
use Rattle.good_places.specs.Zones.{IsLaid, ColumnsAreNearAlike, FrontsAreNearAlike, SlicesAreNearAlike, slice_right_of}
use Rattle.good_places.proofs.EdgeLaws.{IsAsFar, as_far, as_far_wide, place_at}
use Rattle.good_places.proofs.ColumnLaws.{columns_are_alike}
use Rattle.good_places.proofs.LaidLaws.{numbers, written_all}
use Rattle.good_places.proofs.NearLaws.{beside_column, beside_front, beside_slice}

pub columns_are_near_alike : ColumnsAreNearAlike
columns_are_near_alike plan other kit bit wire f g reach same laid there short b c d edge leaf place has at near =
    columns_are_alike plan other kit bit wire laid.tracks there.tracks f g same laid.stands there.stands b c d edge leaf place has at (beside_column other kit g reach (numbers other kit wire g reach there short) b d short.bitcell edge.there leaf place has near)

pub fronts_are_near_alike : FrontsAreNearAlike
fronts_are_near_alike plan other kit bit wire f g reach same laid there short b edge leaf place has at near =
    columns_are_alike plan other kit bit wire laid.tracks there.tracks f g same laid.stands there.stands b 0 0 edge leaf place has at (beside_front other kit g reach (numbers other kit wire g reach there short) b short.bitcell leaf place has near)

module _ (plan other : Organization) (kit : LayoutKit) (bit : List ℕ) (wire : Wire) (f g : Floorplan) (same : HaveOneLeftPart plan other) (laid : IsLaid plan kit wire f) (there : IsLaid other kit wire g) (b i j : ℕ) (edge : AreAtOneEdge plan.word_size i other.word_size j) where
  abbrev right : ℤ
  right = slice_right_of plan kit f other g b i j

  abbrev up : ℤ
  up = f.write_y -ℤ g.write_y

  pub same_words : words_per_row other ≡ words_per_row plan
  same_words = ap power_of_two same.col_bits

  below_banks : (bank : ℕ) → bank < banks_of other → bank ≡ b → b < banks_of plan
  below_banks bank lt e = subst (λ (m : ℕ). b < m) (ap power_of_two same.bank_bits) (subst (λ (m : ℕ). m < banks_of other) e lt)

  sums : (k e w u v : ℕ) → k + j ≡ e + i → u ≡ w → (k * w) * v + (j * u) * v ≡ (e * u) * v + (i * w) * v
  sums k e w u v s is = let a = as_far_wide (k * w) (j * w) (e * w) (i * w) v (as_far_wide k j e i w s) in subst (λ (m : ℕ). (k * w) * v + (j * m) * v ≡ (e * m) * v + (i * w) * v) (sym is) a

  moved_slice : (bank e : ℕ) → bank ≡ b → (k : IsAsFar plan.word_size i j e) → bank_x g bank (column_x other kit g (e * words_per_row other)) +ℤ right ≡ bank_x f b (column_x plan kit f (k.k * words_per_row plan))
  moved_slice bank e is k =
      go (columns_x other kit g) (columns_x plan kit f) (pos bank *ℤ g.bank_width) (pos b *ℤ g.bank_width) (pos b *ℤ f.bank_width) ((e * words_per_row other) * bit_width kit) ((k.k * words_per_row plan) * bit_width kit) ((i * words_per_row plan) * bit_width kit) ((j * words_per_row other) * bit_width kit)
      (ap (λ (m : ℕ). pos m *ℤ g.bank_width) is) (sums k.k e (words_per_row plan) (words_per_row other) (bit_width kit) k.sum same_words)
    where
      go : (xg xf qk qg qf : ℤ) (e k c d : ℕ) → qk ≡ qg → k + d ≡ e + c → ((xg +ℤ pos e) +ℤ qk) +ℤ (((xf +ℤ pos c) +ℤ qf) -ℤ ((xg +ℤ pos d) +ℤ qg)) ≡ (xf +ℤ pos k) +ℤ qf
      go xg xf qk qg qf e k c d is s = omega (arith, ints, is, s)

  pub up_there : (y : ℤ) → y +ℤ (f.write_y -ℤ y) ≡ f.write_y
  up_there y = omega (arith, ints)

  pub sense_up : g.sense_y +ℤ up ≡ f.sense_y
  sense_up = go g.write_y g.sense_y f.write_y f.sense_y (write_height other kit) (write_height plan kit) (written_all other.write_size (kit.height Write) there.written ∙ sym (written_all plan.write_size (kit.height Write) laid.written)) there.stands.sense_y laid.stands.sense_y where
    go : (wg sg wf sf : ℤ) (h k : ℕ) → h ≡ k → sg ≡ wg +ℤ pos h → sf ≡ wf +ℤ pos k → sg +ℤ (wf -ℤ wg) ≡ sf
    go wg sg wf sf h k e a c = omega (arith, ints, e, a, c)

  upright_moved : (x y u v : ℤ) (place : Place) → place ≡ upright x y → x +ℤ right ≡ u → y +ℤ up ≡ v → moved_place right up place ≡ upright u v
  upright_moved x y u v place is p q = ap (moved_place right up) is ∙ place_at (x +ℤ right) (y +ℤ up) u v p q

  found : (leaf : LeafInstance) (place : Place) → HasLeafInstance other leaf → IsPlaceOf other kit g leaf place → IsBesideSlice b j leaf → StandsMoved plan kit (Alike bit) f right up (role other leaf) (leaf_cell other kit (Alike bit) leaf) place
  found (WriteAt bank e) place has at (is, next) =
      let k = as_far plan.word_size i other.word_size j e edge next (subst (λ (m : ℕ). e < m) (written_all other.write_size other.word_size there.written) has.1) in
      record {
        leaf = WriteAt b k.k;
        has = (below_banks bank has.0 is, subst (λ (m : ℕ). k.k < m) (sym (written_all plan.write_size plan.word_size laid.written)) k.inside);
        stands = upright_moved (bank_x g bank (column_x other kit g (e * words_per_row other))) g.write_y (bank_x f b (column_x plan kit f (k.k * words_per_row plan))) f.write_y place at (moved_slice bank e is k) (up_there g.write_y);
        alike = refl;
        same_role = refl;
      }
  found (SenseAt bank e) place has at (is, next) =
      let k = as_far plan.word_size i other.word_size j e edge next has.1 in
      record {
        leaf = SenseAt b k.k;
        has = (below_banks bank has.0 is, k.inside);
        stands = upright_moved (bank_x g bank (column_x other kit g (e * words_per_row other))) g.sense_y (bank_x f b (column_x plan kit f (k.k * words_per_row plan))) f.sense_y place at (moved_slice bank e is k) sense_up;
        alike = refl;
        same_role = refl;
      }
  found (BitAt bank r c) place has at beside = absurd beside
  found (NandAt bank r) place has at beside = absurd beside
  found (DriverAt bank r) place has at beside = absurd beside
  found (PrechargeAt bank c) place has at beside = absurd beside
  found (MuxAt bank c) place has at beside = absurd beside
  found (TieAt bank c) place has at beside = absurd beside
  found (LogicAt cell) place has at beside = absurd beside

pub slices_are_near_alike : SlicesAreNearAlike
slices_are_near_alike plan other kit bit wire f g reach same laid there short b i j edge leaf place has at near =
    found plan other kit bit wire f g same laid there b i j edge leaf place has at (beside_slice other kit g reach (numbers other kit wire g reach there short) b j short.bitcell there.written edge.there leaf place has near)
