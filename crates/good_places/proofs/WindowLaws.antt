-- Each leaf instance has a window.
use Rattle.std.proofs.Common.{◌≡◌, inl, inr, ◌∙◌, ℕ, zero, suc, ◌+◌, ◌*◌, ◌<◌, ◌≤◌, ℤ, pos, ◌+ℤ◌, ◌≤ℤ◌, List, [], ◌∷◌, ◌++◌, refl, sym, ap, subst, arith}
use Rattle.std.proofs.lemmas.Int.{ints}
use Rattle.std.proofs.lemmas.List.{map-append}
use Rattle.or_geom.specs.declared.place.Place.{Place}
use Rattle.cell_roles.specs.declared.role.Role.{Role}
use Rattle.cell_roles.specs.declared.role.Role.TheVariants.{Dff, Inv, Nand2, Nand3}
use Rattle.tech_rules.specs.declared.tech.Wire.{Wire}
use Rattle.sram_netlist.specs.Organization.{Organization, power_of_two, words_per_row, columns_of, banks_of, inputs_of, written_bits, addr_bits}
use Rattle.sram_netlist.specs.Instances.{LogicCell, LeafInstance, BitAt, NandAt, DriverAt, PrechargeAt, WriteAt, SenseAt, MuxAt, TieAt, LogicAt}
use Rattle.sram_netlist.specs.InstanceList.{logic_cells, banks_cells, tabulate_lists, address_cells, choice_gates, groups_gates}
use Rattle.sram_netlist.specs.Netlist.{logic_role, gate_of, enables_of, enable_count}
use Rattle.sram_netlist.specs.Membership.{HasLeafInstance}
use Rattle.sram_netlist.specs.BitCells.{Alike}
use Rattle.macro_layout.specs.LayoutKit.{LayoutKit}
use Rattle.macro_layout.specs.Places.{Floorplan, IsPlaceOf, StandsInRow}
use Rattle.good_places.specs.Beside.{AreAtOneEdge, HaveOneLeftPart}
use Rattle.good_places.specs.Leaves.{Zone, zone_of, column_zone, front_zone, slice_zone, ReachesNeighboursOnly}
use Rattle.good_places.specs.Zones.{IsLaid}
use Rattle.good_places.specs.Seen.{AreAlikeZones}
use Rattle.good_places.specs.Neighbours.{row_with, HasNeighbours, AreManyAlike}
use Rattle.good_places.specs.Row.{roles_of, cell_zone, behind}
use Rattle.good_places.specs.Windows.{with_bits, IsWindowOf, IsWrittenPlan, HasWindow, LeavesHaveWindows}
use Rattle.good_places.proofs.LaidLaws.{written_all}
use Rattle.good_places.proofs.RowEdgeLaws.{row_neighbours, IsWideUnit}
use Rattle.good_places.proofs.CellRowLaws.{gate_inputs, pair, pair_count, plan_row, row_roles, begin_cells, same_roles, same_fixed, AreCellsAlike, cells_alike}
use Rattle.good_places.proofs.TailLaws.{has_tail, few_bits, many_columns, many_alike}
use Rattle.good_places.proofs.PairLaws.{columns_are_alike_zones, fronts_are_alike_zones, slices_are_alike_zones, cells_are_alike_zones}

pub power_low : (k : ℕ) → 1 ≤ power_of_two k
power_low zero = omega arith
power_low (suc k) = let p = power_low k in omega (arith, p)

module _ (plan : Organization) (kit : LayoutKit) (bit : List ℕ) (wire : Wire) (f : Floorplan) (reach : ℤ) (p : IsWrittenPlan plan) (laid : IsLaid plan kit wire f) (short : ReachesNeighboursOnly kit wire reach) where
  abbrev Window : Zone → Type 0
  Window = HasWindow reach plan kit bit wire f

  one_left : (word write masks : ℕ) → HaveOneLeftPart plan (with_bits plan word write masks)
  one_left word write masks = record { groups = refl; col_bits = refl; bank_bits = refl }

  column_window : (b c : ℕ) → b < banks_of plan → c < columns_of plan → Window (column_zone plan kit f b c)
  column_window b c below lt =
      let k = few_bits plan.word_size p.words in
      let h = has_tail (columns_of plan) c (k.0 * words_per_row plan) (many_columns plan.word_size k.0 (words_per_row plan) (power_low plan.col_bits) k.1.many) lt in
      record {
        other = with_bits plan k.0 k.0 0;
        is = inl (k.0, k.1.some, k.1.few, refl);
        there = λ g there. (
          column_zone (with_bits plan k.0 k.0 0) kit g b h.d,
          columns_are_alike_zones plan (with_bits plan k.0 k.0 0) kit bit wire f g reach (one_left k.0 k.0 0) laid there short b c h.d h.edge,
          inl (record { bank = b; below = below; c = c; d = h.d; edge = h.edge; next = h.next; here_is = refl; there_is = refl }),
        );
      }

  some_columns : 0 < columns_of plan
  some_columns = times plan.word_size (words_per_row plan) p.words (power_low plan.col_bits) where
    times : (n w : ℕ) → 0 < n → 1 ≤ w → 0 < n * w
    times n w a b = grind (arith, a, b)

  first_of : (n m d : ℕ) → AreAtOneEdge n 0 m d → AreAtOneEdge n 0 m 0
  first_of n m d e = subst (λ (k : ℕ). AreAtOneEdge n 0 m k) (e.first.0 refl) e

  front_window : (b : ℕ) → b < banks_of plan → Window (front_zone plan kit f b)
  front_window b below =
      let k = few_bits plan.word_size p.words in
      let h = has_tail (columns_of plan) 0 (k.0 * words_per_row plan) (many_columns plan.word_size k.0 (words_per_row plan) (power_low plan.col_bits) k.1.many) some_columns in
      record {
        other = with_bits plan k.0 k.0 0;
        is = inl (k.0, k.1.some, k.1.few, refl);
        there = λ g there. (
          front_zone (with_bits plan k.0 k.0 0) kit g b,
          fronts_are_alike_zones plan (with_bits plan k.0 k.0 0) kit bit wire f g reach (one_left k.0 k.0 0) laid there short b (first_of (columns_of plan) (k.0 * words_per_row plan) h.d h.edge),
          inr (inl (record { bank = b; below = below; edge = first_of (columns_of plan) (k.0 * words_per_row plan) h.d h.edge; here_is = refl; there_is = refl })),
        );
      }

  slice_window : (b i : ℕ) → b < banks_of plan → i < plan.word_size → Window (slice_zone plan kit f b i)
  slice_window b i below lt =
      let k = few_bits plan.word_size p.words in
      let h = has_tail plan.word_size i k.0 k.1.many lt in
      record {
        other = with_bits plan k.0 k.0 0;
        is = inl (k.0, k.1.some, k.1.few, refl);
        there = λ g there. (
          slice_zone (with_bits plan k.0 k.0 0) kit g b h.d,
          slices_are_alike_zones plan (with_bits plan k.0 k.0 0) kit bit wire f g reach (one_left k.0 k.0 0) laid there short b i h.d h.edge,
          inr (inr (inl (record { bank = b; below = below; i = i; j = h.d; edge = h.edge; next = h.next; here_is = refl; there_is = refl }))),
        );
      }

  -- The logic row

  module _ (cell : LogicCell) (place : Place) (at : StandsInRow plan kit f cell place) where
    to_zone : (other : Organization) → (is : IsWindowOf plan other) → HasNeighbours reach kit (roles_of plan at.before) (logic_role plan cell) (roles_of plan at.after) (roles_of other (logic_cells other)) → Window (zone_of plan kit f (LogicAt cell) place)
    to_zone other is h =
        let c = cells_alike reach kit plan other at.before at.after cell at.row h in
        record {
          other = other;
          is = is;
          there = λ g there. (
            cell_zone other kit (behind other kit g (c.front2 ++ c.near2)) c.cell2,
            subst (λ (z : Zone). AreAlikeZones reach plan other kit (Alike bit) f g z (cell_zone other kit (behind other kit g (c.front2 ++ c.near2)) c.cell2)) (same c)
                (cells_are_alike_zones plan other kit bit wire f g reach laid there short c.front c.near c.behind c.back c.front2 c.near2 c.behind2 c.back2 cell c.cell2 c.parts c.roles c.role c.guarded c.guarded2),
            inr (inr (inr (record {
              front = c.front;
              before = c.near;
              after = c.behind;
              back = c.back;
              front2 = c.front2;
              before2 = c.near2;
              after2 = c.behind2;
              back2 = c.back2;
              cell = cell;
              cell2 = c.cell2;
              parts = c.parts;
              roles = c.roles;
              role = c.role;
              guarded = c.guarded;
              guarded2 = c.guarded2;
              here_is = sym (same c);
              there_is = refl;
            }))),
          );
        }
      where
        same : (c : AreCellsAlike reach kit plan other at.before cell at.after) → cell_zone plan kit (behind plan kit f (c.front ++ c.near)) cell ≡ zone_of plan kit f (LogicAt cell) place
        same c = ap (λ (x : ℤ). cell_zone plan kit x cell) (ap (behind plan kit f) (sym c.before_is) ∙ sym (ap (λ (q : Place). q.at.x) at.at))

    here_roles : plan_row plan ≡ roles_of plan at.before ++ (logic_role plan cell ∷ roles_of plan at.after)
    here_roles = sym (row_roles plan) ∙ ap (roles_of plan) at.row ∙ map-append (logic_role plan) at.before (cell ∷ at.after)

    -- a window with so many bits and masks
    in_window : (word write masks : ℕ) → 0 < write → gate_inputs plan.bank_bits plan.masks ≡ gate_inputs plan.bank_bits masks → AreManyAlike (inputs_of plan + plan.masks) (word + masks) → IsWideUnit reach kit (Dff ∷ []) (inputs_of plan + plan.masks) (word + masks)
        → AreManyAlike (pair_count plan.bank_bits plan.masks (enables_of plan)) (pair_count plan.bank_bits masks (enable_count masks)) → IsWideUnit reach kit (pair plan) (pair_count plan.bank_bits plan.masks (enables_of plan)) (pair_count plan.bank_bits masks (enable_count masks))
        → HasNeighbours reach kit (roles_of plan at.before) (logic_role plan cell) (roles_of plan at.after) (roles_of (with_bits plan word write masks) (logic_cells (with_bits plan word write masks)))
    in_window word write masks some gates many wide many2 wide2 =
        subst (HasNeighbours reach kit (roles_of plan at.before) (logic_role plan cell) (roles_of plan at.after)) (sym there)
        (row_neighbours reach kit (roles_of plan (begin_cells plan)) (Dff ∷ []) (roles_of plan (banks_cells plan plan.bank_bits)) (pair plan) (inputs_of plan + plan.masks) (word + masks) (pair_count plan.bank_bits plan.masks (enables_of plan)) (pair_count plan.bank_bits masks (enable_count masks))
        (roles_of plan at.before) (roles_of plan at.after) (logic_role plan cell) many many2 wide wide2 here_roles)
      where
        begins : roles_of (with_bits plan word write masks) (begin_cells (with_bits plan word write masks)) ≡ roles_of plan (begin_cells plan)
        begins = sym (same_roles plan (with_bits plan word write masks) gates (begin_cells (with_bits plan word write masks)))
            ∙ ap (λ (l : List LogicCell). roles_of plan (l ++ (tabulate_lists (addr_bits plan) address_cells ++ (choice_gates plan.col_bits ++ groups_gates plan.groups plan.col_bits)))) (same_fixed write plan.write_size some p.written)

        there : roles_of (with_bits plan word write masks) (logic_cells (with_bits plan word write masks)) ≡ row_with (roles_of plan (begin_cells plan)) (word + masks) (Dff ∷ []) (roles_of plan (banks_cells plan plan.bank_bits)) (pair_count plan.bank_bits masks (enable_count masks)) (pair plan)
        there = row_roles (with_bits plan word write masks)
            ∙ ap (λ (l : List Role). row_with l (written_bits write word + masks) (Dff ∷ []) (roles_of (with_bits plan word write masks) (banks_cells (with_bits plan word write masks) plan.bank_bits)) (pair_count plan.bank_bits masks (written_bits write (enable_count masks))) (pair (with_bits plan word write masks))) begins
            ∙ ap (λ (l : List Role). row_with (roles_of plan (begin_cells plan)) (written_bits write word + masks) (Dff ∷ []) l (pair_count plan.bank_bits masks (written_bits write (enable_count masks))) (pair (with_bits plan word write masks))) (sym (same_roles plan (with_bits plan word write masks) gates (banks_cells plan plan.bank_bits)))
            ∙ ap (λ (n : ℕ). row_with (roles_of plan (begin_cells plan)) (n + masks) (Dff ∷ []) (roles_of plan (banks_cells plan plan.bank_bits)) (pair_count plan.bank_bits masks (written_bits write (enable_count masks))) (pair (with_bits plan word write masks))) (written_all write word some)
            ∙ ap (λ (n : ℕ). row_with (roles_of plan (begin_cells plan)) (word + masks) (Dff ∷ []) (roles_of plan (banks_cells plan plan.bank_bits)) (pair_count plan.bank_bits masks n) (pair (with_bits plan word write masks))) (written_all write (enable_count masks) some)
            ∙ ap (λ (n : ℕ). row_with (roles_of plan (begin_cells plan)) (word + masks) (Dff ∷ []) (roles_of plan (banks_cells plan plan.bank_bits)) (pair_count plan.bank_bits masks (enable_count masks)) (gate_of n ∷ (Inv ∷ []))) (sym gates)

    same_inputs : inputs_of plan ≡ plan.word_size
    same_inputs = written_all plan.write_size plan.word_size p.written

    same_enables : enables_of plan ≡ enable_count plan.masks
    same_enables = written_all plan.write_size (enable_count plan.masks) p.written

    wide_dff : reach ≤ℤ pos (kit.width Dff + 0)
    wide_dff = let d = short.dff in no_more reach (kit.width Dff) d where
      no_more : (r : ℤ) (w : ℕ) → r ≤ℤ pos w → r ≤ℤ pos (w + 0)
      no_more r w le = omega (arith, ints, le)

    -- without masks
    plain_count : plan.masks ≡ 0 → inputs_of plan + plan.masks ≡ plan.word_size
    plain_count none = let a = same_inputs in omega (arith, a, none)

    as_many : (n k : ℕ) → AreManyAlike n k → AreManyAlike n (k + 0)
    as_many n k (inl same) = inl (omega (arith, same))
    as_many n k (inr many) = let a = many.1 in inr (many.0, omega (arith, a))

    wide_units : (n k : ℕ) → AreManyAlike n (k + 0) → IsWideUnit reach kit (Dff ∷ []) n (k + 0)
    wide_units n k (inl same) = inl same
    wide_units n k (inr many) = let a = many.0 in let c = many.1 in inr (wide_dff, (omega (arith, a), omega (arith, c)))

    plain_pairs : plan.masks ≡ 0 → pair_count plan.bank_bits plan.masks (enables_of plan) ≡ pair_count plan.bank_bits 0 (enable_count 0)
    plain_pairs none = ap (pair_count plan.bank_bits plan.masks) same_enables ∙ ap (λ (m : ℕ). pair_count plan.bank_bits m (enable_count m)) none

    plain_window : plan.masks ≡ 0 → Window (zone_of plan kit f (LogicAt cell) place)
    plain_window none =
        let k = few_bits plan.word_size p.words in
        let many : AreManyAlike (inputs_of plan + plan.masks) (k.0 + 0) = as_many (inputs_of plan + plan.masks) k.0 (subst (λ (n : ℕ). AreManyAlike n k.0) (sym (plain_count none)) (many_alike plan.word_size k.0 k.1.many)) in
        to_zone (with_bits plan k.0 k.0 0) (inl (k.0, k.1.some, k.1.few, refl))
        (in_window k.0 k.0 0 k.1.some (ap (gate_inputs plan.bank_bits) none) many (wide_units (inputs_of plan + plan.masks) k.0 many) (inl (plain_pairs none)) (inl (plain_pairs none)))

    -- with masks
    masked_gates : (n k : ℕ) → 2 ≤ k → gate_inputs n k ≡ gate_inputs n 3
    masked_gates n zero two = absurd (omega (arith, two))
    masked_gates zero (suc k) two = refl
    masked_gates (suc n) (suc k) two = refl

    counts : (k : ℕ) → 2 ≤ k → enable_count k ≡ k
    counts zero two = absurd (omega (arith, two))
    counts (suc k) two = refl

    at_least : (n w m : ℕ) → 1 ≤ n → m ≤ w → m ≤ n * w
    at_least n w m some le = let a = times n w some in omega (arith, a, le) where
      times : (n w : ℕ) → 1 ≤ n → w ≤ n * w
      times n w some = grind (arith, some)

    pairs_least : (n k e m : ℕ) → 1 ≤ k → m ≤ e → m ≤ pair_count n k e
    pairs_least zero zero e m some le = absurd (omega (arith, some))
    pairs_least zero (suc k) e m some le = at_least 1 e m (omega arith) le
    pairs_least (suc n) k e m some le = at_least (power_of_two (suc n)) e m (power_low (suc n)) le

    wide_gate : (n k : ℕ) → 2 ≤ k → reach ≤ℤ pos (kit.width (gate_of (gate_inputs n k)) + (kit.width Inv + 0))
    wide_gate n zero two = absurd (omega (arith, two))
    wide_gate zero (suc k) two = let le = short.nand2 in together reach (kit.width Inv) (kit.width Nand2) le where
      together : (r : ℤ) (i w : ℕ) → r ≤ℤ (pos i +ℤ pos w) → r ≤ℤ pos (w + (i + 0))
      together r i w le = omega (arith, ints, le)
    wide_gate (suc n) (suc k) two = let le = short.nand3 in together reach (kit.width Inv) (kit.width Nand3) le where
      together : (r : ℤ) (i w : ℕ) → r ≤ℤ (pos i +ℤ pos w) → r ≤ℤ pos (w + (i + 0))
      together r i w le = omega (arith, ints, le)

    some_pairs : 2 ≤ plan.masks → 2 ≤ pair_count plan.bank_bits plan.masks (enables_of plan)
    some_pairs two = pairs_least plan.bank_bits plan.masks (enables_of plan) 2 (omega (arith, two)) (let a = same_enables in let c = counts plan.masks two in omega (arith, a, c, two))

    more_pairs : 3 ≤ pair_count plan.bank_bits 3 (enable_count 3)
    more_pairs = pairs_least plan.bank_bits 3 (enable_count 3) 3 (omega arith) (omega arith)

    masked_window : 2 ≤ plan.masks → Window (zone_of plan kit f (LogicAt cell) place)
    masked_window two =
        let a = some_pairs two in
        let c = more_pairs in
        to_zone (with_bits plan 3 1 3) (inr refl)
        (in_window 3 1 3 (omega arith) (masked_gates plan.bank_bits plan.masks two) (inr (omega (arith, two), omega arith)) (inr (wide_dff, (omega (arith, two), omega arith)))
        (inr (a, c)) (inr (wide_gate plan.bank_bits plan.masks two, (omega (arith, a), omega (arith, c)))))

    cell_window : Window (zone_of plan kit f (LogicAt cell) place)
    cell_window = elim p.masks [ inl none ↦ plain_window none | inr two ↦ masked_window two ]

  window : (leaf : LeafInstance) (place : Place) → HasLeafInstance plan leaf → IsPlaceOf plan kit f leaf place → Window (zone_of plan kit f leaf place)
  window (BitAt b r c) place has at = column_window b c has.0 has.1.1
  window (NandAt b r) place has at = front_window b has.0
  window (DriverAt b r) place has at = front_window b has.0
  window (PrechargeAt b c) place has at = column_window b c has.0 has.1
  window (WriteAt b i) place has at = slice_window b i has.0 (subst (λ (m : ℕ). i < m) (written_all plan.write_size plan.word_size p.written) has.1)
  window (SenseAt b i) place has at = slice_window b i has.0 has.1
  window (MuxAt b c) place has at = column_window b c has.0 has.1.0
  window (TieAt b c) place has at = column_window b c has.0 has.1.0
  window (LogicAt cell) place has at = cell_window cell place at

pub leaves_have_windows : LeavesHaveWindows
leaves_have_windows plan kit bit wire f reach p laid short leaf place has at = window plan kit bit wire f reach p laid short leaf place has at
