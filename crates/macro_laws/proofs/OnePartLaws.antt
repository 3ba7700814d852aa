-- A kit and a plan have one fault of a part at most, and none where they have a macro.
use Rattle.std.proofs.Common.{◌≡◌, ◌≢◌, ◌⊎◌, inl, inr, ℕ, ◌+◌, ◌*◌, ◌-◌, ◌<◌, ◌≤◌, ℤ, pos, ◌+ℤ◌, ◌-ℤ◌, ◌≤ℤ◌, ◌<ℤ◌, List, ◌∷◌, ◌++◌, Option, Some, None, refl, sym, ap, subst, ◌∙◌, arith}
use Rattle.std.proofs.lemmas.Int.{ints}
use Rattle.std.proofs.lemmas.Option.{same_Some}
use Rattle.std.specs.Prelude.{IfSome}
use Rattle.wire_drawing.specs.declared.route.RouteFault.{RouteFault}
use Rattle.wire_drawing.specs.declared.route.RouteFault.TheVariants as route_fault
use Rattle.wire_drawing.specs.declared.route.Tap.{Tap}
use Rattle.tech_rules.specs.declared.tech.Wire.{Wire}
use Rattle.wire_drawing.specs.Drawing.{pitch}
use Rattle.tech_rules.specs.Facts.{AreSizes, IsWire}
use Rattle.wire_drawing.specs.Spacing.{AreFirstClose}
use Rattle.channel_router.specs.declared.channel.Channel.{Channel}
use Rattle.channel_router.specs.declared.channel.Routed.{Routed}
use Rattle.channel_router.specs.Routed.{HasClosePins, AreFirstClosePins}
use Rattle.rail_bus.specs.Rails.{tap_ys}
use Rattle.sram_netlist.specs.Organization.{Organization, columns_of}
use Rattle.sram_netlist.specs.InstanceList.{tabulate}
use Rattle.sram_plan.specs.PlanNumbers.{organization}
use Rattle.leaf_tables.specs.declared.kit.Kit.{Kit}
use Rattle.leaf_tables.specs.declared.kit.Leaf.{Leaf}
use Rattle.leaf_tables.specs.declared.part.PartFault.{PartFault}
use Rattle.leaf_tables.specs.declared.part.PartFault.TheVariants as part_fault
use Rattle.leaf_tables.specs.Kits.{IsKit}
use Rattle.leaf_tables.specs.Parts.{of_route}
use Rattle.macro_layout.specs.LayoutKit.{LayoutKit}
use Rattle.macro_layout.specs.Places.{Floorplan, upright, drive_width, bit_width}
use Rattle.macro_layout.specs.Cells.{slice_x}
use Rattle.macro_layout.specs.Floorplan.{Tracks, IsFloorplan, line_count, choice_count}
use Rattle.floorplan.specs.LayoutOfKit.{layout_kit}
use Rattle.floorplan.specs.FloorplanNumbers.{floorplan_of}
use Rattle.port_data.specs.Column.{AreWideSlices, IsNarrowFault, AreColumnPinsApart, IsColumnOf, IsColumnFault}
use Rattle.port_data.specs.DataPart.{IsDataRefused}
use Rattle.port_data.specs.Pins.{column_channel}
use Rattle.row_decoder.specs.RowTaps.{corner_at, pin_tap, AreTapsOfRows}
use Rattle.bank_layout.proofs.SameTapLaws.{same_taps}
use Rattle.bank_layout.specs.BankTaps.{AreBankTaps, AreTapsApart, AreTapsRefused, IsBankFault, choice_tap, channel_low}
use Rattle.sram_macro.specs.declared.layout.Layout.{Layout}
use Rattle.sram_macro.specs.Layout.{IsMainOf, IsMainRouted, IsMainFault, IsMacroLayout, IsMainRefused, IsMacroLayoutFault}
use Rattle.sram_macro.specs.Macro.{IsPartsFault, names_of_macro}
use Rattle.sram_macro.specs.Names.{first_taken, IsTakenFault}
use Rattle.macro_laws.specs.OneMacro.{MacroFaultsAreUnique, MacroFaultsExcludeMacros}
use Rattle.macro_laws.proofs.LayoutLaws.{one_column_routing}
use Rattle.macro_laws.proofs.RouteLaws.{IsOneRouting}

-- the first two that are close

record AreOneTwo (a b c d : ℤ) : Type 0 where
  first : a ≡ c
  second : b ≡ d

one_two : (p : ℤ) (xs : List ℤ) (a b c d : ℤ) → AreFirstClose p xs a b → AreFirstClose p xs c d → AreOneTwo a b c d
one_two p xs a b c d f g = by (f.lowest c d g.close) (g.lowest a b f.close)
  where
    by : (a <ℤ c) ⊎ ((a ≡ c) × (b ≤ℤ d)) → (c <ℤ a) ⊎ ((c ≡ a) × (d ≤ℤ b)) → AreOneTwo a b c d
    by (inl x) (inl y) = absurd (omega (arith, ints, x, y))
    by (inl x) (inr y) = let e = y.0 in absurd (omega (arith, ints, x, e))
    by (inr x) (inl y) = let e = x.0 in absurd (omega (arith, ints, y, e))
    by (inr x) (inr y) = let le = x.1 in let ge = y.1 in record { first = x.0; second = omega (arith, ints, le, ge) }

record AreOneClose (side other : ℕ) (a b c d : ℤ) : Type 0 where
  side_is : side ≡ other
  two : AreOneTwo a b c d

one_close : (ch : Channel) (wire : Wire) (side other : ℕ) (a b c d : ℤ) → AreFirstClosePins ch wire side a b → AreFirstClosePins ch wire other c d → AreOneClose side other a b c d
one_close ch wire side other a b c d (inl f) (inl g) = record { side_is = f.0 ∙ sym g.0; two = one_two (pitch wire) _ a b c d f.1 g.1 }
one_close ch wire side other a b c d (inl f) (inr g) = absurd (g.1 (a, b, f.1.close))
one_close ch wire side other a b c d (inr f) (inl g) = absurd (f.1 (c, d, g.1.close))
one_close ch wire side other a b c d (inr f) (inr g) = record { side_is = f.0 ∙ sym g.0; two = one_two (pitch wire) _ a b c d f.2 g.2 }

has_close : (ch : Channel) (wire : Wire) (side : ℕ) (a b : ℤ) → AreFirstClosePins ch wire side a b → HasClosePins ch wire
has_close ch wire side a b (inl f) = inl (a, b, f.1.close)
has_close ch wire side a b (inr f) = inr (a, b, f.2.close)

close_fault : (side other : ℕ) (a b c d : ℤ) → AreOneClose side other a b c d → part_fault.Close side a b ≡ part_fault.Close other c d
close_fault side other a b c d one = λ i. part_fault.Close (one.side_is i) (one.two.first i) (one.two.second i)

-- the data

one_narrow : (plan : Organization) (kit : LayoutKit) (f g : PartFault) → f ≢ part_fault.Memory → g ≢ part_fault.Memory → IsNarrowFault plan kit f → IsNarrowFault plan kit g → f ≡ g
one_narrow plan kit (part_fault.SliceTooNarrow x) (part_fault.SliceTooNarrow y) s t (inl p) (inl q) = ap (λ (z : List ℕ). part_fault.SliceTooNarrow z) (p.0 ∙ sym q.0)
one_narrow plan kit (part_fault.SliceTooNarrow x) (part_fault.SliceTooNarrow y) s t (inl p) (inr q) = let less = p.1 in let le = q.2 in absurd (omega (arith, less, le))
one_narrow plan kit (part_fault.SliceTooNarrow x) (part_fault.SliceTooNarrow y) s t (inr p) (inl q) = let less = q.1 in let le = p.2 in absurd (omega (arith, less, le))
one_narrow plan kit (part_fault.SliceTooNarrow x) (part_fault.SliceTooNarrow y) s t (inr p) (inr q) = ap (λ (z : List ℕ). part_fault.SliceTooNarrow z) (p.0 ∙ sym q.0)
one_narrow plan kit part_fault.Memory g s t p q = absurd (s refl)
one_narrow plan kit f part_fault.Memory s t p q = absurd (t refl)
one_narrow plan kit (part_fault.Close a b c) g s t p q = absurd p
one_narrow plan kit (part_fault.TapsClose a b) g s t p q = absurd p
one_narrow plan kit (part_fault.NameTaken n) g s t p q = absurd p
one_narrow plan kit (part_fault.SliceTooNarrow x) (part_fault.Close a b c) s t p q = absurd q
one_narrow plan kit (part_fault.SliceTooNarrow x) (part_fault.TapsClose a b) s t p q = absurd q
one_narrow plan kit (part_fault.SliceTooNarrow x) (part_fault.NameTaken n) s t p q = absurd q

not_narrow : (plan : Organization) (kit : LayoutKit) (f : PartFault) → f ≢ part_fault.Memory → AreWideSlices plan kit → IsNarrowFault plan kit f → ⊥
not_narrow plan kit (part_fault.SliceTooNarrow x) s wide (inl p) = let less = p.1 in let le = wide.sense in omega (arith, less, le)
not_narrow plan kit (part_fault.SliceTooNarrow x) s wide (inr p) = let less = p.3 in let le = wide.write p.1 in omega (arith, less, le)
not_narrow plan kit part_fault.Memory s wide p = s refl
not_narrow plan kit (part_fault.Close a b c) s wide p = p
not_narrow plan kit (part_fault.TapsClose a b) s wide p = p
not_narrow plan kit (part_fault.NameTaken n) s wide p = p

one_column_fault : (plan : Organization) (kit : LayoutKit) (wire : Wire) (f g : PartFault) → f ≢ part_fault.Memory → g ≢ part_fault.Memory → IsColumnFault plan kit wire f → IsColumnFault plan kit wire g → f ≡ g
one_column_fault plan kit wire (part_fault.Close x a b) (part_fault.Close y c d) s t p q = close_fault x y a b c d (one_close (column_channel plan kit wire) wire x y a b c d p.1 q.1)
one_column_fault plan kit wire part_fault.Memory g s t p q = absurd (s refl)
one_column_fault plan kit wire f part_fault.Memory s t p q = absurd (t refl)
one_column_fault plan kit wire (part_fault.SliceTooNarrow r) g s t p q = absurd p
one_column_fault plan kit wire (part_fault.TapsClose a b) g s t p q = absurd p
one_column_fault plan kit wire (part_fault.NameTaken n) g s t p q = absurd p
one_column_fault plan kit wire (part_fault.Close x a b) (part_fault.SliceTooNarrow r) s t p q = absurd q
one_column_fault plan kit wire (part_fault.Close x a b) (part_fault.TapsClose c d) s t p q = absurd q
one_column_fault plan kit wire (part_fault.Close x a b) (part_fault.NameTaken n) s t p q = absurd q

not_close : (plan : Organization) (kit : LayoutKit) (wire : Wire) (f : PartFault) → f ≢ part_fault.Memory → AreColumnPinsApart plan kit wire → IsColumnFault plan kit wire f → ⊥
not_close plan kit wire (part_fault.Close x a b) s apart p = apart (has_close (column_channel plan kit wire) wire x a b p.1)
not_close plan kit wire part_fault.Memory s apart p = s refl
not_close plan kit wire (part_fault.SliceTooNarrow r) s apart p = p
not_close plan kit wire (part_fault.TapsClose a b) s apart p = p
not_close plan kit wire (part_fault.NameTaken n) s apart p = p

one_data_fault : (kit : Kit) (plan : Organization) (wire : Wire) (f g : PartFault) → kit.tech.wire ≡ Some wire → f ≢ part_fault.Memory → g ≢ part_fault.Memory → IsDataRefused kit plan f → IsDataRefused kit plan g → f ≡ g
one_data_fault kit plan wire f g wired s t (inl p) (inl q) = one_narrow plan (layout_kit kit) f g s t p q
one_data_fault kit plan wire f g wired s t (inl p) (inr q) = absurd (not_narrow plan (layout_kit kit) f s q.0 p)
one_data_fault kit plan wire f g wired s t (inr p) (inl q) = absurd (not_narrow plan (layout_kit kit) g t p.0 q)
one_data_fault kit plan wire f g wired s t (inr p) (inr q) = one_column_fault plan (layout_kit kit) wire f g s t (p.1 wire wired) (q.1 wire wired)

no_data_fault : (kit : Kit) (plan : Organization) (wire : Wire) (f : PartFault) → kit.tech.wire ≡ Some wire → f ≢ part_fault.Memory → AreWideSlices plan (layout_kit kit) → AreColumnPinsApart plan (layout_kit kit) wire → IsDataRefused kit plan f → ⊥
no_data_fault kit plan wire f wired s wide apart (inl p) = not_narrow plan (layout_kit kit) f s wide p
no_data_fault kit plan wire f wired s wide apart (inr p) = not_close plan (layout_kit kit) wire f s apart (p.1 wire wired)

-- the taps of a bank, whose heights don't depend on the tracks of the main channel

record AreSameHeights (kit : LayoutKit) (f g : Floorplan) : Type 0 where
  row_x : f.row_x ≡ g.row_x
  sense : f.sense_y -ℤ f.write_y ≡ g.sense_y -ℤ g.write_y
  low : channel_low kit f ≡ channel_low kit g
  array : f.array_y -ℤ f.write_y ≡ g.array_y -ℤ g.write_y
  precharge : f.precharge_y -ℤ f.write_y ≡ g.precharge_y -ℤ g.write_y

above_write : (w s h v t : ℤ) → s ≡ w +ℤ h → t ≡ v +ℤ h → s -ℤ w ≡ t -ℤ v
above_write w s h v t e f = omega (arith, ints, e, f)

lows : (w s h v t z : ℤ) → s ≡ w +ℤ h → t ≡ v +ℤ h → (s +ℤ z) -ℤ w ≡ (t +ℤ z) -ℤ v
lows w s h v t z e f = omega (arith, ints, e, f)

arrays : (w s c a v t d b h z n k : ℤ) → s ≡ w +ℤ h → t ≡ v +ℤ h → c ≡ (s +ℤ z) +ℤ n → d ≡ (t +ℤ z) +ℤ n → a ≡ c +ℤ k → b ≡ d +ℤ k → a -ℤ w ≡ b -ℤ v
arrays w s c a v t d b h z n k e f i j l m = omega (arith, ints, e, f, i, j, l, m)

tops : (w a p v b q y : ℤ) → a -ℤ w ≡ b -ℤ v → p ≡ a +ℤ y → q ≡ b +ℤ y → p -ℤ w ≡ q -ℤ v
tops w a p v b q y e f i = omega (arith, ints, e, f, i)

same_heights : (plan : Organization) (kit : LayoutKit) (wire : Wire) (m n c : ℕ) (f g : Floorplan) → IsFloorplan plan kit wire (record { main = m; column = c }) f → IsFloorplan plan kit wire (record { main = n; column = c }) g → AreSameHeights kit f g
same_heights plan kit wire m n c f g p q =
    let array = arrays f.write_y f.sense_y f.column_y f.array_y g.write_y g.sense_y g.column_y g.array_y _ _ _ _ p.sense_y q.sense_y p.column_y q.column_y p.array_y q.array_y in
    record {
      row_x = p.row_x ∙ sym q.row_x;
      sense = above_write f.write_y f.sense_y _ g.write_y g.sense_y p.sense_y q.sense_y;
      low = lows f.write_y f.sense_y _ g.write_y g.sense_y _ p.sense_y q.sense_y;
      array = array;
      precharge = tops f.write_y f.array_y f.precharge_y g.write_y g.array_y g.precharge_y _ array p.precharge_y q.precharge_y;
    }

taps_move : (leaves : List Leaf) (plan : Organization) (kit : LayoutKit) (wire : Wire) (f g : Floorplan) (track : List ℕ) (taps : List Tap) → AreSameHeights kit f g → AreBankTaps leaves plan kit wire f track taps → AreBankTaps leaves plan kit wire g track taps
taps_move leaves plan kit wire f g track taps same a = record {
  rows = a.rows;
  of_rows = subst (λ (y : ℤ). AreTapsOfRows leaves plan (corner_at g.row_x y) a.rows) same.array (subst (λ (x : ℤ). AreTapsOfRows leaves plan (corner_at x (f.array_y -ℤ f.write_y)) a.rows) same.row_x a.of_rows);
  sense = a.sense;
  is_sense = a.is_sense;
  precharge = a.precharge;
  is_precharge = a.is_precharge;
  are = a.are ∙ (λ i. a.rows ++ (pin_tap (line_count plan.groups + 1) (upright ((same.row_x i +ℤ pos (drive_width plan kit)) +ℤ pos (slice_x plan kit (plan.word_size - 1))) (same.sense i)) a.sense
      ∷ pin_tap (line_count plan.groups + 2) (upright ((same.row_x i +ℤ pos (drive_width plan kit)) +ℤ pos ((columns_of plan - 1) * bit_width kit)) (same.precharge i)) a.precharge
      ∷ tabulate (choice_count plan.col_bits) (choice_tap wire (same.low i) (line_count plan.groups + 3) track)));
}

one_bank_fault : (leaves : List Leaf) (plan : Organization) (kit : LayoutKit) (wire : Wire) (f g : Floorplan) (track : List ℕ) (x y : PartFault) → AreSameHeights kit f g → x ≢ part_fault.Memory → y ≢ part_fault.Memory
    → IsBankFault leaves plan kit wire f track x → IsBankFault leaves plan kit wire g track y → x ≡ y
one_bank_fault leaves plan kit wire f g track (part_fault.TapsClose a b) (part_fault.TapsClose c d) same s t p q =
    let lists = same_taps leaves plan kit wire g track p.taps q.taps (taps_move leaves plan kit wire f g track p.taps same p.are) q.are in
    let two = one_two (pitch wire) (tap_ys q.taps) a b c d (subst (λ (taps : List Tap). AreFirstClose (pitch wire) (tap_ys taps) a b) lists p.close) q.close in
    λ i. part_fault.TapsClose (two.first i) (two.second i)
one_bank_fault leaves plan kit wire f g track part_fault.Memory y same s t p q = absurd (s refl)
one_bank_fault leaves plan kit wire f g track x part_fault.Memory same s t p q = absurd (t refl)
one_bank_fault leaves plan kit wire f g track (part_fault.SliceTooNarrow r) y same s t p q = absurd p
one_bank_fault leaves plan kit wire f g track (part_fault.Close r a b) y same s t p q = absurd p
one_bank_fault leaves plan kit wire f g track (part_fault.NameTaken n) y same s t p q = absurd p
one_bank_fault leaves plan kit wire f g track (part_fault.TapsClose a b) (part_fault.SliceTooNarrow r) same s t p q = absurd q
one_bank_fault leaves plan kit wire f g track (part_fault.TapsClose a b) (part_fault.Close r c d) same s t p q = absurd q
one_bank_fault leaves plan kit wire f g track (part_fault.TapsClose a b) (part_fault.NameTaken n) same s t p q = absurd q

no_bank_fault : (leaves : List Leaf) (plan : Organization) (kit : LayoutKit) (wire : Wire) (f g : Floorplan) (track : List ℕ) (x : PartFault) → AreSameHeights kit f g → x ≢ part_fault.Memory → IsBankFault leaves plan kit wire f track x → AreTapsApart leaves plan kit wire g track → ⊥
no_bank_fault leaves plan kit wire f g track (part_fault.TapsClose a b) same s p apart =
    let lists = apart.only p.taps (taps_move leaves plan kit wire f g track p.taps same p.are) in
    apart.apart (a, b, (subst (λ (taps : List Tap). AreFirstClose (pitch wire) (tap_ys taps) a b) lists p.close).close)
no_bank_fault leaves plan kit wire f g track part_fault.Memory same s p apart = s refl
no_bank_fault leaves plan kit wire f g track (part_fault.SliceTooNarrow r) same s p apart = p
no_bank_fault leaves plan kit wire f g track (part_fault.Close r a b) same s p apart = p
no_bank_fault leaves plan kit wire f g track (part_fault.NameTaken n) same s p apart = p

-- the main channel, of which there is one

one_main_channel : (plan : Organization) (kit : LayoutKit) (wire : Wire) (tracks : Tracks) (floorplan : Floorplan) (c e : Channel) → IsFloorplan plan kit wire tracks floorplan → IsMainOf plan kit wire c → IsMainOf plan kit wire e → c ≡ e
one_main_channel plan kit wire tracks floorplan c e stands p q = p.formula tracks floorplan stands ∙ sym (q.formula tracks floorplan stands)

one_main_fault : (plan : Organization) (kit : LayoutKit) (wire : Wire) (tracks : Tracks) (floorplan : Floorplan) (x y : RouteFault) → IsFloorplan plan kit wire tracks floorplan → x ≢ route_fault.Memory → y ≢ route_fault.Memory
    → IsMainFault plan kit wire x → IsMainFault plan kit wire y → x ≡ y
one_main_fault plan kit wire tracks floorplan (route_fault.Close m a b) (route_fault.Close n c d) stands s t p q =
    let same = one_main_channel plan kit wire tracks floorplan q.0 p.0 stands q.1 p.1 in
    let one = one_close p.0 wire m n a b c d p.2 (subst (λ (ch : Channel). AreFirstClosePins ch wire n c d) same q.2) in
    λ i. route_fault.Close (one.side_is i) (one.two.first i) (one.two.second i)
one_main_fault plan kit wire tracks floorplan route_fault.Memory y stands s t p q = absurd (s refl)
one_main_fault plan kit wire tracks floorplan x route_fault.Memory stands s t p q = absurd (t refl)
one_main_fault plan kit wire tracks floorplan (route_fault.TapsClose a b) y stands s t p q = absurd p
one_main_fault plan kit wire tracks floorplan (route_fault.Close m a b) (route_fault.TapsClose c d) stands s t p q = absurd q

no_main_fault : (plan : Organization) (kit : LayoutKit) (wire : Wire) (tracks : Tracks) (floorplan : Floorplan) (x : RouteFault) (routed : Routed) → IsFloorplan plan kit wire tracks floorplan → x ≢ route_fault.Memory → IsMainFault plan kit wire x → IsMainRouted plan kit wire routed → ⊥
no_main_fault plan kit wire tracks floorplan (route_fault.Close m a b) routed stands s p is =
    let same = one_main_channel plan kit wire tracks floorplan p.0 is.channel stands p.1 is.is in
    is.apart (has_close is.channel wire m a b (subst (λ (ch : Channel). AreFirstClosePins ch wire m a b) same p.2))
no_main_fault plan kit wire tracks floorplan route_fault.Memory routed stands s p is = s refl
no_main_fault plan kit wire tracks floorplan (route_fault.TapsClose a b) routed stands s p is = p

lasting_route : (x : PartFault) (r : RouteFault) → x ≢ part_fault.Memory → x ≡ of_route r → r ≢ route_fault.Memory
lasting_route x r s e m = s (e ∙ ap of_route m)

-- a bank or the main channel

abbrev IsRefused : Kit → Organization → Wire → Routed → PartFault → Type 0
IsRefused kit plan wire column x = AreTapsRefused kit plan wire column x ⊎ IsMainRefused kit plan wire column x

refused_at : (kit : Kit) (plan : Organization) (wire : Wire) (column : Routed) (x : PartFault) → kit.tech.wire ≡ Some wire → IsMacroLayoutFault kit plan column x → IsRefused kit plan wire column x
refused_at kit plan wire column x wired p = subst (λ (w : Wire). IsRefused kit plan w column x) (same_Some p.0 wire (sym p.1 ∙ wired)) p.2

-- a floorplan with the tracks of the column channel
record HasFloorplan (kit : Kit) (plan : Organization) (wire : Wire) (column : ℕ) : Type 0 where
  main : ℕ
  floorplan : Floorplan
  stands : IsFloorplan plan (layout_kit kit) wire (record { main = main; column = column }) floorplan

floorplan_in : (kit : Kit) (plan : Organization) (wire : Wire) (column : Routed) (x : PartFault) → IsRefused kit plan wire column x → HasFloorplan kit plan wire column.tracks
floorplan_in kit plan wire column x (inl p) = record { main = p.tracks; floorplan = p.floorplan; stands = p.stands }
floorplan_in kit plan wire column x (inr p) = record { main = p.tracks; floorplan = p.floorplan; stands = p.stands }

-- what two column channels of a kit share
one_column : (kit : Kit) (plan : Organization) (wire : Wire) (c d : Routed) → AreSizes wire → kit.tech.wire ≡ Some wire → 0 < plan.word_size → IsColumnOf kit plan c → IsColumnOf kit plan d → HasFloorplan kit plan wire c.tracks → IsOneRouting c.track d.track c.tracks d.tracks
one_column kit plan wire c d sizes wired some p q fl = one_column_routing kit plan wire fl.floorplan c d sizes wired some (record { row_x = fl.stands.row_x; sense_y = fl.stands.sense_y }) p q

-- at the same column channel
one_refused : (kit : Kit) (plan : Organization) (wire : Wire) (track : List ℕ) (tracks : ℕ) (c d : Routed) (x y : PartFault) → c.track ≡ track → c.tracks ≡ tracks → d.track ≡ track → d.tracks ≡ tracks → x ≢ part_fault.Memory → y ≢ part_fault.Memory
    → IsRefused kit plan wire c x → IsRefused kit plan wire d y → x ≡ y
one_refused kit plan wire track tracks c d x y ct cn dt dn s t p q = by p q
  where
    lk : LayoutKit
    lk = layout_kit kit

    Stands : ℕ → Floorplan → ℕ → Type 0
    Stands main f column = IsFloorplan plan lk wire (record { main = main; column = column }) f

    by : IsRefused kit plan wire c x → IsRefused kit plan wire d y → x ≡ y
    by (inl p) (inl q) =
        one_bank_fault kit.leaves plan lk wire p.floorplan q.floorplan track x y
        (same_heights plan lk wire p.tracks q.tracks tracks p.floorplan q.floorplan (subst (Stands p.tracks p.floorplan) cn p.stands) (subst (Stands q.tracks q.floorplan) dn q.stands)) s t
        (subst (λ (l : List ℕ). IsBankFault kit.leaves plan lk wire p.floorplan l x) ct p.is) (subst (λ (l : List ℕ). IsBankFault kit.leaves plan lk wire q.floorplan l y) dt q.is)
    by (inl p) (inr q) = absurd
        (no_bank_fault kit.leaves plan lk wire p.floorplan q.floorplan track x
        (same_heights plan lk wire p.tracks q.tracks tracks p.floorplan q.floorplan (subst (Stands p.tracks p.floorplan) cn p.stands) (subst (Stands q.tracks q.floorplan) dn q.stands)) s
        (subst (λ (l : List ℕ). IsBankFault kit.leaves plan lk wire p.floorplan l x) ct p.is) (subst (AreTapsApart kit.leaves plan lk wire q.floorplan) dt q.apart))
    by (inr p) (inl q) = absurd
        (no_bank_fault kit.leaves plan lk wire q.floorplan p.floorplan track y
        (same_heights plan lk wire q.tracks p.tracks tracks q.floorplan p.floorplan (subst (Stands q.tracks q.floorplan) dn q.stands) (subst (Stands p.tracks p.floorplan) cn p.stands)) t
        (subst (λ (l : List ℕ). IsBankFault kit.leaves plan lk wire q.floorplan l y) dt q.is) (subst (AreTapsApart kit.leaves plan lk wire p.floorplan) ct p.apart))
    by (inr p) (inr q) =
        p.same ∙ ap of_route (one_main_fault plan lk wire (record { main = p.tracks; column = c.tracks }) p.floorplan p.route q.route p.stands (lasting_route x p.route s p.same) (lasting_route y q.route t q.same) p.is q.is) ∙ sym q.same

-- where there is a layout nothing is refused
not_refused : (kit : Kit) (plan : Organization) (wire : Wire) (c d : Routed) (x : PartFault) (layout : Layout) → c.track ≡ d.track → c.tracks ≡ d.tracks → x ≢ part_fault.Memory → kit.tech.wire ≡ Some wire
    → IsRefused kit plan wire c x → IsMacroLayout kit plan d layout → ⊥
not_refused kit plan wire c d x layout track tracks s wired p is = by p
  where
    lk : LayoutKit
    lk = layout_kit kit

    fl : Floorplan
    fl = floorplan_of layout.floorplan

    same : is.wire ≡ wire
    same = same_Some is.wire wire (sym is.wired ∙ wired)

    stands : IsFloorplan plan lk wire (record { main = layout.main.tracks; column = d.tracks }) fl
    stands = subst (λ (w : Wire). IsFloorplan plan lk w (record { main = layout.main.tracks; column = d.tracks }) fl) same is.stands

    apart : AreTapsApart kit.leaves plan lk wire fl d.track
    apart = subst (λ (w : Wire). AreTapsApart kit.leaves plan lk w fl d.track) same is.taps_apart

    main : IsMainRouted plan lk wire layout.main
    main = subst (λ (w : Wire). IsMainRouted plan lk w layout.main) same is.main

    by : IsRefused kit plan wire c x → ⊥
    by (inl p) =
        no_bank_fault kit.leaves plan lk wire p.floorplan fl d.track x
        (same_heights plan lk wire p.tracks layout.main.tracks d.tracks p.floorplan fl (subst (λ (n : ℕ). IsFloorplan plan lk wire (record { main = p.tracks; column = n }) p.floorplan) tracks p.stands) stands) s
        (subst (λ (l : List ℕ). IsBankFault kit.leaves plan lk wire p.floorplan l x) track p.is) apart
    by (inr p) = no_main_fault plan lk wire (record { main = p.tracks; column = c.tracks }) p.floorplan p.route layout.main p.stands (lasting_route x p.route s p.same) p.is main

-- names

taken : (kit : Kit) (names : List (List ℕ)) (x : PartFault) → x ≢ part_fault.Memory → IsTakenFault kit names x → (n : List ℕ) × (x ≡ part_fault.NameTaken n) × (first_taken kit names ≡ Some n)
taken kit names (part_fault.NameTaken n) s p = (n, refl, p)
taken kit names part_fault.Memory s p = absurd (s refl)
taken kit names (part_fault.SliceTooNarrow r) s p = absurd p
taken kit names (part_fault.Close r a b) s p = absurd p
taken kit names (part_fault.TapsClose a b) s p = absurd p

some_or_none : (n : List ℕ) (o : Option (List ℕ)) → o ≡ Some n → o ≡ None → ⊥
some_or_none n o e f = let g : ◌≡◌ {A = Option (List ℕ)} (Some n) None = sym e ∙ f in cc

not_free : (kit : Kit) (names : List (List ℕ)) (x : PartFault) → x ≢ part_fault.Memory → IsTakenFault kit names x → first_taken kit names ≡ None → ⊥
not_free kit names x s p free = let t = taken kit names x s p in some_or_none t.0 (first_taken kit names) t.2 free

-- all parts

one_parts_fault : (kit : Kit) (plan : Organization) (wire : Wire) (x y : PartFault) → AreSizes wire → kit.tech.wire ≡ Some wire → x ≢ part_fault.Memory → y ≢ part_fault.Memory → IsPartsFault kit plan x → IsPartsFault kit plan y → x ≡ y
one_parts_fault kit plan wire x y sizes wired s t (inl p) (inl q) = one_data_fault kit plan wire x y wired s t p q
one_parts_fault kit plan wire x y sizes wired s t (inl p) (inr (wide, (column, of, q))) = absurd (no_data_fault kit plan wire x wired s wide (of.apart wire wired) p)
one_parts_fault kit plan wire x y sizes wired s t (inr (wide, (column, of, p))) (inl q) = absurd (no_data_fault kit plan wire y wired t wide (of.apart wire wired) q)
one_parts_fault kit plan wire x y sizes wired s t (inr (wide, (c, of, p))) (inr (also, (d, is, q))) =
    let first = refused_at kit plan wire c x wired p in
    let second = refused_at kit plan wire d y wired q in
    let one = one_column kit plan wire c d sizes wired of.words of is (floorplan_in kit plan wire c x first) in
    one_refused kit plan wire d.track d.tracks c d x y one.tracks one.count refl refl s t first second

wire_sizes : (kit : Kit) (is : IsKit kit) → AreSizes is.wire
wire_sizes kit is = (subst (λ (o : Option Wire). IfSome o (IsWire kit.tech.layers)) is.wired is.tech.wire).sizes

pub one_part_fault : MacroFaultsAreUnique
one_part_fault kit plan held name x y is s t (inl p) (inl q) =
    let a = taken kit (names_of_macro kit plan held name) x s p in
    let b = taken kit (names_of_macro kit plan held name) y t q in
    a.1 ∙ ap (λ (n : List ℕ). part_fault.NameTaken n) (same_Some a.0 b.0 (sym a.2 ∙ b.2)) ∙ sym b.1
one_part_fault kit plan held name x y is s t (inl p) (inr q) = absurd (not_free kit (names_of_macro kit plan held name) x s p q.0)
one_part_fault kit plan held name x y is s t (inr p) (inl q) = absurd (not_free kit (names_of_macro kit plan held name) y t q p.0)
one_part_fault kit plan held name x y is s t (inr p) (inr q) = one_parts_fault kit (organization plan) is.wire x y (wire_sizes kit is) is.wired s t p.1 q.1

pub no_part_fault : MacroFaultsExcludeMacros
no_part_fault kit plan held name x m is s (inl p) made = not_free kit (names_of_macro kit plan held name) x s p made.free
no_part_fault kit plan held name x m is s (inr (free, inl data_)) made = no_data_fault kit (organization plan) is.wire x is.wired s made.wide (made.laid.of.apart is.wire is.wired) data_
no_part_fault kit plan held name x m is s (inr (free, inr (wide, (c, of, p)))) made =
    let first = refused_at kit (organization plan) is.wire c x is.wired p in
    let one = one_column kit (organization plan) is.wire c made.laid.column (wire_sizes kit is) is.wired of.words of made.laid.of (floorplan_in kit (organization plan) is.wire c x first) in
    not_refused kit (organization plan) is.wire c made.laid.column x made.layout one.tracks one.count s is.wired first made.laid.is
