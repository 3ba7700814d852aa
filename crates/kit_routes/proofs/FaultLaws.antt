-- Why a macro of a good kit isn't refused for its pins, and when for a cell that is too wide.
use Rattle.std.proofs.Common.{◌≡◌, ◌⊎◌, inl, inr, ℕ, zero, suc, ◌*◌, ◌^◌, ◌<◌, ◌≤◌, ℤ, List, Option, None, Some, Result, Ok, Err, refl, sym, subst, ◌∙◌, arith}
use Rattle.std.specs.Prelude.{◌↔◌, IfSome}
use Rattle.std.proofs.lemmas.Option.{same_Some}
use Rattle.std.proofs.lemmas.Bool.{cases_order}
use Rattle.or_geom.proofs.ListLaws.{contained_at}
use Rattle.gds_library.specs.declared.library.Library.{Library}
use Rattle.netlist.specs.declared.deck.Deck.{Deck}
use Rattle.cell_roles.specs.declared.role.Role.TheVariants.{Bitcell, Sense, Write}
use Rattle.cell_roles.specs.Roles.{role_name}
use Rattle.wire_drawing.specs.declared.route.RouteFault.{RouteFault}
use Rattle.wire_drawing.specs.declared.route.RouteFault.TheVariants as route_fault
use Rattle.tech_rules.specs.declared.tech.Wire.{Wire}
use Rattle.wire_drawing.specs.Drawing.{pitch}
use Rattle.tech_rules.specs.Facts.{AreSizes, IsWire}
use Rattle.channel_router.specs.declared.channel.Channel.{Channel}
use Rattle.channel_router.specs.declared.channel.Routed.{Routed}
use Rattle.channel_router.specs.Routed.{pin_xs, HasClosePins}
use Rattle.sram_netlist.specs.Organization.{Organization, IsBuildable, IsWritten, words_per_row, power_of_two}
use Rattle.sram_plan.specs.declared.numbers.Plan.{Plan}
use Rattle.sram_plan.specs.PlanNumbers.{organization}
use Rattle.leaf_tables.specs.declared.kit.Kit.{Kit}
use Rattle.leaf_tables.specs.declared.part.PartFault.{PartFault}
use Rattle.leaf_tables.specs.declared.part.PartFault.TheVariants as part_fault
use Rattle.leaf_tables.specs.Kits.{IsKit}
use Rattle.leaf_tables.specs.Parts.{of_route}
use Rattle.macro_layout.specs.LayoutKit.{LayoutKit}
use Rattle.macro_layout.specs.Places.{Floorplan}
use Rattle.macro_layout.specs.Floorplan.{IsFloorplan}
use Rattle.floorplan.specs.LayoutOfKit.{layout_kit}
use Rattle.floorplan.specs.LeafSides.{leaf_width}
use Rattle.floorplan.specs.FloorplanNumbers.{floorplan_of}
use Rattle.main_channel.specs.Formula.{main_channel, main_top, main_bottom}
use Rattle.port_data.specs.Column.{AreWideSlices, IsNarrowFault, IsTooWide, IsColumnOf}
use Rattle.port_data.specs.Pins.{column_channel}
use Rattle.port_lists.specs.Held.Held.{Stored}
use Rattle.bank_layout.specs.BankTaps.{AreTapsApart}
use Rattle.sram_macro.specs.declared.assembly.Macro.{Macro}
use Rattle.sram_macro.specs.Layout.{IsMainFault}
use Rattle.sram_macro.specs.Macro.{IsMacro, IsPartsFault, names_of_macro}
use Rattle.sram_macro.specs.Names.{first_taken}
use Rattle.kit_check.specs.Windows.{all_windows, plan_of}
use Rattle.kit_check.specs.Quick.{IsPassingAnswer, PassesQuickCheck}
use Rattle.kit_check.proofs.WindowLaws.{are_planned}
use Rattle.macro_maker.specs.Assembled.{IsAssembled}
use Rattle.kit_routes.specs.Routes.{IsMacroRefused, AreNamesFree, IsWiderThanBit}
use Rattle.spacing_laws.proofs.CloseLaws.{of_close, to_close}
use Rattle.route_laws.proofs.ColumnLaws.{columns_apart}
use Rattle.route_laws.proofs.KindLaws.{model, some_written}
use Rattle.route_laws.proofs.TopLaws.{top_apart}
use Rattle.route_laws.proofs.BottomLaws.{bottom_apart}
use Rattle.kit_routes.proofs.KitLaws.{pins_in_cells}
use Rattle.kit_routes.proofs.ModelLaws.{IsPlanned, window_for, window_at, model_is}
use Rattle.port_data.proofs.RefusedLaws.{first_are_close}

-- What a window's macro gives: its column channel is routed, and no pins and no taps are too close.
pub record IsLaidApart (kit : Kit) (plan : Organization) (wire : Wire) : Type 0 where
  pub wide : AreWideSlices plan (layout_kit kit)
  pub column : Routed
  pub of : IsColumnOf kit plan column
  pub tracks : ℕ
  pub floorplan : Floorplan
  pub stands : IsFloorplan plan (layout_kit kit) wire (record { main = tracks; column = column.tracks }) floorplan
  pub taps : AreTapsApart kit.leaves plan (layout_kit kit) wire floorplan column.track
  pub main : HasClosePins (main_channel plan (layout_kit kit) wire floorplan) wire → ⊥

laid_apart : (kit : Kit) (plan : Plan) (name : List ℕ) (wire : Wire) (m : Macro) → kit.tech.wire ≡ Some wire → IsMacro kit plan Stored name m → IsLaidApart kit (organization plan) wire
laid_apart kit plan name wire m wired made =
    let is = made.laid.is in
    let org = organization plan in
    let lk = layout_kit kit in
    let fl = floorplan_of made.layout.floorplan in
    let column = made.laid.column in
    let same : is.wire ≡ wire = same_Some is.wire wire (sym is.wired ∙ wired) in
    let formula = is.main.is.formula (record { main = made.layout.main.tracks; column = column.tracks }) fl is.stands in
    subst (IsLaidApart kit org) same (record {
      wide = made.wide;
      column = column;
      of = made.laid.of;
      tracks = made.layout.main.tracks;
      floorplan = fl;
      stands = is.stands;
      taps = is.taps_apart;
      main = λ close. is.main.apart (subst (λ (ch : Channel). HasClosePins ch is.wire) (sym formula) close);
    })

-- parts that are refused

no_route : (r : List ℕ) (route : RouteFault) → part_fault.SliceTooNarrow r ≡ of_route route → ⊥
no_route r (route_fault.Close s a b) e = cc
no_route r (route_fault.TapsClose a b) e = cc
no_route r route_fault.Memory e = cc

-- as too wide
abbrev pub IsTooWideCell : Organization → LayoutKit → Type 0
IsTooWideCell plan kit = IsTooWide plan kit (kit.width Sense) ⊎ (IsWritten plan × IsTooWide plan kit (kit.width Write))

pub too_wide : (kit : Kit) (plan : Organization) (wire : Wire) (r : List ℕ) → kit.tech.wire ≡ Some wire → IsPartsFault kit plan (part_fault.SliceTooNarrow r) → IsTooWideCell plan (layout_kit kit)
too_wide kit plan wire r wired (inl (inl (inl p))) = inl p.1
too_wide kit plan wire r wired (inl (inl (inr p))) = inr (p.1, p.3)
too_wide kit plan wire r wired (inl (inr p)) = absurd (p.1 wire wired)
too_wide kit plan wire r wired (inr (wide, (column, of, (w, e, inl p)))) = absurd p.is
too_wide kit plan wire r wired (inr (wide, (column, of, (w, e, inr p)))) = absurd (no_route r p.route p.same)

pub not_wide : (plan : Organization) (kit : LayoutKit) → IsTooWideCell plan kit → AreWideSlices plan kit → ⊥
not_wide plan kit (inl less) wide = let le = wide.sense in omega (arith, less, le)
not_wide plan kit (inr p) wide = let le = wide.write p.0 in let less = p.1 in omega (arith, less, le)

-- for their pins
pub record HasCloseMain (kit : Kit) (plan : Organization) (wire : Wire) : Type 0 where
  pub main : ℕ
  pub column : ℕ
  pub floorplan : Floorplan
  pub stands : IsFloorplan plan (layout_kit kit) wire (record { main = main; column = column }) floorplan
  pub close : HasClosePins (main_channel plan (layout_kit kit) wire floorplan) wire

pub record HasCloseChannel (kit : Kit) (plan : Organization) (wire : Wire) : Type 0 where
  pub wide : AreWideSlices plan (layout_kit kit)
  pub one : HasClosePins (column_channel plan (layout_kit kit) wire) wire ⊎ HasCloseMain kit plan wire

main_close : (plan : Organization) (kit : LayoutKit) (wire : Wire) (tracks : _) (f : Floorplan) (side : ℕ) (a b : ℤ) (route : RouteFault) → IsFloorplan plan kit wire tracks f → IsMainFault plan kit wire route → part_fault.Close side a b ≡ of_route route → HasClosePins (main_channel plan kit wire f) wire
main_close plan kit wire tracks f side a b (route_fault.Close s c d) stands is same = subst (λ (ch : Channel). HasClosePins ch wire) (is.1.formula tracks f stands) (first_are_close is.0 wire s c d is.2)
main_close plan kit wire tracks f side a b (route_fault.TapsClose c d) stands is same = absurd is
main_close plan kit wire tracks f side a b route_fault.Memory stands is same = absurd cc

close_parts : (kit : Kit) (plan : Organization) (wire : Wire) (side : ℕ) (a b : ℤ) → kit.tech.wire ≡ Some wire → IsPartsFault kit plan (part_fault.Close side a b) → HasCloseChannel kit plan wire
close_parts kit plan wire side a b wired (inl (inl p)) = absurd p
close_parts kit plan wire side a b wired (inl (inr p)) = record { wide = p.0; one = inl (first_are_close (column_channel plan (layout_kit kit) wire) wire side a b (p.1 wire wired).1) }
close_parts kit plan wire side a b wired (inr (wide, (column, of, (w, e, inl p)))) = absurd p.is
close_parts kit plan wire side a b wired (inr (wide, (column, of, (w, e, inr p)))) =
    let same : w ≡ wire = same_Some w wire (sym e ∙ wired) in
    subst (HasCloseChannel kit plan) same (record {
      wide = wide;
      one = inr (record { main = p.tracks; column = column.tracks; floorplan = p.floorplan; stands = p.stands; close = main_close plan (layout_kit kit) w _ p.floorplan side a b p.route p.stands p.is p.same });
    })

-- The window that is looked at

pub model_wide : (plan : Organization) (kit : LayoutKit) → IsWritten plan → AreWideSlices plan kit → AreWideSlices (model plan) kit
model_wide plan kit written wide = record { sense = wide.sense; write = λ _. wide.write written }

-- it is laid out, or cells are too wide
abbrev IsJudged : Kit → Organization → Wire → Type 0
IsJudged kit plan wire = IsLaidApart kit plan wire ⊎ (AreWideSlices plan (layout_kit kit) → ⊥)

judged : (kit : Kit) (plan : Plan) (name : List ℕ) (wire : Wire) (answer : Result (Library × Deck) PartFault) → kit.tech.wire ≡ Some wire → IsAssembled kit plan name answer → IsPassingAnswer kit name (organization plan) answer → IsJudged kit (organization plan) wire
judged kit plan name wire (Ok made) wired is sound = inl (laid_apart kit plan name wire is.0 wired is.1)
judged kit plan name wire (Err (part_fault.SliceTooNarrow r)) wired (_, inl taken) sound = absurd taken
judged kit plan name wire (Err (part_fault.SliceTooNarrow r)) wired (_, inr (free, parts)) sound = inr (not_wide (organization plan) (layout_kit kit) (too_wide kit (organization plan) wire r wired parts))
judged kit plan name wire (Err (part_fault.Close s a b)) wired is sound = absurd sound
judged kit plan name wire (Err (part_fault.TapsClose a b)) wired is sound = absurd sound
judged kit plan name wire (Err (part_fault.NameTaken n)) wired is sound = absurd sound
judged kit plan name wire (Err part_fault.Memory) wired is sound = absurd sound

pub model_judged : (kit : Kit) (plan : Plan) (wire : Wire) → kit.tech.wire ≡ Some wire → PassesQuickCheck IsAssembled kit → IsPlanned plan → IsJudged kit (model (organization plan)) wire
model_judged kit plan wire wired good is =
    let w = window_at plan is in
    let good_one = good.windows.each w.0 (window_for plan) w.1 in
    subst (λ (org : Organization). IsJudged kit org wire) (model_is plan is) (judged kit (plan_of (window_for plan)) good.windows.name wire good_one.answer wired good_one.is good_one.sound)

pub model_built : (plan : Plan) → IsPlanned plan → IsBuildable (model (organization plan))
model_built plan is =
    let w = window_at plan is in
    subst IsBuildable (model_is plan is) (are_planned (window_for plan) (contained_at all_windows w.0 (window_for plan) w.1)).plan

pub wire_sizes : (kit : Kit) (is : IsKit kit) → AreSizes is.wire
wire_sizes kit is = (subst (λ (o : Option Wire). IfSome o (IsWire kit.tech.layers)) is.wired is.tech.wire).sizes

-- No pins are too close.

main_apart : (kit : Kit) (plan : Plan) (is : IsKit kit) → IsPlanned plan → IsLaidApart kit (model (organization plan)) is.wire → HasCloseMain kit (organization plan) is.wire → ⊥
main_apart kit plan is planned laid c = by c.close
  where
    by : HasClosePins (main_channel (organization plan) (layout_kit kit) is.wire c.floorplan) is.wire → ⊥
    by (inl top) =
        top_apart (organization plan) (layout_kit kit) is.wire _ c.floorplan laid.floorplan (model_built plan planned) planned.written (some_written plan.masks) (pins_in_cells kit is) (wire_sizes kit is) laid.wide c.stands
        (λ h. laid.main (inl (to_close (pitch is.wire) (pin_xs (main_top (model (organization plan)) (layout_kit kit) is.wire laid.floorplan)) h)))
        (of_close (pitch is.wire) (pin_xs (main_top (organization plan) (layout_kit kit) is.wire c.floorplan)) top)
    by (inr bottom) =
        bottom_apart (organization plan) (layout_kit kit) (pitch is.wire) c.floorplan laid.floorplan planned.numbers.plan (model_built plan planned) planned.written (some_written plan.masks) (pins_in_cells kit is)
        (λ h. laid.main (inr (to_close (pitch is.wire) (pin_xs (main_bottom (model (organization plan)) (layout_kit kit) laid.floorplan)) h)))
        (of_close (pitch is.wire) (pin_xs (main_bottom (organization plan) (layout_kit kit) c.floorplan)) bottom)

channels_apart : (kit : Kit) (plan : Plan) (is : IsKit kit) → PassesQuickCheck IsAssembled kit → IsPlanned plan → HasCloseChannel kit (organization plan) is.wire → ⊥
channels_apart kit plan is good planned c = by (model_judged kit plan is.wire is.wired good planned) c.one
  where
    by : IsJudged kit (model (organization plan)) is.wire → HasClosePins (column_channel (organization plan) (layout_kit kit) is.wire) is.wire ⊎ HasCloseMain kit (organization plan) is.wire → ⊥
    by (inr narrow) one = narrow (model_wide (organization plan) (layout_kit kit) planned.written c.wide)
    by (inl laid) (inl column) = columns_apart (organization plan) (model (organization plan)) (layout_kit kit) is.wire (pins_in_cells kit is) refl (omega arith) laid.wide (laid.of.apart is.wire is.wired) column
    by (inl laid) (inr main) = main_apart kit plan is planned laid main

pub pins_free : (kit : Kit) (plan : Plan) (name : List ℕ) (is : IsKit kit) → PassesQuickCheck IsAssembled kit → IsPlanned plan → (side : ℕ) (a b : ℤ) → IsMacroRefused kit plan name (part_fault.Close side a b) → ⊥
pins_free kit plan name is good planned side a b (_, inl taken) = taken
pins_free kit plan name is good planned side a b (_, inr (free, parts)) = channels_apart kit plan is good planned (close_parts kit (organization plan) is.wire side a b is.wired parts)

-- A cell is too wide exactly where it is wider than the columns of a bit.

power_is : (n : ℕ) → n ≤ 3 → power_of_two n ≡ 2 ^ n
power_is zero le = refl
power_is (suc zero) le = refl
power_is (suc (suc zero)) le = refl
power_is (suc (suc (suc zero))) le = refl
power_is (suc (suc (suc (suc n)))) le = absurd (omega (arith, le))

words_are : (plan : Plan) → IsPlanned plan → words_per_row (organization plan) ≡ plan.wpr
words_are plan is = power_is plan.col_bits is.numbers.plan.choices ∙ sym is.numbers.wpr

none_of : (o : Option (List ℕ)) → ((n : List ℕ) → o ≡ Some n → ⊥) → o ≡ None
none_of None lacks = refl
none_of (Some n) lacks = absurd (lacks n refl)

pub narrow_exactly : (kit : Kit) (plan : Plan) (name : List ℕ) (is : IsKit kit) → IsPlanned plan → AreNamesFree kit plan name
    → ((role : List ℕ) × IsMacroRefused kit plan name (part_fault.SliceTooNarrow role)) ↔ (IsWiderThanBit kit plan Sense ⊎ IsWiderThanBit kit plan Write)
narrow_exactly kit plan name is planned free = (to, back)
  where
    lk : LayoutKit
    lk = layout_kit kit

    same : words_per_row (organization plan) ≡ plan.wpr
    same = words_are plan planned

    cell : IsTooWideCell (organization plan) (layout_kit kit) → IsWiderThanBit kit plan Sense ⊎ IsWiderThanBit kit plan Write
    cell (inl less) = inl (subst (λ (n : ℕ). n * leaf_width kit Bitcell < leaf_width kit Sense) same less)
    cell (inr p) = inr (subst (λ (n : ℕ). n * leaf_width kit Bitcell < leaf_width kit Write) same p.1)

    to : (role : List ℕ) × IsMacroRefused kit plan name (part_fault.SliceTooNarrow role) → IsWiderThanBit kit plan Sense ⊎ IsWiderThanBit kit plan Write
    to (role, (_, inl taken)) = absurd taken
    to (role, (_, inr (open_, parts))) = cell (too_wide kit (organization plan) is.wire role is.wired parts)

    none : first_taken kit (names_of_macro kit plan Stored name) ≡ None
    none = none_of (first_taken kit (names_of_macro kit plan Stored name)) (λ n e. free n (λ m. cc, inl e))

    refused : (role : List ℕ) → IsNarrowFault (organization plan) (layout_kit kit) (part_fault.SliceTooNarrow role) → IsMacroRefused kit plan name (part_fault.SliceTooNarrow role)
    refused role fault = (λ m. cc, inr (none, inl (inl fault)))

    wide_sense : words_per_row (organization plan) * leaf_width kit Bitcell < leaf_width kit Sense → (role : List ℕ) × IsMacroRefused kit plan name (part_fault.SliceTooNarrow role)
    wide_sense less = (role_name Sense, refused (role_name Sense) (inl (refl, less)))

    wide_write : words_per_row (organization plan) * leaf_width kit Bitcell < leaf_width kit Write → (role : List ℕ) × IsMacroRefused kit plan name (part_fault.SliceTooNarrow role)
    wide_write less = elim (cases_order (leaf_width kit Sense) (words_per_row (organization plan) * leaf_width kit Bitcell)) [
      | inl e ↦ (role_name Write, refused (role_name Write) (inr (refl, planned.written, omega (arith, e), less)))
      | inr (inl below) ↦ (role_name Write, refused (role_name Write) (inr (refl, planned.written, omega (arith, below), less)))
      | inr (inr above) ↦ wide_sense above
    ]

    back : IsWiderThanBit kit plan Sense ⊎ IsWiderThanBit kit plan Write → (role : List ℕ) × IsMacroRefused kit plan name (part_fault.SliceTooNarrow role)
    back (inl less) = wide_sense (subst (λ (n : ℕ). n * leaf_width kit Bitcell < leaf_width kit Sense) (sym same) less)
    back (inr less) = wide_write (subst (λ (n : ℕ). n * leaf_width kit Bitcell < leaf_width kit Write) (sym same) less)
