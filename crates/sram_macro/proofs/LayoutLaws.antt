-- Laying out.
use Rattle.std.proofs.Common.{◌≡◌, ◌⊎◌, ◌↔◌, inl, inr, zero, suc, ◌*◌, ◌≤◌, ℤ, pos, ◌+ℤ◌, List, [], ◌∷◌, Contains, Ok, Err, Result, IfErr, IfOk, refl, ap, sym, subst, ◌∙◌, arith}
use Rattle.std.specs.List.{AllByRecursion}
use Rattle.std.proofs.lemmas.List.Elements.{Contains-append_left, Contains-append_right, Contains-append_cases}
use Rattle.or_geom.specs.Adds.{Adds}
use Rattle.tech_rules.specs.declared.tech.Layer.{Layer}
use Rattle.tech_rules.specs.declared.tech.Wire.{Wire}
use Rattle.wire_drawing.specs.declared.route.RouteFault.{RouteFault}
use Rattle.wire_drawing.specs.declared.route.RouteFault.TheVariants.{Close, TapsClose, Memory}
use Rattle.tech_rules.specs.Facts.{IsWire}
use Rattle.channel_router.specs.declared.channel.Channel.{Channel}
use Rattle.channel_router.specs.declared.channel.Interval.{Interval}
use Rattle.channel_router.specs.declared.channel.Routed.{Routed}
use Rattle.channel_router.specs.Intervals.{AreIntervals}
use Rattle.channel_router.specs.Density.{IsDensity}
use Rattle.wire_drawing.specs.Drawing.{pitch}
use Rattle.channel_router.specs.Routed.{HasClosePins, IsRouted, IsRouteFault}
use Rattle.channel_router.specs.Wires.{channel_height}
use Rattle.cell_roles.specs.declared.role.Role.TheVariants.{Inv, Sense}
use Rattle.sram_netlist.specs.Organization.{Organization, bank_rows, columns_of}
use Rattle.macro_layout.specs.LayoutKit.{LayoutKit}
use Rattle.macro_layout.specs.Places.{Floorplan, bit_width, bit_height, drive_width}
use Rattle.macro_layout.specs.Floorplan.{Tracks, IsFloorplan, column_role, write_height, rail_count, rail_x}
use Rattle.floorplan.specs.declared.numbers.FloorplanNumbers.{FloorplanNumbers}
use Rattle.floorplan.specs.FloorplanNumbers.{floorplan_of}
use Rattle.main_channel.specs.Main.{StandsAcross}
use Rattle.macro_bounds.specs.Near.{IsSevenLayerWire, TracksAreFew}
use Rattle.sram_macro.specs.Layout.{IsMainOf, IsMainFault, IsMainRouted}

-- a list that grew twice
pub both_added : {X : Type 0} (old now new : List X) (P Q : X → Type 0) → Adds old now P → Adds now new Q → (x : X) → Contains new x ↔ (Contains old x ⊎ (P x ⊎ Q x))
both_added {X = X} old now new P Q a b x = (
  λ h. elim (Contains-append_cases now b.added x (subst (λ (l : List X). Contains l x) b.is h)) [
    | inl before ↦ elim (Contains-append_cases old a.added x (subst (λ (l : List X). Contains l x) a.is before)) [ inl first ↦ inl first | inr p ↦ inr (inl (a.only x p)) ]
    | inr q ↦ inr (inr (b.only x q))
  ],
  λ h. subst (λ (l : List X). Contains l x) (sym b.is) (elim h [
    | inl first ↦ Contains-append_left now b.added x (subst (λ (l : List X). Contains l x) (sym a.is) (Contains-append_left old a.added x first))
    | inr (inl p) ↦ Contains-append_left now b.added x (subst (λ (l : List X). Contains l x) (sym a.is) (Contains-append_right old a.added x (a.each x p)))
    | inr (inr q) ↦ Contains-append_right now b.added x (b.each x q)
  ]),
)

-- a list that began as another
pub begun_as : {X : Type 0} (first old : List X) (x : X) (Q : Type 0) (new : List X) → old ≡ first → Contains new x ↔ (Contains old x ⊎ Q) → Contains new x ↔ (Contains first x ⊎ Q)
begun_as {X = X} first old x Q new is both = subst (λ (l : List X). Contains new x ↔ (Contains l x ⊎ Q)) is both

pub seven_layers : (layers : List Layer) (wire : Wire) → IsWire layers wire → IsSevenLayerWire wire
seven_layers layers wire is = record { sizes = is.sizes; four = is.four; three = is.three }

pub listed_has : {X : Type 0} (P : X → Type 0) (xs : List X) (x : X) → AllByRecursion P xs → Contains xs x → P x
listed_has P [] x all (k, lt, is) = absurd (omega (arith, lt))
listed_has P (y ∷ ys) x all (zero, lt, is) = subst P is all.0
listed_has P (y ∷ ys) x all (suc k, lt, is) = listed_has P ys x all.1 (k, omega (arith, lt), is)

pub main_fault : (plan : Organization) (kit : LayoutKit) (wire : Wire) (ch : Channel) (fault : RouteFault) → IsMainOf plan kit wire ch → IsRouteFault ch wire fault → IsMainFault plan kit wire fault
main_fault plan kit wire ch (Close side first second) is close = (ch, is, close)
main_fault plan kit wire ch (TapsClose first second) is none = none
main_fault plan kit wire ch Memory is any = tt

-- floorplans of one macro stand at the same places from left to right
pub stands_across : (plan : Organization) (kit : LayoutKit) (wire : Wire) (first second : Tracks) (numbers : FloorplanNumbers) (floorplan : Floorplan) → IsFloorplan plan kit wire first (floorplan_of numbers) → IsFloorplan plan kit wire second floorplan
    → StandsAcross numbers floorplan
stands_across plan kit wire first second numbers floorplan a b =
    let rows : floorplan.row_x ≡ numbers.row_x = b.row_x ∙ sym a.row_x in
    record {
      logic_x = b.logic_x ∙ sym a.logic_x;
      row_x = rows;
      bank_width = b.bank_width ∙ (ap (λ (x : ℤ). (x +ℤ pos (drive_width plan kit)) +ℤ pos (columns_of plan * bit_width kit)) rows ∙ sym a.bank_width);
    }

-- there is a floorplan with room for so many tracks
pub some_floorplan : (plan : Organization) (kit : LayoutKit) (wire : Wire) (tracks : Tracks) → (f : Floorplan) × IsFloorplan plan kit wire tracks f
some_floorplan plan kit wire tracks =
    let row : ℤ = rail_x wire (rail_count plan) in
    let write : ℤ = pos (kit.height Inv) +ℤ channel_height wire tracks.main in
    let sense : ℤ = write +ℤ pos (write_height plan kit) in
    let column : ℤ = (sense +ℤ pos (kit.height Sense)) +ℤ channel_height wire tracks.column in
    let array : ℤ = column +ℤ pos (kit.height (column_role plan.col_bits)) in (
      record {
        logic_x = pitch wire;
        row_x = row;
        write_y = write;
        sense_y = sense;
        column_y = column;
        array_y = array;
        precharge_y = array +ℤ pos (bank_rows plan * bit_height kit);
        bank_width = (row +ℤ pos (drive_width plan kit)) +ℤ pos (columns_of plan * bit_width kit);
      },
      record { logic_x = refl; row_x = refl; write_y = refl; sense_y = refl; column_y = refl; array_y = refl; precharge_y = refl; bank_width = refl },
    )

pub err_as : {X E : Type 0} (r : Result X E) (P Q : E → Type 0) → ((e : E) → P e → Q e) → IfErr r P → IfErr r Q
err_as (Ok x) P Q to is = tt
err_as (Err e) P Q to is = to e is

pub ok_as : {X E : Type 0} (r : Result X E) (P Q : X → Type 0) → ((x : X) → P x → Q x) → IfOk r P → IfOk r Q
ok_as (Ok x) P Q to is = to x is
ok_as (Err e) P Q to is = tt

-- the channel that is routed, with few tracks
pub main_routed : (plan : Organization) (kit : LayoutKit) (wire : Wire) (ch : Channel) (r : Result Routed RouteFault) → TracksAreFew → IsMainOf plan kit wire ch → ch.nets ≤ 4096 → IfOk r (λ (x : Routed). (intervals : List Interval) × IsRouted ch wire intervals x)
    → IfOk r (λ (x : Routed). (intervals : List Interval) → AreIntervals ch intervals → IsDensity (pitch wire) intervals x.tracks) → IfOk r (λ (x : Routed). HasClosePins ch wire → ⊥) → IfOk r (IsMainRouted plan kit wire)
main_routed plan kit wire ch (Err e) law is few routed dense apart = tt
main_routed plan kit wire ch (Ok x) law is few routed dense apart =
    let tracks = law ch wire routed.0 x.tracks routed.1.nets (dense routed.0 routed.1.nets) in
    record { channel = ch; is = is; intervals = routed.0; routed_as = routed.1; apart = apart; few = omega (arith, tracks, few) }
