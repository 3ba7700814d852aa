-- Taps of a macro are one or a pitch apart, and each rail that has a tap has a highest one.
use Rattle.std.proofs.Common.{◌≡◌, ◌⊎◌, inl, inr, ◌∙◌, ℕ, ◌*◌, ℤ, ◌+ℤ◌, ◌≤ℤ◌, List, [], ◌∷◌, refl, sym, ap, subst, arith}
use Rattle.std.specs.Prelude.{slice_get, Contains}
use Rattle.std.proofs.lemmas.Bool.{cases_order}
use Rattle.std.proofs.lemmas.Int.{ints}
use Rattle.std.proofs.lemmas.Option.{same_Some}
use Rattle.or_geom.specs.declared.shape.Rect.{Rect}
use Rattle.or_geom.specs.declared.place.Place.{Place}
use Rattle.or_geom.specs.Place.{placed, IsImage}
use Rattle.or_geom.proofs.ListLaws.{contains_none, contains_cases, contains_first, contains_later}
use Rattle.cell_roles.specs.declared.role.Role.TheVariants.{Sense}
use Rattle.wire_drawing.specs.declared.route.Tap.{Tap}
use Rattle.tech_rules.specs.declared.tech.Wire.{Wire}
use Rattle.wire_drawing.specs.Drawing.{pitch}
use Rattle.channel_router.specs.declared.channel.Routed.{Routed}
use Rattle.channel_router.proofs.TrackLaws.{cases_int}
use Rattle.sram_netlist.specs.Organization.{Organization}
use Rattle.sram_netlist.specs.Nets.{Net}
use Rattle.sram_netlist.specs.Instances.{SenseAt}
use Rattle.sram_netlist.specs.InstanceList.{tabulate}
use Rattle.sram_netlist.specs.Numbers.{ArePlanNumbers}
use Rattle.sram_plan.specs.declared.numbers.Plan.{Plan}
use Rattle.sram_plan.specs.PlanNumbers.{numbers_of, organization}
use Rattle.leaf_tables.specs.declared.kit.Kit.{Kit}
use Rattle.leaf_tables.specs.Kits.{IsKit}
use Rattle.macro_layout.specs.Places.{Floorplan, bank_x, column_x, upright}
use Rattle.sram_netlist.specs.Organization.{words_per_row}
use Rattle.macro_layout.specs.Floorplan.{rail_count, rail_x}
use Rattle.macro_layout.specs.Pins.{IsPin, IsRailOf}
use Rattle.macro_layout.specs.RailLists.{AreRailLists}
use Rattle.macro_layout.specs.Wires.{IsTapAt}
use Rattle.floorplan.specs.LayoutOfKit.{layout_kit}
use Rattle.macro_bounds.proofs.NearLaws.{routed_shapes_are_near}
use Rattle.floorplan.specs.FloorplanNumbers.{floorplan_of}
use Rattle.bank_layout.proofs.BuiltLaws.{column_near}
use Rattle.bank_layout.proofs.GivenLaws.{site_of, wire_of_kit}
use Rattle.bank_layout.proofs.RailListLaws.{IsTapSite}
use Rattle.bank_layout.proofs.RailNetLaws.{on_rail, sense_port}
use Rattle.bank_layout.proofs.StatedTapLaws.{are_rail_lists}
use Rattle.port_data.specs.Column.{IsColumnOf}
use Rattle.sram_macro.specs.declared.layout.Layout.{Layout}
use Rattle.sram_macro.specs.Layout.{IsMacroLayout}
use Rattle.good_wires.specs.Held.{ReachesTap}
use Rattle.drawn_memories.proofs.ApartLaws.{items_apart}
use Rattle.drawn_memories.proofs.PortLaws.{sense_enable_high}
use Rattle.drawn_memories.proofs.StandLaws.{up_at}

-- The highest of the taps of a rail

record IsHighestOf (taps : List Tap) (rail : ℕ) : Type 0 where
  tap : Tap
  listed : Contains taps tap
  of : tap.rail ≡ rail
  most : (other : Tap) → Contains taps other → other.rail ≡ rail → other.y ≤ℤ tap.y

-- none of them is of the rail
abbrev HasNone : List Tap → ℕ → Type 0
HasNone taps rail = (other : Tap) → Contains taps other → other.rail ≡ rail → ⊥

goes_on : (t : Tap) (ts : List Tap) (rail : ℕ) → (h : IsHighestOf ts rail) → (t.rail ≡ rail → t.y ≤ℤ h.tap.y) → IsHighestOf (t ∷ ts) rail
goes_on t ts rail h below = record {
  tap = h.tap;
  listed = contains_later t ts h.tap h.listed;
  of = h.of;
  most = λ other there is. elim (contains_cases t ts other there) [
    | inl e ↦ (let y = ap (λ (x : Tap). x.y) e in let le = below (sym (ap (λ (x : Tap). x.rail) e) ∙ is) in omega (arith, ints, y, le))
    | inr later ↦ h.most other later is
  ];
}

higher : (t : Tap) (ts : List Tap) (rail : ℕ) → t.rail ≡ rail → ((other : Tap) → Contains ts other → other.rail ≡ rail → other.y ≤ℤ t.y) → IsHighestOf (t ∷ ts) rail
higher t ts rail same above = record {
  tap = t;
  listed = contains_first t ts;
  of = same;
  most = λ other there is. elim (contains_cases t ts other there) [
    | inl e ↦ (let y = ap (λ (x : Tap). x.y) e in omega (arith, ints, y))
    | inr later ↦ above other later is
  ];
}

same_rail : (t : Tap) (ts : List Tap) (rail : ℕ) → t.rail ≡ rail → IsHighestOf ts rail → IsHighestOf (t ∷ ts) rail
same_rail t ts rail same h = elim (cases_int t.y h.tap.y) [
  | inl e ↦ goes_on t ts rail h (λ of. omega (arith, ints, e))
  | inr (inl less) ↦ goes_on t ts rail h (λ of. omega (arith, ints, less))
  | inr (inr more) ↦ higher t ts rail same (λ other later is. (let le = h.most other later is in omega (arith, ints, le, more)))
]

highest_or_none : (taps : List Tap) (rail : ℕ) → IsHighestOf taps rail ⊎ HasNone taps rail
highest_or_none [] rail = inr (λ other has is. contains_none other has)
highest_or_none (t ∷ ts) rail = elim (cases_order t.rail rail) [
  | inl same ↦ inl (elim (highest_or_none ts rail) [ inl h ↦ same_rail t ts rail same h | inr none ↦ higher t ts rail same (λ other later is. absurd (none other later is)) ])
  | inr (inl lt) ↦ other_rail (λ e. omega (arith, e, lt)) (highest_or_none ts rail)
  | inr (inr gt) ↦ other_rail (λ e. omega (arith, e, gt)) (highest_or_none ts rail)
] where
  other_rail : (t.rail ≡ rail → ⊥) → IsHighestOf ts rail ⊎ HasNone ts rail → IsHighestOf (t ∷ ts) rail ⊎ HasNone (t ∷ ts) rail
  other_rail differ (inl h) = inl (goes_on t ts rail h (λ of. absurd (differ of)))
  other_rail differ (inr none) = inr (λ other there is. elim (contains_cases t ts other there) [
    | inl e ↦ differ (sym (ap (λ (x : Tap). x.rail) e) ∙ is)
    | inr later ↦ none other later is
  ])

highest_of : (taps : List Tap) (rail : ℕ) (tap : Tap) → Contains taps tap → tap.rail ≡ rail → IsHighestOf taps rail
highest_of taps rail tap has of = elim (highest_or_none taps rail) [ inl h ↦ h | inr none ↦ absurd (none tap has of) ]

-- A macro's

module _ (kit : Kit) (plan : Plan) (is : IsKit kit) (numbers : ArePlanNumbers (numbers_of plan)) (column : Routed) (of : IsColumnOf kit (organization plan) column) (layout : Layout) (laid : IsMacroLayout kit (organization plan) column layout) where
  abbrev org : Organization
  org = organization plan

  abbrev f : Floorplan
  f = floorplan_of layout.floorplan

  site : IsTapSite kit (organization plan) laid.wire (floorplan_of layout.floorplan) column
  site = record {
    site = site_of kit plan layout.sides layout.floorplan laid.wire column (record {
      is = is;
      plan_is = numbers;
      sides_are = laid.sides;
      sides_of = laid.sides_of;
      near = laid.near;
      wired = laid.wired;
      given = record { stands = (layout.main.tracks, laid.stands); near = column_near routed_shapes_are_near kit.tech.layers kit org laid.wire column (wire_of_kit kit laid.wire is laid.wired) laid.wired of };
    });
    wired = laid.wired;
    column = of.stated laid.wire f laid.wired (record { row_x = laid.stands.row_x; sense_y = laid.stands.sense_y });
  }

  abbrev xs : List ℤ
  xs = tabulate (rail_count (organization plan)) (rail_x laid.wire)

  lists : AreRailLists (organization plan) (layout_kit kit) laid.wire column.tracks (floorplan_of layout.floorplan) xs laid.taps_apart.taps
  lists = are_rail_lists kit (organization plan) laid.wire (floorplan_of layout.floorplan) column laid.taps_apart.taps site laid.taps_apart.are

  abbrev IsTap : ℤ → ℤ → ℤ → Type 0
  IsTap x y end = IsTapAt (organization plan) (layout_kit kit) laid.wire column.tracks (floorplan_of layout.floorplan) x y end

  pub taps_apart : (x y end u v last : ℤ) → IsTap x y end → IsTap u v last → ((x ≡ u) × (y ≡ v) × (end ≡ last)) ⊎ (((y +ℤ pitch laid.wire) ≤ℤ v) ⊎ ((v +ℤ pitch laid.wire) ≤ℤ y))
  taps_apart x y end u v last t s =
      let a = (lists.taps x y end).1 t in
      let b = (lists.taps u v last).1 s in
      let ya = a.at_y in
      let yb = b.at_y in
      elim (items_apart (pitch laid.wire) (λ (tap : Tap). tap.y) laid.taps_apart.taps a.tap b.tap laid.taps_apart.apart a.listed b.listed) [
        | inl same ↦ inl (
          same_Some x u (sym a.at_x ∙ (ap (λ (tap : Tap). slice_get xs tap.rail) same ∙ b.at_x)),
          (let e = ap (λ (tap : Tap). tap.y) same in omega (arith, ints, ya, yb, e)),
          sym a.ends ∙ (ap (λ (tap : Tap). tap.end) same ∙ b.ends),
        )
        | inr (inl before) ↦ inr (inl (omega (arith, ints, before, ya, yb)))
        | inr (inr after) ↦ inr (inr (omega (arith, ints, after, ya, yb)))
      ]

  pub reaches_tap : (x y end : ℤ) → IsTap x y end → ReachesTap (organization plan) (layout_kit kit) laid.wire column.tracks (floorplan_of layout.floorplan) x
  reaches_tap x y end t =
      let a = (lists.taps x y end).1 t in
      let h = highest_of laid.taps_apart.taps a.tap.rail a.tap a.listed refl in
      record {
        top = h.tap.y +ℤ f.write_y;
        end = h.tap.end;
        tap = (lists.taps x (h.tap.y +ℤ f.write_y) h.tap.end).0 (record { tap = h.tap; listed = h.listed; at_x = ap (slice_get xs) h.of ∙ a.at_x; at_y = omega (arith, ints); ends = refl });
        highest = λ other other_end tap.
            let b = (lists.taps x other other_end).1 tap in
            let le = h.most b.tap b.listed (lists.differ b.tap.rail a.tap.rail x b.at_x a.at_x) in
            let at = b.at_y in
            omega (arith, ints, le, at);
      }

-- A sense cell's pin that has a tap is as high as a wire is wide.
pub sense_taps : (kit : Kit) (plan : Organization) (fl : Floorplan) (wire : Wire) → (is : IsKit kit) → (i port : ℕ) (net : Net) (rect : Rect) (x : ℤ) → IsRailOf plan wire fl 0 net x → IsPin plan (layout_kit kit) fl (SenseAt 0 i) port 2 net rect → rect.y2 ≡ rect.y1 +ℤ is.wire.width
sense_taps kit plan fl wire is i port net rect x rail pin =
    let three = sense_port plan i port net pin.on (on_rail plan rail.rail net rail.on) in
    let at = upright (bank_x fl 0 (column_x plan (layout_kit kit) fl (i * words_per_row plan))) fl.sense_y in
    let u = up_at at.at.x fl.sense_y ((layout_kit kit).pin Sense 3 2) rect (subst (λ (k : ℕ). IsImage (placed at) ((layout_kit kit).pin Sense k 2) rect) three (subst (λ (q : Place). IsImage (placed q) ((layout_kit kit).pin Sense port 2) rect) pin.stands pin.image)) in
    high rect.y1 rect.y2 ((layout_kit kit).pin Sense 3 2).y1 ((layout_kit kit).pin Sense 3 2).y2 fl.sense_y is.wire.width u.low u.high (sense_enable_high kit is)
  where
    high : (a b c d s w : ℤ) → a ≡ c +ℤ s → b ≡ d +ℤ s → d ≡ c +ℤ w → b ≡ a +ℤ w
    high a b c d s w e g h = omega (arith, ints, e, g, h)
