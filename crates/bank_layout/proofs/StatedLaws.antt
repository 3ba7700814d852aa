-- The wires of a bank are the stated ones.
use Rattle.std.proofs.Common.{◌≡◌, inl, inr, ℕ, ◌*◌, ℤ, pos, ◌+ℤ◌, ◌-ℤ◌, ◌*ℤ◌, ◌<ℤ◌, List, refl, sym, subst, ◌∙◌, arith}
use Rattle.std.specs.Prelude.{◌↔◌, Contains, codes}
use Rattle.std.specs.Int.{int_max, int_min}
use Rattle.std.proofs.lemmas.Int.{ints, clamps}
use Rattle.std.proofs.lemmas.Option.{slice_get-get_or}
use Rattle.std.proofs.lemmas.List.Elements.{Contains-append_left, Contains-append_right}
use Rattle.or_geom.specs.declared.shape.Rect.{Rect}
use Rattle.or_geom.specs.declared.shape.Shape.{Shape}
use Rattle.or_geom.specs.Adds.{Adds}
use Rattle.or_geom.specs.Place.{placed, IsImage}
use Rattle.or_geom.proofs.GatheringLaws.{giver, gives_some}
use Rattle.cell_roles.specs.declared.role.Role.TheVariants.{Sense}
use Rattle.tech_rules.specs.declared.tech.Wire.{Wire}
use Rattle.leaf_shapes.specs.declared.demand.Metal.TheVariants.{M4}
use Rattle.channel_router.specs.declared.channel.Routed.{Routed}
use Rattle.sram_netlist.specs.Organization.{Organization, inputs_of, words_per_row}
use Rattle.sram_netlist.proofs.Bounds.{written_fits}
use Rattle.sram_netlist.specs.Nets.{Dout}
use Rattle.sram_netlist.specs.InstanceList.{tabulate}
use Rattle.sram_plan.specs.PlanNumbers.{organization}
use Rattle.sram_plan.specs.declared.numbers.Plan.{Plan}
use Rattle.memory_laws.proofs.Decode.{twice_some}
use Rattle.leaf_shapes.specs.declared.pins.LeafPin.{LeafPin}
use Rattle.leaf_tables.specs.declared.kit.Kit.{Kit}
use Rattle.macro_layout.specs.LayoutKit.{LayoutKit}
use Rattle.macro_layout.specs.Places.{Floorplan, columns_x, column_x, bank_x, bit_width, upright}
use Rattle.macro_layout.specs.Floorplan.{rail_count, rail_x}
use Rattle.macro_layout.specs.RailLists.{AreRailLists}
use Rattle.macro_layout.specs.Stated.{IsShifted, IsWireOfCell}
use Rattle.macro_layout.specs.Wires.{IsOutputWire}
use Rattle.macro_layout.proofs.RailLaws.{rails_are_drawn}
use Rattle.floorplan.specs.LayoutOfKit.{layout_kit}
use Rattle.floorplan.specs.declared.sides.LeafSides.{LeafSides}
use Rattle.floorplan.specs.declared.numbers.FloorplanNumbers.{FloorplanNumbers}
use Rattle.floorplan.specs.FloorplanNumbers.{floorplan_of}
use Rattle.port_data.specs.Column.{IsColumnRouted}
use Rattle.bank_layout.specs.Outputs.{output_x, IsOutputBelow}
use Rattle.bank_layout.proofs.PinLaws.{kit_pin}
use Rattle.bank_layout.proofs.FinishLaws.{AreParts, grown_cases}
use Rattle.bank_layout.proofs.GivenLaws.{AreGiven, wire_of_kit}

-- a shape moved
abbrev shift : ℤ → ℤ → Shape → Shape
shift dx dy s = record { layer = s.layer; rect = record { x1 = s.rect.x1 +ℤ dx; y1 = s.rect.y1 +ℤ dy; x2 = s.rect.x2 +ℤ dx; y2 = s.rect.y2 +ℤ dy; wide = more s.rect.x1 s.rect.x2 dx s.rect.wide; tall = more s.rect.y1 s.rect.y2 dy s.rect.tall } } where
  more : (a b d : ℤ) → a <ℤ b → (a +ℤ d) <ℤ (b +ℤ d)
  more a b d lt = omega (arith, ints, lt)

shifted : (dx dy : ℤ) (s : Shape) → IsShifted dx dy s (shift dx dy s)
shifted dx dy s = record { layer = refl; x1 = refl; y1 = refl; x2 = refl; y2 = refl }

-- the shape of which this is one further down
raised : (w : ℤ) (s : Shape) → IsShifted (pos 0) (pos 0 -ℤ w) (shift (pos 0) w s) s
raised w s = record { layer = refl; x1 = omega (arith, ints); y1 = omega (arith, ints); x2 = omega (arith, ints); y2 = omega (arith, ints) }

grown_old : (old new : List Shape) (P : Shape → Type 0) → Adds old new P → (s : Shape) → Contains old s → Contains new s
grown_old old new P adds s h = subst (λ (l : List Shape). Contains l s) (sym adds.is) (Contains-append_left old adds.added s h)

grown_new : (old new : List Shape) (P : Shape → Type 0) → Adds old new P → (s : Shape) → P s → Contains new s
grown_new old new P adds s p = subst (λ (l : List Shape). Contains l s) (sym adds.is) (Contains-append_right old adds.added s (adds.each s p))

-- the rectangle of a pin of an upright cell
image : (x y : ℤ) → Rect → Rect
image x y r = record { x1 = r.x1 +ℤ x; y1 = r.y1 +ℤ y; x2 = r.x2 +ℤ x; y2 = r.y2 +ℤ y; wide = more r.x1 r.x2 x r.wide; tall = more r.y1 r.y2 y r.tall } where
  more : (a b d : ℤ) → a <ℤ b → (a +ℤ d) <ℤ (b +ℤ d)
  more a b d lt = omega (arith, ints, lt)

least : (a b : ℤ) → a <ℤ b → a ≡ int_min a b
least a b lt = omega (arith, ints, clamps, lt)

most : (a b : ℤ) → a <ℤ b → b ≡ int_max a b
most a b lt = omega (arith, ints, clamps, lt)

is_image : (x y : ℤ) (r : Rect) → IsImage (placed (upright x y)) r (image x y r)
unfolding image
is_image x y r = record { x1 = least _ _ (image x y r).wide; y1 = least _ _ (image x y r).tall; x2 = most _ _ (image x y r).wide; y2 = most _ _ (image x y r).tall }

-- its left end
pub image_left : (x y : ℤ) (r s : Rect) → IsImage (placed (upright x y)) r s → s.x1 ≡ r.x1 +ℤ x
image_left x y r s is = let wide = r.wide in is.x1 ∙ sym (least (r.x1 +ℤ x) (r.x2 +ℤ x) (omega (arith, ints, wide)))

-- what the outputs are drawn of

record IsOutputSite (kit : Kit) (plan : Plan) (fl : Floorplan) (wire : Wire) (pin : LeafPin) : Type 0 where
  is_pin : (layout_kit kit).pin Sense 2 3 ≡ pin.rect
  some : pos 0 <ℤ wire.width

place_x : Organization → LayoutKit → Floorplan → ℕ → ℤ
place_x plan kit fl bit = bank_x fl 0 (column_x plan kit fl (bit * words_per_row plan))

output_back : (kit : Kit) (plan : Plan) (fl : Floorplan) (wire : Wire) (pin : LeafPin) (s : Shape) → IsOutputSite kit plan fl wire pin
    → IsOutputBelow wire (columns_x (organization plan) (layout_kit kit) fl +ℤ pin.rect.x1) (words_per_row (organization plan)) (bit_width (layout_kit kit)) (fl.sense_y -ℤ fl.write_y) (inputs_of (organization plan)) s
    → IsOutputWire (organization plan) (layout_kit kit) wire fl (shift (pos 0) fl.write_y s)
unfolding image place_x
output_back kit plan fl wire pin s site o =
    let org = organization plan in
    let lk = layout_kit kit in
    let x = place_x org lk fl o.0 in
    let left = o.2.left in
    let low = o.2.low in
    let right = o.2.right in
    let high = o.2.high in
    let none : pos 0 *ℤ fl.bank_width ≡ pos 0 = omega (arith, ints) in
    let at : output_x (columns_x org lk fl +ℤ pin.rect.x1) (words_per_row org) (bit_width lk) o.0 ≡ pin.rect.x1 +ℤ x = omega (arith, ints, none) in
    record {
      bit = o.0;
      below = o.1;
      net = Dout o.0;
      rect = image x fl.sense_y pin.rect;
      pin = record {
        has = (twice_some org.bank_bits, written_fits plan.write_size plan.word_size o.0 o.1);
        on = refl;
        place = upright x fl.sense_y;
        stands = refl;
        image = subst (λ (r : Rect). IsImage (placed (upright x fl.sense_y)) r (image x fl.sense_y pin.rect)) (sym site.is_pin) (is_image x fl.sense_y pin.rect);
      };
      drawn = record { on = o.2.on; left = omega (arith, ints, left, at); low = omega (arith, ints, low); right = omega (arith, ints, right, at); high = omega (arith, ints, high) };
    }

output_there : (kit : Kit) (plan : Plan) (fl : Floorplan) (wire : Wire) (pin : LeafPin) (inner s : Shape) → IsOutputSite kit plan fl wire pin → IsShifted (pos 0) (pos 0 -ℤ fl.write_y) inner s → IsOutputWire (organization plan) (layout_kit kit) wire fl inner
    → IsOutputBelow wire (columns_x (organization plan) (layout_kit kit) fl +ℤ pin.rect.x1) (words_per_row (organization plan)) (bit_width (layout_kit kit)) (fl.sense_y -ℤ fl.write_y) (inputs_of (organization plan)) s
unfolding place_x
output_there kit plan fl wire pin inner s site m o =
    let org = organization plan in
    let lk = layout_kit kit in
    let x = place_x org lk fl o.bit in
    let imaged : IsImage (placed (upright x fl.sense_y)) pin.rect o.rect =
    subst (λ (p : _). IsImage (placed p) pin.rect o.rect) o.pin.stands (subst (λ (r : Rect). IsImage (placed o.pin.place) r o.rect) site.is_pin o.pin.image) in
    let from = image_left x fl.sense_y pin.rect o.rect imaged in
    let none : pos 0 *ℤ fl.bank_width ≡ pos 0 = omega (arith, ints) in
    let left = o.drawn.left in
    let low = o.drawn.low in
    let right = o.drawn.right in
    let high = o.drawn.high in
    let mx1 = m.x1 in
    let my1 = m.y1 in
    let mx2 = m.x2 in
    let my2 = m.y2 in
    (o.bit, o.below, record { on = m.layer ∙ o.drawn.on; left = omega (arith, ints, from, none, left, mx1); low = omega (arith, ints, low, my1); right = omega (arith, ints, from, none, right, mx2); high = omega (arith, ints, high, my2) })

-- what the column channel's shapes are moved from
channel_back : (cx w by : ℤ) (from s : Shape) → by ≡ cx → IsShifted by (pos 0) from s → IsShifted (pos 0 -ℤ cx) (pos 0 -ℤ w) (shift (pos 0) w s) from
channel_back cx w by from s is m =
    let x1 = m.x1 in
    let y1 = m.y1 in
    let x2 = m.x2 in
    let y2 = m.y2 in
    record { layer = sym m.layer; x1 = omega (arith, ints, x1, is); y1 = omega (arith, ints, y1); x2 = omega (arith, ints, x2, is); y2 = omega (arith, ints, y2) }

channel_there : (cx w by : ℤ) (inner s : Shape) → by ≡ cx → IsShifted (pos 0) (pos 0 -ℤ w) inner s → IsShifted by (pos 0) (shift (pos 0 -ℤ cx) (pos 0 -ℤ w) inner) s
channel_there cx w by inner s is m =
    let x1 = m.x1 in
    let y1 = m.y1 in
    let x2 = m.x2 in
    let y2 = m.y2 in
    record { layer = m.layer; x1 = omega (arith, ints, x1, is); y1 = omega (arith, ints, y1); x2 = omega (arith, ints, x2, is); y2 = omega (arith, ints, y2) }

-- where the rails and taps are the stated ones, all wires are
pub all_stated : (kit : Kit) (plan : Plan) (sides : LeafSides) (n : FloorplanNumbers) (wire : Wire) (routed : Routed) → AreGiven kit plan sides n wire routed → (by : ℤ) (channel rails moved outputs all : List Shape) → (parts : AreParts kit plan n wire routed by channel rails moved outputs all)
    → by ≡ columns_x (organization plan) (layout_kit kit) (floorplan_of n) → IsColumnRouted (organization plan) (layout_kit kit) wire (floorplan_of n) routed
    → AreRailLists (organization plan) (layout_kit kit) wire routed.tracks (floorplan_of n) (tabulate (rail_count (organization plan)) (rail_x wire)) parts.drawn.taps
    → (main : ℕ) (s : Shape) → Contains all s ↔ IsWireOfCell (organization plan) (layout_kit kit) wire (record { main = main; column = routed.tracks }) (floorplan_of n) s
all_stated kit plan sides n wire routed g by channel rails moved outputs all parts at column lists main s = (there, back) where
  org : Organization
  org = organization plan

  lk : LayoutKit
  lk = layout_kit kit

  fl : Floorplan
  fl = floorplan_of n

  site : IsOutputSite kit plan fl wire parts.outputs_are.pin
  site =
      let is = wire_of_kit kit wire g.is g.wired in
      let four = is.four in
      let from = is.sizes.width.from in
      record {
        is_pin = kit_pin kit wire Sense 2 3 2 (codes "dout") M4 parts.outputs_are.pin g.is g.wired refl (slice_get-get_or wire.metals 3 0 (omega (arith, four))) (refl, (refl, (refl, refl))) parts.outputs_are.is;
        some = omega (arith, ints, from);
      }

  there : Contains all s → IsWireOfCell org lk wire (record { main = main; column = routed.tracks }) fl s
  there h = elim (grown_cases outputs all _ parts.joiners s h) [
    | inr joiner ↦ record { inner = joiner.inner; is = inr (inr (inr (inr joiner.is))); shifted = joiner.shifted }
    | inl before ↦ elim (grown_cases moved outputs _ parts.outputs_are.adds s before) [
      | inr output ↦ record { inner = shift (pos 0) fl.write_y s; is = inr (inr (inr (inl (output_back kit plan fl wire parts.outputs_are.pin s site output)))); shifted = raised fl.write_y s }
      | inl earlier ↦ elim (grown_cases rails moved _ parts.moved_are s earlier) [
        | inr some ↦
            (let from = giver (λ (a b : Shape). IsShifted by (pos 0) a b) channel s some in
            record {
              inner = shift (pos 0) fl.write_y s;
              is = inl ((column.wires (shift (pos 0) fl.write_y s) from.0 (channel_back (columns_x org lk fl) fl.write_y by from.0 s at from.2)).1 (subst (λ (l : List Shape). Contains l from.0) parts.channel_is from.1));
              shifted = raised fl.write_y s;
            })
        | inl rail ↦ record {
          inner = shift (pos 0) fl.write_y s;
          is = elim ((rails_are_drawn org lk wire routed.tracks fl (tabulate (rail_count org) (rail_x wire)) parts.drawn.taps rails lists parts.drawn.drawn (shift (pos 0) fl.write_y s) s (raised fl.write_y s)).1 rail) [ inl t ↦ inr (inl t) | inr r ↦ inr (inr (inl r)) ];
          shifted = raised fl.write_y s;
        }
      ]
    ]
  ]

  of_rails : Contains rails s → Contains all s
  of_rails h = grown_old outputs all _ parts.joiners s (grown_old moved outputs _ parts.outputs_are.adds s (grown_old rails moved _ parts.moved_are s h))

  back : IsWireOfCell org lk wire (record { main = main; column = routed.tracks }) fl s → Contains all s
  back w = elim w.is [
    | inl ch ↦
        (let from = shift (pos 0 -ℤ columns_x org lk fl) (pos 0 -ℤ fl.write_y) w.inner in
        let listed = (column.wires w.inner from (shifted (pos 0 -ℤ columns_x org lk fl) (pos 0 -ℤ fl.write_y) w.inner)).0 ch in
        grown_old outputs all _ parts.joiners s (grown_old moved outputs _ parts.outputs_are.adds s (grown_new rails moved _ parts.moved_are s
        (gives_some (λ (a b : Shape). IsShifted by (pos 0) a b) channel s from (subst (λ (l : List Shape). Contains l from) (sym parts.channel_is) listed) (channel_there (columns_x org lk fl) fl.write_y by w.inner s at w.shifted)))))
    | inr rest ↦ elim rest [
      | inl t ↦ of_rails ((rails_are_drawn org lk wire routed.tracks fl (tabulate (rail_count org) (rail_x wire)) parts.drawn.taps rails lists parts.drawn.drawn w.inner s w.shifted).0 (inl t))
      | inr more ↦ elim more [
        | inl r ↦ of_rails ((rails_are_drawn org lk wire routed.tracks fl (tabulate (rail_count org) (rail_x wire)) parts.drawn.taps rails lists parts.drawn.drawn w.inner s w.shifted).0 (inr r))
        | inr others ↦ elim others [
          | inl o ↦ grown_old outputs all _ parts.joiners s (grown_new moved outputs _ parts.outputs_are.adds s (output_there kit plan fl wire parts.outputs_are.pin w.inner s site w.shifted o))
          | inr joiner ↦ grown_new outputs all _ parts.joiners s (record { inner = w.inner; is = joiner; shifted = w.shifted })
        ]
      ]
    ]
  ]
