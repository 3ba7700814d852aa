-- The wires of a bank fit 32 bits.
use Rattle.std.proofs.Common.{inl, inr, ℕ, ◌*◌, ◌<◌, ◌≤◌, ℤ, pos, ◌+ℤ◌, ◌-ℤ◌, ◌≤ℤ◌, List, length, w32, FitsSigned, get_or, refl, sym, subst, ◌∙◌, arith}
use Rattle.std.specs.Prelude.{Contains, slice_index}
use Rattle.std.proofs.lemmas.Int.{ints}
use Rattle.std.proofs.lemmas.Nat.{mul-le}
use Rattle.or_geom.specs.declared.shape.Shape.{Shape}
use Rattle.or_geom.specs.Distance.{IsNear}
use Rattle.or_geom.proofs.GatheringLaws.{giver}
use Rattle.wire_drawing.specs.declared.route.Tap.{Tap}
use Rattle.tech_rules.specs.declared.tech.Wire.{Wire}
use Rattle.wire_drawing.specs.Drawing.{IsBox, IsVia}
use Rattle.tech_rules.specs.WireRules.{margin}
use Rattle.tech_rules.specs.Facts.{AreSizes, IsWire}
use Rattle.tech_rules.specs.declared.tech.Layer.{Layer}
use Rattle.wire_drawing.proofs.DrawingLaws.{twice_margin}
use Rattle.tech_rules.proofs.WireLaws.{margin_positive}
use Rattle.rail_bus.specs.Rails.{IsNearTap, AreNearTaps, AreOfRails, EndBeyondRails, AreTapped, AreRails, IsOfTap, IsRail}
use Rattle.sram_netlist.specs.InstanceList.{tabulate}
use Rattle.leaf_shapes.specs.Outline.{IsWireLayer}
use Rattle.macro_layout.specs.Floorplan.{rail_x}
use Rattle.macro_layout.specs.Stated.{IsShifted}
use Rattle.floorplan.specs.FloorplanNumbers.{IsUpTo}
use Rattle.floorplan.specs.Lowered.{IsLowered}
use Rattle.leaf_tables.proofs.RoleLaws.{layer_at}
use Rattle.bank_layout.specs.Near.{IsWireWithin, IsDrawableWire}
use Rattle.bank_layout.specs.Outputs.{output_x, IsOutputBelow}
use Rattle.bank_layout.proofs.ListLaws.{IsTabulated, in_tabulate, at_tabulated, tabulated_long, all_items}
use Rattle.bank_layout.proofs.GoodLaws.{IsGoodTap, rail_near}
use Rattle.bank_layout.proofs.SiteLaws.{IsListed}

-- a coordinate that fits
record Fits32 (z : ℤ) : Type 0 where
  above : pos 0 ≤ℤ (z +ℤ pos 2147483647)
  below : z ≤ℤ pos 2147483647

fits : (z : ℤ) → Fits32 z → FitsSigned w32 z
fits z f = let a = f.above in let b = f.below in omega (arith, ints, a, b)

box_drawable : (wire : Wire) (layer : ℕ) (x1 y1 x2 y2 : ℤ) (s : Shape) → IsWireLayer wire layer → IsBox layer x1 y1 x2 y2 s → Fits32 x1 → Fits32 y1 → Fits32 x2 → Fits32 y2 → IsDrawableWire wire s
box_drawable wire layer x1 y1 x2 y2 s on is a b c d = record {
  layer = subst (IsWireLayer wire) (sym is.on) on;
  writable = record {
    low = record { x = subst (FitsSigned w32) (sym is.left) (fits x1 a); y = subst (FitsSigned w32) (sym is.low) (fits y1 b) };
    high = record { x = subst (FitsSigned w32) (sym is.right) (fits x2 c); y = subst (FitsSigned w32) (sym is.high) (fits y2 d) };
  };
}

metal : (layers : List Layer) (wire : Wire) (k : ℕ) → IsWire layers wire → k < 4 → IsWireLayer wire (slice_index wire.metals k)
metal layers wire k is lt = let four = is.four in inl (layer_at wire.metals k (omega (arith, four, lt)))

cut : (layers : List Layer) (wire : Wire) (k : ℕ) → IsWire layers wire → k < 3 → IsWireLayer wire (slice_index wire.cuts k)
cut layers wire k is lt = let three = is.three in inr (layer_at wire.cuts k (omega (arith, three, lt)))

-- Of rails and taps

-- all taps are good
abbrev pub AreGoodTaps : Wire → ℕ → List Tap → Type 0
AreGoodTaps wire rails taps = (tap : Tap) → Contains taps tap → IsGoodTap wire rails tap

pub xs_near : (wire : Wire) (n : ℕ) → AreSizes wire → n ≤ 64 → (k : ℕ) (d : ℤ) → k < length (tabulate n (rail_x wire)) → IsNear (get_or (tabulate n (rail_x wire)) k d)
xs_near wire n sizes few = all_items IsNear (tabulate n (rail_x wire)) (λ x h. one x (in_tabulate n (rail_x wire) x h)) where
  one : (x : ℤ) → IsTabulated n (rail_x wire) x → IsNear x
  one x t =
      let lt = t.below in
      let near = rail_near wire t.k sizes (omega (arith, lt, few)) in
      let low = near.0 in
      let high = near.1 in
      subst IsNear (sym t.is) (record { above = omega (arith, ints, low); below = omega (arith, ints, high) })

pub taps_near : (wire : Wire) (n : ℕ) (taps : List Tap) → AreSizes wire → AreGoodTaps wire n taps → AreNearTaps taps
taps_near wire n taps sizes good = all_items IsNearTap taps (λ tap h. one tap (good tap h)) where
  one : (tap : Tap) → IsGoodTap wire n tap → IsNearTap tap
  one tap g =
      let low = g.low in
      let high = g.high in
      let ends = g.ends in
      let x = g.right in
      record { y = record { above = omega (arith, ints, low); below = omega (arith, ints, high) }; end = record { above = omega (arith, ints, x); below = omega (arith, ints, ends) } }

pub of_rails : (wire : Wire) (n : ℕ) (taps : List Tap) → AreGoodTaps wire n taps → AreOfRails (tabulate n (rail_x wire)) taps
of_rails wire n taps good = all_items (λ (tap : Tap). tap.rail < length (tabulate n (rail_x wire))) taps (λ tap h. let lt = (good tap h).rail in let long = tabulated_long n (rail_x wire) in omega (arith, lt, long))

pub end_beyond : (wire : Wire) (n : ℕ) (taps : List Tap) → AreGoodTaps wire n taps → EndBeyondRails (tabulate n (rail_x wire)) taps wire
end_beyond wire n taps good tap x h at =
    let is = at_tabulated n (rail_x wire) tap.rail x at in
    let begins = (good tap h).begins in
    omega (arith, ints, is, begins)

pub all_tapped : (wire : Wire) (n : ℕ) (taps : List Tap) → AreGoodTaps wire n taps → ((rail : ℕ) → rail < n → IsListed taps rail) → AreTapped (pos 0) (tabulate n (rail_x wire)) taps
all_tapped wire n taps good listed rail lt =
    let long = tabulated_long n (rail_x wire) in
    let one = listed rail (omega (arith, lt, long)) in
    (one.tap.y, record { tap = one.tap; listed = one.listed; of_rail = one.of_rail; at_y = refl }, (good one.tap one.listed).low)

-- a box that begins at x and y and is a wire wide
wire_box : (layers : List Layer) (wire : Wire) (k : ℕ) (x y end top : ℤ) (s : Shape) → IsWire layers wire → k < 4 → IsBox (slice_index wire.metals k) x y end top s
    → pos 0 ≤ℤ x → x ≤ℤ pos 67108864 → pos 0 ≤ℤ y → y ≤ℤ pos 1140850688 → pos 0 ≤ℤ end → end ≤ℤ pos 67174400 → pos 0 ≤ℤ top → top ≤ℤ pos 1140850688 → IsDrawableWire wire s
wire_box layers wire k x y end top s is lt box a b c d e f g h =
    box_drawable wire (slice_index wire.metals k) x y end top s (metal layers wire k is lt) box
    (record { above = omega (arith, ints, a); below = omega (arith, ints, b) }) (record { above = omega (arith, ints, c); below = omega (arith, ints, d) })
    (record { above = omega (arith, ints, e); below = omega (arith, ints, f) }) (record { above = omega (arith, ints, g); below = omega (arith, ints, h) })

via_drawable : (layers : List Layer) (wire : Wire) (x y : ℤ) (s : Shape) → IsWire layers wire → IsVia wire 2 x y s → pos 0 ≤ℤ x → x ≤ℤ pos 67108864 → pos 0 ≤ℤ y → y ≤ℤ pos 1107296256 → IsDrawableWire wire s
via_drawable layers wire x y s is via a b c d =
    let two = twice_margin wire is.sizes in
    let some = margin_positive wire is.sizes in
    let width = is.sizes.width.to in
    let small = is.sizes.cut.from in
    let most = is.sizes.cut.to in
    box_drawable wire (slice_index wire.cuts 2) (x +ℤ margin wire) (y +ℤ margin wire) ((x +ℤ margin wire) +ℤ wire.cut) ((y +ℤ margin wire) +ℤ wire.cut) s (cut layers wire 2 is (omega arith)) via
    (record { above = omega (arith, ints, a, some); below = omega (arith, ints, b, some, two, width, small) }) (record { above = omega (arith, ints, c, some); below = omega (arith, ints, d, some, two, width, small) })
    (record { above = omega (arith, ints, a, some, small); below = omega (arith, ints, b, some, two, width, small) }) (record { above = omega (arith, ints, c, some, small); below = omega (arith, ints, d, some, two, width, small) })

pub rails_drawable : (layers : List Layer) (wire : Wire) (n : ℕ) (taps : List Tap) (shapes : List Shape) → IsWire layers wire → n ≤ 64 → AreGoodTaps wire n taps → AreRails (pos 0) (tabulate n (rail_x wire)) taps wire shapes → (s : Shape) → Contains shapes s → IsDrawableWire wire s
rails_drawable layers wire n taps shapes is few good drawn s h = elim (drawn.only s h) [
  | inl some ↦ (let g = giver (IsOfTap xs wire) taps s some in tap_wire g.0 (good g.0 g.1) g.2)
  | inr rail ↦ rail_wire rail.0 rail.1
] where
  xs : List ℤ
  xs = tabulate n (rail_x wire)

  width : ℤ
  width = wire.width

  tap_wire : (tap : Tap) → IsGoodTap wire n tap → IsOfTap xs wire tap s → IsDrawableWire wire s
  tap_wire tap g o =
      let at = at_tabulated n (rail_x wire) tap.rail o.x o.at_x in
      let lt = g.rail in
      let near = rail_near wire tap.rail is.sizes (omega (arith, lt, few)) in
      let low = near.0 in
      let high = near.1 in
      let a = g.low in
      let b = g.high in
      let c = g.right in
      let d = g.ends in
      let from = is.sizes.width.from in
      let to = is.sizes.width.to in
      elim o.kind [
        | inl box ↦ wire_box layers wire 2 o.x tap.y tap.end (tap.y +ℤ wire.width) s is (omega arith) box (omega (arith, ints, low, at)) (omega (arith, ints, high, at)) a (omega (arith, ints, b)) c (omega (arith, ints, d)) (omega (arith, ints, a, from)) (omega (arith, ints, b, to))
        | inr via ↦ via_drawable layers wire o.x tap.y s is via (omega (arith, ints, low, at)) (omega (arith, ints, high, at)) a b
      ]

  rail_wire : (rail : ℕ) → IsRail (pos 0) xs taps wire rail s → IsDrawableWire wire s
  rail_wire rail r =
      let top = r.highest.tap in
      let g = good top.tap top.listed in
      let of_rail = top.of_rail in
      let at_y = top.at_y in
      let at = at_tabulated n (rail_x wire) rail r.x r.at_x in
      let lt = g.rail in
      let near = rail_near wire rail is.sizes (omega (arith, lt, few, of_rail)) in
      let low = near.0 in
      let high = near.1 in
      let a = g.low in
      let b = g.high in
      let from = is.sizes.width.from in
      let to = is.sizes.width.to in
      wire_box layers wire 3 r.x (pos 0) (r.x +ℤ wire.width) (r.y +ℤ wire.width) s is (omega arith) r.drawn (omega (arith, ints, low, at)) (omega (arith, ints, high, at)) (omega (arith, ints)) (omega (arith, ints))
      (omega (arith, ints, low, at, from)) (omega (arith, ints, high, at, to)) (omega (arith, ints, a, at_y, from)) (omega (arith, ints, b, at_y, to))

-- Of other wires

pub moved_drawable : (wire : Wire) (by : ℤ) (from s : Shape) → IsUpTo 16777216 by → IsWireWithin 1073741824 wire from → IsShifted by (pos 0) from s → IsDrawableWire wire s
moved_drawable wire by from s up within moved =
    let a = up.above in
    let b = up.below in
    let low = within.corners.low in
    let high = within.corners.high in
    box_drawable wire from.layer (from.rect.x1 +ℤ by) (from.rect.y1 +ℤ pos 0) (from.rect.x2 +ℤ by) (from.rect.y2 +ℤ pos 0) s within.layer (record { on = moved.layer; left = moved.x1; low = moved.y1; right = moved.x2; high = moved.y2 })
    (record { above = omega (arith, ints, a, b, low.x_above, low.x_below); below = omega (arith, ints, a, b, low.x_above, low.x_below) }) (record { above = omega (arith, ints, low.y_above, low.y_below); below = omega (arith, ints, low.y_above, low.y_below) })
    (record { above = omega (arith, ints, a, b, high.x_above, high.x_below); below = omega (arith, ints, a, b, high.x_above, high.x_below) }) (record { above = omega (arith, ints, high.y_above, high.y_below); below = omega (arith, ints, high.y_above, high.y_below) })

pub output_drawable : (layers : List Layer) (wire : Wire) (x : ℤ) (words width : ℕ) (top : ℤ) (count : ℕ) (s : Shape) → IsWire layers wire → count * words ≤ 256 → width ≤ 65536 → pos 0 ≤ℤ x → x ≤ℤ pos 33554432 → pos 0 ≤ℤ top → top ≤ℤ pos 1073741824
    → IsOutputBelow wire x words width top count s → IsDrawableWire wire s
output_drawable layers wire x words width top count s is few narrow left near low high o =
    let lt = o.1 in
    let bits : o.0 * words ≤ count * words = mul-le o.0 words count words (omega (arith, lt)) (omega arith) in
    let far : (o.0 * words) * width ≤ 256 * 65536 = mul-le (o.0 * words) width 256 65536 (omega (arith, bits, few)) narrow in
    let from = is.sizes.width.from in
    let to = is.sizes.width.to in
    wire_box layers wire 3 (output_x x words width o.0) (pos 0) (output_x x words width o.0 +ℤ wire.width) top s is (omega arith) o.2 (omega (arith, ints, left)) (omega (arith, ints, near, far)) (omega (arith, ints)) (omega (arith, ints))
    (omega (arith, ints, left, from)) (omega (arith, ints, near, far, to)) low (omega (arith, ints, high))

-- a box on the first metal, further down
pub joiner_drawable : (layers : List Layer) (wire : Wire) (by x1 y1 x2 y2 : ℤ) (s : Shape) → IsWire layers wire → pos 0 ≤ℤ x1 → x1 ≤ℤ pos 67108864 → pos 0 ≤ℤ ((y1 -ℤ by) +ℤ pos 65536) → (y1 -ℤ by) ≤ℤ pos 1073741824 → pos 0 ≤ℤ x2 → x2 ≤ℤ pos 67108864 → pos 0 ≤ℤ (y2 -ℤ by) → (y2 -ℤ by) ≤ℤ pos 1073741824
    → IsLowered by (IsBox (slice_index wire.metals 0) x1 y1 x2 y2) s → IsDrawableWire wire s
joiner_drawable layers wire by x1 y1 x2 y2 s is a b c d e f g h lowered =
    let i = lowered.is in
    let m = lowered.shifted in
    let left = i.left in
    let low = i.low in
    let right = i.right in
    let high = i.high in
    let mx1 = m.x1 in
    let my1 = m.y1 in
    let mx2 = m.x2 in
    let my2 = m.y2 in
    box_drawable wire (slice_index wire.metals 0) x1 (y1 -ℤ by) x2 (y2 -ℤ by) s (metal layers wire 0 is (omega arith))
    (record { on = m.layer ∙ i.on; left = omega (arith, ints, mx1, left); low = omega (arith, ints, my1, low); right = omega (arith, ints, mx2, right); high = omega (arith, ints, my2, high) })
    (record { above = omega (arith, ints, a); below = omega (arith, ints, b) }) (record { above = omega (arith, ints, c); below = omega (arith, ints, d) })
    (record { above = omega (arith, ints, e); below = omega (arith, ints, f) }) (record { above = omega (arith, ints, g); below = omega (arith, ints, h) })
