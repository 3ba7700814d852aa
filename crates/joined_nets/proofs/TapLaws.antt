-- A tap is on one net with its rail, by the cut where they cross, and with each pin's shape that lies along it.
use Rattle.std.proofs.Common.{inl, inr, ℤ, ◌<ℤ◌, ◌≤ℤ◌, ◌+ℤ◌, pos, List, Contains, arith}
use Rattle.std.specs.Prelude.{slice_index}
use Rattle.std.proofs.lemmas.Int.{ints}
use Rattle.or_geom.specs.declared.shape.Shape.{Shape}
use Rattle.tech_rules.specs.declared.tech.Connect.{Connect}
use Rattle.tech_rules.specs.declared.tech.Wire.{Wire}
use Rattle.wire_drawing.specs.Drawing.{IsBox, IsVia}
use Rattle.tech_rules.specs.Facts.{AreSizes}
use Rattle.tech_rules.specs.Net.{AreOnOneNet}
use Rattle.tech_rules.specs.WireRules.{margin}
use Rattle.wire_drawing.proofs.DrawingLaws.{twice_margin}
use Rattle.good_nets.proofs.NetLaws.{net_of_itself, net_further}
use Rattle.joined_nets.specs.Joints.{JoinsWires}
use Rattle.joined_nets.proofs.SupplyLaws.{cell_in, cut_touches}

-- The tap at (x, y) and the rail at x, which begins below y and ends above it.
pub tap_on_rail : (connections : List Connect) (wire : Wire) (shapes : List Shape) (x y end low high : ℤ) (tap via rail : Shape) → JoinsWires connections wire → AreSizes wire
    → IsBox (slice_index wire.metals 2) x y end (y +ℤ wire.width) tap → IsVia wire 2 x y via → IsBox (slice_index wire.metals 3) x low (x +ℤ wire.width) (high +ℤ wire.width) rail
    → (x +ℤ wire.width) ≤ℤ end → low ≤ℤ y → y ≤ℤ high → Contains shapes via → Contains shapes rail → AreOnOneNet connections shapes tap rail
tap_on_rail connections wire shapes x y end low high tap via rail joins sizes is_tap is_via is_rail right above below has_via has_rail =
    let m = margin wire in
    let twice = twice_margin wire sizes in
    let narrow = sizes.centred.narrow in
    let cut = sizes.cut.from in
    let low_m : pos 0 ≤ℤ m = omega (arith, ints, twice, narrow, cut) in
    let m_high : m <ℤ wire.width = omega (arith, ints, twice, narrow, cut) in
    let in_via = cell_in _ _ _ _ _ (x +ℤ m) (y +ℤ m) via is_via (omega (arith, ints)) (omega (arith, ints, cut)) (omega (arith, ints)) (omega (arith, ints, cut)) in
    let in_tap = cell_in _ _ _ _ _ (x +ℤ m) (y +ℤ m) tap is_tap (omega (arith, ints, low_m)) (omega (arith, ints, m_high, right)) (omega (arith, ints, low_m)) (omega (arith, ints, m_high)) in
    let in_rail = cell_in _ _ _ _ _ (x +ℤ m) (y +ℤ m) rail is_rail (omega (arith, ints, low_m)) (omega (arith, ints, m_high)) (omega (arith, ints, above, low_m)) (omega (arith, ints, below, m_high)) in
    net_further connections shapes tap via rail
    (net_further connections shapes tap tap via (net_of_itself connections shapes tap) has_via (inr (inr (cut_touches connections (slice_index wire.cuts 2) (slice_index wire.metals 2) via tap (x +ℤ m) (y +ℤ m) (joins.below 2 (omega arith)) is_via.on is_tap.on in_via in_tap))))
    has_rail
    (inr (inl (cut_touches connections (slice_index wire.cuts 2) (slice_index wire.metals 3) via rail (x +ℤ m) (y +ℤ m) (joins.above 2 (omega arith)) is_via.on is_rail.on in_via in_rail)))
