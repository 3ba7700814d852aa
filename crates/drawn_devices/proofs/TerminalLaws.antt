-- When a channel is sound, and the numbers of its terminals.
use Rattle.std.proofs.Common.{◌≡◌, ◌↔◌, ℕ, ℤ, pos, ◌-ℤ◌, ◌≤ℤ◌, List, Option, None, Some, refl, sym, ap, subst, ◌∙◌, arith}
use Rattle.std.specs.Prelude.{Contains, slice_get, MatchOption}
use Rattle.std.proofs.lemmas.Int.{ints}
use Rattle.std.proofs.lemmas.Option.{same_Some}
use Rattle.or_geom.specs.declared.shape.Point.{Point}
use Rattle.or_geom.specs.declared.shape.Rect.{Rect}
use Rattle.or_geom.specs.declared.shape.Shape.{Shape}
use Rattle.or_geom.specs.Distance.{IsNear, IsReachable}
use Rattle.or_geom.specs.Reachable.{AreReachable}
use Rattle.or_geom.proofs.ListLaws.{contained_at}
use Rattle.or_geom.proofs.PlaceLaws.{same_rect}
use Rattle.or_geom.proofs.ShapeOrderLaws.{reachable_at}
use Rattle.box_pieces.specs.Cells.{HasSameCells, IsNoRectangle}
use Rattle.shape_bins.proofs.CoverLaws.{shape_over}
use Rattle.tech_rules.specs.declared.tech.Device.{Device}
use Rattle.tech_rules.specs.declared.tech.Tech.{Tech}
use Rattle.tech_rules.proofs.LinkedLaws.{linked_itself, linked_map}
use Rattle.label_binding.proofs.PlaceLaws.{at_contained}
use Rattle.drawn_devices.specs.declared.cut_cell.CutCell.{CutCell}
use Rattle.drawn_devices.specs.declared.drawn.Flow.{Flow}
use Rattle.drawn_devices.specs.declared.drawn.Side.{Side}
use Rattle.drawn_devices.specs.declared.drawn.Terminals.{Terminals}
use Rattle.drawn_devices.specs.Cells.{LiesOn, ShareSide}
use Rattle.drawn_devices.specs.ChannelBoxes.{HaveCellsOf, low_cell}
use Rattle.drawn_devices.specs.Channels.{IsChannelCell}
use Rattle.drawn_devices.specs.CutCell.{IsCutCell}
use Rattle.drawn_devices.specs.CutShapes.{StandsIn}
use Rattle.drawn_devices.specs.Diffusion.{IsActive, IsDiffusion}
use Rattle.drawn_devices.specs.Drawn.{AreTerminals, IsNumberAlong, IsUnsound, TerminalsAre}
use Rattle.drawn_devices.specs.Ends.{IsNetAlong, AreEnds, HaveNoEnds}
use Rattle.drawn_devices.specs.Nets.{Member, Drawn, Diffused, IsMember, MembersTouch, AreOnDrawnNet}
use Rattle.drawn_devices.specs.NetsOver.{IsOverAt, NoNetOver, IsNetOver, IsNetOfAll}
use Rattle.drawn_devices.specs.Numbers.{AreNumbersIn}
use Rattle.drawn_devices.specs.Sides.{IsAlong, IsStrip, IsOpen, IsPassed, first_side, second_side}
use Rattle.drawn_devices.specs.Sound.{IsBoxOf, IsGateOf, IsSoundChannel}
use Rattle.drawn_devices.proofs.CellLaws.{Has, box_linked}
use Rattle.drawn_devices.proofs.ChannelLaws.{channel_end}
use Rattle.drawn_devices.proofs.MemberLaws.{some_stand, nets_alike}
use Rattle.drawn_devices.proofs.NumberLaws.{other_at}

-- the cell at the upper right corner
abbrev high_cell : Rect → Point
high_cell r = record { x = r.x2 -ℤ pos 1; y = r.y2 -ℤ pos 1 }

low_in : (r : Rect) → Has r (low_cell r)
low_in r = record { left = omega (arith, ints); right = r.wide; low = omega (arith, ints); high = r.tall }

high_in : (r : Rect) → Has r (high_cell r)
high_in r = let wide = r.wide in let tall = r.tall in record { left = omega (arith, ints, wide); right = omega (arith, ints); low = omega (arith, ints, tall); high = omega (arith, ints) }

-- rectangles with the same cells are one
pub same_cells : (r s : Rect) → ((p : Point) → Has r p ↔ Has s p) → r ≡ s
same_cells r s same =
    let a = (same (low_cell r)).0 (low_in r) in
    let b = (same (low_cell s)).1 (low_in s) in
    let c = (same (high_cell r)).0 (high_in r) in
    let d = (same (high_cell s)).1 (high_in s) in
    same_rect r s (omega (arith, ints, a.left, b.left)) (omega (arith, ints, a.low, b.low)) (omega (arith, ints, c.right, d.right)) (omega (arith, ints, c.high, d.high))

near_from : (z : ℤ) (low high : ℤ) → IsNear low → IsNear high → low ≤ℤ z → z ≤ℤ high → IsNear z
near_from z low high a b from to = record { above = omega (arith, ints, a.above, from); below = omega (arith, ints, b.below, to) }

all_reachable : (shapes : List Shape) (s : Shape) → AreReachable shapes → Contains shapes s → IsReachable s.rect
all_reachable shapes s near h = reachable_at shapes h.0 s near h.1 (sym h.2)

-- a rectangle whose cells lie in reachable shapes of a layer is reachable
pub area_reachable : (shapes : List Shape) (layer : ℕ) (r : Rect) → AreReachable shapes → ((p : Point) → Has r p → LiesOn shapes layer p) → IsReachable r
area_reachable shapes layer r near lies =
    let low = low_cell r in
    let high = high_cell r in
    let a = shape_over layer shapes low.x low.y (lies low (low_in r)) in
    let b = shape_over layer shapes high.x high.y (lies high (high_in r)) in
    let near_a = all_reachable shapes a.shape near a.there in
    let near_b = all_reachable shapes b.shape near b.there in
    let has_a = a.holds in
    let has_b = b.holds in
    record {
      x1 = near_from r.x1 a.shape.rect.x1 a.shape.rect.x2 near_a.x1 near_a.x2 has_a.left (omega (arith, ints, has_a.right));
      y1 = near_from r.y1 a.shape.rect.y1 a.shape.rect.y2 near_a.y1 near_a.y2 has_a.low (omega (arith, ints, has_a.high));
      x2 = near_from r.x2 b.shape.rect.x1 b.shape.rect.x2 near_b.x1 near_b.x2 (omega (arith, ints, has_b.left)) (omega (arith, ints, has_b.right));
      y2 = near_from r.y2 b.shape.rect.y1 b.shape.rect.y2 near_b.y1 near_b.y2 (omega (arith, ints, has_b.low)) (omega (arith, ints, has_b.high));
    }

-- so is a channel's box
pub area_near : (shapes : List Shape) (device : Device) (least : Point) (area : Rect) → AreReachable shapes → IsChannelCell shapes device least → IsBoxOf shapes device least area → IsReachable area
area_near shapes device least area near of is = area_reachable shapes device.active area near (λ p has. (channel_end shapes device least p of ((is p).0 has)).active)

-- a rectangle that has exactly the cells of a channel's boxes is the channel's
pub box_is : (shapes : List Shape) (device : Device) (least : Point) (boxes : List Rect) (area : Rect) → HaveCellsOf shapes device least boxes → HasSameCells boxes area → IsBoxOf shapes device least area
box_is shapes device least boxes area have same p = (λ h. (have p).0 ((same p.x p.y).0 h), λ h. (same p.x p.y).1 ((have p).1 h))

-- and no other is
pub one_box : (shapes : List Shape) (device : Device) (least : Point) (a b : Rect) → IsBoxOf shapes device least a → IsBoxOf shapes device least b → a ≡ b
one_box shapes device least a b is other = same_cells a b (λ p. (λ h. (other p).1 ((is p).0 h), λ h. (is p).1 ((other p).0 h)))

module _ (cell : CutCell) (cut : IsCutCell cell) where
  abbrev own_tech : Tech
  own_tech = cell.tech.now

  abbrev own_shapes : List Shape
  own_shapes = cell.shapes.now

  -- the indices of cut own_shapes in which members of one net stand have one number
  one_net : (a b : Member) (i j m n : ℕ) (s t : Shape) → IsMember own_tech own_shapes a → IsMember own_tech own_shapes b → slice_get cell.bins i ≡ Some s → slice_get cell.bins j ≡ Some t → StandsIn a s → StandsIn b t → slice_get cell.nets i ≡ Some m → slice_get cell.nets j ≡ Some n
      → (m ≡ n) ↔ AreOnDrawnNet own_tech own_shapes a b
  one_net a b i j m n s t of_a of_b at_s at_t in_s in_t is_m is_n =
      let alike = nets_alike own_tech own_shapes cell.bins cut.connections cut.are cut.by a b s t of_a of_b (contained_at cell.bins i s at_s) (contained_at cell.bins j t at_t) in_s in_t in
      let one = cut.numbered.one i j m n s t at_s at_t is_m is_n in
      (λ same. alike.1 (one.0 same), λ net. one.1 (alike.0 net))

  -- members of one net have one number
  same_number : (number : Member → ℕ) → AreNumbersIn cell number → (a b : Member) → IsMember own_tech own_shapes a → IsMember own_tech own_shapes b → AreOnDrawnNet own_tech own_shapes a b → number a ≡ number b
  same_number number are a b of_a of_b net =
      let s = some_stand own_tech own_shapes cell.bins cut.connections cut.are cut.by a of_a in
      let t = some_stand own_tech own_shapes cell.bins cut.connections cut.are cut.by b of_b in
      let at_s = at_contained cell.bins s.0 s.1 in
      let at_t = at_contained cell.bins t.0 t.1 in
      (one_net a b s.1.0 t.1.0 (number a) (number b) s.0 t.0 of_a of_b at_s at_t s.2 t.2 (are a s.1.0 s.0 of_a at_s s.2) (are b t.1.0 t.0 of_b at_t t.2)).1 net

  -- a gate over the area, as a cut shape
  gate_at : (device : Device) (area : Rect) (gate : Shape) → (IsActive own_tech.devices device.gate → ⊥) → IsGateOf own_shapes device area gate → (i : ℕ) × IsOverAt cell.bins device.gate area i gate × IsMember own_tech own_shapes (Drawn gate)
  gate_at device area gate off of =
      let away : IsActive own_tech.devices gate.layer → ⊥ = λ active. off (subst (IsActive own_tech.devices) of.on active) in
      let listed = (cut.are.drawn gate away).1 of.listed in
      (listed.0, record { there = at_contained cell.bins gate listed; on = of.on; over = of.over }, (of.listed, away))

  gate_of : (device : Device) (area : Rect) (i : ℕ) (s : Shape) → (IsActive own_tech.devices device.gate → ⊥) → IsOverAt cell.bins device.gate area i s → IsGateOf own_shapes device area s × IsMember own_tech own_shapes (Drawn s)
  gate_of device area i s off over =
      let away : IsActive own_tech.devices s.layer → ⊥ = λ active. off (subst (IsActive own_tech.devices) over.on active) in
      let listed = (cut.are.drawn s away).0 (contained_at cell.bins i s over.there) in
      (record { listed = listed; on = over.on; over = over.over }, (listed, away))

  -- all gates have one number, so they are on one net
  one_gate : (device : Device) (area : Rect) (net : ℕ) → (IsActive own_tech.devices device.gate → ⊥) → IsNetOfAll cell.bins cell.nets device.gate area net → (a b : Shape) → IsGateOf own_shapes device area a → IsGateOf own_shapes device area b
      → AreOnDrawnNet own_tech own_shapes (Drawn a) (Drawn b)
  one_gate device area net off all a b of_a of_b =
      let at_a = gate_at device area a off of_a in
      let at_b = gate_at device area b off of_b in
      (one_net (Drawn a) (Drawn b) at_a.0 at_b.0 net net a b at_a.2 at_b.2 at_a.1.there at_b.1.there refl refl (all at_a.0 a at_a.1) (all at_b.0 b at_b.1)).0 refl

  gate_number : (number : Member → ℕ) → AreNumbersIn cell number → (device : Device) (area : Rect) (net : ℕ) → (IsActive own_tech.devices device.gate → ⊥) → IsNetOfAll cell.bins cell.nets device.gate area net → (gate : Shape) → IsGateOf own_shapes device area gate
      → net ≡ number (Drawn gate)
  gate_number number are device area net off all gate of =
      let at = gate_at device area gate off of in
      same_Some net (number (Drawn gate)) (sym (all at.0 gate at.1) ∙ are (Drawn gate) at.0 gate at.2 at.1.there refl)

  -- where gates are on one net, all have the number of one
  pub torn_gates : (device : Device) (least : Point) (area : Rect) → (IsActive own_tech.devices device.gate → ⊥) → IsChannelCell own_shapes device least → IsBoxOf own_shapes device least area
      → ((a b : Shape) → IsGateOf own_shapes device area a → IsGateOf own_shapes device area b → AreOnDrawnNet own_tech own_shapes (Drawn a) (Drawn b))
      → ((net : ℕ) → IsNetOver cell.bins cell.nets device.gate area net → IsNetOfAll cell.bins cell.nets device.gate area net → ⊥) → ⊥
  torn_gates device least area off of is one torn =
      let inside : Has area least = (is least).1 (linked_itself (IsChannelCell own_shapes device) ShareSide least) in
      let g = shape_over device.gate own_shapes least.x least.y of.gate in
      let first : IsGateOf own_shapes device area g.shape = record { listed = g.there; on = g.on; over = record { x = least.x; y = least.y; in_a = g.holds; in_b = inside } } in
      let at = gate_at device area g.shape off first in
      let net = other_at cell.bins cell.nets at.0 g.shape cut.numbered.sized at.1.there in
      torn net.0 (record { index = at.0; shape = g.shape; over = at.1; has = net.1 })
      (λ j t over.
      let second = gate_of device area j t off over in
      let other = other_at cell.bins cell.nets j t cut.numbered.sized over.there in
      let same : net.0 ≡ other.0 = (one_net (Drawn g.shape) (Drawn t) at.0 j net.0 other.0 g.shape t at.2 second.1 at.1.there over.there refl refl net.1 other.1).1 (one g.shape t first second.0) in
      other.1 ∙ ap (λ (n : ℕ). Some n) (sym same))

  -- along an open side all diffusion has the number of a shape there
  along_number : (number : Member → ℕ) → AreNumbersIn cell number → (layer : ℕ) (area : Rect) (side : Side) (net : ℕ) → IsOpen own_tech own_shapes layer area side → IsNetAlong cell layer area side net → IsNumberAlong number layer area side net
  along_number number are layer area side net passable along p on =
      let over = along.over.over in
      let q : Point = record { x = over.over.x; y = over.over.y } in
      let along_q : IsAlong side area q = (along.is q).0 over.over.in_b in
      let of_q : IsMember own_tech own_shapes (Diffused layer q) = passable q along_q in
      let of_p : IsMember own_tech own_shapes (Diffused layer p) = passable p on in
      let here : net ≡ number (Diffused layer q) = same_Some net (number (Diffused layer q)) (sym along.over.has ∙ are (Diffused layer q) along.over.index along.over.shape of_q over.there (sym over.on, over.over.in_a)) in
      let inside = box_linked (IsDiffusion own_tech.devices own_shapes layer) along.strip (λ z has. passable z ((along.is z).0 has)) q p over.over.in_b ((along.is p).1 on) in
      let linked : AreOnDrawnNet own_tech own_shapes (Diffused layer q) (Diffused layer p) =
      linked_map (IsDiffusion own_tech.devices own_shapes layer) ShareSide (IsMember own_tech own_shapes) (MembersTouch own_tech) (Diffused layer) (λ z h. h) (λ y z side_of. (refl, side_of)) q p inside in
      here ∙ same_number number are (Diffused layer q) (Diffused layer p) of_q of_p linked

  -- diffusion lies along an open side
  pub open_over : (layer : ℕ) (area strip : Rect) (side : Side) → IsActive own_tech.devices layer → IsStrip side area strip → IsOpen own_tech own_shapes layer area side → NoNetOver cell.bins layer strip → ⊥
  open_over layer area strip side active is passable none =
      let p = low_cell strip in
      let inside = low_in strip in
      let over = shape_over layer cell.bins p.x p.y ((cut.are.diffused layer p active).1 (passable p ((is p).0 inside))) in
      none over.there.0 over.shape (record { there = at_contained cell.bins over.shape over.there; on = over.on; over = record { x = p.x; y = p.y; in_a = over.holds; in_b = inside } })

  pub terminals_are : (number : Member → ℕ) → AreNumbersIn cell number → (device : Device) (least : Point) (area : Rect) (flow : Flow) (net : ℕ) (terminals : Terminals) → (IsActive own_tech.devices device.gate → ⊥) → IsBoxOf own_shapes device least area
      → IsPassed own_tech own_shapes device.active area flow → IsNetOfAll cell.bins cell.nets device.gate area net → AreEnds cell device.active area flow net terminals → AreTerminals own_tech own_shapes number device least terminals
  terminals_are number are device least area flow net terminals off is passed all ends = record {
    box = area;
    flow = flow;
    sound = record { is = is; passed = passed; drawn = off; one = one_gate device area net off all };
    gate = λ gate of. ends.gate_is ∙ gate_number number are device area net off all gate of;
    first = along_number number are device.active area (first_side flow) terminals.first passed.first_open ends.first;
    second = along_number number are device.active area (second_side flow) terminals.second passed.second_open ends.second;
  }

-- with a box, a flow and a gate, what was found at the ends decides
pub ends_are : (cell : CutCell) (cut : IsCutCell cell) (number : Member → ℕ) → AreNumbersIn cell number → (device : Device) (least : Point) (area : Rect) (flow : Flow) (net : ℕ) (found : Option Terminals) → (IsActive cell.tech.now.devices device.gate → ⊥)
    → IsBoxOf cell.shapes.now device least area → IsPassed cell.tech.now cell.shapes.now device.active area flow → IsNetOfAll cell.bins cell.nets device.gate area net
    → MatchOption found (HaveNoEnds cell device.active area flow) (AreEnds cell device.active area flow net) → TerminalsAre cell.tech.now cell.shapes.now number device least found
ends_are cell cut number are device least area flow net None off is passed all none = absurd (none passed.first_open passed.second_open)
ends_are cell cut number are device least area flow net (Some terminals) off is passed all ends = terminals_are cell cut number are device least area flow net terminals off is passed all ends

-- a channel without a box isn't sound
pub no_box : (tech : Tech) (shapes : List Shape) (device : Device) (least : Point) (boxes : List Rect) → HaveCellsOf shapes device least boxes → IsNoRectangle boxes → IsUnsound tech shapes device least
no_box tech shapes device least boxes have none box flow sound =
    none box (λ x y. let p : Point = record { x = x; y = y } in (λ h. (have p).1 ((sound.is p).0 h), λ h. (sound.is p).1 ((have p).0 h)))

-- a channel with a box is sound with that box alone
pub sound_at : (tech : Tech) (shapes : List Shape) (device : Device) (least : Point) (area : Rect) → IsBoxOf shapes device least area → ((flow : Flow) → IsSoundChannel tech shapes device least area flow → ⊥) → IsUnsound tech shapes device least
sound_at tech shapes device least area is none box flow sound = none flow (subst (λ (r : Rect). IsSoundChannel tech shapes device least r flow) (one_box shapes device least box area sound.is is) sound)
