-- The terminals of a channel, by two numberings of a cell's nets.
use Rattle.std.proofs.Common.{◌≡◌, ◌≢◌, ◌↔◌, ◌⊎◌, ℕ, ℤ, pos, ◌+ℤ◌, ◌-ℤ◌, ◌≤ℤ◌, ◌<ℤ◌, List, refl, sym, subst, ◌∙◌, arith}
use Rattle.std.proofs.lemmas.Int.{ints}
use Rattle.or_geom.specs.declared.shape.Point.{Point}
use Rattle.or_geom.specs.declared.shape.Rect.{Rect}
use Rattle.or_geom.specs.declared.shape.Shape.{Shape}
use Rattle.or_geom.specs.Covered.{HasCell}
use Rattle.element_drawing.specs.PlainLabel.{PlainLabel}
use Rattle.tech_rules.specs.declared.tech.Device.{Device}
use Rattle.tech_rules.specs.declared.tech.Tech.{Tech}
use Rattle.tech_rules.proofs.LinkedLaws.{linked_itself}
use Rattle.shape_bins.proofs.CoverLaws.{shape_over}
use Rattle.drawn_devices.specs.declared.drawn.DrawnDevices.{DrawnDevices}
use Rattle.drawn_devices.specs.declared.drawn.Flow.{Flow}
use Rattle.drawn_devices.specs.declared.drawn.Flow.TheVariants.{Across, Upward}
use Rattle.drawn_devices.specs.declared.drawn.Side.{Side}
use Rattle.drawn_devices.specs.declared.drawn.Side.TheVariants.{Left, Right, Below, Above}
use Rattle.drawn_devices.specs.declared.drawn.Terminals.{Terminals}
use Rattle.drawn_devices.specs.Cells.{ShareSide}
use Rattle.drawn_devices.specs.Channels.{IsChannelCell}
use Rattle.drawn_devices.specs.Diffusion.{IsActive}
use Rattle.drawn_devices.specs.Drawn.{AreTerminals, AreDrawnDevices}
use Rattle.drawn_devices.specs.Names.{IsNamed}
use Rattle.drawn_devices.specs.Nets.{Member, Drawn, Diffused, IsMember}
use Rattle.drawn_devices.specs.Sides.{IsAlong, first_side, second_side}
use Rattle.drawn_devices.specs.Sound.{IsGateOf, IsSoundChannel}
use Rattle.device_lvs.specs.NetNames.{HasName, IsOnTwoNets, ShareNet}

-- the corners of the first box lie within those of the second
record LiesWithin (a b : Rect) : Type 0 where
  x1 : b.x1 ≤ℤ a.x1
  x2 : a.x2 ≤ℤ b.x2
  y1 : b.y1 ≤ℤ a.y1
  y2 : a.y2 ≤ℤ b.y2

within : (a b : Rect) (p : Point) → HasCell a p.x p.y → ((q : Point) → HasCell a q.x q.y → HasCell b q.x q.y) → LiesWithin a b
within a b p in_a sub =
    let left = in_a.left in
    let right = in_a.right in
    let low = in_a.low in
    let high = in_a.high in
    let west = sub (record { x = a.x1; y = p.y }) (record { left = omega (arith, ints); right = omega (arith, ints, left, right); low = low; high = high }) in
    let east = sub (record { x = a.x2 -ℤ pos 1; y = p.y }) (record { left = omega (arith, ints, left, right); right = omega (arith, ints); low = low; high = high }) in
    let south = sub (record { x = p.x; y = a.y1 }) (record { left = left; right = right; low = omega (arith, ints); high = omega (arith, ints, low, high) }) in
    let north = sub (record { x = p.x; y = a.y2 -ℤ pos 1 }) (record { left = left; right = right; low = omega (arith, ints, low, high); high = omega (arith, ints) }) in
    let e = east.right in
    let n = north.high in
    record { x1 = west.left; x2 = omega (arith, ints, e); y1 = south.low; y2 = omega (arith, ints, n) }

-- the two boxes have the same corners
record AreOneBox (a b : Rect) : Type 0 where
  x1 : a.x1 ≡ b.x1
  x2 : a.x2 ≡ b.x2
  y1 : a.y1 ≡ b.y1
  y2 : a.y2 ≡ b.y2

equal : (x y : ℤ) → x ≤ℤ y → y ≤ℤ x → x ≡ y
equal x y a b = omega (arith, ints, a, b)

one_box : (a b : Rect) → LiesWithin a b → LiesWithin b a → AreOneBox a b
one_box a b v w = record { x1 = equal a.x1 b.x1 w.x1 v.x1; x2 = equal a.x2 b.x2 v.x2 w.x2; y1 = equal a.y1 b.y1 w.y1 v.y1; y2 = equal a.y2 b.y2 v.y2 w.y2 }

along_moved : (a b : Rect) (side : Side) (cell : Point) → AreOneBox a b → IsAlong side a cell → IsAlong side b cell
along_moved a b Left cell same along =
    let from = along.1.from in let below = along.1.below in let y1 = same.y1 in let y2 = same.y2 in
    (along.0 ∙ same.x1, record { from = omega (arith, ints, from, y1); below = omega (arith, ints, below, y2) })
along_moved a b Right cell same along =
    let from = along.1.from in let below = along.1.below in let y1 = same.y1 in let y2 = same.y2 in
    (along.0 ∙ same.x2, record { from = omega (arith, ints, from, y1); below = omega (arith, ints, below, y2) })
along_moved a b Below cell same along =
    let from = along.1.from in let below = along.1.below in let x1 = same.x1 in let x2 = same.x2 in
    (along.0 ∙ same.y1, record { from = omega (arith, ints, from, x1); below = omega (arith, ints, below, x2) })
along_moved a b Above cell same along =
    let from = along.1.from in let below = along.1.below in let x1 = same.x1 in let x2 = same.x2 in
    (along.0 ∙ same.y2, record { from = omega (arith, ints, from, x1); below = omega (arith, ints, below, x2) })

-- a cell along a side
record CellAlong (side : Side) (box : Rect) : Type 0 where
  cell : Point
  along : IsAlong side box cell

cell_along : (side : Side) (box : Rect) (p : Point) → HasCell box p.x p.y → CellAlong side box
cell_along Left box p inside = record { cell = record { x = box.x1 -ℤ pos 1; y = p.y }; along = (omega (arith, ints), record { from = inside.low; below = inside.high }) }
cell_along Right box p inside = record { cell = record { x = box.x2; y = p.y }; along = (refl, record { from = inside.low; below = inside.high }) }
cell_along Below box p inside = record { cell = record { x = p.x; y = box.y1 -ℤ pos 1 }; along = (omega (arith, ints), record { from = inside.left; below = inside.right }) }
cell_along Above box p inside = record { cell = record { x = p.x; y = box.y2 }; along = (refl, record { from = inside.left; below = inside.right }) }

-- a sound channel has its least cell
has_cell : (tech : Tech) (shapes : List Shape) (device : Device) (cell : Point) (box : Rect) (flow : Flow) → IsSoundChannel tech shapes device cell box flow → HasCell box cell.x cell.y
has_cell tech shapes device cell box flow sound = (sound.is cell).1 (linked_itself (IsChannelCell shapes device) ShareSide cell)

one_sound_box : (tech : Tech) (shapes : List Shape) (device : Device) (cell : Point) (a b : Rect) (f g : Flow) → IsSoundChannel tech shapes device cell a f → IsSoundChannel tech shapes device cell b g → AreOneBox a b
one_sound_box tech shapes device cell a b f g s t =
    one_box a b (within a b cell (has_cell tech shapes device cell a f s) (λ q inside. (t.is q).1 ((s.is q).0 inside)))
    (within b a cell (has_cell tech shapes device cell b g t) (λ q inside. (s.is q).1 ((t.is q).0 inside)))

-- it flows one way
one_flow : (tech : Tech) (shapes : List Shape) (device : Device) (cell : Point) (a b : Rect) (f g : Flow) → IsSoundChannel tech shapes device cell a f → IsSoundChannel tech shapes device cell b g → AreOneBox a b → f ≡ g
one_flow tech shapes device cell a b Across Across s t same = refl
one_flow tech shapes device cell a b Upward Upward s t same = refl
one_flow tech shapes device cell a b Across Upward s t same =
    let at = cell_along Left a cell (has_cell tech shapes device cell a Across s) in
    absurd (t.passed.first_shut at.cell (along_moved a b Left at.cell same at.along) (s.passed.first_open at.cell at.along))
one_flow tech shapes device cell a b Upward Across s t same =
    let at = cell_along Below a cell (has_cell tech shapes device cell a Upward s) in
    absurd (t.passed.first_shut at.cell (along_moved a b Below at.cell same at.along) (s.passed.first_open at.cell at.along))

-- a gate over it
record GateOver (shapes : List Shape) (device : Device) (box : Rect) : Type 0 where
  gate : Shape
  over : IsGateOf shapes device box gate

gate_over : (shapes : List Shape) (device : Device) (box : Rect) (cell : Point) → IsChannelCell shapes device cell → HasCell box cell.x cell.y → GateOver shapes device box
gate_over shapes device box cell of inside =
    let s = shape_over device.gate shapes cell.x cell.y of.gate in
    record { gate = s.shape; over = record { listed = s.there; on = s.on; over = record { x = cell.x; y = cell.y; in_a = s.holds; in_b = inside } } }

gate_moved : (shapes : List Shape) (device : Device) (a b : Rect) (gate : Shape) → ((q : Point) → HasCell a q.x q.y → HasCell b q.x q.y) → IsGateOf shapes device a gate → IsGateOf shapes device b gate
gate_moved shapes device a b gate sub over = record {
  listed = over.listed;
  on = over.on;
  over = record { x = over.over.x; y = over.over.y; in_a = over.over.in_a; in_b = sub (record { x = over.over.x; y = over.over.y }) over.over.in_b };
}

module _ (tech : Tech) (shapes : List Shape) (labels : List PlainLabel) (d e : DrawnDevices) (a : AreDrawnDevices tech shapes labels d) (b : AreDrawnDevices tech shapes labels e) where
  named_member : (name : List ℕ) (shape : Shape) → IsNamed tech shapes labels name shape → IsMember tech shapes (Drawn shape)
  named_member name shape named = (named.binds.listed, λ active. named.drawn (subst (IsActive tech.devices) named.binds.under.on active))

  -- what has one number by the one numbering has one by the other
  kept : (x y : Member) → IsMember tech shapes x → IsMember tech shapes y → a.number x ≡ a.number y → b.number x ≡ b.number y
  kept x y of_x of_y same = (b.nets x y of_x of_y).1 ((a.nets x y of_x of_y).0 same)

  kept_back : (x y : Member) → IsMember tech shapes x → IsMember tech shapes y → b.number x ≡ b.number y → a.number x ≡ a.number y
  kept_back x y of_x of_y same = (a.nets x y of_x of_y).1 ((b.nets x y of_x of_y).0 same)

  name_of : (name : List ℕ) (shape : Shape) → IsNamed tech shapes labels name shape → HasName e.names (b.number (Drawn shape)) name
  name_of name shape named = (b.names (record { name = name; net = b.number (Drawn shape) })).1 (record { shape = shape; named = named; net = refl })

  -- the name of a member's net
  has_moved : (net : ℕ) (name : List ℕ) (x : Member) → IsMember tech shapes x → net ≡ a.number x → HasName d.names net name → HasName e.names (b.number x) name
  has_moved net name x of_x is has =
      let n = (a.names (record { name = name; net = net })).0 has in
      let same = kept (Drawn n.shape) x (named_member name n.shape n.named) of_x (sym n.net ∙ is) in
      subst (λ (k : ℕ). HasName e.names k name) same (name_of name n.shape n.named)

  pub split_moved : (name : List ℕ) → IsOnTwoNets d.names name → IsOnTwoNets e.names name
  split_moved name two =
      let p = (a.names (record { name = name; net = two.one })).0 two.has in
      let q = (a.names (record { name = name; net = two.other })).0 two.other_has in
      record {
        one = b.number (Drawn p.shape);
        other = b.number (Drawn q.shape);
        has = name_of name p.shape p.named;
        other_has = name_of name q.shape q.named;
        differ = λ same. two.differ (p.net ∙ kept_back (Drawn p.shape) (Drawn q.shape) (named_member name p.shape p.named) (named_member name q.shape q.named) same ∙ sym q.net);
      }

  pub share_moved : (first second : List ℕ) → ShareNet d.names first second → ShareNet e.names first second
  share_moved first second shared =
      let p = (a.names (record { name = first; net = shared.net })).0 shared.has in
      record {
        net = b.number (Drawn p.shape);
        has = name_of first p.shape p.named;
        rise = shared.rise;
        other_has = has_moved shared.net second (Drawn p.shape) (named_member first p.shape p.named) p.net shared.other_has;
      }

  -- the names of terminals
  pub record TerminalsMoved (t u : Terminals) : Type 0 where
    pub gate : (name : List ℕ) → HasName d.names t.gate name → HasName e.names u.gate name
    pub first : (name : List ℕ) → HasName d.names t.first name → HasName e.names u.first name
    pub second : (name : List ℕ) → HasName d.names t.second name → HasName e.names u.second name

  terminals_by : (device : Device) (least : Point) (t u : Terminals) (s : AreTerminals tech shapes a.number device least t) (r : AreTerminals tech shapes b.number device least u) → IsChannelCell shapes device least → AreOneBox s.box r.box → s.flow ≡ r.flow → TerminalsMoved t u
  terminals_by device least t u s r of same flows =
      let inside = has_cell tech shapes device least s.box s.flow s.sound in
      let g = gate_over shapes device s.box least of inside in
      let over = gate_moved shapes device s.box r.box g.gate (λ q at. (r.sound.is q).1 ((s.sound.is q).0 at)) g.over in
      let gate_member : IsMember tech shapes (Drawn g.gate) = (g.over.listed, λ active. s.sound.drawn (subst (IsActive tech.devices) g.over.on active)) in
      let one = cell_along (first_side s.flow) s.box least inside in
      let two = cell_along (second_side s.flow) s.box least inside in
      let one_there : IsAlong (first_side r.flow) r.box one.cell = subst (λ (f : Flow). IsAlong (first_side f) r.box one.cell) flows (along_moved s.box r.box (first_side s.flow) one.cell same one.along) in
      let two_there : IsAlong (second_side r.flow) r.box two.cell = subst (λ (f : Flow). IsAlong (second_side f) r.box two.cell) flows (along_moved s.box r.box (second_side s.flow) two.cell same two.along) in
      record {
        gate = λ name has. subst (λ (k : ℕ). HasName e.names k name) (sym (r.gate g.gate over)) (has_moved t.gate name (Drawn g.gate) gate_member (s.gate g.gate g.over) has);
        first = λ name has. subst (λ (k : ℕ). HasName e.names k name) (sym (r.first one.cell one_there)) (has_moved t.first name (Diffused device.active one.cell) (s.sound.passed.first_open one.cell one.along) (s.first one.cell one.along) has);
        second = λ name has. subst (λ (k : ℕ). HasName e.names k name) (sym (r.second two.cell two_there)) (has_moved t.second name (Diffused device.active two.cell) (s.sound.passed.second_open two.cell two.along) (s.second two.cell two.along) has);
      }

  pub terminals_moved : (device : Device) (least : Point) (t u : Terminals) → IsChannelCell shapes device least → AreTerminals tech shapes a.number device least t → AreTerminals tech shapes b.number device least u → TerminalsMoved t u
  terminals_moved device least t u of s r =
      let same = one_sound_box tech shapes device least s.box r.box s.flow r.flow s.sound r.sound in
      terminals_by device least t u s r of same (one_flow tech shapes device least s.box r.box s.flow r.flow s.sound r.sound same)
