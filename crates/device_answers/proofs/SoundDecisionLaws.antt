-- Whether a channel is sound is decided.
use Rattle.std.proofs.Common.{◌≡◌, ◌⊎◌, inl, inr, ℤ, pos, ◌≤ℤ◌, ◌<ℤ◌, ◌+ℤ◌, ◌-ℤ◌, ℕ, List, refl, sym, subst, arith}
use Rattle.std.specs.Prelude.{Contains}
use Rattle.std.proofs.lemmas.Bool.{cases_eq}
use Rattle.std.proofs.lemmas.Int.{ints, by_lt_z}
use Rattle.or_geom.specs.declared.shape.Point.{Point}
use Rattle.or_geom.specs.declared.shape.Rect.{Rect}
use Rattle.or_geom.specs.declared.shape.Shape.{Shape}
use Rattle.or_geom.proofs.PlaceLaws.{same_rect}
use Rattle.tech_rules.specs.declared.tech.Device.{Device}
use Rattle.tech_rules.specs.declared.tech.Tech.{Tech}
use Rattle.tech_rules.specs.Touch.{ShareArea}
use Rattle.tech_rules.proofs.LinkedLaws.{linked_end}
use Rattle.drawn_devices.specs.declared.drawn.Flow.{Flow}
use Rattle.drawn_devices.specs.declared.drawn.Flow.TheVariants.{Across, Upward}
use Rattle.drawn_devices.specs.declared.drawn.Side.{Side}
use Rattle.drawn_devices.specs.declared.drawn.Side.TheVariants.{Left, Right, Below, Above}
use Rattle.drawn_devices.specs.Cells.{ShareSide}
use Rattle.drawn_devices.specs.Channels.{IsChannelCell, ChannelOf}
use Rattle.drawn_devices.specs.Diffusion.{IsActive, IsDiffusion}
use Rattle.drawn_devices.specs.Drawn.{IsUnsound}
use Rattle.drawn_devices.specs.Nets.{Drawn, AreOnDrawnNet}
use Rattle.drawn_devices.specs.Sides.{IsAlong, IsStrip, IsOpen, IsShut, IsPassed, first_side, second_side, crosswise}
use Rattle.drawn_devices.specs.Sound.{IsBoxOf, IsGateOf, IsSoundChannel}
use Rattle.drawn_devices.proofs.CellLaws.{Has}
use Rattle.drawn_devices.proofs.LayerLaws.{decide_active}
use Rattle.flat_answers.proofs.DecisionLaws.{Decided, decide_as, decide_both, decide_either, decide_not}
use Rattle.flat_answers.proofs.ListedLaws.{Listed, decide_all, decide_some, listed_as, listed_none, listed_one, listed_over, listed_where}
use Rattle.device_answers.proofs.CellListLaws.{decide_channel, decide_diffusion, decide_has, listed_box, listed_channel_cells, listed_items}
use Rattle.device_answers.proofs.MemberDecisionLaws.{decide_net}

-- the cells along a side are those of a box
abbrev upright : ℤ → Rect → Rect
upright x box = record { x1 = x; y1 = box.y1; x2 = x +ℤ pos 1; y2 = box.y2; wide = omega (arith, ints); tall = box.tall }

abbrev level : ℤ → Rect → Rect
level y box = record { x1 = box.x1; y1 = y; x2 = box.x2; y2 = y +ℤ pos 1; wide = box.wide; tall = omega (arith, ints) }

pub strip_there : (side : Side) (box : Rect) → (strip : Rect) × IsStrip side box strip
strip_there Left box = (
  upright (box.x1 -ℤ pos 1) box,
  λ cell. (
    λ h. (omega (arith, ints, h.left, h.right), record { from = h.low; below = h.high }),
    λ a. record { left = omega (arith, ints, a.0); right = omega (arith, ints, a.0); low = a.1.from; high = a.1.below },
  ),
)
strip_there Right box = (
  upright box.x2 box,
  λ cell. (
    λ h. (omega (arith, ints, h.left, h.right), record { from = h.low; below = h.high }),
    λ a. record { left = omega (arith, ints, a.0); right = omega (arith, ints, a.0); low = a.1.from; high = a.1.below },
  ),
)
strip_there Below box = (
  level (box.y1 -ℤ pos 1) box,
  λ cell. (
    λ h. (omega (arith, ints, h.low, h.high), record { from = h.left; below = h.right }),
    λ a. record { left = a.1.from; right = a.1.below; low = omega (arith, ints, a.0); high = omega (arith, ints, a.0) },
  ),
)
strip_there Above box = (
  level box.y2 box,
  λ cell. (
    λ h. (omega (arith, ints, h.low, h.high), record { from = h.left; below = h.right }),
    λ a. record { left = a.1.from; right = a.1.below; low = omega (arith, ints, a.0); high = omega (arith, ints, a.0) },
  ),
)

listed_along : (side : Side) (box : Rect) → Listed (IsAlong side box)
listed_along side box = let strip = strip_there side box in listed_as (Has strip.0) (IsAlong side box) (λ p. (strip.1 p).0) (λ p. (strip.1 p).1) (listed_box strip.0)

decide_share : (a b : Rect) → Decided (ShareArea a b)
decide_share a b = decide_as ((p : Point) × (Has a p × Has b p)) (ShareArea a b)
    (λ h. record { x = h.0.x; y = h.0.y; in_a = h.1.0; in_b = h.1.1 }) (λ s. (record { x = s.x; y = s.y }, (s.in_a, s.in_b)))
    (decide_some (Has a) (Has b) (listed_box a) (λ p among. decide_has b p))

-- a box with these cells at its lower left and its upper right corner
abbrev IsFrom : Point → Point → Rect → Type 0
IsFrom a b box = ((box.x1 ≡ a.x) × (box.y1 ≡ a.y)) × ((box.x2 ≡ b.x +ℤ pos 1) × (box.y2 ≡ b.y +ℤ pos 1))

listed_from : (a b : Point) → Listed (IsFrom a b)
listed_from a b = by_lt_z a.x (b.x +ℤ pos 1)
    (λ wide. by_lt_z a.y (b.y +ℤ pos 1)
    (λ tall.
    let box : Rect = record { x1 = a.x; y1 = a.y; x2 = b.x +ℤ pos 1; y2 = b.y +ℤ pos 1; wide = wide; tall = tall } in
    listed_as (λ (r : Rect). r ≡ box) (IsFrom a b) (λ r e. subst (IsFrom a b) (sym e) ((refl, refl), (refl, refl))) (λ r h. same_rect r box h.0.0 h.0.1 h.1.0 h.1.1) (listed_one box))
    (λ flat. listed_none (IsFrom a b) (λ r h. let low = h.0.1 in let high = h.1.1 in let tall : r.y1 <ℤ r.y2 = r.tall in omega (arith, ints, flat, low, high, tall))))
    (λ thin. listed_none (IsFrom a b) (λ r h. let left = h.0.0 in let right = h.1.0 in let wide : r.x1 <ℤ r.x2 = r.wide in omega (arith, ints, thin, left, right, wide)))

module _ (tech : Tech) (shapes : List Shape) (device : Device) where
  -- the sides of a box
  decide_open : (layer : ℕ) (box : Rect) (side : Side) → Decided (IsOpen tech shapes layer box side)
  decide_open layer box side = decide_all (IsAlong side box) (IsDiffusion tech.devices shapes layer) (listed_along side box) (decide_diffusion shapes tech.devices layer)

  decide_shut : (layer : ℕ) (box : Rect) (side : Side) → Decided (IsShut tech shapes layer box side)
  decide_shut layer box side = decide_all (IsAlong side box) (λ (p : Point). IsDiffusion tech.devices shapes layer p → ⊥) (listed_along side box)
      (λ p. decide_not (IsDiffusion tech.devices shapes layer p) (decide_diffusion shapes tech.devices layer p))

  decide_passed : (layer : ℕ) (box : Rect) (flow : Flow) → Decided (IsPassed tech shapes layer box flow)
  decide_passed layer box flow =
      let a = IsOpen tech shapes layer box (first_side flow) in
      let b = IsOpen tech shapes layer box (second_side flow) in
      let c = IsShut tech shapes layer box (first_side (crosswise flow)) in
      let d = IsShut tech shapes layer box (second_side (crosswise flow)) in
      decide_as ((a × b) × (c × d)) (IsPassed tech shapes layer box flow)
      (λ h. record { first_open = h.0.0; second_open = h.0.1; first_shut = h.1.0; second_shut = h.1.1 })
      (λ p. ((p.first_open, p.second_open), (p.first_shut, p.second_shut)))
      (decide_both (a × b) (c × d) (decide_both a b (decide_open layer box (first_side flow)) (decide_open layer box (second_side flow)))
      (decide_both c d (decide_shut layer box (first_side (crosswise flow))) (decide_shut layer box (second_side (crosswise flow)))))

  -- the gates over a box
  listed_gates : (box : Rect) → Listed (IsGateOf shapes device box)
  listed_gates box = listed_as (λ (s : Shape). Contains shapes s × ((s.layer ≡ device.gate) × ShareArea s.rect box)) (IsGateOf shapes device box)
      (λ s h. record { listed = h.0; on = h.1.0; over = h.1.1 }) (λ s g. (g.listed, (g.on, g.over)))
      (listed_where (Contains shapes) (λ (s : Shape). (s.layer ≡ device.gate) × ShareArea s.rect box) (listed_items shapes)
      (λ s. decide_both (s.layer ≡ device.gate) (ShareArea s.rect box) (cases_eq s.layer device.gate) (decide_share s.rect box)))

  abbrev AreOneGate : Rect → Type 0
  AreOneGate box = (a : Shape) → IsGateOf shapes device box a → (b : Shape) → IsGateOf shapes device box b → AreOnDrawnNet tech shapes (Drawn a) (Drawn b)

  decide_one_gate : (box : Rect) → Decided (AreOneGate box)
  decide_one_gate box = decide_all (IsGateOf shapes device box) (λ (a : Shape). (b : Shape) → IsGateOf shapes device box b → AreOnDrawnNet tech shapes (Drawn a) (Drawn b)) (listed_gates box)
      (λ a. decide_all (IsGateOf shapes device box) (λ (b : Shape). AreOnDrawnNet tech shapes (Drawn a) (Drawn b)) (listed_gates box) (λ b. decide_net tech shapes (Drawn a) (Drawn b)))

  module _ (cell : Point) (of : IsChannelCell shapes device cell) where
    listed_channel : Listed (ChannelOf shapes device cell)
    listed_channel = listed_as (λ (p : Point). IsChannelCell shapes device p × ChannelOf shapes device cell p) (ChannelOf shapes device cell)
        (λ p h. h.1) (λ p c. (linked_end (IsChannelCell shapes device) ShareSide cell p of c, c))
        (listed_where (IsChannelCell shapes device) (ChannelOf shapes device cell) (listed_channel_cells shapes device) (decide_channel shapes device cell))

    -- the box that has the channel's cells, if there is one
    decide_box : (box : Rect) → Decided (IsBoxOf shapes device cell box)
    decide_box box =
        let a = (p : Point) → Has box p → ChannelOf shapes device cell p in
        let b = (p : Point) → ChannelOf shapes device cell p → Has box p in
        decide_as (a × b) (IsBoxOf shapes device cell box) (λ h p. (h.0 p, h.1 p)) (λ is. (λ p. (is p).0, λ p. (is p).1))
        (decide_both a b (decide_all (Has box) (ChannelOf shapes device cell) (listed_box box) (decide_channel shapes device cell))
        (decide_all (ChannelOf shapes device cell) (Has box) listed_channel (decide_has box)))

    abbrev IsFromTwo : Rect → Type 0
    IsFromTwo box = (a : Point) × ChannelOf shapes device cell a × ((b : Point) × ChannelOf shapes device cell b × IsFrom a b box)

    from_two : (box : Rect) → IsBoxOf shapes device cell box → IsFromTwo box
    from_two box is =
        let low : Point = record { x = box.x1; y = box.y1 } in
        let high : Point = record { x = box.x2 -ℤ pos 1; y = box.y2 -ℤ pos 1 } in
        let wide : box.x1 <ℤ box.x2 = box.wide in
        let tall : box.y1 <ℤ box.y2 = box.tall in
        let has_low : Has box low = record { left = omega (arith, ints); right = wide; low = omega (arith, ints); high = tall } in
        let has_high : Has box high = record { left = omega (arith, ints, wide); right = omega (arith, ints); low = omega (arith, ints, tall); high = omega (arith, ints) } in
        (low, (is low).0 has_low, (high, (is high).0 has_high, ((refl, refl), (omega (arith, ints), omega (arith, ints)))))

    listed_boxes : Listed (IsBoxOf shapes device cell)
    listed_boxes = listed_as (λ (box : Rect). IsFromTwo box × IsBoxOf shapes device cell box) (IsBoxOf shapes device cell) (λ box h. h.1) (λ box is. (from_two box is, is))
        (listed_where IsFromTwo (IsBoxOf shapes device cell)
        (listed_over (ChannelOf shapes device cell) (λ (a : Point) (box : Rect). (b : Point) × ChannelOf shapes device cell b × IsFrom a b box) listed_channel
        (λ a. listed_over (ChannelOf shapes device cell) (λ (b : Point) (box : Rect). IsFrom a b box) listed_channel (λ b. listed_from a b)))
        decide_box)

    decide_sound : (box : Rect) (flow : Flow) → IsBoxOf shapes device cell box → Decided (IsSoundChannel tech shapes device cell box flow)
    decide_sound box flow is =
        let a = IsPassed tech shapes device.active box flow in
        let b = IsActive tech.devices device.gate → ⊥ in
        decide_as (a × (b × AreOneGate box)) (IsSoundChannel tech shapes device cell box flow)
        (λ h. record { is = is; passed = h.0; drawn = h.1.0; one = λ s t of_s of_t. h.1.1 s of_s t of_t })
        (λ s. (s.passed, (s.drawn, λ one of_one other of_other. s.one one other of_one of_other)))
        (decide_both a (b × AreOneGate box) (decide_passed device.active box flow)
        (decide_both b (AreOneGate box) (decide_not (IsActive tech.devices device.gate) (decide_active tech.devices device.gate)) (decide_one_gate box)))

    abbrev IsSoundEither : Rect → Type 0
    IsSoundEither box = IsSoundChannel tech shapes device cell box Across ⊎ IsSoundChannel tech shapes device cell box Upward

    either_way : (box : Rect) (flow : Flow) → IsSoundChannel tech shapes device cell box flow → IsSoundEither box
    either_way box Across s = inl s
    either_way box Upward s = inr s

    pub sound_or_not : ((box : Rect) × ((flow : Flow) × IsSoundChannel tech shapes device cell box flow)) ⊎ IsUnsound tech shapes device cell
    sound_or_not = elim (decide_some (IsBoxOf shapes device cell) IsSoundEither listed_boxes
        (λ box is. decide_either (IsSoundChannel tech shapes device cell box Across) (IsSoundChannel tech shapes device cell box Upward) (decide_sound box Across is) (decide_sound box Upward is))) [
          | inl h ↦ inl (h.0, elim h.1.1 [ inl s ↦ (Across, s) | inr s ↦ (Upward, s) ])
          | inr none ↦ inr (λ box flow s. none (box, (s.is, either_way box flow s)))
        ]
