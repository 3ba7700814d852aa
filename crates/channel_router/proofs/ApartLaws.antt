-- Wires of different nets have no point in common on layers that touch.
use Rattle.std.proofs.Common.{◌≡◌, ◌≢◌, ◌⊎◌, inl, inr, ℕ, suc, zero, ◌+◌, ◌<◌, ℤ, pos, ◌+ℤ◌, ◌*ℤ◌, ◌-ℤ◌, ◌≤ℤ◌, ◌<ℤ◌, List, [], ◌∷◌, ◌++◌, refl, sym, ap, subst, ◌∙◌, arith}
use Rattle.std.specs.Prelude.{Contains, slice_get, slice_index, Some}
use Rattle.std.proofs.lemmas.Bool.{cases_order}
use Rattle.std.proofs.lemmas.Int.{ints, by_lt_z}
use Rattle.std.proofs.lemmas.Option.{slice_get-get_or}
use Rattle.or_geom.specs.declared.shape.Point.{Point}
use Rattle.or_geom.specs.declared.shape.Shape.{Shape}
use Rattle.or_geom.specs.Covered.{HasCell}
use Rattle.or_geom.specs.Joined.{IsIn}
use Rattle.or_geom.specs.Gathering.{SomeHas}
use Rattle.or_geom.proofs.ListLaws.{contains_cases, contains_none, one_at}
use Rattle.tech_rules.specs.declared.tech.Connect.{Connect}
use Rattle.tech_rules.specs.declared.tech.Tech.{Tech}
use Rattle.tech_rules.specs.declared.tech.Wire.{Wire}
use Rattle.wire_drawing.specs.Drawing.{IsVia, pitch}
use Rattle.tech_rules.specs.Facts.{AreSizes}
use Rattle.wire_drawing.specs.Spacing.{AreClose}
use Rattle.tech_rules.specs.Touch.{IsConductor, IsCutTo, Joins, Touch, TouchByCut}
use Rattle.tech_rules.specs.WireRules.{margin}
use Rattle.wire_drawing.proofs.DrawingLaws.{twice_margin}
use Rattle.channel_router.specs.declared.channel.Channel.{Channel}
use Rattle.channel_router.specs.declared.channel.ChannelPin.{ChannelPin}
use Rattle.channel_router.specs.declared.channel.Interval.{Interval}
use Rattle.channel_router.specs.Apart.{AreSevenLayers, wire_connects}
use Rattle.channel_router.specs.Channel.{IsPinOf, places}
use Rattle.channel_router.specs.Intervals.{AreIntervals}
use Rattle.channel_router.specs.Routed.{pin_xs}
use Rattle.channel_router.specs.Tracks.{HasTrack, IsAssignment}
use Rattle.channel_router.specs.Wires.{IsOfNet, track_y}
use Rattle.channel_router.proofs.HeightLaws.{pitch_apart}
use Rattle.channel_router.proofs.PinLaws.{pin_left, pin_right}

-- the point is on the net's trunk
record IsOnTrunk (low : ℤ) (wire : Wire) (intervals : List Interval) (track : List ℕ) (net : ℕ) (x y : ℤ) : Type 0 where
  pub a : Interval
  pub t : ℕ
  pub has : HasTrack intervals track net a t
  pub left : a.left ≤ℤ x
  pub right : x ≤ℤ (a.right +ℤ wire.width)
  pub low_y : track_y low wire t ≤ℤ y
  pub high_y : y ≤ℤ (track_y low wire t +ℤ wire.width)

-- the x is that of a wire at one of the net's pins
record IsAtPin (wire : Wire) (pins : List ChannelPin) (net : ℕ) (x : ℤ) : Type 0 where
  pub at : ℤ
  pub pin : IsPinOf pins net at
  pub left : at ≤ℤ x
  pub right : x ≤ℤ (at +ℤ wire.width)

-- trunks of different nets have no point in common
trunks_apart : (low : ℤ) (wire : Wire) (intervals : List Interval) (track : List ℕ) (i j : ℕ) (x y : ℤ) → AreSizes wire → IsAssignment (pitch wire) intervals track → i ≢ j → IsOnTrunk low wire intervals track i x y → IsOnTrunk low wire intervals track j x y → ⊥
trunks_apart low wire intervals track i j x y sizes assigned differ p q = elim (cases_order p.t q.t) [
  | inl same ↦ elim (assigned.apart i j q.t p.a q.a differ (subst (λ (t : ℕ). HasTrack intervals track i p.a t) same p.has) q.has) [
    | inl before ↦ (let s = sizes.space in let r = p.right in let l = q.left in omega (arith, ints, before, s.from, r, l))
    | inr before ↦ (let s = sizes.space in let r = q.right in let l = p.left in omega (arith, ints, before, s.from, r, l))
  ]
  | inr (inl below) ↦ lower p.t q.t below p.high_y q.low_y
  | inr (inr above) ↦ lower q.t p.t above q.high_y p.low_y
] where
  sums : (low s w a b y : ℤ) → pos 1 ≤ℤ s → (a +ℤ (w +ℤ s)) ≤ℤ b → y ≤ℤ ((low +ℤ (s +ℤ a)) +ℤ w) → (low +ℤ (s +ℤ b)) ≤ℤ y → ⊥
  sums low s w a b y positive gap high lower = omega (arith, ints, positive, gap, high, lower)

  lower : (t u : ℕ) → t < u → y ≤ℤ (track_y low wire t +ℤ wire.width) → track_y low wire u ≤ℤ y → ⊥
  lower t u lt high under =
      let w = sizes.width in
      let s = sizes.space in
      let gap = pitch_apart t u (wire.width +ℤ wire.space) lt (omega (arith, ints, w.from, s.from)) in
      sums low wire.space wire.width (pos t *ℤ (wire.width +ℤ wire.space)) (pos u *ℤ (wire.width +ℤ wire.space)) y s.from gap high under

xs_at : (pins : List ChannelPin) (k : ℕ) (pin : ChannelPin) → slice_get pins k ≡ Some pin → slice_get (pin_xs pins) k ≡ Some pin.x
xs_at [] k pin e = absurd cc
xs_at (q ∷ qs) zero pin e = ap Some (ap (λ (r : ChannelPin). r.x) (one_at (q ∷ qs) zero q pin refl e))
xs_at (q ∷ qs) (suc k) pin e = xs_at qs k pin e

-- wires at pins of different nets on one side have no x in common
pins_apart : (wire : Wire) (pins : List ChannelPin) (i j : ℕ) (x : ℤ) → AreSizes wire → (AreClose (pitch wire) (pin_xs pins) → ⊥) → i ≢ j → IsAtPin wire pins i x → IsAtPin wire pins j x → ⊥
pins_apart wire pins i j x sizes none differ p q = elim (by_order p.at q.at) [
  | inl le ↦ none (
    p.at,
    q.at,
    record {
      two = record { i = p.pin.listed.0; j = q.pin.listed.0; differ = places_differ; first = at_p; second = at_q };
      above = le;
      close = let s = sizes.space in let r = p.right in let l = q.left in omega (arith, ints, s.from, r, l);
    },
  )
  | inr ge ↦ none (
    q.at,
    p.at,
    record {
      two = record { i = q.pin.listed.0; j = p.pin.listed.0; differ = λ e. places_differ (sym e); first = at_q; second = at_p };
      above = ge;
      close = let s = sizes.space in let r = q.right in let l = p.left in omega (arith, ints, s.from, r, l);
    },
  )
] where
  by_order : (a b : ℤ) → (a ≤ℤ b) ⊎ (b ≤ℤ a)
  by_order a b = by_lt_z {P = (a ≤ℤ b) ⊎ (b ≤ℤ a)} a b (λ less. inl (omega (arith, ints, less))) (λ more. inr more)

  get_p : slice_get pins p.pin.listed.0 ≡ Some p.pin.pin
  get_p = slice_get-get_or pins p.pin.listed.0 p.pin.pin p.pin.listed.1 ∙ ap Some p.pin.listed.2

  get_q : slice_get pins q.pin.listed.0 ≡ Some q.pin.pin
  get_q = slice_get-get_or pins q.pin.listed.0 q.pin.pin q.pin.listed.1 ∙ ap Some q.pin.listed.2

  at_p : slice_get (pin_xs pins) p.pin.listed.0 ≡ Some p.at
  at_p = xs_at pins p.pin.listed.0 p.pin.pin get_p ∙ ap Some p.pin.at_x

  at_q : slice_get (pin_xs pins) q.pin.listed.0 ≡ Some q.at
  at_q = xs_at pins q.pin.listed.0 q.pin.pin get_q ∙ ap Some q.pin.at_x

  places_differ : p.pin.listed.0 ≢ q.pin.listed.0
  places_differ e =
      let same = one_at pins q.pin.listed.0 p.pin.pin q.pin.pin (ap (λ (k : ℕ). slice_get pins k) (sym e) ∙ get_p) get_q in
      differ (sym p.pin.of_net ∙ ap (λ (r : ChannelPin). r.net) same ∙ q.pin.of_net)

metals_same : (wire : Wire) (i j : ℕ) → AreSevenLayers wire → i < 4 → j < 4 → slice_index wire.metals i ≡ slice_index wire.metals j → i ≡ j
metals_same wire i j layers in_i in_j e = elim (cases_order i j) [
  | inl same ↦ same
  | inr (inl less) ↦ absurd (layers.metals i j less in_j e)
  | inr (inr more) ↦ absurd (layers.metals j i more in_i (sym e))
]

cuts_same : (wire : Wire) (i j : ℕ) → AreSevenLayers wire → i < 3 → j < 3 → slice_index wire.cuts i ≡ slice_index wire.cuts j → i ≡ j
cuts_same wire i j layers in_i in_j e = elim (cases_order i j) [
  | inl same ↦ same
  | inr (inl less) ↦ absurd (layers.cuts i j less in_j e)
  | inr (inr more) ↦ absurd (layers.cuts j i more in_i (sym e))
]

one_of_two : (wire : Wire) (i l : ℕ) → Contains (slice_index wire.metals i ∷ slice_index wire.metals (i + 1) ∷ []) l → (l ≡ slice_index wire.metals i) ⊎ (l ≡ slice_index wire.metals (i + 1))
one_of_two wire i l h = elim (contains_cases (slice_index wire.metals i) (slice_index wire.metals (i + 1) ∷ []) l h) [
  | inl first ↦ inl first
  | inr more ↦ elim (contains_cases (slice_index wire.metals (i + 1)) [] l more) [ inl second ↦ inr second | inr none ↦ absurd (contains_none l none) ]
]

-- a conductor is one of the metals
conductor : (wire : Wire) (tech : Tech) (l : ℕ) → tech.connects ≡ wire_connects wire → IsConductor tech.connects l → (k : ℕ) × (k < 4) × (l ≡ slice_index wire.metals k)
conductor wire tech l wired is = elim (subst (λ (cs : List Connect). SomeHas (λ (connect : Connect). Contains connect.to l) cs) wired is) [
  | inl first ↦ by 0 (omega arith) first
  | inr (inl second) ↦ by 1 (omega arith) second
  | inr (inr (inl third)) ↦ by 2 (omega arith) third
  | inr (inr (inr none)) ↦ absurd none
] where
  by : (i : ℕ) → i < 3 → Contains (slice_index wire.metals i ∷ slice_index wire.metals (i + 1) ∷ []) l → (k : ℕ) × (k < 4) × (l ≡ slice_index wire.metals k)
  by i lt h = elim (one_of_two wire i l h) [ inl e ↦ (i, omega (arith, lt), e) | inr e ↦ (i + 1, omega (arith, lt), e) ]

-- a cut and a layer that it connects
cut_to : (wire : Wire) (tech : Tech) (cut other : ℕ) → tech.connects ≡ wire_connects wire → IsCutTo tech.connects cut other → (c : ℕ) × (c < 3) × (cut ≡ slice_index wire.cuts c) × ((other ≡ slice_index wire.metals c) ⊎ (other ≡ slice_index wire.metals (c + 1)))
cut_to wire tech cut other wired is = elim (subst (λ (cs : List Connect). SomeHas (Joins cut other) cs) wired is) [
  | inl first ↦ (0, omega arith, sym first.by, one_of_two wire 0 other first.to)
  | inr (inl second) ↦ (1, omega arith, sym second.by, one_of_two wire 1 other second.to)
  | inr (inr (inl third)) ↦ (2, omega arith, sym third.by, one_of_two wire 2 other third.to)
  | inr (inr (inr none)) ↦ absurd none
]

via_inside : (m c w a z : ℤ) → m +ℤ m ≡ w -ℤ c → c <ℤ w → pos 1 ≤ℤ c → (a +ℤ m) ≤ℤ z → z ≤ℤ (a +ℤ m +ℤ c) → (a ≤ℤ z) × (z ≤ℤ (a +ℤ w))
via_inside m c w a z twice narrow some low high = (omega (arith, ints, twice, narrow, some, low, high), omega (arith, ints, twice, narrow, some, low, high))

module _ (ch : Channel) (wire : Wire) (intervals : List Interval) (track : List ℕ) (tracks : ℕ) (sizes : AreSizes wire) (layers : AreSevenLayers wire) (are : AreIntervals ch intervals) (assigned : IsAssignment (pitch wire) intervals track) (none_top : AreClose (pitch wire) (pin_xs ch.top) → ⊥) (none_bottom : AreClose (pitch wire) (pin_xs ch.bottom) → ⊥) where
  abbrev OnTrunk : ℕ → Point → Type 0
  OnTrunk net p = IsOnTrunk ch.low wire intervals track net p.x p.y

  -- where a point of a net's shape lies, and the shape's layer
  abbrev IsSpot : ℕ → Shape → Point → Type 0
  IsSpot net s p =
      ((s.layer ≡ slice_index wire.metals 2) × OnTrunk net p)
      ⊎ (((s.layer ≡ slice_index wire.metals 3) × IsAtPin wire ch.top net p.x)
      ⊎ (((s.layer ≡ slice_index wire.cuts 2) × OnTrunk net p × IsAtPin wire ch.top net p.x)
      ⊎ (((s.layer ≡ slice_index wire.metals 1) × IsAtPin wire ch.bottom net p.x)
      ⊎ ((s.layer ≡ slice_index wire.cuts 1) × OnTrunk net p × IsAtPin wire ch.bottom net p.x))))

  at_via : (pins : List ChannelPin) (net t cut : ℕ) (a : Interval) (x : ℤ) (s : Shape) (p : Point) → HasTrack intervals track net a t → IsPinOf pins net x → IsPinOf (places ch) net x → IsVia wire cut x (track_y ch.low wire t) s → IsIn s.rect p → OnTrunk net p × IsAtPin wire pins net p.x
  at_via pins net t cut a x s p has pin place is inside =
      let twice = twice_margin wire sizes in
      let narrow = sizes.centred.narrow in
      let some = sizes.cut.from in
      let left = is.left in
      let right = is.right in
      let low = is.low in
      let high = is.high in
      let in_left = inside.left in
      let in_right = inside.right in
      let in_low = inside.low in
      let in_high = inside.high in
      let across = via_inside (margin wire) wire.cut wire.width x p.x twice narrow some (omega (arith, ints, left, in_left)) (omega (arith, ints, right, in_right)) in
      let upward = via_inside (margin wire) wire.cut wire.width (track_y ch.low wire t) p.y twice narrow some (by_low low in_low) (by_high high in_high) in
      let is_interval = are.of_net net a has.there in
      let from = is_interval.least x place in
      let to = is_interval.greatest x place in
      let x_low = across.0 in
      let x_high = across.1 in
      (record { a = a; t = t; has = has; left = omega (arith, ints, from, x_low); right = omega (arith, ints, to, x_high); low_y = upward.0; high_y = upward.1 }, record { at = x; pin = pin; left = x_low; right = x_high }) where
        by_low : s.rect.y1 ≡ track_y ch.low wire t +ℤ margin wire → s.rect.y1 ≤ℤ p.y → (track_y ch.low wire t +ℤ margin wire) ≤ℤ p.y
        by_low e le = subst (λ (z : ℤ). z ≤ℤ p.y) e le

        by_high : s.rect.y2 ≡ track_y ch.low wire t +ℤ margin wire +ℤ wire.cut → p.y ≤ℤ s.rect.y2 → p.y ≤ℤ (track_y ch.low wire t +ℤ margin wire +ℤ wire.cut)
        by_high e le = subst (λ (z : ℤ). p.y ≤ℤ z) e le

  spot : (net : ℕ) (s : Shape) (p : Point) → IsOfNet ch wire intervals track tracks net s → IsIn s.rect p → IsSpot net s p
  spot net s p of_net inside = elim of_net.wires [
    | inl trunk ↦ inl (
      trunk.on,
      record {
        a = of_net.interval;
        t = of_net.t;
        has = of_net.has;
        left = subst (λ (z : ℤ). z ≤ℤ p.x) trunk.left inside.left;
        right = subst (λ (z : ℤ). p.x ≤ℤ z) trunk.right inside.right;
        low_y = subst (λ (z : ℤ). z ≤ℤ p.y) trunk.low inside.low;
        high_y = subst (λ (z : ℤ). p.y ≤ℤ z) trunk.high inside.high;
      },
    )
    | inr (inl (x, pin, inl branch)) ↦ inr (inl (branch.on, record { at = x; pin = pin; left = subst (λ (z : ℤ). z ≤ℤ p.x) branch.left inside.left; right = subst (λ (z : ℤ). p.x ≤ℤ z) branch.right inside.right }))
    | inr (inl (x, pin, inr cut)) ↦ (let v = at_via ch.top net of_net.t 2 of_net.interval x s p of_net.has pin (pin_left (ch.top ++ ch.bottom) ch.exits net x (pin_left ch.top ch.bottom net x pin)) cut inside in inr (inr (inl (cut.on, v.0, v.1))))
    | inr (inr (x, pin, inl branch)) ↦ inr (inr (inr (inl (branch.on, record { at = x; pin = pin; left = subst (λ (z : ℤ). z ≤ℤ p.x) branch.left inside.left; right = subst (λ (z : ℤ). p.x ≤ℤ z) branch.right inside.right }))))
    | inr (inr (x, pin, inr cut)) ↦ (let v = at_via ch.bottom net of_net.t 1 of_net.interval x s p of_net.has pin (pin_left (ch.top ++ ch.bottom) ch.exits net x (pin_right ch.top ch.bottom net x pin)) cut inside in inr (inr (inr (inr (cut.on, v.0, v.1)))))
  ]

  on_metal : (net k : ℕ) (s : Shape) (p : Point) → IsSpot net s p → k < 4 → s.layer ≡ slice_index wire.metals k → ((k ≡ 2) × OnTrunk net p) ⊎ (((k ≡ 3) × IsAtPin wire ch.top net p.x) ⊎ ((k ≡ 1) × IsAtPin wire ch.bottom net p.x))
  on_metal net k s p (inl trunk) lt e = inl (metals_same wire k 2 layers lt (omega arith) (sym e ∙ trunk.0), trunk.1)
  on_metal net k s p (inr (inl top)) lt e = inr (inl (metals_same wire k 3 layers lt (omega arith) (sym e ∙ top.0), top.1))
  on_metal net k s p (inr (inr (inl via))) lt e = absurd (layers.others 2 k (omega arith) lt (sym via.0 ∙ e))
  on_metal net k s p (inr (inr (inr (inl bottom)))) lt e = inr (inr (metals_same wire k 1 layers lt (omega arith) (sym e ∙ bottom.0), bottom.1))
  on_metal net k s p (inr (inr (inr (inr via)))) lt e = absurd (layers.others 1 k (omega arith) lt (sym via.0 ∙ e))

  on_cut : (net c : ℕ) (s : Shape) (p : Point) → IsSpot net s p → c < 3 → s.layer ≡ slice_index wire.cuts c → ((c ≡ 2) × OnTrunk net p × IsAtPin wire ch.top net p.x) ⊎ ((c ≡ 1) × OnTrunk net p × IsAtPin wire ch.bottom net p.x)
  on_cut net c s p (inl trunk) lt e = absurd (layers.others c 2 lt (omega arith) (sym e ∙ trunk.0))
  on_cut net c s p (inr (inl top)) lt e = absurd (layers.others c 3 lt (omega arith) (sym e ∙ top.0))
  on_cut net c s p (inr (inr (inl via))) lt e = inl (cuts_same wire c 2 layers lt (omega arith) (sym e ∙ via.0), via.1, via.2)
  on_cut net c s p (inr (inr (inr (inl bottom)))) lt e = absurd (layers.others c 1 lt (omega arith) (sym e ∙ bottom.0))
  on_cut net c s p (inr (inr (inr (inr via)))) lt e = inr (cuts_same wire c 1 layers lt (omega arith) (sym e ∙ via.0), via.1, via.2)

  no_trunks : (i j : ℕ) (p : Point) → i ≢ j → OnTrunk i p → OnTrunk j p → ⊥
  no_trunks i j p differ a b = trunks_apart ch.low wire intervals track i j p.x p.y sizes assigned differ a b

  clash_layer : (i j k : ℕ) (s u : Shape) (p : Point) → i ≢ j → k < 4 → IsSpot i s p → IsSpot j u p → s.layer ≡ slice_index wire.metals k → u.layer ≡ slice_index wire.metals k → ⊥
  clash_layer i j k s u p differ lt a b e f = by (on_metal i k s p a lt e) (on_metal j k u p b lt f) where
    by : ((k ≡ 2) × OnTrunk i p) ⊎ (((k ≡ 3) × IsAtPin wire ch.top i p.x) ⊎ ((k ≡ 1) × IsAtPin wire ch.bottom i p.x)) → ((k ≡ 2) × OnTrunk j p) ⊎ (((k ≡ 3) × IsAtPin wire ch.top j p.x) ⊎ ((k ≡ 1) × IsAtPin wire ch.bottom j p.x)) → ⊥
    by (inl c) (inl d) = no_trunks i j p differ c.1 d.1
    by (inl c) (inr (inl d)) = omega (arith, c.0, d.0)
    by (inl c) (inr (inr d)) = omega (arith, c.0, d.0)
    by (inr (inl c)) (inl d) = omega (arith, c.0, d.0)
    by (inr (inl c)) (inr (inl d)) = pins_apart wire ch.top i j p.x sizes none_top differ c.1 d.1
    by (inr (inl c)) (inr (inr d)) = omega (arith, c.0, d.0)
    by (inr (inr c)) (inl d) = omega (arith, c.0, d.0)
    by (inr (inr c)) (inr (inl d)) = omega (arith, c.0, d.0)
    by (inr (inr c)) (inr (inr d)) = pins_apart wire ch.bottom i j p.x sizes none_bottom differ c.1 d.1

  clash_cut : (i j c k : ℕ) (s u : Shape) (p : Point) → i ≢ j → c < 3 → (k ≡ c) ⊎ (k ≡ c + 1) → IsSpot i s p → IsSpot j u p → s.layer ≡ slice_index wire.cuts c → u.layer ≡ slice_index wire.metals k → ⊥
  clash_cut i j c k s u p differ lt near a b e f = by near (on_cut i c s p a lt e) (on_metal j k u p b (elim near [ inl same ↦ omega (arith, same, lt) | inr next ↦ omega (arith, next, lt) ]) f) where
    by : (k ≡ c) ⊎ (k ≡ c + 1) → ((c ≡ 2) × OnTrunk i p × IsAtPin wire ch.top i p.x) ⊎ ((c ≡ 1) × OnTrunk i p × IsAtPin wire ch.bottom i p.x) → ((k ≡ 2) × OnTrunk j p) ⊎ (((k ≡ 3) × IsAtPin wire ch.top j p.x) ⊎ ((k ≡ 1) × IsAtPin wire ch.bottom j p.x)) → ⊥
    by near (inl v) (inl d) = no_trunks i j p differ v.1 d.1
    by near (inl v) (inr (inl d)) = pins_apart wire ch.top i j p.x sizes none_top differ v.2 d.1
    by (inl same) (inl v) (inr (inr d)) = omega (arith, same, v.0, d.0)
    by (inr next) (inl v) (inr (inr d)) = omega (arith, next, v.0, d.0)
    by near (inr v) (inl d) = no_trunks i j p differ v.1 d.1
    by (inl same) (inr v) (inr (inl d)) = omega (arith, same, v.0, d.0)
    by (inr next) (inr v) (inr (inl d)) = omega (arith, next, v.0, d.0)
    by near (inr v) (inr (inr d)) = pins_apart wire ch.bottom i j p.x sizes none_bottom differ v.2 d.1

  by_cut : (tech : Tech) (i j : ℕ) (s u : Shape) → tech.connects ≡ wire_connects wire → i ≢ j → IsOfNet ch wire intervals track tracks i s → IsOfNet ch wire intervals track tracks j u → TouchByCut tech.connects s u → ⊥
  by_cut tech i j s u wired differ of_i of_j touch =
      let cut = cut_to wire tech s.layer u.layer wired touch.connects in
      let p : Point = record { x = touch.area.x; y = touch.area.y } in
      let a = spot i s p of_i (closed s touch.area.in_a) in
      let b = spot j u p of_j (closed u touch.area.in_b) in
      elim cut.3 [
        | inl same ↦ clash_cut i j cut.0 cut.0 s u p differ cut.1 (inl refl) a b cut.2 same
        | inr next ↦ clash_cut i j cut.0 (cut.0 + 1) s u p differ cut.1 (inr refl) a b cut.2 next
      ] where
        closed : (v : Shape) → HasCell v.rect touch.area.x touch.area.y → IsIn v.rect (record { x = touch.area.x; y = touch.area.y })
        closed v cell = record { left = cell.left; right = (let lt = cell.right in omega (arith, ints, lt)); low = cell.low; high = (let lt = cell.high in omega (arith, ints, lt)) }

  -- wires of different nets don't touch
  pub apart : (tech : Tech) (i j : ℕ) (s u : Shape) → tech.connects ≡ wire_connects wire → i ≢ j → IsOfNet ch wire intervals track tracks i s → IsOfNet ch wire intervals track tracks j u → Touch tech.connects s u → ⊥
  apart tech i j s u wired differ of_i of_j (inl layer) =
      let metal = conductor wire tech s.layer wired layer.conductor in
      clash_layer i j metal.0 s u layer.joined.p differ metal.1 (spot i s layer.joined.p of_i layer.joined.p_in_a) (spot j u layer.joined.p of_j layer.joined.p_in_b) metal.2 (sym layer.one_layer ∙ metal.2)
  apart tech i j s u wired differ of_i of_j (inr (inl cut)) = by_cut tech i j s u wired differ of_i of_j cut
  apart tech i j s u wired differ of_i of_j (inr (inr cut)) = by_cut tech j i u s wired (λ e. differ (sym e)) of_j of_i cut
