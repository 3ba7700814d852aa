-- The wires of one net lead to each other over its trunk.
use Rattle.std.proofs.Common.{◌≡◌, inl, inr, ℕ, ℤ, pos, negsuc, ◌+ℤ◌, ◌*ℤ◌, ◌≤ℤ◌, ◌<ℤ◌, List, [], ◌∷◌, ◌++◌, refl, sym, subst, arith}
use Rattle.std.specs.Prelude.{Contains, slice_index}
use Rattle.std.proofs.lemmas.Int.{ints}
use Rattle.or_geom.specs.declared.shape.Shape.{Shape}
use Rattle.or_geom.specs.Covered.{HasCell}
use Rattle.or_geom.specs.Gathering.{SomeHas}
use Rattle.or_geom.proofs.ListLaws.{contains_first, contains_later, one_at}
use Rattle.tech_rules.specs.declared.tech.Connect.{Connect}
use Rattle.tech_rules.specs.declared.tech.Tech.{Tech}
use Rattle.tech_rules.specs.declared.tech.Wire.{Wire}
use Rattle.wire_drawing.specs.Drawing.{IsBox, IsVia}
use Rattle.tech_rules.specs.Facts.{AreSizes}
use Rattle.tech_rules.specs.Linked.{LeadsBy}
use Rattle.tech_rules.specs.Net.{AreOnOneNet}
use Rattle.tech_rules.specs.Touch.{IsCutTo, Joins, Touch, TouchByCut}
use Rattle.tech_rules.specs.WireRules.{margin}
use Rattle.wire_drawing.proofs.DrawingLaws.{same_box, twice_margin}
use Rattle.tech_rules.proofs.LinkedLaws.{leads_on}
use Rattle.channel_router.specs.declared.channel.Channel.{Channel}
use Rattle.channel_router.specs.declared.channel.Interval.{Interval}
use Rattle.channel_router.specs.Apart.{wire_connects}
use Rattle.channel_router.specs.Channel.{IsPinOf, places}
use Rattle.channel_router.specs.Intervals.{AreIntervals}
use Rattle.channel_router.specs.Tracks.{AreTracksBelow, HasTrack}
use Rattle.channel_router.specs.Wires.{AreWires, IsOfNet, IsTrunk, IsWireOf, channel_height, track_y}
use Rattle.channel_router.proofs.HeightLaws.{pitch_apart}
use Rattle.channel_router.proofs.PinLaws.{pin_left, pin_right}

first_of : (a b : ℕ) → Contains (a ∷ b ∷ []) a
first_of a b = contains_first a (b ∷ [])

second_of : (a b : ℕ) → Contains (a ∷ b ∷ []) b
second_of a b = contains_later a (b ∷ []) b (contains_first b [])

box_cell : (layer : ℕ) (x1 y1 x2 y2 x y : ℤ) (s : Shape) → IsBox layer x1 y1 x2 y2 s → x1 ≤ℤ x → x <ℤ x2 → y1 ≤ℤ y → y <ℤ y2 → HasCell s.rect x y
box_cell layer x1 y1 x2 y2 x y s b left right low high = record {
  left = subst (λ (z : ℤ). z ≤ℤ x) (sym b.left) left;
  right = subst (λ (z : ℤ). x <ℤ z) (sym b.right) right;
  low = subst (λ (z : ℤ). z ≤ℤ y) (sym b.low) low;
  high = subst (λ (z : ℤ). y <ℤ z) (sym b.high) high;
}

more : (y w : ℤ) → pos 1 ≤ℤ w → y <ℤ (y +ℤ w)
more y w some = omega (arith, ints, some)

inside : (wire : Wire) → AreSizes wire → (pos 0 ≤ℤ margin wire) × (margin wire <ℤ wire.width)
inside wire sizes =
    let twice = twice_margin wire sizes in
    let narrow = sizes.centred.narrow in
    let some = sizes.cut.from in
    (omega (arith, ints, twice, narrow, some), omega (arith, ints, twice, narrow, some))

itself : (y : ℤ) → y ≤ℤ y
itself y = omega (arith, ints)

from_zero : (y m : ℤ) → pos 0 ≤ℤ m → y ≤ℤ (y +ℤ m)
from_zero y m low = omega (arith, ints, low)

below_width : (y m w : ℤ) → m <ℤ w → (y +ℤ m) <ℤ (y +ℤ w)
below_width y m w lt = omega (arith, ints, lt)

multiple : (t : ℕ) (p : ℤ) → pos 0 ≤ℤ p → pos 0 ≤ℤ (pos t *ℤ p)
multiple t (pos p) low = omega (arith, ints)
multiple t (negsuc p) low = absurd (omega (arith, ints, low))

module _ (ch : Channel) (wire : Wire) (intervals : List Interval) (track : List ℕ) (tracks : ℕ) (shapes : List Shape) (sizes : AreSizes wire) (are : AreIntervals ch intervals) (below : AreTracksBelow track tracks) (wires : AreWires ch wire intervals track tracks shapes) (tech : Tech) (wired : tech.connects ≡ wire_connects wire) where
  joins_first_top : IsCutTo tech.connects (slice_index wire.cuts 2) (slice_index wire.metals 2)
  joins_first_top = subst (λ (cs : List Connect). SomeHas (Joins (slice_index wire.cuts 2) (slice_index wire.metals 2)) cs) (sym wired) (inr (inr (inl (record { by = refl; to = first_of (slice_index wire.metals 2) (slice_index wire.metals 3) }))))

  joins_top : IsCutTo tech.connects (slice_index wire.cuts 2) (slice_index wire.metals 3)
  joins_top = subst (λ (cs : List Connect). SomeHas (Joins (slice_index wire.cuts 2) (slice_index wire.metals 3)) cs) (sym wired) (inr (inr (inl (record { by = refl; to = second_of (slice_index wire.metals 2) (slice_index wire.metals 3) }))))

  joins_bottom : IsCutTo tech.connects (slice_index wire.cuts 1) (slice_index wire.metals 1)
  joins_bottom = subst (λ (cs : List Connect). SomeHas (Joins (slice_index wire.cuts 1) (slice_index wire.metals 1)) cs) (sym wired) (inr (inl (record { by = refl; to = first_of (slice_index wire.metals 1) (slice_index wire.metals 2) })))

  joins_first_bottom : IsCutTo tech.connects (slice_index wire.cuts 1) (slice_index wire.metals 2)
  joins_first_bottom = subst (λ (cs : List Connect). SomeHas (Joins (slice_index wire.cuts 1) (slice_index wire.metals 2)) cs) (sym wired) (inr (inl (record { by = refl; to = second_of (slice_index wire.metals 1) (slice_index wire.metals 2) })))

  touching : (cut other : ℕ) (v b : Shape) (x y : ℤ) → IsCutTo tech.connects cut other → v.layer ≡ cut → b.layer ≡ other → HasCell v.rect x y → HasCell b.rect x y → TouchByCut tech.connects v b
  touching cut other v b x y joins e f in_v in_b = record {
    connects = subst (λ (l : ℕ). IsCutTo tech.connects l b.layer) (sym e) (subst (λ (l : ℕ). IsCutTo tech.connects cut l) (sym f) joins);
    area = record { x = x; y = y; in_a = in_v; in_b = in_b };
  }

  module _ (net : ℕ) (a : Interval) (t : ℕ) (has : HasTrack intervals track net a t) where
    wide : a.left <ℤ (a.right +ℤ wire.width)
    wide = let is = are.of_net net a has.there in let le = is.least a.right is.ends in let w = sizes.width.from in omega (arith, ints, le, w)

    abbrev trunk : Shape
    trunk = record {
      layer = slice_index wire.metals 2;
      rect = record {
        x1 = a.left;
        y1 = track_y ch.low wire t;
        x2 = a.right +ℤ wire.width;
        y2 = track_y ch.low wire t +ℤ wire.width;
        wide = wide;
        tall = more (track_y ch.low wire t) wire.width sizes.width.from;
      };
    }

    abbrev via : ℕ → ℤ → Shape
    via cut x = record {
      layer = slice_index wire.cuts cut;
      rect = record {
        x1 = x +ℤ margin wire;
        y1 = track_y ch.low wire t +ℤ margin wire;
        x2 = x +ℤ margin wire +ℤ wire.cut;
        y2 = track_y ch.low wire t +ℤ margin wire +ℤ wire.cut;
        wide = more (x +ℤ margin wire) wire.cut sizes.cut.from;
        tall = more (track_y ch.low wire t +ℤ margin wire) wire.cut sizes.cut.from;
      };
    }

    is_trunk : IsTrunk ch.low wire a t trunk
    is_trunk = record { on = refl; left = refl; low = refl; right = refl; high = refl }

    is_via : (cut : ℕ) (x : ℤ) → IsVia wire cut x (track_y ch.low wire t) (via cut x)
    is_via cut x = record { on = refl; left = refl; low = refl; right = refl; high = refl }

    there : (s : Shape) → IsWireOf ch wire tracks net a t s → Contains shapes s
    there s is = wires.all net s (record { interval = a; t = t; has = has; wires = is })

    in_via : (cut : ℕ) (x : ℤ) (v : Shape) → IsVia wire cut x (track_y ch.low wire t) v → HasCell v.rect (x +ℤ margin wire) (track_y ch.low wire t +ℤ margin wire)
    in_via cut x v is =
        let c = sizes.cut.from in
        box_cell _ _ _ _ _ (x +ℤ margin wire) (track_y ch.low wire t +ℤ margin wire) v is (omega (arith, ints)) (more (x +ℤ margin wire) wire.cut c) (itself (track_y ch.low wire t +ℤ margin wire)) (more (track_y ch.low wire t +ℤ margin wire) wire.cut c)

    in_trunk : (x : ℤ) (s : Shape) → IsPinOf (places ch) net x → IsTrunk ch.low wire a t s → HasCell s.rect (x +ℤ margin wire) (track_y ch.low wire t +ℤ margin wire)
    in_trunk x s pin is =
        let m = inside wire sizes in
        let is_interval = are.of_net net a has.there in
        let from = is_interval.least x pin in
        let to = is_interval.greatest x pin in
        let m_low = m.0 in
        let m_high = m.1 in
        box_cell _ _ _ _ _ (x +ℤ margin wire) (track_y ch.low wire t +ℤ margin wire) s is (omega (arith, ints, from, m_low)) (omega (arith, ints, to, m_high)) (from_zero (track_y ch.low wire t) (margin wire) m_low) (below_width (track_y ch.low wire t) (margin wire) wire.width m_high)

    in_top : (x : ℤ) (s : Shape) → IsBox (slice_index wire.metals 3) x (track_y ch.low wire t) (x +ℤ wire.width) (ch.low +ℤ channel_height wire tracks) s → HasCell s.rect (x +ℤ margin wire) (track_y ch.low wire t +ℤ margin wire)
    in_top x s is =
        let m = inside wire sizes in
        let w = sizes.width in
        let p = sizes.space in
        let gap = pitch_apart t tracks (wire.width +ℤ wire.space) (below net t has.on) (omega (arith, ints, w.from, p.from)) in
        box_cell _ _ _ _ _ (x +ℤ margin wire) (track_y ch.low wire t +ℤ margin wire) s is (from_zero x (margin wire) m.0) (below_width x (margin wire) wire.width m.1) (from_zero (track_y ch.low wire t) (margin wire) m.0)
        (reaches ch.low wire.space wire.width (margin wire) (pos t *ℤ (wire.width +ℤ wire.space)) (pos tracks *ℤ (wire.width +ℤ wire.space)) gap m.1 p.from) where
          reaches : (low s w m b e : ℤ) → (b +ℤ (w +ℤ s)) ≤ℤ e → m <ℤ w → pos 1 ≤ℤ s → ((low +ℤ (s +ℤ b)) +ℤ m) <ℤ (low +ℤ (s +ℤ e))
          reaches low s w m b e gap narrow some = omega (arith, ints, gap, narrow, some)

    in_bottom : (x : ℤ) (s : Shape) → IsBox (slice_index wire.metals 1) x ch.low (x +ℤ wire.width) (track_y ch.low wire t +ℤ wire.width) s → HasCell s.rect (x +ℤ margin wire) (track_y ch.low wire t +ℤ margin wire)
    in_bottom x s is =
        let m = inside wire sizes in
        let w = sizes.width in
        let p = sizes.space in
        let up = multiple t (wire.width +ℤ wire.space) (omega (arith, ints, w.from, p.from)) in
        box_cell _ _ _ _ _ (x +ℤ margin wire) (track_y ch.low wire t +ℤ margin wire) s is (from_zero x (margin wire) m.0) (below_width x (margin wire) wire.width m.1) (rises ch.low wire.space (margin wire) (pos t *ℤ (wire.width +ℤ wire.space)) up m.0 p.from) (below_width (track_y ch.low wire t) (margin wire) wire.width m.1) where
          rises : (low s m b : ℤ) → pos 0 ≤ℤ b → pos 0 ≤ℤ m → pos 1 ≤ℤ s → low ≤ℤ ((low +ℤ (s +ℤ b)) +ℤ m)
          rises low s m b up middle some = omega (arith, ints, up, middle, some)

    top_place : (x : ℤ) → IsPinOf ch.top net x → IsPinOf (places ch) net x
    top_place x pin = pin_left (ch.top ++ ch.bottom) ch.exits net x (pin_left ch.top ch.bottom net x pin)

    bottom_place : (x : ℤ) → IsPinOf ch.bottom net x → IsPinOf (places ch) net x
    bottom_place x pin = pin_left (ch.top ++ ch.bottom) ch.exits net x (pin_right ch.top ch.bottom net x pin)

    has_trunk : Contains shapes trunk
    has_trunk = there trunk (inl is_trunk)

    -- a cut of the top touches the trunk, and one of the bottom does
    top_cut : (x : ℤ) (v : Shape) → IsPinOf ch.top net x → IsVia wire 2 x (track_y ch.low wire t) v → TouchByCut tech.connects v trunk
    top_cut x v pin is = touching _ _ v trunk (x +ℤ margin wire) (track_y ch.low wire t +ℤ margin wire) joins_first_top is.on refl (in_via 2 x v is) (in_trunk x trunk (top_place x pin) is_trunk)

    bottom_cut : (x : ℤ) (v : Shape) → IsPinOf ch.bottom net x → IsVia wire 1 x (track_y ch.low wire t) v → TouchByCut tech.connects v trunk
    bottom_cut x v pin is = touching _ _ v trunk (x +ℤ margin wire) (track_y ch.low wire t +ℤ margin wire) joins_first_bottom is.on refl (in_via 1 x v is) (in_trunk x trunk (bottom_place x pin) is_trunk)

    to_trunk : (s : Shape) → IsWireOf ch wire tracks net a t s → (path : List Shape) × LeadsBy (Contains shapes) (Touch tech.connects) s path trunk
    to_trunk s (inl is) = ([], same_box _ _ _ _ _ s trunk is is_trunk)
    to_trunk s (inr (inl (x, pin, inr cut))) = (trunk ∷ [], (has_trunk, inr (inl (top_cut x s pin cut)), refl))
    to_trunk s (inr (inl (x, pin, inl branch))) = (
      via 2 x ∷ trunk ∷ [],
      (
        there (via 2 x) (inr (inl (x, pin, inr (is_via 2 x)))),
        inr (inr (touching _ _ (via 2 x) s (x +ℤ margin wire) (track_y ch.low wire t +ℤ margin wire) joins_top refl branch.on (in_via 2 x (via 2 x) (is_via 2 x)) (in_top x s branch))),
        (has_trunk, inr (inl (top_cut x (via 2 x) pin (is_via 2 x))), refl),
      ),
    )
    to_trunk s (inr (inr (x, pin, inr cut))) = (trunk ∷ [], (has_trunk, inr (inl (bottom_cut x s pin cut)), refl))
    to_trunk s (inr (inr (x, pin, inl branch))) = (
      via 1 x ∷ trunk ∷ [],
      (
        there (via 1 x) (inr (inr (x, pin, inr (is_via 1 x)))),
        inr (inr (touching _ _ (via 1 x) s (x +ℤ margin wire) (track_y ch.low wire t +ℤ margin wire) joins_bottom refl branch.on (in_via 1 x (via 1 x) (is_via 1 x)) (in_bottom x s branch))),
        (has_trunk, inr (inl (bottom_cut x (via 1 x) pin (is_via 1 x))), refl),
      ),
    )

    from_trunk : (s : Shape) → IsWireOf ch wire tracks net a t s → (path : List Shape) × LeadsBy (Contains shapes) (Touch tech.connects) trunk path s
    from_trunk s (inl is) = ([], same_box _ _ _ _ _ trunk s is_trunk is)
    from_trunk s (inr (inl (x, pin, inr cut))) = (s ∷ [], (there s (inr (inl (x, pin, inr cut))), inr (inr (top_cut x s pin cut)), refl))
    from_trunk s (inr (inl (x, pin, inl branch))) = (
      via 2 x ∷ s ∷ [],
      (
        there (via 2 x) (inr (inl (x, pin, inr (is_via 2 x)))),
        inr (inr (top_cut x (via 2 x) pin (is_via 2 x))),
        (there s (inr (inl (x, pin, inl branch))), inr (inl (touching _ _ (via 2 x) s (x +ℤ margin wire) (track_y ch.low wire t +ℤ margin wire) joins_top refl branch.on (in_via 2 x (via 2 x) (is_via 2 x)) (in_top x s branch))), refl),
      ),
    )
    from_trunk s (inr (inr (x, pin, inr cut))) = (s ∷ [], (there s (inr (inr (x, pin, inr cut))), inr (inr (bottom_cut x s pin cut)), refl))
    from_trunk s (inr (inr (x, pin, inl branch))) = (
      via 1 x ∷ s ∷ [],
      (
        there (via 1 x) (inr (inr (x, pin, inr (is_via 1 x)))),
        inr (inr (bottom_cut x (via 1 x) pin (is_via 1 x))),
        (there s (inr (inr (x, pin, inl branch))), inr (inl (touching _ _ (via 1 x) s (x +ℤ margin wire) (track_y ch.low wire t +ℤ margin wire) joins_bottom refl branch.on (in_via 1 x (via 1 x) (is_via 1 x)) (in_bottom x s branch))), refl),
      ),
    )

    joined : (s u : Shape) → IsWireOf ch wire tracks net a t s → IsWireOf ch wire tracks net a t u → AreOnOneNet tech.connects shapes s u
    joined s u is_s is_u =
        let first = to_trunk s is_s in
        let second = from_trunk u is_u in
        record { path = first.0 ++ second.0; leads = leads_on (Contains shapes) (Touch tech.connects) s trunk u first.0 second.0 first.1 second.1 }

  -- the wires of one net are one net of touching shapes
  pub one_net : (net : ℕ) (s u : Shape) → IsOfNet ch wire intervals track tracks net s → IsOfNet ch wire intervals track tracks net u → AreOnOneNet tech.connects shapes s u
  one_net net s u of_s of_u =
      let same_a = one_at intervals net of_u.interval of_s.interval of_u.has.there of_s.has.there in
      let same_t = one_at track net of_u.t of_s.t of_u.has.on of_s.has.on in
      joined net of_s.interval of_s.t of_s.has s u of_s.wires
      (subst (λ (t : ℕ). IsWireOf ch wire tracks net of_s.interval t u) same_t (subst (λ (a : Interval). IsWireOf ch wire tracks net a of_u.t u) same_a of_u.wires))
