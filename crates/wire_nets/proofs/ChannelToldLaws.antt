-- Wires of a channel whose pins are apart are of one net, or keep the wires' space.
use Rattle.std.proofs.Common.{◌≡◌, ◌⊎◌, inl, inr, ◌∙◌, ℕ, ◌<◌, ℤ, pos, ◌+ℤ◌, ◌*ℤ◌, ◌≤ℤ◌, ◌<ℤ◌, List, sym, ap, subst, arith}
use Rattle.std.specs.Prelude.{slice_index, slice_get, Some}
use Rattle.std.proofs.lemmas.Bool.{cases_lt, cases_eq}
use Rattle.std.proofs.lemmas.Int.{ints}
use Rattle.or_geom.specs.declared.shape.Shape.{Shape}
use Rattle.or_geom.proofs.ListLaws.{one_at}
use Rattle.tech_rules.specs.declared.tech.Wire.{Wire}
use Rattle.wire_drawing.specs.Drawing.{IsBox, IsVia, pitch}
use Rattle.tech_rules.specs.Facts.{AreSizes}
use Rattle.tech_rules.specs.WireRules.{margin}
use Rattle.channel_router.specs.declared.channel.Channel.{Channel}
use Rattle.channel_router.specs.declared.channel.ChannelPin.{ChannelPin}
use Rattle.channel_router.specs.declared.channel.Interval.{Interval}
use Rattle.channel_router.specs.Channel.{IsPinOf}
use Rattle.channel_router.specs.Tracks.{HasTrack, IsAssignment}
use Rattle.channel_router.specs.Wires.{IsOfNet, IsWireOf, IsTrunk, channel_height, track_y}
use Rattle.channel_router.specs.Apart.{AreSevenLayers}
use Rattle.good_places.proofs.NumberLaws.{banks_before}
use Rattle.good_wires.specs.Spaced.{AreApart}
use Rattle.good_wires.specs.Channels.{ArePinsApart}
use Rattle.good_wires.proofs.LayerLaws.{metals_differ, cuts_differ, cut_no_metal}
use Rattle.wire_nets.proofs.ToldLaws.{told_back, box_left, box_right, box_below, box_above, behind}
use Rattle.good_places.proofs.LaidLaws.{pitch_low}

-- cuts in the middle of squares that are a pitch apart
vias_left : {A : Type 0} (wire : Wire) (cut : ℕ) (x y u v : ℤ) (s t : Shape) → AreSizes wire → IsVia wire cut x y s → IsVia wire cut u v t → (x +ℤ pitch wire) ≤ℤ u → A ⊎ AreApart wire.space s.rect t.rect
vias_left wire cut x y u v s t sizes a b le =
    box_left wire.space (slice_index wire.cuts cut) (slice_index wire.cuts cut) (x +ℤ margin wire) (y +ℤ margin wire) ((x +ℤ margin wire) +ℤ wire.cut) ((y +ℤ margin wire) +ℤ wire.cut) (u +ℤ margin wire) (v +ℤ margin wire) ((u +ℤ margin wire) +ℤ wire.cut) ((v +ℤ margin wire) +ℤ wire.cut) s t a b
    (go x u (margin wire) wire.cut wire.space wire.width sizes.centred.narrow le)
  where
    go : (x u m c s w : ℤ) → c <ℤ w → (x +ℤ (w +ℤ s)) ≤ℤ u → (((x +ℤ m) +ℤ c) +ℤ s) ≤ℤ (u +ℤ m)
    go x u m c s w n le = omega (arith, ints, n, le)

-- a track ends a space before a higher one
pub lower_track : (low : ℤ) (wire : Wire) (t v : ℕ) → AreSizes wire → t < v → ((track_y low wire t +ℤ wire.width) +ℤ wire.space) ≤ℤ track_y low wire v
lower_track low wire t v sizes lt = go low wire.width wire.space (pos t *ℤ pitch wire) (pos v *ℤ pitch wire) (banks_before t v (pitch wire) lt (pitch_low wire sizes)) where
  go : (low w s t v : ℤ) → (t +ℤ (w +ℤ s)) ≤ℤ v → (((low +ℤ (s +ℤ t)) +ℤ w) +ℤ s) ≤ℤ (low +ℤ (s +ℤ v))
  go low w s t v le = omega (arith, ints, le)

module _ (ch : Channel) (wire : Wire) (intervals : List Interval) (track : List ℕ) (tracks : ℕ) (sizes : AreSizes wire) (seven : AreSevenLayers wire) (assigned : IsAssignment (pitch wire) intervals track) (top : ArePinsApart wire ch.top) (bottom : ArePinsApart wire ch.bottom) where
  abbrev Told : ℕ → ℕ → Shape → Shape → Type 0
  Told i j s u = (i ≡ j) ⊎ AreApart wire.space s.rect u.rect

  abbrev y_of : ℕ → ℤ
  y_of t = track_y ch.low wire t

  same_y : (t v : ℕ) → t ≡ v → y_of t ≡ y_of v
  same_y t v e = ap (λ (n : ℕ). track_y ch.low wire n) e

  -- a net has one interval and one track
  one_interval : (i j t v : ℕ) (a b : Interval) → i ≡ j → HasTrack intervals track i a t → HasTrack intervals track j b v → a ≡ b
  one_interval i j t v a b e p q = one_at intervals i a b p.there (subst (λ (k : ℕ). slice_get intervals k ≡ Some b) (sym e) q.there)

  one_track : (i j t v : ℕ) (a b : Interval) → i ≡ j → HasTrack intervals track i a t → HasTrack intervals track j b v → t ≡ v
  one_track i j t v a b e p q = one_at track i t v p.on (subst (λ (k : ℕ). slice_get track k ≡ Some v) (sym e) q.on)

  abbrev metal : ℕ → ℕ
  metal k = slice_index wire.metals k

  trunks : (i j t v : ℕ) (a b : Interval) (s u : Shape) → HasTrack intervals track i a t → HasTrack intervals track j b v → IsTrunk ch.low wire a t s → IsTrunk ch.low wire b v u → Told i j s u
  trunks i j t v a b s u p q is at = elim (cases_eq i j) [
    | inl e ↦ inl e
    | inr differ ↦ elim (cases_lt t v) [
      | inl lt ↦ box_below wire.space (metal 2) (metal 2) a.left (y_of t) (a.right +ℤ wire.width) (y_of t +ℤ wire.width) b.left (y_of v) (b.right +ℤ wire.width) (y_of v +ℤ wire.width) s u is at (lower_track ch.low wire t v sizes lt)
      | inr ge ↦ elim (cases_lt v t) [
        | inl lt ↦ box_above wire.space (metal 2) (metal 2) a.left (y_of t) (a.right +ℤ wire.width) (y_of t +ℤ wire.width) b.left (y_of v) (b.right +ℤ wire.width) (y_of v +ℤ wire.width) s u is at (lower_track ch.low wire v t sizes lt)
        | inr le ↦
            let e : v ≡ t = omega (arith, ge, le) in
            elim (assigned.apart i j t a b differ p (subst (HasTrack intervals track j b) e q)) [
              | inl before ↦ box_left wire.space (metal 2) (metal 2) a.left (y_of t) (a.right +ℤ wire.width) (y_of t +ℤ wire.width) b.left (y_of v) (b.right +ℤ wire.width) (y_of v +ℤ wire.width) s u is at (behind a.right b.left wire.width wire.space before)
              | inr after ↦ box_right wire.space (metal 2) (metal 2) a.left (y_of t) (a.right +ℤ wire.width) (y_of t +ℤ wire.width) b.left (y_of v) (b.right +ℤ wire.width) (y_of v +ℤ wire.width) s u is at (behind b.right a.left wire.width wire.space after)
            ]
      ]
    ]
  ]

  abbrev upper : ℤ
  upper = ch.low +ℤ channel_height wire tracks

  -- branches of one side, where the pins are one pin or apart
  top_boxes : (i j t v : ℕ) (a b : Interval) (x y : ℤ) (s u : Shape) → HasTrack intervals track i a t → HasTrack intervals track j b v → IsPinOf ch.top i x → IsPinOf ch.top j y → IsBox (metal 3) x (y_of t) (x +ℤ wire.width) upper s → IsBox (metal 3) y (y_of v) (y +ℤ wire.width) upper u → Told i j s u
  top_boxes i j t v a b x y s u p q m n is at = elim (top i j x y m n) [
    | inl one ↦ inl one.0
    | inr apart ↦ elim apart [
      | inl before ↦ box_left wire.space (metal 3) (metal 3) x (y_of t) (x +ℤ wire.width) upper y (y_of v) (y +ℤ wire.width) upper s u is at (behind x y wire.width wire.space before)
      | inr after ↦ box_right wire.space (metal 3) (metal 3) x (y_of t) (x +ℤ wire.width) upper y (y_of v) (y +ℤ wire.width) upper s u is at (behind y x wire.width wire.space after)
    ]
  ]

  bottom_boxes : (i j t v : ℕ) (a b : Interval) (x y : ℤ) (s u : Shape) → HasTrack intervals track i a t → HasTrack intervals track j b v → IsPinOf ch.bottom i x → IsPinOf ch.bottom j y → IsBox (metal 1) x ch.low (x +ℤ wire.width) (y_of t +ℤ wire.width) s → IsBox (metal 1) y ch.low (y +ℤ wire.width) (y_of v +ℤ wire.width) u
      → Told i j s u
  bottom_boxes i j t v a b x y s u p q m n is at = elim (bottom i j x y m n) [
    | inl one ↦ inl one.0
    | inr apart ↦ elim apart [
      | inl before ↦ box_left wire.space (metal 1) (metal 1) x ch.low (x +ℤ wire.width) (y_of t +ℤ wire.width) y ch.low (y +ℤ wire.width) (y_of v +ℤ wire.width) s u is at (behind x y wire.width wire.space before)
      | inr after ↦ box_right wire.space (metal 1) (metal 1) x ch.low (x +ℤ wire.width) (y_of t +ℤ wire.width) y ch.low (y +ℤ wire.width) (y_of v +ℤ wire.width) s u is at (behind y x wire.width wire.space after)
    ]
  ]

  vias : (pins : List ChannelPin) (apart : ArePinsApart wire pins) (cut i j t v : ℕ) (a b : Interval) (x y : ℤ) (s u : Shape) → HasTrack intervals track i a t → HasTrack intervals track j b v → IsPinOf pins i x → IsPinOf pins j y → IsVia wire cut x (y_of t) s → IsVia wire cut y (y_of v) u → Told i j s u
  vias pins apart cut i j t v a b x y s u p q m n is at = elim (apart i j x y m n) [
    | inl one ↦ inl one.0
    | inr far ↦ elim far [
      | inl before ↦ vias_left wire cut x (y_of t) y (y_of v) s u sizes is at before
      | inr after ↦ back (vias_left wire cut y (y_of v) x (y_of t) u s sizes at is after)
    ]
  ] where
    back : Told j i u s → Told i j s u
    back h = told_back wire.space u.rect s.rect sym h

  no_metals : (i j : ℕ) (m n : ℕ) → i < 4 → j < 4 → (i ≡ j → ⊥) → m ≡ slice_index wire.metals i → n ≡ slice_index wire.metals j → m ≡ n → ⊥
  no_metals i j m n a b differ p q e = metals_differ wire i j seven a b differ (sym p ∙ e ∙ q)

  no_cuts : (i j : ℕ) (m n : ℕ) → i < 3 → j < 3 → (i ≡ j → ⊥) → m ≡ slice_index wire.cuts i → n ≡ slice_index wire.cuts j → m ≡ n → ⊥
  no_cuts i j m n a b differ p q e = cuts_differ wire i j seven a b differ (sym p ∙ e ∙ q)

  no_cut : (i j : ℕ) (m n : ℕ) → i < 3 → j < 4 → m ≡ slice_index wire.cuts i → n ≡ slice_index wire.metals j → m ≡ n → ⊥
  no_cut i j m n a b p q e = cut_no_metal wire i j seven a b (sym p ∙ e ∙ q)

  wires : (i j t v : ℕ) (a b : Interval) (s u : Shape) → HasTrack intervals track i a t → HasTrack intervals track j b v → s.layer ≡ u.layer → IsWireOf ch wire tracks i a t s → IsWireOf ch wire tracks j b v u → Told i j s u
  wires i j t v a b s u p q e (inl is) (inl at) = trunks i j t v a b s u p q is at
  wires i j t v a b s u p q e (inl is) (inr (inl (y, n, inl at))) = absurd (no_metals 2 3 s.layer u.layer (omega arith) (omega arith) (λ z. omega (arith, z)) is.on at.on e)
  wires i j t v a b s u p q e (inl is) (inr (inl (y, n, inr at))) = absurd (no_cut 2 2 u.layer s.layer (omega arith) (omega arith) at.on is.on (sym e))
  wires i j t v a b s u p q e (inl is) (inr (inr (y, n, inl at))) = absurd (no_metals 2 1 s.layer u.layer (omega arith) (omega arith) (λ z. omega (arith, z)) is.on at.on e)
  wires i j t v a b s u p q e (inl is) (inr (inr (y, n, inr at))) = absurd (no_cut 1 2 u.layer s.layer (omega arith) (omega arith) at.on is.on (sym e))
  wires i j t v a b s u p q e (inr (inl (x, m, inl is))) (inl at) = absurd (no_metals 3 2 s.layer u.layer (omega arith) (omega arith) (λ z. omega (arith, z)) is.on at.on e)
  wires i j t v a b s u p q e (inr (inl (x, m, inl is))) (inr (inl (y, n, inl at))) = top_boxes i j t v a b x y s u p q m n is at
  wires i j t v a b s u p q e (inr (inl (x, m, inl is))) (inr (inl (y, n, inr at))) = absurd (no_cut 2 3 u.layer s.layer (omega arith) (omega arith) at.on is.on (sym e))
  wires i j t v a b s u p q e (inr (inl (x, m, inl is))) (inr (inr (y, n, inl at))) = absurd (no_metals 3 1 s.layer u.layer (omega arith) (omega arith) (λ z. omega (arith, z)) is.on at.on e)
  wires i j t v a b s u p q e (inr (inl (x, m, inl is))) (inr (inr (y, n, inr at))) = absurd (no_cut 1 3 u.layer s.layer (omega arith) (omega arith) at.on is.on (sym e))
  wires i j t v a b s u p q e (inr (inl (x, m, inr is))) (inl at) = absurd (no_cut 2 2 s.layer u.layer (omega arith) (omega arith) is.on at.on e)
  wires i j t v a b s u p q e (inr (inl (x, m, inr is))) (inr (inl (y, n, inl at))) = absurd (no_cut 2 3 s.layer u.layer (omega arith) (omega arith) is.on at.on e)
  wires i j t v a b s u p q e (inr (inl (x, m, inr is))) (inr (inl (y, n, inr at))) = vias ch.top top 2 i j t v a b x y s u p q m n is at
  wires i j t v a b s u p q e (inr (inl (x, m, inr is))) (inr (inr (y, n, inl at))) = absurd (no_cut 2 1 s.layer u.layer (omega arith) (omega arith) is.on at.on e)
  wires i j t v a b s u p q e (inr (inl (x, m, inr is))) (inr (inr (y, n, inr at))) = absurd (no_cuts 2 1 s.layer u.layer (omega arith) (omega arith) (λ z. omega (arith, z)) is.on at.on e)
  wires i j t v a b s u p q e (inr (inr (x, m, inl is))) (inl at) = absurd (no_metals 1 2 s.layer u.layer (omega arith) (omega arith) (λ z. omega (arith, z)) is.on at.on e)
  wires i j t v a b s u p q e (inr (inr (x, m, inl is))) (inr (inl (y, n, inl at))) = absurd (no_metals 1 3 s.layer u.layer (omega arith) (omega arith) (λ z. omega (arith, z)) is.on at.on e)
  wires i j t v a b s u p q e (inr (inr (x, m, inl is))) (inr (inl (y, n, inr at))) = absurd (no_cut 2 1 u.layer s.layer (omega arith) (omega arith) at.on is.on (sym e))
  wires i j t v a b s u p q e (inr (inr (x, m, inl is))) (inr (inr (y, n, inl at))) = bottom_boxes i j t v a b x y s u p q m n is at
  wires i j t v a b s u p q e (inr (inr (x, m, inl is))) (inr (inr (y, n, inr at))) = absurd (no_cut 1 1 u.layer s.layer (omega arith) (omega arith) at.on is.on (sym e))
  wires i j t v a b s u p q e (inr (inr (x, m, inr is))) (inl at) = absurd (no_cut 1 2 s.layer u.layer (omega arith) (omega arith) is.on at.on e)
  wires i j t v a b s u p q e (inr (inr (x, m, inr is))) (inr (inl (y, n, inl at))) = absurd (no_cut 1 3 s.layer u.layer (omega arith) (omega arith) is.on at.on e)
  wires i j t v a b s u p q e (inr (inr (x, m, inr is))) (inr (inl (y, n, inr at))) = absurd (no_cuts 1 2 s.layer u.layer (omega arith) (omega arith) (λ z. omega (arith, z)) is.on at.on e)
  wires i j t v a b s u p q e (inr (inr (x, m, inr is))) (inr (inr (y, n, inl at))) = absurd (no_cut 1 1 s.layer u.layer (omega arith) (omega arith) is.on at.on e)
  wires i j t v a b s u p q e (inr (inr (x, m, inr is))) (inr (inr (y, n, inr at))) = vias ch.bottom bottom 1 i j t v a b x y s u p q m n is at

pub channel_told : (ch : Channel) (wire : Wire) (intervals : List Interval) (track : List ℕ) (tracks : ℕ) → AreSizes wire → AreSevenLayers wire → IsAssignment (pitch wire) intervals track → ArePinsApart wire ch.top → ArePinsApart wire ch.bottom
    → (i j : ℕ) (s u : Shape) → IsOfNet ch wire intervals track tracks i s → IsOfNet ch wire intervals track tracks j u → s.layer ≡ u.layer → (i ≡ j) ⊎ AreApart wire.space s.rect u.rect
channel_told ch wire intervals track tracks sizes seven assigned top bottom i j s u is at e = wires ch wire intervals track tracks sizes seven assigned top bottom i j is.t at.t is.interval at.interval s u is.has at.has e is.wires at.wires
