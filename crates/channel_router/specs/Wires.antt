-- The shapes of a channel: a trunk for each net, and a branch and a cut for each pin.
use Rattle.std.specs.Prelude.{◌⊎◌, ℕ, ℤ, pos, ◌+ℤ◌, ◌*ℤ◌, ◌≤ℤ◌, List, Contains, slice_index}
use Rattle.or_geom.specs.declared.shape.Shape.{Shape}
use Rattle.tech_rules.specs.declared.tech.Wire.{Wire}
use Rattle.wire_drawing.specs.Drawing.{IsBox, IsVia, pitch}
use Rattle.channel_router.specs.declared.channel.Channel.{Channel}
use Rattle.channel_router.specs.declared.channel.Interval.{Interval}
use Rattle.channel_router.specs.Channel.{IsPinOf}
use Rattle.channel_router.specs.Tracks.{HasTrack}

-- a space, and a pitch for each track
abbrev pub channel_height : Wire → ℕ → ℤ
channel_height wire tracks = wire.space +ℤ (pos tracks *ℤ pitch wire)

-- up to 2^50
pub record IsChannelHeight (z : ℤ) : Type 0 where
  pub above : pos 0 ≤ℤ z
  pub below : z ≤ℤ pos 1125899906842624

-- the lower edge of track t: it stands on a channel of so many tracks
abbrev pub track_y : ℤ → Wire → ℕ → ℤ
track_y low wire t = low +ℤ channel_height wire t

-- Metals and cuts are counted from 0 in their lists, so that the third metal is at 2.
-- the wire on the third metal along the track, over the interval and a wire's width further
abbrev pub IsTrunk : ℤ → Wire → Interval → ℕ → Shape → Type 0
IsTrunk low wire interval t =
    let y = track_y low wire t in
    IsBox (slice_index wire.metals 2) interval.left y (interval.right +ℤ wire.width) (y +ℤ wire.width)

-- from its track up to the channel's upper end on the fourth metal, or the cut between third and fourth
abbrev pub IsTopBranch : ℤ → Wire → ℕ → ℕ → ℤ → Shape → Type 0
IsTopBranch low wire tracks t x shape =
    let y = track_y low wire t in
    IsBox (slice_index wire.metals 3) x y (x +ℤ wire.width) (low +ℤ channel_height wire tracks) shape ⊎ IsVia wire 2 x y shape

-- from the channel's lower end up to its track on the second metal, or the cut between second and third
abbrev pub IsBottomBranch : ℤ → Wire → ℕ → ℤ → Shape → Type 0
IsBottomBranch low wire t x shape =
    let y = track_y low wire t in
    IsBox (slice_index wire.metals 1) x low (x +ℤ wire.width) (y +ℤ wire.width) shape ⊎ IsVia wire 1 x y shape

-- the net's trunk, or a shape of one of its pins
abbrev pub IsWireOf : Channel → Wire → ℕ → ℕ → Interval → ℕ → Shape → Type 0
IsWireOf ch wire tracks net interval t shape =
    IsTrunk ch.low wire interval t shape
    ⊎ (((x : ℤ) × IsPinOf ch.top net x × IsTopBranch ch.low wire tracks t x shape)
    ⊎ ((x : ℤ) × IsPinOf ch.bottom net x × IsBottomBranch ch.low wire t x shape))

-- the shape is one of this net's
pub record IsOfNet (ch : Channel) (wire : Wire) (intervals : List Interval) (track : List ℕ) (tracks net : ℕ) (shape : Shape) : Type 0 where
  pub interval : Interval
  pub t : ℕ
  pub has : HasTrack intervals track net interval t
  pub wires : IsWireOf ch wire tracks net interval t shape

-- the list has all shapes of the channel's nets and no others
pub record AreWires (ch : Channel) (wire : Wire) (intervals : List Interval) (track : List ℕ) (tracks : ℕ) (shapes : List Shape) : Type 0 where
  pub all : (net : ℕ) (shape : Shape) → IsOfNet ch wire intervals track tracks net shape → Contains shapes shape
  pub only : (shape : Shape) → Contains shapes shape → (net : ℕ) × IsOfNet ch wire intervals track tracks net shape
