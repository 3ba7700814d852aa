-- Wires at pins of a channel are there, in each bank; and where pins of upright cells stand.
use Rattle.std.proofs.Common.{◌≡◌, inl, inr, ◌∙◌, ℕ, ◌<◌, ℤ, pos, ◌+ℤ◌, ◌*ℤ◌, ◌≤ℤ◌, ◌<ℤ◌, refl, ap, arith}
use Rattle.std.specs.Prelude.{slice_index}
use Rattle.std.proofs.lemmas.Int.{ints, clamps}
use Rattle.or_geom.specs.declared.shape.Rect.{Rect}
use Rattle.or_geom.specs.declared.shape.Shape.{Shape}
use Rattle.or_geom.specs.Place.{placed, IsImage}
use Rattle.tech_rules.specs.declared.tech.Wire.{Wire}
use Rattle.wire_drawing.specs.Drawing.{IsBox}
use Rattle.tech_rules.specs.Facts.{AreSizes}
use Rattle.channel_router.specs.declared.channel.Channel.{Channel}
use Rattle.channel_router.specs.Channel.{IsPinOf}
use Rattle.channel_router.specs.Wires.{channel_height, track_y}
use Rattle.macro_layout.specs.Places.{upright}
use Rattle.macro_layout.specs.Channels.{IsChannelWire}
use Rattle.macro_layout.specs.Stated.{IsShifted}
use Rattle.macro_layout.proofs.RoutingLaws.{item_at}
use Rattle.sram_macro.specs.Stated.{TakesTracks}
use Rattle.good_wires.proofs.LevelLaws.{track_above, track_below}

pub zero_times : (q : ℤ) → pos 0 *ℤ q ≡ pos 0
zero_times q = grind (arith, ints)

-- Boxes

pub box_there : (layer : ℕ) (x1 y1 x2 y2 : ℤ) → x1 <ℤ x2 → y1 <ℤ y2 → (s : Shape) × IsBox layer x1 y1 x2 y2 s
box_there layer x1 y1 x2 y2 wide tall = (record { layer = layer; rect = record { x1 = x1; y1 = y1; x2 = x2; y2 = y2; wide = wide; tall = tall } }, record { on = refl; left = refl; low = refl; right = refl; high = refl })

less_moved : (a b d : ℤ) → a <ℤ b → (a +ℤ d) <ℤ (b +ℤ d)
less_moved a b d lt = omega (arith, ints, lt)

pub shift_there : (dx dy : ℤ) (s : Shape) → (t : Shape) × IsShifted dx dy s t
shift_there dx dy s = (
  record {
    layer = s.layer;
    rect = record {
      x1 = s.rect.x1 +ℤ dx;
      y1 = s.rect.y1 +ℤ dy;
      x2 = s.rect.x2 +ℤ dx;
      y2 = s.rect.y2 +ℤ dy;
      wide = less_moved s.rect.x1 s.rect.x2 dx s.rect.wide;
      tall = less_moved s.rect.y1 s.rect.y2 dy s.rect.tall;
    };
  },
  record { layer = refl; x1 = refl; y1 = refl; x2 = refl; y2 = refl },
)

-- a box further right
pub box_shifted : (dx : ℤ) (layer : ℕ) (x1 y1 x2 y2 : ℤ) (s t : Shape) → IsShifted dx (pos 0) s t → IsBox layer x1 y1 x2 y2 s → IsBox layer (x1 +ℤ dx) y1 (x2 +ℤ dx) y2 t
box_shifted dx layer x1 y1 x2 y2 s t sh is = record {
  on = sh.layer ∙ is.on;
  left = sh.x1 ∙ ap (λ (z : ℤ). z +ℤ dx) is.left;
  low = sh.y1 ∙ (ap (λ (z : ℤ). z +ℤ pos 0) is.low ∙ none y1);
  right = sh.x2 ∙ ap (λ (z : ℤ). z +ℤ dx) is.right;
  high = sh.y2 ∙ (ap (λ (z : ℤ). z +ℤ pos 0) is.high ∙ none y2);
} where
  none : (z : ℤ) → z +ℤ pos 0 ≡ z
  none z = omega (arith, ints)

pub box_as : (layer : ℕ) (x1 y1 x2 y2 u1 v1 u2 v2 : ℤ) (s : Shape) → x1 ≡ u1 → y1 ≡ v1 → x2 ≡ u2 → y2 ≡ v2 → IsBox layer x1 y1 x2 y2 s → IsBox layer u1 v1 u2 v2 s
box_as layer x1 y1 x2 y2 u1 v1 u2 v2 s a b c d is = record { on = is.on; left = is.left ∙ a; low = is.low ∙ b; right = is.right ∙ c; high = is.high ∙ d }

-- Pins of upright cells

pub record IsUpAt (x y : ℤ) (r s : Rect) : Type 0 where
  pub left : s.x1 ≡ r.x1 +ℤ x
  pub right : s.x2 ≡ r.x2 +ℤ x
  pub low : s.y1 ≡ r.y1 +ℤ y
  pub high : s.y2 ≡ r.y2 +ℤ y

pub up_at : (x y : ℤ) (r s : Rect) → IsImage (placed (upright x y)) r s → IsUpAt x y r s
up_at x y r s image = record {
  left = let wide = r.wide in let e = image.x1 in e ∙ omega (arith, ints, clamps, wide);
  right = let wide = r.wide in let e = image.x2 in e ∙ omega (arith, ints, clamps, wide);
  low = let tall = r.tall in let e = image.y1 in e ∙ omega (arith, ints, clamps, tall);
  high = let tall = r.tall in let e = image.y2 in e ∙ omega (arith, ints, clamps, tall);
}

pub image_there : (x y : ℤ) (r : Rect) → (s : Rect) × IsImage (placed (upright x y)) r s
image_there x y r = (
  record { x1 = r.x1 +ℤ x; y1 = r.y1 +ℤ y; x2 = r.x2 +ℤ x; y2 = r.y2 +ℤ y; wide = less_moved r.x1 r.x2 x r.wide; tall = less_moved r.y1 r.y2 y r.tall },
  record {
    x1 = let wide = r.wide in omega (arith, ints, clamps, wide);
    y1 = let tall = r.tall in omega (arith, ints, clamps, tall);
    x2 = let wide = r.wide in omega (arith, ints, clamps, wide);
    y2 = let tall = r.tall in omega (arith, ints, clamps, tall);
  },
)

-- Branches

-- a branch of the channel on a track of its, with its ends
pub record HasBranch (IsMeant : Channel → Type 0) (wire : Wire) (tracks : ℕ) (x y1 y2 : ℤ) (metal : ℕ) : Type 0 where
  pub shape : Shape
  pub is : IsChannelWire IsMeant wire tracks shape
  pub drawn : IsBox (slice_index wire.metals metal) x y1 (x +ℤ wire.width) y2 shape

module _ (IsMeant : Channel → Type 0) (wire : Wire) (sizes : AreSizes wire) (tracks : ℕ) (t : TakesTracks IsMeant wire tracks) where
  wide : (x w : ℤ) → pos 1 ≤ℤ w → x <ℤ (x +ℤ w)
  wide x w le = omega (arith, ints, le)

  -- below cells: from a track up to the channel's upper end
  pub record IsDown (x : ℤ) : Type 0 where
    pub on : ℕ
    pub under : on < tracks
    pub has : HasBranch IsMeant wire tracks x (track_y t.channel.low wire on) (t.channel.low +ℤ channel_height wire tracks) 3

  pub down_there : (number : ℕ) (x : ℤ) → number < t.channel.nets → IsPinOf t.channel.top number x → IsDown x
  down_there number x lt pin =
      let sized = t.routed.nets.each in
      let each = t.routed.lowest.each in
      let interval = item_at t.intervals number (omega (arith, sized, lt)) in
      let on = item_at t.track number (omega (arith, sized, each, lt)) in
      let below = t.routed.count.below number on.item on.is in
      let under = track_below t.channel.low (t.channel.low +ℤ channel_height wire tracks) wire on.item tracks sizes below refl in
      let box = box_there (slice_index wire.metals 3) x (track_y t.channel.low wire on.item) (x +ℤ wire.width) (t.channel.low +ℤ channel_height wire tracks) (wide x wire.width sizes.width.from) (tall (track_y t.channel.low wire on.item) wire.width wire.space (t.channel.low +ℤ channel_height wire tracks) under sizes.width.from sizes.space.from) in
      record {
        on = on.item;
        under = below;
        has = record {
          shape = box.0;
          is = record {
            channel = t.channel;
            intervals = t.intervals;
            track = t.track;
            routed = t.routed;
            net = number;
            drawn = record { interval = interval.item; t = on.item; has = record { there = interval.is; on = on.is }; wires = inr (inl (x, pin, inl box.1)) };
          };
          drawn = box.1;
        };
      }
    where
      tall : (y w s z : ℤ) → ((y +ℤ w) +ℤ s) ≤ℤ z → pos 1 ≤ℤ w → pos 1 ≤ℤ s → y <ℤ z
      tall y w s z a b c = omega (arith, ints, a, b, c)

  -- above cells: from the channel's lower end over a track
  pub record IsUp (x : ℤ) : Type 0 where
    pub on : ℕ
    pub under : on < tracks
    pub has : HasBranch IsMeant wire tracks x t.channel.low (track_y t.channel.low wire on +ℤ wire.width) 1

  pub up_there : (number : ℕ) (x : ℤ) → number < t.channel.nets → IsPinOf t.channel.bottom number x → IsUp x
  up_there number x lt pin =
      let sized = t.routed.nets.each in
      let each = t.routed.lowest.each in
      let interval = item_at t.intervals number (omega (arith, sized, lt)) in
      let on = item_at t.track number (omega (arith, sized, each, lt)) in
      let below = t.routed.count.below number on.item on.is in
      let over = track_above t.channel.low wire on.item sizes in
      let box = box_there (slice_index wire.metals 1) x t.channel.low (x +ℤ wire.width) (track_y t.channel.low wire on.item +ℤ wire.width) (wide x wire.width sizes.width.from) (tall t.channel.low wire.width wire.space (track_y t.channel.low wire on.item) over sizes.width.from sizes.space.from) in
      record {
        on = on.item;
        under = below;
        has = record {
          shape = box.0;
          is = record {
            channel = t.channel;
            intervals = t.intervals;
            track = t.track;
            routed = t.routed;
            net = number;
            drawn = record { interval = interval.item; t = on.item; has = record { there = interval.is; on = on.is }; wires = inr (inr (x, pin, inl box.1)) };
          };
          drawn = box.1;
        };
      }
    where
      tall : (low w s y : ℤ) → (low +ℤ s) ≤ℤ y → pos 1 ≤ℤ w → pos 1 ≤ℤ s → low <ℤ (y +ℤ w)
      tall low w s y a b c = omega (arith, ints, a, b, c)
