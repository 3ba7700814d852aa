-- Wires keep the rules of width and of enclosure by themselves.
use Rattle.std.proofs.Common.{◌≡◌, ◌⊎◌, inl, inr, ℕ, ◌+◌, ℤ, ◌+ℤ◌, ◌-ℤ◌, ◌≤ℤ◌, ◌<ℤ◌, List, subst, arith}
use Rattle.std.specs.Prelude.{Contains, slice_index}
use Rattle.std.proofs.lemmas.Int.{ints}
use Rattle.or_geom.specs.declared.shape.Rect.{Rect}
use Rattle.or_geom.specs.declared.shape.Shape.{Shape}
use Rattle.or_geom.proofs.CoverLaws.{cell_among}
use Rattle.shape_bins.specs.Layers.{IsCoveredBy}
use Rattle.shape_bins.proofs.CoverLaws.{on_rects}
use Rattle.tech_rules.specs.declared.tech.Wire.{Wire}
use Rattle.tech_rules.specs.WireRules.{margin}
use Rattle.tile_checker.specs.Breaks.{IsGrown, IsAsWide}
use Rattle.good_wires.specs.Drawn.{IsDrawnWire}
use Rattle.good_wires.specs.Held.{IsCutHeld}
use Rattle.good_wires.specs.Own.{WireCutsAreEnclosed, WireWidthsAreKept}
use Rattle.good_wires.proofs.HeldLaws.{cuts_are_held}
use Rattle.good_wires.proofs.WideLaws.{wires_are_wide}
use Rattle.local_report.proofs.SpaceLaws.{grown_rect}

-- what a shape of the layout holds is covered by its layer
covered : (layer : ℕ) (to : List Shape) (h : Shape) (area : Rect) → Contains to h → h.layer ≡ layer → h.rect.x1 ≤ℤ area.x1 → area.x2 ≤ℤ h.rect.x2 → h.rect.y1 ≤ℤ area.y1 → area.y2 ≤ℤ h.rect.y2 → IsCoveredBy layer to area
covered layer to h area there on left right low high x y cell =
    cell_among _ h.rect x y (on_rects layer to h there on)
    (record { left = after h.rect.x1 area.x1 x left cell.left; right = before x area.x2 h.rect.x2 cell.right right; low = after h.rect.y1 area.y1 y low cell.low; high = before y area.y2 h.rect.y2 cell.high high })
  where
    after : (a b x : ℤ) → a ≤ℤ b → b ≤ℤ x → a ≤ℤ x
    after a b x p q = omega (arith, ints, p, q)

    before : (x b c : ℤ) → x <ℤ b → b ≤ℤ c → x <ℤ c
    before x b c p q = omega (arith, ints, p, q)

by_holder : (IsWire : Shape → Type 0) (wire : Wire) (metal : ℕ) (min : ℤ) (to : List Shape) (s : Shape) (grown : Rect) → ((h : Shape) → IsWire h → Contains to h) → IsCutHeld IsWire wire metal s → min ≤ℤ margin wire → IsGrown min s.rect grown → IsCoveredBy (slice_index wire.metals metal) to grown
by_holder IsWire wire metal min to s grown has h le g =
    covered (slice_index wire.metals metal) to h.holder grown (has h.holder h.is) h.on
    (up h.holder.rect.x1 (margin wire) s.rect.x1 min grown.x1 h.left le g.left)
    (down h.holder.rect.x2 (margin wire) s.rect.x2 min grown.x2 h.right le g.right)
    (up h.holder.rect.y1 (margin wire) s.rect.y1 min grown.y1 h.low le g.low)
    (down h.holder.rect.y2 (margin wire) s.rect.y2 min grown.y2 h.high le g.high)
  where
    up : (a e s m g : ℤ) → (a +ℤ e) ≤ℤ s → m ≤ℤ e → g ≡ s -ℤ m → a ≤ℤ g
    up a e s m g p q r = omega (arith, ints, p, q, r)

    down : (b e s m g : ℤ) → (s +ℤ e) ≤ℤ b → m ≤ℤ e → g ≡ s +ℤ m → g ≤ℤ b
    down b e s m g p q r = omega (arith, ints, p, q, r)

pub wire_cuts_are_enclosed : WireCutsAreEnclosed
wire_cuts_are_enclosed plan kit wire tracks f to m words tops has k min listed few one le metal s is breaks = by metal where
  g : (grown : Rect) × IsGrown min s.rect grown
  g = grown_rect min s.rect one

  both : IsCutHeld (IsDrawnWire plan kit wire tracks f) wire k s × IsCutHeld (IsDrawnWire plan kit wire tracks f) wire (k + 1) s
  both = cuts_are_held plan kit wire tracks f m words tops k few s is breaks.on

  by : Contains listed (slice_index wire.metals k) ⊎ Contains listed (slice_index wire.metals (k + 1)) → ⊥
  by (inl under) = breaks.bare (slice_index wire.metals k) g.0 under g.1 (by_holder (IsDrawnWire plan kit wire tracks f) wire k min to s g.0 has both.0 le g.1)
  by (inr over) = breaks.bare (slice_index wire.metals (k + 1)) g.0 over g.1 (by_holder (IsDrawnWire plan kit wire tracks f) wire (k + 1) min to s g.0 has both.1 le g.1)

pub wire_widths_are_kept : WireWidthsAreKept
wire_widths_are_kept plan kit wire tracks f to m words has layer min few s is breaks =
    breaks.narrow (record {
      box = s.rect;
      holds = record { left = same s.rect.x1; right = same s.rect.x2; low = same s.rect.y1; high = same s.rect.y2 };
      as_wide = by few (wires_are_wide plan kit wire tracks f m words s is);
      covered = covered layer to s s.rect (has s is) breaks.on (same s.rect.x1) (same s.rect.x2) (same s.rect.y1) (same s.rect.y2);
    })
  where
    same : (z : ℤ) → z ≤ℤ z
    same z = omega (arith, ints)

    less : (a b c : ℤ) → a ≤ℤ b → b ≤ℤ c → a ≤ℤ c
    less a b c p q = omega (arith, ints, p, q)

    fewer : (n : ℤ) → min ≤ℤ n → IsAsWide n s.rect → IsAsWide min s.rect
    fewer n le w = record { wide = less min n (s.rect.x2 -ℤ s.rect.x1) le w.wide; tall = less min n (s.rect.y2 -ℤ s.rect.y1) le w.tall }

    narrower : min ≤ℤ wire.cut → min ≤ℤ wire.width
    narrower le = let c = m.laid.sizes.centred.narrow in go wire.cut wire.width le c where
      go : (c w : ℤ) → min ≤ℤ c → c <ℤ w → min ≤ℤ w
      go c w p q = omega (arith, ints, p, q)

    by : (min ≤ℤ wire.cut) ⊎ ((min ≤ℤ wire.width) × (Contains wire.cuts layer → ⊥)) → IsAsWide wire.width s.rect ⊎ (Contains wire.cuts s.layer × IsAsWide wire.cut s.rect) → IsAsWide min s.rect
    by (inl le) (inl w) = fewer wire.width (narrower le) w
    by (inl le) (inr (on, c)) = fewer wire.cut le c
    by (inr (le, never)) (inl w) = fewer wire.width le w
    by (inr (le, never)) (inr (on, c)) = absurd (never (subst (Contains wire.cuts) breaks.on on))
