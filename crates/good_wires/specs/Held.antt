-- Wires hold the cuts between them.
use Rattle.std.specs.Prelude.{◌≡◌, ◌<◌, ℕ, ℤ, ◌+◌, ◌+ℤ◌, ◌≤ℤ◌, slice_index}
use Rattle.or_geom.specs.declared.shape.Shape.{Shape}
use Rattle.tech_rules.specs.declared.tech.Wire.{Wire}
use Rattle.tech_rules.specs.WireRules.{margin}
use Rattle.sram_netlist.specs.Organization.{Organization}
use Rattle.macro_layout.specs.LayoutKit.{LayoutKit}
use Rattle.macro_layout.specs.Places.{Floorplan}
use Rattle.macro_layout.specs.Floorplan.{Tracks}
use Rattle.macro_layout.specs.Wires.{IsTapAt}
use Rattle.good_wires.specs.Drawn.{IsDrawnMemory, IsDrawnWire}

-- a wire on the metal goes beyond the shape by a wire's margin on each side
pub record IsCutHeld (IsWire : Shape → Type 0) (wire : Wire) (metal : ℕ) (s : Shape) : Type 0 where
  pub holder : Shape
  pub is : IsWire holder
  pub on : holder.layer ≡ slice_index wire.metals metal
  pub left : (holder.rect.x1 +ℤ margin wire) ≤ℤ s.rect.x1
  pub right : (s.rect.x2 +ℤ margin wire) ≤ℤ holder.rect.x2
  pub low : (holder.rect.y1 +ℤ margin wire) ≤ℤ s.rect.y1
  pub high : (s.rect.y2 +ℤ margin wire) ≤ℤ holder.rect.y2

-- a rail that has a tap goes up to its highest tap at least
pub record ReachesTap (plan : Organization) (kit : LayoutKit) (wire : Wire) (tracks : ℕ) (f : Floorplan) (x : ℤ) : Type 0 where
  pub top : ℤ
  pub end : ℤ
  pub tap : IsTapAt plan kit wire tracks f x top end
  pub highest : (other other_end : ℤ) → IsTapAt plan kit wire tracks f x other other_end → other ≤ℤ top

-- each does
abbrev pub DoRailsReach : Organization → LayoutKit → Wire → ℕ → Floorplan → Type 0
DoRailsReach plan kit wire tracks f = (x y end : ℤ) → IsTapAt plan kit wire tracks f x y end → ReachesTap plan kit wire tracks f x

-- So it is with each cut of wires, on the metals below and above it.
abbrev pub CutsAreHeld : Type 0
CutsAreHeld = (plan : Organization) (kit : LayoutKit) (wire : Wire) (tracks : Tracks) (f : Floorplan) → IsDrawnMemory plan kit wire tracks f → 0 < plan.word_size
    → DoRailsReach plan kit wire tracks.column f
    → (k : ℕ) → k < 3 → (s : Shape) → IsDrawnWire plan kit wire tracks f s → s.layer ≡ slice_index wire.cuts k
    → IsCutHeld (IsDrawnWire plan kit wire tracks f) wire k s × IsCutHeld (IsDrawnWire plan kit wire tracks f) wire (k + 1) s
