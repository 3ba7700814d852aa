-- Width rules of the layers of wires are kept where the small memories keep them.
use Rattle.std.proofs.Common.{◌≡◌, ◌⊎◌, inl, inr, ℕ, ◌<◌, ℤ, pos, ◌+ℤ◌, ◌-ℤ◌, ◌≤ℤ◌, ◌<ℤ◌, List, subst, arith}
use Rattle.std.specs.Prelude.{Contains, slice_index}
use Rattle.std.proofs.lemmas.Int.{ints}
use Rattle.or_geom.specs.declared.shape.Rect.{Rect}
use Rattle.or_geom.specs.declared.shape.Shape.{Shape}
use Rattle.or_geom.proofs.CoverLaws.{cell_among}
use Rattle.shape_bins.specs.Layers.{rects_on}
use Rattle.shape_bins.proofs.CoverLaws.{on_rects}
use Rattle.cell_roles.specs.declared.role.Role.{Role}
use Rattle.tech_rules.specs.declared.tech.Rule.{Rule}
use Rattle.tech_rules.specs.declared.tech.Rule.TheVariants.{Width}
use Rattle.tech_rules.specs.declared.tech.Wire.{Wire}
use Rattle.tile_checker.specs.Breaks.{IsAsWide, BreaksWidth}
use Rattle.cell_hierarchy.specs.FlatSet.{IsFlatShape}
use Rattle.sram_netlist.specs.Organization.{Organization}
use Rattle.sram_netlist.specs.BitCells.{Alike}
use Rattle.macro_layout.specs.LayoutKit.{LayoutKit}
use Rattle.macro_layout.specs.Places.{Floorplan}
use Rattle.macro_layout.specs.Floorplan.{Tracks}
use Rattle.local_report.specs.Local.{KeepsRule}
use Rattle.good_places.specs.Leaves.{ReachesNeighboursOnly}
use Rattle.good_places.specs.Windows.{IsWindowOf, IsWrittenPlan}
use Rattle.good_wires.specs.Kept.{IsAmong}
use Rattle.good_wires.proofs.WideLaws.{wires_are_wide}
use Rattle.leaf_margins.specs.Memories.{IsMetalOrCut, HasMemoryShapes, IsCleanLayout}
use Rattle.leaf_margins.specs.Widths.{WireLayerWidthsAreKept}
use Rattle.leaf_margins.proofs.SeenBoxLaws.{own_of, width_seen}

-- a minimum that wires keep
abbrev IsKeptWidth : Wire → ℕ → ℤ → Type 0
IsKeptWidth wire layer min = (min ≤ℤ wire.cut) ⊎ ((min ≤ℤ wire.width) × (Contains wire.cuts layer → ⊥))

as_wide : (min n : ℤ) (r : Rect) → min ≤ℤ n → IsAsWide n r → IsAsWide min r
as_wide min n r le w = record { wide = less min n (r.x2 -ℤ r.x1) le w.wide; tall = less min n (r.y2 -ℤ r.y1) le w.tall } where
  less : (a b c : ℤ) → a ≤ℤ b → b ≤ℤ c → a ≤ℤ c
  less a b c p q = omega (arith, ints, p, q)

-- a wire is wide enough by itself
wire_wide : (wire : Wire) (layer : ℕ) (min : ℤ) (s : Shape) → wire.cut <ℤ wire.width → s.layer ≡ layer → IsKeptWidth wire layer min → IsAsWide wire.width s.rect ⊎ (Contains wire.cuts s.layer × IsAsWide wire.cut s.rect) → IsAsWide min s.rect
wire_wide wire layer min s narrow on (inl le) (inl w) = as_wide min wire.width s.rect (omega (arith, ints, le, narrow)) w
wire_wide wire layer min s narrow on (inl le) (inr (at, c)) = as_wide min wire.cut s.rect le c
wire_wide wire layer min s narrow on (inr (le, never)) (inl w) = as_wide min wire.width s.rect le w
wire_wide wire layer min s narrow on (inr (le, never)) (inr (at, c)) = absurd (never (subst (Contains wire.cuts) on at))

own_width : (layer : ℕ) (min : ℤ) (to : List Shape) (s : Shape) → Contains to s → s.layer ≡ layer → IsAsWide min s.rect → BreaksWidth layer min to s → ⊥
own_width layer min to s there on wide breaks = breaks.narrow (record {
  box = s.rect;
  holds = record { left = same s.rect.x1; right = same s.rect.x2; low = same s.rect.y1; high = same s.rect.y2 };
  as_wide = wide;
  covered = λ x y cell. cell_among (rects_on layer to) s.rect x y (on_rects layer to s there on) cell;
}) where
  same : (z : ℤ) → z ≤ℤ z
  same z = omega (arith, ints)

module _ (Met Top Out : Role → ℕ → Type 0) (drop : Role → ℕ) (Flat : List ℕ → Shape → Type 0) (rules : List Rule) (plan : Organization) (kit : LayoutKit) (bit : List ℕ) (wire : Wire) (tracks : Tracks) (f : Floorplan) (by reach : ℤ) (to : List Shape) (p : IsWrittenPlan plan) (short : ReachesNeighboursOnly kit wire reach) (low : pos 0 ≤ℤ by)
    (memory : HasMemoryShapes Met Top Out drop Flat plan kit (Alike bit) wire tracks f by to) (metals : (k : ℕ) → k < 4 → Contains wire.metals (slice_index wire.metals k)) (windows : (other : Organization) → IsWindowOf plan other → IsCleanLayout Met Top Out drop Flat rules other kit (Alike bit) wire by)
    (layer : ℕ) (min : ℤ) (is : IsMetalOrCut wire layer) (few : IsKeptWidth wire layer min) (some : pos 1 ≤ℤ min) (near : (min +ℤ (by +ℤ by)) ≤ℤ reach) where
  narrow : wire.cut <ℤ wire.width
  narrow = memory.flat.drawn.laid.sizes.centred.narrow

  at_most : IsKeptWidth wire layer min → min ≤ℤ wire.width
  at_most (inl le) = let n = narrow in omega (arith, ints, le, n)
  at_most (inr (le, never)) = le

  pub kept : KeepsRule rules to (Width layer min)
  kept a there on = elim ((memory.flat.has layer (own_of Met Top Out drop Flat rules plan kit bit wire tracks f by reach to p short low memory metals windows layer is) a on).0 there) [
    | inl wired ↦ inl (own_width layer min to a there on (wire_wide wire layer min a narrow on few (wires_are_wide plan kit wire tracks f memory.flat.drawn p.words a wired)))
    | inr leaf ↦ inr (width_seen Met Top Out drop Flat rules plan kit bit wire tracks f by reach to p short low memory metals windows layer min a is some (at_most few) near on leaf)
  ]

pub wire_layer_widths_are_kept : WireLayerWidthsAreKept
wire_layer_widths_are_kept ports tops outs drop layers structs rules plan kit bit wire tracks f by reach to p short low memory metals windows layer min is few some near =
    kept (IsAmong ports) (IsAmong tops) (IsAmong outs) drop (IsFlatShape layers structs) rules plan kit bit wire tracks f by reach to p short low memory metals windows layer min is few some near
