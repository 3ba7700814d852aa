-- What is known of a memory and of the small memory in which its parts are seen.
use Rattle.std.specs.Prelude.{ℕ, ◌<◌, ℤ, pos, ◌≤ℤ◌, ◌+ℤ◌, List, Contains}
use Rattle.or_geom.specs.declared.shape.Shape.{Shape}
use Rattle.netlist.specs.declared.rows.RowPin.{RowPin}
use Rattle.tech_rules.specs.declared.tech.Connect.{Connect}
use Rattle.wire_drawing.specs.Drawing.{pitch}
use Rattle.cell_hierarchy.specs.Plain.{FlatLists}
use Rattle.net_extractor.specs.PlainNetLabel.{PlainNetLabel}
use Rattle.channel_router.specs.Tracks.{IsLowest}
use Rattle.sram_netlist.specs.Instances.{LeafInstance}
use Rattle.sram_netlist.specs.Membership.{HasLeafInstance}
use Rattle.sram_netlist.specs.Netlist.{role}
use Rattle.macro_layout.specs.Floorplan.{Tracks}
use Rattle.macro_layout.specs.Places.{Floorplan}
use Rattle.good_places.specs.Leaves.{PassesAtMost, ReachesNeighboursOnly}
use Rattle.leaf_shapes.specs.Outline.{IsWireLayer}
use Rattle.leaf_shapes.specs.FirstLayers.{AreFirstLayers}
use Rattle.good_wires.specs.Drawn.{IsDrawnMemory}
use Rattle.joined_nets.specs.Joints.{JoinsOnlyWires}
use Rattle.kit_nets.specs.StatedParts.{Source, leaf_lists}
use Rattle.kit_nets.specs.StatedWindow.{IsStatedWindow}
use Rattle.small_rows.specs.Few.{IsFewBits}
use Rattle.seen_pairs.specs.Counterpart.{window_source}

-- its wires are drawn, and each channel's nets stand on their lowest tracks
pub record IsDrawnSource (s : Source) : Type 0 where
  pub drawn : IsDrawnMemory s.plan s.kit s.wire s.tracks s.floorplan
  pub main : IsLowest (pitch s.wire) drawn.main.intervals drawn.main.track
  pub column : IsLowest (pitch s.wire) drawn.column.intervals drawn.column.track

-- the memory: something is written, leaf cells draw near their sides, and inside of them on layers of wires, and feel no more than their neighbours
pub record IsSeenSource (connections : List Connect) (s : Source) (by reach : ℤ) : Type 0 where
  pub words : 0 < s.plan.word_size
  pub written : 0 < s.plan.write_size
  pub source : IsDrawnSource s
  pub first : AreFirstLayers s.layers s.wire
  pub only : JoinsOnlyWires connections s.wire
  pub from : pos 0 ≤ℤ by
  pub space : by ≤ℤ s.wire.space
  pub short : ReachesNeighboursOnly s.kit s.wire reach
  pub felt : (pos 1 +ℤ (by +ℤ by)) ≤ℤ reach
  pub passes : (leaf : LeafInstance) (inner : Shape) → HasLeafInstance s.plan leaf → Contains (leaf_lists s leaf).shapes inner → PassesAtMost by (s.kit.width (role s.plan leaf)) (s.kit.height (role s.plan leaf)) inner.rect
  pub inside : (leaf : LeafInstance) (inner : Shape) → HasLeafInstance s.plan leaf → Contains (leaf_lists s leaf).shapes inner → IsWireLayer s.wire inner.layer → PassesAtMost (pos 0) (s.kit.width (role s.plan leaf)) (s.kit.height (role s.plan leaf)) inner.rect

-- the small memory, stated, with no difference of nets and no loose contact
pub record HasSeenWindow (connections : List Connect) (s : Source) : Type 0 where
  pub word : ℕ
  pub write : ℕ
  pub masks : ℕ
  pub size : IsFewBits s.plan word write masks
  pub tracks : Tracks
  pub floorplan : Floorplan
  pub source : IsDrawnSource (window_source s word write masks tracks floorplan)
  pub flat : FlatLists
  pub labels : List PlainNetLabel
  pub rows : List RowPin
  pub stated : IsStatedWindow connections (window_source s word write masks tracks floorplan) flat labels rows
