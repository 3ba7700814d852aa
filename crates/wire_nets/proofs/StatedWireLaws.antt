-- The wires of a stated layout, on the first layers with their numbers: those that touch, or are one shape, have one net.
use Rattle.std.proofs.Common.{◌≡◌, inl, inr, ℕ, ◌<◌, List, Contains, sym, subst}
use Rattle.or_geom.specs.declared.shape.Shape.{Shape}
use Rattle.tech_rules.specs.declared.tech.Connect.{Connect}
use Rattle.tech_rules.specs.declared.tech.Layer.{Layer}
use Rattle.tech_rules.specs.declared.tech.Wire.{Wire}
use Rattle.tech_rules.specs.Touch.{Touch}
use Rattle.sram_netlist.specs.Organization.{Organization}
use Rattle.sram_netlist.specs.Nets.{Net}
use Rattle.macro_layout.specs.LayoutKit.{LayoutKit}
use Rattle.macro_layout.specs.Places.{Floorplan}
use Rattle.macro_layout.specs.Floorplan.{Tracks}
use Rattle.macro_layout.specs.Stated.{IsOnFirstLayer}
use Rattle.leaf_shapes.specs.Outline.{IsWireLayer}
use Rattle.leaf_shapes.specs.FirstLayers.{AreFirstLayers}
use Rattle.good_wires.specs.Drawn.{IsDrawnMemory}
use Rattle.good_wires.specs.Held.{DoRailsReach}
use Rattle.joined_nets.specs.Joints.{JoinsOnlyWires}
use Rattle.joined_nets.specs.WireNets.{IsWireOfNet}
use Rattle.wire_nets.specs.Named.{HasNamedNets, AreHighCells}
use Rattle.wire_nets.proofs.HeldNetLaws.{cuts_held}
use Rattle.wire_nets.proofs.TouchLaws.{wire_once, wires_touch}
use Rattle.good_places.proofs.StatedLaws.{shape_is}

module _ (layers : List Layer) (plan : Organization) (kit : LayoutKit) (wire : Wire) (tracks : Tracks) (f : Floorplan) (first : AreFirstLayers layers wire) (m : IsDrawnMemory plan kit wire tracks f) (names : HasNamedNets plan kit wire tracks f m) (tall : AreHighCells plan kit wire) (words : 0 < plan.word_size)
    (tops : DoRailsReach plan kit wire tracks.column f) where
  abbrev Stands : Net → Shape → Type 0
  Stands n s = IsOnFirstLayer layers (IsWireOfNet plan kit wire tracks f n) s

  -- wires are on layers of wires
  pub of_wires : (n : Net) (s : Shape) → IsWireOfNet plan kit wire tracks f n s → IsWireLayer wire s.layer
  of_wires n s is = elim (cuts_held plan kit wire tracks f m words tops n s is) [
    | inl (j, lt, on, under, over) ↦ inr (subst (λ (l : ℕ). Contains wire.cuts l) (sym on) (first.cuts j lt))
    | inr (i, lt, on) ↦ inl (subst (λ (l : ℕ). Contains wire.metals l) (sym on) (first.metals i lt))
  ]

  -- each stands as it is drawn
  pub as_drawn : (n : Net) (s : Shape) → Stands n s → IsWireOfNet plan kit wire tracks f n s
  as_drawn n s h = subst (IsWireOfNet plan kit wire tracks f n) (sym (shape_is s h.wire (first.first h.wire.layer s.layer h.layer (of_wires n h.wire h.drawn) h.on h.first) h.rect)) h.drawn

  pub stated_wire_once : (n k : Net) (s : Shape) → Stands n s → Stands k s → n ≡ k
  stated_wire_once n k s a b = wire_once plan kit wire tracks f m names tall words tops n k s (as_drawn n s a) (as_drawn k s b)

  pub stated_wires_touch : (connections : List Connect) → JoinsOnlyWires connections wire → (n k : Net) (s u : Shape) → Stands n s → Stands k u → Touch connections s u → n ≡ k
  stated_wires_touch connections only n k s u a b touch = wires_touch plan kit wire tracks f m names tall words tops connections only n k s u (as_drawn n s a) (as_drawn k u b) touch
