-- A macro whose contacts are all seen in windows and whose nets are all joined.
use Rattle.std.specs.Prelude.{List}
use Rattle.or_geom.specs.declared.shape.Shape.{Shape}
use Rattle.netlist.specs.declared.rows.RowPin.{RowPin}
use Rattle.tech_rules.specs.declared.tech.Connect.{Connect}
use Rattle.cell_hierarchy.specs.Plain.{FlatLists}
use Rattle.net_extractor.specs.PlainNetLabel.{PlainNetLabel}
use Rattle.net_extractor.specs.Extraction.{AreNetsUnder}
use Rattle.sram_netlist.specs.Nets.{Net}
use Rattle.good_nets.specs.Drawn.{AreLabelledNets}
use Rattle.good_nets.specs.Parts.{AreSeen, IsOfNet}
use Rattle.kit_nets.specs.StatedParts.{Source, stated_parts, IsStatedBy}

pub record IsMatched (connections : List Connect) (s : Source) (flat : FlatLists) (labels : List PlainNetLabel) (pins : List RowPin) (Of : RowPin → Net → Type 0) (hub : Net → Shape) : Type 1 where
  -- the flat lists are the stated layout
  pub stated : IsStatedBy connections s flat
  -- shapes that touch have one net: what touches of two instances is seen in a window, and wires of different nets don't touch
  pub seen : AreSeen connections (stated_parts s)
  -- the labels' nets
  pub nets : AreNetsUnder connections flat.shapes flat.labels labels
  -- each net is joined: pins are labelled, and their labels are joined with the hub of their net
  pub labelled : AreLabelledNets connections flat.shapes labels pins Of hub (λ (n : Net) (shape : Shape). IsOfNet connections (stated_parts s) n shape)
