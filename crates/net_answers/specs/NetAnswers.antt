-- Labels have nets, and labels and rows are alike or have a first difference.
use Rattle.std.specs.Prelude.{◌⊎◌, List}
use Rattle.or_geom.specs.declared.shape.Shape.{Shape}
use Rattle.netlist.specs.declared.rows.RowPin.{RowPin}
use Rattle.tech_rules.specs.declared.tech.Tech.{Tech}
use Rattle.element_drawing.specs.PlainLabel.{PlainLabel}
use Rattle.net_extractor.specs.PlainNetLabel.{PlainNetLabel}
use Rattle.net_extractor.specs.declared.difference.NetDiff.{NetDiff}
use Rattle.net_extractor.specs.Extraction.{AreNets}
use Rattle.net_extractor.specs.Difference.{AreAlike}
use Rattle.net_extractor.specs.FirstDifference.{IsFirstDifference}

-- whatever the shapes and labels are, the labels have a list of nets
abbrev pub NetsAreThere : Type 0
NetsAreThere = (tech : Tech) (shapes : List Shape) (labels : List PlainLabel) → (nets : List PlainNetLabel) × AreNets tech shapes labels nets

-- labels and rows are alike, or have a first difference
abbrev pub AlikeOrDifferent : Type 0
AlikeOrDifferent = (labels : List PlainNetLabel) (pins : List RowPin)
    → AreAlike labels pins ⊎ ((difference : NetDiff) × IsFirstDifference labels pins difference)
