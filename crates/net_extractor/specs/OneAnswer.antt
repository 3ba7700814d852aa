-- There is one answer.
use Rattle.std.specs.Prelude.{◌≡◌, List}
use Rattle.or_geom.specs.declared.shape.Shape.{Shape}
use Rattle.netlist.specs.declared.rows.RowPin.{RowPin}
use Rattle.tech_rules.specs.declared.tech.Tech.{Tech}
use Rattle.element_drawing.specs.PlainLabel.{PlainLabel}
use Rattle.net_extractor.specs.PlainNetLabel.{PlainNetLabel}
use Rattle.net_extractor.specs.declared.difference.NetDiff.{NetDiff}
use Rattle.net_extractor.specs.Extraction.{AreNets}
use Rattle.net_extractor.specs.Difference.{AreAlike}
use Rattle.net_extractor.specs.FirstDifference.{IsFirstDifference}

-- labels have one list of nets
abbrev pub NetsAreUnique : Type 0
NetsAreUnique = (tech : Tech) (shapes : List Shape) (labels : List PlainLabel) (a b : List PlainNetLabel) → AreNets tech shapes labels a → AreNets tech shapes labels b → a ≡ b

-- labels and rows have one first difference
abbrev pub DifferencesAreUnique : Type 0
DifferencesAreUnique = (labels : List PlainNetLabel) (pins : List RowPin) (d e : NetDiff) → IsFirstDifference labels pins d → IsFirstDifference labels pins e → d ≡ e

-- and none where they are alike
abbrev pub DifferencesExcludeAlike : Type 0
DifferencesExcludeAlike = (labels : List PlainNetLabel) (pins : List RowPin) (d : NetDiff) → IsFirstDifference labels pins d → AreAlike labels pins → ⊥
