-- What can be said of each layout: a report, nets, and whether they are like the rows of a netlist.
use Rattle.std.specs.Prelude.{◌⊎◌, ℕ, List, Option, MatchOption}
use Rattle.std.specs.List.{AllByRecursion}
use Rattle.or_geom.specs.declared.shape.Shape.{Shape}
use Rattle.gds_library.specs.declared.library.Structure.{Structure}
use Rattle.gds_library.specs.Writable.{IsWritableCell}
use Rattle.tech_rules.specs.declared.tech.Tech.{Tech}
use Rattle.tech_rules.specs.Facts.{IsTech}
use Rattle.cell_hierarchy.specs.FlatLists.{AreFlatShapes, AreFlatLists}
use Rattle.cell_hierarchy.specs.Plain.{FlatLists}
use Rattle.tile_checker.specs.declared.violation.Violation.{Violation}
use Rattle.tile_checker.specs.RuleReport.{IsReport}
use Rattle.netlist.specs.declared.rows.RowPin.{RowPin}
use Rattle.net_extractor.specs.declared.difference.NetDiff.{NetDiff}
use Rattle.net_extractor.specs.PlainNetLabel.{PlainNetLabel}
use Rattle.net_extractor.specs.Difference.{AreAlike}
use Rattle.net_extractor.specs.Extraction.{AreNets}
use Rattle.net_extractor.specs.FirstDifference.{IsFirstDifference}
use Rattle.flat_answers.specs.FlatAnswers.{HasFault}

-- the flat shapes of the structure, and the report of a technology's rules over them
pub record HasReport (tech : Tech) (structs : List Structure) (top : List ℕ) : Type 0 where
  pub shapes : List Shape
  pub flat : AreFlatShapes tech.layers structs top shapes
  pub violations : List Violation
  pub report : IsReport tech.rules shapes violations

-- its flat shapes and labels, and the nets of the labels
pub record HasNets (tech : Tech) (structs : List Structure) (top : List ℕ) : Type 0 where
  pub lists : FlatLists
  pub flat : AreFlatLists tech.layers structs top lists
  pub nets : List PlainNetLabel
  pub are : AreNets tech lists.shapes lists.labels nets

-- these, and their first difference from the rows; none where they are alike
pub record HasComparison (tech : Tech) (structs : List Structure) (top : List ℕ) (rows : List RowPin) : Type 0 where
  pub nets : HasNets tech structs top
  pub difference : Option NetDiff
  pub is : MatchOption difference (AreAlike nets.nets rows) (IsFirstDifference nets.nets rows)

-- a structure of a library has a report, unless it has no flat shapes
abbrev pub LayoutsHaveReports : Type 0
LayoutsHaveReports = (tech : Tech) (structs : List Structure) (top : List ℕ) → IsTech tech → AllByRecursion IsWritableCell structs
    → HasReport tech structs top ⊎ HasFault tech.layers structs top

-- it has nets, unless it has no flat lists
abbrev pub LayoutsHaveNets : Type 0
LayoutsHaveNets = (tech : Tech) (structs : List Structure) (top : List ℕ) → AllByRecursion IsWritableCell structs
    → HasNets tech structs top ⊎ HasFault tech.layers structs top

-- and a comparison with any rows
abbrev pub LayoutsHaveComparisons : Type 0
LayoutsHaveComparisons = (tech : Tech) (structs : List Structure) (top : List ℕ) (rows : List RowPin) → AllByRecursion IsWritableCell structs
    → HasComparison tech structs top rows ⊎ HasFault tech.layers structs top
