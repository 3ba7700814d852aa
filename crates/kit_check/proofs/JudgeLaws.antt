-- What is wrong with a made macro, from what its checks find.
use Rattle.std.proofs.Common.{◌≡◌, inl, inr, ℕ, ℤ, List, [], Option, None, Some, Ok, Err, refl}
use Rattle.std.specs.Prelude.{◌↔◌, MatchOption, MatchBool, is_some}
use Rattle.gds_library.specs.declared.library.Library.{Library}
use Rattle.netlist.specs.declared.deck.Deck.{Deck}
use Rattle.netlist.specs.declared.rows.RowPin.{RowPin}
use Rattle.or_geom.specs.declared.shape.Shape.{Shape}
use Rattle.tech_rules.specs.declared.tech.Rule.{Rule}
use Rattle.cell_hierarchy.specs.FlatLists.{AreFlatLists, IsFault}
use Rattle.cell_hierarchy.specs.Plain.{FlatLists}
use Rattle.cell_hierarchy.specs.declared.fault.FlattenFault.TheVariants as flatten_fault
use Rattle.tile_checker.specs.declared.violation.Violation.{Violation}
use Rattle.tile_checker.specs.RuleReport.{IsFirstOfReport, IsReport}
use Rattle.net_extractor.specs.PlainNetLabel.{PlainNetLabel}
use Rattle.net_extractor.specs.declared.difference.NetDiff.{NetDiff}
use Rattle.net_extractor.specs.Difference.{AreAlike}
use Rattle.leaf_tables.specs.declared.kit.Kit.{Kit}
use Rattle.leaf_tables.specs.declared.part.PartFault.TheVariants as part_fault
use Rattle.kit_check.specs.declared.window.Window.{Window}
use Rattle.kit_check.specs.Windows.{plan_of}
use Rattle.kit_check.specs.Judged.{AreNetsAndRowsOf, MatchIn, DifferIn, HasViolations, IsMatchingMacro, TouchesOutside, IsFaultlessMacro, IsMacroFaultNumber}
use Rattle.kit_check.specs.Good.{Answers, IsWindowGood, HasWindowFault}

-- the report

pub has_violations : (rules : List Rule) (shapes : List Shape) (found : Option Violation) → IsFirstOfReport rules shapes found → MatchBool (is_some found) (HasViolations rules shapes) (IsReport rules shapes [])
has_violations rules shapes None clean = clean
has_violations rules shapes (Some v) first = record { first = v; more = first.0; reported = first.1 }

-- the comparison

pub differ_or_match : (kit : Kit) (name : List ℕ) (deck : Deck) (lists : FlatLists) (labels : List PlainNetLabel) (rows : List RowPin) (found : Option NetDiff) → AreNetsAndRowsOf kit name deck lists labels rows → (found ≡ None) ↔ AreAlike labels rows
    → MatchBool (is_some found) (DifferIn kit name deck lists) (MatchIn kit name deck lists)
differ_or_match kit name deck lists labels rows None are none = record { labels = labels; rows = rows; are = are; alike = none.0 refl }
differ_or_match kit name deck lists labels rows (Some difference) are none = record { labels = labels; rows = rows; are = are; differ = λ alike. let e : ◌≡◌ {A = Option NetDiff} (Some difference) None = none.1 alike in absurd cc }

-- the first fault

module _ (kit : Kit) (name : List ℕ) (lib : Library) (deck : Deck) where
  pub too_deep : (depth : ℕ) → IsFault kit.tech.layers lib.structs name (flatten_fault.TooDeep depth) → IsMacroFaultNumber kit name lib deck 33
  too_deep depth is = inl (refl, (depth, is))

  pub too_many : (shapes labels : ℕ) → IsFault kit.tech.layers lib.structs name (flatten_fault.TooMany shapes labels) → IsMacroFaultNumber kit name lib deck 34
  too_many shapes labels is = inr (inl (refl, (shapes, labels, is)))

  pub far_out : (x y : ℤ) → IsFault kit.tech.layers lib.structs name (flatten_fault.Far x y) → IsMacroFaultNumber kit name lib deck 35
  far_out x y is = inr (inr (inl (refl, (x, y, is))))

  pub broken : (lists : FlatLists) → AreFlatLists kit.tech.layers lib.structs name lists → HasViolations kit.tech.rules lists.shapes → IsMacroFaultNumber kit name lib deck 81
  broken lists flat violations = inr (inr (inr (inl (refl, record { lists = lists; flat = flat; broken = violations }))))

  pub differing : (lists : FlatLists) → AreFlatLists kit.tech.layers lib.structs name lists → IsReport kit.tech.rules lists.shapes [] → DifferIn kit name deck lists → IsMacroFaultNumber kit name lib deck 82
  differing lists flat clean differ = inr (inr (inr (inr (inl (refl, record { lists = lists; clean = record { flat = flat; clean = clean }; differ = differ })))))

  pub matching : (lists : FlatLists) → AreFlatLists kit.tech.layers lib.structs name lists → IsReport kit.tech.rules lists.shapes [] → MatchIn kit name deck lists → IsMatchingMacro kit name lib deck
  matching lists flat clean match = record { lists = lists; clean = record { flat = flat; clean = clean }; matching = match }

  pub touching : IsMatchingMacro kit name lib deck → TouchesOutside kit name lib.structs → IsMacroFaultNumber kit name lib deck 83
  touching match touch = inr (inr (inr (inr (inr (refl, match, touch)))))

  pub faultless : IsMatchingMacro kit name lib deck → (TouchesOutside kit name lib.structs → ⊥) → IsFaultlessMacro kit name lib deck
  faultless match apart = record { matching = match; apart = apart }

-- a window

pub judged : (answers : Answers) (kit : Kit) (name : List ℕ) (w : Window) (lib : Library) (deck : Deck) (found : Option ℕ) → answers kit (plan_of w) name (Ok (lib, deck))
    → MatchOption found (IsFaultlessMacro kit name lib deck) (IsMacroFaultNumber kit name lib deck) → MatchOption found (IsWindowGood answers kit name w) (HasWindowFault answers kit name w)
judged answers kit name w lib deck None is sound = record { answer = Ok (lib, deck); is = is; sound = sound }
judged answers kit name w lib deck (Some number) is faulty = record { answer = Ok (lib, deck); is = is; faulty = faulty }

pub too_close : (answers : Answers) (kit : Kit) (name : List ℕ) (w : Window) (side : ℕ) (first second : ℤ) → answers kit (plan_of w) name (Err (part_fault.Close side first second)) → HasWindowFault answers kit name w 71
too_close answers kit name w side first second is = record { answer = Err (part_fault.Close side first second); is = is; faulty = refl }

pub taps_too_close : (answers : Answers) (kit : Kit) (name : List ℕ) (w : Window) (first second : ℤ) → answers kit (plan_of w) name (Err (part_fault.TapsClose first second)) → HasWindowFault answers kit name w 72
taps_too_close answers kit name w first second is = record { answer = Err (part_fault.TapsClose first second); is = is; faulty = refl }

pub too_narrow : (answers : Answers) (kit : Kit) (name : List ℕ) (w : Window) (role : List ℕ) → answers kit (plan_of w) name (Err (part_fault.SliceTooNarrow role)) → IsWindowGood answers kit name w
too_narrow answers kit name w role is = record { answer = Err (part_fault.SliceTooNarrow role); is = is; sound = tt }
