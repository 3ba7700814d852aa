-- What is wrong with a made macro: the number of the first fault that applies.
use Rattle.std.specs.Prelude.{◌≡◌, ◌⊎◌, ℕ, ℤ, List, [], ◌∷◌, Result, Ok, Err}
use Rattle.gds_library.specs.declared.library.Library.{Library}
use Rattle.gds_library.specs.declared.library.Structure.{Structure}
use Rattle.netlist.specs.declared.deck.Deck.{Deck}
use Rattle.or_geom.specs.declared.shape.Shape.{Shape}
use Rattle.tech_rules.specs.declared.tech.Rule.{Rule}
use Rattle.netlist.specs.declared.rows.RowPin.{RowPin}
use Rattle.spice_netlist.specs.Faults.{AreFlatRows}
use Rattle.cell_hierarchy.specs.declared.fault.FlattenFault.TheVariants as flatten_fault
use Rattle.cell_hierarchy.specs.FlatLists.{AreFlatLists, IsFault}
use Rattle.cell_hierarchy.specs.Plain.{FlatLists}
use Rattle.tile_checker.specs.declared.violation.Violation.{Violation}
use Rattle.tile_checker.specs.RuleReport.{IsReport}
use Rattle.net_extractor.specs.PlainNetLabel.{PlainNetLabel}
use Rattle.net_extractor.specs.Extraction.{AreNets}
use Rattle.net_extractor.specs.Difference.{AreAlike}
use Rattle.leaf_nets.specs.declared.leaves.LooseLeaf.{LooseLeaf}
use Rattle.leaf_contacts.specs.Contact.{HasLooseContact}
use Rattle.leaf_nets.specs.Leaves.{AreLooseLeaves}
use Rattle.leaf_tables.specs.declared.kit.Kit.{Kit}
use Rattle.leaf_tables.specs.declared.part.PartFault.{PartFault}
use Rattle.leaf_tables.specs.declared.part.PartFault.TheVariants as part_fault
use Rattle.kit_check.specs.Makers.{subckts_with, role_cells}

-- it breaks no rule
pub record IsCleanMacro (kit : Kit) (name : List ℕ) (lib : Library) (lists : FlatLists) : Type 0 where
  pub flat : AreFlatLists kit.tech.layers lib.structs name lists
  pub clean : IsReport kit.tech.rules lists.shapes []

-- the labels with their nets, and the rows of its netlist
pub record AreNetsAndRowsOf (kit : Kit) (name : List ℕ) (deck : Deck) (lists : FlatLists) (labels : List PlainNetLabel) (rows : List RowPin) : Type 0 where
  pub nets : AreNets kit.tech lists.shapes lists.labels labels
  pub netlist : AreFlatRows (subckts_with kit deck) name (role_cells kit) rows

-- the labels of a flat macro are joined exactly as its netlist says, or they aren't
pub record MatchIn (kit : Kit) (name : List ℕ) (deck : Deck) (lists : FlatLists) : Type 0 where
  pub labels : List PlainNetLabel
  pub rows : List RowPin
  pub are : AreNetsAndRowsOf kit name deck lists labels rows
  pub alike : AreAlike labels rows

pub record DifferIn (kit : Kit) (name : List ℕ) (deck : Deck) (lists : FlatLists) : Type 0 where
  pub labels : List PlainNetLabel
  pub rows : List RowPin
  pub are : AreNetsAndRowsOf kit name deck lists labels rows
  pub differ : AreAlike labels rows → ⊥

-- a report of the shapes that isn't empty
pub record HasViolations (rules : List Rule) (shapes : List Shape) : Type 0 where
  pub first : Violation
  pub more : List Violation
  pub reported : IsReport rules shapes (first ∷ more)

-- It breaks no rule, and its labels are joined exactly as its netlist says.
pub record IsMatchingMacro (kit : Kit) (name : List ℕ) (lib : Library) (deck : Deck) : Type 0 where
  pub lists : FlatLists
  pub clean : IsCleanMacro kit name lib lists
  pub matching : MatchIn kit name deck lists

-- a loose shape of a leaf cell of the kit touches a shape outside of its instance
pub record TouchesOutside (kit : Kit) (name : List ℕ) (structs : List Structure) : Type 0 where
  pub leaves : List LooseLeaf
  pub are : AreLooseLeaves kit leaves
  pub contact : HasLooseContact kit.tech structs name leaves

-- Nothing is wrong with a made macro: it is flat, breaks no rule, matches its netlist, and no loose shape touches another outside.
pub record IsFaultlessMacro (kit : Kit) (name : List ℕ) (lib : Library) (deck : Deck) : Type 0 where
  pub matching : IsMatchingMacro kit name lib deck
  pub apart : TouchesOutside kit name lib.structs → ⊥

-- it breaks a rule
pub record BreaksRule (kit : Kit) (name : List ℕ) (lib : Library) : Type 0 where
  pub lists : FlatLists
  pub flat : AreFlatLists kit.tech.layers lib.structs name lists
  pub broken : HasViolations kit.tech.rules lists.shapes

-- it breaks none, and its labels aren't joined as its netlist says
pub record Differs (kit : Kit) (name : List ℕ) (lib : Library) (deck : Deck) : Type 0 where
  pub lists : FlatLists
  pub clean : IsCleanMacro kit name lib lists
  pub differ : DifferIn kit name deck lists

-- it has no flat layout: a chain is too deep, or there are too many shapes or labels, or one lies too far out
abbrev pub IsTooDeep : Kit → List ℕ → Library → Type 0
IsTooDeep kit name lib = (depth : ℕ) × IsFault kit.tech.layers lib.structs name (flatten_fault.TooDeep depth)

abbrev pub HasTooMany : Kit → List ℕ → Library → Type 0
HasTooMany kit name lib = (shapes labels : ℕ) × IsFault kit.tech.layers lib.structs name (flatten_fault.TooMany shapes labels)

abbrev pub IsFarOut : Kit → List ℕ → Library → Type 0
IsFarOut kit name lib = (x y : ℤ) × IsFault kit.tech.layers lib.structs name (flatten_fault.Far x y)

-- What is wrong with a made macro, by the number of the first fault that applies.
abbrev pub IsMacroFaultNumber : Kit → List ℕ → Library → Deck → ℕ → Type 0
IsMacroFaultNumber kit name lib deck number =
    ((number ≡ 33) × IsTooDeep kit name lib)
    ⊎ (((number ≡ 34) × HasTooMany kit name lib)
    ⊎ (((number ≡ 35) × IsFarOut kit name lib)
    ⊎ (((number ≡ 81) × BreaksRule kit name lib)
    ⊎ (((number ≡ 82) × Differs kit name lib deck)
    ⊎ ((number ≡ 83) × IsMatchingMacro kit name lib deck × TouchesOutside kit name lib.structs)))))

-- An answer is in order: a macro with which nothing is wrong, or cells that are too wide for the columns of a bit.
abbrev pub IsSoundAnswer : Kit → List ℕ → Result (Library × Deck) PartFault → Type 0
IsSoundAnswer kit name (Ok made) = IsFaultlessMacro kit name made.0 made.1
IsSoundAnswer kit name (Err (part_fault.SliceTooNarrow role)) = Unit {0}
IsSoundAnswer kit name (Err fault) = ⊥

-- It isn't: 71 and 72 as it says, or else what is wrong with the macro.
abbrev pub IsAnswerFaultNumber : Kit → List ℕ → Result (Library × Deck) PartFault → ℕ → Type 0
IsAnswerFaultNumber kit name (Ok made) number = IsMacroFaultNumber kit name made.0 made.1 number
IsAnswerFaultNumber kit name (Err (part_fault.Close side first second)) number = number ≡ 71
IsAnswerFaultNumber kit name (Err (part_fault.TapsClose first second)) number = number ≡ 72
IsAnswerFaultNumber kit name (Err fault) number = ⊥
