-- The first of some violations, in the order of reports.
use Rattle.std.specs.Prelude.{◌≡◌, ◌≢◌, ◌⊎◌, ℕ, ◌<◌, List, length, slice_get, Option, Some, None, Result, Ok, Err}
use Rattle.std.specs.declared.cmp.Ordering.TheVariants.{Greater}
use Rattle.cell_hierarchy.specs.Below.{SomeBelow}
use Rattle.or_geom.specs.declared.memory.Memory.{Memory}
use Rattle.or_geom.specs.declared.shape.Rect.{Rect}
use Rattle.or_geom.specs.declared.shape.Shape.{Shape}
use Rattle.tech_rules.specs.declared.tech.Rule.{Rule}
use Rattle.tile_checker.specs.declared.violation.Violation.{Violation}
use Rattle.tile_checker.specs.RuleReport.{violation_order}
use Rattle.tile_checker.specs.Tiles.{IsFromPlace}

-- v has P, and none that has P comes before it
pub record IsEarliest (P : Violation → Type 0) (v : Violation) : Type 0 where
  pub has : P v
  pub first : (w : Violation) → P w → violation_order v w ≢ Greater

-- the first of those that have P, if there is one
abbrev pub IsEarliestOf : (Violation → Type 0) → Option Violation → Type 0
IsEarliestOf P None = (v : Violation) → P v → ⊥
IsEarliestOf P (Some v) = IsEarliest P v

-- it was kept, or has P
abbrev pub IsKeptOr : Option Violation → (Violation → Type 0) → Violation → Type 0
IsKeptOr kept P v = (kept ≡ Some v) ⊎ P v

-- the first of what was kept and of those that have P
abbrev pub IsEarliestWith : Option Violation → (Violation → Type 0) → Option Violation → Type 0
IsEarliestWith kept P found = IsEarliestOf (IsKeptOr kept P) found

-- one is kept that none of those that have P comes before
abbrev pub AreNotEarlier : Option Violation → (Violation → Type 0) → Type 0
AreNotEarlier None P = ⊥
AreNotEarlier (Some v) P = (w : Violation) → P w → violation_order v w ≢ Greater

-- a violation of the rule of this number
abbrev pub IsOfRule : ℕ → Violation → Type 0
IsOfRule number v = v.rule ≡ number

-- with this first shape
abbrev pub IsOfFirst : ℕ → Shape → Violation → Type 0
IsOfFirst number shape v = (v.rule ≡ number) × (v.first ≡ shape)

-- it stands in the list at this place
abbrev pub StandsAt : List Violation → ℕ → Violation → Type 0
StandsAt list k v = slice_get list k ≡ Some v

-- a violation from the first shape at the place that stands at this index
pub record IsFromIndex (number : ℕ) (rule : Rule) (shapes : List Shape) (tile : Rect) (places : List ℕ) (k : ℕ) (v : Violation) : Type 0 where
  pub place : ℕ
  pub stands : slice_get places k ≡ Some place
  pub from : IsFromPlace number rule shapes tile place v

-- what a worker found first
abbrev pub HasFirst : Result (Option Violation) Memory → Violation → Type 0
HasFirst (Ok found) v = found ≡ Some v
HasFirst (Err e) v = ⊥

-- the worker of this number
pub record HasFirstAt (found : List (Result (Option Violation) Memory)) (k : ℕ) (v : Violation) : Type 0 where
  pub own : Result (Option Violation) Memory
  pub stands : slice_get found k ≡ Some own
  pub has : HasFirst own v

-- the worker found memory
abbrev pub IsShareFound : Result (Option Violation) Memory → Type 0
IsShareFound (Ok found) = Unit {0}
IsShareFound (Err e) = ⊥

-- so did all below this number
abbrev pub AreFound : List (Result (Option Violation) Memory) → ℕ → Type 0
AreFound results n = (k : ℕ) (own : Result (Option Violation) Memory) → k < n → slice_get results k ≡ Some own → IsShareFound own

-- the first of what the workers found, all of whom found memory
pub record IsFirstOfAll (results : List (Result (Option Violation) Memory)) (found : Option Violation) : Type 0 where
  pub there : AreFound results (length results)
  pub first : IsEarliestOf (SomeBelow (HasFirstAt results) (length results)) found
