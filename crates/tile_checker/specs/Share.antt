-- What a worker finds, and what all of them find.
use Rattle.std.specs.Prelude.{◌≡◌, ◌↔◌, ℕ, ◌%◌, List, Contains, slice_get, Some, Result, Ok, Err}
use Rattle.std.specs.List.Sorted.{IsStrictlySortedBy}
use Rattle.std.specs.declared.vec.Vec.{Vec}
use Rattle.std.specs.declared.alloc.Global.{Global}
use Rattle.or_geom.specs.declared.shape.Rect.{Rect}
use Rattle.or_geom.specs.declared.shape.Shape.{Shape}
use Rattle.or_geom.specs.declared.memory.Memory.{Memory}
use Rattle.or_geom.specs.Gathering.{SomeGives}
use Rattle.tech_rules.specs.declared.tech.Rule.{Rule}
use Rattle.tile_checker.specs.declared.violation.Violation.{Violation}
use Rattle.tile_checker.specs.Tiles.{IsFoundIn}
use Rattle.tile_checker.specs.RuleReport.{violation_order}

-- a violation that is owned by one of the worker's tiles, which are dealt out one by one
pub record IsOwn (rules : List Rule) (shapes : List Shape) (tiles : List Rect) (workers worker : ℕ) (v : Violation) : Type 0 where
  pub index : ℕ
  pub tile : Rect
  pub there : slice_get tiles index ≡ Some tile
  pub found : IsFoundIn rules shapes tile v
  pub dealt : index % workers ≡ worker

-- the list has exactly these
abbrev pub IsShare : List Rule → List Shape → List Rect → ℕ → ℕ → List Violation → Type 0
IsShare rules shapes tiles workers worker list = (v : Violation) → Contains list v ↔ IsOwn rules shapes tiles workers worker v

-- what a worker's list holds
abbrev pub HasOk : Result (Vec Violation Global) Memory → Violation → Type 0
HasOk (Ok list) v = Contains list.items v
HasOk (Err e) v = ⊥

-- the worker's list is there
abbrev pub IsThere : Result (Vec Violation Global) Memory → Type 0
IsThere (Ok list) = Unit {0}
IsThere (Err e) = ⊥

abbrev pub AreThere : List (Result (Vec Violation Global) Memory) → Type 0
AreThere lists = (list : Result (Vec Violation Global) Memory) → Contains lists list → IsThere list

-- all lists are there, and what they hold is in order and once
pub record IsUnion (lists : List (Result (Vec Violation Global) Memory)) (all : List Violation) : Type 0 where
  pub there : AreThere lists
  pub rises : IsStrictlySortedBy violation_order all
  pub holds : (v : Violation) → Contains all v ↔ SomeGives HasOk lists v
