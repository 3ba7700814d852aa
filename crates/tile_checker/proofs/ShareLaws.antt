-- Lists of workers, and what all of them hold.
use Rattle.std.proofs.Common.{◌≡◌, Some, inl, inr, ◌↔◌, ℕ, ◌+◌, ◌<◌, ◌%◌, List, ◌++◌, length, get_or, refl, sym, ap, subst, ◌∙◌, arith, Result, Ok, Err}
use Rattle.std.specs.Prelude.{All, Contains, IfOk, slice_get}
use Rattle.std.proofs.lemmas.Option.{slice_get-get_or, same_Some, slice_get_cases}
use Rattle.std.specs.List.Sorted.{IsStrictlySortedBy}
use Rattle.std.specs.declared.vec.Vec.{Vec}
use Rattle.std.specs.declared.alloc.Global.{Global}
use Rattle.or_geom.specs.declared.shape.Rect.{Rect}
use Rattle.or_geom.specs.declared.shape.Shape.{Shape}
use Rattle.or_geom.specs.declared.memory.Memory.{Memory}
use Rattle.or_geom.proofs.ListLaws.{below_or}
use Rattle.or_geom.specs.Adds.{Adds}
use Rattle.or_geom.specs.Gathering.{SomeGives}
use Rattle.or_geom.proofs.GatheringLaws.{giver, gives_some}
use Rattle.tech_rules.specs.declared.tech.Rule.{Rule}
use Rattle.tile_checker.specs.declared.violation.Violation.{Violation}
use Rattle.tile_checker.specs.RuleReport.{IsViolation, IsReport, violation_order}
use Rattle.tile_checker.specs.Share.{IsOwn, IsShare, HasOk, IsThere, AreThere, IsUnion}
use Rattle.tile_checker.specs.Minimum.{HasMinimum}
use Rattle.tile_checker.specs.Tiles.{AreTiles}
use Rattle.tile_checker.proofs.OwnerLaws.{owner_of}

pub adds_slice : (old new list : List Violation) → new ≡ old ++ list → Adds old new (Contains list)
adds_slice old new list is = record { added = list; is = is; only = λ v h. h; each = λ v h. h }

-- each list holds a worker's share
abbrev pub AreShares : List Rule → List Shape → List Rect → ℕ → List (Result (Vec Violation Global) Memory) → Type 0
AreShares rules shapes tiles workers lists = (worker : ℕ) (d : Result (Vec Violation Global) Memory) → worker < workers → IfOk (get_or lists worker d) (λ (list : Vec Violation Global). IsShare rules shapes tiles workers worker list.items)

owned_by : (rules : List Rule) (shapes : List Shape) (tiles : List Rect) (workers worker : ℕ) (v : Violation) (list : Result (Vec Violation Global) Memory) → IfOk list (λ (l : Vec Violation Global). IsShare rules shapes tiles workers worker l.items) → HasOk list v
    → IsViolation rules shapes v
owned_by rules shapes tiles workers worker v (Ok list) share h = ((share v).0 h).found.violation
owned_by rules shapes tiles workers worker v (Err e) share h = absurd h

-- what some list holds is a violation
pub only_violations : (rules : List Rule) (shapes : List Shape) (tiles : List Rect) (workers : ℕ) (lists : List (Result (Vec Violation Global) Memory)) (v : Violation) → length lists ≡ workers → AreShares rules shapes tiles workers lists → SomeGives HasOk lists v
    → IsViolation rules shapes v
only_violations rules shapes tiles workers lists v count shares g =
    let r = giver HasOk lists v g in
    let at = r.1 in
    owned_by rules shapes tiles workers at.0 v r.0
    (subst (λ (list : Result (Vec Violation Global) Memory). IfOk list (λ (l : Vec Violation Global). IsShare rules shapes tiles workers at.0 l.items)) at.2 (shares at.0 r.0 (subst (λ (n : ℕ). at.0 < n) count at.1))) r.2

pub mod_below : (n m : ℕ) → 0 < m → (n % m) < m
mod_below n m some = grind arith

-- one list more is there
pub there_more : (lists : List (Result (Vec Violation Global) Memory)) (n : ℕ) (item : Result (Vec Violation Global) Memory) → n < length lists → item ≡ get_or lists n item → IsThere item
    → ((k : ℕ) (list : Result (Vec Violation Global) Memory) → k < n → get_or lists k list ≡ list → IsThere list) → (k : ℕ) (list : Result (Vec Violation Global) Memory) → k < n + 1 → get_or lists k list ≡ list → IsThere list
there_more lists n item lt is there before k list below at = elim (below_or k n below) [
  | inl less ↦ before k list less at
  | inr same ↦
      let a : slice_get lists n ≡ Some item = slice_get-get_or lists n item lt ∙ ap (λ (l : Result (Vec Violation Global) Memory). Some l) (sym is) in
      let b : slice_get lists n ≡ Some list = slice_get-get_or lists n list lt ∙ ap (λ (l : Result (Vec Violation Global) Memory). Some l) (ap (λ (m : ℕ). get_or lists m list) (sym same) ∙ at) in
      subst IsThere (same_Some item list (sym a ∙ b)) there
]

-- a list that is there holds what its worker owns
own_held : (rules : List Rule) (shapes : List Shape) (tiles : List Rect) (workers worker : ℕ) (v : Violation) (list : Result (Vec Violation Global) Memory) → IsThere list
    → IfOk list (λ (l : Vec Violation Global). IsShare rules shapes tiles workers worker l.items) → IsOwn rules shapes tiles workers worker v → HasOk list v
own_held rules shapes tiles workers worker v (Ok list) there share own = (share v).1 own
own_held rules shapes tiles workers worker v (Err e) there share own = absurd there

-- the worker of the tile that owns a violation has it
held : (rules : List Rule) (shapes : List Shape) (tiles : List Rect) (workers : ℕ) (lists : List (Result (Vec Violation Global) Memory)) (v : Violation) → All HasMinimum rules → AreTiles shapes tiles → 0 < workers → length lists ≡ workers
    → AreShares rules shapes tiles workers lists → AreThere lists → IsViolation rules shapes v → SomeGives HasOk lists v
held rules shapes tiles workers lists v minimums are some count shares there violation =
    let o = owner_of rules shapes tiles v minimums are violation in
    let worker = o.0 % workers in
    let below : worker < workers = mod_below o.0 workers some in
    elim ((slice_get_cases lists worker).1) [
      | inl at ↦
          let has : Contains lists at.0 = (worker, at.1, at.3) in
          let share = subst (λ (list : Result (Vec Violation Global) Memory). IfOk list (λ (l : Vec Violation Global). IsShare rules shapes tiles workers worker l.items)) at.3 (shares worker at.0 below) in
          gives_some HasOk lists v at.0 has (own_held rules shapes tiles workers worker v at.0 (there at.0 has) share (record { index = o.0; tile = o.1; there = o.2; found = o.3; dealt = refl }))
      | inr past ↦ let far = past.0 in absurd (omega (arith, far, below, count))
    ]

-- The union of all shares is the report, since each violation is owned by some tile, and each tile is some worker's.
pub union_report : (rules : List Rule) (shapes : List Shape) (tiles : List Rect) (workers : ℕ) (lists : List (Result (Vec Violation Global) Memory)) (all : List Violation) → All HasMinimum rules → AreTiles shapes tiles → 0 < workers → length lists ≡ workers
    → AreShares rules shapes tiles workers lists → IsUnion lists all → IsReport rules shapes all
union_report rules shapes tiles workers lists all minimums are some count shares u = record {
  rises = u.rises;
  only = λ v h. only_violations rules shapes tiles workers lists v count shares ((u.holds v).0 h);
  each = λ v violation. (u.holds v).1 (held rules shapes tiles workers lists v minimums are some count shares u.there violation);
}

pub all_own : (n : ℕ) → n % 1 ≡ 0
all_own n = grind arith

-- so a worker alone has it
pub alone_report : (rules : List Rule) (shapes : List Shape) (tiles : List Rect) (list all : List Violation) → All HasMinimum rules → AreTiles shapes tiles → IsShare rules shapes tiles 1 0 list → IsStrictlySortedBy violation_order all
    → ((v : Violation) → Contains all v ↔ Contains list v) → IsReport rules shapes all
alone_report rules shapes tiles list all minimums are share rises same = record {
  rises = rises;
  only = λ v h. ((share v).0 ((same v).0 h)).found.violation;
  each = λ v violation.
      let o = owner_of rules shapes tiles v minimums are violation in
      (same v).1 ((share v).1 (record { index = o.0; tile = o.1; there = o.2; found = o.3; dealt = all_own o.0 }));
}
