-- What a tile, a worker and all workers find first, and that it is the first of the report.
use Rattle.std.proofs.Common.{◌≡◌, ◌≢◌, ◌⊎◌, inl, inr, ℕ, ◌+◌, ◌<◌, ◌≤◌, ◌%◌, List, [], ◌∷◌, length, get_or, Option, Some, None, Result, Ok, Err, refl, sym, ap, subst, ◌∙◌, arith}
use Rattle.std.specs.Prelude.{All, Contains, IfOk, slice_get}
use Rattle.std.specs.List.Sorted.{IsStrictlySortedBy}
use Rattle.std.specs.Ordering.{ordering_reverse}
use Rattle.std.specs.declared.cmp.Ordering.TheVariants.{Less, Greater}
use Rattle.std.proofs.lemmas.Option.{get_or_from_slice_get, same_Some, slice_get_cases, slice_get_read, slice_get_within}
use Rattle.or_geom.specs.declared.memory.Memory.{Memory}
use Rattle.or_geom.specs.declared.shape.Rect.{Rect}
use Rattle.or_geom.specs.declared.shape.Shape.{Shape}
use Rattle.or_geom.specs.Adds.{Adds}
use Rattle.or_geom.specs.Reachable.{AreReachable}
use Rattle.or_geom.proofs.ListLaws.{all_contained, below_or, contains_cases, contains_first, contains_none}
use Rattle.tech_rules.specs.declared.tech.Rule.{Rule}
use Rattle.cell_hierarchy.specs.Below.{SomeBelow}
use Rattle.tile_checker.specs.declared.violation.Violation.{Violation}
use Rattle.tile_checker.specs.declared.first.First.{First}
use Rattle.tile_checker.specs.Earliest.{AreFound, HasFirst, HasFirstAt, AreNotEarlier, IsEarliestOf, IsEarliestWith, IsFirstOfAll, IsShareFound, IsFromIndex, IsOfFirst, IsOfRule}
use Rattle.tile_checker.specs.Firsts.{IsAt}
use Rattle.tile_checker.specs.Minimum.{HasMinimum}
use Rattle.tile_checker.specs.RuleReport.{IsFirstOfReport, IsReport, IsViolation, violation_order}
use Rattle.tile_checker.specs.Share.{IsOwn}
use Rattle.tile_checker.specs.Tiles.{AreFirstPlaces, AreTiles, IsFoundIn, IsFromIn, IsViolationIn}
use Rattle.tile_checker.proofs.EarliestLaws.{behind_as, first_alone, first_as, first_then, first_with_as, none_first, up_to}
use Rattle.tile_checker.proofs.FirstLaws.{IsFoundBelow, IsOwnBelow, own_from, own_more, rule_from, rule_to}
use Rattle.tile_checker.proofs.OneReportLaws.{violation_total}
use Rattle.tile_checker.proofs.OwnerLaws.{owner_of}
use Rattle.tile_checker.proofs.PlaceLaws.{adds_all, place_of}
use Rattle.tile_checker.proofs.ReportThereLaws.{reports_are_there}
use Rattle.tile_checker.proofs.ShareLaws.{all_own, mod_below}

-- from one first shape
pub found_first : (number : ℕ) (rule : Rule) (shapes : List Shape) (tile : Rect) (first : First) (none found : List Violation) (now next : Option Violation) → none ≡ [] → Adds none found (IsFromIn number rule shapes tile first)
    → IsEarliestWith now (Contains found) next → IsEarliestWith now (IsFromIn number rule shapes tile first) next
found_first number rule shapes tile first none found now next empty adds a =
    let all = adds_all found (IsFromIn number rule shapes tile first) (subst (λ (l : List Violation). Adds l found (IsFromIn number rule shapes tile first)) empty adds) in
    first_with_as now next (Contains found) (IsFromIn number rule shapes tile first) (λ v h. (all v).0 h) (λ v f. (all v).1 f) a

pub shape_behind : (number : ℕ) (rule : Rule) (shapes : List Shape) (tile : Rect) (first : First) (now : Option Violation) → AreNotEarlier now (IsOfFirst number first.shape) → AreNotEarlier now (IsFromIn number rule shapes tile first)
shape_behind number rule shapes tile first now behind = behind_as now (IsOfFirst number first.shape) (IsFromIn number rule shapes tile first) (λ v f. (f.from.violation.numbered, f.from.of)) behind

-- whose place stands at an index
pub index_first : (number : ℕ) (rule : Rule) (shapes : List Shape) (tile : Rect) (places : List ℕ) (k : ℕ) (first : First) (now next : Option Violation) → slice_get places k ≡ Some first.place → IsAt shapes first
    → IsEarliestWith now (IsFromIn number rule shapes tile first) next → IsEarliestWith now (IsFromIndex number rule shapes tile places k) next
index_first number rule shapes tile places k first now next stands there a =
    first_with_as now next (IsFromIn number rule shapes tile first) (IsFromIndex number rule shapes tile places k)
    (λ v f. record { place = first.place; stands = stands; from = record { at = there ∙ ap (λ (s : Shape). Some s) (sym f.from.of); is = record { violation = f.from.violation; owned = f.owned } } })
    (λ v i.
    let same : i.place ≡ first.place = same_Some i.place first.place (sym i.stands ∙ stands) in
    let at : slice_get shapes first.place ≡ Some v.first = subst (λ (p : ℕ). slice_get shapes p ≡ Some v.first) same i.from.at in
    record { from = record { of = same_Some v.first first.shape (sym at ∙ there); violation = i.from.is.violation }; owned = i.from.is.owned })
    a

-- from all first shapes of a rule
pub rule_first : (number : ℕ) (rule : Rule) (shapes : List Shape) (tile : Rect) (places : List ℕ) (n : ℕ) (kept now : Option Violation) → AreFirstPlaces rule shapes tile places → length places ≤ n → IsEarliestWith kept (SomeBelow (IsFromIndex number rule shapes tile places) n) now
    → IsEarliestWith kept (IsViolationIn number rule shapes tile) now
rule_first number rule shapes tile places n kept now are le a =
    first_with_as kept now (SomeBelow (IsFromIndex number rule shapes tile places) n) (IsViolationIn number rule shapes tile) (λ v b. b.has.from.is)
    (λ v w.
    let l = are.each v.first v.second w.violation.first w.violation.second w.violation.breaks w.owned in
    let p = place_of places l.place l.among in
    record { index = p.0; below = omega (arith, le, slice_get_within places p.0 l.place p.1); has = record { place = l.place; stands = p.1; from = record { at = l.there; is = w } } })
    a

pub rule_passed : (number : ℕ) (rule : Rule) (shapes : List Shape) (tile : Rect) (kept : Option Violation) → AreNotEarlier kept (IsOfRule number) → AreNotEarlier kept (IsViolationIn number rule shapes tile)
rule_passed number rule shapes tile kept behind = behind_as kept (IsOfRule number) (IsViolationIn number rule shapes tile) (λ v w. w.violation.numbered) behind

-- by all rules
pub no_rules : (rules : List Rule) (shapes : List Shape) (tile : Rect) (kept : Option Violation) → IsEarliestWith kept (IsFoundBelow rules shapes tile 0) kept
no_rules rules shapes tile kept = none_first kept (IsFoundBelow rules shapes tile 0) (λ v b. omega (arith, b.below))

pub next_rule : (rules : List Rule) (shapes : List Shape) (n : ℕ) (rule : Rule) (tile : Rect) (kept now next : Option Violation) → n < length rules → rule ≡ get_or rules n rule → IsEarliestWith kept (IsFoundBelow rules shapes tile n) now
    → IsEarliestWith now (IsViolationIn n rule shapes tile) next → IsEarliestWith kept (IsFoundBelow rules shapes tile (n + 1)) next
next_rule rules shapes n rule tile kept now next lt is a b =
    first_with_as kept next (λ v. IsFoundBelow rules shapes tile n v ⊎ IsViolationIn n rule shapes tile v) (IsFoundBelow rules shapes tile (n + 1)) (rule_to rules shapes n rule tile lt is) (rule_from rules shapes n rule tile lt is)
    (first_then kept now next (IsFoundBelow rules shapes tile n) (IsViolationIn n rule shapes tile) a b)

pub all_rules : (rules : List Rule) (shapes : List Shape) (n : ℕ) (tile : Rect) (kept now : Option Violation) → length rules ≤ n → IsEarliestWith kept (IsFoundBelow rules shapes tile n) now → IsEarliestWith kept (IsFoundIn rules shapes tile) now
all_rules rules shapes n tile kept now le a =
    first_with_as kept now (IsFoundBelow rules shapes tile n) (IsFoundIn rules shapes tile) (λ v b. b.found)
    (λ v f. record { below = omega (arith, le, slice_get_within rules v.rule f.violation.rule f.violation.numbered); found = f }) a

-- in the tiles of a worker
module _ (rules : List Rule) (shapes : List Shape) (tiles : List Rect) (workers worker : ℕ) where
  pub no_tiles : IsEarliestWith None (IsOwnBelow rules shapes tiles workers worker 0) None
  no_tiles = none_first None (IsOwnBelow rules shapes tiles workers worker 0) (λ v b. omega (arith, b.below))

  pub tile_passed : (n : ℕ) (now : Option Violation) → (n % workers ≡ worker → ⊥) → IsEarliestWith None (IsOwnBelow rules shapes tiles workers worker n) now → IsEarliestWith None (IsOwnBelow rules shapes tiles workers worker (n + 1)) now
  tile_passed n now other a =
      first_with_as None now (IsOwnBelow rules shapes tiles workers worker n) (IsOwnBelow rules shapes tiles workers worker (n + 1)) (own_more rules shapes tiles workers worker n)
      (λ v b. elim (own_from rules shapes tiles workers worker n v b) [ inl h ↦ h | inr h ↦ absurd (other h.dealt) ]) a

  own_to : (n : ℕ) (tile : Rect) → slice_get tiles n ≡ Some tile → n % workers ≡ worker → (v : Violation) → IsOwnBelow rules shapes tiles workers worker n v ⊎ IsFoundIn rules shapes tile v → IsOwnBelow rules shapes tiles workers worker (n + 1) v
  own_to n tile there own v (inl o) = own_more rules shapes tiles workers worker n v o
  own_to n tile there own v (inr f) = record { index = n; below = omega arith; tile = tile; there = there; found = f; dealt = own }

  own_back : (n : ℕ) (tile : Rect) → slice_get tiles n ≡ Some tile → (v : Violation) → IsOwnBelow rules shapes tiles workers worker (n + 1) v → IsOwnBelow rules shapes tiles workers worker n v ⊎ IsFoundIn rules shapes tile v
  own_back n tile there v b = elim (own_from rules shapes tiles workers worker n v b) [
    | inl o ↦ inl o
    | inr f ↦ inr (subst (λ (t : Rect). IsFoundIn rules shapes t v) (same_Some f.tile tile (sym f.there ∙ there)) f.found)
  ]

  pub next_tile : (n : ℕ) (tile : Rect) (now next : Option Violation) → slice_get tiles n ≡ Some tile → n % workers ≡ worker → IsEarliestWith None (IsOwnBelow rules shapes tiles workers worker n) now → IsEarliestWith now (IsFoundIn rules shapes tile) next
      → IsEarliestWith None (IsOwnBelow rules shapes tiles workers worker (n + 1)) next
  next_tile n tile now next there own a b =
      first_with_as None next (λ v. IsOwnBelow rules shapes tiles workers worker n v ⊎ IsFoundIn rules shapes tile v) (IsOwnBelow rules shapes tiles workers worker (n + 1)) (own_to n tile there own) (own_back n tile there)
      (first_then None now next (IsOwnBelow rules shapes tiles workers worker n) (IsFoundIn rules shapes tile) a b)

  pub all_tiles : (n : ℕ) (now : Option Violation) → length tiles ≤ n → IsEarliestWith None (IsOwnBelow rules shapes tiles workers worker n) now → IsEarliestOf (IsOwn rules shapes tiles workers worker) now
  all_tiles n now le a =
      first_as now (IsOwnBelow rules shapes tiles workers worker n) (IsOwn rules shapes tiles workers worker)
      (λ v o. record { index = o.index; tile = o.tile; there = o.there; found = o.found; dealt = o.dealt })
      (λ v o. record { index = o.index; below = omega (arith, le, slice_get_within tiles o.index o.tile o.there); tile = o.tile; there = o.there; found = o.found; dealt = o.dealt })
      (first_alone now (IsOwnBelow rules shapes tiles workers worker n) a)

-- of one worker who has all tiles
pub alone_first : (rules : List Rule) (shapes : List Shape) (tiles : List Rect) (found : Option Violation) → All HasMinimum rules → AreTiles shapes tiles → IsEarliestOf (IsOwn rules shapes tiles 1 0) found → IsEarliestOf (IsViolation rules shapes) found
alone_first rules shapes tiles found minimums are a =
    first_as found (IsOwn rules shapes tiles 1 0) (IsViolation rules shapes) (λ v o. o.found.violation)
    (λ v w. let o = owner_of rules shapes tiles v minimums are w in record { index = o.0; tile = o.1; there = o.2; found = o.3; dealt = all_own o.0 }) a

-- of several
abbrev pub AreFirstOfShares : List Rule → List Shape → List Rect → ℕ → List (Result (Option Violation) Memory) → Type 0
AreFirstOfShares rules shapes tiles workers results =
    (worker : ℕ) (d : Result (Option Violation) Memory) → worker < workers → IfOk (get_or results worker d) (λ (found : Option Violation). IsEarliestOf (IsOwn rules shapes tiles workers worker) found)

-- a worker's first is a violation
pub own_first : (rules : List Rule) (shapes : List Shape) (tiles : List Rect) (workers worker : ℕ) (own : Result (Option Violation) Memory) (v : Violation) → IfOk own (λ (found : Option Violation). IsEarliestOf (IsOwn rules shapes tiles workers worker) found) → HasFirst own v
    → IsViolation rules shapes v
own_first rules shapes tiles workers worker (Ok None) v a h = let both : ◌≡◌ {A = Option Violation} None (Some v) = h in absurd cc
own_first rules shapes tiles workers worker (Ok (Some w)) v a h = subst (IsViolation rules shapes) (same_Some w v h) a.has.found.violation
own_first rules shapes tiles workers worker (Err e) v a h = absurd h

-- he has one where he owns any, and none that he owns comes before it
own_has : (rules : List Rule) (shapes : List Shape) (tiles : List Rect) (workers worker : ℕ) (own : Result (Option Violation) Memory) (v : Violation) → IsShareFound own → IfOk own (λ (found : Option Violation). IsEarliestOf (IsOwn rules shapes tiles workers worker) found)
    → IsOwn rules shapes tiles workers worker v → (w : Violation) × HasFirst own w × (violation_order w v ≢ Greater)
own_has rules shapes tiles workers worker (Ok None) v there a o = absurd (a v o)
own_has rules shapes tiles workers worker (Ok (Some w)) v there a o = (w, refl, a.first v o)
own_has rules shapes tiles workers worker (Err e) v there a o = absurd there

-- so the first of all workers is the first violation
module _ (rules : List Rule) (shapes : List Shape) (tiles : List Rect) (workers : ℕ) (results : List (Result (Option Violation) Memory)) (minimums : All HasMinimum rules) (are : AreTiles shapes tiles) (some : 0 < workers) (count : length results ≡ workers) (shares : AreFirstOfShares rules shapes tiles workers results) where
  share_at : (k : ℕ) (own : Result (Option Violation) Memory) → slice_get results k ≡ Some own → IfOk own (λ (found : Option Violation). IsEarliestOf (IsOwn rules shapes tiles workers k) found)
  share_at k own at =
      subst (λ (r : Result (Option Violation) Memory). IfOk r (λ (found : Option Violation). IsEarliestOf (IsOwn rules shapes tiles workers k) found)) (get_or_from_slice_get results k own own at)
      (shares k own (subst (λ (n : ℕ). k < n) count (slice_get_within results k own at)))

  only : (v : Violation) → SomeBelow (HasFirstAt results) (length results) v → IsViolation rules shapes v
  only v b = own_first rules shapes tiles workers b.index b.has.own v (share_at b.index b.has.own b.has.stands) b.has.has

  -- a worker's first doesn't come after the violation
  held : AreFound results (length results) → (v : Violation) → IsViolation rules shapes v → (w : Violation) × SomeBelow (HasFirstAt results) (length results) w × (violation_order w v ≢ Greater)
  held there v violation =
      let o = owner_of rules shapes tiles v minimums are violation in
      let worker = o.0 % workers in
      let below : worker < workers = mod_below o.0 workers some in
      elim ((slice_get_cases results worker).1) [
        | inl at ↦
            let lt : worker < length results = at.1 in
            let stands : slice_get results worker ≡ Some at.0 = slice_get_read results (length results) worker at.0 refl lt (sym at.3) in
            let h = own_has rules shapes tiles workers worker at.0 v (there worker at.0 lt stands) (share_at worker at.0 stands) (record { index = o.0; tile = o.1; there = o.2; found = o.3; dealt = refl }) in
            (h.0, record { index = worker; below = lt; has = record { own = at.0; stands = stands; has = h.1 } }, h.2)
        | inr past ↦ let far = past.0 in absurd (omega (arith, far, below, count))
      ]

  none_held : AreFound results (length results) → ((v : Violation) → SomeBelow (HasFirstAt results) (length results) v → ⊥) → (v : Violation) → IsViolation rules shapes v → ⊥
  none_held there none v violation = let h = held there v violation in none h.0 h.1

  pub workers_first : (found : Option Violation) → IsFirstOfAll results found → IsEarliestOf (IsViolation rules shapes) found
  workers_first None all = none_held all.there all.first
  workers_first (Some u) all = record {
    has = only u all.first.has;
    first = λ v violation. let h = held all.there v violation in up_to u h.0 v (all.first.first h.0 h.1) h.2;
  }

-- a loop over what the workers found
pub one_more : (results : List (Result (Option Violation) Memory)) (n : ℕ) (own : Result (Option Violation) Memory) → slice_get results n ≡ Some own → IsShareFound own → AreFound results n → AreFound results (n + 1)
one_more results n own at is before k other below there = elim (below_or k n below) [
  | inl less ↦ before k other less there
  | inr same ↦ subst IsShareFound (same_Some own other (sym at ∙ (ap (slice_get results) (sym same) ∙ there))) is
]

pub next_found : (results : List (Result (Option Violation) Memory)) (n : ℕ) (own : Result (Option Violation) Memory) (now next : Option Violation) → slice_get results n ≡ Some own → IsEarliestWith now (HasFirst own) next → IsEarliestWith now (HasFirstAt results n) next
next_found results n own now next at a =
    first_with_as now next (HasFirst own) (HasFirstAt results n) (λ v h. record { own = own; stands = at; has = h })
    (λ v h. subst (λ (r : Result (Option Violation) Memory). HasFirst r v) (same_Some h.own own (sym h.stands ∙ at)) h.has) a

pub results_end : (results : List (Result (Option Violation) Memory)) (n : ℕ) (now : Option Violation) → length results ≤ n → AreFound results n → IsEarliestWith None (SomeBelow (HasFirstAt results) n) now → IsFirstOfAll results now
results_end results n now le there a = record {
  there = λ k own lt at. there k own (omega (arith, le, lt)) at;
  first = first_as now (SomeBelow (HasFirstAt results) n) (SomeBelow (HasFirstAt results) (length results))
      (λ v b. record { index = b.index; below = slice_get_within results b.index b.has.own b.has.stands; has = b.has })
      (λ v b. record { index = b.index; below = omega (arith, le, b.below); has = b.has })
      (first_alone now (SomeBelow (HasFirstAt results) n) a);
}

-- The first violation is the first of the report.
not_later : (v w : Violation) → violation_order v w ≡ Less → violation_order w v ≢ Greater → ⊥
not_later v w less up = up (violation_total.antisymm w v ∙ ap ordering_reverse less)

pub first_of_report : (rules : List Rule) (shapes : List Shape) (found : Option Violation) → All HasMinimum rules → AreReachable shapes → IsEarliestOf (IsViolation rules shapes) found → IsFirstOfReport rules shapes found
unfolding IsStrictlySortedBy
first_of_report rules shapes found minimums reach a = let r = reports_are_there rules shapes minimums reach in by found r.0 a r.1
  where
    by : (o : Option Violation) (list : List Violation) → IsEarliestOf (IsViolation rules shapes) o → IsReport rules shapes list → IsFirstOfReport rules shapes o
    by None [] b report = report
    by None (v ∷ more) b report = absurd (b v (report.only v (contains_first v more)))
    by (Some w) [] b report = absurd (contains_none w (report.each w b.has))
    by (Some w) (v ∷ more) b report = elim (contains_cases v more w (report.each w b.has)) [
      | inl e ↦ (more, subst (λ (u : Violation). IsReport rules shapes (u ∷ more)) (sym e) report)
      | inr later ↦ absurd (not_later v w (all_contained (λ u. violation_order v u ≡ Less) more w report.rises.0 later) (b.first v (report.only v (contains_first v more))))
    ]
