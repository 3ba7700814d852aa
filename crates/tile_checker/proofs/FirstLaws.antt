-- What breaks a rule alone, and what is found from a first shape by all rules.
use Rattle.std.proofs.Common.{◌≡◌, ◌⊎◌, inl, inr, ℕ, ◌+◌, ◌<◌, ◌≤◌, ℤ, List, [], ◌∷◌, ◌++◌, length, get_or, Option, Some, None, refl, sym, ap, subst, ◌∙◌, arith}
use Rattle.std.proofs.lemmas.Option.{same_Some, slice_get_within, slice_get_read}
use Rattle.std.specs.Prelude.{slice_get, ◌%◌}
use Rattle.or_geom.specs.declared.shape.Rect.{Rect}
use Rattle.or_geom.specs.declared.shape.Shape.{Shape}
use Rattle.or_geom.proofs.ListLaws.{below_or, contained_at}
use Rattle.or_geom.proofs.PlaceLaws.{same_rect}
use Rattle.shape_bins.specs.Layers.{IsCoveredBy}
use Rattle.or_geom.specs.Adds.{Adds}
use Rattle.or_geom.specs.Gathering.{SomeHas}
use Rattle.or_geom.proofs.AddsLaws.{adds_none, adds_one, adds_both, adds_as}
use Rattle.or_geom.proofs.GatheringLaws.{some_has, who_has}
use Rattle.tech_rules.specs.declared.tech.Rule.{Rule}
use Rattle.tile_checker.specs.Breaks.{Breaks, BreaksEnclose, IsGrown}
use Rattle.tile_checker.specs.declared.violation.Violation.{Violation}
use Rattle.tile_checker.proofs.AloneLaws.{IsForOne}
use Rattle.tile_checker.specs.declared.first.First.{First}
use Rattle.tile_checker.specs.Firsts.{IsAt, IsFrom}
use Rattle.tile_checker.specs.Tiles.{Owns, IsViolationIn, IsFoundIn}
use Rattle.tile_checker.specs.Share.{IsShare}
use Rattle.tile_checker.proofs.PlaceLaws.{adds_all}

-- the one violation of a rule that no two shapes break
abbrev alone : ℕ → First → Violation
alone number first = record { rule = number; first = first.shape; second = None }

is_alone : (number : ℕ) (rule : Rule) (shapes : List Shape) (first : First) (v : Violation) (second : Option Shape) → IsForOne rule shapes → v.second ≡ second → IsFrom number rule shapes first v → Breaks rule shapes v.first second
    → (v ≡ alone number first) × Breaks rule shapes first.shape None
is_alone number rule shapes first v None single is f breaks =
    (λ i. record { rule = f.violation.numbered i; first = f.of i; second = is i }, subst (λ (a : Shape). Breaks rule shapes a None) f.of breaks)
is_alone number rule shapes first v (Some b) single is f breaks = absurd (single v.first b breaks)

pub none_alone : (number : ℕ) (rule : Rule) (shapes : List Shape) (first : First) (old : List Violation) → IsForOne rule shapes → (Breaks rule shapes first.shape None → ⊥) → Adds old old (IsFrom number rule shapes first)
none_alone number rule shapes first old single none =
    adds_none old (IsFrom number rule shapes first) (λ v f. none (is_alone number rule shapes first v v.second single refl f f.violation.breaks).1)

pub one_alone : (number : ℕ) (rule : Rule) (shapes : List Shape) (first : First) (old new : List Violation) → IsForOne rule shapes → IsAt shapes first → Breaks rule shapes first.shape None → new ≡ old ++ alone number first ∷ []
    → Adds old new (IsFrom number rule shapes first)
one_alone number rule shapes first old new single at breaks is =
    adds_one old new (alone number first) (IsFrom number rule shapes first) is
    (record { of = refl; violation = record { numbered = refl; first = contained_at shapes first.place first.shape at; second = tt; breaks = breaks } })
    (λ v f. (is_alone number rule shapes first v v.second single refl f f.violation.breaks).0)

grown_once : (min : ℤ) (r g h : Rect) → IsGrown min r g → IsGrown min r h → g ≡ h
grown_once min r g h p q = same_rect g h (p.left ∙ sym q.left) (p.low ∙ sym q.low) (p.right ∙ sym q.right) (p.high ∙ sym q.high)

-- a layer of the list covers the area, or none does
pub bare : (layer : ℕ) (by : List ℕ) (min : ℤ) (shapes : List Shape) (a : Shape) (area : Rect) → IsGrown min a.rect area → a.layer ≡ layer
    → (SomeHas (λ (other : ℕ). IsCoveredBy other shapes area) by → ⊥) → BreaksEnclose layer by min shapes a
bare layer by min shapes a area is on none = record {
  on = on;
  bare = λ other grown among g covered.
      let here : IsCoveredBy other shapes area = subst (λ (r : Rect). IsCoveredBy other shapes r) (grown_once min a.rect grown area g is) covered in
      none (some_has (λ (o : ℕ). IsCoveredBy o shapes area) by other among here);
}

pub not_bare : (layer : ℕ) (by : List ℕ) (min : ℤ) (shapes : List Shape) (a : Shape) (area : Rect) → IsGrown min a.rect area
    → SomeHas (λ (other : ℕ). IsCoveredBy other shapes area) by → BreaksEnclose layer by min shapes a → ⊥
not_bare layer by min shapes a area is h b = let r = who_has (λ (o : ℕ). IsCoveredBy o shapes area) by h in b.bare r.0 area r.1 is r.2

-- of the rules below this number
pub record IsFoundBelow (rules : List Rule) (shapes : List Shape) (tile : Rect) (n : ℕ) (v : Violation) : Type 0 where
  pub below : v.rule < n
  pub found : IsFoundIn rules shapes tile v

pub rule_to : (rules : List Rule) (shapes : List Shape) (n : ℕ) (rule : Rule) (tile : Rect) → n < length rules → rule ≡ get_or rules n rule → (v : Violation) → IsFoundBelow rules shapes tile n v ⊎ IsViolationIn n rule shapes tile v
    → IsFoundBelow rules shapes tile (n + 1) v
rule_to rules shapes n rule tile lt is v (inl b) = record { below = omega (arith, b.below); found = b.found }
rule_to rules shapes n rule tile lt is v (inr f) =
    let w = f.violation in
    record {
      below = omega (arith, w.numbered);
      found = record {
        violation = record { rule = rule; numbered = ap (slice_get rules) w.numbered ∙ slice_get_read rules (length rules) n rule refl lt is; first = w.first; second = w.second; breaks = w.breaks };
        owned = f.owned;
      };
    }

pub rule_from : (rules : List Rule) (shapes : List Shape) (n : ℕ) (rule : Rule) (tile : Rect) → n < length rules → rule ≡ get_or rules n rule → (v : Violation) → IsFoundBelow rules shapes tile (n + 1) v
    → IsFoundBelow rules shapes tile n v ⊎ IsViolationIn n rule shapes tile v
rule_from rules shapes n rule tile lt is v b = elim (below_or v.rule n b.below) [
  | inl less ↦ inl (record { below = less; found = b.found })
  | inr same ↦
      let w = b.found.violation in
      let e : w.rule ≡ rule = same_Some w.rule rule (sym w.numbered ∙ (ap (slice_get rules) same ∙ slice_get_read rules (length rules) n rule refl lt is)) in
      inr (record {
        violation = record { numbered = same; first = w.first; second = w.second; breaks = subst (λ (r : Rule). Breaks r shapes v.first v.second) e w.breaks };
        owned = subst (λ (r : Rule). Owns tile r v.first v.second) e b.found.owned;
      })
]

pub rule_goes_on : (rules : List Rule) (shapes : List Shape) (n : ℕ) (rule : Rule) (tile : Rect) (old now next : List Violation) → n < length rules → rule ≡ get_or rules n rule → Adds old now (IsFoundBelow rules shapes tile n)
    → Adds now next (IsViolationIn n rule shapes tile) → Adds old next (IsFoundBelow rules shapes tile (n + 1))
rule_goes_on rules shapes n rule tile old now next lt is a b =
    adds_as old next (λ v. IsFoundBelow rules shapes tile n v ⊎ IsViolationIn n rule shapes tile v) (IsFoundBelow rules shapes tile (n + 1)) (rule_to rules shapes n rule tile lt is) (rule_from rules shapes n rule tile lt is)
    (adds_both old now next (IsFoundBelow rules shapes tile n) (IsViolationIn n rule shapes tile) a b)

pub rules_begin : (rules : List Rule) (shapes : List Shape) (tile : Rect) (old : List Violation) → Adds old old (IsFoundBelow rules shapes tile 0)
rules_begin rules shapes tile old = adds_none old (IsFoundBelow rules shapes tile 0) (λ v b. omega (arith, b.below))

pub rules_end : (rules : List Rule) (shapes : List Shape) (n : ℕ) (tile : Rect) (old new : List Violation) → length rules ≤ n → Adds old new (IsFoundBelow rules shapes tile n) → Adds old new (IsFoundIn rules shapes tile)
rules_end rules shapes n tile old new le a =
    adds_as old new (IsFoundBelow rules shapes tile n) (IsFoundIn rules shapes tile) (λ v b. b.found)
    (λ v f. record { below = omega (arith, le, slice_get_within rules v.rule f.violation.rule f.violation.numbered); found = f }) a

-- of the tiles below this number
pub record IsOwnBelow (rules : List Rule) (shapes : List Shape) (tiles : List Rect) (workers worker n : ℕ) (v : Violation) : Type 0 where
  pub index : ℕ
  pub below : index < n
  pub tile : Rect
  pub there : slice_get tiles index ≡ Some tile
  pub found : IsFoundIn rules shapes tile v
  pub dealt : index % workers ≡ worker

-- of this tile
pub record IsOwnAt (rules : List Rule) (shapes : List Shape) (tiles : List Rect) (workers worker n : ℕ) (v : Violation) : Type 0 where
  pub tile : Rect
  pub there : slice_get tiles n ≡ Some tile
  pub found : IsFoundIn rules shapes tile v
  pub dealt : n % workers ≡ worker

pub own_from : (rules : List Rule) (shapes : List Shape) (tiles : List Rect) (workers worker n : ℕ) (v : Violation) → IsOwnBelow rules shapes tiles workers worker (n + 1) v
    → IsOwnBelow rules shapes tiles workers worker n v ⊎ IsOwnAt rules shapes tiles workers worker n v
own_from rules shapes tiles workers worker n v b = elim (below_or b.index n b.below) [
  | inl less ↦ inl (record { index = b.index; below = less; tile = b.tile; there = b.there; found = b.found; dealt = b.dealt })
  | inr same ↦ inr (record { tile = b.tile; there = subst (λ (p : ℕ). slice_get tiles p ≡ Some b.tile) same b.there; found = b.found; dealt = subst (λ (p : ℕ). p % workers ≡ worker) same b.dealt })
]

pub own_more : (rules : List Rule) (shapes : List Shape) (tiles : List Rect) (workers worker n : ℕ) (v : Violation) → IsOwnBelow rules shapes tiles workers worker n v → IsOwnBelow rules shapes tiles workers worker (n + 1) v
own_more rules shapes tiles workers worker n v b = record { index = b.index; below = omega (arith, b.below); tile = b.tile; there = b.there; found = b.found; dealt = b.dealt }

pub own_begins : (rules : List Rule) (shapes : List Shape) (tiles : List Rect) (workers worker : ℕ) → Adds [] [] (IsOwnBelow rules shapes tiles workers worker 0)
own_begins rules shapes tiles workers worker = adds_none [] (IsOwnBelow rules shapes tiles workers worker 0) (λ v b. omega (arith, b.below))

pub own_passes : (rules : List Rule) (shapes : List Shape) (tiles : List Rect) (workers worker n : ℕ) (now : List Violation) → (n % workers ≡ worker → ⊥) → Adds [] now (IsOwnBelow rules shapes tiles workers worker n)
    → Adds [] now (IsOwnBelow rules shapes tiles workers worker (n + 1))
own_passes rules shapes tiles workers worker n now other a =
    adds_as [] now (IsOwnBelow rules shapes tiles workers worker n) (IsOwnBelow rules shapes tiles workers worker (n + 1)) (own_more rules shapes tiles workers worker n)
    (λ v b. elim (own_from rules shapes tiles workers worker n v b) [ inl h ↦ h | inr h ↦ absurd (other h.dealt) ]) a

pub own_goes_on : (rules : List Rule) (shapes : List Shape) (tiles : List Rect) (workers worker n : ℕ) (tile : Rect) (now next : List Violation) → n < length tiles → tile ≡ get_or tiles n tile → n % workers ≡ worker
    → Adds [] now (IsOwnBelow rules shapes tiles workers worker n) → Adds now next (IsFoundIn rules shapes tile) → Adds [] next (IsOwnBelow rules shapes tiles workers worker (n + 1))
own_goes_on rules shapes tiles workers worker n tile now next lt is own a b =
    let there : slice_get tiles n ≡ Some tile = slice_get_read tiles (length tiles) n tile refl lt is in
    adds_as [] next (λ v. IsOwnBelow rules shapes tiles workers worker n v ⊎ IsFoundIn rules shapes tile v) (IsOwnBelow rules shapes tiles workers worker (n + 1))
    (λ v h. elim h [ inl o ↦ own_more rules shapes tiles workers worker n v o | inr f ↦ record { index = n; below = omega arith; tile = tile; there = there; found = f; dealt = own } ])
    (λ v h. elim (own_from rules shapes tiles workers worker n v h) [ inl o ↦ inl o | inr f ↦ inr (subst (λ (t : Rect). IsFoundIn rules shapes t v) (same_Some f.tile tile (sym f.there ∙ there)) f.found) ])
    (adds_both [] now next (IsOwnBelow rules shapes tiles workers worker n) (IsFoundIn rules shapes tile) a b)

pub own_share : (rules : List Rule) (shapes : List Shape) (tiles : List Rect) (workers worker n : ℕ) (list : List Violation) → length tiles ≤ n → Adds [] list (IsOwnBelow rules shapes tiles workers worker n) → IsShare rules shapes tiles workers worker list
own_share rules shapes tiles workers worker n list le a v = (
  λ h. let o = (adds_all list (IsOwnBelow rules shapes tiles workers worker n) a v).0 h in record { index = o.index; tile = o.tile; there = o.there; found = o.found; dealt = o.dealt },
  λ o. (adds_all list (IsOwnBelow rules shapes tiles workers worker n) a v).1
      (record { index = o.index; below = omega (arith, le, slice_get_within tiles o.index o.tile o.there); tile = o.tile; there = o.there; found = o.found; dealt = o.dealt }),
)
