-- What a cell draws itself, where it stands.
use Rattle.std.proofs.Common.{◌≡◌, ◌⊎◌, inl, inr, ℕ, zero, suc, ◌+◌, ◌<◌, List, [], ◌∷◌, ◌++◌, length, get_or, drop, map, refl, sym, ap, subst, ◌∙◌, arith}
use Rattle.std.specs.Prelude.{Contains}
use Rattle.std.specs.List.{AllByRecursion}
use Rattle.std.proofs.lemmas.List.Elements.{Contains-append_left, Contains-append_right, Contains-append_cases}
use Rattle.or_geom.specs.declared.place.Place.{Place}
use Rattle.or_geom.specs.Place.{placed}
use Rattle.or_geom.specs.Adds.{Adds}
use Rattle.or_geom.specs.Gathering.{SomeGives}
use Rattle.or_geom.proofs.ListLaws.{contains_map, rest_at}
use Rattle.or_geom.proofs.PlaceLaws.{origin}
use Rattle.or_geom.proofs.GatheringLaws.{giver, gives_some}
use Rattle.element_drawing.specs.PlainLabel.{PlainLabel}
use Rattle.cell_chains.proofs.MemberLaws.{image_from}
use Rattle.cell_hierarchy.specs.FlatSet.{IsMoved}
use Rattle.cell_hierarchy.specs.Things.{Thing, DrawsThing, HasThing, GatheredGrows}
use Rattle.cell_hierarchy.specs.Things.Thing.{AShape, ALabel, APoint}
use Rattle.cell_hierarchy.specs.Placed.{path_join, IsLabelAt, LabelGives, PointGives, IsThingAt, IsOfDrawing}
use Rattle.cell_hierarchy.specs.Plain.{plain_label}
use Rattle.cell_hierarchy.specs.declared.flat.Label.{Label}
use Rattle.cell_hierarchy.specs.declared.drawing.OwnDrawing.{OwnDrawing}
use Rattle.cell_hierarchy.specs.declared.gathered.Gathered.{Gathered}
use Rattle.cell_hierarchy.specs.declared.placement.Placement.{Placement}

pub all_at : {X : Type 0} (P : X → Type 0) (xs : List X) (i : ℕ) (x : X) → AllByRecursion P xs → i < length xs → x ≡ get_or xs i x → P x
all_at P [] i x all lt is = absurd (omega arith)
all_at {X} P (y ∷ ys) zero x all lt is = subst P (sym is) all.0
all_at P (y ∷ ys) (suc i) x all lt is = all_at P ys i x all.1 (omega arith) is

pub all_got_or : {X : Type 0} (P : X → Type 0) (xs : List X) (i : ℕ) (d : X) → AllByRecursion P xs → i < length xs → P (get_or xs i d)
all_got_or P [] i d all lt = absurd (omega arith)
all_got_or P (y ∷ ys) zero d all lt = all.0
all_got_or P (y ∷ ys) (suc i) d all lt = all_got_or P ys i d all.1 (omega arith)

-- within a list it doesn't matter what is read outside
pub same_read : {X : Type 0} (xs : List X) (i : ℕ) (d e : X) → i < length xs → get_or xs i d ≡ get_or xs i e
same_read [] i d e lt = absurd (omega arith)
same_read (y ∷ ys) zero d e lt = refl
same_read (y ∷ ys) (suc i) d e lt = same_read ys i d e (omega arith)

pub rest_or : {X : Type 0} (xs : List X) (i : ℕ) (d : X) → i < length xs → drop i xs ≡ get_or xs i d ∷ drop (i + 1) xs
rest_or xs i d lt = rest_at xs i (get_or xs i d) lt (same_read xs i d (get_or xs i d) lt)

abbrev pub no_label : Label
no_label = record { path = record { ref_ptr = (0, 0); now = [] }; name = record { ref_ptr = (0, 0); now = [] }; layer = 0; at = origin }

map_append : {X Y : Type 0} (f : X → Y) (xs ys : List X) → map f (xs ++ ys) ≡ map f xs ++ map f ys
map_append f [] ys = refl
map_append f (x ∷ xs) ys = ap (λ (l : List _). f x ∷ l) (map_append f xs ys)

pub map_pushed : {X Y : Type 0} (f : X → Y) (xs ys : List X) (x : X) → ys ≡ xs ++ x ∷ [] → map f ys ≡ map f xs ++ f x ∷ []
map_pushed f xs ys x is = ap (map f) is ∙ map_append f xs (x ∷ [])

join_nothing : (path : List ℕ) → path_join path [] ≡ path
join_nothing [] = refl
join_nothing (b ∷ bs) = refl

pub label_given : (path : List ℕ) (place : Place) (own made : Label) → own.path.now ≡ [] → made.path.now ≡ path → made.name.now ≡ own.name.now → made.layer ≡ own.layer → made.at ≡ placed place own.at
    → LabelGives path place own (plain_label made)
label_given path place own made bare p n l a = record { path_is = p ∙ (sym (join_nothing path) ∙ sym (ap (path_join path) bare)); name = n; layer = l; at = a }

pub label_given_once : (path : List ℕ) (place : Place) (own : Label) (a b : PlainLabel) → LabelGives path place own a → LabelGives path place own b → a ≡ b
label_given_once path place own a b p q =
    let path_ = p.path_is ∙ sym q.path_is in
    let name = p.name ∙ sym q.name in
    let layer = p.layer ∙ sym q.layer in
    let at = p.at ∙ sym q.at in
    λ i. record { path = path_ i; name = name i; layer = layer i; at = at i }

adds_cases : {X : Type 0} (old new : List X) (P : X → Type 0) (x : X) → Adds old new P → Contains new x → Contains old x ⊎ P x
adds_cases old new P x a h = elim (Contains-append_cases old a.added x (subst (λ (l : List _). Contains l x) a.is h)) [ inl o ↦ inl o | inr n ↦ inr (a.only x n) ]

adds_stays : {X : Type 0} (old new : List X) (P : X → Type 0) (x : X) → Adds old new P → Contains old x → Contains new x
adds_stays old new P x a h = subst (λ (l : List _). Contains l x) (sym a.is) (Contains-append_left old a.added x h)

adds_each : {X : Type 0} (old new : List X) (P : X → Type 0) (x : X) → Adds old new P → P x → Contains new x
adds_each old new P x a h = subst (λ (l : List _). Contains l x) (sym a.is) (Contains-append_right old a.added x (a.each x h))

-- the three lists grew
pub record AddsOwn (own : OwnDrawing) (at : Placement) (old new : Gathered) : Type 0 where
  pub shapes : Adds old.shapes.items new.shapes.items (SomeGives (IsMoved at.place) own.shapes.items)
  pub labels : Adds (map plain_label old.labels.items) (map plain_label new.labels.items) (SomeGives (LabelGives at.path.now at.place) own.labels.items)
  pub points : Adds old.points.items new.points.items (SomeGives (PointGives at.place) own.points.items)

own_only : (own : OwnDrawing) (at : Placement) (old new : Gathered) (x : Thing) → AddsOwn own at old new → HasThing new x → HasThing old x ⊎ IsOfDrawing own at x
own_only own at old new (AShape s) a h = elim (adds_cases old.shapes.items new.shapes.items (SomeGives (IsMoved at.place) own.shapes.items) s a.shapes h) [
  | inl o ↦ inl o
  | inr g ↦ let w = giver (IsMoved at.place) own.shapes.items s g in inr (record { inner = AShape w.0; own = w.1; stands = w.2 })
]
own_only own at old new (ALabel l) a h = elim (adds_cases (map plain_label old.labels.items) (map plain_label new.labels.items) (SomeGives (LabelGives at.path.now at.place) own.labels.items) l a.labels h) [
  | inl o ↦ inl o
  | inr g ↦ let w = giver (LabelGives at.path.now at.place) own.labels.items l g in inr (record { inner = ALabel (plain_label w.0); own = contains_map plain_label own.labels.items w.0 w.1; stands = w.2 })
]
own_only own at old new (APoint p) a h = elim (adds_cases old.points.items new.points.items (SomeGives (PointGives at.place) own.points.items) p a.points h) [
  | inl o ↦ inl o
  | inr g ↦ let w = giver (PointGives at.place) own.points.items p g in inr (record { inner = APoint w.0; own = w.1; stands = w.2 })
]

own_stays : (own : OwnDrawing) (at : Placement) (old new : Gathered) (x : Thing) → AddsOwn own at old new → HasThing old x → HasThing new x
own_stays own at old new (AShape s) a h = adds_stays old.shapes.items new.shapes.items _ s a.shapes h
own_stays own at old new (ALabel l) a h = adds_stays (map plain_label old.labels.items) (map plain_label new.labels.items) _ l a.labels h
own_stays own at old new (APoint p) a h = adds_stays old.points.items new.points.items _ p a.points h

own_each : (own : OwnDrawing) (at : Placement) (old new : Gathered) (inner x : Thing) → AddsOwn own at old new → DrawsThing own inner → IsThingAt at.path.now at.place inner x → HasThing new x
own_each own at old new (AShape b) (AShape s) a h m = adds_each old.shapes.items new.shapes.items _ s a.shapes (gives_some (IsMoved at.place) own.shapes.items s b h m)
own_each own at old new (AShape b) (ALabel l) a h m = absurd m
own_each own at old new (AShape b) (APoint p) a h m = absurd m
own_each own at old new (ALabel b) (AShape s) a h m = absurd m
own_each own at old new (ALabel b) (ALabel l) a h m =
    let i = image_from plain_label own.labels.items b h in
    adds_each (map plain_label old.labels.items) (map plain_label new.labels.items) _ l a.labels
    (gives_some (LabelGives at.path.now at.place) own.labels.items l i.item i.stands (subst (λ (k : PlainLabel). IsLabelAt at.path.now at.place k l) (sym i.is) m))
own_each own at old new (ALabel b) (APoint p) a h m = absurd m
own_each own at old new (APoint b) (AShape s) a h m = absurd m
own_each own at old new (APoint b) (ALabel l) a h m = absurd m
own_each own at old new (APoint b) (APoint p) a h m = adds_each old.points.items new.points.items _ p a.points (gives_some (PointGives at.place) own.points.items p b h m)

pub own_grows : (own : OwnDrawing) (at : Placement) (old new : Gathered) → AddsOwn own at old new → GatheredGrows old new (IsOfDrawing own at)
own_grows own at old new a = record {
  only = λ x h. own_only own at old new x a h;
  stays = λ x h. own_stays own at old new x a h;
  each = λ x h. own_each own at old new h.inner x a h.own h.stands;
}
