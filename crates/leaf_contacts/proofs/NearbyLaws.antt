-- Shapes that touch lie near each other, and whether one of those nearby stands elsewhere.
use Rattle.std.proofs.Common.{◌≡◌, ◌⊎◌, ◌↔◌, inl, inr, ℕ, ◌+◌, ◌<◌, List, [], ◌∷◌, ◌++◌, length, get_or, drop, Bool, true, false, ◌&&◌, eqb, Some, refl, sym, ap, subst, ◌∙◌, arith}
use Rattle.std.specs.Prelude.{Contains, IsTrue, slice_get}
use Rattle.std.proofs.lemmas.Bool.{cases_lt}
use Rattle.std.proofs.lemmas.Bool.Decides.{Decides-eqb}
use Rattle.std.proofs.lemmas.Cmp.{int_cmp_total, tied_itself}
use Rattle.std.specs.Ordering.{int_cmp, is_eq}
use Rattle.or_geom.proofs.ShapeOrderLaws.{shape_eq}
use Rattle.std.proofs.lemmas.Int.{ints}
use Rattle.std.proofs.lemmas.Option.{slice_get_read, slice_get_within}
use Rattle.or_geom.specs.declared.place.Place.{Place}
use Rattle.or_geom.specs.declared.shape.Rect.{Rect}
use Rattle.or_geom.specs.declared.shape.Shape.{Shape}
use Rattle.or_geom.specs.Adds.{Adds}
use Rattle.or_geom.specs.Containing.{HoldsRect, IsAround}
use Rattle.or_geom.specs.Gathering.{SomeGives, SomeHas}
use Rattle.or_geom.specs.Joined.{AreJoined}
use Rattle.or_geom.proofs.AddsLaws.{adds_as, adds_both, adds_none, adds_one}
use Rattle.or_geom.proofs.ContainingLaws.{around_first, around_second}
use Rattle.or_geom.proofs.GatheringLaws.{IsGathering, gather_goes_on, giver, gives_some, some_has, who_has}
use Rattle.or_geom.proofs.ListLaws.{contains_cases, contains_none, one_at, rest_at}
use Rattle.tech_rules.specs.declared.tech.Connect.{Connect}
use Rattle.tech_rules.specs.Touch.{ShareArea, Touch}
use Rattle.shape_bins.specs.Meets.{Meet}
use Rattle.shape_bins.specs.Hits.{IsNearShape}
use Rattle.leaf_contacts.proofs.FarLaws.{moved_once, shares_overlap}
use Rattle.cell_hierarchy.specs.FlatSet.{IsMoved}
use Rattle.leaf_contacts.specs.declared.stand.Stand.{Stand}
use Rattle.leaf_contacts.specs.declared.stand.ReferenceStep.{ReferenceStep}
use Rattle.leaf_contacts.specs.Marks.{AreEntriesIn, IsContactOf, IsListedElsewhere, IsNearOnLayers, IsTouchedElsewhere, IsTouching, ShapeEntry, TouchesElsewhere, shape_entry}

-- the places on layer after layer
pub near_none : (shapes : List Shape) (area : Rect) (places : List ℕ) → Adds places places (IsNearOnLayers shapes area 0)
near_none shapes area places = adds_none places (IsNearOnLayers shapes area 0) (λ place near. let below = near.below in absurd (omega (arith, below)))

pub near_more : (shapes : List Shape) (area : Rect) (layer : ℕ) (old mid new : List ℕ) → Adds old mid (IsNearOnLayers shapes area layer) → Adds mid new (IsNearShape shapes layer area) → Adds old new (IsNearOnLayers shapes area (layer + 1))
near_more shapes area layer old mid new before here =
    adds_as old new (λ place. IsNearOnLayers shapes area layer place ⊎ IsNearShape shapes layer area place) (IsNearOnLayers shapes area (layer + 1))
    (λ place h. elim h [
      | inl n ↦ let below = n.below in record { layer = n.layer; below = omega (arith, below); near = n.near }
      | inr n ↦ record { layer = layer; below = omega arith; near = n }
    ])
    (λ place n. elim (cases_lt n.layer layer) [
      | inl less ↦ inl (record { layer = n.layer; below = less; near = n.near })
      | inr ge ↦ let below = n.below in let e : n.layer ≡ layer = omega (arith, below, ge) in inr (subst (λ (k : ℕ). IsNearShape shapes k area place) e n.near)
    ])
    (adds_both old mid new (IsNearOnLayers shapes area layer) (IsNearShape shapes layer area) before here)

joined_meet : (a b : Rect) → AreJoined a b → Meet b a
joined_meet a b j =
    let in_a = j.p_in_a in
    let in_b = j.p_in_b in
    record { left = omega (arith, ints, in_a.right, in_b.left); right = omega (arith, ints, in_a.left, in_b.right); low = omega (arith, ints, in_a.high, in_b.low); high = omega (arith, ints, in_a.low, in_b.high) }

shared_meet : (a b : Rect) → ShareArea a b → Meet b a
shared_meet a b s =
    let o = shares_overlap a b s in
    record { left = omega (arith, ints, o.right); right = omega (arith, ints, o.left); low = omega (arith, ints, o.high); high = omega (arith, ints, o.low) }

meet_back : (a b : Rect) → Meet a b → Meet b a
meet_back a b m = record { left = m.right; right = m.left; low = m.high; high = m.low }

itself_meets : (a : Rect) → Meet a a
itself_meets a =
    let wide = a.wide in
    let tall = a.tall in
    record { left = omega (arith, ints, wide); right = omega (arith, ints, wide); low = omega (arith, ints, tall); high = omega (arith, ints, tall) }

-- what touches the shape, or is it, meets its closed box
pub touching_meets : (connections : List Connect) (shape other : Shape) → Touch connections shape other ⊎ (shape ≡ other) → Meet other.rect shape.rect
touching_meets connections shape other (inl (inl on)) = joined_meet shape.rect other.rect on.joined
touching_meets connections shape other (inl (inr (inl by))) = shared_meet shape.rect other.rect by.area
touching_meets connections shape other (inl (inr (inr by))) = meet_back shape.rect other.rect (shared_meet other.rect shape.rect by.area)
touching_meets connections shape other (inr same) = subst (λ (t : Shape). Meet t.rect shape.rect) same (itself_meets shape.rect)

-- what meets a rectangle meets one that contains it
meets_outer : (a inner outer : Rect) → HoldsRect outer inner → Meet a inner → Meet a outer
meets_outer a inner outer h m = record { left = omega (arith, ints, m.left, h.right); right = omega (arith, ints, m.right, h.left); low = omega (arith, ints, m.low, h.high); high = omega (arith, ints, m.high, h.low) }

-- each of the places is one of a shape
pub near_within : (shapes : List Shape) (area : Rect) (layers : ℕ) (none places list : List ℕ) (place : ℕ) → none ≡ [] → list ≡ places → Adds none places (IsNearOnLayers shapes area layers) → Contains list place → place < length shapes
near_within shapes area layers none places list place empty same adds h =
    let all : places ≡ adds.added = adds.is ∙ ap (λ (l : List ℕ). l ++ adds.added) empty in
    let n = adds.only place (subst (λ (l : List ℕ). Contains l place) (same ∙ all) h) in
    slice_get_within shapes place n.near.shape n.near.there

-- a shape elsewhere is touched exactly where one at the places near a rectangle that contains all is
pub touched_nearby : (connections : List Connect) (shapes : List Shape) (entries : List ShapeEntry) (moved : List Shape) (instance : List ReferenceStep) (hull : Rect) (layers count : ℕ) (none places list : List ℕ) → none ≡ [] → list ≡ places → layers ≡ count
    → ((shape : Shape) → Contains moved shape → HoldsRect hull shape.rect) → AreEntriesIn count shapes entries → Adds none places (IsNearOnLayers shapes hull layers)
    → SomeHas (IsTouchedElsewhere connections shapes entries moved instance) list ↔ SomeHas (TouchesElsewhere connections entries instance) moved
touched_nearby connections shapes entries moved instance hull layers count none places list empty same counted holds in_layout adds = (
  (λ some.
      let w = who_has (IsTouchedElsewhere connections shapes entries moved instance) list some in
      let at = w.2 in
      let s = who_has (IsTouching connections at.other) moved at.touch in
      some_has (TouchesElsewhere connections entries instance) moved s.0 s.1 (record { other = at.other; elsewhere = at.elsewhere; touch = s.2 })),
  (λ some.
      let s = who_has (TouchesElsewhere connections entries instance) moved some in
      let shape = s.0 in
      let t = s.2 in
      let all : places ≡ adds.added = adds.is ∙ ap (λ (l : List ℕ). l ++ adds.added) empty in
      let listed = in_layout.listed (shape_entry t.other t.elsewhere.other) t.elsewhere.listed in
      let inside = listed.1 in
      let there : slice_get shapes listed.0 ≡ Some t.other = slice_get_read shapes _ listed.0 t.other refl inside (sym listed.2) in
      let near : IsNearOnLayers shapes hull layers listed.0 = record {
        layer = t.other.layer;
        below = subst (λ (n : ℕ). t.other.layer < n) (sym counted) (in_layout.on (shape_entry t.other t.elsewhere.other) t.elsewhere.listed);
        near = record { shape = t.other; there = there; on = refl; fits = meets_outer t.other.rect shape.rect hull (holds shape s.1) (touching_meets connections shape t.other t.touch) };
      } in
      some_has (IsTouchedElsewhere connections shapes entries moved instance) list listed.0 (subst (λ (l : List ℕ). Contains l listed.0) (sym (same ∙ all)) (adds.each listed.0 near))
      (record { other = t.other; there = there; elsewhere = t.elsewhere; touch = some_has (IsTouching connections t.other) moved shape s.1 t.touch })),
)

-- one place, of a shape that stands elsewhere
pub touched_at : (connections : List Connect) (shapes : List Shape) (entries : List ShapeEntry) (moved : List Shape) (instance : List ReferenceStep) (place : ℕ) (other : Shape) (told : Bool) → slice_get shapes place ≡ Some other → IsListedElsewhere entries other (Some instance)
    → IsTrue told ↔ SomeHas (IsTouching connections other) moved → IsTrue told ↔ IsTouchedElsewhere connections shapes entries moved instance place
touched_at connections shapes entries moved instance place other told there elsewhere touch = (
  (λ t. record { other = other; there = there; elsewhere = elsewhere; touch = touch.0 t }),
  (λ h. touch.1 (subst (λ (s : Shape). SomeHas (IsTouching connections s) moved) (one_at shapes place h.other other h.there there) h.touch)),
)

-- and of one that doesn't
pub untouched_at : (connections : List Connect) (shapes : List Shape) (entries : List ShapeEntry) (moved : List Shape) (instance : List ReferenceStep) (place : ℕ) (other : Shape) → slice_get shapes place ≡ Some other
    → (IsListedElsewhere entries other (Some instance) → ⊥) → IsTouchedElsewhere connections shapes entries moved instance place → ⊥
untouched_at connections shapes entries moved instance place other there nowhere h =
    nowhere (subst (λ (s : Shape). IsListedElsewhere entries s (Some instance)) (one_at shapes place h.other other h.there there) h.elsewhere)

-- one more shape is moved
pub moved_more : (place : Place) (loose : List Shape) (index : ℕ) (inner image : Shape) (old now next : List Shape) → index < length loose → inner ≡ get_or loose index inner → IsMoved place inner image → next ≡ now ++ image ∷ []
    → IsGathering (IsMoved place) loose (drop index loose) old now → IsGathering (IsMoved place) loose (drop (index + 1) loose) old next
moved_more place loose index inner image old now next lt is moved pushed before =
    gather_goes_on (IsMoved place) loose (drop index loose) (drop (index + 1) loose) inner old now next (rest_at loose index inner lt is) before
    (adds_one now next image (IsMoved place inner) pushed moved (λ other m. moved_once place inner other image m moved))

-- a hull that contains the shapes so far is made greater by the next
pub hull_more : (shapes : List Shape) (index : ℕ) (next : Shape) (old new : Rect) (shape : Shape) → index < length shapes → next ≡ get_or shapes index next → IsAround old next.rect new
    → HoldsRect old shape.rect ⊎ Contains (drop index shapes) shape → HoldsRect new shape.rect ⊎ Contains (drop (index + 1) shapes) shape
hull_more shapes index next old new shape lt is round (inl held) =
    let first = around_first old next.rect new round in
    inl (record { left = omega (arith, ints, held.left, first.left); right = omega (arith, ints, held.right, first.right); low = omega (arith, ints, held.low, first.low); high = omega (arith, ints, held.high, first.high) })
hull_more shapes index next old new shape lt is round (inr left) =
    elim (contains_cases next (drop (index + 1) shapes) shape (subst (λ (l : List Shape). Contains l shape) (rest_at shapes index next lt is) left)) [
      | inl same ↦ inl (subst (λ (s : Shape). HoldsRect new s.rect) (sym same) (around_second old next.rect new round))
      | inr later ↦ inr later
    ]

-- in the end all are contained
pub hull_all : (shapes rest : List Shape) (hull : Rect) (shape : Shape) → rest ≡ [] → HoldsRect hull shape.rect ⊎ Contains rest shape → HoldsRect hull shape.rect
hull_all shapes rest hull shape none (inl held) = held
hull_all shapes rest hull shape none (inr left) = absurd (contains_none shape (subst (λ (l : List Shape). Contains l shape) none left))

-- a moved shape touches one elsewhere exactly where a loose shape does where its cell stands
pub contacts_moved : (connections : List Connect) (entries : List ShapeEntry) (stand : Stand) (loose none moved list : List Shape) → none ≡ [] → list ≡ moved → Adds none moved (SomeGives (IsMoved stand.place) loose)
    → SomeHas (TouchesElsewhere connections entries stand.steps.now) list ↔ SomeHas (IsContactOf connections entries stand) loose
contacts_moved connections entries stand loose none moved list empty same adds =
    let all : moved ≡ adds.added = adds.is ∙ ap (λ (l : List Shape). l ++ adds.added) empty in (
      (λ some.
          let s = who_has (TouchesElsewhere connections entries stand.steps.now) list some in
          let g = giver (IsMoved stand.place) loose s.0 (adds.only s.0 (subst (λ (l : List Shape). Contains l s.0) (same ∙ all) s.1)) in
          some_has (IsContactOf connections entries stand) loose g.0 g.1 (record { shape = s.0; moved = g.2; touches = s.2 })),
      (λ some.
          let w = who_has (IsContactOf connections entries stand) loose some in
          let contact = w.2 in
          some_has (TouchesElsewhere connections entries stand.steps.now) list contact.shape
          (subst (λ (l : List Shape). Contains l contact.shape) (sym (same ∙ all)) (adds.each contact.shape (gives_some (IsMoved stand.place) loose contact.shape w.0 w.1 contact.moved))) contact.touches),
    )

-- a shape compares as equal with itself
pub equals_itself : (s : Shape) → shape_eq s s ≡ true
equals_itself s =
    let x1 = ap is_eq (tied_itself int_cmp_total s.rect.x1) in
    let y1 = ap is_eq (tied_itself int_cmp_total s.rect.y1) in
    let x2 = ap is_eq (tied_itself int_cmp_total s.rect.x2) in
    let y2 = ap is_eq (tied_itself int_cmp_total s.rect.y2) in
    both_true (eqb s.layer s.layer) _ ((Decides-eqb s.layer s.layer).1 refl) (both_true (is_eq (int_cmp s.rect.x1 s.rect.x1)) _ x1 (both_true (is_eq (int_cmp s.rect.y1 s.rect.y1)) _ y1 (both_true (is_eq (int_cmp s.rect.x2 s.rect.x2)) _ x2 y2)))
  where
    both_true : (a b : Bool) → a ≡ true → b ≡ true → (a && b) ≡ true
    both_true true b e f = f
    both_true false b e f = absurd cc
