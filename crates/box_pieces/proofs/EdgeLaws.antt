-- Edges of boxes that are gathered one by one.
use Rattle.std.proofs.Common.{length-append, ◌≡◌, inl, inr, ℕ, ◌+◌, ◌<◌, ◌≤◌, ℤ, List, [], ◌∷◌, ◌++◌, length, get_or, take, sym, ap, subst, ◌∙◌, arith}
use Rattle.std.specs.Prelude.{Contains, Option, None, Some, MatchOption}
use Rattle.std.proofs.lemmas.List.{take_more, take_all}
use Rattle.std.proofs.lemmas.List.Elements.{Contains-append_right, Contains-append_cases}
use Rattle.std.proofs.lemmas.List.Sorted.{IsPermutation-sym, Contains-permutation}
use Rattle.std.specs.List.Sorted.{IsPermutation}
use Rattle.or_geom.specs.declared.shape.Rect.{Rect}
use Rattle.or_geom.specs.declared.span.Span.{Span}
use Rattle.or_geom.proofs.ListLaws.{contains_none, contains_cases, contains_first}
use Rattle.box_pieces.specs.declared.edges.Axis.{Axis}
use Rattle.box_pieces.specs.Edges.{low_of, high_of, IsPlaceBetween, IsPlaceWithin, HasNoEdge, HaveNoEdge, AreEdges, AddsBetween}

pub one_between : (low high place : ℤ) (old new : List ℤ) → new ≡ old ++ place ∷ [] → IsPlaceBetween low high place → AddsBetween low high place old new
one_between low high place old new is between = record {
  more = inl (omega (arith, ap length is, length-append old (place ∷ [])));
  longer = omega (arith, ap length is, length-append old (place ∷ []));
  only = λ p h. elim (Contains-append_cases old (place ∷ []) p (subst (λ (l : List ℤ). Contains l p) is h)) [
    | inl f ↦ inl f
    | inr s ↦ elim (contains_cases place [] p s) [ inl e ↦ inr (subst (λ (q : ℤ). IsPlaceBetween low high q) (sym e) between) | inr none ↦ absurd (contains_none p none) ]
  ];
}

-- the edges of the boxes so far
pub record AreEdgesSoFar (axis : Axis) (area : Rect) (boxes : List Rect) (done : ℕ) (places : List ℤ) : Type 0 where
  pub each : (place : ℤ) → Contains places place → IsPlaceWithin axis area place
  pub none : length places ≡ 0 → (r : Rect) → Contains (take done boxes) r → HasNoEdge axis area r

pub edges_begin : (axis : Axis) (area : Rect) (boxes : List Rect) (places : List ℤ) → places ≡ [] → AreEdgesSoFar axis area boxes 0 places
edges_begin axis area boxes places e = record {
  each = λ p h. absurd (contains_none p (subst (λ (l : List ℤ). Contains l p) e h));
  none = λ z r h. absurd (contains_none r h);
}

no_more : (low high place : ℤ) (old new : List ℤ) → length new ≡ 0 → AddsBetween low high place old new → IsPlaceBetween low high place → ⊥
no_more low high place old new none a between = elim a.more [ inl less ↦ omega (arith, less) | inr out ↦ out between ]

-- the ends of what the area and the rectangle take of the axis
pub record AreEnds (axis : Axis) (area r : Rect) (room : Span) (low high : ℤ) : Type 0 where
  pub room_low : room.low ≡ low_of axis area
  pub room_high : room.high ≡ high_of axis area
  pub taken_low : low ≡ low_of axis r
  pub taken_high : high ≡ high_of axis r

between_as : (low high place low' high' place' : ℤ) (old new : List ℤ) → low ≡ low' → high ≡ high' → place ≡ place' → AddsBetween low high place old new → AddsBetween low' high' place' old new
between_as low high place low' high' place' old new l h p a = subst (λ (z : ℤ). AddsBetween low' high' z old new) p (subst (λ (z : ℤ). AddsBetween low' z place old new) h (subst (λ (z : ℤ). AddsBetween z high place old new) l a))

pub edges_more : (axis : Axis) (area : Rect) (boxes : List Rect) (k : ℕ) (r : Rect) (room : Span) (low high : ℤ) (old mid new : List ℤ) → k < length boxes → r ≡ get_or boxes k r → AreEnds axis area r room low high → AddsBetween room.low room.high low old mid
    → AddsBetween room.low room.high high mid new → AreEdgesSoFar axis area boxes k old → AreEdgesSoFar axis area boxes (k + 1) new
edges_more axis area boxes k r room low high old mid new lt is ends a' b' so =
    let a : AddsBetween (low_of axis area) (high_of axis area) (low_of axis r) old mid = between_as _ _ _ _ _ _ old mid ends.room_low ends.room_high ends.taken_low a' in
    let b : AddsBetween (low_of axis area) (high_of axis area) (high_of axis r) mid new = between_as _ _ _ _ _ _ mid new ends.room_low ends.room_high ends.taken_high b' in
    let e : take (k + 1) boxes ≡ take k boxes ++ r ∷ [] = take_more boxes k r lt ∙ ap (λ (t : Rect). take k boxes ++ t ∷ []) (sym is) in
    record {
      each = λ p h. elim (b.only p h) [ inl f ↦ elim (a.only p f) [ inl o ↦ so.each p o | inr t ↦ t ] | inr t ↦ t ];
      none = λ z s h.
          let m : length mid ≡ 0 = let longer = b.longer in omega arith in
          let o : length old ≡ 0 = let longer = a.longer in omega arith in
          elim (Contains-append_cases (take k boxes) (r ∷ []) s (subst (λ (l : List Rect). Contains l s) e h)) [
            | inl f ↦ so.none o s f
            | inr g ↦ elim (contains_cases r [] s g) [
              | inl same ↦ subst (λ (t : Rect). HasNoEdge axis area t) (sym same) (record { low = no_more _ _ _ old mid m a; high = no_more _ _ _ mid new z b })
              | inr none ↦ absurd (contains_none s none)
            ]
          ];
    }

pub edges_end : (axis : Axis) (area : Rect) (boxes : List Rect) (k : ℕ) (places : List ℤ) → length boxes ≤ k → AreEdgesSoFar axis area boxes k places → AreEdges axis area boxes places
edges_end axis area boxes k places far so = record { each = so.each; none = λ z r h. so.none z r (subst (λ (l : List Rect). Contains l r) (sym (take_all k boxes far)) h) }

-- the one in the middle of others is one of all
pub middle_among : (all front back : List ℤ) (place : ℤ) → IsPermutation all (front ++ place ∷ back) → Contains all place
middle_among all front back place p = Contains-permutation (front ++ place ∷ back) all place (IsPermutation-sym all (front ++ place ∷ back) p) (Contains-append_right front (place ∷ back) place (contains_first place back))

pub place_found : (axis : Axis) (area : Rect) (boxes : List Rect) (places seen : List ℤ) (found : Option ℤ) → AreEdges axis area boxes places → seen ≡ places → MatchOption found (length seen ≡ 0) (Contains seen)
    → MatchOption found (HaveNoEdge axis area boxes) (IsPlaceWithin axis area)
place_found axis area boxes places seen None edges e none = edges.none (subst (λ (l : List ℤ). length l ≡ 0) e none)
place_found axis area boxes places seen (Some place) edges e one = edges.each place (subst (λ (l : List ℤ). Contains l place) e one)
