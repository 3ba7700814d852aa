-- Pieces of an area from those of its two halves, and of boxes one by one.
use Rattle.std.proofs.Common.{◌≡◌, ◌⊎◌, inl, inr, ℕ, zero, suc, ◌+◌, ◌<◌, ◌≤◌, ℤ, ◌≤ℤ◌, ◌<ℤ◌, List, [], ◌∷◌, ◌++◌, length, get_or, take, sym, ap, subst, ◌∙◌, arith, false, ◌==◌}
use Rattle.std.specs.Prelude.{Contains, Option, None, Some, MatchOption}
use Rattle.std.proofs.lemmas.Int.{ints, by_lt_z}
use Rattle.std.proofs.lemmas.List.{take_more, take_all}
use Rattle.or_geom.specs.declared.shape.Rect.{Rect}
use Rattle.or_geom.specs.Covered.{HasCell, HasCellInSome}
use Rattle.or_geom.proofs.CoverLaws.{cell_among}
use Rattle.or_geom.proofs.ListLaws.{contains_first}
use Rattle.box_pieces.specs.declared.pieces.Pieces.{Pieces}
use Rattle.or_geom.specs.Containing.{HoldsRect}
use Rattle.box_pieces.specs.Cells.{IsIntersection, ShareNoCell, AreParts, AddsCells, IsInArea, IsCellInside, IsCellOutside, IsCellAround}
use Rattle.box_pieces.specs.declared.edges.Axis.TheVariants.{Across, Upward}
use Rattle.box_pieces.specs.declared.cut.Cut.{Cut}
use Rattle.box_pieces.specs.Edges.{IsPlaceBetween, CutsArea, AreHalves, AreUncut, HasNoEdge}
use Rattle.box_pieces.specs.Added.{AreAdded, AreAddedIn}
use Rattle.box_pieces.proofs.CellLaws.{cells_first, cells_second, cells_cases, only_cell, adds_no_cell, adds_boxes, adds_one_box, adds_two, adds_same}
use Rattle.box_pieces.proofs.CommonLaws.{is_part}

-- from the halves of an area to the area
pub halves_added : (area low high : Rect) (old mid new : List Rect) (P Q : ℤ → ℤ → Type 0) → AreHalves area low high → ((x y : ℤ) → HasCell area x y → P x y → Q x y) → ((x y : ℤ) → HasCell area x y → Q x y → P x y)
    → AddsCells old mid (IsInArea low P) → AddsCells mid new (IsInArea high P) → AddsCells old new (IsInArea area Q)
halves_added area low high old mid new P Q h to from a b =
    adds_same old new (λ x y. IsInArea low P x y ⊎ IsInArea high P x y) (IsInArea area Q) into out (adds_two old mid new (IsInArea low P) (IsInArea high P) a b) where
      into : (x y : ℤ) → IsInArea low P x y ⊎ IsInArea high P x y → IsInArea area Q x y
      into x y (inl l) = let w = h.in_low x y l.within in record { within = w; has = to x y w l.has }
      into x y (inr l) = let w = h.in_high x y l.within in record { within = w; has = to x y w l.has }

      out : (x y : ℤ) → IsInArea area Q x y → IsInArea low P x y ⊎ IsInArea high P x y
      out x y i = elim (h.each x y i.within) [
        | inl l ↦ inl (record { within = l; has = from x y i.within i.has })
        | inr l ↦ inr (record { within = l; has = from x y i.within i.has })
      ]

pub halves_merged : (area low high : Rect) (boxes parts one two old mid new : List Rect) → AreHalves area low high → AreParts area boxes parts → one ≡ parts → two ≡ parts → AddsCells old mid (IsInArea low (HasCellInSome one))
    → AddsCells mid new (IsInArea high (HasCellInSome two)) → AddsCells old new (IsInArea area (HasCellInSome boxes))
halves_merged area low high boxes parts one two old mid new h p e f a' b' =
    let a = subst (λ (l : List Rect). AddsCells old mid (IsInArea low (HasCellInSome l))) e a' in
    let b = subst (λ (l : List Rect). AddsCells mid new (IsInArea high (HasCellInSome l))) f b' in
    halves_added area low high old mid new (HasCellInSome parts) (HasCellInSome boxes) h (λ x y w c. (p.only x y c).1) (λ x y w c. p.each x y w c) a b

pub parts_added : (area : Rect) (boxes parts old new : List Rect) → AreParts area boxes parts → new ≡ old ++ parts → AddsCells old new (IsInArea area (HasCellInSome boxes))
parts_added area boxes parts old new p e =
    adds_boxes old parts new (IsInArea area (HasCellInSome boxes)) e (λ x y h. record { within = (p.only x y h).0; has = (p.only x y h).1 }) (λ x y i. p.each x y i.within i.has)

-- what is inside or outside of the parts is so of the boxes
inside_to : (area : Rect) (boxes parts by cutters : List Rect) → AreParts area boxes parts → AreParts area by cutters → (x y : ℤ) → HasCell area x y → IsCellInside parts cutters x y → IsCellInside boxes by x y
inside_to area boxes parts by cutters p q x y w i = record { among = (p.only x y i.among).1; some = (q.only x y i.some).1 }

inside_from : (area : Rect) (boxes parts by cutters : List Rect) → AreParts area boxes parts → AreParts area by cutters → (x y : ℤ) → HasCell area x y → IsCellInside boxes by x y → IsCellInside parts cutters x y
inside_from area boxes parts by cutters p q x y w i = record { among = p.each x y w i.among; some = q.each x y w i.some }

outside_to : (area : Rect) (boxes parts by cutters : List Rect) → AreParts area boxes parts → AreParts area by cutters → (x y : ℤ) → HasCell area x y → IsCellOutside parts cutters x y → IsCellOutside boxes by x y
outside_to area boxes parts by cutters p q x y w o = record { among = (p.only x y o.among).1; none = λ h. o.none (q.each x y w h) }

outside_from : (area : Rect) (boxes parts by cutters : List Rect) → AreParts area boxes parts → AreParts area by cutters → (x y : ℤ) → HasCell area x y → IsCellOutside boxes by x y → IsCellOutside parts cutters x y
outside_from area boxes parts by cutters p q x y w o = record { among = p.each x y w o.among; none = λ h. o.none (q.only x y h).1 }

pub halves_split : (area low high : Rect) (boxes parts by cutters : List Rect) (old mid new : Pieces) → AreHalves area low high → AreParts area boxes parts → AreParts area by cutters → AreAddedIn low parts cutters old mid → AreAddedIn high parts cutters mid new
    → AreAddedIn area boxes by old new
halves_split area low high boxes parts by cutters old mid new h p q a b = record {
  inside = halves_added area low high _ _ _ (IsCellInside parts cutters) (IsCellInside boxes by) h (inside_to area boxes parts by cutters p q) (inside_from area boxes parts by cutters p q) a.inside b.inside;
  outside = halves_added area low high _ _ _ (IsCellOutside parts cutters) (IsCellOutside boxes by) h (outside_to area boxes parts by cutters p q) (outside_from area boxes parts by cutters p q) a.outside b.outside;
}

-- the pieces of all parts are those of the area
pub all_added : (area : Rect) (boxes parts by cutters : List Rect) (old new : Pieces) → AreParts area boxes parts → AreParts area by cutters → AreAdded parts cutters old new → AreAddedIn area boxes by old new
all_added area boxes parts by cutters old new p q a = record {
  inside = adds_same _ _ (IsCellInside parts cutters) (IsInArea area (IsCellInside boxes by)) (λ x y i. let w = (p.only x y i.among).0 in record { within = w; has = inside_to area boxes parts by cutters p q x y w i })
      (λ x y i. inside_from area boxes parts by cutters p q x y i.within i.has) a.inside;
  outside = adds_same _ _ (IsCellOutside parts cutters) (IsInArea area (IsCellOutside boxes by)) (λ x y o. let w = (p.only x y o.among).0 in record { within = w; has = outside_to area boxes parts by cutters p q x y w o })
      (λ x y o. outside_from area boxes parts by cutters p q x y o.within o.has) a.outside;
}

-- an area with no box
pub none_added : (area : Rect) (boxes parts by : List Rect) (pieces : Pieces) → AreParts area boxes parts → parts ≡ [] → AreAddedIn area boxes by pieces pieces
none_added area boxes parts by pieces p e =
    let none : (x y : ℤ) → HasCell area x y → HasCellInSome boxes x y → ⊥ = λ x y w h. subst (λ (l : List Rect). HasCellInSome l x y) e (p.each x y w h) in
    record {
      inside = adds_no_cell _ _ (λ x y i. none x y i.within i.has.among);
      outside = adds_no_cell _ _ (λ x y o. none x y o.within o.has.among);
    }

-- where no edge of the cutters lies in the area, each of them covers it
reaches_low : (low high from to x : ℤ) → (IsPlaceBetween low high from → ⊥) → from <ℤ to → to ≤ℤ high → low ≤ℤ x → from ≤ℤ x
reaches_low low high from to x none order within at = by_lt_z low from (λ lt. absurd (none (record { above = lt; below = omega (arith, ints, order, within) }))) (λ le. omega (arith, ints, le, at))

reaches_high : (low high from to x : ℤ) → (IsPlaceBetween low high to → ⊥) → from <ℤ to → low ≤ℤ from → x <ℤ high → x <ℤ to
reaches_high low high from to x none order within at = by_lt_z to high (λ lt. absurd (none (record { above = omega (arith, ints, order, within); below = lt }))) (λ le. omega (arith, ints, le, at))

pub uncut_holds : (area : Rect) (boxes parts by cutters : List Rect) → AreParts area boxes parts → AreParts area by cutters → AreUncut area cutters → (r : Rect) → Contains cutters r → (x y : ℤ) → HasCellInSome parts x y → HasCell r x y
uncut_holds area boxes parts by cutters p q uncut r one x y h =
    let w = (p.only x y h).0 in
    let part : HoldsRect area r = is_part area r (λ i j c. (q.only i j (cell_among cutters r i j one c)).0) in
    let across : HasNoEdge Across area r = uncut.across r one in
    let upward : HasNoEdge Upward area r = uncut.upward r one in
    record {
      left = reaches_low area.x1 area.x2 r.x1 r.x2 x across.low r.wide part.right w.left;
      right = reaches_high area.x1 area.x2 r.x1 r.x2 x across.high r.wide part.left w.right;
      low = reaches_low area.y1 area.y2 r.y1 r.y2 y upward.low r.tall part.high w.low;
      high = reaches_high area.y1 area.y2 r.y1 r.y2 y upward.high r.tall part.low w.high;
    }

-- a list that isn't empty
pub some_left : (n : ℕ) → (n == 0) ≡ false → 0 < n
some_left zero e = absurd cc
some_left (suc n) e = omega arith

-- boxes that all lie in none of the others, or in one of them
pub all_outside : (boxes by : List Rect) (old new : Pieces) → by ≡ [] → new.inside.items ≡ old.inside.items → new.outside.items ≡ old.outside.items ++ boxes → AreAdded boxes by old new
all_outside boxes by old new none same more = record {
  inside = subst (λ (l : List Rect). AddsCells old.inside.items l (IsCellInside boxes by)) (sym same) (adds_no_cell old.inside.items (IsCellInside boxes by) (λ x y i. subst (λ (l : List Rect). HasCellInSome l x y) none i.some));
  outside = adds_boxes old.outside.items boxes new.outside.items (IsCellOutside boxes by) more (λ x y h. record { among = h; none = λ s. subst (λ (l : List Rect). HasCellInSome l x y) none s }) (λ x y o. o.among);
}

pub all_inside : (boxes by : List Rect) (old new : Pieces) → 0 < length by → ((r : Rect) → Contains by r → (x y : ℤ) → HasCellInSome boxes x y → HasCell r x y) → new.inside.items ≡ old.inside.items ++ boxes → new.outside.items ≡ old.outside.items → AreAdded boxes by old new
all_inside boxes [] old new some all more same = absurd (omega (arith, some))
all_inside boxes (r ∷ rs) old new some all more same =
    let holds : (x y : ℤ) → HasCellInSome boxes x y → HasCellInSome (r ∷ rs) x y = λ x y h. inl (all r (contains_first r rs) x y h) in
    record {
      inside = adds_boxes old.inside.items boxes new.inside.items (IsCellInside boxes (r ∷ rs)) more (λ x y h. record { among = h; some = holds x y h }) (λ x y i. i.among);
      outside = subst (λ (l : List Rect). AddsCells old.outside.items l (IsCellOutside boxes (r ∷ rs))) (sym same) (adds_no_cell old.outside.items (IsCellOutside boxes (r ∷ rs)) (λ x y o. o.none (holds x y o.among)));
    }

-- a box that the other leaves whole, and one that it cuts
pub box_outside : (rect by : Rect) (old new : Pieces) → ShareNoCell rect by → new.inside.items ≡ old.inside.items → new.outside.items ≡ old.outside.items ++ rect ∷ [] → AreAdded (rect ∷ []) (by ∷ []) old new
box_outside rect by old new none same more =
    let clear : (x y : ℤ) → HasCellInSome (rect ∷ []) x y → HasCellInSome (by ∷ []) x y → ⊥ = λ x y h s. none x y (only_cell rect x y h) (only_cell by x y s) in
    record {
      inside = subst (λ (l : List Rect). AddsCells old.inside.items l (IsCellInside (rect ∷ []) (by ∷ []))) (sym same) (adds_no_cell old.inside.items (IsCellInside (rect ∷ []) (by ∷ [])) (λ x y i. clear x y i.among i.some));
      outside = adds_boxes old.outside.items (rect ∷ []) new.outside.items (IsCellOutside (rect ∷ []) (by ∷ [])) more (λ x y h. record { among = h; none = clear x y h }) (λ x y o. o.among);
    }

pub box_cut : (rect by part : Rect) (old new : Pieces) → IsIntersection rect by part → new.inside.items ≡ old.inside.items ++ part ∷ [] → AddsCells old.outside.items new.outside.items (IsCellAround rect part) → AreAdded (rect ∷ []) (by ∷ []) old new
box_cut rect by part old new c more around = record {
  inside = adds_one_box old.inside.items new.inside.items part (IsCellInside (rect ∷ []) (by ∷ [])) more (λ x y h. let both = c.only x y h in record { among = inl both.0; some = inl both.1 }) (λ x y i. c.each x y (only_cell rect x y i.among) (only_cell by x y i.some));
  outside = adds_same old.outside.items new.outside.items (IsCellAround rect part) (IsCellOutside (rect ∷ []) (by ∷ []))
      (λ x y a. record { among = inl a.within; none = λ s. a.out (c.each x y a.within (only_cell by x y s)) })
      (λ x y o. record { within = only_cell rect x y o.among; out = λ h. o.none (inl (c.only x y h).1) }) around;
}

-- the pieces of two lists of boxes
inside_cases : (a b by : List Rect) (x y : ℤ) → IsCellInside (a ++ b) by x y → IsCellInside a by x y ⊎ IsCellInside b by x y
inside_cases a b by x y i = elim (cells_cases a b x y i.among) [ inl f ↦ inl (record { among = f; some = i.some }) | inr s ↦ inr (record { among = s; some = i.some }) ]

inside_join : (a b by : List Rect) (x y : ℤ) → IsCellInside a by x y ⊎ IsCellInside b by x y → IsCellInside (a ++ b) by x y
inside_join a b by x y (inl i) = record { among = cells_first a b x y i.among; some = i.some }
inside_join a b by x y (inr i) = record { among = cells_second a b x y i.among; some = i.some }

outside_cases : (a b by : List Rect) (x y : ℤ) → IsCellOutside (a ++ b) by x y → IsCellOutside a by x y ⊎ IsCellOutside b by x y
outside_cases a b by x y o = elim (cells_cases a b x y o.among) [ inl f ↦ inl (record { among = f; none = o.none }) | inr s ↦ inr (record { among = s; none = o.none }) ]

outside_join : (a b by : List Rect) (x y : ℤ) → IsCellOutside a by x y ⊎ IsCellOutside b by x y → IsCellOutside (a ++ b) by x y
outside_join a b by x y (inl o) = record { among = cells_first a b x y o.among; none = o.none }
outside_join a b by x y (inr o) = record { among = cells_second a b x y o.among; none = o.none }

both_added : (a b by : List Rect) (old mid new : Pieces) → AreAdded a by old mid → AreAdded b by mid new → AreAdded (a ++ b) by old new
both_added a b by old mid new f s = record {
  inside = adds_same _ _ (λ x y. IsCellInside a by x y ⊎ IsCellInside b by x y) (IsCellInside (a ++ b) by) (inside_join a b by) (inside_cases a b by) (adds_two _ _ _ (IsCellInside a by) (IsCellInside b by) f.inside s.inside);
  outside = adds_same _ _ (λ x y. IsCellOutside a by x y ⊎ IsCellOutside b by x y) (IsCellOutside (a ++ b) by) (outside_join a b by) (outside_cases a b by) (adds_two _ _ _ (IsCellOutside a by) (IsCellOutside b by) f.outside s.outside);
}

pub cuts_begin : (by : List Rect) (pieces : Pieces) → AreAdded [] by pieces pieces
cuts_begin by pieces = record { inside = adds_no_cell _ _ (λ x y i. i.among); outside = adds_no_cell _ _ (λ x y o. o.among) }

pub cuts_more : (boxes by : List Rect) (k : ℕ) (r : Rect) (old mid new : Pieces) → k < length boxes → r ≡ get_or boxes k r → AreAdded (take k boxes) by old mid → AreAdded (r ∷ []) by mid new → AreAdded (take (k + 1) boxes) by old new
cuts_more boxes by k r old mid new lt is f s =
    let e : take (k + 1) boxes ≡ take k boxes ++ r ∷ [] = take_more boxes k r lt ∙ ap (λ (t : Rect). take k boxes ++ t ∷ []) (sym is) in
    subst (λ (l : List Rect). AreAdded l by old new) (sym e) (both_added (take k boxes) (r ∷ []) by old mid new f s)

pub cuts_end : (boxes by : List Rect) (k : ℕ) (old new : Pieces) → length boxes ≤ k → AreAdded (take k boxes) by old new → AreAdded boxes by old new
cuts_end boxes by k old new far a = subst (λ (l : List Rect). AreAdded l by old new) (take_all k boxes far) a

-- the whole of what an area has
pub seen_holds : (area : Rect) (boxes parts one by cutters two : List Rect) → AreParts area boxes parts → AreParts area by cutters → AreUncut area cutters → one ≡ parts → two ≡ cutters
    → (r : Rect) → Contains two r → (x y : ℤ) → HasCellInSome one x y → HasCell r x y
seen_holds area boxes parts one by cutters two p q uncut e f r among x y h =
    uncut_holds area boxes parts by cutters p q uncut r (subst (λ (l : List Rect). Contains l r) f among) x y (subst (λ (l : List Rect). HasCellInSome l x y) e h)

pub seen_split : (area low high : Rect) (boxes parts one three by cutters two four : List Rect) (old mid new : Pieces) → AreHalves area low high → AreParts area boxes parts → AreParts area by cutters → one ≡ parts → two ≡ cutters → three ≡ parts → four ≡ cutters
    → AreAddedIn low one two old mid → AreAddedIn high three four mid new → AreAddedIn area boxes by old new
seen_split area low high boxes parts one three by cutters two four old mid new h p q e f g i a b =
    halves_split area low high boxes parts by cutters old mid new h p q
    (subst (λ (l : List Rect). AreAddedIn low l cutters old mid) e (subst (λ (l : List Rect). AreAddedIn low one l old mid) f a))
    (subst (λ (l : List Rect). AreAddedIn high l cutters mid new) g (subst (λ (l : List Rect). AreAddedIn high three l mid new) i b))

pub seen_added : (area : Rect) (boxes parts one by cutters two : List Rect) (old new : Pieces) → AreParts area boxes parts → AreParts area by cutters → one ≡ parts → two ≡ cutters → AreAdded one two old new → AreAddedIn area boxes by old new
seen_added area boxes parts one by cutters two old new p q e f a =
    all_added area boxes parts by cutters old new p q (subst (λ (l : List Rect). AreAdded l cutters old new) e (subst (λ (l : List Rect). AreAdded one l old new) f a))

-- what a test for a cut says where there is none
pub uncut_of : (area : Rect) (found : Option Cut) (seen cutters : List Rect) → found ≡ None → MatchOption found (AreUncut area seen) (CutsArea area) → seen ≡ cutters → AreUncut area cutters
uncut_of area None seen cutters none says e = subst (λ (l : List Rect). AreUncut area l) e says
uncut_of area (Some cut) seen cutters none says e = absurd cc

-- a list of one
pub one_item : (seen all : List Rect) (r : Rect) → 1 ≤ length seen → length seen < 2 → r ≡ get_or seen 0 r → seen ≡ all → r ∷ [] ≡ all
one_item [] all r some few is e = absurd (omega arith)
one_item (s ∷ []) all r some few is e = ap (λ (t : Rect). t ∷ []) is ∙ e
one_item (s ∷ t ∷ ts) all r some few is e = absurd (omega arith)
