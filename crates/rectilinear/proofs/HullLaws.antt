-- Sides whose boxes are apart don't meet; lists of sides, half by half.
use Rattle.std.proofs.Common.{◌≡◌, inl, ℕ, ◌+◌, ◌<◌, List, [], ◌∷◌, ◌++◌, length, get_or, take, Bool, true, false, ◌↔◌, IsTrue, sym, subst, ◌∙◌, arith}
use Rattle.std.proofs.lemmas.List.{take_more}
use Rattle.or_geom.specs.declared.shape.Point.{Point}
use Rattle.rectilinear.specs.declared.ring.RingSide.{RingSide}
use Rattle.rectilinear.specs.declared.simple.Extent.{Extent}
use Rattle.rectilinear.specs.Simple.{LiesOnSide, AllMeet, MeetAcross, PairsMeet}
use Rattle.rectilinear.specs.Extents.{IsWithinExtent, IsExtentOf, IsCommon, IsExtentAround, IsEmpty, HoldsSides}

-- the box holds the sides so far, and holds them all where it holds the rest too
pub hull_grows : (ss : List RingSide) (e f : Extent) → ((p : Point) → IsWithinExtent e p → IsWithinExtent f p) → HoldsSides e ss → HoldsSides f ss
hull_grows [] e f wider holds = tt
hull_grows (s ∷ ss) e f wider holds = (λ p on. wider p (holds.0 p on), hull_grows ss e f wider holds.1)

pub holds_append : (ss : List RingSide) (s : RingSide) (e : Extent) → HoldsSides e ss → ((p : Point) → LiesOnSide s p → IsWithinExtent e p) → HoldsSides e (ss ++ s ∷ [])
holds_append [] s e holds one = (one, tt)
holds_append (t ∷ ts) s e holds one = (holds.0, holds_append ts s e holds.1 one)

apart_from : (s : RingSide) (ts : List RingSide) (e f both : Extent) → ((p : Point) → LiesOnSide s p → IsWithinExtent e p) → HoldsSides f ts → IsCommon e f both → IsEmpty both → AllMeet s ts
apart_from s [] e f both es ft c empty = tt
apart_from s (t ∷ ts) e f both es ft c empty = (inl (λ p on_s on_t. absurd (empty p (c.each p (es p on_s) (ft.0 p on_t)))), apart_from s ts e f both es ft.1 c empty)

-- sides in boxes that have no point in common don't meet
pub apart_sides : (ss ts : List RingSide) (e f both : Extent) → HoldsSides e ss → HoldsSides f ts → IsCommon e f both → IsEmpty both → MeetAcross ss ts
apart_sides [] ts e f both es ft c empty = tt
apart_sides (s ∷ ss) ts e f both es ft c empty = (apart_from s ts e f both es.0 ft c empty, apart_sides ss ts e f both es.1 ft c empty)

pub across_none : (ss : List RingSide) → MeetAcross ss []
across_none [] = tt
across_none (s ∷ ss) = (tt, across_none ss)

all_parts : (s : RingSide) (ts us : List RingSide) → AllMeet s (ts ++ us) ↔ (AllMeet s ts × AllMeet s us)
all_parts s [] us = (λ m. (tt, m), λ m. m.1)
all_parts s (t ∷ ts) us = let more = all_parts s ts us in (λ m. ((m.0, (more.0 m.1).0), (more.0 m.1).1), λ m. (m.0.0, more.1 (m.0.1, m.1)))

pub across_front : (ss ts us : List RingSide) → MeetAcross (ss ++ ts) us ↔ (MeetAcross ss us × MeetAcross ts us)
across_front [] ts us = (λ m. (tt, m), λ m. m.1)
across_front (s ∷ ss) ts us = let more = across_front ss ts us in (λ m. ((m.0, (more.0 m.1).0), (more.0 m.1).1), λ m. (m.0.0, more.1 (m.0.1, m.1)))

pub across_back : (ss ts us : List RingSide) → MeetAcross ss (ts ++ us) ↔ (MeetAcross ss ts × MeetAcross ss us)
across_back [] ts us = (λ m. (tt, tt), λ m. tt)
across_back (s ∷ ss) ts us =
    let here = all_parts s ts us in
    let more = across_back ss ts us in
    (λ m. (((here.0 m.0).0, (more.0 m.1).0), ((here.0 m.0).1, (more.0 m.1).1)), λ m. (here.1 (m.0.0, m.1.0), more.1 (m.0.1, m.1.1)))

pub pairs_parts : (ss ts : List RingSide) → PairsMeet (ss ++ ts) ↔ (PairsMeet ss × (PairsMeet ts × MeetAcross ss ts))
pairs_parts [] ts = (λ m. (tt, (m, tt)), λ m. m.1.0)
pairs_parts (s ∷ ss) ts =
    let here = all_parts s ss ts in
    let more = pairs_parts ss ts in (
      λ m. let h = here.0 m.0 in let r = more.0 m.1 in ((h.0, r.0), (r.1.0, (h.1, r.1.1))),
      λ m. (here.1 (m.0.0, m.1.1.0), more.1 (m.0.1, (m.1.0, m.1.1.1))),
    )

-- two tests, of which the second is made where the first holds
pub second_decides : {A B C : Type 0} (a b : Bool) → C ↔ (A × B) → IsTrue a ↔ A → IsTrue b ↔ B → a ≡ true → IsTrue b ↔ C
second_decides a b parts first second holds = (λ t. parts.1 (first.0 holds, second.0 t), λ c. second.1 (parts.0 c).1)

pub first_decides : {A B C : Type 0} (a : Bool) → C ↔ (A × B) → IsTrue a ↔ A → a ≡ false → IsTrue a ↔ C
first_decides a parts first fails = (λ t. absurd (true_is_not_false a t fails), λ c. first.1 (parts.0 c).0)
  where
    true_is_not_false : (a : Bool) → a ≡ true → a ≡ false → ⊥
    true_is_not_false a t f = absurd cc

pub across_front_of : (all ss ts us : List RingSide) → all ≡ ss ++ ts → MeetAcross all us ↔ (MeetAcross ss us × MeetAcross ts us)
across_front_of all ss ts us e = subst (λ (xs : List RingSide). MeetAcross xs us ↔ (MeetAcross ss us × MeetAcross ts us)) (sym e) (across_front ss ts us)

pub across_back_of : (ss all ts us : List RingSide) → all ≡ ts ++ us → MeetAcross ss all ↔ (MeetAcross ss ts × MeetAcross ss us)
across_back_of ss all ts us e = subst (λ (xs : List RingSide). MeetAcross ss xs ↔ (MeetAcross ss ts × MeetAcross ss us)) (sym e) (across_back ss ts us)

pub pairs_of : (all ss ts : List RingSide) → all ≡ ss ++ ts → PairsMeet all ↔ ((PairsMeet ss × PairsMeet ts) × MeetAcross ss ts)
pairs_of all ss ts e = subst (λ (xs : List RingSide). PairsMeet xs ↔ ((PairsMeet ss × PairsMeet ts) × MeetAcross ss ts)) (sym e) (let parts = pairs_parts ss ts in (λ m. let h = parts.0 m in ((h.0, h.1.0), h.1.1), λ m. parts.1 (m.0.0, (m.0.1, m.1))))

pub few_pairs : (ss : List RingSide) → length ss < 2 → PairsMeet ss
few_pairs [] lt = tt
few_pairs (s ∷ []) lt = (tt, tt)
few_pairs (s ∷ t ∷ ts) lt = absurd (omega (arith, lt))

pub same_facts : {A : Type 0} → A ↔ A
same_facts = (λ a. a, λ a. a)

pub apart_lists : (all ss others ts : List RingSide) (e f both : Extent) → all ≡ ss → others ≡ ts → HoldsSides e ss → HoldsSides f ts → IsCommon e f both → IsEmpty both → MeetAcross all others
apart_lists all ss others ts e f both is are es ft c empty = subst (λ (xs : List RingSide). MeetAcross xs others) (sym is) (subst (λ (xs : List RingSide). MeetAcross ss xs) (sym are) (apart_sides ss ts e f both es ft c empty))

pub none_behind : (ss ts : List RingSide) → ts ≡ [] → MeetAcross ss ts
none_behind ss ts e = subst (λ (xs : List RingSide). MeetAcross ss xs) (sym e) (across_none ss)

pub hull_more : (first : RingSide) (others : List RingSide) (d : RingSide) (k : ℕ) (e f g : Extent) → k < length others → IsExtentOf (get_or others k d) f → IsExtentAround e f g → HoldsSides e (first ∷ take k others) → HoldsSides g (first ∷ take (k + 1) others)
hull_more first others d k e f g lt es a holds =
    let more : HoldsSides g ((first ∷ take k others) ++ get_or others k d ∷ []) =
    holds_append (first ∷ take k others) (get_or others k d) g (hull_grows (first ∷ take k others) e g a.first holds) (λ p on. a.second p (es.each p on)) in
    subst (λ (xs : List RingSide). HoldsSides g (first ∷ xs)) (sym (take_more others k d lt)) more
