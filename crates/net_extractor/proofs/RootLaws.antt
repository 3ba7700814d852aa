-- What is together where all that touch are joined.
use Rattle.std.proofs.Common.{◌≡◌, inl, inr, ℕ, List, length, Some, refl, sym, ap, subst, ◌∙◌, arith}
use Rattle.std.specs.Prelude.{slice_get, Contains}
use Rattle.std.specs.List.Sorted.{IsStrictlySortedBy}
use Rattle.std.proofs.lemmas.Option.{slice_get_within}
use Rattle.or_geom.specs.declared.shape.Shape.{Shape}
use Rattle.or_geom.specs.ShapeOrder.{shape_order}
use Rattle.or_geom.proofs.ListLaws.{contained_at, one_at}
use Rattle.tech_rules.specs.declared.tech.Connect.{Connect}
use Rattle.tech_rules.specs.Net.{AreOnOneNet}
use Rattle.tech_rules.specs.Touch.{Touch}
use Rattle.tech_rules.proofs.LinkedLaws.{linked_carries}
use Rattle.net_extractor.specs.NetRoots.{AreNetRoots, AreShapesAt, IsTouchPair}
use Rattle.net_extractor.specs.Sets.{IsFalling, IsRootStep, Anywhere, AreTogether, AreSameSets, IsRootStepBy, JoinsSets, AreAlone, AreRootsOver}
use Rattle.net_extractor.proofs.ExtractLaws.{touch_turned, distinct}
use Rattle.net_extractor.proofs.NetLaws.{net_of_itself, net_further}
use Rattle.label_binding.proofs.PlaceLaws.{at_contained}
use Rattle.net_extractor.proofs.SetLaws.{itself, further, backward, upward}

-- what stands over a place where each is a root
alone_over : (count : ℕ) (above : List ℕ) (a b : ℕ) → AreAlone count above → slice_get above a ≡ Some b → a ≡ b
alone_over count above a b alone up =
    let lt = slice_get_within above a b up in
    let sized = alone.sized in
    one_at above a a b (alone.alone a (omega (arith, lt, sized))) up

pub alone_falls : (count : ℕ) (above : List ℕ) → AreAlone count above → IsFalling above
alone_falls count above alone = record { falls = λ a b up. let e = alone_over count above a b alone up in omega (arith, e) }

alone_same : (count : ℕ) (above : List ℕ) (a b : ℕ) → AreAlone count above → AreTogether above a b → a ≡ b
alone_same count above a b alone way = linked_carries Anywhere (IsRootStep above) (λ (k : ℕ). a ≡ k) (λ x y so_far has step. elim step [
  | inl up ↦ so_far ∙ alone_over count above x y alone up
  | inr down ↦ so_far ∙ sym (alone_over count above y x alone down)
]) a b refl way

-- the shapes of a pair touch
touch_at : (connections : List Connect) (shapes : List Shape) (a b : ℕ) → IsTouchPair connections shapes a b → AreShapesAt (Touch connections) shapes a b
touch_at connections shapes a b (inl l) = record { one = l.one; other = l.other; first = l.first; second = l.second; so = inl l.so }
touch_at connections shapes a b (inr c) = record { one = c.one; other = c.other; first = c.first; second = c.second; so = inr (inl c.so) }

module _ (connections : List Connect) (shapes : List Shape) (alone now : List ℕ) (each_alone : AreAlone (length shapes) alone) (joins : JoinsSets (IsTouchPair connections shapes) alone now) where
  -- the shape at the place is on one net with this one
  record IsOnNet (s : Shape) (place : ℕ) : Type 0 where
    shape : Shape
    there : slice_get shapes place ≡ Some shape
    net : AreOnOneNet connections shapes s shape

  net_on : (s : Shape) (a b : ℕ) → IsOnNet s a → AreShapesAt (Touch connections) shapes a b → IsOnNet s b
  net_on s a b on t =
      let same : on.shape ≡ t.one = one_at shapes a on.shape t.one on.there t.first in
      record {
        shape = t.other;
        there = t.second;
        net = net_further connections shapes s t.one t.other (subst (λ (u : Shape). AreOnOneNet connections shapes s u) same on.net) (contained_at shapes b t.other t.second) t.so;
      }

  turned_at : (a b : ℕ) → AreShapesAt (Touch connections) shapes b a → AreShapesAt (Touch connections) shapes a b
  turned_at a b t = record { one = t.other; other = t.one; first = t.second; second = t.first; so = touch_turned connections t.one t.other t.so }

  net_step : (s : Shape) (a b : ℕ) → IsOnNet s a → IsRootStepBy alone (IsTouchPair connections shapes) a b → IsOnNet s b
  net_step s a b on (inl stays) = subst (IsOnNet s) (alone_same (length shapes) alone a b each_alone stays) on
  net_step s a b on (inr (inl pair)) = net_on s a b on (touch_at connections shapes a b pair)
  net_step s a b on (inr (inr pair)) = net_on s a b on (turned_at a b (touch_at connections shapes b a pair))

  -- places that are together have shapes on one net
  pub together_net : (i j : ℕ) (s t : Shape) → slice_get shapes i ≡ Some s → slice_get shapes j ≡ Some t → AreTogether now i j → AreOnOneNet connections shapes s t
  together_net i j s t at_i at_j way =
      let on = linked_carries Anywhere (IsRootStepBy alone (IsTouchPair connections shapes)) (IsOnNet s) (λ x y so_far has step. net_step s x y so_far step) i j (record { shape = s; there = at_i; net = net_of_itself connections shapes s }) (joins.only i j way) in
      subst (λ (u : Shape). AreOnOneNet connections shapes s u) (one_at shapes j on.shape t on.there at_j) on.net

  -- the shape stands at a place that is together with this one
  record IsWith (i : ℕ) (shape : Shape) : Type 0 where
    place : ℕ
    there : slice_get shapes place ≡ Some shape
    way : AreTogether now i place

  -- places of shapes that touch are together
  touch_together : (a b : ℕ) (s t : Shape) → slice_get shapes a ≡ Some s → slice_get shapes b ≡ Some t → Touch connections s t → AreTogether now a b
  touch_together a b s t at_a at_b (inl layer) = joins.each a b (inl (record { one = s; other = t; first = at_a; second = at_b; so = layer }))
  touch_together a b s t at_a at_b (inr (inl cut)) = joins.each a b (inr (record { one = s; other = t; first = at_a; second = at_b; so = cut }))
  touch_together a b s t at_a at_b (inr (inr cut)) = backward now b a (joins.each b a (inr (record { one = t; other = s; first = at_b; second = at_a; so = cut })))

  with_step : (i : ℕ) (s t : Shape) → IsWith i s → Contains shapes t → Touch connections s t → IsWith i t
  with_step i s t w has touch =
      let at = at_contained shapes t has in
      record { place = has.0; there = at; way = further now i w.place has.0 w.way (touch_together w.place has.0 s t w.there at touch) }

  -- places of shapes on one net are together
  pub net_together : (i j : ℕ) (s t : Shape) → IsStrictlySortedBy shape_order shapes → slice_get shapes i ≡ Some s → slice_get shapes j ≡ Some t → AreOnOneNet connections shapes s t → AreTogether now i j
  net_together i j s t rises at_i at_j net =
      let w = linked_carries (Contains shapes) (Touch connections) (IsWith i) (λ u v so_far has touch. with_step i u v so_far has touch) s t (record { place = i; there = at_i; way = itself now i }) net in
      subst (AreTogether now i) (distinct shapes w.place j t rises w.there at_j) w.way

-- what is together has one root
one_root : (roots : List ℕ) (i j m : ℕ) → AreRootsOver roots → slice_get roots i ≡ Some m → AreTogether roots i j → slice_get roots j ≡ Some m
one_root roots i j m flat at_i way = linked_carries Anywhere (IsRootStep roots) (λ (k : ℕ). slice_get roots k ≡ Some m) (λ x y so_far has step. elim step [
  | inl up ↦
      let same : y ≡ m = one_at roots x y m up so_far in
      flat.flat x y up ∙ ap (λ (k : ℕ). Some k) same
  | inr down ↦
      let same : x ≡ m = one_at roots x x m (flat.flat y x down) so_far in
      down ∙ ap (λ (k : ℕ). Some k) same
]) i j at_i way

root_together : (roots : List ℕ) (i j m : ℕ) → slice_get roots i ≡ Some m → slice_get roots j ≡ Some m → AreTogether roots i j
root_together roots i j m at_i at_j = further roots i m j (upward roots i m at_i) (backward roots j m (upward roots j m at_j))

pub net_roots : (connections : List Connect) (shapes : List Shape) (alone now roots : List ℕ) → IsStrictlySortedBy shape_order shapes → AreAlone (length shapes) alone → JoinsSets (IsTouchPair connections shapes) alone now → AreSameSets now roots → AreRootsOver roots
    → AreNetRoots connections shapes roots
net_roots connections shapes alone now roots rises each_alone joins alike flat = record {
  sized = alike.sized ∙ (joins.sized ∙ each_alone.sized);
  inside = λ place root up.
      let lt = slice_get_within roots place root up in
      let le = alike.falls.falls place root up in
      let sized : length roots ≡ length shapes = alike.sized ∙ (joins.sized ∙ each_alone.sized) in
      omega (arith, lt, le, sized);
  same = λ i j m n s t at_s at_t at_i at_j. (
    λ e.
        let there : slice_get roots j ≡ Some m = at_j ∙ ap (λ (k : ℕ). Some k) (sym e) in
        together_net connections shapes alone now each_alone joins i j s t at_s at_t (alike.back.keeps i j (root_together roots i j m at_i there)),
    λ net.
        let way = alike.kept.keeps i j (net_together connections shapes alone now each_alone joins i j s t rises at_s at_t net) in
        one_at roots j m n (one_root roots i j m flat at_i way) at_j,
  );
}
