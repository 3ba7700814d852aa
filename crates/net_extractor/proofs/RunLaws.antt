-- Runs, shape by shape.
use Rattle.std.proofs.Common.{◌≡◌, inl, inr, ℕ, ◌+◌, ◌<◌, List, [], ◌∷◌, ◌++◌, length, get_or, Some, sym, ap, subst, ◌∙◌, arith}
use Rattle.std.specs.Prelude.{slice_get, Contains}
use Rattle.std.proofs.lemmas.Bool.{cases_lt}
use Rattle.std.proofs.lemmas.Int.{ints}
use Rattle.std.proofs.lemmas.Option.{slice_get-get_or, get_or_from_slice_get}
use Rattle.std.proofs.lemmas.List.Elements.{Contains-append_left, Contains-push, Contains-push_cases}
use Rattle.or_geom.specs.declared.shape.Rect.{Rect}
use Rattle.or_geom.specs.declared.shape.Shape.{Shape}
use Rattle.or_geom.specs.Containing.{HoldsRect}
use Rattle.or_geom.proofs.ListLaws.{contains_none}
use Rattle.or_geom.proofs.ContainingLaws.{around_first, around_second}
use Rattle.shape_bins.specs.Places.{IsListedBetween}
use Rattle.net_extractor.specs.declared.run.NearRun.{NearRun}
use Rattle.net_extractor.specs.declared.run.RunShape.{RunShape}
use Rattle.net_extractor.specs.Runs.{IsOfRun, IsNearRun, IsWider}

holds_itself : (r : Rect) → HoldsRect r r
holds_itself r = record { left = omega (arith, ints); right = omega (arith, ints); low = omega (arith, ints); high = omega (arith, ints) }

holds_on : (a b c : Rect) → HoldsRect a b → HoldsRect b c → HoldsRect a c
holds_on a b c one two = record {
  left = omega (arith, ints, one.left, two.left);
  right = omega (arith, ints, one.right, two.right);
  low = omega (arith, ints, one.low, two.low);
  high = omega (arith, ints, one.high, two.high);
}

-- the only shape of a list of one
one_shape : (shape other : RunShape) → Contains (shape ∷ []) other → shape ≡ other
one_shape shape other h = elim (Contains-push_cases [] shape other h) [
  | inl none ↦ absurd (contains_none other none)
  | inr e ↦ e
]

-- what stands at the position
at_position : (order : List ℕ) (at position place : ℕ) → at ≡ position → slice_get order at ≡ Some place → get_or order position 0 ≡ place
at_position order at position place e there = ap (λ (n : ℕ). get_or order n 0) (sym e) ∙ get_or_from_slice_get order at place 0 there

pub run_begins : (shapes : List Shape) (order : List ℕ) (begin : ℕ) (first : Shape) (own : List RunShape) → begin < length order → slice_get shapes (get_or order begin 0) ≡ Some first
    → own ≡ record { place = get_or order begin 0; rect = first.rect } ∷ [] → IsNearRun shapes order begin (record { layer = first.layer; hull = first.rect; end = begin + 1 }) own
run_begins shapes order begin first own lt there is =
    let run : NearRun = record { layer = first.layer; hull = first.rect; end = begin + 1 } in
    let shape : RunShape = record { place = get_or order begin 0; rect = first.rect } in
    subst (IsNearRun shapes order begin run) (sym is) (record {
      beyond = omega arith;
      all = λ other h. subst (IsOfRun shapes run) (one_shape shape other h) (record { there = there; held = holds_itself first.rect });
      placed = λ other h. subst (λ (s : RunShape). IsListedBetween order begin (begin + 1) s.place) (one_shape shape other h) (record { at = begin; from = omega arith; to = omega arith; there = slice_get-get_or order begin 0 lt });
      each = λ place b.
          let from = b.from in
          let to = b.to in
          record { shape = shape; listed = Contains-push [] shape; is = at_position order b.at begin place (omega (arith, from, to)) b.there };
    })

pub run_goes_on : (shapes : List Shape) (order : List ℕ) (begin : ℕ) (run : NearRun) (shape : Shape) (hull : Rect) (own more : List RunShape) → run.end < length order → slice_get shapes (get_or order run.end 0) ≡ Some shape → IsWider run shape hull
    → more ≡ own ++ record { place = get_or order run.end 0; rect = shape.rect } ∷ [] → IsNearRun shapes order begin run own → IsNearRun shapes order begin (record { layer = run.layer; hull = hull; end = run.end + 1 }) more
run_goes_on shapes order begin run shape hull own more lt there wider is so_far =
    let next : NearRun = record { layer = run.layer; hull = hull; end = run.end + 1 } in
    let last : RunShape = record { place = get_or order run.end 0; rect = shape.rect } in
    let on : slice_get shapes last.place ≡ Some (record { layer = run.layer; rect = shape.rect }) = there ∙ ap (λ (l : ℕ). let s : Shape = record { layer = l; rect = shape.rect } in Some s) wider.on in
    let beyond = so_far.beyond in
    subst (IsNearRun shapes order begin next) (sym is) (record {
      beyond = omega (arith, beyond);
      all = λ other h. elim (Contains-push_cases own last other h) [
        | inl earlier ↦ let o = so_far.all other earlier in record { there = o.there; held = holds_on hull run.hull other.rect (around_first run.hull shape.rect hull wider.around) o.held }
        | inr e ↦ subst (IsOfRun shapes next) e (record { there = on; held = around_second run.hull shape.rect hull wider.around })
      ];
      placed = λ other h. elim (Contains-push_cases own last other h) [
        | inl earlier ↦ let b = so_far.placed other earlier in let to = b.to in record { at = b.at; from = b.from; to = omega (arith, to); there = b.there }
        | inr e ↦ subst (λ (s : RunShape). IsListedBetween order begin (run.end + 1) s.place) e (record { at = run.end; from = omega (arith, beyond); to = omega arith; there = slice_get-get_or order run.end 0 lt })
      ];
      each = λ place b. elim (cases_lt b.at run.end) [
        | inl before ↦ let p = so_far.each place (record { at = b.at; from = b.from; to = before; there = b.there }) in record { shape = p.shape; listed = Contains-append_left own (last ∷ []) p.shape p.listed; is = p.is }
        | inr ge ↦ let to = b.to in record { shape = last; listed = Contains-push own last; is = at_position order b.at run.end place (omega (arith, ge, to)) b.there }
      ];
    })
