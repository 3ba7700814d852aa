use Rattle.std.proofs.Common.{◌≡◌, List, [], ◌∷◌, ◌++◌, sym, ap, subst, ◌∙◌, append_assoc}
use Rattle.std.specs.Prelude.{reverse}
use Rattle.std.specs.List.{AllByRecursion}
use Rattle.std.proofs.lemmas.List.{reverse-append}
use Rattle.or_geom.specs.declared.shape.Point.{Point}
use Rattle.gds_records.specs.Values.{IsShort}
use Rattle.gds_records.specs.Writing.{point_bytes, points_bytes}
use Rattle.gds_records.proofs.writing.append_points_back.Goals as goal

front_short : (front : List Point) (p : Point) → AllByRecursion IsShort (front ++ p ∷ []) → AllByRecursion IsShort front
front_short [] p all = tt
front_short (q ∷ front) p all = (all.0, front_short front p all.1)

-- the bytes of points from the last to the first
last_first : (front : List Point) (p : Point)
    → points_bytes (reverse (front ++ p ∷ [])) ≡ point_bytes p ++ points_bytes (reverse front)
last_first front p = ap points_bytes (reverse-append front (p ∷ []))

pub loop-point-preserved : goal.loop-point-preserved
loop-point-preserved c =
    let front = c.in-Some.front.now in
    let p = c.in-Some.point.now in
    let out = c.loop-point.out.items in
    let parts = c.in-Some.ensures.cases.0 in
    record {
      bytes = ap (λ l. l ++ points_bytes (reverse front)) c.in_ok-append_point.ensures
          ∙ append_assoc out (point_bytes p) (points_bytes (reverse front))
          ∙ ap (λ l. out ++ l) (sym (last_first front p))
          ∙ ap (λ (l : List Point). out ++ points_bytes (reverse l)) (sym parts)
          ∙ c.loop-point.invariant.bytes;
      short = front_short front p (subst (AllByRecursion IsShort) parts c.loop-point.invariant.short);
    }
