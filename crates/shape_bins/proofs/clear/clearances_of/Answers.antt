use Rattle.std.proofs.Common.{◌≡◌, ℤ, [], ◌∷◌, ◌++◌, Some, subst, ap, sym, ◌∙◌, w64, to_z, of_z, arith}
use Rattle.std.proofs.lemmas.Int.{to_z-of_z}
use Rattle.std.proofs.lemmas.Option.{slice_get-get_or}
use Rattle.or_geom.specs.declared.shape.Shape.{Shape}
use Rattle.shape_bins.proofs.ClearLaws.{clear_more}
use Rattle.shape_bins.proofs.clear.clearances_of.Goals as goal

pub loop-index-preserved : goal.loop-index-preserved
loop-index-preserved c =
    let same : to_z w64 (of_z w64 c.clearance_of.result) ≡ c.clearance_of.result = grind (arith, to_z-of_z) in
    clear_more c.args.forest.shapes.now c.args.boxes.now c.loop-index.index c.index-boxes-index.result c.clearance_of.result c.loop-index.clearances.items c.push.new.self.items
    (slice_get-get_or c.args.boxes.now c.loop-index.index c.index-boxes-index.result c.loop-index-test.true ∙ ap (λ (s : Shape). Some s) (sym c.index-boxes-index.is)) c.clearance_of.ensures
    (subst (λ (z : ℤ). c.push.new.self.items ≡ c.loop-index.clearances.items ++ z ∷ []) same c.in_ok-push.ensures.items) c.loop-index.invariant
