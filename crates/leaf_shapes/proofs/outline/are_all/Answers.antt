use Rattle.std.proofs.Common.{◌≡◌, refl}
use Rattle.std.proofs.lemmas.Option.{slice_get_read}
use Rattle.or_geom.specs.declared.shape.Shape.{Shape}
use Rattle.or_geom.proofs.ListLaws.{contained_at}
use Rattle.leaf_shapes.proofs.OutlineLaws.{differ, equal_by}
use Rattle.leaf_shapes.proofs.PlaceLaws.{each_more, each_contained}
use Rattle.leaf_shapes.proofs.outline.are_all.Goals as goal

pub returns-then-ne : goal.returns-then-ne
returns-then-ne c =
    let s = c.shape-item.result in
    let at = slice_get_read c.args.shapes.now _ c.loop-shape.shape-index s refl c.loop-shape-test.true c.shape-item.is in (
      λ no. absurd cc,
      λ all. absurd (differ s c.args.one c.if-ne.ensures (all s (record { listed = contained_at c.args.shapes.now c.loop-shape.shape-index s at; on = c.if-shape-layer.false }))),
    )

pub loop-shape-preserved : goal.loop-shape-preserved
loop-shape-preserved c =
    let s = c.shape-item.result in
    each_more (λ (t : Shape). t.layer ≡ c.args.layer → t ≡ c.args.one) c.args.shapes.now c.loop-shape.shape-index s
    (slice_get_read c.args.shapes.now _ c.loop-shape.shape-index s refl c.loop-shape-test.true c.shape-item.is)
    (λ on. equal_by s c.args.one c.if-ne.ensures) c.loop-shape.invariant

pub returns : goal.returns
returns c = (
  λ _ s h. each_contained (λ (t : Shape). t.layer ≡ c.args.layer → t ≡ c.args.one) c.args.shapes.now c.loop-shape.shape-index c.loop-shape-test.false c.loop-shape.invariant s h.listed h.on,
  λ _. refl,
)
