use Rattle.std.proofs.Common.{refl, ap, arith, of_z, w64}
use Rattle.std.proofs.lemmas.Int.{ints}
use Rattle.leaf_shapes.proofs.OutlineLaws.{outline_by}
use Rattle.leaf_shapes.proofs.outline.outline_size.Goals as goal

pub returns-in_default : goal.returns-in_default
returns-in_default c = λ size o. c.in_default.ensures o.shape o.alone

pub returns-then-rect-ne0 : goal.returns-then-rect-ne0
returns-then-rect-ne0 c = λ size o.
    let is = (outline_by c.args.wire.now c.args.outline c.args.shapes.now size c.in-Some.shape c.in-Some.ensures o).0 in
    absurd (c.if-rect-ne0.true (ap (of_z w64) is.left))

pub returns-then-rect-ne0-2 : goal.returns-then-rect-ne0-2
returns-then-rect-ne0-2 c = λ size o.
    let is = (outline_by c.args.wire.now c.args.outline c.args.shapes.now size c.in-Some.shape c.in-Some.ensures o).0 in
    absurd (c.if-rect-ne0-2.true (ap (of_z w64) is.low))

pub returns-then-rect-gt-LONGEST : goal.returns-then-rect-gt-LONGEST
returns-then-rect-gt-LONGEST c = λ size o.
    let is = (outline_by c.args.wire.now c.args.outline c.args.shapes.now size c.in-Some.shape c.in-Some.ensures o).0 in
    let at = is.right in
    let most = o.narrow in
    let more = c.if-rect-gt-LONGEST.true in
    absurd (omega (arith, ints, at, most, more))

pub returns-then-rect-gt-LONGEST-2 : goal.returns-then-rect-gt-LONGEST-2
returns-then-rect-gt-LONGEST-2 c = λ size o.
    let is = (outline_by c.args.wire.now c.args.outline c.args.shapes.now size c.in-Some.shape c.in-Some.ensures o).0 in
    let at = is.high in
    let most = o.low in
    let more = c.if-rect-gt-LONGEST-2.true in
    absurd (omega (arith, ints, at, most, more))

pub returns-then-not-lie_inside : goal.returns-then-not-lie_inside
returns-then-not-lie_inside c = λ size o.
    let inside = (outline_by c.args.wire.now c.args.outline c.args.shapes.now size c.in-Some.shape c.in-Some.ensures o).1 in
    let yes = c.if-not-lie_inside.ensures.1 inside in
    absurd cc

pub returns : goal.returns
returns c = record {
  shape = c.in-Some.shape;
  alone = c.in-Some.ensures;
  is = record { on = c.in-Some.ensures.there.on; left = omega (arith, ints); low = omega (arith, ints); right = omega (arith, ints); high = omega (arith, ints) };
  narrow = omega (arith, ints);
  low = omega (arith, ints);
  inside = c.if-not-lie_inside.ensures.0 refl;
}
