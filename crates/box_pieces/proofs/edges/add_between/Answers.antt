use Rattle.std.proofs.Common.{ℤ, [], ◌∷◌, ◌++◌, ap, ◌∙◌, w64, arith}
use Rattle.std.proofs.lemmas.Int.{ints, to_z-of_z}
use Rattle.box_pieces.proofs.EdgeLaws.{one_between}
use Rattle.box_pieces.proofs.edges.add_between.Goals as goal

pub returns-in_ok-push : goal.returns-in_ok-push
returns-in_ok-push c =
    let value = to_z-of_z w64 c.args.value c.ranges.value in
    one_between c.args.span.low c.args.span.high c.args.value c.args.out.now.items c.push.new.self.items (c.in_ok-push.ensures.items ∙ ap (λ (v : ℤ). c.args.out.now.items ++ v ∷ []) value)
    (record { above = omega (arith, ints); below = omega (arith, ints) })
