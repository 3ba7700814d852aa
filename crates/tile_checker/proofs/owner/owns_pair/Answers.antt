use Rattle.std.proofs.Common.{◌≡◌, ◌-ℤ◌, arith}
use Rattle.std.specs.Int.{int_max}
use Rattle.std.proofs.lemmas.Int.{ints, clamps}
use Rattle.tile_checker.proofs.owner.owns_pair.Goals as goal

pub returns : goal.returns
returns c =
    let r = c.requires in
    let m = c.args.min.within in
    let x : c.max-x.result ≡ int_max (c.args.first.rect.x1 -ℤ c.args.min.value) c.args.second.rect.x1 = omega (arith, ints, clamps, c.max-x.ensures, r.x1.above, r.x1.below, m.positive, m.bounded) in
    let y : c.max-y.result ≡ int_max (c.args.first.rect.y1 -ℤ c.args.min.value) c.args.second.rect.y1 = omega (arith, ints, clamps, c.max-y.ensures, r.y1.above, r.y1.below, m.positive, m.bounded) in (
      λ t. let h = c.has_cell.ensures.0 t in record { left = omega (arith, ints, h.left, x); right = omega (arith, ints, h.right, x); low = omega (arith, ints, h.low, y); high = omega (arith, ints, h.high, y) },
      λ k. c.has_cell.ensures.1 (record { left = omega (arith, ints, k.left, x); right = omega (arith, ints, k.right, x); low = omega (arith, ints, k.low, y); high = omega (arith, ints, k.high, y) }),
    )
