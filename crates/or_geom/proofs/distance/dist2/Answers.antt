use Rattle.std.proofs.Common.{◌≡◌, arith}
use Rattle.std.specs.Int.{w128}
use Rattle.std.proofs.lemmas.Int.{ints, to_z-of_z}
use Rattle.or_geom.proofs.DistanceLaws.{least_dist2, square_small, square_kept, sum_fits}
use Rattle.or_geom.proofs.distance.dist2.Goals as goal

pub overflow_add-result : goal.overflow_add-result
overflow_add-result c =
    let dx = c.distance.ensures in
    let dy = c.distance-2.ensures in
    let x = square_small c.distance.result dx.least.positive dx.bound in
    let y = square_small c.distance-2.result dy.least.positive dy.bound in
    let kx = square_kept c.distance.result dx.least.positive dx.bound in
    let ky = square_kept c.distance-2.result dy.least.positive dy.bound in
    let ex : c.from-dx.result ≡ c.distance.result = omega (arith, ints) in
    let ey : c.from-dy.result ≡ c.distance-2.result = omega (arith, ints) in
    rw (ex, ey, kx, ky) (sum_fits _ _ x y)

pub returns : goal.returns
returns c =
    let dx = c.distance.ensures in
    let dy = c.distance-2.ensures in
    let x = square_small c.distance.result dx.least.positive dx.bound in
    let y = square_small c.distance-2.result dy.least.positive dy.bound in
    let kx = square_kept c.distance.result dx.least.positive dx.bound in
    let ky = square_kept c.distance-2.result dy.least.positive dy.bound in
    let ex : c.from-dx.result ≡ c.distance.result = omega (arith, ints) in
    let ey : c.from-dy.result ≡ c.distance-2.result = omega (arith, ints) in
    let in_x = rw (c.across.ensures, c.across-2.ensures) at dx.least in
    let in_y = rw (c.upward.ensures, c.upward-2.ensures) at dy.least in
    rw (ex, ey, kx, ky) (least_dist2 c.args.a c.args.b c.distance.result c.distance-2.result _ in_x in_y (to_z-of_z w128 _ (sum_fits _ _ x y)))
