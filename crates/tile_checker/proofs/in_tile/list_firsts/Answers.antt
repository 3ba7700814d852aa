use Rattle.std.proofs.Common.{arith}
use Rattle.std.proofs.lemmas.Int.{ints}
use Rattle.std.proofs.lemmas.Result.{on_ok_weaker}
use Rattle.tile_checker.proofs.OwnerLaws.{width_listed, enclose_listed, space_listed}
use Rattle.tile_checker.proofs.in_tile.list_firsts.Goals as goal

pub returns-in-Width : goal.returns-in-Width
returns-in-Width c = on_ok_weaker _ (λ a. width_listed c.args.rule.now _ _ c.args.bins.now c.args.tile _ _ c.in-Width.is c.clear.ensures.items a) c.add_near.ensures

pub returns-in-Enclose : goal.returns-in-Enclose
returns-in-Enclose c = on_ok_weaker _ (λ a. enclose_listed c.args.rule.now _ _ _ c.args.bins.now c.args.tile _ _ c.in-Enclose.is c.clear.ensures.items a) c.add_near-in-Enclose.ensures

pub returns-in-Space : goal.returns-in-Space
returns-in-Space c =
    let g = c.grown-area.ensures in
    on_ok_weaker _
    (λ a. space_listed c.args.rule.now _ _ c.in-Space.min c.args.bins.now c.args.tile c.grown-area.result _ _ c.in-Space.is c.requires.minimum
    (record { left = omega (arith, ints, g.left); right = omega (arith, ints, g.right); low = omega (arith, ints, g.low); high = omega (arith, ints, g.high) }) c.clear.ensures.items (rw c.min.ensures at a))
    c.add_near-in-Space.ensures
