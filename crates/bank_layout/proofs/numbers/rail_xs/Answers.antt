-- A rail more.
use Rattle.std.proofs.Common.{[], w64, FitsSigned, ◌∙◌, arith}
use Rattle.std.proofs.lemmas.Int.{ints, to_z-of_z}
use Rattle.macro_layout.specs.Floorplan.{rail_x}
use Rattle.port_lists.proofs.TabulateLaws.{grown_as, all_of}
use Rattle.bank_layout.proofs.numbers.rail_xs.Goals as goal

pub loop-rail-preserved : goal.loop-rail-preserved
loop-rail-preserved c =
    let near = c.rail_x.ensures.near in
    let fits : FitsSigned w64 c.rail_x.result = omega (arith, ints, near.above, near.below) in
    grown_as [] _ _ _ c.loop-rail.rail (rail_x c.args.wire.now) c.loop-rail.invariant c.in_ok-push.ensures.items (to_z-of_z w64 c.rail_x.result fits ∙ c.rail_x.ensures.is)

pub returns : goal.returns
returns c = all_of [] _ c.loop-rail.rail _ (rail_x c.args.wire.now) c.loop-rail.invariant (omega arith)
