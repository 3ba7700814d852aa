use Rattle.std.proofs.Common.{length, ap, arith}
use Rattle.net_extractor.proofs.NumberLaws.{numbers_at, roots_within}
use Rattle.net_extractor.proofs.ShapeNetLaws.{first_nets_begin, first_nets_more, first_nets_all}
use Rattle.net_extractor.proofs.net_numbers.shape_nets.Goals as goal

pub loop-index-init : goal.loop-index-init
loop-index-init c = first_nets_begin c.args.connections.now c.args.bins.now _ _ c.in_ok-numbering.ensures.numbered c.in_ok-numbering.ensures.next c.new-nets.ensures

pub number_at-net-requires-clause-inside : goal.number_at-net-requires-clause-inside
number_at-net-requires-clause-inside c =
    let counted = ap length c.shapes-index-end.ensures in
    let sized = c.loop-index.invariant.numbered.roots.sized in
    omega (arith, counted, sized, c.loop-index-test.true)

pub number_at-net-requires-clause-within : goal.number_at-net-requires-clause-within
number_at-net-requires-clause-within c = roots_within c.args.connections.now c.args.bins.now c.loop-index.numbering c.loop-index.invariant.numbered

pub number_at-net-requires-clause-few : goal.number_at-net-requires-clause-few
number_at-net-requires-clause-few c =
    let counted = ap length c.shapes-index-end.ensures in
    let few = c.loop-index.invariant.few in
    omega (arith, counted, few, c.loop-index-test.true, c.requires.few)

pub loop-index-preserved : goal.loop-index-preserved
loop-index-preserved c =
    first_nets_more c.args.connections.now c.args.bins.now c.loop-index.index c.number_at-net.result c.loop-index.numbering _ c.loop-index.nets _
    (numbers_at c.args.connections.now c.args.bins.now c.loop-index.numbering c.loop-index.index c.number_at-net.result _ c.loop-index.invariant.numbered c.number_at-net.ensures) c.in_ok-push.ensures.ok c.loop-index.invariant

pub returns : goal.returns
returns c =
    let counted = ap length c.shapes-index-end.ensures in
    first_nets_all c.args.connections.now c.args.bins.now c.loop-index.index c.loop-index.numbering c.loop-index.nets (omega (arith, counted, c.loop-index-test.false, c.loop-index.auto.index-end)) c.loop-index.invariant
