-- The structures up to a place, and the one there.
use Rattle.std.proofs.Common.{◌<◌, length, sym, ◌∙◌, arith}
use Rattle.cell_chains.proofs.FirstLaws.{firsts_pass, firsts_keep, firsts_add, is_seen}
use Rattle.cell_chains.proofs.nodes.first_places.Goals as goal

pub loop-place-preserved-in_default : goal.loop-place-preserved-in_default
loop-place-preserved-in_default c =
    firsts_pass c.args.structs.now _ _ c.loop-place.place c.index-structs-place.result c.as_bytes.result.now (omega arith) c.as_bytes.ensures c.in_default.ensures.none c.loop-place.invariant

pub loop-place-preserved-then-is_some : goal.loop-place-preserved-then-is_some
loop-place-preserved-then-is_some c =
    let inside : c.in-Some.node < length c.loop-place.firsts.items = omega (arith, c.loop-place.invariant.sized, c.in-Some.ensures.found.within) in
    firsts_keep c.args.structs.now _ _ c.loop-place.place c.index-structs-place.result c.as_bytes.result.now c.in-Some.node (omega arith) c.as_bytes.ensures c.requires c.in-Some.ensures.found
    (is_seen c.loop-place.firsts.items c.in-Some.node c.index.result.now _ inside c.index.ensures (sym c.if-is_some.true ∙ c.is_some.ensures)) c.loop-place.invariant

pub loop-place-preserved : goal.loop-place-preserved
loop-place-preserved c =
    let inside : c.in-Some.node < length c.loop-place.firsts.items = omega (arith, c.loop-place.invariant.sized, c.in-Some.ensures.found.within) in
    firsts_add c.args.structs.now _ _ c.loop-place.place c.index-structs-place.result c.as_bytes.result.now c.in-Some.node (omega arith) c.as_bytes.ensures c.requires c.in-Some.ensures.found
    (is_seen c.loop-place.firsts.items c.in-Some.node c.index.result.now _ inside c.index.ensures (sym c.if-is_some.false ∙ c.is_some.ensures)) c.loop-place.invariant
