-- A pin that is there.
use Rattle.std.proofs.Common.{length, ap, arith}
use Rattle.main_channel.proofs.LeafLaws.{begin_read}
use Rattle.main_channel.proofs.leaves.pin_left.Goals as goal

pub bounds-as_slice-pin : goal.bounds-as_slice-pin
bounds-as_slice-pin c =
    let count = c.leaf_of.ensures.pins in
    let there = c.requires.there in
    let long = ap length c.as_slice.ensures in
    omega (arith, count, there, long)

pub returns : goal.returns
returns c =
    let r = begin_read c.args.kit.now c.args.role c.leaf_of.result.now c.args.pin c.as_slice.result.now c.index-as_slice-pin.result c.requires.kit c.leaf_of.ensures.is c.as_slice.ensures c.requires.there c.index-as_slice-pin.is in
    record { is = r.is; near = r.near }
