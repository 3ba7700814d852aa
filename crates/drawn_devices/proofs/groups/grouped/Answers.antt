use Rattle.std.proofs.Common.{◌<◌, length, get_or, arith, sym, subst}
use Rattle.std.proofs.lemmas.Option.{get_or_from_slice_get, slice_get-get_or}
use Rattle.or_geom.specs.declared.shape.Shape.{Shape}
use Rattle.drawn_devices.specs.Groups.{IsPut}
use Rattle.drawn_devices.proofs.GroupLaws.{groups_more, put_number}
use Rattle.drawn_devices.proofs.groups.grouped.Goals as goal

pub put-requires : goal.put-requires
put-requires c =
    let i = c.loop-index.index in
    let n = get_or c.args.numbers.now i 0 in
    let sized = c.requires.sized in
    let inside : i < length c.args.numbers.now = omega (arith, sized, c.loop-index-test.true) in
    put_number c.args.shapes.now c.args.numbers.now i n c.loop-index.groups.items inside (sym (get_or_from_slice_get c.args.numbers.now i n n (slice_get-get_or c.args.numbers.now i 0 inside))) c.loop-index.invariant

pub loop-index-preserved : goal.loop-index-preserved
loop-index-preserved c =
    let i = c.loop-index.index in
    let n = get_or c.args.numbers.now i 0 in
    let sized = c.requires.sized in
    let inside : i < length c.args.numbers.now = omega (arith, sized, c.loop-index-test.true) in
    groups_more c.args.shapes.now c.args.numbers.now i n c.index-shapes-index.result c.loop-index.groups.items c.put.new.groups.items c.requires.sized c.loop-index-test.true c.index-shapes-index.is
    (sym (get_or_from_slice_get c.args.numbers.now i n n (slice_get-get_or c.args.numbers.now i 0 inside)))
    (subst (λ (s : Shape). IsPut s.rect n c.loop-index.groups.items c.put.new.groups.items) (sym c.index-shapes-index.is) c.in_ok-put.ensures) c.loop-index.invariant
