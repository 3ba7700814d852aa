use Rattle.std.proofs.Common.{◌∙◌}
use Rattle.std.proofs.lemmas.List.{nil_from_length}
use Rattle.rectilinear.proofs.SweepLaws.{sweep_begins, stands_at, sweep_ends, sweep_more, ends_are_even, next_above}
use Rattle.rectilinear.proofs.cutting.slabs.Goals as goal

pub loop-change-init : goal.loop-change-init
loop-change-init c = (
  c.in_ok-changes.changes.items,
  rw (c.as_slice-rest.ensures.value, c.new-ends.ensures.items, c.new-out.ensures.items)
      (sweep_begins c.args.corners.now c.deref.result.now _ (c.deref.ensures.value ∙ c.in_ok-all_sides.ensures) c.in_ok-changes.ensures.all c.in_ok-changes.ensures.climb),
)

pub returns-in_default-split_first : goal.returns-in_default-split_first
returns-in_default-split_first c =
    let here = stands_at c.args.corners.now c.loop-change.invariant.0 c.loop-change.rest.now c.in-Some.field-0-1.now c.in_ok-rest.rest.now c.in-Some.change.now c.height_of-low.result.y
    c.loop-change.ends.items c.pass.new.ends.items c.loop-change.out.items c.in-Some.ensures.cases.0 c.height_of-low.ensures c.in_ok-rest.ensures c.loop-change.invariant.1 in
    sweep_ends c.args.corners.now c.loop-change.invariant.0 c.in_ok-rest.rest.now c.height_of-low.result.y c.pass.new.ends.items c.loop-change.out.items (nil_from_length _ c.in_default-split_first.ensures.cases) here

pub band_of-requires : goal.band_of-requires
band_of-requires c =
    let here = stands_at c.args.corners.now c.loop-change.invariant.0 c.loop-change.rest.now c.in-Some.field-0-1.now c.in_ok-rest.rest.now c.in-Some.change.now c.height_of-low.result.y
    c.loop-change.ends.items c.pass.new.ends.items c.loop-change.out.items c.in-Some.ensures.cases.0 c.height_of-low.ensures c.in_ok-rest.ensures c.loop-change.invariant.1 in
    next_above c.args.corners.now c.loop-change.invariant.0 c.in_ok-rest.rest.now c.in-Some-split_first.field-0-1.now c.in-Some-split_first.next.now c.height_of-low.result.y c.height_of.result.y
    c.pass.new.ends.items c.loop-change.out.items c.in-Some-split_first.ensures.cases.0 c.height_of.ensures here

pub add_pairs-requires-clause-even : goal.add_pairs-requires-clause-even
add_pairs-requires-clause-even c =
    let here = stands_at c.args.corners.now c.loop-change.invariant.0 c.loop-change.rest.now c.in-Some.field-0-1.now c.in_ok-rest.rest.now c.in-Some.change.now c.height_of-low.result.y
    c.loop-change.ends.items c.pass.new.ends.items c.loop-change.out.items c.in-Some.ensures.cases.0 c.height_of-low.ensures c.in_ok-rest.ensures c.loop-change.invariant.1 in
    rw c.deref-in-Some.ensures.value (ends_are_even c.args.corners.now c.loop-change.invariant.0 c.in_ok-rest.rest.now c.height_of-low.result.y c.pass.new.ends.items c.loop-change.out.items here)

pub loop-change-preserved : goal.loop-change-preserved
loop-change-preserved c =
    let here = stands_at c.args.corners.now c.loop-change.invariant.0 c.loop-change.rest.now c.in-Some.field-0-1.now c.in_ok-rest.rest.now c.in-Some.change.now c.height_of-low.result.y
    c.loop-change.ends.items c.pass.new.ends.items c.loop-change.out.items c.in-Some.ensures.cases.0 c.height_of-low.ensures c.in_ok-rest.ensures c.loop-change.invariant.1 in (
      c.loop-change.invariant.0,
      sweep_more c.args.corners.now c.loop-change.invariant.0 c.in_ok-rest.rest.now c.in-Some-split_first.field-0-1.now c.in-Some-split_first.next.now c.height_of-low.result.y _ _
          c.pass.new.ends.items c.loop-change.out.items _ c.in-Some-split_first.ensures.cases.0
          (c.band_of.ensures.0, c.band_of.ensures.1 ∙ c.height_of.ensures) (rw c.deref-in-Some.ensures.value at c.in_ok-add_pairs.ensures) here,
    )
