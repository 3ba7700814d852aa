use Rattle.std.proofs.Common.{arith, refl}
use Rattle.std.proofs.lemmas.Int.{ints, clamps}
use Rattle.shape_bins.specs.Layers.{rects_on}
use Rattle.tile_checker.proofs.FrameLaws.{frame_of_same, box_covers}
use Rattle.tile_checker.proofs.BoxLaws.{own_width, have_cell, no_width}
use Rattle.tile_checker.proofs.width.has_width.Goals as goal

pub returns-then-is_as_wide-clause-width : goal.returns-then-is_as_wide-clause-width
returns-then-is_as_wide-clause-width c = (λ yes. own_width (rects_on c.args.layer c.args.bins.now) c.args.min.value c.args.rect c.requires.own (c.if-is_as_wide.ensures.0 refl), λ h. refl)

pub returns-then-is_seen-clause-width : goal.returns-then-is_seen-clause-width
returns-then-is_seen-clause-width c = (λ yes. c.if-is_seen.ensures refl, λ h. refl)

pub hull-requires-clause-wide : goal.hull-requires-clause-wide
hull-requires-clause-wide c = let f = c.around-frame.ensures in omega (arith, ints, clamps, f.width, f.low_x, f.high_x)

pub hull-requires-clause-tall : goal.hull-requires-clause-tall
hull-requires-clause-tall c = let f = c.around-frame.ensures in omega (arith, ints, clamps, f.height, f.low_y, f.high_y)

pub covered_box-requires-clause-frame : goal.covered_box-requires-clause-frame
covered_box-requires-clause-frame c = have_cell _ _ _ c.around-frame.ensures

pub returns-in_default-clause-width : goal.returns-in_default-clause-width
returns-in_default-clause-width c =
    let frame = frame_of_same _ c.args.min.value _ _ (omega (arith, ints)) c.around-frame.ensures in
    (λ yes. absurd cc, λ h. absurd (no_width (rects_on c.args.layer c.args.bins.now) c.around-frame.result c.args.min.value c.args.rect frame (rw c.in_default.is at c.in_ok-found.ensures) h))

pub area_at-requires-clause-wide : goal.area_at-requires-clause-wide
area_at-requires-clause-wide c = let f = c.around-frame.ensures in omega (arith, ints, clamps, f.width)

pub area_at-requires-clause-tall : goal.area_at-requires-clause-tall
area_at-requires-clause-tall c = let f = c.around-frame.ensures in omega (arith, ints, clamps, f.height)

pub area_at-requires-clause-stands : goal.area_at-requires-clause-stands
area_at-requires-clause-stands c = rw c.in-Some.is at c.in_ok-found.ensures

pub returns-clause-width : goal.returns-clause-width
returns-clause-width c =
    let frame = frame_of_same _ c.args.min.value _ _ (omega (arith, ints)) c.around-frame.ensures in
    (λ yes. box_covers (rects_on c.args.layer c.args.bins.now) c.around-frame.result c.in-Some.corner c.args.min.value c.args.rect frame (rw c.in-Some.is at c.in_ok-found.ensures), λ h. refl)
