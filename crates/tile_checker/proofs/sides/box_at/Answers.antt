use Rattle.std.proofs.Common.{arith, refl}
use Rattle.std.proofs.lemmas.Int.{ints, by_lt_z}
use Rattle.std.proofs.lemmas.List.{nil_from_length}
use Rattle.shape_bins.specs.Layers.{rects_on}
use Rattle.tile_checker.proofs.SideLaws.{none_reach, none_further, none_between, box_stands, both_low}
use Rattle.tile_checker.proofs.sides.box_at.Goals as goal

pub returns-in_default : goal.returns-in_default
returns-in_default c =
    none_reach (rects_on c.args._layer c.args._bins.now) c.args.frame c.args.strips.now c.args.window.left c.requires.frame c.requires.left c.requires.right c.requires.rights (nil_from_length c.args.strips.now c.in_default.ensures.cases)

pub returns-then-last-window : goal.returns-then-last-window
returns-then-last-window c =
    none_further (rects_on c.args._layer c.args._bins.now) c.args.frame c.args.strips.now c.in-Some._rest.now c.in-Some.last.now c.args.window.left c.requires.right c.requires.rights c.in-Some.ensures.cases.0 (omega (arith, ints))

pub has_room-requires : goal.has_room-requires
has_room-requires c =
    both_low (rects_on c.args._layer c.args._bins.now) c.args.frame c.args.strips.now c.in-Some._rest.now c.in-Some.last.now c.args.window c.within-both.result c.requires.window c.requires.rights c.in-Some.ensures.cases.0 c.requires.before
    (omega (arith, ints)) c.within-both.ensures

pub returns-then-not-has_room : goal.returns-then-not-has_room
returns-then-not-has_room c =
    none_between (rects_on c.args._layer c.args._bins.now) c.args.frame c.args.strips.now c.in-Some._rest.now c.in-Some.last.now c.args.window c.within-both.result c.requires.frame c.requires.left c.requires.right c.requires.window c.requires.rights c.in-Some.ensures.cases.0
    c.requires.before (omega (arith, ints)) c.within-both.ensures (by_lt_z _ _ (λ lt. lt) (λ ge. let yes = c.if-not-has_room.ensures.1 ge in absurd cc))

pub highest-requires-clause-low : goal.highest-requires-clause-low
highest-requires-clause-low c =
    both_low (rects_on c.args._layer c.args._bins.now) c.args.frame c.args.strips.now c.in-Some._rest.now c.in-Some.last.now c.args.window c.within-both.result c.requires.window c.requires.rights c.in-Some.ensures.cases.0 c.requires.before
    (omega (arith, ints)) c.within-both.ensures

pub highest-requires-clause-room : goal.highest-requires-clause-room
highest-requires-clause-room c = c.if-not-has_room.ensures.0 refl

pub returns : goal.returns
returns c =
    box_stands (rects_on c.args._layer c.args._bins.now) c.args.frame c.args.strips.now c.in-Some._rest.now c.in-Some.last.now c.args.window c.within-both.result c.highest.result c.requires.left c.requires.right c.requires.window c.requires.rights c.in-Some.ensures.cases.0 c.requires.before
    (omega (arith, ints)) c.within-both.ensures (c.if-not-has_room.ensures.0 refl) (omega (arith, ints, c.highest.ensures.x)) c.highest.ensures.y
