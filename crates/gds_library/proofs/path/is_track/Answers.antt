use Rattle.rectilinear.proofs.SimpleTest.{same_straight_test}
use Rattle.gds_library.specs.Values.{segments}
use Rattle.gds_library.proofs.path.is_track.Goals as goal

pub returns : goal.returns
returns c = same_straight_test (segments c.args.points.now) c.are_straight.result c.are_straight.ensures.0
    c.are_straight.ensures.1
