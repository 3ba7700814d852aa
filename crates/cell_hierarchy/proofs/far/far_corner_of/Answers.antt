use Rattle.cell_hierarchy.specs.Far.{upper_left, lower_right}
use Rattle.cell_hierarchy.proofs.FarLaws.{two_corners, corners_far}
use Rattle.cell_hierarchy.proofs.far.far_corner_of.Goals as goal
use Rattle.or_geom.specs.Place.{low_corner, high_corner}

pub returns : goal.returns
returns c =
    let rect = c.args.shape.rect in
    let left = two_corners c.lower_left.result c.upper_left.result (low_corner rect) (upper_left rect) c.far_at.result c.far_at-2.result c.first_of-left.result c.lower_left.ensures c.upper_left.ensures c.far_at.ensures c.far_at-2.ensures c.first_of-left.ensures in
    let right = two_corners c.lower_right.result c.upper_right.result (lower_right rect) (high_corner rect) c.far_at-3.result c.far_at-4.result c.first_of-right.result c.lower_right.ensures c.upper_right.ensures c.far_at-3.ensures c.far_at-4.ensures c.first_of-right.ensures in
    corners_far c.args.shape c.first_of-left.result c.first_of-right.result c.first_of.result left right c.first_of.ensures
