use Rattle.std.proofs.Common.{w64}
use Rattle.std.proofs.lemmas.Int.{to_z-of_z}
use Rattle.box_pieces.proofs.CellLaws.{adds_sides}
use Rattle.box_pieces.proofs.around.add_box.Goals as goal

pub returns-in_ok-push : goal.returns-in_ok-push
returns-in_ok-push c =
    adds_sides c.args.out.now.items c.push.new.self.items _ c.args.x1 c.args.y1 c.args.x2 c.args.y2 c.in_ok-push.ensures.items (to_z-of_z w64 c.args.x1 c.ranges.x1) (to_z-of_z w64 c.args.y1 c.ranges.y1)
    (to_z-of_z w64 c.args.x2 c.ranges.x2) (to_z-of_z w64 c.args.y2 c.ranges.y2)
