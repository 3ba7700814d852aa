use Rattle.drawn_devices.proofs.SideLaws.{open_by_strip}
use Rattle.drawn_devices.proofs.sides.is_open.Goals as goal

pub returns : goal.returns
returns c =
    let law = open_by_strip c.args.cell.now.tech.now c.args.cell.now.shapes.now c.args.cell.now.bins c.args.layer c.args.area c.strip.result c.args.side c.requires.cut.are c.requires.active c.strip.ensures in
    (λ yes. law.0 (c.box_covered.ensures.0 yes), λ all. c.box_covered.ensures.1 (law.1 all))
