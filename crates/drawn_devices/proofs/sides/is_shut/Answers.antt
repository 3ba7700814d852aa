use Rattle.drawn_devices.proofs.SideLaws.{shut_by_strip}
use Rattle.drawn_devices.proofs.sides.is_shut.Goals as goal

pub returns : goal.returns
returns c =
    shut_by_strip c.args.cell.now.tech.now c.args.cell.now.shapes.now c.args.cell.now.bins c.args.layer c.args.area c.strip.result c.args.side c.some_over.result c.is_none.result c.requires.cut.are c.requires.active c.strip.ensures c.some_over.ensures
    c.is_none.ensures
