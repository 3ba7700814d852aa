use Rattle.or_geom.proofs.ShapeOrderLaws.{same_shape}
use Rattle.drawn_devices.proofs.CutLaws.{cut_are}
use Rattle.drawn_devices.proofs.cut_shapes.cut_shapes.Goals as goal

pub returns : goal.returns
returns c =
    cut_are c.args.devices.now c.args.shapes.now _ c.add_drawn.new.out.items c.add_diffusion.new.out.items _ c.new-cut.ensures.items c.in_ok-add_drawn.ensures c.in_ok-add_diffusion.ensures c.sort_distinct.ensures.rises
    (λ s h. c.sort_distinct.ensures.keeps same_shape s h) c.sort_distinct.ensures.adds_none
