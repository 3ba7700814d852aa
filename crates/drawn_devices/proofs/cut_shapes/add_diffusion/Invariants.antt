use Rattle.drawn_devices.specs.DiffusionBoxes.{IsDiffusionAdded}
use Rattle.drawn_devices.proofs.cut_shapes.add_diffusion.Given as goal

abbrev pub invariant-loop-index : goal.invariant-loop-index
invariant-loop-index l = IsDiffusionAdded l.devices l.shapes l.index l.fn.out.items l.out.items
