use Rattle.drawn_devices.proofs.BoxLaws.{AreGatesSoFar}
use Rattle.drawn_devices.proofs.diffusion.gates_over.Given as goal

abbrev pub invariant-loop-device : goal.invariant-loop-device
invariant-loop-device l = AreGatesSoFar l.devices l.shapes l.layer l.device-index l.gates.items
