use Rattle.std.proofs.Common.{◌≡◌}
use Rattle.or_geom.proofs.GatheringLaws.{IsAmongLeft}
use Rattle.tech_rules.specs.declared.tech.Device.{Device}
use Rattle.drawn_devices.proofs.diffusion.is_active.Given as goal

abbrev pub invariant-loop-device : goal.invariant-loop-device
invariant-loop-device l = IsAmongLeft (λ (device : Device). device.active ≡ l.layer) l.devices l.device-index
