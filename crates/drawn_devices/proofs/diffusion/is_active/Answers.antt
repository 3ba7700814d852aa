use Rattle.std.proofs.Common.{◌≡◌, refl}
use Rattle.or_geom.proofs.GatheringLaws.{among_found}
use Rattle.tech_rules.specs.declared.tech.Device.{Device}
use Rattle.drawn_devices.proofs.diffusion.is_active.Goals as goal

pub returns-then-device-layer : goal.returns-then-device-layer
returns-then-device-layer c = (
  λ _. among_found (λ (device : Device). device.active ≡ c.args.layer) c.args.devices.now c.loop-device.device-index c.device-item.result c.loop-device-test.true c.device-item.is c.if-device-layer.true,
  λ _. refl,
)
