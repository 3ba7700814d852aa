-- Leaf cells have one answer, or one refusal.
use Rattle.std.proofs.Common.{◌≢◌, ◌<◌, sym, ap, subst, ◌∙◌, arith}
use Rattle.std.specs.List.{AllByRecursion}
use Rattle.gds_library.specs.Writable.{IsWritableCell}
use Rattle.device_lvs.specs.declared.fault.DeviceFault.{DeviceFault}
use Rattle.device_lvs.specs.declared.fault.DeviceFault.TheVariants as device_fault
use Rattle.device_lvs.specs.Answer.{IsDeviceFault}
use Rattle.device_lvs.specs.OneAnswer.{DeviceAnswersAreUnique, DeviceFaultsAreUnique, DeviceFaultsExcludeAnswers}
use Rattle.device_lvs.specs.Roles.{LeafFiles}
use Rattle.command_steps.specs.Once.{IsLow, IsOnce}
use Rattle.command_steps.proofs.OnceLaws.{on_fault}
use Rattle.device_command.specs.DeviceLines.{AreDevicesAnswered, AreDevicesReplied, device_refusal, device_reply}

-- a refusal that is neither a failed read nor want of memory isn't the memory of a layer below
device_lasts : (f : DeviceFault) → IsLow (device_refusal f) → f ≢ device_fault.Memory
device_lasts f low e = let five : 5 < 4 = subst (λ (g : DeviceFault). IsLow (device_refusal g)) e low in omega (arith, five)

pub on_devices_answered : DeviceAnswersAreUnique → DeviceFaultsAreUnique → DeviceFaultsExcludeAnswers → (files : LeafFiles) → AllByRecursion IsWritableCell files.structs → IsOnce (AreDevicesAnswered files)
on_devices_answered answers faults apart files writable =
    on_fault (AreDevicesReplied files) (IsDeviceFault files) device_refusal (λ a b p q. p.2 ∙ ap device_reply (answers files p.0 q.0 p.1 q.1) ∙ sym q.2)
    (λ f g s t p q. faults files f g writable (device_lasts f s) (device_lasts g t) p q) (λ f x s p q. apart files f q.0 writable (device_lasts f s) p q.1)
