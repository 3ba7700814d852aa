-- Leaf files have one answer: one first difference or none, or one refusal.
use Rattle.std.specs.Prelude.{◌≡◌, ◌≢◌, Option}
use Rattle.std.specs.List.{AllByRecursion}
use Rattle.gds_library.specs.Writable.{IsWritableCell}
use Rattle.device_lvs.specs.declared.difference.DeviceDiff.{DeviceDiff}
use Rattle.device_lvs.specs.declared.fault.DeviceFault.{DeviceFault}
use Rattle.device_lvs.specs.declared.fault.DeviceFault.TheVariants.{Memory}
use Rattle.device_lvs.specs.Answer.{IsDeviceFault, IsDeviceAnswer}
use Rattle.device_lvs.specs.Roles.{LeafFiles}

-- one answer
abbrev pub DeviceAnswersAreUnique : Type 0
DeviceAnswersAreUnique = (files : LeafFiles) (a b : Option DeviceDiff) → IsDeviceAnswer files a → IsDeviceAnswer files b → a ≡ b

-- one refusal, memory that ran out aside
abbrev pub DeviceFaultsAreUnique : Type 0
DeviceFaultsAreUnique = (files : LeafFiles) (f g : DeviceFault) → AllByRecursion IsWritableCell files.structs → f ≢ Memory → g ≢ Memory
    → IsDeviceFault files f → IsDeviceFault files g → f ≡ g

-- and not both
abbrev pub DeviceFaultsExcludeAnswers : Type 0
DeviceFaultsExcludeAnswers = (files : LeafFiles) (f : DeviceFault) (a : Option DeviceDiff) → AllByRecursion IsWritableCell files.structs → f ≢ Memory
    → IsDeviceFault files f → IsDeviceAnswer files a → ⊥
