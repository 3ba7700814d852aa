-- Leaf cells have a reply or a refusal.
use Rattle.std.proofs.Common.{◌≢◌, inl, inr, refl, arith}
use Rattle.std.specs.Prelude.{Ok, Err}
use Rattle.cell_hierarchy.specs.declared.fault.FlattenFault.{FlattenFault}
use Rattle.cell_hierarchy.specs.declared.fault.FlattenFault.TheVariants as flatten
use Rattle.device_command.specs.DeviceLines.{device_refusal, device_reply}
use Rattle.device_lvs.specs.declared.fault.DeviceFault.{DeviceFault}
use Rattle.device_lvs.specs.declared.fault.DeviceFault.TheVariants.{NoDevices, Flatten, UnknownSubckt, Nested, BadDevice, Memory}
use Rattle.device_lvs.specs.Answer.{IsDeviceFault}
use Rattle.device_lvs.specs.Roles.{LeafFiles}
use Rattle.device_lvs.specs.RoleSteps.{leaf_files}
use Rattle.reply_lines.specs.declared.refusal.Refusal.TheVariants as refusal_of
use Rattle.command_steps.specs.Once.{IsLow}
use Rattle.flat_answers.proofs.FlatAnswerLaws.{flat_lists_or_fault}
use Rattle.device_answers.specs.DeviceAnswers.{DevicesAreAnswered}
use Rattle.device_answers.proofs.RoleThereLaws.{files_answered}

-- a refusal for which memory isn't the reason
flatten_low : (fault : FlattenFault) → fault ≢ flatten.Memory → IsLow (refusal_of.Flatten fault)
flatten_low (flatten.UnknownStruct name) lasts = omega arith
flatten_low (flatten.Cycle name) lasts = omega arith
flatten_low (flatten.TooDeep depth) lasts = omega arith
flatten_low (flatten.TooMany shapes labels) lasts = omega arith
flatten_low (flatten.Far x y) lasts = omega arith
flatten_low flatten.Memory lasts = absurd (lasts refl)

refusal_low : (files : LeafFiles) (fault : DeviceFault) → fault ≢ Memory → IsDeviceFault files fault → IsLow (device_refusal fault)
refusal_low files NoDevices lasts is = omega arith
refusal_low files (Flatten fault) lasts is = flatten_low fault is.is.0
refusal_low files (UnknownSubckt name) lasts is = omega arith
refusal_low files (Nested role) lasts is = omega arith
refusal_low files (BadDevice role line) lasts is = omega arith
refusal_low files Memory lasts is = absurd (lasts refl)

pub devices_are_answered : DevicesAreAnswered
devices_are_answered tech lib deck writable =
    let files = leaf_files tech lib deck in
    elim (files_answered files flat_lists_or_fault writable) [
      | inl a ↦ (Ok (device_reply a.0), tt, (a.0, a.1, refl))
      | inr f ↦ (Err (device_refusal f.0), refusal_low files f.0 f.1 f.2, (f.0, f.2, refl))
    ]
