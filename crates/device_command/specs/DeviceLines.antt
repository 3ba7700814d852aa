-- What is answered of the transistors of leaf cells: the line of the first difference, or why there is no answer.
use Rattle.std.specs.Prelude.{◌≡◌, ℕ, List, [], ◌∷◌, Option, Some, None, Result, codes}
use Rattle.std.specs.Fmt.{signed_decimal}
use Rattle.device_lvs.specs.declared.difference.DeviceDiff.{DeviceDiff}
use Rattle.device_lvs.specs.declared.difference.DeviceDiff.TheVariants.{NotBox, Open, Short, Nameless, Absent, Extra}
use Rattle.device_lvs.specs.declared.fault.DeviceFault.{DeviceFault}
use Rattle.device_lvs.specs.declared.fault.DeviceFault.TheVariants as device_fault
use Rattle.device_lvs.specs.Answer.{IsDeviceAnswer, IsDeviceFault}
use Rattle.device_lvs.specs.Roles.{LeafFiles}
use Rattle.leaf_tables.specs.declared.fault.KitFault.TheVariants as kit_fault
use Rattle.reply_lines.specs.declared.refusal.Refusal.{Refusal}
use Rattle.reply_lines.specs.declared.refusal.Refusal.TheVariants as refusal_of
use Rattle.reply_lines.specs.declared.reply.Reply.{Reply}
use Rattle.reply_lines.specs.Lines.{reply_line}
use Rattle.command_steps.specs.Outcome.{ValueOrFault}

-- the difference's name, the role, and its fields in order
abbrev pub device_words : DeviceDiff → List (List ℕ)
device_words (NotBox role x y) = codes "NotBox" ∷ (role ∷ (signed_decimal x ∷ (signed_decimal y ∷ [])))
device_words (Open role name) = codes "Open" ∷ (role ∷ (name ∷ []))
device_words (Short role first second) = codes "Short" ∷ (role ∷ (first ∷ (second ∷ [])))
device_words (Nameless role x y) = codes "Nameless" ∷ (role ∷ (signed_decimal x ∷ (signed_decimal y ∷ [])))
device_words (Absent role model gate low high) = codes "Absent" ∷ (role ∷ (model ∷ (gate ∷ (low ∷ (high ∷ [])))))
device_words (Extra role model gate low high) = codes "Extra" ∷ (role ∷ (model ∷ (gate ∷ (low ∷ (high ∷ [])))))

-- status 0 and nothing where there is none, else status 1 and its line
abbrev pub device_reply : Option DeviceDiff → Reply
device_reply None = record { status = 0; lines = [] }
device_reply (Some difference) = record { status = 1; lines = reply_line (device_words difference) ∷ [] }

-- why there is no answer, as it is printed; a missing subcircuit as one of a kit's
abbrev pub device_refusal : DeviceFault → Refusal
device_refusal device_fault.NoDevices = refusal_of.NoDevices
device_refusal (device_fault.Flatten fault) = refusal_of.Flatten fault
device_refusal (device_fault.UnknownSubckt name) = refusal_of.Kit (kit_fault.UnknownSubckt name)
device_refusal (device_fault.Nested role) = refusal_of.Nested role
device_refusal (device_fault.BadDevice role line) = refusal_of.BadDevice role line
device_refusal device_fault.Memory = refusal_of.Memory

-- the first difference of transistors, if there is one
abbrev pub AreDevicesReplied : LeafFiles → Reply → Type 0
AreDevicesReplied files reply = (difference : Option DeviceDiff) × IsDeviceAnswer files difference × (reply ≡ device_reply difference)

-- that, or the first refusal
abbrev pub AreDevicesAnswered : LeafFiles → Result Reply Refusal → Type 0
AreDevicesAnswered files = ValueOrFault (AreDevicesReplied files) (IsDeviceFault files) device_refusal
