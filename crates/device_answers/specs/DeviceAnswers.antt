-- Each cell draws some transistors, and leaf cells have a reply or a refusal.
use Rattle.std.specs.Prelude.{List, Result}
use Rattle.std.specs.List.{AllByRecursion}
use Rattle.or_geom.specs.declared.shape.Shape.{Shape}
use Rattle.gds_library.specs.declared.library.Library.{Library}
use Rattle.gds_library.specs.Writable.{IsWritableCell}
use Rattle.tech_rules.specs.declared.tech.Tech.{Tech}
use Rattle.element_drawing.specs.PlainLabel.{PlainLabel}
use Rattle.netlist.specs.declared.deck.Deck.{Deck}
use Rattle.drawn_devices.specs.declared.drawn.DrawnDevices.{DrawnDevices}
use Rattle.drawn_devices.specs.Drawn.{AreDrawnDevices}
use Rattle.device_lvs.specs.RoleSteps.{leaf_files}
use Rattle.reply_lines.specs.declared.refusal.Refusal.{Refusal}
use Rattle.reply_lines.specs.declared.reply.Reply.{Reply}
use Rattle.command_steps.specs.Once.{IsDecided}
use Rattle.device_command.specs.DeviceLines.{AreDevicesAnswered}

-- whatever the shapes and labels are, they draw some channels and name some nets
abbrev pub DrawnDevicesAreThere : Type 0
DrawnDevicesAreThere = (tech : Tech) (shapes : List Shape) (labels : List PlainLabel) → (drawn : DrawnDevices) × AreDrawnDevices tech shapes labels drawn

-- any technology, a library whose structures can be written, and any deck have a reply, or a refusal other than want of memory
abbrev pub DevicesAreAnswered : Type 0
DevicesAreAnswered = (tech : Tech) (lib : Library) (deck : Deck) → AllByRecursion IsWritableCell lib.structs
    → (result : Result Reply Refusal) × IsDecided result × AreDevicesAnswered (leaf_files tech lib deck) result
