-- The line of each refusal: its number, its name and its fields.
use Rattle.std.specs.Prelude.{ℕ, List, [], ◌∷◌, codes}
use Rattle.std.specs.Fmt.{decimal, signed_decimal}
use Rattle.gds_library.specs.declared.fault.GdsFault.{GdsFault}
use Rattle.gds_library.specs.declared.fault.GdsFault.TheVariants as gds
use Rattle.tech_rules.specs.declared.fault.TechFault.{TechFault}
use Rattle.tech_rules.specs.declared.fault.TechFault.TheVariants as tech
use Rattle.spice_text.specs.declared.fault.SpiceFault.{SpiceFault}
use Rattle.spice_text.specs.declared.fault.SpiceFault.TheVariants as spice
use Rattle.spice_netlist.specs.declared.fault.FlatFault.{FlatFault}
use Rattle.spice_netlist.specs.declared.fault.FlatFault.TheVariants as rows
use Rattle.cell_hierarchy.specs.declared.fault.FlattenFault.{FlattenFault}
use Rattle.cell_hierarchy.specs.declared.fault.FlattenFault.TheVariants as flatten
use Rattle.sram_plan.specs.declared.fault.ConfigFault.{ConfigFault}
use Rattle.sram_plan.specs.declared.fault.ConfigFault.TheVariants as config
use Rattle.role_tables.specs.declared.fault.TableFault.{TableFault}
use Rattle.role_tables.specs.declared.fault.TableFault.TheVariants as table
use Rattle.leaf_tables.specs.declared.fault.KitFault.{KitFault}
use Rattle.leaf_tables.specs.declared.fault.KitFault.TheVariants as kit
use Rattle.leaf_tables.specs.declared.part.PartFault.{PartFault}
use Rattle.leaf_tables.specs.declared.part.PartFault.TheVariants as part
use Rattle.rom_data.specs.declared.fault.RomFault.{RomFault}
use Rattle.rom_data.specs.declared.fault.RomFault.TheVariants as rom
use Rattle.reply_lines.specs.Pins.{kind_and_pins}
use Rattle.reply_lines.specs.Shapes.{violation_words}
use Rattle.reply_lines.specs.declared.refusal.Refusal.{Refusal}
use Rattle.reply_lines.specs.declared.refusal.Refusal.TheVariants.{Usage, NoFile, TooLong, ReadFailed, Tech, Gds, Spice, Flatten, Rows, Config, Plan, Kit, Part, RuleBroken, NetsDiffer, NotRom, Rom, NoDevices, Nested, BadDevice, Memory}

abbrev pub headed : ℕ → List ℕ → List (List ℕ) → List (List ℕ)
headed number name fields = codes "openram:" ∷ (decimal number ∷ (name ∷ fields))

abbrev pub gds_words : GdsFault → List (List ℕ)
gds_words (gds.Truncated at) = headed 1 (codes "Truncated") (decimal at ∷ [])
gds_words (gds.BadRecord at code) = headed 2 (codes "BadRecord") (decimal at ∷ decimal code ∷ [])
gds_words (gds.NotInPlace at code) = headed 3 (codes "NotInPlace") (decimal at ∷ decimal code ∷ [])
gds_words (gds.BadUnits at) = headed 4 (codes "BadUnits") (decimal at ∷ [])
gds_words (gds.NotManhattan at) = headed 5 (codes "NotManhattan") (decimal at ∷ [])
gds_words (gds.BadTransform at) = headed 6 (codes "BadTransform") (decimal at ∷ [])
gds_words (gds.BadPath at) = headed 7 (codes "BadPath") (decimal at ∷ [])
gds_words (gds.TrailingBytes at) = headed 8 (codes "TrailingBytes") (decimal at ∷ [])
gds_words (gds.Twice at) = headed 10 (codes "Twice") (decimal at ∷ [])
gds_words gds.Memory = headed 94 (codes "Memory") []

abbrev pub tech_words : TechFault → List (List ℕ)
tech_words tech.NotToml = headed 21 (codes "NotToml") []
tech_words (tech.Missing key) = headed 22 (codes "Missing") (key ∷ [])
tech_words (tech.WrongKind key) = headed 23 (codes "WrongKind") (key ∷ [])
tech_words (tech.OutOfRange key) = headed 24 (codes "OutOfRange") (key ∷ [])
tech_words (tech.UnknownLayer key) = headed 25 (codes "UnknownLayer") (key ∷ [])
tech_words (tech.BadWire layer) = headed 26 (codes "BadWire") (layer ∷ [])
tech_words tech.Memory = headed 94 (codes "Memory") []

abbrev pub flatten_words : FlattenFault → List (List ℕ)
flatten_words (flatten.UnknownStruct name) = headed 31 (codes "UnknownStruct") (name ∷ [])
flatten_words (flatten.Cycle name) = headed 32 (codes "Cycle") (name ∷ [])
flatten_words (flatten.TooDeep depth) = headed 33 (codes "TooDeep") (decimal depth ∷ [])
flatten_words (flatten.TooMany shapes labels) = headed 34 (codes "TooMany") (decimal shapes ∷ decimal labels ∷ [])
flatten_words (flatten.Far x y) = headed 35 (codes "Far") (signed_decimal x ∷ signed_decimal y ∷ [])
flatten_words flatten.Memory = headed 94 (codes "Memory") []

abbrev pub spice_words : SpiceFault → List (List ℕ)
spice_words (spice.NotAscii at) = headed 11 (codes "NotAscii") (decimal at ∷ [])
spice_words (spice.OutsideSubckt line) = headed 12 (codes "OutsideSubckt") (decimal line ∷ [])
spice_words (spice.Unclosed line) = headed 13 (codes "Unclosed") (decimal line ∷ [])
spice_words (spice.Duplicate line) = headed 14 (codes "Duplicate") (decimal line ∷ [])
spice_words (spice.Refused line) = headed 15 (codes "Refused") (decimal line ∷ [])
spice_words (spice.BadLine line) = headed 19 (codes "BadLine") (decimal line ∷ [])
spice_words spice.Memory = headed 94 (codes "Memory") []

abbrev pub rows_words : FlatFault → List (List ℕ)
rows_words (rows.UnknownSubckt name) = headed 16 (codes "UnknownSubckt") (name ∷ [])
rows_words (rows.Cycle name) = headed 18 (codes "Cycle") (name ∷ [])
rows_words (rows.PortCount path) = headed 17 (codes "PortCount") (path ∷ [])
rows_words (rows.TooMany count) = headed 20 (codes "TooMany") (decimal count ∷ [])
rows_words rows.Memory = headed 94 (codes "Memory") []

abbrev pub config_words : ConfigFault → List (List ℕ)
config_words config.NotToml = headed 61 (codes "NotToml") []
config_words (config.UnknownKey key) = headed 64 (codes "UnknownKey") (key ∷ [])
config_words (config.Missing key) = headed 62 (codes "Missing") (key ∷ [])
config_words (config.WrongKind key) = headed 63 (codes "WrongKind") (key ∷ [])
config_words (config.OutOfRange key) = headed 65 (codes "OutOfRange") (key ∷ [])
config_words config.Memory = headed 94 (codes "Memory") []

abbrev pub table_words : TableFault → List (List ℕ)
table_words (table.MissingRole role) = headed 51 (codes "MissingRole") (role ∷ [])
table_words (table.BadRow role row) = headed 52 (codes "BadRow") (role ∷ decimal row ∷ [])
table_words (table.Differs role point) = headed 53 (codes "Differs") (role ∷ point ∷ [])
table_words table.Memory = headed 94 (codes "Memory") []

-- what a kit is read from has its own faults
abbrev pub kit_words : KitFault → List (List ℕ)
kit_words (kit.Gds fault) = gds_words fault
kit_words (kit.Spice fault) = spice_words fault
kit_words kit.NoWire = headed 50 (codes "NoWire") []
kit_words (kit.Table fault) = table_words fault
kit_words (kit.Flatten fault) = flatten_words fault
kit_words (kit.Outline role) = headed 56 (codes "Outline") (role ∷ [])
kit_words (kit.UnknownSubckt name) = headed 16 (codes "UnknownSubckt") (name ∷ [])
kit_words (kit.PortsDiffer role) = headed 60 (codes "PortsDiffer") (role ∷ [])
kit_words (kit.PinMissing role pin) = headed 54 (codes "PinMissing") (role ∷ pin ∷ [])
kit_words (kit.PinLayer role pin) = headed 55 (codes "PinLayer") (role ∷ pin ∷ [])
kit_words (kit.EdgePin role pin) = headed 59 (codes "EdgePin") (role ∷ pin ∷ [])
kit_words (kit.HeightDiffers role) = headed 57 (codes "HeightDiffers") (role ∷ [])
kit_words (kit.WidthDiffers role) = headed 58 (codes "WidthDiffers") (role ∷ [])
kit_words kit.Memory = headed 94 (codes "Memory") []

abbrev pub part_words : PartFault → List (List ℕ)
part_words (part.Close side first second) = headed 71 (codes "Close") (decimal side ∷ signed_decimal first ∷ signed_decimal second ∷ [])
part_words (part.TapsClose first second) = headed 72 (codes "TapsClose") (signed_decimal first ∷ signed_decimal second ∷ [])
part_words (part.SliceTooNarrow role) = headed 73 (codes "SliceTooNarrow") (role ∷ [])
part_words (part.NameTaken name) = headed 74 (codes "NameTaken") (name ∷ [])
part_words part.Memory = headed 94 (codes "Memory") []

abbrev pub rom_words : RomFault → List (List ℕ)
rom_words (rom.DataLength length) = headed 111 (codes "DataLength") (decimal length ∷ [])
rom_words (rom.DataBits word) = headed 112 (codes "DataBits") (decimal word ∷ [])
rom_words rom.Memory = headed 94 (codes "Memory") []

-- of a file that couldn't be written
abbrev pub unwritten_words : List ℕ → List (List ℕ)
unwritten_words name = headed 92 (codes "WriteFailed") (name ∷ [])

abbrev pub refusal_words : Refusal → List (List ℕ)
refusal_words Usage = headed 90 (codes "Usage") []
refusal_words (NoFile name) = headed 67 (codes "NoFile") (name ∷ [])
refusal_words (TooLong name) = headed 68 (codes "TooLong") (name ∷ [])
refusal_words (ReadFailed name) = headed 91 (codes "ReadFailed") (name ∷ [])
refusal_words (Tech fault) = tech_words fault
refusal_words (Gds fault) = gds_words fault
refusal_words (Spice fault) = spice_words fault
refusal_words (Flatten fault) = flatten_words fault
refusal_words (Rows fault) = rows_words fault
refusal_words (Config fault) = config_words fault
refusal_words (Plan fault) = headed 66 (codes "Shape") []
refusal_words (Kit fault) = kit_words fault
refusal_words (Part fault) = part_words fault
refusal_words (RuleBroken layers violation) = headed 81 (codes "RuleBroken") (violation_words layers violation)
refusal_words (NetsDiffer difference) = headed 82 (codes "NetsDiffer") (kind_and_pins difference)
refusal_words (NotRom key) = headed 113 (codes "NotRom") (key ∷ [])
refusal_words (Rom fault) = rom_words fault
refusal_words NoDevices = headed 103 (codes "NoDevices") []
refusal_words (Nested role) = headed 102 (codes "Nested") (role ∷ [])
refusal_words (BadDevice role line) = headed 101 (codes "BadDevice") (role ∷ decimal line ∷ [])
refusal_words Memory = headed 94 (codes "Memory") []
