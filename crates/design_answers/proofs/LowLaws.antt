-- A fault that is no want of memory is refused by a status below 4.
use Rattle.std.proofs.Common.{◌≢◌, inl, inr, ℕ, List, Bool, refl, sym, subst, lit<}
use Rattle.gds_library.specs.declared.fault.GdsFault.{GdsFault}
use Rattle.gds_library.specs.declared.fault.GdsFault.TheVariants as gds
use Rattle.spice_text.specs.declared.fault.SpiceFault.{SpiceFault}
use Rattle.spice_text.specs.declared.fault.SpiceFault.TheVariants as spice
use Rattle.tech_rules.specs.declared.fault.TechFault.{TechFault}
use Rattle.tech_rules.specs.declared.fault.TechFault.TheVariants as tech_fault
use Rattle.tech_rules.specs.declared.tech.Tech.{Tech}
use Rattle.sram_plan.specs.declared.fault.ConfigFault.{ConfigFault}
use Rattle.sram_plan.specs.declared.fault.ConfigFault.TheVariants as config_fault
use Rattle.cell_hierarchy.specs.declared.fault.FlattenFault.{FlattenFault}
use Rattle.cell_hierarchy.specs.declared.fault.FlattenFault.TheVariants as flatten
use Rattle.role_tables.specs.declared.fault.TableFault.{TableFault}
use Rattle.role_tables.specs.declared.fault.TableFault.TheVariants as table
use Rattle.rom_data.specs.declared.fault.RomFault.{RomFault}
use Rattle.rom_data.specs.declared.fault.RomFault.TheVariants as rom
use Rattle.cell_roles.specs.declared.leaf_role.LeafRole.{LeafRole}
use Rattle.cell_roles.specs.declared.leaf_role.LeafRole.TheVariants.{Fixed}
use Rattle.leaf_tables.specs.declared.fault.KitFault.{KitFault}
use Rattle.leaf_tables.specs.declared.fault.KitFault.TheVariants as kit_fault
use Rattle.leaf_tables.specs.declared.kit.Kit.{Kit}
use Rattle.leaf_tables.specs.Faults.{IsKitFault, of_table}
use Rattle.leaf_tables.specs.Kits.{source_of}
use Rattle.leaf_tables.specs.Leaves.{IsLeafFault, LeafSource}
use Rattle.rom_leaves.specs.declared.side.SharedSide.{SharedSide}
use Rattle.rom_leaves.specs.declared.side.SharedSide.TheVariants.{Height, Width, LeftOfBl, LeftOfBr, LowOfWl}
use Rattle.rom_leaves.specs.RomLeaves.{IsFixedFault, IsRomLeafFault}
use Rattle.rom_leaves.specs.Shared.{IsSideFault, fault_of_side}
use Rattle.reply_lines.specs.declared.refusal.Refusal.TheVariants as refusal_of
use Rattle.command_steps.specs.Once.{IsLow}

pub gds_low : (f : GdsFault) → f ≢ gds.Memory → IsLow (refusal_of.Gds f)
gds_low gds.Memory some = absurd (some refl)
gds_low (gds.Truncated at) some = lit< tt
gds_low (gds.BadRecord at code) some = lit< tt
gds_low (gds.NotInPlace at code) some = lit< tt
gds_low (gds.BadUnits at) some = lit< tt
gds_low (gds.NotManhattan at) some = lit< tt
gds_low (gds.BadTransform at) some = lit< tt
gds_low (gds.BadPath at) some = lit< tt
gds_low (gds.TrailingBytes at) some = lit< tt
gds_low (gds.Twice at) some = lit< tt

pub tech_low : (f : TechFault) → f ≢ tech_fault.Memory → IsLow (refusal_of.Tech f)
tech_low tech_fault.NotToml some = lit< tt
tech_low (tech_fault.Missing key) some = lit< tt
tech_low (tech_fault.WrongKind key) some = lit< tt
tech_low (tech_fault.OutOfRange key) some = lit< tt
tech_low (tech_fault.UnknownLayer key) some = lit< tt
tech_low (tech_fault.BadWire layer) some = lit< tt
tech_low tech_fault.Memory some = absurd (some refl)

pub config_low : (f : ConfigFault) → f ≢ config_fault.Memory → IsLow (refusal_of.Config f)
config_low config_fault.NotToml some = lit< tt
config_low (config_fault.UnknownKey key) some = lit< tt
config_low (config_fault.Missing key) some = lit< tt
config_low (config_fault.WrongKind key) some = lit< tt
config_low (config_fault.OutOfRange key) some = lit< tt
config_low config_fault.Memory some = absurd (some refl)

pub rom_low : (f : RomFault) → f ≢ rom.Memory → IsLow (refusal_of.Rom f)
rom_low (rom.DataLength count) some = lit< tt
rom_low (rom.DataBits word) some = lit< tt
rom_low rom.Memory some = absurd (some refl)

-- the same of what a kit is read from
in_gds_low : (f : GdsFault) → f ≢ gds.Memory → IsLow (refusal_of.Kit (kit_fault.Gds f))
in_gds_low gds.Memory some = absurd (some refl)
in_gds_low (gds.Truncated at) some = lit< tt
in_gds_low (gds.BadRecord at code) some = lit< tt
in_gds_low (gds.NotInPlace at code) some = lit< tt
in_gds_low (gds.BadUnits at) some = lit< tt
in_gds_low (gds.NotManhattan at) some = lit< tt
in_gds_low (gds.BadTransform at) some = lit< tt
in_gds_low (gds.BadPath at) some = lit< tt
in_gds_low (gds.TrailingBytes at) some = lit< tt
in_gds_low (gds.Twice at) some = lit< tt

in_spice_low : (f : SpiceFault) → f ≢ spice.Memory → IsLow (refusal_of.Kit (kit_fault.Spice f))
in_spice_low spice.Memory some = absurd (some refl)
in_spice_low (spice.NotAscii at) some = lit< tt
in_spice_low (spice.OutsideSubckt line) some = lit< tt
in_spice_low (spice.Unclosed line) some = lit< tt
in_spice_low (spice.Duplicate line) some = lit< tt
in_spice_low (spice.Refused line) some = lit< tt
in_spice_low (spice.BadLine line) some = lit< tt

in_table_low : (f : TableFault) → f ≢ table.Memory → IsLow (refusal_of.Kit (kit_fault.Table f))
in_table_low table.Memory some = absurd (some refl)
in_table_low (table.MissingRole role) some = lit< tt
in_table_low (table.BadRow role row) some = lit< tt
in_table_low (table.Differs role point) some = lit< tt

in_flatten_low : (f : FlattenFault) → f ≢ flatten.Memory → IsLow (refusal_of.Kit (kit_fault.Flatten f))
in_flatten_low flatten.Memory some = absurd (some refl)
in_flatten_low (flatten.UnknownStruct name) some = lit< tt
in_flatten_low (flatten.Cycle name) some = lit< tt
in_flatten_low (flatten.TooDeep depth) some = lit< tt
in_flatten_low (flatten.TooMany shapes labels) some = lit< tt
in_flatten_low (flatten.Far x y) some = lit< tt

pub kit_low : (tech : Tech) (bytes sp : List ℕ) (f : KitFault) → f ≢ kit_fault.Memory → IsKitFault tech bytes sp f → IsLow (refusal_of.Kit f)
kit_low tech bytes sp (kit_fault.Gds f) some is = in_gds_low f is.0
kit_low tech bytes sp (kit_fault.Spice f) some is = in_spice_low f is.0
kit_low tech bytes sp kit_fault.NoWire some is = lit< tt
kit_low tech bytes sp (kit_fault.Table f) some is = in_table_low f is.0
kit_low tech bytes sp (kit_fault.Flatten f) some is = in_flatten_low f is.is.is.some
kit_low tech bytes sp (kit_fault.Outline role) some is = lit< tt
kit_low tech bytes sp (kit_fault.UnknownSubckt name) some is = lit< tt
kit_low tech bytes sp (kit_fault.PortsDiffer role) some is = lit< tt
kit_low tech bytes sp (kit_fault.PinMissing role pin) some is = lit< tt
kit_low tech bytes sp (kit_fault.PinLayer role pin) some is = lit< tt
kit_low tech bytes sp (kit_fault.EdgePin role pin) some is = lit< tt
kit_low tech bytes sp (kit_fault.HeightDiffers role) some is = lit< tt
kit_low tech bytes sp (kit_fault.WidthDiffers role) some is = lit< tt
kit_low tech bytes sp kit_fault.Memory some is = absurd (some refl)

-- and of the leaf cells of a read-only memory
leaf_low : (source : LeafSource) (role : LeafRole) (f : KitFault) → f ≢ kit_fault.Memory → IsLeafFault source role f → IsLow (refusal_of.Kit f)
leaf_low source role (kit_fault.Gds f) some is = absurd is
leaf_low source role (kit_fault.Spice f) some is = absurd is
leaf_low source role kit_fault.NoWire some is = absurd is
leaf_low source role (kit_fault.Table f) some is = absurd is
leaf_low source role (kit_fault.Flatten f) some is = in_flatten_low f is.some
leaf_low source role (kit_fault.Outline name) some is = lit< tt
leaf_low source role (kit_fault.UnknownSubckt name) some is = lit< tt
leaf_low source role (kit_fault.PortsDiffer name) some is = lit< tt
leaf_low source role (kit_fault.PinMissing name pin) some is = lit< tt
leaf_low source role (kit_fault.PinLayer name pin) some is = lit< tt
leaf_low source role (kit_fault.EdgePin name pin) some is = lit< tt
leaf_low source role (kit_fault.HeightDiffers name) some is = absurd is
leaf_low source role (kit_fault.WidthDiffers name) some is = absurd is
leaf_low source role kit_fault.Memory some is = absurd (some refl)

table_low : (f : TableFault) → of_table f ≢ kit_fault.Memory → IsLow (refusal_of.Kit (of_table f))
table_low table.Memory some = absurd (some refl)
table_low (table.MissingRole role) some = lit< tt
table_low (table.BadRow role row) some = lit< tt
table_low (table.Differs role point) some = lit< tt

side_low : (bit : Bool) (side : SharedSide) → IsLow (refusal_of.Kit (fault_of_side bit side))
side_low bit Height = lit< tt
side_low bit Width = lit< tt
side_low bit LeftOfBl = lit< tt
side_low bit LeftOfBr = lit< tt
side_low bit LowOfWl = lit< tt

fixed_low : (source : LeafSource) (bit : Bool) (f : KitFault) → f ≢ kit_fault.Memory → IsFixedFault source bit f → IsLow (refusal_of.Kit f)
fixed_low source bit f some (inl lacks) =
    subst (λ (g : KitFault). IsLow (refusal_of.Kit g)) (sym lacks.told)
    (table_low lacks.table (subst (λ (g : KitFault). g ≢ kit_fault.Memory) lacks.told some))
fixed_low source bit f some (inr is) = leaf_low source (Fixed bit) f some is.1

pub rom_leaf_low : (kit : Kit) (f : KitFault) → f ≢ kit_fault.Memory → IsRomLeafFault kit f → IsLow (refusal_of.Kit f)
rom_leaf_low kit f some (inl lacks) = fixed_low (source_of kit lacks.wire) lacks.bit f some lacks.is
rom_leaf_low kit f some (inr lacks) = by_side lacks.is.pair lacks.is.is
  where
    by_side : (pair : Bool × SharedSide) → IsSideFault pair f → IsLow (refusal_of.Kit f)
    by_side pair (inl memory) = absurd (some memory)
    by_side pair (inr told) = subst (λ (g : KitFault). IsLow (refusal_of.Kit g)) (sym told) (side_low pair.0 pair.1)
