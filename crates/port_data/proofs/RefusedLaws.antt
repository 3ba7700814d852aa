-- What is built is refused for want of memory alone.
use Rattle.std.proofs.Common.{◌≡◌, ℕ, ℤ, refl, inl, inr, arith}
use Rattle.tech_rules.specs.declared.tech.Wire.{Wire}
use Rattle.channel_router.specs.declared.channel.Channel.{Channel}
use Rattle.channel_router.specs.Routed.{HasClosePins, AreFirstClosePins}
use Rattle.sram_netlist.specs.Organization.{Organization}
use Rattle.leaf_tables.specs.declared.part.PartFault.{PartFault}
use Rattle.leaf_tables.specs.declared.part.PartFault.TheVariants as part_fault
use Rattle.macro_layout.specs.LayoutKit.{LayoutKit}
use Rattle.floorplan.specs.LayoutOfKit.{layout_kit}
use Rattle.port_data.specs.Pins.{column_channel}
use Rattle.port_data.specs.Column.{AreWideSlices, IsNarrowFault, AreColumnPinsApart, IsColumnFault}
use Rattle.port_data.specs.DataPart.{BuiltExcludesRefused}

-- the first two pins that are close are close
pub first_are_close : (ch : Channel) (wire : Wire) (side : ℕ) (first second : ℤ) → AreFirstClosePins ch wire side first second → HasClosePins ch wire
first_are_close ch wire side first second (inl (top, is)) = inl (first, second, is.close)
first_are_close ch wire side first second (inr (bottom, none, is)) = inr (first, second, is.close)

wide_is_not_narrow : (plan : Organization) (kit : LayoutKit) (fault : PartFault) → AreWideSlices plan kit → IsNarrowFault plan kit fault → fault ≡ part_fault.Memory
wide_is_not_narrow plan kit (part_fault.SliceTooNarrow role) wide (inl (named, narrow)) = let fits = wide.sense in absurd (omega (arith, fits, narrow))
wide_is_not_narrow plan kit (part_fault.SliceTooNarrow role) wide (inr (named, written, sense, narrow)) = let fits = wide.write written in absurd (omega (arith, fits, narrow))
wide_is_not_narrow plan kit part_fault.Memory wide narrow = refl
wide_is_not_narrow plan kit (part_fault.Close side first second) wide narrow = absurd narrow
wide_is_not_narrow plan kit (part_fault.TapsClose first second) wide narrow = absurd narrow
wide_is_not_narrow plan kit (part_fault.NameTaken name) wide narrow = absurd narrow

apart_is_not_close : (plan : Organization) (kit : LayoutKit) (wire : Wire) (fault : PartFault) → AreColumnPinsApart plan kit wire → IsColumnFault plan kit wire fault → fault ≡ part_fault.Memory
apart_is_not_close plan kit wire (part_fault.Close side first second) apart close = absurd (apart (first_are_close (column_channel plan kit wire) wire side first second close.1))
apart_is_not_close plan kit wire part_fault.Memory apart close = refl
apart_is_not_close plan kit wire (part_fault.SliceTooNarrow role) apart close = absurd close
apart_is_not_close plan kit wire (part_fault.TapsClose first second) apart close = absurd close
apart_is_not_close plan kit wire (part_fault.NameTaken name) apart close = absurd close

pub built_excludes_refused : BuiltExcludesRefused
built_excludes_refused kit plan n old new edges fault built (inl narrow) = wide_is_not_narrow plan (layout_kit kit) fault built.wide narrow
built_excludes_refused kit plan n old new edges fault built (inr (wide, close)) = apart_is_not_close plan (layout_kit kit) built.wire fault (built.column.apart built.wire built.wired) (close built.wire built.wired)
