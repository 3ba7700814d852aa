-- Why nothing is built, where a part can't be built or a macro has no flat layout. Want of memory stays what it is.
use Rattle.leaf_tables.specs.declared.part.PartFault.{PartFault}
use Rattle.leaf_tables.specs.declared.part.PartFault.TheVariants as part_fault
use Rattle.cell_hierarchy.specs.declared.fault.FlattenFault.{FlattenFault}
use Rattle.cell_hierarchy.specs.declared.fault.FlattenFault.TheVariants as flatten_fault
use Rattle.macro_build.specs.declared.built.BuildFault.{BuildFault}
use Rattle.macro_build.specs.declared.built.BuildFault.TheVariants as build_fault

abbrev pub of_part : PartFault → BuildFault
of_part part_fault.Memory = build_fault.Memory
of_part fault = build_fault.Part fault

abbrev pub of_flatten : FlattenFault → BuildFault
of_flatten flatten_fault.Memory = build_fault.Memory
of_flatten fault = build_fault.Flatten fault
