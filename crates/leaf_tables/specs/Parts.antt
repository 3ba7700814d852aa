-- Why a part can't be built, where its wires can't be drawn.
use Rattle.wire_drawing.specs.declared.route.RouteFault.{RouteFault}
use Rattle.wire_drawing.specs.declared.route.RouteFault.TheVariants as route_fault
use Rattle.leaf_tables.specs.declared.part.PartFault.{PartFault}
use Rattle.leaf_tables.specs.declared.part.PartFault.TheVariants as part_fault

abbrev pub of_route : RouteFault → PartFault
of_route (route_fault.Close side first second) = part_fault.Close side first second
of_route (route_fault.TapsClose first second) = part_fault.TapsClose first second
of_route route_fault.Memory = part_fault.Memory
