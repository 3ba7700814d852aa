-- The rows are those of the ports, and then those of the walk.
use Rattle.std.proofs.Common.{[], ◌++◌, ◌≡◌, ℕ, List, length, map, sym, ap, subst, arith}
use Rattle.std.proofs.lemmas.List.{length-map}
use Rattle.spice_netlist.specs.Walk.{walk_at}
use Rattle.spice_netlist.specs.Pins.{NamedPin, pins_of, port_row, pin_row, named_rows}
use Rattle.spice_netlist.specs.Rows.{AreRowsOf}
use Rattle.spice_netlist.specs.Numbers.{AreNumberedRows}
use Rattle.spice_netlist.proofs.FlatLaws.{rows_long}
use Rattle.spice_netlist.proofs.RowLaws.{rows_all, count_at_most}
use Rattle.spice_netlist.proofs.LowLaws.{keys_tell}
use Rattle.spice_netlist.proofs.WholeLaws.{walkable}
use Rattle.spice_netlist.proofs.flat.rows_of.Goals as goal

pub add_port_rows-requires : goal.add_port_rows-requires
add_port_rows-requires c =
    let long = rows_long c.args.subckts.now c.args.top in
    let ports = ap length c.ports_of-ports.ensures in
    let most = count_at_most [] c.new-rows.result c.new-rows.ensures in
    omega (arith, long, ports, most, c.requires.small)

pub add_rows_below-requires-clause-walkable : goal.add_rows_below-requires-clause-walkable
add_rows_below-requires-clause-walkable c =
    walkable c.paths_are_short.ensures.acyclic c.args.subckts.now c.args.top c.requires.within c.requires.inside c.requires.hierarchy.acyclic c.requires.good

pub add_rows_below-requires-clause-few : goal.add_rows_below-requires-clause-few
add_rows_below-requires-clause-few c =
    let long = rows_long c.args.subckts.now c.args.top in
    let ports = ap length c.ports_of-ports.ensures in
    let mapped = length-map c.ports_of-ports.result.now port_row in
    let most = count_at_most [] c.new-rows.result c.new-rows.ensures in
    omega (arith, long, ports, mapped, most, c.in_ok-add_port_rows.ensures.few, c.requires.small)

pub returns : goal.returns
returns c =
    let ports = map port_row c.ports_of-ports.result.now in
    let below = map (pin_row c.args.subckts.now) (pins_of c.args.subckts.now (walk_at c.args.subckts.now c.args.top)) in
    let first : AreRowsOf ports c.add_port_rows.new.rows = c.in_ok-add_port_rows.ensures.rows [] c.new-rows.ensures in
    let all : AreRowsOf (ports ++ below) c.add_rows_below.new.rows = c.in_ok-add_rows_below.ensures.rows ports first in
    let named : ports ++ below ≡ named_rows c.args.subckts.now c.args.top = ap (λ (names : List (List ℕ)). map port_row names ++ below) c.ports_of-ports.ensures in
    subst (AreNumberedRows (named_rows c.args.subckts.now c.args.top)) (sym (ap (λ v. v.items) c.into_rows.ensures))
    (rows_all (named_rows c.args.subckts.now c.args.top) c.add_rows_below.new.rows (λ j k e. keys_tell c.args.subckts.now c.args.top j k c.requires.low e)
    (subst (λ (ns : List NamedPin). AreRowsOf ns c.add_rows_below.new.rows) named all))
