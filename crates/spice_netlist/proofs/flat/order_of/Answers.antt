-- Where there is no order, there is a cycle, and so a name of one.
use Rattle.std.proofs.Common.{ℕ, List, subst}
use Rattle.reference_graph.specs.Reaches.{IsAcyclic, HasCycle}
use Rattle.spice_netlist.proofs.FlatLaws.{cycle_named}
use Rattle.spice_netlist.proofs.flat.order_of.Goals as goal

pub returns-in-Some : goal.returns-in-Some
returns-in-Some c =
    let ordered = rw c.in-Some.is at c.in_ok-order.ensures.order in
    let acyclic = rw c.in-Some.is at c.in_ok-order.ensures.acyclic in
    (record { there = c.in_ok-check_names.ensures; acyclic = subst (λ (g : List (List ℕ)). IsAcyclic g c.args.top) c.requires.graph acyclic }, ordered)

pub unreachable-requires : goal.unreachable-requires
unreachable-requires c =
    let cyclic = rw c.in_default.is at c.in_ok-order.ensures.cyclic in
    let none = rw c.in-None.is at c.in_ok-name.ensures in
    cycle_named c.args.subckts.now c.args.top (subst (λ (g : List (List ℕ)). HasCycle g c.args.top) c.requires.graph cyclic) none
