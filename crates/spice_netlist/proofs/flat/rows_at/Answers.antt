-- The order goes upward.
use Rattle.std.proofs.Common.{ℕ, List, sym, subst, ◌∙◌}
use Rattle.reference_graph.specs.Reaches.{AreWithin}
use Rattle.reference_graph.specs.BottomUp.{IsOrder}
use Rattle.spice_netlist.specs.Tables.{IsSubcktOrder}
use Rattle.spice_netlist.specs.Descent.{AreSubcktSizes}
use Rattle.spice_netlist.proofs.FlatLaws.{upward}
use Rattle.spice_netlist.proofs.flat.rows_at.Goals as goal

pub order_of-requires-clause-within : goal.order_of-requires-clause-within
order_of-requires-clause-within c = subst AreWithin (sym (c.deref.ensures.value ∙ c.in_ok-references.ensures)) c.requires.within

pub check_ports-requires-clause-upward : goal.check_ports-requires-clause-upward
check_ports-requires-clause-upward c =
    subst (IsSubcktOrder c.args.subckts.now) (sym c.deref-2.ensures.value)
    (upward c.args.subckts.now c.args.top c.in_ok-order.order.items c.requires.within
    (subst (λ (g : List (List ℕ)). IsOrder g c.args.top c.in_ok-order.order.items) (c.deref.ensures.value ∙ c.in_ok-references.ensures) c.in_ok-order.ensures.1) c.paths_are_short.ensures.ordered)

pub check_size-requires-clause-upward : goal.check_size-requires-clause-upward
check_size-requires-clause-upward c =
    subst (IsSubcktOrder c.args.subckts.now) (sym c.deref-3.ensures.value)
    (upward c.args.subckts.now c.args.top c.in_ok-order.order.items c.requires.within
    (subst (λ (g : List (List ℕ)). IsOrder g c.args.top c.in_ok-order.order.items) (c.deref.ensures.value ∙ c.in_ok-references.ensures) c.in_ok-order.ensures.1) c.paths_are_short.ensures.ordered)

pub rows_of-requires-clause-sizes : goal.rows_of-requires-clause-sizes
rows_of-requires-clause-sizes c = subst (AreSubcktSizes c.args.subckts.now c.args.top) (sym c.deref-4.ensures.value) c.in_ok-sizes.ensures.1
