-- A subcircuit without a mark is passed over.
use Rattle.std.proofs.Common.{◌≡◌, ℕ, ◌+◌, ◌<◌, List, length, sym, ap, subst, ◌∙◌, arith, true, false}
use Rattle.std.proofs.lemmas.List.{length-map, get_or_default}
use Rattle.reference_graph.specs.Reaches.{CyclesMarked}
use Rattle.spice_netlist.specs.declared.resolved.ResolvedSubckt.{ResolvedSubckt}
use Rattle.spice_netlist.specs.Least.{IsLeastOf}
use Rattle.spice_netlist.specs.Resolved.{subckt_references}
use Rattle.spice_netlist.proofs.LeastLaws.{IsBelow, below_none, below_skip, below_least}
use Rattle.spice_netlist.proofs.MissingLaws.{IsMarkedAt, marked_at_least, cyclic_all, marked_inside}
use Rattle.spice_netlist.proofs.cycle.least_cyclic.Goals as goal

pub loop-index-init : goal.loop-index-init
loop-index-init c = below_none (IsMarkedAt c.args.subckts.now c.in_ok-marks.marks.items)

pub loop-index-preserved-then-not-index : goal.loop-index-preserved-then-not-index
loop-index-preserved-then-not-index c =
    below_skip (IsMarkedAt c.args.subckts.now c.in_ok-marks.marks.items) c.loop-index.index c.loop-index.found
    (λ name m.
    let lt = marked_inside c.in_ok-marks.marks.items c.loop-index.index m.marked in
    let read = c.index.ensures ∙ get_or_default c.in_ok-marks.marks.items c.loop-index.index c.index.result.now false lt in
    let no_way : false ≡ true = sym c.if-not-index.true ∙ read ∙ m.marked in
    absurd cc)
    c.loop-index.invariant

pub loop-index-preserved : goal.loop-index-preserved
loop-index-preserved c =
    let sized = length-map c.args.subckts.now (λ (b : ResolvedSubckt). subckt_references b.instances) in
    let lt : c.loop-index.index < length c.in_ok-marks.marks.items = omega (arith, ap length c.requires.graph, sized, c.in_ok-marks.ensures.sized) in
    let marked = sym (get_or_default c.in_ok-marks.marks.items c.loop-index.index c.index.result.now false lt) ∙ sym c.index.ensures ∙ c.if-not-index.false in
    subst (IsLeastOf (IsBelow (IsMarkedAt c.args.subckts.now c.in_ok-marks.marks.items) (c.loop-index.index + 1))) (sym c.in_ok-found.ensures)
    (below_least (IsMarkedAt c.args.subckts.now c.in_ok-marks.marks.items) c.loop-index.index c.loop-index.found c.subckt_at.result.now.name
    (marked_at_least c.args.subckts.now c.in_ok-marks.marks.items c.loop-index.index c.subckt_at.result.now.name c.subckt_at.ensures.name marked)
    c.loop-index.invariant)

pub returns : goal.returns
returns c =
    let end : c.loop-index.index ≡ length c.args.subckts.now = omega arith in
    cyclic_all c.args.subckts.now c.args.top c.in_ok-marks.marks.items c.loop-index.found
    (subst (λ (g : List (List ℕ)). CyclesMarked g c.args.top c.in_ok-marks.marks.items) c.requires.graph c.in_ok-marks.ensures) (length-map c.args.subckts.now (λ (b : ResolvedSubckt). subckt_references b.instances)) (marked_inside c.in_ok-marks.marks.items)
    (subst (λ (n : ℕ). IsLeastOf (IsBelow (IsMarkedAt c.args.subckts.now c.in_ok-marks.marks.items) n) c.loop-index.found) end c.loop-index.invariant)
