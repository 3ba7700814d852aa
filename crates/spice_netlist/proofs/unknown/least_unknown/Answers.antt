-- A subcircuit without a mark is passed over, and so is one that refers only to what is there.
use Rattle.std.proofs.Common.{◌≡◌, ℕ, ◌+◌, length, sym, subst, ◌∙◌, arith, true, false}
use Rattle.std.proofs.lemmas.List.{length-map}
use Rattle.spice_netlist.specs.declared.resolved.ResolvedSubckt.{ResolvedSubckt}
use Rattle.spice_netlist.specs.Least.{IsLeastOf}
use Rattle.spice_netlist.specs.Resolved.{subckt_references}
use Rattle.spice_netlist.proofs.LeastLaws.{IsBelow, below_none, below_skip, below_least}
use Rattle.spice_netlist.proofs.MissingLaws.{IsMissingAt, missing_at_none, missing_at_least, unknown_all, marked_inside}
use Rattle.spice_netlist.proofs.unknown.least_unknown.Goals as goal

pub loop-index-init : goal.loop-index-init
loop-index-init c = below_none (IsMissingAt c.args.subckts.now c.args.marks.now)

pub loop-index-preserved-then-not-marks-index : goal.loop-index-preserved-then-not-marks-index
loop-index-preserved-then-not-marks-index c =
    below_skip (IsMissingAt c.args.subckts.now c.args.marks.now) c.loop-index.index c.loop-index.found (λ name m. let no_way : false ≡ true = sym c.if-not-marks-index.true ∙ m.marked in absurd cc) c.loop-index.invariant

pub loop-index-preserved-in_default : goal.loop-index-preserved-in_default
loop-index-preserved-in_default c =
    below_skip (IsMissingAt c.args.subckts.now c.args.marks.now) c.loop-index.index c.loop-index.found
    (missing_at_none c.args.subckts.now c.args.marks.now c.loop-index.index c.as_slice.result.now c.in_ok-name.field-0 (c.as_slice.ensures ∙ c.subckt_at.ensures.instances) c.in_ok-name.ensures c.in_default.is) c.loop-index.invariant

pub loop-index-preserved : goal.loop-index-preserved
loop-index-preserved c =
    subst (IsLeastOf (IsBelow (IsMissingAt c.args.subckts.now c.args.marks.now) (c.loop-index.index + 1))) (sym c.in_ok-found.ensures)
    (below_least (IsMissingAt c.args.subckts.now c.args.marks.now) c.loop-index.index c.loop-index.found c.in-Some.name
    (missing_at_least c.args.subckts.now c.args.marks.now c.loop-index.index c.as_slice.result.now c.in_ok-name.field-0 c.in-Some.name (c.as_slice.ensures ∙ c.subckt_at.ensures.instances) c.in_ok-name.ensures c.in-Some.is c.if-not-marks-index.false)
    c.loop-index.invariant)

pub returns : goal.returns
returns c =
    let end : c.loop-index.index ≡ length c.args.subckts.now = omega arith in
    unknown_all c.args.subckts.now c.args.top c.args.marks.now c.loop-index.found c.requires (length-map c.args.subckts.now (λ (b : ResolvedSubckt). subckt_references b.instances)) (marked_inside c.args.marks.now)
    (subst (λ (n : ℕ). IsLeastOf (IsBelow (IsMissingAt c.args.subckts.now c.args.marks.now) n) c.loop-index.found) end c.loop-index.invariant)
