use Rattle.std.proofs.Common.{Bool, map, sym, subst}
use Rattle.std.specs.Prelude.{MatchBool}
use Rattle.cell_hierarchy.specs.Plain.{lists_of}
use Rattle.net_extractor.specs.PlainNets.{plain_net}
use Rattle.kit_check.specs.Judged.{DifferIn, MatchIn}
use Rattle.kit_check.proofs.JudgeLaws.{differ_or_match}
use Rattle.kit_check.proofs.judge.differs.Goals as goal

pub returns : goal.returns
returns g c =
    let kit = c.args.kit.now in
    let name = c.args.name.now in
    let made = c.args.made.now in
    let lists = lists_of c.args.flat.now in
    subst (λ (b : Bool). MatchBool b (DifferIn kit name made lists) (MatchIn kit name made lists)) (sym c.is_some.ensures)
    (differ_or_match kit name made lists (map plain_net c.in_ok-nets.nets.labels) c.in_ok-rows.rows.pins c.in_ok-compare_by.field-0 (record { nets = c.in_ok-nets.ensures; netlist = c.in_ok-rows.ensures }) c.in_ok-compare_by.ensures.none)
