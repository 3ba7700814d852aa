use Rattle.std.proofs.Common.{◌∙◌, List, ◌++◌, ◌∷◌, [], get_or, sym, ap, subst}
use Rattle.net_extractor.specs.declared.run.NearRun.{NearRun}
use Rattle.net_extractor.specs.declared.run.RunShape.{RunShape}
use Rattle.net_extractor.specs.Runs.{IsNearRun}
use Rattle.net_extractor.proofs.RunLaws.{run_begins, run_goes_on}
use Rattle.net_extractor.proofs.run.take_run.Goals as goal

pub loop-run-init : goal.loop-run-init
loop-run-init c =
    let first : RunShape = record { place = get_or c.args.order.now c.args.begin 0; rect = c.shape_at-first.result.rect } in
    subst (λ (r : NearRun). IsNearRun c.args.shapes.now c.args.order.now c.args.begin r c.add_shape.new.own.items) (sym c.run_of-run.ensures)
    (run_begins c.args.shapes.now c.args.order.now c.args.begin c.shape_at-first.result _ c.requires.begins c.shape_at-first.ensures
    (c.in_ok-add_shape.ensures ∙ ap (λ (l : List RunShape). l ++ first ∷ []) c.clear.ensures.items))

pub loop-run-preserved : goal.loop-run-preserved
loop-run-preserved c =
    run_goes_on c.args.shapes.now c.args.order.now c.args.begin c.loop-run.run c.shape_at-shape.result c.in-Some.hull c.loop-run.own.items _ c.loop-run-test.true c.shape_at-shape.ensures c.in-Some.ensures
    c.in_ok-add_shape-2.ensures c.loop-run.invariant
