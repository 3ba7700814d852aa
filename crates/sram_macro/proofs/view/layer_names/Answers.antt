-- A name more.
use Rattle.std.proofs.Common.{◌<◌, ℕ, [], map, length, subst}
use Rattle.std.specs.Prelude.{slice_index_or}
use Rattle.std.specs.List.{AllByRecursion}
use Rattle.tech_rules.specs.declared.tech.Layer.{Layer}
use Rattle.sram_macro.proofs.SignalLaws.{more_mapped}
use Rattle.sram_macro.proofs.view.layer_names.Goals as goal

pub loop-index-preserved : goal.loop-index-preserved
loop-index-preserved c =
    let there = subst (AllByRecursion (λ (index : ℕ). index < length c.args.layers.now)) c.in-Some.ensures.cases.0 c.loop-index.invariant.1 in
    (more_mapped (λ (index : ℕ). slice_index_or (map (λ (l : Layer). l.name) c.args.layers.now) index []) _ _ _ _ _ _ _ c.loop-index.invariant.0 c.in-Some.ensures.cases.0 c.in_ok-push.ensures.ok c.in_ok-layer_name.ensures, there.1)
