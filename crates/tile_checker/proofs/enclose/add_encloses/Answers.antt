use Rattle.std.proofs.Common.{ℕ, List, refl, sym, subst}
use Rattle.or_geom.proofs.ListLaws.{contained_at}
use Rattle.or_geom.specs.Gathering.{SomeHas}
use Rattle.shape_bins.specs.Layers.{IsCoveredBy}
use Rattle.tile_checker.proofs.PlaceLaws.{reachable_in}
use Rattle.tile_checker.proofs.FirstLaws.{none_alone, one_alone, bare, not_bare}
use Rattle.tile_checker.proofs.enclose.add_encloses.Goals as goal

pub returns-then-first-rule : goal.returns-then-first-rule
returns-then-first-rule c = none_alone _ _ _ c.args.first _ (λ a b none. none) (λ b. c.if-first-rule.true b.on)

pub grown-requires : goal.grown-requires
grown-requires c = reachable_in c.args.bins.now c.args.first.shape c.requires.reach (contained_at c.args.bins.now c.args.first.place c.args.first.shape c.requires.at)

pub returns-then-is_enclosed : goal.returns-then-is_enclosed
returns-then-is_enclosed c =
    let some = subst (λ (by : List ℕ). SomeHas (λ (layer : ℕ). IsCoveredBy layer c.args.bins.now c.grown.result) by) c.as_slice.ensures (c.if-is_enclosed.ensures.0 refl) in
    none_alone _ _ _ c.args.first _ (λ a b none. none) (λ b. not_bare c.args.rule.now.layer c.args.rule.now.by.now c.args.rule.now.min.value c.args.bins.now c.args.first.shape c.grown.result c.grown.ensures some b)

pub returns : goal.returns
returns c =
    one_alone _ _ _ c.args.first _ _ (λ a b none. none) c.requires.at
    (bare c.args.rule.now.layer c.args.rule.now.by.now c.args.rule.now.min.value c.args.bins.now c.args.first.shape c.grown.result c.grown.ensures c.if-first-rule.false
    (λ h. let yes = c.if-is_enclosed.ensures.1 (subst (λ (by : List ℕ). SomeHas (λ (layer : ℕ). IsCoveredBy layer c.args.bins.now c.grown.result) by) (sym c.as_slice.ensures) h) in absurd cc))
    c.in_ok-push.ensures.items
