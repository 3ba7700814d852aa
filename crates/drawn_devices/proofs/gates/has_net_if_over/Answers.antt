use Rattle.std.proofs.Common.{get_or, refl, eq-eqb}
use Rattle.std.proofs.lemmas.Bool.{eqb-true}
use Rattle.drawn_devices.proofs.OverLaws.{near_within, read_at, apart_has, over_has}
use Rattle.drawn_devices.proofs.gates.has_net_if_over.Goals as goal

pub returns-then-not-overlap : goal.returns-then-not-overlap
returns-then-not-overlap c =
    let lt = near_within c.args.bins.now c.args._layer c.args.index c.args.area c.requires.near in
    let there = read_at c.shapes.result.now c.args.bins.now c.args.index c.index-shapes-index.result c.shapes.ensures lt in (
      λ yes. apart_has c.args.bins.now c.args.nets.now c.args._layer c.args.net c.args.index c.args.area (get_or c.shapes.result.now c.args.index c.index-shapes-index.result) there (λ o. let no = c.if-not-overlap.ensures.1 o in absurd cc),
      λ all. refl,
    )

pub returns : goal.returns
returns c =
    let lt = near_within c.args.bins.now c.args._layer c.args.index c.args.area c.requires.near in
    let there = read_at c.shapes.result.now c.args.bins.now c.args.index c.index-shapes-index.result c.shapes.ensures lt in
    let law = over_has c.args.bins.now c.args.nets.now c.args._layer c.args.net c.args.index c.net_at.result c.args.area (get_or c.shapes.result.now c.args.index c.index-shapes-index.result) there c.requires.near (c.if-not-overlap.ensures.0 refl)
    c.net_at.ensures in
    (λ yes. law.0 (eqb-true c.net_at.result c.args.net yes), λ all. eq-eqb c.net_at.result c.args.net (law.1 all))
