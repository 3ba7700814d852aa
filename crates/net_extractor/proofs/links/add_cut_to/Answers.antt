use Rattle.std.proofs.Common.{ℕ}
use Rattle.std.proofs.lemmas.List.{drop_all}
use Rattle.or_geom.specs.Gathering.{SomeGives}
use Rattle.or_geom.proofs.AddsLaws.{adds_as}
use Rattle.or_geom.proofs.ListLaws.{rest_at}
use Rattle.or_geom.proofs.GatheringLaws.{gather_goes_on, gather_ends, giver, gives_some, some_has, who_has}
use Rattle.tech_rules.specs.declared.tech.Connect.{Connect}
use Rattle.tech_rules.specs.Touch.{Joins, IsCutTo}
use Rattle.net_extractor.proofs.links.add_cut_to.Goals as goal

pub loop-connect-preserved : goal.loop-connect-preserved
loop-connect-preserved c =
    gather_goes_on _ _ _ _ c.connect-item.result _ _ _ (rest_at c.args.connections.now c.loop-connect.connect-index c.connect-item.result c.loop-connect-test.true c.connect-item.is) c.loop-connect.invariant
    c.in_ok-add_connected.ensures

pub returns : goal.returns
returns c =
    let connections = c.args.connections.now in
    let layer = c.args.layer in
    let joins : Connect → ℕ → Type 0 = λ connect other. Joins layer other connect in
    adds_as _ _ (SomeGives joins connections) (IsCutTo connections layer)
    (λ other g. let by = giver joins connections other g in some_has (Joins layer other) connections by.0 by.1 by.2)
    (λ other h. let by = who_has (Joins layer other) connections h in gives_some joins connections other by.0 by.1 by.2)
    (gather_ends _ _ _ _ _ (drop_all c.loop-connect.connect-index connections c.loop-connect-test.false) c.loop-connect.invariant)
