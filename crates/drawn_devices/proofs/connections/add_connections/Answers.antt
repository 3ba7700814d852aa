use Rattle.std.proofs.lemmas.List.{drop_all}
use Rattle.or_geom.proofs.GatheringLaws.{gather_goes_on, gather_ends}
use Rattle.or_geom.proofs.ListLaws.{rest_at}
use Rattle.drawn_devices.proofs.connections.add_connections.Goals as goal

pub loop-connect-preserved : goal.loop-connect-preserved
loop-connect-preserved c =
    gather_goes_on _ _ _ _ c.connect-item.result _ _ _ (rest_at c.args.connects.now c.loop-connect.connect-index c.connect-item.result c.loop-connect-test.true c.connect-item.is) c.loop-connect.invariant
    c.in_ok-add_connection.ensures

pub returns : goal.returns
returns c = gather_ends _ _ _ _ _ (drop_all c.loop-connect.connect-index c.args.connects.now c.loop-connect-test.false) c.loop-connect.invariant
