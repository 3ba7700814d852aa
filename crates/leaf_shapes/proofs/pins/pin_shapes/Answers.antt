use Rattle.std.proofs.Common.{map, List, refl, subst, arith}
use Rattle.std.proofs.lemmas.List.{length-map}
use Rattle.leaf_shapes.specs.Demands.{PinDemand, plain_demand}
use Rattle.leaf_shapes.specs.Pins.{AreLeafPins, IsPinFault, drawing_of}
use Rattle.leaf_shapes.proofs.PinLaws.{plain_at, pins_all, pins_lack, pins_more, pin_for}
use Rattle.leaf_shapes.proofs.pins.pin_shapes.Goals as goal

pub returns-in_default-clause-fault : goal.returns-in_default-clause-fault
returns-in_default-clause-fault c =
    let cell = drawing_of c.args.wire.now c.args.size c.args.bins.now c.args.labels.now in
    let all = c.demands-all.result.now in
    let d = c.demand_at-demand.result in
    let unmet = pins_lack cell (map plain_demand all) c.loop-index.pins c.loop-index.index (plain_demand d) (plain_at all c.loop-index.index d c.demand_at-demand.ensures) c.in_default.ensures c.loop-index.invariant in
    subst (λ (ds : List PinDemand). IsPinFault cell ds c.pin_fault.result) c.demands-all.ensures (c.pin_fault.ensures c.args.size (record { demand = plain_demand d; unmet = unmet; of = refl }))

pub loop-index-preserved : goal.loop-index-preserved
loop-index-preserved c =
    let cell = drawing_of c.args.wire.now c.args.size c.args.bins.now c.args.labels.now in
    let all = c.demands-all.result.now in
    let d = c.demand_at-demand.result in
    let pin = c.in_ok-pin.pin in
    let e = c.in_ok-pin.ensures in
    pins_more cell (map plain_demand all) c.loop-index.pins c.push.new.self c.loop-index.index (plain_demand d) pin (plain_at all c.loop-index.index d c.demand_at-demand.ensures)
    (pin_for cell (plain_demand d) pin c.in-Some.shape e.0 e.1 e.2 c.in-Some.ensures) c.in_ok-push.ensures.ok c.loop-index.invariant

pub returns-clause-pins : goal.returns-clause-pins
returns-clause-pins c =
    let cell = drawing_of c.args.wire.now c.args.size c.args.bins.now c.args.labels.now in
    let all = c.demands-all.result.now in
    let same = length-map all plain_demand in
    let done = c.loop-index-test.false in
    let most = c.loop-index.auto.index-end in
    subst (λ (ds : List PinDemand). AreLeafPins cell ds c.loop-index.pins) c.demands-all.ensures
    (pins_all cell (map plain_demand all) c.loop-index.pins c.loop-index.index (omega (arith, same, done, most)) c.loop-index.invariant)
