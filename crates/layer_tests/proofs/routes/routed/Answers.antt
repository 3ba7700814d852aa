-- The channel meets what the router asks, by the places of its pins.
use Rattle.layer_tests.proofs.RouteFacts.{seven_layers, two_nets}
use Rattle.layer_tests.proofs.routes.routed.Goals as goal

pub route-requires-clause-layers : goal.route-requires-clause-layers
route-requires-clause-layers c = seven_layers

pub route-requires-clause-channel : goal.route-requires-clause-channel
route-requires-clause-channel c = two_nets c.args.top.0 c.args.top.1 c.args.bottom.0 c.args.bottom.1 c.in_ok-pins.field-0 c.in_ok-pins-2.field-0 c.new.result c.in_ok-pins.ensures c.in_ok-pins-2.ensures c.new.ensures c.requires.top_first c.requires.top_second c.requires.bottom_first c.requires.bottom_second
