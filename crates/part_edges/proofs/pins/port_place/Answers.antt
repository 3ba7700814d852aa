use Rattle.std.proofs.Common.{◌∙◌, map, refl, sym, arith}
use Rattle.std.proofs.lemmas.List.{length-map}
use Rattle.part_edges.proofs.PlaceLaws.{first_there, none_there}
use Rattle.part_edges.proofs.pins.port_place.Goals as goal

pub returns-then-is_port_at : goal.returns-then-is_port_at
returns-then-is_port_at c = sym (first_there (map (λ t. t.now) c.args.ports.now) c.args.pin.now c.loop-place.place c.loop-place.invariant (c.if-is_port_at.ensures.0 refl))

pub returns : goal.returns
returns c =
    let ports = c.args.ports.now in
    let same = length-map ports (λ t. t.now) in
    let done = c.loop-place-test.false in
    sym (none_there (map (λ t. t.now) ports) c.args.pin.now (λ k lt. c.loop-place.invariant k (omega (arith, lt, same, done))) ∙ same)
