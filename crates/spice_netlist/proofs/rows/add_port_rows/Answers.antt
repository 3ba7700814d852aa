-- The row of the next port goes behind the others.
use Rattle.std.proofs.Common.{◌≡◌, ◌++◌, ◌∷◌, [], List, ℕ, map, take, ap, sym, subst, ◌∙◌, refl, arith}
use Rattle.std.proofs.lemmas.List.{take_all, map_push, length-map, length-take-le}
use Rattle.spice_netlist.specs.Walk.{local}
use Rattle.spice_netlist.specs.Pins.{NamedPin, port_row}
use Rattle.spice_netlist.specs.Rows.{AddsRows}
use Rattle.spice_netlist.proofs.ListLaws.{front_at}
use Rattle.spice_netlist.proofs.RowLaws.{adds_none, adds_then, same_pin}
use Rattle.spice_netlist.proofs.rows.add_port_rows.Goals as goal

pub loop-port-init : goal.loop-port-init
loop-port-init c = adds_none c.args.rows.now

pub add-requires : goal.add-requires
add-requires c =
    let front = take c.loop-port.port-index c.args.ports.now in
    let mapped = length-map front port_row in
    let short = length-take-le c.loop-port.port-index c.args.ports.now c.loop-port.auto.port-index-end in
    omega (arith, c.loop-port.invariant.few, mapped, short, c.requires, c.loop-port-test.true)

pub loop-port-preserved : goal.loop-port-preserved
loop-port-preserved c =
    let front = take c.loop-port.port-index c.args.ports.now in
    let pin : NamedPin = record { path = []; leaf = []; pin = c.as_bytes.result.now; net = local c.as_bytes-in-loop-port.result.now } in
    let pin_is : pin ≡ port_row c.port-item.result = same_pin _ _ refl refl c.as_bytes.ensures (ap local c.as_bytes-in-loop-port.ensures) in
    subst (AddsRows c.args.rows.now c.add.new.self)
    (ap (λ (p : NamedPin). map port_row front ++ p ∷ []) pin_is
    ∙ sym (map_push port_row front c.port-item.result)
    ∙ ap (map port_row) (sym (front_at c.args.ports.now c.loop-port.port-index c.port-item.result c.loop-port-test.true c.port-item.is)))
    (adds_then c.args.rows.now c.loop-port.rows c.add.new.self (map port_row front) (pin ∷ []) c.loop-port.invariant c.in_ok-add.ensures)

pub returns : goal.returns
returns c = subst (λ (ports : List (List ℕ)). AddsRows c.args.rows.now c.loop-port.rows (map port_row ports)) (take_all c.loop-port.port-index c.args.ports.now c.loop-port-test.false) c.loop-port.invariant
