use Rattle.std.proofs.Common.{◌∙◌, sym, refl}
use Rattle.std.specs.Str.{bytes_eq}
use Rattle.leaf_shapes.specs.declared.pins.LeafPin.{LeafPin}
use Rattle.or_geom.proofs.NameLaws.{other_name}
use Rattle.leaf_tables.proofs.FindLaws.{find_here, find_past, find_none, texts_same}
use Rattle.leaf_tables.proofs.lookup.first_pin.Goals as goal

pub returns-then-is : goal.returns-then-is
returns-then-is c =
    let item = c.pin-item.result in
    sym (find_here (λ (pin : LeafPin). bytes_eq pin.pin c.args.name.now) c.args.pins.now c.loop-pin.pin-index item c.loop-pin-test.true c.pin-item.is
    (texts_same item.pin c.args.name.now (c.if-is.ensures.0 refl ∙ c.as_bytes.ensures.value)) c.loop-pin.invariant)

pub loop-pin-preserved : goal.loop-pin-preserved
loop-pin-preserved c =
    let item = c.pin-item.result in
    find_past (λ (pin : LeafPin). bytes_eq pin.pin c.args.name.now) c.args.pins.now c.loop-pin.pin-index item c.loop-pin-test.true c.pin-item.is
    (other_name item.pin c.args.name.now (λ e. let yes = c.if-is.ensures.1 (e ∙ sym c.as_bytes.ensures.value) in absurd cc)) c.loop-pin.invariant

pub returns : goal.returns
returns c = sym (find_none (λ (pin : LeafPin). bytes_eq pin.pin c.args.name.now) c.args.pins.now c.loop-pin.pin-index c.loop-pin-test.false c.loop-pin.invariant)
