use Rattle.std.proofs.Common.{◌≡◌, List, refl, sym, subst}
use Rattle.or_geom.proofs.GatheringLaws.{some_has}
use Rattle.tech_rules.specs.declared.tech.Device.{Device}
use Rattle.drawn_devices.specs.Diffusion.{IsActive}
use Rattle.drawn_devices.proofs.TerminalLaws.{no_box, sound_at, torn_gates, ends_are, box_is, area_near}
use Rattle.drawn_devices.proofs.terminals.terminals_of.Goals as goal

pub returns-then-is_active : goal.returns-then-is_active
returns-then-is_active c number are box flow sound = sound.drawn (rw c.as_slice.ensures at (c.if-is_active.ensures.0 refl))

pub returns-in_default : goal.returns-in_default
returns-in_default c number are = no_box c.args.cell.now.tech.now c.args.cell.now.shapes.now c.args.device.now c.args._least c.args.boxes.now c.requires.boxes (rw c.in_default.is at c.in_ok-area.ensures)

pub flow_of-requires-clause-near : goal.flow_of-requires-clause-near
flow_of-requires-clause-near c =
    area_near c.args.cell.now.shapes.now c.args.device.now c.args._least c.in-Some.area c.requires.near c.requires.least
    (box_is c.args.cell.now.shapes.now c.args.device.now c.args._least c.args.boxes.now c.in-Some.area c.requires.boxes (rw c.in-Some.is at c.in_ok-area.ensures))

pub flow_of-requires-clause-active : goal.flow_of-requires-clause-active
flow_of-requires-clause-active c = some_has (λ (d : Device). d.active ≡ c.args.device.now.active) c.args.cell.now.tech.now.devices c.args.device.now c.requires.device refl

pub with_ends-requires-clause-active : goal.with_ends-requires-clause-active
with_ends-requires-clause-active c = some_has (λ (d : Device). d.active ≡ c.args.device.now.active) c.args.cell.now.tech.now.devices c.args.device.now c.requires.device refl

pub with_ends-requires-clause-near : goal.with_ends-requires-clause-near
with_ends-requires-clause-near c =
    area_near c.args.cell.now.shapes.now c.args.device.now c.args._least c.in-Some.area c.requires.near c.requires.least
    (box_is c.args.cell.now.shapes.now c.args.device.now c.args._least c.args.boxes.now c.in-Some.area c.requires.boxes (rw c.in-Some.is at c.in_ok-area.ensures))

pub returns-in_default-2 : goal.returns-in_default-2
returns-in_default-2 c number are =
    let off : IsActive c.args.cell.now.tech.now.devices c.args.device.now.gate → ⊥ = λ active.
    let yes = c.if-is_active.ensures.1 (subst (λ (ds : List Device). IsActive ds c.args.device.now.gate) (sym c.as_slice.ensures) active) in
    absurd cc in
    let is = box_is c.args.cell.now.shapes.now c.args.device.now c.args._least c.args.boxes.now c.in-Some.area c.requires.boxes (rw c.in-Some.is at c.in_ok-area.ensures) in
    let torn = rw (c.in_default-2.is, c.as_slice-nets.ensures) at c.in_ok-gate.ensures in
    sound_at c.args.cell.now.tech.now c.args.cell.now.shapes.now c.args.device.now c.args._least c.in-Some.area is
    (λ flow sound. torn_gates c.args.cell.now c.requires.cut c.args.device.now c.args._least c.in-Some.area off c.requires.least is sound.one torn)

pub returns-in_default-flow_of : goal.returns-in_default-flow_of
returns-in_default-flow_of c number are =
    sound_at c.args.cell.now.tech.now c.args.cell.now.shapes.now c.args.device.now c.args._least c.in-Some.area
    (box_is c.args.cell.now.shapes.now c.args.device.now c.args._least c.args.boxes.now c.in-Some.area c.requires.boxes (rw c.in-Some.is at c.in_ok-area.ensures))
    (λ flow sound. c.in_default-flow_of.ensures flow sound.passed)

pub returns : goal.returns
returns c number are =
    let off : IsActive c.args.cell.now.tech.now.devices c.args.device.now.gate → ⊥ = λ active.
    let yes = c.if-is_active.ensures.1 (subst (λ (ds : List Device). IsActive ds c.args.device.now.gate) (sym c.as_slice.ensures) active) in
    absurd cc in
    let is = box_is c.args.cell.now.shapes.now c.args.device.now c.args._least c.args.boxes.now c.in-Some.area c.requires.boxes (rw c.in-Some.is at c.in_ok-area.ensures) in
    let gates = rw (c.in-Some-2.is, c.as_slice-nets.ensures) at c.in_ok-gate.ensures in
    ends_are c.args.cell.now c.requires.cut number are c.args.device.now c.args._least c.in-Some.area c.in-Some-flow_of.flow c.in-Some-2.gate c.with_ends.result off is c.in-Some-flow_of.ensures gates.1 c.with_ends.ensures
