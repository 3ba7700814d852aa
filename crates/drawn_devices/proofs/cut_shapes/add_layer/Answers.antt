use Rattle.std.proofs.Common.{◌≡◌, take, refl, sym, subst}
use Rattle.or_geom.specs.declared.shape.Shape.{Shape}
use Rattle.or_geom.specs.Adds.{Adds}
use Rattle.or_geom.proofs.GatheringLaws.{some_has}
use Rattle.tech_rules.specs.declared.tech.Device.{Device}
use Rattle.drawn_devices.specs.Boxes.{IsShapeOfBox}
use Rattle.drawn_devices.specs.Diffusion.{IsActive}
use Rattle.drawn_devices.specs.DiffusionBoxes.{AreDiffusionBoxes}
use Rattle.drawn_devices.proofs.CutLaws.{added_again, added_layer}
use Rattle.drawn_devices.proofs.cut_shapes.add_layer.Goals as goal

pub returns-then-is_active : goal.returns-then-is_active
returns-then-is_active c first a =
    let active = subst (λ (d : Device). IsActive (take c.args.index c.args.devices.now) d.active) (sym c.index-devices-index.is) (c.if-is_active.ensures.0 refl) in
    added_again c.args.devices.now c.args.shapes.now c.args.index c.index-devices-index.result first c.args.out.now.items c.requires c.index-devices-index.is active a

pub diffusion_boxes-requires : goal.diffusion_boxes-requires
diffusion_boxes-requires c =
    let device = c.index-devices-index.result in
    subst (λ (d : Device). IsActive c.args.devices.now d.active) c.index-devices-index.is
    (some_has (λ (d : Device). d.active ≡ device.active) c.args.devices.now device (c.args.index, c.requires, sym c.index-devices-index.is) refl)

pub returns : goal.returns
returns c first a =
    let device = c.index-devices-index.result in
    let active = some_has (λ (d : Device). d.active ≡ device.active) c.args.devices.now device (c.args.index, c.requires, sym c.index-devices-index.is) refl in
    let boxes = c.in_ok-boxes.boxes.items in
    let are = subst (λ (d : Device). AreDiffusionBoxes c.args.devices.now c.args.shapes.now d.active boxes) (sym c.index-devices-index.is) c.in_ok-boxes.ensures in
    let adds = subst (λ (d : Device). Adds {X = Shape} c.args.out.now.items c.add_shapes.new.out.items (IsShapeOfBox d.active boxes)) (sym c.index-devices-index.is) (rw c.deref.ensures.value at c.in_ok-add_shapes.ensures) in
    added_layer c.args.devices.now c.args.shapes.now c.args.index device boxes first c.args.out.now.items c.add_shapes.new.out.items c.requires c.index-devices-index.is active are adds a
