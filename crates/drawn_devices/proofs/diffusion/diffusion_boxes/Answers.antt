use Rattle.std.proofs.Common.{List, ◌++◌, sym, ap, subst, ◌∙◌}
use Rattle.or_geom.specs.declared.shape.Rect.{Rect}
use Rattle.shape_bins.specs.Layers.{rects_on}
use Rattle.drawn_devices.specs.DiffusionBoxes.{AreGatesOver}
use Rattle.drawn_devices.proofs.BoxLaws.{diffusion_left}
use Rattle.drawn_devices.proofs.diffusion.diffusion_boxes.Goals as goal

pub returns : goal.returns
returns c =
    let drawn = c.deref.ensures.value ∙ (c.in_ok-add_boxes_on.ensures ∙ ap (λ (l : List Rect). l ++ rects_on c.args.layer c.args.shapes.now) c.new-drawn.ensures.items) in
    let gates = subst (λ (l : List Rect). AreGatesOver c.args.devices.now c.args.shapes.now c.args.layer l) (sym c.deref-2.ensures.value) c.in_ok-gates.ensures in
    diffusion_left c.args.devices.now c.args.shapes.now c.args.layer c.deref.result.now c.deref-2.result.now c.in_ok-split.field-0.outside.items c.requires drawn gates (λ cell. c.in_ok-split.ensures.outside cell.x cell.y)
