use Rattle.std.proofs.Common.{◌≤◌, length}
use Rattle.std.specs.List.Sorted.{IsStrictlySortedBy}
use Rattle.std.proofs.lemmas.Result.{IfOk-weaker}
use Rattle.or_geom.specs.Reachable.{AreReachable}
use Rattle.or_geom.specs.ShapeOrder.{shape_order}
use Rattle.cell_hierarchy.specs.declared.flat.Flat.{Flat}
use Rattle.cell_hierarchy.specs.FlatLists.{AreFlatShapes}
use Rattle.cell_hierarchy.proofs.FlatShapeLaws.{shapes_are_few}
use Rattle.cell_hierarchy.proofs.FlatNearLaws.{flat_near}
use Rattle.cell_hierarchy.proofs.OneSetLaws.{one_set}
use Rattle.reply_lines.specs.declared.refusal.Refusal.TheVariants.{Flatten}
use Rattle.command_steps.proofs.OutcomeLaws.{said_outcome, said_value}
use Rattle.openram_cli.specs.Answer.{IsFlatteningFault}
use Rattle.openram_cli.specs.declared.inputs.LayoutInput.{LayoutInput}
use Rattle.openram_cli.proofs.answer.shapes_of.Goals as goal

abbrev HasFlatShapes : LayoutInput → Flat → Type 0
HasFlatShapes layout flat = AreFlatShapes layout.tech.layers layout.lib.structs layout.top flat.shapes.now

pub returns-clause-flat : goal.returns-clause-flat
returns-clause-flat g c =
    let layout = c.args.layout.now in
    let flat = c.flatten_shapes_by-flat in
    said_outcome (HasFlatShapes layout) (IsFlatteningFault layout) Flatten flat.result c.map_err.result flat.ensures.shapes flat.ensures.fault c.map_err.ensures.cases

pub returns-clause-rises : goal.returns-clause-rises
returns-clause-rises g c =
    let layout = c.args.layout.now in
    let flat = said_value (HasFlatShapes layout) Flatten c.flatten_shapes_by-flat.result c.map_err.result c.flatten_shapes_by-flat.ensures.shapes c.map_err.ensures.cases in
    IfOk-weaker c.map_err.result (HasFlatShapes layout) (λ flat. IsStrictlySortedBy shape_order flat.shapes.now) (λ flat is. is.rise) flat

pub returns-clause-reach : goal.returns-clause-reach
returns-clause-reach g c =
    let layout = c.args.layout.now in
    let flat = said_value (HasFlatShapes layout) Flatten c.flatten_shapes_by-flat.result c.map_err.result c.flatten_shapes_by-flat.ensures.shapes c.map_err.ensures.cases in
    IfOk-weaker c.map_err.result (HasFlatShapes layout) (λ flat. AreReachable flat.shapes.now) (λ flat is. flat_near layout.tech.layers layout.lib.structs layout.top flat.shapes.now is) flat

pub returns-clause-few : goal.returns-clause-few
returns-clause-few g c =
    let layout = c.args.layout.now in
    let flat = said_value (HasFlatShapes layout) Flatten c.flatten_shapes_by-flat.result c.map_err.result c.flatten_shapes_by-flat.ensures.shapes c.map_err.ensures.cases in
    IfOk-weaker c.map_err.result (HasFlatShapes layout) (λ flat. length flat.shapes.now ≤ 16777216)
    (λ flat is. shapes_are_few one_set layout.tech.layers layout.lib.structs layout.top flat.shapes.now c.requires.read.writable.cells is) flat
