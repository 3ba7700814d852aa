use Rattle.std.proofs.Common.{◌≤◌, ◌^◌, length, arith}
use Rattle.std.specs.List.Sorted.{IsStrictlySortedBy}
use Rattle.std.proofs.lemmas.List.{length-map}
use Rattle.std.proofs.lemmas.Result.{IfOk-weaker}
use Rattle.or_geom.specs.ShapeOrder.{shape_order}
use Rattle.cell_hierarchy.specs.declared.flat.Flat.{Flat}
use Rattle.cell_hierarchy.specs.FlatLists.{AreFlatLists}
use Rattle.cell_hierarchy.specs.Plain.{lists_of, plain_label}
use Rattle.cell_hierarchy.proofs.FlatLaws.{labels_are_few}
use Rattle.cell_hierarchy.proofs.FlatShapeLaws.{shapes_are_few}
use Rattle.cell_hierarchy.proofs.OneListsLaws.{shapes_of_lists}
use Rattle.cell_hierarchy.proofs.OneSetLaws.{one_set}
use Rattle.reply_lines.specs.declared.refusal.Refusal.TheVariants.{Flatten}
use Rattle.command_steps.proofs.OutcomeLaws.{said_outcome, said_value}
use Rattle.openram_cli.specs.Answer.{IsFlatteningFault}
use Rattle.openram_cli.specs.Inputs.{IsReadLayout}
use Rattle.openram_cli.specs.declared.inputs.LayoutInput.{LayoutInput}
use Rattle.openram_cli.proofs.answer.flat_of.Goals as goal

abbrev IsFlat : LayoutInput → Flat → Type 0
IsFlat layout flat = AreFlatLists layout.tech.layers layout.lib.structs layout.top (lists_of flat)

few : (layout : LayoutInput) → IsReadLayout layout → (flat : Flat) → IsFlat layout flat → length flat.shapes.now ≤ 16777216
few layout sound flat is =
    shapes_are_few one_set layout.tech.layers layout.lib.structs layout.top flat.shapes.now sound.writable.cells
    (shapes_of_lists layout.tech.layers layout.lib.structs layout.top (lists_of flat) is)

few_labels : (layout : LayoutInput) (flat : Flat) → IsFlat layout flat → length flat.labels.now ≤ 2 ^ 22
few_labels layout flat is =
    let few = labels_are_few layout.tech.layers layout.lib.structs layout.top (lists_of flat) is in
    let same = length-map flat.labels.now plain_label in
    omega (arith, few, same)

pub returns-clause-flat : goal.returns-clause-flat
returns-clause-flat g c =
    let layout = c.args.layout.now in
    said_outcome (IsFlat layout) (IsFlatteningFault layout) Flatten c.flatten_by-flat.result c.map_err.result c.flatten_by-flat.ensures.flat c.flatten_by-flat.ensures.fault c.map_err.ensures.cases

pub returns-clause-rises : goal.returns-clause-rises
returns-clause-rises g c =
    let layout = c.args.layout.now in
    let flat = said_value (IsFlat layout) Flatten c.flatten_by-flat.result c.map_err.result c.flatten_by-flat.ensures.flat c.map_err.ensures.cases in
    IfOk-weaker c.map_err.result (IsFlat layout) (λ flat. IsStrictlySortedBy shape_order flat.shapes.now) (λ flat is. is.shapes_rise) flat

pub returns-clause-few : goal.returns-clause-few
returns-clause-few g c =
    let layout = c.args.layout.now in
    let flat = said_value (IsFlat layout) Flatten c.flatten_by-flat.result c.map_err.result c.flatten_by-flat.ensures.flat c.map_err.ensures.cases in
    IfOk-weaker c.map_err.result (IsFlat layout) (λ flat. length flat.shapes.now ≤ 16777216) (few layout c.requires.read) flat

pub returns-clause-few_labels : goal.returns-clause-few_labels
returns-clause-few_labels g c =
    let layout = c.args.layout.now in
    let flat = said_value (IsFlat layout) Flatten c.flatten_by-flat.result c.map_err.result c.flatten_by-flat.ensures.flat c.map_err.ensures.cases in
    IfOk-weaker c.map_err.result (IsFlat layout) (λ flat. length flat.labels.now ≤ 2 ^ 22) (few_labels layout) flat
