-- Row by row.
use Rattle.std.proofs.Common.{◌≡◌, ◌<◌, List, Some, length, refl, ap, sym, subst, ◌∙◌, arith}
use Rattle.std.specs.Prelude.{slice_get, option_map}
use Rattle.std.proofs.lemmas.Int.{ints}
use Rattle.std.proofs.lemmas.Option.{slice_get_read}
use Rattle.or_geom.proofs.PlaceLaws.{same_point}
use Rattle.cell_roles.specs.declared.role.Role.{Role}
use Rattle.leaf_tables.specs.declared.kit.Leaf.{Leaf}
use Rattle.leaf_tables.specs.Alignment.{leaf_in}
use Rattle.leaf_shapes.specs.Demands.{role_demands}
use Rattle.sram_netlist.specs.Netlist.{row_gate}
use Rattle.sram_plan.specs.PlanNumbers.{numbers_of, organization}
use Rattle.port_lists.proofs.NumberLaws.{rows_are}
use Rattle.row_decoder.specs.RowTaps.{corner_at, row_leaves_of}
use Rattle.row_decoder.proofs.TapLaws.{enough_inputs, rows_more, all_rows}
use Rattle.row_decoder.proofs.rows.taps.Goals as goal

pub add_row_taps-requires-clause-inputs : goal.add_row_taps-requires-clause-inputs
add_row_taps-requires-clause-inputs c =
    let groups = (organization c.args.plan.now).groups in
    let same : c.deref-in-loop-row.result.now ≡ groups = c.deref-in-loop-row.ensures.value ∙ c.in_ok-groups.ensures in
    let first : c.deref.result.now ≡ groups = c.deref.ensures.value ∙ c.in_ok-groups.ensures in
    let role : c.row_gate_role.result ≡ row_gate groups = c.row_gate_role.ensures ∙ ap row_gate first in
    let pins = c.leaf_of-gate.ensures.pins ∙ ap (λ (r : Role). length (role_demands r)) role in
    let enough = enough_inputs groups c.requires.numbers.plan.groups in
    let sized = ap length same in
    omega (arith, sized, pins, enough)

pub add_row_taps-requires-clause-enable : goal.add_row_taps-requires-clause-enable
add_row_taps-requires-clause-enable c =
    let pins = c.leaf_of.ensures.pins in
    let within : 1 < length c.leaf_of.result.now.pins = omega (arith, pins) in
    let at = subst (λ (l : List _). slice_get l 1 ≡ Some c.index-as_slice-1.result) c.as_slice.ensures (slice_get_read c.as_slice.result.now (length c.as_slice.result.now) 1 c.index-as_slice-1.result refl (let sized = ap length c.as_slice.ensures in omega (arith, sized, within)) c.index-as_slice-1.is) in
    c.leaf_of.ensures.near.pins 1 c.index-as_slice-1.result at

pub add_row_taps-requires-clause-row : goal.add_row_taps-requires-clause-row
add_row_taps-requires-clause-row c =
    let rows = rows_are (numbers_of c.args.plan.now) c.requires.numbers in
    let few = c.requires.numbers.plan.rows in
    omega (arith, rows, few)

pub loop-row-preserved : goal.loop-row-preserved
loop-row-preserved c =
    let high = c.leaf_of-2.ensures.near.height in
    rows_more c.loop-row.taps.items c.add_row_taps.new.taps.items c.loop-row.row c.in_ok-groups.groups.items _ c.leaf_of-gate.result.now c.index-as_slice-1.result _ _ _ _ c.loop-row.invariant c.in_ok-add_row_taps.ensures c.deref-in-loop-row.ensures.value
    (omega (arith, ints))
    (same_point _ _ (omega (arith, ints)) (omega (arith, ints)))

pub returns : goal.returns
returns c =
    let groups = (organization c.args.plan.now).groups in
    let first : c.deref.result.now ≡ groups = c.deref.ensures.value ∙ c.in_ok-groups.ensures in
    let role : c.row_gate_role.result ≡ row_gate groups = c.row_gate_role.ensures ∙ ap row_gate first in
    let high = c.leaf_of-2.ensures.near.height in
    let pins = c.leaf_of.ensures.pins in
    let within : 1 < length c.leaf_of.result.now.pins = omega (arith, pins) in
    let at = subst (λ (l : List _). slice_get l 1 ≡ Some c.index-as_slice-1.result) c.as_slice.ensures (slice_get_read c.as_slice.result.now (length c.as_slice.result.now) 1 c.index-as_slice-1.result refl (let sized = ap length c.as_slice.ensures in omega (arith, sized, within)) c.index-as_slice-1.is) in
    record {
      leaves = row_leaves_of c.leaf_of-gate.result.now c.index-as_slice-1.result c.leaf_of-2.result.now.height;
      of = record {
        gate = c.leaf_of-gate.result.now;
        is_gate = ap (leaf_in c.args.kit.now.leaves) (sym role) ∙ c.leaf_of-gate.ensures.is;
        inputs = refl;
        gate_width = refl;
        driver = c.leaf_of.result.now;
        is_driver = c.leaf_of.ensures.is;
        enable = at;
        height = ap (option_map (λ (leaf : Leaf). leaf.height)) c.leaf_of-2.ensures.is;
      };
      are = all_rows c.loop-row.taps.items c.loop-row.row _ groups _ c.leaf_of-gate.result.now c.index-as_slice-1.result c.leaf_of-2.result.now.height _ (corner_at c.args.x c.args.y) _ c.loop-row.invariant
          (let far : c.loop-row.row ≡ c.args.plan.now.rows = omega arith in far ∙ rows_are (numbers_of c.args.plan.now) c.requires.numbers) c.in_ok-groups.ensures
          (omega (arith, ints, high.above, high.below))
          (same_point _ _ (omega (arith, ints)) (omega (arith, ints)));
    }
