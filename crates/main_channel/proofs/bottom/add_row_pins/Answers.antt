-- A cell more.
use Rattle.std.proofs.Common.{◌≡◌, length, get_or, Some, refl, to_z, w64, sym, ◌∙◌, ap, arith}
use Rattle.std.specs.Prelude.{slice_get, take}
use Rattle.std.proofs.lemmas.Int.{ints}
use Rattle.std.proofs.lemmas.List.{append-nil, get_or_default}
use Rattle.std.proofs.lemmas.Option.{slice_get_read, slice_get-get_or}
use Rattle.std.proofs.Math.Seq.{take-length}
use Rattle.cell_roles.specs.declared.role.Role.TheVariants.{Bitcell}
use Rattle.floorplan.specs.LeafSides.{leaf_width}
use Rattle.floorplan.proofs.SideLaws.{width_is}
use Rattle.main_channel.specs.Leaves.{pin_begin}
use Rattle.main_channel.specs.Numbers.{found_number}
use Rattle.main_channel.proofs.PinLaws.{nodes_at, three_demands, sum_read}
use Rattle.main_channel.proofs.StepLaws.{cell_more, all_cells, row_step}
use Rattle.main_channel.proofs.bottom.add_row_pins.Goals as goal

pub add_cell_pins-requires-clause-nodes : goal.add_cell_pins-requires-clause-nodes
add_cell_pins-requires-clause-nodes c =
    let each = c.requires.fit.each in
    let less = c.loop-cell-test.true in
    nodes_at c.args.gates.now c.args.roles.now c.loop-cell.cell c.index-gates-cell.result _ c.requires.fit less c.index-gates-cell.is (get_or_default c.args.roles.now c.loop-cell.cell _ _ (omega (arith, each, less)))

pub add_cell_pins-requires-clause-ports : goal.add_cell_pins-requires-clause-ports
add_cell_pins-requires-clause-ports c =
    let each = c.requires.fit.each in
    let less = c.loop-cell-test.true in
    let count = nodes_at c.args.gates.now c.args.roles.now c.loop-cell.cell c.index-gates-cell.result (get_or c.args.roles.now c.loop-cell.cell Bitcell) c.requires.fit less c.index-gates-cell.is (get_or_default c.args.roles.now c.loop-cell.cell _ _ (omega (arith, each, less))) in
    let three = three_demands (get_or c.args.roles.now c.loop-cell.cell Bitcell) in
    omega (arith, count, three)

pub loop-cell-init : goal.loop-cell-init
loop-cell-init c =
    let a = c.requires.x.above in
    let b = c.requires.x.below in
    record {
      near = record { above = omega (arith, ints, a, b); below = omega (arith, ints, a, b) };
      here = omega (arith, ints, a, b);
      is = sym (append-nil c.args.pins.now.items);
      main = λ nets num all. all;
    }

pub loop-cell-preserved : goal.loop-cell-preserved
loop-cell-preserved c =
    let each = c.requires.fit.each in
    let less = c.loop-cell-test.true in
    let few = c.requires.few in
    let a = c.loop-cell.invariant.near.above in
    let b = c.loop-cell.invariant.near.below in
    let d = c.leaf_of.ensures.near.width.above in
    let e = c.leaf_of.ensures.near.width.below in
    let there : slice_get c.args.gates.now c.loop-cell.cell ≡ Some c.index-gates-cell.result = slice_get_read c.args.gates.now (length c.args.gates.now) c.loop-cell.cell c.index-gates-cell.result refl less c.index-gates-cell.is in
    let plays = slice_get-get_or c.args.roles.now c.loop-cell.cell Bitcell (omega (arith, each, less)) in
    record {
      near = record { above = omega (arith, ints, a, d, b, e, few, less); below = omega (arith, ints, a, d, b, e, few, less) };
      here = sum_read (to_z w64 c.loop-cell.x-bits) c.leaf_of.result.now.width a (omega (arith, ints, b, few, less)) c.leaf_of.ensures.near.width
          ∙ row_step (leaf_width c.args.kit.now) c.loop-cell.cell c.args.roles.now (get_or c.args.roles.now c.loop-cell.cell Bitcell) _ (to_z w64 c.loop-cell.x-bits) c.leaf_of.result.now.width plays c.loop-cell.invariant.here (width_is c.args.kit.now c.requires.kit (get_or c.args.roles.now c.loop-cell.cell Bitcell) c.leaf_of.result.now c.leaf_of.ensures.is).is;
      is = cell_more (pin_begin c.args.kit.now) (leaf_width c.args.kit.now) (found_number c.args.numbers.now) c.args.gates.now c.args.roles.now _ _ _ _ _ c.loop-cell.cell c.index-gates-cell.result (get_or c.args.roles.now c.loop-cell.cell Bitcell) there plays c.loop-cell.invariant.here c.loop-cell.invariant.is
          c.in_ok-add_cell_pins.ensures.is;
      main = λ nets num all. c.in_ok-add_cell_pins.ensures.main nets num (c.loop-cell.invariant.main nets num all);
    }

pub returns-clause-is : goal.returns-clause-is
returns-clause-is c =
    let most = c.loop-cell-test.false in
    let least = c.loop-cell.auto.cell-end in
    let each = c.requires.fit.each in
    let a = c.requires.x.above in
    let b = c.requires.x.below in
    let gates = c.args.gates.now in
    let roles = c.args.roles.now in
    let all : c.loop-cell.cell ≡ length gates = omega (arith, most, least) in
    let of_roles : c.loop-cell.cell ≡ length roles = omega (arith, most, least, each) in
    all_cells (pin_begin c.args.kit.now) (leaf_width c.args.kit.now) (found_number c.args.numbers.now) gates roles _ c.args.logic_x c.loop-cell.cell c.args.pins.now.items c.loop-cell.pins.items c.loop-cell.invariant.is
    (omega (arith, ints, a, b)) (ap (λ n. take n gates) all ∙ take-length gates) (ap (λ n. take n roles) of_roles ∙ take-length roles)
