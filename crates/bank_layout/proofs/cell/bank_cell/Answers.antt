-- The three parts.
use Rattle.std.proofs.Common.{◌∙◌, arith}
use Rattle.std.proofs.lemmas.Int.{ints}
use Rattle.floorplan.proofs.JoinerLaws.{apart}
use Rattle.bank_layout.proofs.CellLaws.{drawn_is, part_same, three_are}
use Rattle.bank_layout.proofs.cell.bank_cell.Goals as goal

pub returns : goal.returns
returns c plan kit are =
    let near = c.requires.near in
    let left = c.columns_x-columns.ensures.is in
    let gate = are.gate_width in
    let drive = are.driver_width in
    drawn_is _ _ _ _ _ _ _ _ c.in_ok-part_name.ensures
    (c.from_vec.ensures ∙ three_are _ _ _ _ _ _ _ _ _ _ c.new-instances.ensures.items c.in_ok-push.ensures.items c.in_ok-push-2.ensures.items c.in_ok-push-3.ensures.items
    (part_same _ _ _ _ _ _ _ c.in_ok-part_at.ensures (omega (arith, ints)) (apart _ _ near.array_y near.write_y))
    (part_same _ _ _ _ _ _ _ c.in_ok-part_at-2.ensures (omega (arith, ints, left, gate, drive)) (apart _ _ near.precharge_y near.write_y))
    (part_same _ _ _ _ _ _ _ c.in_ok-part_at-3.ensures (omega (arith, ints, left, gate, drive)) (omega (arith, ints))))
    c.from_vec-2.ensures c.new.ensures
