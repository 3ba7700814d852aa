use Rattle.std.proofs.Common.{◌≡◌, arith, w64, to_z, of_z}
use Rattle.std.proofs.lemmas.Int.{to_z-of_z}
use Rattle.std.proofs.lemmas.Result.{on_ok_weaker}
use Rattle.box_pieces.specs.Cells.{AddsCells, IsBetweenSides, IsCellAround}
use Rattle.box_pieces.proofs.CellLaws.{adds_two, adds_same, sides_as}
use Rattle.box_pieces.proofs.CommonLaws.{IsBeside, is_part, beside_around, around_beside}
use Rattle.box_pieces.proofs.around.add_around.Goals as goal

pub returns : goal.returns
returns c =
    let rect = c.args.rect in
    let part = c.args.part in
    let p = is_part rect part (λ x y h. (c.requires.only x y h).0) in
    let x1 : to_z w64 (of_z w64 c.args.rect.x1) ≡ c.args.rect.x1 = grind (arith, to_z-of_z) in
    let y1 : to_z w64 (of_z w64 c.args.rect.y1) ≡ c.args.rect.y1 = grind (arith, to_z-of_z) in
    let x2 : to_z w64 (of_z w64 c.args.rect.x2) ≡ c.args.rect.x2 = grind (arith, to_z-of_z) in
    let y2 : to_z w64 (of_z w64 c.args.rect.y2) ≡ c.args.rect.y2 = grind (arith, to_z-of_z) in
    let px1 : to_z w64 (of_z w64 c.args.part.x1) ≡ c.args.part.x1 = grind (arith, to_z-of_z) in
    let py1 : to_z w64 (of_z w64 c.args.part.y1) ≡ c.args.part.y1 = grind (arith, to_z-of_z) in
    let px2 : to_z w64 (of_z w64 c.args.part.x2) ≡ c.args.part.x2 = grind (arith, to_z-of_z) in
    let py2 : to_z w64 (of_z w64 c.args.part.y2) ≡ c.args.part.y2 = grind (arith, to_z-of_z) in
    let old = c.args.out.now.items in
    let one = c.add_box.new.out.items in
    let two = c.add_box-2.new.out.items in
    let three = c.add_box-3.new.out.items in
    let four = c.add_box-4.new.out.items in
    let below = sides_as old one _ _ _ _ _ _ _ _ x1 y1 x2 py1 c.in_ok-add_box.ensures in
    let above = sides_as one two _ _ _ _ _ _ _ _ x1 py2 x2 y2 c.in_ok-add_box-2.ensures in
    let left = sides_as two three _ _ _ _ _ _ _ _ x1 py1 px1 py2 c.in_ok-add_box-3.ensures in
    on_ok_weaker c.add_box-4.result
    (λ (right : AddsCells c.add_box-3.new.out.items c.add_box-4.new.out.items (IsBetweenSides (to_z w64 (of_z w64 c.args.part.x2)) (to_z w64 (of_z w64 c.args.part.y1)) (to_z w64 (of_z w64 c.args.rect.x2)) (to_z w64 (of_z w64 c.args.part.y2)))).
    adds_same old four (IsBeside rect part) (IsCellAround rect part) (beside_around rect part p) (around_beside rect part)
    (adds_two old three four _ _ (adds_two old two three _ _ (adds_two old one two _ _ below above) left) (sides_as three four _ _ _ _ _ _ _ _ px2 py1 x2 py2 right))) c.add_box-4.ensures
