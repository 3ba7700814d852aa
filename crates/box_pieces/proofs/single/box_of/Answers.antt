use Rattle.std.proofs.Common.{length, sym, ◌∙◌}
use Rattle.std.proofs.lemmas.Bool.{eqb-true}
use Rattle.std.proofs.lemmas.List.{nil_from_length}
use Rattle.box_pieces.proofs.SingleLaws.{none_single, all_covered, some_uncovered, not_none}
use Rattle.box_pieces.proofs.single.box_of.Goals as goal

pub returns-in_default-bounds : goal.returns-in_default-bounds
returns-in_default-bounds c = none_single c.args.boxes.now c.in_default-bounds.ensures

pub returns-then-is_empty : goal.returns-then-is_empty
returns-then-is_empty c =
    let none = nil_from_length c.as_slice.result.now (eqb-true (length c.as_slice.result.now) 0 (sym c.is_empty.ensures ∙ c.if-is_empty.true)) in
    all_covered c.args.boxes.now c.in_ok-pieces.pieces.outside.items c.in-Some.area c.in-Some.ensures (sym c.as_slice.ensures.value ∙ none) (λ x y o. (c.in_ok-pieces.ensures.outside x y).1 o)

pub returns : goal.returns
returns c = some_uncovered c.args.boxes.now c.in_ok-pieces.pieces.outside.items c.in-Some.area c.in-Some.ensures
    (not_none c.as_slice.result.now c.in_ok-pieces.pieces.outside.items c.as_slice.ensures.value (sym c.is_empty.ensures ∙ c.if-is_empty.false)) (λ x y h. (c.in_ok-pieces.ensures.outside x y).0 h)
