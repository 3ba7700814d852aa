use Rattle.std.proofs.Common.{length, refl, sym, ◌∙◌}
use Rattle.std.proofs.lemmas.Bool.{eqb-true}
use Rattle.std.proofs.lemmas.List.{nil_from_length}
use Rattle.box_pieces.proofs.SplitLaws.{some_left, all_outside, all_inside}
use Rattle.box_pieces.proofs.pieces.add_whole.Goals as goal

pub returns-then-is_empty : goal.returns-then-is_empty
returns-then-is_empty c =
    let none = nil_from_length c.args.by.now (eqb-true (length c.args.by.now) 0 (sym c.is_empty.ensures ∙ c.if-is_empty.true)) in
    all_outside c.args.boxes.now c.args.by.now c.args.out.now _ none refl c.in_ok-extend_from_slice.ensures.items

pub returns : goal.returns
returns c = all_inside c.args.boxes.now c.args.by.now c.args.out.now _ (some_left (length c.args.by.now) (sym c.is_empty.ensures ∙ c.if-is_empty.false)) c.requires c.in_ok-extend_from_slice-2.ensures.items refl
