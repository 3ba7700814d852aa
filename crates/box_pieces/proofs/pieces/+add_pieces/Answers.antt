use Rattle.std.proofs.Common.{[], ◌∷◌}
use Rattle.std.proofs.lemmas.Result.{on_ok_weaker}
use Rattle.box_pieces.proofs.SplitLaws.{uncut_of, one_item, seen_holds, seen_added, seen_split}
use Rattle.box_pieces.proofs.pieces.+add_pieces.Goals as goal

pub add_whole-requires : goal.add_whole-requires
add_whole-requires t c =
    let uncut = uncut_of c.args.area c.in_ok-cut.field-0 c.deref.result.now c.in_ok-by.by.items c.in_default.is c.in_ok-cut.ensures c.deref.ensures.value in
    seen_holds c.args.area c.args.boxes.now c.in_ok-boxes.boxes.items c.deref-in_default.result.now c.args.by.now c.in_ok-by.by.items c.deref-in_default-2.result.now c.in_ok-boxes.ensures c.in_ok-by.ensures uncut c.deref-in_default.ensures.value
    c.deref-in_default-2.ensures.value

pub returns-in-len1 : goal.returns-in-len1
returns-in-len1 t c =
    let only = one_item c.deref-3.result.now c.in_ok-by.by.items c.only-item.result c.in-len1.len_at_least c.in-len1.len_below c.only-item.is c.deref-3.ensures.value in
    on_ok_weaker c.add_cuts.result
    (λ a. seen_added c.args.area c.args.boxes.now c.in_ok-boxes.boxes.items c.deref-in-len1.result.now c.args.by.now c.in_ok-by.by.items (c.only-item.result ∷ []) c.args.out.now c.add_cuts.new.out c.in_ok-boxes.ensures c.in_ok-by.ensures
    c.deref-in-len1.ensures.value only a) c.add_cuts.ensures

pub returns : goal.returns
returns t c = on_ok_weaker c.add_pieces-2.result
    (λ b. seen_split c.args.area _ _ c.args.boxes.now c.in_ok-boxes.boxes.items c.deref-4.result.now c.deref-6.result.now c.args.by.now c.in_ok-by.by.items c.deref-5.result.now c.deref-7.result.now c.args.out.now c.add_pieces.new.out c.add_pieces-2.new.out
    c.halves.ensures c.in_ok-boxes.ensures c.in_ok-by.ensures c.deref-4.ensures.value c.deref-5.ensures.value c.deref-6.ensures.value c.deref-7.ensures.value c.in_ok-add_pieces.ensures b) c.add_pieces-2.ensures
