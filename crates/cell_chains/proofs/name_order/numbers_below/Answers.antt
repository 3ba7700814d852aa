use Rattle.std.specs.List.{range_with_len}
use Rattle.std.proofs.lemmas.List.Sorted.{IsPermutation-refl}
use Rattle.cell_chains.proofs.OrderedLaws.{moved_counted}
use Rattle.cell_chains.proofs.name_order.numbers_below.Goals as goal
use Rattle.cell_chains.proofs.name_order.numbers_below.Goals.{then-in_text_order, else-in_text_order}

pub returns : goal.returns
returns c =
    let all = range_with_len 0 c.args.count in
    let numbers = c.in_ok-numbers.numbers.items in
    elim c.if-in_text_order.branch [
      | then-in_text_order w ↦ rw w.numbers-is (moved_counted all numbers _ c.in_ok-numbers.ensures w.sort_unstable_by_key.ensures.permutation)
      | else-in_text_order w ↦ rw w.numbers-is (moved_counted all numbers numbers c.in_ok-numbers.ensures (IsPermutation-refl numbers))
    ]
