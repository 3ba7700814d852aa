use Rattle.kit_check.proofs.FreeLaws.{numbers_are, same_u64}
use Rattle.kit_check.proofs.free_name.taken_numbers.Goals as goal

pub returns-clause-are : goal.returns-clause-are
returns-clause-are c =
    numbers_are c.args.kit.now c.as_slice.result.now c.as_slice-2.result.now c.new-numbers.result.items c.add_structs.new.out.items c.add_subckts.new.out.items c.sort_distinct.new.list.items
    c.as_slice.ensures c.as_slice-2.ensures c.new-numbers.ensures.items c.in_ok-add_structs.ensures c.in_ok-add_subckts.ensures (c.sort_distinct.ensures.keeps same_u64) c.sort_distinct.ensures.adds_none
