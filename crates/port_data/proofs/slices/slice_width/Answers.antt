-- So many columns of the bitcell's width.
use Rattle.std.proofs.Common.{◌*◌}
use Rattle.sram_plan.specs.PlanNumbers.{numbers_of}
use Rattle.port_lists.proofs.NumberLaws.{words_are}
use Rattle.port_data.proofs.slices.slice_width.Goals as goal

pub returns : goal.returns
returns c =
    let words = words_are (numbers_of c.args.plan.now) c.requires.plan in
    λ i. words i * c.leaf_width.ensures.is i
