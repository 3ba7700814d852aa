use Rattle.std.proofs.Common.{refl}
use Rattle.sram_plan.proofs.PlanLaws.{is_cut, log_is, numbers_are}
use Rattle.sram_plan.proofs.choose.plan_with.Goals as goal

pub returns-clause-planned : goal.returns-clause-planned
returns-clause-planned c =
    let cut = is_cut c.args.config.now c.args.wpr c.requires.config c.requires.wpr c.requires.fits in
    record {
      wpr = refl;
      word_size = refl;
      write_size = refl;
      masks = c.masks.ensures;
      banks = refl;
      num_words = refl;
      rows = refl;
      columns = refl;
      addr_bits = log_is c.args.config.now.num_words c.ilog2.result 13 cut.words c.ilog2.ensures.power_le c.ilog2.ensures.next_power_gt;
      col_bits = log_is c.args.wpr c.ilog2-2.result 3 cut.choices c.ilog2-2.ensures.power_le c.ilog2-2.ensures.next_power_gt;
      bank_bits = log_is c.args.config.now.num_banks c.ilog2-3.result 2 cut.banks c.ilog2-3.ensures.power_le c.ilog2-3.ensures.next_power_gt;
      groups = c.row_groups.ensures;
    }

pub returns-clause-numbers : goal.returns-clause-numbers
returns-clause-numbers c = numbers_are c.args.config.now c.args.wpr _ c.requires.config c.requires.wpr c.requires.fits (returns-clause-planned c)
