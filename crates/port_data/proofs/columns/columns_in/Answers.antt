-- The numbers of a plan are those of its organisation.
use Rattle.std.proofs.Common.{◌<◌, ◌≤◌, ℕ, sym, subst}
use Rattle.sram_plan.specs.PlanNumbers.{numbers_of}
use Rattle.port_lists.proofs.NumberLaws.{columns_are, words_are}
use Rattle.port_lists.proofs.TabulateLaws.{some_lines}
use Rattle.port_data.proofs.columns.columns_in.Goals as goal

pub returns-clause-is : goal.returns-clause-is
returns-clause-is c =
    let words = words_are (numbers_of c.args.plan.now) c.requires.plan in
    let count = columns_are (numbers_of c.args.plan.now) c.requires.plan in
    λ i. record { bits = c.args.plan.now.word_size; words = words i; count = count i; choices = c.choices.ensures.value i; width = c.leaf_width.ensures.is i }

pub returns-clause-few : goal.returns-clause-few
returns-clause-few c =
    let words = words_are (numbers_of c.args.plan.now) c.requires.plan in
    let count = columns_are (numbers_of c.args.plan.now) c.requires.plan in
    record {
      words = subst (λ (n : ℕ). 0 < n) (sym words) (some_lines c.args.plan.now.col_bits);
      count = subst (λ (n : ℕ). n ≤ 256) (sym count) c.requires.plan.plan.columns;
      product = c.requires.plan.columns;
      choices = c.choices.ensures.few;
      width = c.leaf_width.ensures.few;
    }
