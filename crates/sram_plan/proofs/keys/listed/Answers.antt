use Rattle.std.proofs.Common.{rules}
use Rattle.sram_plan.proofs.KeyLaws.{any_is_one}
use Rattle.sram_plan.proofs.keys.listed.Goals as goal

pub returns-clause-among : goal.returns-clause-among
returns-clause-among c = any_is_one c.args.values.now c.in_ok-number.number (search rules)
