use Rattle.std.proofs.Common.{subst, codes}
use Rattle.or_host.specs.Files.{Files}
use Rattle.command_steps.specs.Outcome.{UnlessMemory, is_read_failed}
use Rattle.build_command.proofs.StepLaws.{no_failure}
use Rattle.build_command.specs.Made.{IsWork}
use Rattle.build_command.proofs.run.work_on_demo.Goals as goal

pub returns-clause-work : goal.returns-clause-work
returns-clause-work g c = subst (λ (files : Files). UnlessMemory (IsWork files (codes "demo.toml")) c.work_on.result) c.with-source.ensures c.work_on.ensures.read.told

pub returns-clause-read : goal.returns-clause-read
returns-clause-read g c = no_failure (is_read_failed c.work_on.result) c.work_on.ensures.read.cause
