-- What reading a store leads to.
use Rattle.std.specs.Prelude.{◌≡◌, Result}
use Rattle.or_host.specs.Fault.{HasCause, NamesLast}
use Rattle.or_host.specs.Files.{Files}
use Rattle.reply_lines.specs.declared.refusal.Refusal.{Refusal}
use Rattle.command_steps.specs.Outcome.{UnlessMemory, is_read_failed, unread_in}
use Rattle.or_host.specs.State.{StoreState}
use Rattle.command_steps.specs.Outside.{IfTold}

-- Where files are told, the outcome has P over them, unless memory ran out. The files stay. The count of faults rises where a read failed, and there alone,
-- and then this read is the last call that failed.
pub record HasRead {X : Type 0} (P : Files → Result X Refusal → Type 0) (result : Result X Refusal) (before now : StoreState) : Type 0 where
  pub told : IfTold before.files (λ files. UnlessMemory (P files) result)
  pub same : now.files ≡ before.files
  pub cause : HasCause before.faults now.faults (is_read_failed result)
  pub named : NamesLast (unread_in result) before.failed now.failed
