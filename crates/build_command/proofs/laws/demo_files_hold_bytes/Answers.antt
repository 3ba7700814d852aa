use Rattle.build_command.proofs.DemoByteLaws.{demo_files_hold_bytes}
use Rattle.build_command.proofs.laws.demo_files_hold_bytes.Goals as goal

pub returns : goal.returns
returns c = demo_files_hold_bytes
