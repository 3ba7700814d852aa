use Rattle.std.proofs.Common.{List, sym, subst}
use Rattle.or_host.specs.declared.file.MemFile.{MemFile}
use Rattle.command_steps.specs.Writing.{HaveAsciiNames}
use Rattle.build_command.proofs.NameLaws.{demo_files_ascii}
use Rattle.build_command.proofs.demo_files.demo_files.Goals as goal

pub returns-clause-names : goal.returns-clause-names
returns-clause-names c = subst (λ (list : List MemFile). HaveAsciiNames list) (sym c.in_ok-made_files.ensures) (demo_files_ascii c.args.number)
