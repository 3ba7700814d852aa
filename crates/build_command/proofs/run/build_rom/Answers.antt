use Rattle.std.proofs.Common.{refl}
use Rattle.build_command.specs.Words.Making.{rom}
use Rattle.build_command.proofs.RunLaws.{work_put, work_refused}
use Rattle.build_command.proofs.run.build_rom.Goals as goal

pub returns-in-Ok : goal.returns-in-Ok
returns-in-Ok g c = work_put (rom c.args.asked.config.now c.args.asked.content.now) refl c.in-Ok.made c.put_out.result _ _ _ _ c.in-Ok.ensures.read c.in-Ok.ensures.done c.put_out.ensures

pub returns-in-Err : goal.returns-in-Err
returns-in-Err g c =
    work_refused (rom c.args.asked.config.now c.args.asked.content.now) refl c.in-Err.refusal c.refuse.result _ _ _ _ tt c.in-Err.ensures.read c.in-Err.ensures.words c.refuse.ensures
