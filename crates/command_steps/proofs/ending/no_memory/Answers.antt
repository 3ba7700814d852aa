use Rattle.std.proofs.Common.{refl, inl}
use Rattle.command_steps.proofs.PrintLaws.{put_cut}
use Rattle.command_steps.proofs.ending.no_memory.Goals as goal

pub returns-in-Err-Failed : goal.returns-in-Err-Failed
returns-in-Err-Failed g c =
    let puts = rw c.in-Err-Failed.field-0-is at c.in-Err-Failed.ensures.written in
    let cause = rw c.in-Err-Failed.field-0-is at c.in-Err-Failed.ensures.cause in
    inl (record { is = refl; text = put_cut _ _ (g.K.Sink.state c.args.out.now).text _ refl puts; rose = cause.rose refl })
