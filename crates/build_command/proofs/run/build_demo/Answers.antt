use Rattle.std.proofs.Common.{refl, inl, inr}
use Rattle.build_command.proofs.run.build_demo.Goals as goal

pub returns-in-Ok : goal.returns-in-Ok
returns-in-Ok g c = inl (record { made = c.in-Ok.made; success = c.in-Ok.ensures.done; work = c.in-Ok.ensures.work; out = c.put_out.ensures })

pub returns-in-Err : goal.returns-in-Err
returns-in-Err g c = inr (record { refusal = c.in-Err.refusal; no_usage = c.in-Err.ensures.words; no_read = c.in-Err.ensures.read; work = c.in-Err.ensures.work; same = refl; printed = c.refuse.ensures })
