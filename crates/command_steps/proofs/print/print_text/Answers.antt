use Rattle.std.proofs.Common.{◌<◌, ◌-◌, ◌^◌, refl, sym, ◌∙◌, arith}
use Rattle.std.proofs.lemmas.Option.{get_or_from_slice_get, slice_get_within}
use Rattle.command_steps.proofs.PrintLaws.{put_fails, put_goes}
use Rattle.command_steps.proofs.print.print_text.Goals as goal

pub loop-place-preserved : goal.loop-place-preserved
loop-place-preserved g c =
    let before = c.loop-place.invariant in
    let mid = g.K.Sink.state c.loop-place.out in
    record {
      printed = put_goes c.args.lines.now c.loop-place.place c.get.result.now (g.K.Sink.state c.args.out.now).text mid.text _ c.get.ensures before.printed c.in-Ok.ensures.written;
      clean = c.in-Ok.ensures.cause.kept refl ∙ before.clean;
      counted = λ lt.
          let step = c.in-Ok.ensures.counted lt in
          let below : mid.puts < 2 ^ 64 - 1 = omega (arith, lt, step) in
          omega (arith, step, before.counted below);
    }

pub returns-in-Err-clause-printed : goal.returns-in-Err-clause-printed
returns-in-Err-clause-printed g c =
    let lines = c.args.lines.now in
    let i = c.loop-place.place in
    let line = c.get.result.now in
    put_fails lines i line line _ (g.K.Sink.state c.loop-place.out).text _ c.in-Err.fail (slice_get_within lines i line c.get.ensures) (sym (get_or_from_slice_get lines i line line c.get.ensures)) refl c.loop-place.invariant.printed c.in-Err.ensures.written
