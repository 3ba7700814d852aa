use Rattle.std.proofs.Common.{subst}
use Rattle.device_entries.specs.LineSteps.{ReadsAs}
use Rattle.device_entries.specs.declared.lines.DeviceLine.TheVariants.{Other, Whole}
use Rattle.device_entries.proofs.LineLaws.{other_more, whole_more}
use Rattle.device_entries.proofs.lines.line_entries.Goals as goal
use Rattle.device_entries.proofs.lines.line_entries.Goals.{in-Other, in-Whole+in_ok-push-in-Whole}

pub loop-place-preserved : goal.loop-place-preserved
loop-place-preserved c =
    let line = c.index-lines-place.result in
    let lines = c.args.lines.now in
    let place = c.loop-place.place in
    let inside = c.loop-place-test.true in
    let read : ReadsAs line c.in_ok-read_line.field-0 = rw (c.as_bytes.ensures) at c.in_ok-read_line.ensures in
    elim c.match-branch-2.branch [
      | in-Other w ↦
          let other : ReadsAs line Other = subst (ReadsAs line) w.in-Other.is read in
          rw w.entries-is (other_more lines c.loop-place.entries place line inside c.index-lines-place.is other c.loop-place.invariant)
      | in-Whole+in_ok-push-in-Whole w ↦
          let whole : ReadsAs line (Whole w.in-Whole.entry) = subst (ReadsAs line) w.in-Whole.is read in
          rw (w.entries-is, w.in_ok-push-in-Whole.ensures.ok) (whole_more lines c.loop-place.entries place line w.in-Whole.entry inside c.index-lines-place.is whole.0 whole.1 c.loop-place.invariant)
    ]
