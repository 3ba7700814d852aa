use Rattle.kit_check.specs.Windows.{windows_of_rows, window_rows}
use Rattle.kit_check.proofs.WindowLaws.{flat_more}
use Rattle.kit_check.proofs.window.add_windows_of_words.Goals as goal

pub loop-rows-preserved : goal.loop-rows-preserved
loop-rows-preserved c =
    flat_more (windows_of_rows c.args.size c.args.wpr) window_rows c.loop-rows.rows-index 0 c.args.out.now.items c.loop-rows.out.items c.add_windows_of_rows.new.out.items c.loop-rows-test.true c.loop-rows.invariant c.in_ok-add_windows_of_rows.ensures
