use Rattle.kit_check.specs.Windows.{windows_of_words, window_words}
use Rattle.kit_check.proofs.WindowLaws.{flat_more}
use Rattle.kit_check.proofs.window.add_windows_of_size.Goals as goal

pub loop-wpr-preserved : goal.loop-wpr-preserved
loop-wpr-preserved c =
    flat_more (windows_of_words c.args.size) window_words c.loop-wpr.wpr-index 0 c.args.out.now.items c.loop-wpr.out.items c.add_windows_of_words.new.out.items c.loop-wpr-test.true c.loop-wpr.invariant c.in_ok-add_windows_of_words.ensures
