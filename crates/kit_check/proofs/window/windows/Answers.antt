use Rattle.std.proofs.Common.{[]}
use Rattle.kit_check.specs.Windows.{windows_of_size, word_sizes}
use Rattle.kit_check.proofs.WindowLaws.{flat_more_at, flat_all, windows_made, windows_counted}
use Rattle.kit_check.proofs.window.windows.Goals as goal

pub loop-index-preserved : goal.loop-index-preserved
loop-index-preserved c =
    flat_more_at windows_of_size word_sizes c.loop-index.index c.sizes_at.result [] c.loop-index.list.items c.add_windows_of_size.new.out.items c.sizes_at.ensures c.loop-index.invariant c.in_ok-add_windows_of_size.ensures

pub returns-clause-are : goal.returns-clause-are
returns-clause-are c = windows_made c.loop-index.list.items (flat_all windows_of_size word_sizes c.loop-index.index c.loop-index.list.items c.loop-index-test.false c.loop-index.invariant)

pub returns-clause-count : goal.returns-clause-count
returns-clause-count c = windows_counted c.loop-index.list.items (flat_all windows_of_size word_sizes c.loop-index.index c.loop-index.list.items c.loop-index-test.false c.loop-index.invariant)
