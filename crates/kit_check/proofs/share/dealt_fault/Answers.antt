use Rattle.std.proofs.Common.{◌≡◌, List, Some, subst}
use Rattle.std.specs.Prelude.{slice_get}
use Rattle.or_geom.proofs.ListLaws.{contained_at}
use Rattle.kit_check.specs.declared.window.Window.{Window}
use Rattle.kit_check.specs.Windows.{all_windows}
use Rattle.kit_check.proofs.share.dealt_fault.Goals as goal

pub window_fault-requires-clause-window : goal.window_fault-requires-clause-window
window_fault-requires-clause-window g c κs within =
    contained_at all_windows c.args.index c.window_at.result (subst (λ (l : List Window). slice_get l c.args.index ≡ Some c.window_at.result) c.requires.windows c.window_at.ensures)
