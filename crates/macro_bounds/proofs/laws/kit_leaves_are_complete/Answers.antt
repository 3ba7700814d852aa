use Rattle.macro_bounds.proofs.CompleteLaws.{flat_cells_are_complete, flat_cells_are_sound, leaf_cells_are_flat}
use Rattle.macro_bounds.proofs.laws.kit_leaves_are_complete.Goals as goal

pub returns-clause-complete : goal.returns-clause-complete
returns-clause-complete c = flat_cells_are_complete

pub returns-clause-sound : goal.returns-clause-sound
returns-clause-sound c = flat_cells_are_sound

pub returns-clause-leaves : goal.returns-clause-leaves
returns-clause-leaves c = leaf_cells_are_flat
