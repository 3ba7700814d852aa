use Rattle.macro_layout.proofs.SoundLaws.{macros_are_sound}
use Rattle.macro_layout.proofs.laws.macros_are_sound.Goals as goal

pub returns : goal.returns
returns c = macros_are_sound
