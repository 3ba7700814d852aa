use Rattle.std.proofs.Common.{refl}
use Rattle.std.specs.Fmt.{digits}
use Rattle.sram_deck.proofs.laws.fixed_sample_agrees.Goals as goal

pub returns : goal.returns
unfolding digits
returns c = refl
