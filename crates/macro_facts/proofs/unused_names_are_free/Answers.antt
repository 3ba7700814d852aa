use Rattle.macro_facts.proofs.UnusedLaws.{unused_names_are_free}
use Rattle.macro_facts.proofs.unused_names_are_free.Goals as goal

pub returns : goal.returns
returns c = unused_names_are_free
