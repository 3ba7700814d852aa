use Rattle.gds_library.proofs.LibraryLaws.{libraries_are_unique}
use Rattle.gds_library.proofs.laws.libraries_are_unique.Goals as goal

pub returns : goal.returns
returns c = libraries_are_unique
