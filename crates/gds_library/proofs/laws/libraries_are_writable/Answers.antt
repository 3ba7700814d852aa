use Rattle.gds_library.proofs.WritableLaws.{libraries_are_writable}
use Rattle.gds_library.proofs.laws.libraries_are_writable.Goals as goal

pub returns : goal.returns
returns c = libraries_are_writable
