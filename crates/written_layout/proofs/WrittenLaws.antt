-- What is written is flat as the library.
use Rattle.std.proofs.Common.{◌≡◌, subst}
use Rattle.gds_library.specs.declared.library.Library.{Library}
use Rattle.gds_library.specs.ReadLibrary.{LibrariesAreUnique}
use Rattle.gds_stream.specs.Turned.{turned_library}
use Rattle.written_layout.specs.SameFlat.{SameFlat, TurningKeepsFlat, WritingKeepsFlat}
use Rattle.written_layout.proofs.SameSets.{same_flat}
use Rattle.written_layout.proofs.TurnedElements.{turned_same}

pub turning_keeps_flat : TurningKeepsFlat
turning_keeps_flat layers lib top w =
    same_flat layers (turned_library lib).structs lib.structs (turned_same layers lib.structs w.cells) top

pub writing_keeps_flat : LibrariesAreUnique → WritingKeepsFlat
writing_keeps_flat unique layers lib read bytes top w few spelled spells =
    let is : turned_library lib ≡ read = unique bytes (turned_library lib) read few spelled spells in
    subst (λ (l : Library). SameFlat layers l.structs lib.structs top) is (turning_keeps_flat layers lib top w)
