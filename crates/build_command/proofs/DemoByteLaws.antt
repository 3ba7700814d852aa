-- What stands in the files of a demonstration is bytes.
use Rattle.std.proofs.Common.{◌≡◌, ℕ, Bool, true, false, List, [], ◌∷◌, Some, subst}
use Rattle.std.proofs.lemmas.Option.{same_Some}
use Rattle.std.specs.Prelude.{if◌then◌else◌}
use Rattle.std.specs.List.{AllByRecursion}
use Rattle.std.specs.Str.{bytes_eq}
use Rattle.gds_records.specs.Bytes.{AreBytes}
use Rattle.or_host.specs.FileList.{files_of}
use Rattle.or_host.specs.Files.{Files}
use Rattle.or_host.specs.declared.file.MemFile.{MemFile}
use Rattle.demo_kit.proofs.ByteLaws.{configuration_bytes, library_bytes, subckts_bytes, technology_bytes}
use Rattle.build_command.specs.Demonstration.{demo_files}
use Rattle.build_command.specs.OneDesign.{DemoFilesHoldBytes, HoldBytes}

-- the first file, where it has the name, or what the others hold
first_or_others : (here : Bool) (file : MemFile) (others : Files) (name bytes : List ℕ) → AreBytes file.bytes → HoldBytes others
    → (if here then Some file.bytes else others name) ≡ Some bytes → AreBytes bytes
first_or_others true file others name bytes are hold is = subst AreBytes (same_Some file.bytes bytes is) are
first_or_others false file others name bytes are hold is = hold name bytes is

files_hold_bytes : (files : List MemFile) → AllByRecursion (λ (file : MemFile). AreBytes file.bytes) files → HoldBytes (files_of files)
files_hold_bytes [] are name bytes is = absurd cc
files_hold_bytes (file ∷ files) are name bytes is =
    first_or_others (bytes_eq file.name name) file (files_of files) name bytes are.0 (files_hold_bytes files are.1) is

pub demo_files_hold_bytes : DemoFilesHoldBytes
demo_files_hold_bytes n = files_hold_bytes (demo_files n) (configuration_bytes n, (technology_bytes n, (library_bytes n, (subckts_bytes, tt))))
