-- The kit of a library is that of the bytes that spell it.
use Rattle.std.proofs.Common.{ℕ, List, ◌++◌, Result, Ok, Err, refl, inl, inr}
use Rattle.std.specs.Prelude.{codes}
use Rattle.gds_library.specs.declared.library.Library.{Library}
use Rattle.gds_library.specs.Grammar.{Spells}
use Rattle.or_host.specs.Files.{Files}
use Rattle.or_host.specs.State.{StoreState}
use Rattle.tech_rules.specs.declared.tech.Tech.{Tech}
use Rattle.leaf_tables.specs.declared.kit.Kit.{Kit}
use Rattle.reply_lines.specs.declared.refusal.Refusal.{Refusal}
use Rattle.command_steps.proofs.OutcomeLaws.{told_map}
use Rattle.command_steps.specs.Outcome.{Then, UnlessMemory}
use Rattle.command_steps.specs.Reading.{HasRead}
use Rattle.build_command.specs.Design.{IsLeafLibraryFile, IsKitOver, IsKitOverLibrary, IsKitWith}

-- the layout's library and then the kit of this library
abbrev pub IsKitWithLibrary : Files → List ℕ → Tech → Result Kit Refusal → Type 0
IsKitWithLibrary files name tech = Then (IsLeafLibraryFile files (name ++ codes ".gds")) (IsKitOverLibrary files name tech)

refused_over : (files : Files) (name : List ℕ) (tech : Tech) (lib : Library) (gds : List ℕ) (refusal : Refusal) → Spells gds lib
    → IsKitOverLibrary files name tech lib (Err refusal) → IsKitOver files name tech gds (Err refusal)
refused_over files name tech lib gds refusal spelled (inl unread) = inl unread
refused_over files name tech lib gds refusal spelled (inr of) = inr (of.0, of.1, (of.2.0, of.2.1 gds spelled, of.2.2))

kit_of_bytes : (files : Files) (name : List ℕ) (tech : Tech) (result : Result Kit Refusal) → IsKitWithLibrary files name tech result → IsKitWith files name tech result
kit_of_bytes files name tech (Ok kit) of =
    let file = of.1 in
    let over = of.2 in
    (file.0, (file.0, file.1, (refl, (of.0, file.2))), (over.0, over.1, over.2 file.0 file.2))
kit_of_bytes files name tech (Err refusal) (inl refused) = inl refused
kit_of_bytes files name tech (Err refusal) (inr of) =
    let file = of.1 in
    inr (file.0, (file.0, file.1, (refl, (of.0, file.2))), refused_over files name tech of.0 file.0 refusal file.2 of.2)

kit_unless_memory : (files : Files) (name : List ℕ) (tech : Tech) (result : Result Kit Refusal)
    → UnlessMemory (IsKitWithLibrary files name tech) result → UnlessMemory (IsKitWith files name tech) result
kit_unless_memory files name tech (Ok kit) is = kit_of_bytes files name tech (Ok kit) is
kit_unless_memory files name tech (Err refusal) is = λ lasts. kit_of_bytes files name tech (Err refusal) (is lasts)

pub read_kit_of_bytes : (name : List ℕ) (tech : Tech) (result : Result Kit Refusal) (before now : StoreState)
    → HasRead (λ files. IsKitWithLibrary files name tech) result before now → HasRead (λ files. IsKitWith files name tech) result before now
read_kit_of_bytes name tech result before now read = record {
  told =
      told_map before.files (λ files. UnlessMemory (IsKitWithLibrary files name tech) result) (λ files. UnlessMemory (IsKitWith files name tech) result)
      (λ files. kit_unless_memory files name tech result) read.told;
  same = read.same;
  cause = read.cause;
  named = read.named;
}
