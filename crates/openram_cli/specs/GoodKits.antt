-- What a build ends with whose kit `kit` finds no weakness in.
use Rattle.std.specs.Prelude.{◌≡◌, ℕ, List, [], ◌∷◌, Ok, codes}
use Rattle.or_host.specs.Files.{Files}
use Rattle.command_steps.specs.Outside.{Outside, IfTold}
use Rattle.build_command.specs.declared.design.Design.{Design}
use Rattle.build_command.specs.Design.{IsDesign}
use Rattle.build_command.specs.OneDesign.{HoldBytes}
use Rattle.build_command.specs.Run.{IsMakingRefused}
use Rattle.build_command.specs.Words.{IsMakingForm}
use Rattle.build_command.specs.Words.Making.{build}
use Rattle.good_kits.specs.Builds.{MayStillCome}
use Rattle.openram_cli.specs.Answer.{IsAnswer}

-- over these files `kit` answers of the kit of this name with status 0 and no line
abbrev pub IsFoundGood : Files → List ℕ → Type 0
IsFoundGood files tech = (workers : List ℕ) × IsAnswer (codes "kit" ∷ (tech ∷ (workers ∷ []))) files (record { status = 0; lines = [] })

-- A build over told files of bytes, of a configuration that names such a kit: where it ends with status 3, it has printed the
-- line of a refusal that such a kit leaves.
abbrev pub EndsWithinGoodKit : List (List ℕ) → ℕ → Outside → Outside → Type 0
EndsWithinGoodKit words status before now = (config_file : List ℕ) → IsMakingForm words (build config_file) → status ≡ 3
    → IfTold before.store.files (λ files. (design : Design) → HoldBytes files → IsDesign files config_file (Ok design) → IsFoundGood files design.config.tech_name
    → (refused : IsMakingRefused (build config_file) before now) × MayStillCome refused.refusal)
