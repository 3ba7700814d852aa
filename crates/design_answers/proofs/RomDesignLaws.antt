-- Files ask for a read-only memory, or are refused.
use Rattle.std.proofs.Common.{◌≡◌, ◌⊎◌, inl, inr, ℕ, List, Option, Some, None, Ok, refl, sym, subst, lit<}
use Rattle.or_host.specs.Files.{Files}
use Rattle.sram_plan.specs.declared.config.Config.{Config}
use Rattle.sram_plan.specs.Config.{IsConfig}
use Rattle.leaf_tables.specs.declared.fault.KitFault.{KitFault}
use Rattle.leaf_tables.specs.Kits.{IsKit}
use Rattle.rom_data.specs.declared.fault.RomFault.{RomFault}
use Rattle.rom_data.specs.Words.{AreWordsOf, IsRomFault}
use Rattle.rom_leaves.specs.RomLeaves.{HasRomLeaves, IsRomLeafFault}
use Rattle.reply_lines.specs.declared.refusal.Refusal.TheVariants as refusal_of
use Rattle.command_steps.specs.File.{IsFile}
use Rattle.command_steps.specs.Once.{IsLow}
use Rattle.kit_answers.specs.RomLeafAnswers.{RomLeavesOrFault}
use Rattle.kit_answers.proofs.RomLeafLaws.{rom_leaves_answer}
use Rattle.plan_answers.specs.WordAnswers.{WordsOrFault}
use Rattle.plan_answers.proofs.WordLaws.{words_answer}
use Rattle.build_command.specs.declared.design.Design.{Design}
use Rattle.build_command.specs.declared.rom_design.RomDesign.{RomDesign}
use Rattle.build_command.specs.Design.{IsConfigFile, IsDesignOf}
use Rattle.build_command.specs.OneDesign.{HoldBytes}
use Rattle.build_command.specs.RomDesign.{HasFixedCells, IsRomAfter, IsRomConfiguration, IsRomDesign, IsRomOf, IsRomOver, IsRomUnder, IsRomWith}
use Rattle.build_command.specs.RomDesign.{key_against_rom}
use Rattle.design_answers.specs.DesignAnswers.{HasOutcome, RomDesignsAnswer}
use Rattle.design_answers.proofs.DesignLaws.{answered_config_file, answered_design_of, config_in_file}
use Rattle.design_answers.proofs.LowLaws.{rom_leaf_low, rom_low}
use Rattle.design_answers.proofs.StepLaws.{answered_by, answered_file, answered_then}

answered_configuration : (config : Config) → HasOutcome (IsRomConfiguration config)
answered_configuration config =
    answered_by (λ (same : Config). (same ≡ config) × (key_against_rom config ≡ None))
    (λ (key : List ℕ). key_against_rom config ≡ Some key) refusal_of.NotRom (by_key (key_against_rom config) refl)
  where
    by_key : (found : Option (List ℕ)) → key_against_rom config ≡ found
        → ((same : Config) × ((same ≡ config) × (key_against_rom config ≡ None)))
        ⊎ ((key : List ℕ) × IsLow (refusal_of.NotRom key) × (key_against_rom config ≡ Some key))
    by_key None e = inl (config, (refl, e))
    by_key (Some key) e = inr (key, lit< tt, e)

answered_words : (design : Design) (bytes : List ℕ) → HasOutcome (IsRomOf design bytes)
answered_words design bytes =
    answered_by (λ (rom : RomDesign). (rom.design ≡ design) × AreWordsOf design.plan bytes rom.words) (IsRomFault design.plan bytes) refusal_of.Rom
    (by_words (words_answer design.plan bytes))
  where
    by_words : WordsOrFault design.plan bytes
        → ((rom : RomDesign) × ((rom.design ≡ design) × AreWordsOf design.plan bytes rom.words))
        ⊎ ((fault : RomFault) × IsLow (refusal_of.Rom fault) × IsRomFault design.plan bytes fault)
    by_words (inl words) = inl (record { design = design; words = words.0 }, (refl, words.1))
    by_words (inr fault) = inr (fault.0, rom_low fault.0 fault.1, fault.2)

-- a design of a configuration has a kit
kit_in_design : (files : Files) (config : Config) (design : Design) → IsDesignOf files config (Ok design) → IsKit design.kit
kit_in_design files config design is = let with = is.2 in subst (λ (d : Design). IsKit d.kit) (sym with.2) with.1.2.2.2.is

module _ (files : Files) (content : List ℕ) where
  answered_cells : (design : Design) → IsKit design.kit → HasOutcome (HasFixedCells design)
  answered_cells design kit =
      answered_by (λ (same : Design). (same ≡ design) × HasRomLeaves design.kit) (IsRomLeafFault design.kit) refusal_of.Kit
      (by_cells (rom_leaves_answer design.kit kit))
    where
      by_cells : RomLeavesOrFault design.kit
          → ((same : Design) × ((same ≡ design) × HasRomLeaves design.kit))
          ⊎ ((fault : KitFault) × IsLow (refusal_of.Kit fault) × IsRomLeafFault design.kit fault)
      by_cells (inl has) = inl (design, (refl, has))
      by_cells (inr fault) = inr (fault.0, rom_leaf_low design.kit fault.0 fault.1 fault.2, fault.2)

  answered_rom_with : (design : Design) → HasOutcome (IsRomWith files content design)
  answered_rom_with design =
      answered_then (IsFile files content) (IsRomOf design) (answered_file files content) (λ bytes there. answered_words design bytes)

  answered_rom_over : (design : Design) → IsKit design.kit → HasOutcome (IsRomOver files content design)
  answered_rom_over design kit =
      answered_then (HasFixedCells design) (IsRomWith files content) (answered_cells design kit) (λ same is. answered_rom_with same)

  module _ (hold : HoldBytes files) where
    answered_rom_under : (config : Config) → IsConfig config → HasOutcome (IsRomUnder files content config)
    answered_rom_under config is =
        answered_then (IsDesignOf files config) (IsRomOver files content) (answered_design_of files hold config is)
        (λ design made. answered_rom_over design (kit_in_design files config design made))

    answered_rom_after : (config : Config) → IsConfig config → HasOutcome (IsRomAfter files content config)
    answered_rom_after config is =
        answered_then (IsRomConfiguration config) (IsRomUnder files content) (answered_configuration config)
        (λ same made. answered_rom_under same (subst IsConfig (sym made.0) is))

    pub answered_rom : (name : List ℕ) → HasOutcome (IsRomDesign files name content)
    answered_rom name =
        answered_then (IsConfigFile files name) (IsRomAfter files content) (answered_config_file files name)
        (λ config made. answered_rom_after config (config_in_file files name config made))

pub rom_designs_answer : RomDesignsAnswer
rom_designs_answer files name content hold = answered_rom files content hold name
