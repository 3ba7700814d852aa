-- What a read-only memory is built of, over the files that a store tells.
use Rattle.std.specs.Prelude.{◌≡◌, ℕ, nat_eq, List, Option, Some, None, Result, if◌then◌else◌, codes}
use Rattle.or_host.specs.Files.{Files}
use Rattle.sram_plan.specs.declared.config.Config.{Config}
use Rattle.leaf_tables.specs.declared.kit.Kit.{Kit}
use Rattle.rom_data.specs.Words.{AreRomWords, AreWordsOf, IsRomFault}
use Rattle.rom_leaves.specs.RomLeaves.{HasRomLeaves, IsRomLeafFault}
use Rattle.reply_lines.specs.declared.refusal.Refusal.{Refusal}
use Rattle.reply_lines.specs.declared.refusal.Refusal.TheVariants as refusal_of
use Rattle.command_steps.specs.File.{IsFile}
use Rattle.command_steps.specs.Outcome.{ValueOrFault, Then}
use Rattle.build_command.specs.declared.design.Design.{Design}
use Rattle.build_command.specs.declared.rom_design.RomDesign.{RomDesign}
use Rattle.build_command.specs.Design.{IsConfigFile, IsDesignOf, IsGoodDesign}

-- the first key of a configuration with a value that no read-only memory has: there is one bank, and words are whole
abbrev pub key_against_rom : Config → Option (List ℕ)
key_against_rom config = if nat_eq config.num_banks 1 then (if nat_eq config.write_size config.word_size then None else Some (codes "write_size")) else Some (codes "num_banks")

-- a configuration that may be of a read-only memory, or the key that is against it
abbrev pub IsRomConfiguration : Config → Result Config Refusal → Type 0
IsRomConfiguration config = ValueOrFault (λ same. (same ≡ config) × (key_against_rom config ≡ None)) (λ key. key_against_rom config ≡ Some key) refusal_of.NotRom

-- a design whose kit has the cells that hold fixed bits, or the first fault of these
abbrev pub HasFixedCells : Design → Result Design Refusal → Type 0
HasFixedCells design = ValueOrFault (λ same. (same ≡ design) × HasRomLeaves design.kit) (IsRomLeafFault design.kit) refusal_of.Kit

-- it with the words of a data file, or the first fault of that
abbrev pub IsRomOf : Design → List ℕ → Result RomDesign Refusal → Type 0
IsRomOf design bytes = ValueOrFault (λ rom. (rom.design ≡ design) × AreWordsOf design.plan bytes rom.words) (IsRomFault design.plan bytes) refusal_of.Rom

-- the data file after the cells
abbrev pub IsRomWith : Files → List ℕ → Design → Result RomDesign Refusal → Type 0
IsRomWith files content design = Then (IsFile files content) (IsRomOf design)

-- the cells after the design
abbrev pub IsRomOver : Files → List ℕ → Design → Result RomDesign Refusal → Type 0
IsRomOver files content design = Then (HasFixedCells design) (IsRomWith files content)

-- the design after the configuration
abbrev pub IsRomUnder : Files → List ℕ → Config → Result RomDesign Refusal → Type 0
IsRomUnder files content config = Then (IsDesignOf files config) (IsRomOver files content)

-- what is looked at in a configuration, before its plan
abbrev pub IsRomAfter : Files → List ℕ → Config → Result RomDesign Refusal → Type 0
IsRomAfter files content config = Then (IsRomConfiguration config) (IsRomUnder files content)

-- the read-only memory that the two files ask for: the configuration first
abbrev pub IsRomDesign : Files → List ℕ → List ℕ → Result RomDesign Refusal → Type 0
IsRomDesign files name content = Then (IsConfigFile files name) (IsRomAfter files content)

-- what is known of every one that is read
pub record IsGoodRom (rom : RomDesign) : Type 0 where
  pub design : IsGoodDesign rom.design
  pub whole : rom.design.plan.masks ≡ 0
  pub one_bank : rom.design.plan.bank_bits ≡ 0
  pub cells : HasRomLeaves rom.design.kit
  pub words : AreRomWords rom.design.plan rom.words
