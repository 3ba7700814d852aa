-- Files ask for one read-only memory, or are refused in one way.
use Rattle.std.proofs.Common.{◌≡◌, ◌≢◌, ℕ, ◌<◌, List, Option, Some, None, Ok, refl, inl, inr, sym, ap, subst, ◌∙◌, arith}
use Rattle.std.proofs.lemmas.Bool.{cases_order}
use Rattle.std.proofs.lemmas.Grind.{same_number_lists}
use Rattle.std.proofs.lemmas.Option.{same_Some}
use Rattle.or_host.specs.Files.{Files}
use Rattle.sram_plan.specs.declared.config.Config.{Config}
use Rattle.sram_plan.specs.declared.numbers.Plan.{Plan}
use Rattle.leaf_tables.specs.Kits.{IsKit}
use Rattle.kit_laws.proofs.OneRomLaws.{one_rom_fault, no_rom_fault}
use Rattle.rom_data.specs.declared.fault.RomFault.{RomFault}
use Rattle.rom_data.specs.declared.fault.RomFault.TheVariants as rom_fault
use Rattle.rom_data.specs.Words.{AreWordsOf, IsFirstWide, IsRomFault, FitsWord}
use Rattle.rom_leaves.specs.RomLeaves.{HasRomLeaves, IsRomLeafFault}
use Rattle.reply_lines.specs.declared.refusal.Refusal.TheVariants as refusal_of
use Rattle.command_steps.specs.File.{IsFile}
use Rattle.command_steps.specs.Once.{IsLow, IsOnce}
use Rattle.command_steps.proofs.OnceLaws.{on_fault, on_file, on_then}
use Rattle.build_command.specs.declared.design.Design.{Design}
use Rattle.build_command.specs.declared.rom_design.RomDesign.{RomDesign}
use Rattle.build_command.specs.Design.{IsConfigFile, IsDesignOf}
use Rattle.build_command.specs.OneDesign.{HoldBytes}
use Rattle.build_command.specs.RomDesign.{HasFixedCells, IsRomAfter, IsRomConfiguration, IsRomDesign, IsRomOf, IsRomOver, IsRomUnder, IsRomWith, key_against_rom}
use Rattle.build_command.proofs.OneDesignLaws.{kit_lasts, on_config_file, on_design_of}

-- a refusal of a data file that is neither a failed read nor want of memory is no want of memory below
data_lasts : (f : RomFault) → IsLow (refusal_of.Rom f) → f ≢ rom_fault.Memory
data_lasts f low e = let five : 5 < 4 = subst (λ (g : RomFault). IsLow (refusal_of.Rom g)) e low in omega (arith, five)

-- bytes have one list of words
one_words : (plan : Plan) (bytes a b : List ℕ) → AreWordsOf plan bytes a → AreWordsOf plan bytes b → a ≡ b
one_words plan bytes a b p q =
    same_number_lists a b (p.stored.count ∙ sym q.stored.count)
    (λ k below. let here = subst (λ (n : ℕ). k < n) p.stored.count below in p.each k here ∙ sym (q.each k here))

-- the first word that is too wide is one
one_wide : (plan : Plan) (bytes : List ℕ) (a b : ℕ) → IsFirstWide plan bytes a → IsFirstWide plan bytes b → a ≡ b
one_wide plan bytes a b p q = elim (cases_order a b) [
  | inl same ↦ same
  | inr (inl below) ↦ absurd (p.wide (q.earlier a below))
  | inr (inr above) ↦ absurd (q.wide (p.earlier b above))
]

one_data_fault : (plan : Plan) (bytes : List ℕ) (f g : RomFault) → f ≢ rom_fault.Memory → g ≢ rom_fault.Memory → IsRomFault plan bytes f → IsRomFault plan bytes g → f ≡ g
one_data_fault plan bytes (rom_fault.DataLength a) (rom_fault.DataLength b) some also p q = ap (λ (n : ℕ). rom_fault.DataLength n) (p.0 ∙ sym q.0)
one_data_fault plan bytes (rom_fault.DataLength a) (rom_fault.DataBits b) some also p q = absurd (p.1 q.whole)
one_data_fault plan bytes (rom_fault.DataBits a) (rom_fault.DataLength b) some also p q = absurd (q.1 p.whole)
one_data_fault plan bytes (rom_fault.DataBits a) (rom_fault.DataBits b) some also p q = ap (λ (n : ℕ). rom_fault.DataBits n) (one_wide plan bytes a b p q)
one_data_fault plan bytes rom_fault.Memory g some also p q = absurd (some refl)
one_data_fault plan bytes f rom_fault.Memory some also p q = absurd (also refl)

-- and there is none where they are words
no_data_fault : (plan : Plan) (bytes words : List ℕ) (f : RomFault) → f ≢ rom_fault.Memory → IsRomFault plan bytes f → AreWordsOf plan bytes words → ⊥
no_data_fault plan bytes words (rom_fault.DataLength a) some p q = p.1 q.whole
no_data_fault plan bytes words (rom_fault.DataBits a) some p q = p.wide (subst (FitsWord plan.word_size) (q.each a p.there) (q.stored.fit a p.there))
no_data_fault plan bytes words rom_fault.Memory some p q = some refl

on_rom_of : (design : Design) (bytes : List ℕ) → IsOnce (IsRomOf design bytes)
on_rom_of design bytes =
    on_fault (λ (rom : RomDesign). (rom.design ≡ design) × AreWordsOf design.plan bytes rom.words) (IsRomFault design.plan bytes) refusal_of.Rom
    (λ x y p q. let same = p.0 ∙ sym q.0 in let words = one_words design.plan bytes x.words y.words p.1 q.1 in λ i. record { design = same i; words = words i })
    (λ f g s t p q. one_data_fault design.plan bytes f g (data_lasts f s) (data_lasts g t) p q) (λ f x s p q. no_data_fault design.plan bytes x.words f (data_lasts f s) p q.1)

on_configuration : (config : Config) → IsOnce (IsRomConfiguration config)
on_configuration config =
    on_fault (λ (same : Config). (same ≡ config) × (key_against_rom config ≡ None)) (λ (key : List ℕ). key_against_rom config ≡ Some key) refusal_of.NotRom (λ x y p q. p.0 ∙ sym q.0)
    (λ f g s t p q. same_Some f g (sym p ∙ q)) (λ f x s p q. let both : ◌≡◌ {A = Option (List ℕ)} None (Some f) = sym q.1 ∙ p in cc)

on_cells : (design : Design) → IsKit design.kit → IsOnce (HasFixedCells design)
on_cells design kit =
    on_fault (λ (same : Design). (same ≡ design) × HasRomLeaves design.kit) (IsRomLeafFault design.kit) refusal_of.Kit (λ x y p q. p.0 ∙ sym q.0)
    (λ f g s t p q. one_rom_fault design.kit f g kit (kit_lasts f s) (kit_lasts g t) p q) (λ f x s p q. no_rom_fault design.kit f kit (kit_lasts f s) p q.1)

-- a design of a configuration has a kit
pub kit_of_design : (files : Files) (config : Config) (design : Design) → IsDesignOf files config (Ok design) → IsKit design.kit
kit_of_design files config design is = let with = is.2 in subst (λ (d : Design). IsKit d.kit) (sym with.2) with.1.2.2.2.is

module _ (files : Files) (content : List ℕ) where
  on_rom_with : (design : Design) → IsOnce (IsRomWith files content design)
  on_rom_with design = on_then (IsFile files content) (IsRomOf design) (on_file files content) (λ bytes there. on_rom_of design bytes)

  on_rom_over : (design : Design) → IsKit design.kit → IsOnce (IsRomOver files content design)
  on_rom_over design kit = on_then (HasFixedCells design) (IsRomWith files content) (on_cells design kit) (λ same is. on_rom_with same)

  module _ (hold : HoldBytes files) where
    on_rom_under : (config : Config) → IsOnce (IsRomUnder files content config)
    on_rom_under config =
        on_then (IsDesignOf files config) (IsRomOver files content) (on_design_of files hold config) (λ design is. on_rom_over design (kit_of_design files config design is))

    on_rom_after : (config : Config) → IsOnce (IsRomAfter files content config)
    on_rom_after config = on_then (IsRomConfiguration config) (IsRomUnder files content) (on_configuration config) (λ same is. on_rom_under same)

    pub on_rom : (name : List ℕ) → IsOnce (IsRomDesign files name content)
    on_rom name = on_then (IsConfigFile files name) (IsRomAfter files content) (on_config_file files name) (λ config made. on_rom_after config)

-- a read-only memory that files ask for has a kit
pub rom_kit : (files : Files) (name content : List ℕ) (rom : RomDesign) → IsRomDesign files name content (Ok rom) → IsKit rom.design.kit
rom_kit files name content rom is =
    let under = is.2.2 in
    let over = under.2 in
    subst (λ (d : Design). IsKit d.kit) (sym (over.2.2.0 ∙ over.1.0)) (kit_of_design files is.2.0 under.0 under.1)
