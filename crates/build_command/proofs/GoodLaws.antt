-- What is known of designs, as what is built of them asks for it.
use Rattle.std.proofs.Common.{◌≡◌, ◌/◌, Bool, true, false, List, ℕ, Some, None, refl, ap, ◌∙◌, arith}
use Rattle.std.proofs.lemmas.Bool.{eqb-true}
use Rattle.std.specs.Prelude.{nat_eq, if◌then◌else◌, codes}
use Rattle.sram_netlist.specs.Organization.{IsWritten}
use Rattle.sram_plan.proofs.PlanLaws.{exponents_are_one}
use Rattle.sram_plan.specs.Plan.{IsPlanOf}
use Rattle.sram_plan.specs.PlanNumbers.{organization, read_only_plan}
use Rattle.sram_plan.specs.declared.config.Config.{Config}
use Rattle.sram_plan.specs.declared.numbers.Plan.{Plan}
use Rattle.macro_build.specs.Memory.{AreFixedWords}
use Rattle.rom_data.specs.Words.{AreRomWords}
use Rattle.rom_leaves.specs.RomLeaves.{HasRomLeaves}
use Rattle.build_command.specs.declared.design.Design.{Design}
use Rattle.build_command.specs.declared.rom_design.RomDesign.{RomDesign}
use Rattle.build_command.specs.Design.{IsGoodDesign}
use Rattle.build_command.specs.RomDesign.{IsGoodRom, key_against_rom}

-- a memory that is built of a design is written
pub design_written : (design : Design) → IsGoodDesign design → IsWritten (organization design.plan)
design_written design good =
    let as_asked = good.planned.with.write_size in
    let some = good.config.some_written in
    omega (arith, as_asked, some)

both_true : (a b : Bool) (x y : List ℕ) → (if a then (if b then None else Some y) else Some x) ≡ None → (a ≡ true) × (b ≡ true)
both_true true true x y e = (refl, refl)
both_true true false x y e = absurd cc
both_true false b x y e = absurd cc

-- where no key is against it, there is one bank, and words are written whole
keys_for_rom : (config : Config) → key_against_rom config ≡ None → (nat_eq config.num_banks 1 ≡ true) × (nat_eq config.write_size config.word_size ≡ true)
keys_for_rom config none = both_true (nat_eq config.num_banks 1) (nat_eq config.write_size config.word_size) (codes "num_banks") (codes "write_size") none

pub rom_whole : (config : Config) (plan : Plan) → IsPlanOf config plan → key_against_rom config ≡ None → plan.masks ≡ 0
rom_whole config plan is none = is.with.masks ∙ ap (λ (b : Bool). if b then 0 else config.word_size / config.write_size) (keys_for_rom config none).1

pub rom_one_bank : (config : Config) (plan : Plan) → IsPlanOf config plan → key_against_rom config ≡ None → plan.bank_bits ≡ 0
rom_one_bank config plan is none = exponents_are_one plan.bank_bits 0 (is.with.bank_bits ∙ eqb-true config.num_banks 1 (keys_for_rom config none).0)

-- a design with the cells for fixed bits and with words for each address
pub rom_good : (design : Design) (words : List ℕ) → IsGoodDesign design → key_against_rom design.config ≡ None → HasRomLeaves design.kit → AreRomWords design.plan words → IsGoodRom (record { design = design; words = words })
rom_good design words good none cells are =
    record { design = good; whole = rom_whole design.config design.plan good.planned none; one_bank = rom_one_bank design.config design.plan good.planned none; cells = cells; words = are }

-- its words are those of a plan in which nothing is written
pub rom_fits : (rom : RomDesign) → IsGoodRom rom → AreFixedWords (read_only_plan rom.design.plan) rom.words
rom_fits rom good =
    let as_asked = good.design.planned.with.word_size in
    let few = good.design.config.few_bits in
    record { read_only = refl; whole = good.whole; one_bank = good.one_bank; few_bits = omega (arith, as_asked, few); are = record { count = good.words.count; fit = good.words.fit } }
