-- The names and numbers of a read-only memory's module, which is one that a tool has to take.
use Rattle.std.proofs.Common.{◌≡◌, ℕ, zero, suc, ◌+◌, ◌/◌, ◌%◌, ◌^◌, ◌<◌, ◌≤◌, List, [], ◌∷◌, ◌++◌, map, false, codes, bytes_eq, refl, sym, subst, arith}
use Rattle.std.specs.Prelude.{slice_index}
use Rattle.std.specs.List.{AllByRecursion, range_with_len}
use Rattle.std.specs.Char.{digit_char}
use Rattle.sram_plan.specs.declared.numbers.Plan.{Plan}
use Rattle.sram_plan.specs.Keywords.{is_keyword}
use Rattle.sram_plan.specs.PlanNumbers.{numbers_of, organization}
use Rattle.memory_laws.specs.Run.{num_words}
use Rattle.rom_laws.specs.RomRun.{AreWordsFor}
use Rattle.sram_netlist.specs.Numbers.{ArePlanNumbers}
use Rattle.rom_data.specs.Hex.{hex_digit_count, hex_digits}
use Rattle.verilog_modules.specs.Names.{is_name, IsName, HasLegalNames, IsNamedSetting}
use Rattle.verilog_modules.specs.Legal.{IsLegal, IsLegalSetting}
use Rattle.verilog_laws.proofs.NamedLaws.{Names, names, small, word_small, addr_small}
use Rattle.verilog_laws.proofs.LegalLaws.{word_sized, addr_sized, depth_sized}
use Rattle.rom_verilog_laws.specs.Rom.{setting, rom_module}
use Rattle.rom_verilog_laws.proofs.SpellLaws.{digits_are_hex}
use Rattle.rom_verilog_laws.proofs.StartLaws.{all_words_are, digits_are, few_words, word_fits}

abbrev n : Names
n = names

rom_depth_named : IsName (codes "ROM_DEPTH")
unfolding is_name is_keyword
rom_depth_named = refl

settings_named : (plan : Plan) (words : List ℕ) → ArePlanNumbers (numbers_of plan) → (count k : ℕ) → k + count ≤ 8192 → AllByRecursion IsNamedSetting (map (setting plan words) (range_with_len k count))
settings_named plan words is zero k low = tt
settings_named plan words is (suc count) k low = (
  (n.mem_is, small k (omega (arith, low)), small plan.word_size (let a = word_small plan is in omega (arith, a)), digits_are_hex (hex_digit_count plan.word_size) (slice_index words k)),
  settings_named plan words is count (k + 1) (omega (arith, low)),
)

pub rom_named : (plan : Plan) (name words : List ℕ) → ArePlanNumbers (numbers_of plan) → IsName name → HasLegalNames (rom_module plan name words)
rom_named plan name words is given = record {
  name = given;
  ports = (n.clk0_is, (n.csb0_is, (n.addr0_is, (n.dout0_is, tt))));
  parameters = ((n.data_width_is, small plan.word_size (let a = word_small plan is in omega (arith, a))), ((n.addr_width_is, small plan.addr_bits (let a = addr_small plan is in omega (arith, a))), ((rom_depth_named, n.addr_width_is), tt)));
  declarations = (
    (tt, n.clk0_is),
    ((tt, n.csb0_is), ((n.addr_width_is, n.addr0_is), ((n.data_width_is, n.dout0_is), ((n.data_width_is, n.dout0_is), ((tt, n.csb0_reg_is), ((n.addr_width_is, n.addr0_reg_is), ((n.data_width_is, n.mem_is, rom_depth_named), tt))))))),
  );
  initial = (settings_named plan words is plan.num_words 0 (let few = few_words plan is in omega (arith, few)), tt);
  always = (
    (n.clk0_is, ((n.csb0_reg_is, n.csb0_is), ((n.addr0_reg_is, n.addr0_is), tt))),
    ((n.clk0_is, (((n.csb0_reg_is, tt), (n.dout0_is, (n.mem_is, n.addr0_reg_is))), tt)), tt),
  );
}

-- there is a digit
some_digit : (count number : ℕ) → 1 ≤ count → bytes_eq (hex_digits count number) [] ≡ false
some_digit zero number some = absurd (omega (arith, some))
some_digit (suc count) number some = pushed (hex_digits count (number / 16)) (digit_char (number % 16)) where
  pushed : (xs : List ℕ) (x : ℕ) → bytes_eq (xs ++ x ∷ []) [] ≡ false
  pushed [] x = refl
  pushed (y ∷ xs) x = refl

module _ (plan : Plan) (name words : List ℕ) (is : ArePlanNumbers (numbers_of plan)) (fit : AreWordsFor (organization plan) words) where
  setting_legal : (a : ℕ) → a < num_words (organization plan) → IsLegalSetting (rom_module plan name words) (setting plan words a)
  setting_legal a low =
      let some = is.plan.words in let word = slice_index words a in let fits = word_fits plan words fit a low in record {
        memory = refl;
        size = omega (arith, some);
        digits = some_digit (hex_digit_count plan.word_size) word (omega (arith, some));
        fits = subst (λ (n : ℕ). n < 2 ^ plan.word_size) (sym (digits_are plan.word_size word fits)) fits;
      }

  settings_legal : (count k : ℕ) → k + count ≤ num_words (organization plan) → AllByRecursion (IsLegalSetting (rom_module plan name words)) (map (setting plan words) (range_with_len k count))
  settings_legal zero k low = tt
  settings_legal (suc count) k low = (setting_legal k (omega (arith, low)), settings_legal count (k + 1) (omega (arith, low)))

  pub rom_legal : IsLegal (rom_module plan name words)
  rom_legal = record {
    ports = refl;
    once = refl;
    declared = refl;
    inner = refl;
    outer = refl;
    alike = refl;
    known = refl;
    sized = refl;
    sizes = (word_sized plan is, (addr_sized plan is, (depth_sized plan is, tt)));
    initial = (settings_legal plan.num_words 0 (let all = all_words_are plan is in omega (arith, all)), tt);
    always = ((refl, ((refl, refl), ((refl, refl), tt))), ((refl, (((refl, tt), (refl, (refl, refl))), tt)), tt));
  }
