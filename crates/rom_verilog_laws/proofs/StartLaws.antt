-- A read-only memory starts with its words.
use Rattle.std.proofs.Common.{◌≡◌, ℕ, zero, suc, ◌+◌, ◌-◌, ◌*◌, ◌^◌, ◌<◌, ◌≤◌, List, map, Bool, true, false, cond, ◌&&◌, nat_lt, nat_le, nat_eq, Some, codes, refl, sym, ap, subst, ◌∙◌, arith, eqb-true, eq-eqb, le-leb, lt-ltb, pow-add, flat_map}
use Rattle.std.specs.Prelude.{slice_index}
use Rattle.std.specs.List.{range_with_len}
use Rattle.std.specs.Str.Parse.{digits_value}
use Rattle.std.proofs.Math.Nat.{pow-le-pow_right, pow-suc}
use Rattle.std.proofs.lemmas.List.{append-nil}
use Rattle.sram_netlist.specs.Numbers.{ArePlanNumbers}
use Rattle.sram_netlist.specs.Organization.{total_bits}
use Rattle.sram_plan.specs.declared.numbers.Plan.{Plan}
use Rattle.sram_plan.specs.PlanNumbers.{numbers_of, organization}
use Rattle.memory_laws.specs.Run.{bit_of, num_words}
use Rattle.memory_laws.proofs.Decode.{twice_power}
use Rattle.rom_laws.specs.RomRun.{AreWordsFor}
use Rattle.rom_data.specs.Hex.{hex_digit_count, hex_digits}
use Rattle.rom_data.proofs.HexLaws.{digits_value-hex_digits}
use Rattle.verilog_modules.specs.Tree.{Module, Setting}
use Rattle.verilog_modules.specs.Meaning.{ModuleState, constant, set_one, set_all, unset}
use Rattle.verilog_modules.proofs.EdgeLaws.{modules_start}
use Rattle.verilog_laws.proofs.EdgeLaws.{one_order, below_is}
use Rattle.verilog_laws.proofs.FallLaws.{words_are}
use Rattle.verilog_laws.proofs.LegalLaws.{addr_low}
use Rattle.rom_verilog_laws.specs.Rom.{setting, settings, rom_module}
use Rattle.rom_verilog_laws.specs.Laws.{RomsStart}

-- so many hexadecimal digits are enough
enough : (w : ℕ) → 2 ^ w ≤ 16 ^ hex_digit_count w
enough w = subst (λ (n : ℕ). 2 ^ w ≤ n) (sym (sixteen (hex_digit_count w))) (pow-le-pow_right {n = 2} (omega arith) (omega arith)) where
  sixteen : (n : ℕ) → 16 ^ n ≡ 2 ^ (4 * n)
  sixteen zero = refl
  sixteen (suc n) = pow-suc 16 n ∙ (ap (λ (k : ℕ). k * 16) (sixteen n) ∙ (sym (pow-add 2 (4 * n) 4) ∙ ap (λ (k : ℕ). 2 ^ k) (omega arith)))

-- the digits write the word
pub digits_are : (w word : ℕ) → word < 2 ^ w → digits_value 16 (hex_digits (hex_digit_count w) word) ≡ word
digits_are w word fits = let most = enough w in digits_value-hex_digits (hex_digit_count w) word (omega (arith, fits, most))

-- a constant has the bits of its word
constant_is : (w word i : ℕ) → word < 2 ^ w → i < w → constant w (hex_digits (hex_digit_count w) word) i ≡ Some (bit_of word i)
constant_is w word i fits few =
    (λ k. Some (below_is i w few k && bit_of (digits_value 16 (hex_digits (hex_digit_count w) word)) i))
    ∙ ap (λ (n : ℕ). Some (bit_of n i)) (digits_are w word fits)

module _ (plan : Plan) (name words : List ℕ) where
  abbrev m : Module
  m = rom_module plan name words

  abbrev digits : ℕ → List ℕ
  digits a = hex_digits (hex_digit_count plan.word_size) (slice_index words a)

  -- one setting
  set_other : (k a i : ℕ) (s : ModuleState) → nat_eq a k ≡ false → (set_one m (setting plan words k) s).mems (codes "mem") a i ≡ s.mems (codes "mem") a i
  set_other k a i s other = ap (λ (b : Bool). cond (b && (nat_le 0 i && nat_lt i (0 + plan.word_size))) (constant plan.word_size (digits k) (i - 0)) (s.mems (codes "mem") a i)) other

  set_here : (k a i : ℕ) (s : ModuleState) → nat_eq a k ≡ true → i < plan.word_size → (set_one m (setting plan words k) s).mems (codes "mem") a i ≡ constant plan.word_size (digits k) i
  set_here k a i s here few =
      (λ j. cond (here j && (le-leb 0 i (omega arith) j && lt-ltb i (0 + plan.word_size) (omega (arith, few)) j)) (constant plan.word_size (digits k) (i - 0)) (s.mems (codes "mem") a i))
      ∙ ap (λ (j : ℕ). constant plan.word_size (digits k) j) (omega arith)

  -- settings of later addresses
  later : (n k a i : ℕ) (s : ModuleState) → a < k → (set_all m (map (setting plan words) (range_with_len k n)) s).mems (codes "mem") a i ≡ s.mems (codes "mem") a i
  later zero k a i s low = refl
  later (suc n) k a i s low =
      later n (k + 1) a i (set_one m (setting plan words k) s) (omega (arith, low)) ∙ set_other k a i s (by (nat_eq a k) refl) where
        by : (b : Bool) → nat_eq a k ≡ b → nat_eq a k ≡ false
        by false e = e
        by true e = absurd (let same = eqb-true a k e in omega (arith, low, same))

  -- all settings from k on
  all_set : (n k a i : ℕ) (s : ModuleState) → k ≤ a → a < k + n → i < plan.word_size → (set_all m (map (setting plan words) (range_with_len k n)) s).mems (codes "mem") a i ≡ constant plan.word_size (digits a) i
  all_set zero k a i s low high few = absurd (omega (arith, low, high))
  all_set (suc n) k a i s low high few = by (nat_eq a k) refl (λ more. all_set n (k + 1) a i (set_one m (setting plan words k) s) more (omega (arith, high)) few) where
    by : (b : Bool) → nat_eq a k ≡ b → (k + 1 ≤ a → (set_all m (map (setting plan words) (range_with_len (k + 1) n)) (set_one m (setting plan words k) s)).mems (codes "mem") a i ≡ constant plan.word_size (digits a) i)
        → (set_all m (map (setting plan words) (range_with_len (k + 1) n)) (set_one m (setting plan words k) s)).mems (codes "mem") a i ≡ constant plan.word_size (digits a) i
    by true e rest =
        let same : a ≡ k = eqb-true a k e in
        later n (k + 1) a i (set_one m (setting plan words k) s) (omega (arith, same)) ∙ (set_here k a i s e few ∙ ap (λ (j : ℕ). constant plan.word_size (digits j) i) (sym same))
    by false e rest = let other : a ≡ k → ⊥ = λ g. (let h = eq-eqb a k g in absurd cc) in rest (omega (arith, low, other))

pub all_words_are : (plan : Plan) → ArePlanNumbers (numbers_of plan) → plan.num_words ≡ num_words (organization plan)
all_words_are plan is =
    let org = organization plan in
    let banks = is.banks ∙ sym (twice_power org.bank_bits) in let rows = is.rows ∙ sym (twice_power (total_bits org.groups)) in let words = is.wpr ∙ sym (twice_power org.col_bits) in
    is.words ∙ (λ i. banks i * (rows i * words i))

pub few_words : (plan : Plan) → ArePlanNumbers (numbers_of plan) → plan.num_words ≤ 8192
few_words plan is =
    subst (λ (n : ℕ). n ≤ 8192) (sym (all_words_are plan is ∙ words_are plan is)) (pow-le-pow_right {n = 2} (omega arith) {i = plan.addr_bits} {j = 13} (addr_low plan is).1)

-- each word has so many bits
pub word_fits : (plan : Plan) (words : List ℕ) → AreWordsFor (organization plan) words → (a : ℕ) → a < num_words (organization plan) → slice_index words a < 2 ^ plan.word_size
word_fits plan words fit a low = subst (λ (n : ℕ). slice_index words a < n) (twice_power plan.word_size) (fit.fit a low)

pub roms_start : RomsStart
roms_start plan name words is fit = record {
  some = modules_start (rom_module plan name words);
  each = λ s start a i low few.
      let m = rom_module plan name words in
      let one = one_order (settings plan words) start.order start.blocks in
      let done = start.set ∙ (ap (λ (order : List (List Setting)). set_all m (flat_map (λ x. x) order) unset) one ∙ ap (λ (l : List Setting). set_all m l unset) (append-nil (settings plan words))) in
      ap (λ (t : ModuleState). t.mems (codes "mem") a i) done
      ∙ (all_set plan name words plan.num_words 0 a i unset (omega arith) (subst (λ (n : ℕ). a < n) (all_words_are plan is ∙ zero_first (num_words (organization plan)) ∙ ap (λ (n : ℕ). 0 + n) (sym (all_words_are plan is))) (subst (λ (n : ℕ). a < n) (sym (all_words_are plan is)) low)) few
      ∙ constant_is plan.word_size (slice_index words a) i (word_fits plan words fit a low) few);
} where
  zero_first : (n : ℕ) → n ≡ 0 + n
  zero_first n = omega arith
