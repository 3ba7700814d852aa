-- Runs of a read-only memory's module answer with its words.
use Rattle.std.proofs.Common.{◌≡◌, inl, inr, ℕ, ◌^◌, ◌<◌, List, [], ◌∷◌, ◌++◌, Bool, true, false, cond, nat_lt, Option, Some, None, codes, map, refl, sym, ap, subst, ◌∙◌}
use Rattle.sram_plan.specs.declared.numbers.Plan.{Plan}
use Rattle.sram_plan.specs.PlanNumbers.{numbers_of, organization}
use Rattle.sram_netlist.specs.Organization.{Organization}
use Rattle.sram_netlist.specs.Numbers.{ArePlanNumbers}
use Rattle.memory_laws.specs.Run.{MemoryCommand, bit_of, Words, num_words, words_after}
use Rattle.memory_laws.proofs.Decode.{twice_power}
use Rattle.memory_laws.proofs.NumberArrayLaws.{number_of_bits}
use Rattle.verilog_modules.specs.Tree.{Element, Module, Rising, Falling}
use Rattle.verilog_modules.specs.Meaning.{ModuleState, Bit, Update, SetRegister, IsEdge, updates, updated_all, address, word_at, expression_value, where_true, and_bit, or_bit, not_bit}
use Rattle.verilog_laws.specs.Runs.{command_inputs, IsModuleRun}
use Rattle.verilog_laws.specs.Behaviour.{HasWords, AnswersCommand, AnswersCommands}
use Rattle.rom_laws.specs.RomRun.{RomCommand, read_command, HaveRomAddresses}
use Rattle.rom_verilog_laws.specs.Rom.{rom_module, rom_rising, rom_falling}
use Rattle.verilog_laws.proofs.EdgeLaws.{below_is, extended_is, known_is, edge_is}
use Rattle.verilog_laws.proofs.FallLaws.{words_are}

-- a read changes no word
pub same_words : (org : Organization) (csb : Bool) (addr : ℕ) (words : Words) → words_after org (read_command (record { csb = csb; addr = addr })) words ≡ words
same_words org true addr words = refl
same_words org false addr words = refl

module _ (plan : Plan) (name content : List ℕ) (is : ArePlanNumbers (numbers_of plan)) where
  abbrev m : Module
  m = rom_module plan name content

  abbrev command : Bool → ℕ → MemoryCommand
  command csb addr = read_command (record { csb = csb; addr = addr })

  abbrev org : Organization
  org = organization plan

  record HasLatched (c : MemoryCommand) (s mid : ModuleState) : Type 0 where
    pub csb : mid.regs (codes "csb0_reg") 0 ≡ Some c.csb
    pub addr : (i : ℕ) → i < plan.addr_bits → mid.regs (codes "addr0_reg") i ≡ Some (bit_of c.addr i)
    pub dout : mid.regs (codes "dout0") ≡ s.regs (codes "dout0")
    pub mems : mid.mems ≡ s.mems

  latched : (c : MemoryCommand) (s : ModuleState) → HasLatched c s (updated_all m (updates m (command_inputs c) s rom_rising.body ++ []) s)
  latched c s = record { csb = refl; addr = λ i h. extended_is plan.addr_bits i (λ j. Some (bit_of c.addr j)) h; dout = refl; mems = refl }

  rise_is : (c : MemoryCommand) (s mid : ModuleState) → IsEdge m Rising (codes "clk0") (command_inputs c) s mid → HasLatched c s mid
  rise_is c s mid rise = subst (λ (t : ModuleState). HasLatched c s t) (sym (edge_is m Rising (command_inputs c) s mid rom_rising refl rise)) (latched c s)

  abbrev reads : MemoryCommand → ModuleState → List Update
  reads c mid = SetRegister (codes "dout0") (expression_value m (command_inputs c) mid (Element (codes "mem") (codes "addr0_reg"))) ∷ []

  abbrev fallen : Bit → MemoryCommand → ModuleState → ModuleState
  fallen csb c mid = updated_all m (where_true (and_bit (not_bit (or_bit csb (Some false))) (Some true)) (reads c mid) ++ [] ++ []) mid

  fall_is : (c : MemoryCommand) (s mid end : ModuleState) → HasLatched c s mid → IsEdge m Falling (codes "clk0") (command_inputs c) mid end → end ≡ fallen (Some c.csb) c mid
  fall_is c s mid end h fall = edge_is m Falling (command_inputs c) mid end rom_falling refl fall ∙ ap (λ (b : Bit). fallen b c mid) h.csb

  word_is : (n : ℕ) (word : ℕ → Bit) (a i : ℕ) → a < n → cond (nat_lt a n) (word i) None ≡ word i
  word_is n word a i h = ap (λ (t : Bool). cond t (word i) None) (below_is a n h)

  read_is : (c : MemoryCommand) (s mid : ModuleState) → HasLatched c s mid → c.addr < num_words org → (i : ℕ) → i < plan.word_size
      → expression_value m (command_inputs c) mid (Element (codes "mem") (codes "addr0_reg")) i ≡ s.mems (codes "mem") c.addr i
  read_is c s mid h lt i few =
      let below : c.addr < 2 ^ plan.addr_bits = subst (λ (n : ℕ). c.addr < n) (words_are plan is) lt in
      let known : address m (command_inputs c) mid (codes "addr0_reg") ≡ Some c.addr =
      known_is plan.addr_bits (mid.regs (codes "addr0_reg")) (bit_of c.addr) h.addr
      ∙ ap (λ (n : ℕ). Some n) (number_of_bits c.addr plan.addr_bits (subst (λ (n : ℕ). c.addr < n) (sym (twice_power plan.addr_bits)) below)) in
      extended_is plan.word_size i (word_at m mid (codes "mem") (address m (command_inputs c) mid (codes "addr0_reg"))) few
      ∙ (ap (λ (x : Option ℕ). word_at m mid (codes "mem") x i) known ∙ word_is (2 ^ plan.addr_bits) (mid.mems (codes "mem") c.addr) c.addr i below ∙ ap (λ f. f (codes "mem") c.addr i) h.mems)

  record IsRead (c : MemoryCommand) (words : Words) (s end : ModuleState) : Type 0 where
    pub answers : AnswersCommand org c words s end
    pub holds : HasWords org end words

  answered : (csb : Bool) (addr : ℕ) (words : Words) (s mid end : ModuleState) → HasLatched (command csb addr) s mid → addr < num_words org → HasWords org s words
      → end ≡ fallen (Some csb) (command csb addr) mid → IsRead (command csb addr) words s end
  answered true addr words s mid end h lt has e = record {
    answers = record { read = λ f g i few. absurd cc; kept = λ idle. ap (λ (t : ModuleState). t.regs (codes "dout0")) e ∙ h.dout };
    holds = λ a i l few. ap (λ (t : ModuleState). t.mems (codes "mem") a i) e ∙ (ap (λ f. f (codes "mem") a i) h.mems ∙ has a i l few);
  }
  answered false addr words s mid end h lt has e = record {
    answers = record {
      read = λ f g i few. ap (λ (t : ModuleState). t.regs (codes "dout0") i) e ∙ (read_is (command false addr) s mid h lt i few ∙ has addr i lt few);
      kept = elim [ inl f ↦ absurd cc | inr f ↦ absurd cc ];
    };
    holds = λ a i l few. ap (λ (t : ModuleState). t.mems (codes "mem") a i) e ∙ (ap (λ f. f (codes "mem") a i) h.mems ∙ has a i l few);
  }

  pub run_is : (cs : List RomCommand) (words : Words) (s : ModuleState) (ends : List ModuleState) (end : ModuleState) → HaveRomAddresses org cs → HasWords org s words
      → IsModuleRun m s (map read_command cs) ends end → AnswersCommands org (map read_command cs) words s ends × HasWords org end words
  run_is [] words s ends end range has run = (tt, subst (λ (t : ModuleState). HasWords org t words) (sym run.1) has)
  run_is (c ∷ cs) words s [] end range has run = absurd run
  run_is (c ∷ cs) words s (e ∷ ends) end range has run =
      let h = rise_is (read_command c) s run.0.mid run.0.rise in
      let one = answered c.csb c.addr words s run.0.mid e h range.0 has (fall_is (read_command c) s run.0.mid e h run.0.fall) in
      let rest = run_is cs words e ends end range.1 one.holds run.1 in
      ((one.answers, subst (λ (w : Words). AnswersCommands org (map read_command cs) w e ends) (sym (same_words org c.csb c.addr words)) rest.0), rest.1)
