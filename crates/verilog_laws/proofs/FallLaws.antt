-- What a memory's module does where its clock falls.
use Rattle.std.proofs.Common.{◌≡◌, ℕ, ◌+◌, ◌*◌, ◌^◌, ◌<◌, List, [], ◌∷◌, ◌++◌, Bool, true, false, cond, nat_lt, Option, Some, None, codes, refl, sym, ap, subst, ◌∙◌, arith, pow-add}
use Rattle.sram_plan.specs.declared.numbers.Plan.{Plan}
use Rattle.sram_plan.specs.PlanNumbers.{numbers_of, organization}
use Rattle.sram_netlist.specs.Organization.{power_of_two, total_bits}
use Rattle.sram_netlist.specs.Numbers.{ArePlanNumbers}
use Rattle.memory_laws.specs.Run.{MemoryCommand, bit_of, num_words}
use Rattle.memory_laws.proofs.Decode.{twice_power}
use Rattle.memory_laws.proofs.NumberArrayLaws.{number_of_bits}
use Rattle.verilog_modules.specs.Tree.{Falling, Element, Module}
use Rattle.verilog_modules.specs.Meaning.{ModuleState, InputBits, Bit, Update, SetRegister, updates, updated_all, address, word_at, expression_value, where_true, and_bit, or_bit, not_bit}
use Rattle.verilog_laws.specs.Memory.{module_of, write_body, falling}
use Rattle.verilog_laws.specs.Runs.{command_inputs}
use Rattle.verilog_laws.proofs.EdgeLaws.{edge_is, below_is, extended_is, known_is, HasRisen}
use Rattle.verilog_laws.specs.Laws.{PowerUpKeeps}

-- all addresses make a power of two
pub words_are : (plan : Plan) → ArePlanNumbers (numbers_of plan) → num_words (organization plan) ≡ 2 ^ plan.addr_bits
words_are plan is =
    let org = organization plan in
    let a = twice_power org.bank_bits in let b = twice_power (total_bits org.groups) in let c = twice_power org.col_bits in
    let cut = pow-add 2 (org.col_bits + total_bits org.groups) org.bank_bits in let low = pow-add 2 org.col_bits (total_bits org.groups) in
    (λ k. a k * (b k * c k)) ∙ (turned (2 ^ org.bank_bits) (2 ^ total_bits org.groups) (2 ^ org.col_bits) ∙ sym (cut ∙ ap (λ (n : ℕ). n * 2 ^ org.bank_bits) low) ∙ ap (λ (n : ℕ). 2 ^ n) (sym is.addr_bits)) where
      turned : (a b c : ℕ) → a * (b * c) ≡ c * b * a
      turned a b c = omega arith

-- what a falling edge assigns, by the latched csb0 and web0
abbrev pub falls : Bit → Bit → List Update → List Update → List Update
falls csb web write read =
    where_true (and_bit (not_bit (or_bit csb (Some false))) (and_bit (not_bit (or_bit web (Some false))) (Some true))) write
    ++ (where_true (and_bit (not_bit (or_bit csb (Some false))) (and_bit (or_bit web (Some false)) (Some true))) read ++ [])

module _ (masked : Bool) (plan : Plan) (name : List ℕ) (c : MemoryCommand) (mid : ModuleState) where
  abbrev pub m : Module
  m = module_of masked plan name

  abbrev pub writes : List Update
  writes = updates m (command_inputs c) mid (write_body masked plan)

  abbrev pub reads : List Update
  reads = SetRegister (codes "dout0") (expression_value m (command_inputs c) mid (Element (codes "mem") (codes "addr0_reg"))) ∷ []

pub falls_are : (masked : Bool) (plan : Plan) (name : List ℕ) (c : MemoryCommand) (mid : ModuleState)
    → updates (module_of masked plan name) (command_inputs c) mid (falling masked plan).body
    ≡ falls (mid.regs (codes "csb0_reg") 0) (mid.regs (codes "web0_reg") 0) (writes masked plan name c mid) (reads masked plan name c mid)
falls_are true plan name c mid = refl
falls_are false plan name c mid = refl

pub address_is : (masked : Bool) (plan : Plan) (name : List ℕ) (c : MemoryCommand) (s mid : ModuleState) → HasRisen masked plan c s mid → c.addr < power_of_two plan.addr_bits
    → address (module_of masked plan name) (command_inputs c) mid (codes "addr0_reg") ≡ Some c.addr
address_is true plan name c s mid risen h = known_is plan.addr_bits (mid.regs (codes "addr0_reg")) (bit_of c.addr) risen.addr ∙ ap (λ (n : ℕ). Some n) (number_of_bits c.addr plan.addr_bits h)
address_is false plan name c s mid risen h = known_is plan.addr_bits (mid.regs (codes "addr0_reg")) (bit_of c.addr) risen.addr ∙ ap (λ (n : ℕ). Some n) (number_of_bits c.addr plan.addr_bits h)

-- a word that is there, by its number
word_is : (n : ℕ) (word : ℕ → Bit) (a i : ℕ) → a < n → cond (nat_lt a n) (word i) None ≡ word i
word_is n word a i h = ap (λ (t : Bool). cond t (word i) None) (below_is a n h)

-- what is read
pub read_is : (masked : Bool) (plan : Plan) (name : List ℕ) (c : MemoryCommand) (s mid : ModuleState) → HasRisen masked plan c s mid → c.addr < 2 ^ plan.addr_bits → (i : ℕ) → i < plan.word_size
    → expression_value (module_of masked plan name) (command_inputs c) mid (Element (codes "mem") (codes "addr0_reg")) i ≡ s.mems (codes "mem") c.addr i
read_is masked plan name c s mid risen h i few =
    by masked (address_is masked plan name c s mid risen (subst (λ (n : ℕ). c.addr < n) (sym (twice_power plan.addr_bits)) h)) where
      by : (b : Bool) → address (module_of b plan name) (command_inputs c) mid (codes "addr0_reg") ≡ Some c.addr
          → expression_value (module_of b plan name) (command_inputs c) mid (Element (codes "mem") (codes "addr0_reg")) i ≡ s.mems (codes "mem") c.addr i
      by true e =
          extended_is plan.word_size i (word_at (module_of true plan name) mid (codes "mem") (address (module_of true plan name) (command_inputs c) mid (codes "addr0_reg"))) few
          ∙ (ap (λ (x : Option ℕ). word_at (module_of true plan name) mid (codes "mem") x i) e ∙ word_is (2 ^ plan.addr_bits) (mid.mems (codes "mem") c.addr) c.addr i h ∙ ap (λ f. f (codes "mem") c.addr i) risen.mems)
      by false e =
          extended_is plan.word_size i (word_at (module_of false plan name) mid (codes "mem") (address (module_of false plan name) (command_inputs c) mid (codes "addr0_reg"))) few
          ∙ (ap (λ (x : Option ℕ). word_at (module_of false plan name) mid (codes "mem") x i) e ∙ word_is (2 ^ plan.addr_bits) (mid.mems (codes "mem") c.addr) c.addr i h ∙ ap (λ f. f (codes "mem") c.addr i) risen.mems)

-- whatever stands at the inputs, while csb0_reg isn't known nothing is assigned
idle_updates : (masked : Bool) (plan : Plan) (name : List ℕ) (inputs : InputBits) (s : ModuleState) → s.regs (codes "csb0_reg") 0 ≡ None
    → updates (module_of masked plan name) inputs s (falling masked plan).body ≡ []
idle_updates masked plan name inputs s e = by masked where
  none : (web : Bit) (w r : List Update) → falls None web w r ≡ []
  none None w r = refl
  none (Some true) w r = refl
  none (Some false) w r = refl

  by : (b : Bool) → updates (module_of b plan name) inputs s (falling b plan).body ≡ []
  by true =
      let m = module_of true plan name in let w = updates m inputs s (write_body true plan) in let r = SetRegister (codes "dout0") (expression_value m inputs s (Element (codes "mem") (codes "addr0_reg"))) ∷ [] in
      ap (λ (csb : Bit). falls csb (s.regs (codes "web0_reg") 0) w r) e ∙ none (s.regs (codes "web0_reg") 0) w r
  by false =
      let m = module_of false plan name in let w = updates m inputs s (write_body false plan) in let r = SetRegister (codes "dout0") (expression_value m inputs s (Element (codes "mem") (codes "addr0_reg"))) ∷ [] in
      ap (λ (csb : Bit). falls csb (s.regs (codes "web0_reg") 0) w r) e ∙ none (s.regs (codes "web0_reg") 0) w r

pub power_up_keeps : PowerUpKeeps
power_up_keeps plan name inputs s end e fall =
    let b = nat_lt 0 plan.masks in let m = module_of b plan name in
    edge_is m Falling inputs s end (falling b plan) refl fall ∙ ap (λ (us : List Update). updated_all m (us ++ []) s) (idle_updates b plan name inputs s e)
