-- A command of a memory's module is one of the array of words.
use Rattle.std.proofs.Common.{◌≡◌, ◌⊎◌, inl, inr, ℕ, zero, suc, ◌+◌, ◌-◌, ◌*◌, ◌/◌, ◌^◌, ◌<◌, List, [], ◌∷◌, ◌++◌, Bool, true, false, cond, ◌&&◌, nat_lt, nat_eq, nat_le, Option, Some, codes, refl, sym, ap, subst, ◌∙◌, arith, filter, lt-ltb, le-leb}
use Rattle.std.proofs.lemmas.Nat.{div_below}
use Rattle.sram_plan.specs.declared.numbers.Plan.{Plan}
use Rattle.sram_plan.specs.PlanNumbers.{numbers_of, organization}
use Rattle.sram_netlist.specs.Organization.{Organization}
use Rattle.sram_netlist.specs.Numbers.{ArePlanNumbers}
use Rattle.memory_laws.specs.Run.{MemoryCommand, Words, num_words, words_after, is_masked_in, words_after_all, AreInRange}
use Rattle.memory_laws.proofs.Decode.{twice_power}
use Rattle.verilog_modules.specs.Tree.{Whole, Module, Falling}
use Rattle.verilog_modules.specs.Meaning.{ModuleState, Bit, Update, SetWord, IsEdge, updated_all, address, expression_value, waits_for}
use Rattle.verilog_laws.specs.Memory.{module_of, falling}
use Rattle.verilog_laws.specs.Runs.{command_inputs, IsModuleCycle, IsModuleRun}
use Rattle.verilog_laws.specs.Laws.{MemoriesAnswer, StepsCommand, CommandsStep}
use Rattle.verilog_laws.specs.Behaviour.{HasWords, AnswersCommand, AnswersCommands}
use Rattle.verilog_laws.proofs.EdgeLaws.{extended_is, edge_is, HasRisen, rise_is}
use Rattle.verilog_laws.proofs.FallLaws.{words_are, falls, writes, reads, falls_are, address_is, read_is}
use Rattle.verilog_laws.proofs.WriteLaws.{updates_append, all_parts, regs_all, met}

both : (a b : Bool) → a ≡ true → b ≡ true → (a && b) ≡ true
both true b e f = f
both false b e f = absurd cc

-- a state in which a command's write is done
record IsWrite (plan : Plan) (c : MemoryCommand) (mid new : ModuleState) : Type 0 where
  pub regs : new.regs ≡ mid.regs
  pub words : (a i : ℕ) → i < plan.word_size → new.mems (codes "mem") a i ≡ cond (nat_eq a c.addr && is_masked_in plan.masks plan.write_size c i) (Some (c.din i)) (mid.mems (codes "mem") a i)

masked_bit : (masks z : ℕ) (c : MemoryCommand) (i : ℕ) → nat_lt 0 masks ≡ true → is_masked_in masks z c i ≡ c.wmask (i / z)
masked_bit zero z c i e = absurd cc
masked_bit (suc k) z c i e = refl

whole_bit : (masks z : ℕ) (c : MemoryCommand) (i : ℕ) → nat_lt 0 masks ≡ false → is_masked_in masks z c i ≡ true
whole_bit zero z c i e = refl
whole_bit (suc k) z c i e = absurd (let f = lt-ltb 0 (suc k) (omega arith) in cc)

parts_make : (plan : Plan) → ArePlanNumbers (numbers_of plan) → nat_lt 0 plan.masks ≡ true → plan.masks * plan.write_size ≡ plan.word_size
parts_make plan is e = by is.plan.masks where
  by : (plan.masks ≡ 0) ⊎ ((0 < plan.write_size) × (plan.masks * plan.write_size ≡ plan.word_size)) → plan.masks * plan.write_size ≡ plan.word_size
  by (inl none) = absurd (let f : nat_lt 0 0 ≡ true = subst (λ (n : ℕ). nat_lt 0 n ≡ true) none e in cc)
  by (inr parts) = parts.1

write_is : (masked : Bool) (plan : Plan) (name : List ℕ) (c : MemoryCommand) (s mid : ModuleState) → nat_lt 0 plan.masks ≡ masked → ArePlanNumbers (numbers_of plan) → 0 < plan.write_size
    → HasRisen masked plan c s mid → address (module_of masked plan name) (command_inputs c) mid (codes "addr0_reg") ≡ Some c.addr
    → IsWrite plan c mid (updated_all (module_of masked plan name) (writes masked plan name c mid) mid)
write_is true plan name c s mid e is some risen known = record {
  regs = regs_all plan name c s mid risen known some plan.masks 0 mid (omega arith);
  words = λ a i few.
      all_parts plan name c s mid risen known some plan.masks 0 mid a i (omega arith) few
      ∙ (met (nat_eq a c.addr) c.wmask plan.masks 0 (i / plan.write_size) (Some (c.din i)) (mid.mems (codes "mem") a i) (omega arith)
      (let h = div_below i plan.write_size plan.masks some (subst (λ (n : ℕ). i < n) (sym (parts_make plan is e)) few) in omega (arith, h))
      ∙ ap (λ (b : Bool). cond (nat_eq a c.addr && b) (Some (c.din i)) (mid.mems (codes "mem") a i)) (sym (masked_bit plan.masks plan.write_size c i e)));
}
write_is false plan name c s mid e is some risen known = record {
  regs = ap (λ (x : Option ℕ). (updated_all (module_of false plan name) (SetWord (codes "mem") x v ∷ []) mid).regs) known;
  words = λ a i few.
      ap (λ (x : Option ℕ). (updated_all (module_of false plan name) (SetWord (codes "mem") x v ∷ []) mid).mems (codes "mem") a i) known
      ∙ (placed (nat_eq a c.addr) a i few
      ∙ ap (λ (b : Bool). cond (nat_eq a c.addr && b) (Some (c.din i)) (mid.mems (codes "mem") a i)) (sym (whole_bit plan.masks plan.write_size c i e)));
} where
  v : ℕ → Bit
  v = expression_value (module_of false plan name) (command_inputs c) mid (Whole (codes "din0_reg"))

  inside : (i : ℕ) → i < plan.word_size → (nat_le 0 i && nat_lt i (0 + plan.word_size)) ≡ true
  inside i few = both (nat_le 0 i) (nat_lt i (0 + plan.word_size)) (le-leb 0 i (omega arith)) (lt-ltb i (0 + plan.word_size) (omega (arith, few)))

  bit : (i : ℕ) → i < plan.word_size → v (i - 0) ≡ Some (c.din i)
  bit i few = ap (λ (j : ℕ). v j) (omega arith) ∙ (extended_is plan.word_size i (mid.regs (codes "din0_reg")) few ∙ risen.din i few)

  placed : (here : Bool) (a i : ℕ) → i < plan.word_size → cond (here && (nat_le 0 i && nat_lt i (0 + plan.word_size))) (v (i - 0)) (mid.mems (codes "mem") a i) ≡ cond (here && true) (Some (c.din i)) (mid.mems (codes "mem") a i)
  placed false a i few = refl
  placed true a i few = ap (λ (b : Bool). cond b (v (i - 0)) (mid.mems (codes "mem") a i)) (inside i few) ∙ bit i few

-- a whole command
module _ (masked : Bool) (plan : Plan) (name : List ℕ) (masks : nat_lt 0 plan.masks ≡ masked) (is : ArePlanNumbers (numbers_of plan)) (some : 0 < plan.write_size) where
  abbrev m : Module
  m = module_of masked plan name

  abbrev org : Organization
  org = organization plan

  -- what is left of an array's command
  record IsAnswered (c : MemoryCommand) (words : Words) (s end : ModuleState) : Type 0 where
    pub answers : AnswersCommand org c words s end
    pub holds : HasWords org end (words_after org c words)

  falling_only : filter (waits_for Falling (codes "clk0")) (module_of masked plan name).always ≡ falling masked plan ∷ []
  falling_only = refl

  -- after the clock has fallen, by the latched csb0 and web0
  fallen : (c : MemoryCommand) (s mid end : ModuleState) → HasRisen masked plan c s mid → IsEdge m Falling (codes "clk0") (command_inputs c) mid end
      → end ≡ updated_all m (falls (Some c.csb) (Some c.web) (writes masked plan name c mid) (reads masked plan name c mid) ++ []) mid
  fallen c s mid end risen fall =
      let w = writes masked plan name c mid in let r = reads masked plan name c mid in
      edge_is m Falling (command_inputs c) mid end (falling masked plan) falling_only fall
      ∙ (ap (λ (us : List Update). updated_all m (us ++ []) mid) (falls_are masked plan name c mid)
      ∙ (λ k. updated_all m (falls (risen.csb k) (risen.web k) w r ++ []) mid))

  address_below : (c : MemoryCommand) → c.addr < num_words org → c.addr < 2 ^ plan.addr_bits
  address_below c h = subst (λ (n : ℕ). c.addr < n) (words_are plan is) h

  known : (c : MemoryCommand) (s mid : ModuleState) → HasRisen masked plan c s mid → c.addr < num_words org → address m (command_inputs c) mid (codes "addr0_reg") ≡ Some c.addr
  known c s mid risen h = address_is masked plan name c s mid risen (subst (λ (n : ℕ). c.addr < n) (sym (twice_power plan.addr_bits)) (address_below c h))

  same_mems : (x y : ModuleState) → x.mems ≡ y.mems → (a i : ℕ) → x.mems (codes "mem") a i ≡ y.mems (codes "mem") a i
  same_mems x y e a i = ap (λ f. f (codes "mem") a i) e

  some_if : (b x y : Bool) → cond b (Some x) (Some y) ≡ Some (cond b x y)
  some_if true x y = refl
  some_if false x y = refl

  -- by the bits of the command
  answered : (csb web : Bool) (wmask : ℕ → Bool) (addr : ℕ) (din : ℕ → Bool) (words : Words) (s mid end : ModuleState) → let c : MemoryCommand = record { csb = csb; web = web; wmask = wmask; addr = addr; din = din } in
      HasRisen masked plan c s mid → addr < num_words org → HasWords org s words
      → end ≡ updated_all m (falls (Some csb) (Some web) (writes masked plan name c mid) (reads masked plan name c mid) ++ []) mid → IsAnswered c words s end
  answered true web wmask addr din words s mid end risen h has e = record {
    answers = record { read = λ f g i few. absurd cc; kept = λ idle. ap (λ (t : ModuleState). t.regs (codes "dout0")) e ∙ risen.dout };
    holds = λ a i lt few. ap (λ (t : ModuleState). t.mems (codes "mem") a i) e ∙ (same_mems mid s risen.mems a i ∙ has a i lt few);
  }
  answered false true wmask addr din words s mid end risen h has e =
      let c : MemoryCommand = record { csb = false; web = true; wmask = wmask; addr = addr; din = din } in record {
        answers = record {
          read = λ f g i few. ap (λ (t : ModuleState). t.regs (codes "dout0") i) e ∙ (read_is masked plan name c s mid risen (address_below c h) i few ∙ has addr i h few);
          kept = elim [ inl f ↦ absurd cc | inr f ↦ absurd cc ];
        };
        holds = λ a i lt few. ap (λ (t : ModuleState). t.mems (codes "mem") a i) e ∙ (same_mems mid s risen.mems a i ∙ has a i lt few);
      }
  answered false false wmask addr din words s mid end risen h has e =
      let c : MemoryCommand = record { csb = false; web = false; wmask = wmask; addr = addr; din = din } in
      let us = writes masked plan name c mid in
      let only : end ≡ updated_all m us mid = e ∙ (updates_append m (us ++ []) [] mid ∙ updates_append m us [] mid) in
      let w = write_is masked plan name c s mid masks is some risen (known c s mid risen h) in record {
        answers = record { read = λ f g i few. absurd cc; kept = λ idle. ap (λ (t : ModuleState). t.regs (codes "dout0")) only ∙ (ap (λ f. f (codes "dout0")) w.regs ∙ risen.dout) };
        holds = λ a i lt few.
            ap (λ (t : ModuleState). t.mems (codes "mem") a i) only
            ∙ (w.words a i few
            ∙ (ap (λ (old : Bit). cond (nat_eq a addr && is_masked_in plan.masks plan.write_size c i) (Some (din i)) old) (same_mems mid s risen.mems a i ∙ has a i lt few)
            ∙ some_if (nat_eq a addr && is_masked_in plan.masks plan.write_size c i) (din i) (words a i)));
      }

  -- the same from any state, by the bits of the command
  stepped : (csb web : Bool) (wmask : ℕ → Bool) (addr : ℕ) (din : ℕ → Bool) (s mid end : ModuleState) → let c : MemoryCommand = record { csb = csb; web = web; wmask = wmask; addr = addr; din = din } in
      HasRisen masked plan c s mid → addr < num_words org
      → end ≡ updated_all m (falls (Some csb) (Some web) (writes masked plan name c mid) (reads masked plan name c mid) ++ []) mid → StepsCommand org c s end
  stepped true web wmask addr din s mid end risen h e = record {
    read = λ f g i few. absurd cc;
    kept = λ idle. ap (λ (t : ModuleState). t.regs (codes "dout0")) e ∙ risen.dout;
    mem = λ a i few. ap (λ (t : ModuleState). t.mems (codes "mem") a i) e ∙ same_mems mid s risen.mems a i;
  }
  stepped false true wmask addr din s mid end risen h e =
      let c : MemoryCommand = record { csb = false; web = true; wmask = wmask; addr = addr; din = din } in record {
        read = λ f g i few. ap (λ (t : ModuleState). t.regs (codes "dout0") i) e ∙ read_is masked plan name c s mid risen (address_below c h) i few;
        kept = elim [ inl f ↦ absurd cc | inr f ↦ absurd cc ];
        mem = λ a i few. ap (λ (t : ModuleState). t.mems (codes "mem") a i) e ∙ same_mems mid s risen.mems a i;
      }
  stepped false false wmask addr din s mid end risen h e =
      let c : MemoryCommand = record { csb = false; web = false; wmask = wmask; addr = addr; din = din } in
      let us = writes masked plan name c mid in
      let only : end ≡ updated_all m us mid = e ∙ (updates_append m (us ++ []) [] mid ∙ updates_append m us [] mid) in
      let w = write_is masked plan name c s mid masks is some risen (known c s mid risen h) in record {
        read = λ f g i few. absurd cc;
        kept = λ idle. ap (λ (t : ModuleState). t.regs (codes "dout0")) only ∙ (ap (λ f. f (codes "dout0")) w.regs ∙ risen.dout);
        mem = λ a i few.
            ap (λ (t : ModuleState). t.mems (codes "mem") a i) only
            ∙ (w.words a i few ∙ ap (λ (old : Bit). cond (nat_eq a addr && is_masked_in plan.masks plan.write_size c i) (Some (din i)) old) (same_mems mid s risen.mems a i));
      }

  step_is : (c : MemoryCommand) (s end : ModuleState) → c.addr < num_words org → IsModuleCycle m s c end → StepsCommand org c s end
  step_is c s end h run =
      let risen = rise_is masked plan name c s run.mid run.rise in
      stepped c.csb c.web c.wmask c.addr c.din s run.mid end risen h (fallen c s run.mid end risen run.fall)

  cycle_is : (c : MemoryCommand) (words : Words) (s end : ModuleState) → c.addr < num_words org → HasWords org s words → IsModuleCycle m s c end → IsAnswered c words s end
  cycle_is c words s end h has run =
      let risen = rise_is masked plan name c s run.mid run.rise in
      answered c.csb c.web c.wmask c.addr c.din words s run.mid end risen h has (fallen c s run.mid end risen run.fall)

  run_is : (cs : List MemoryCommand) (words : Words) (s : ModuleState) (ends : List ModuleState) (end : ModuleState) → AreInRange org cs → HasWords org s words
      → IsModuleRun m s cs ends end → AnswersCommands org cs words s ends × HasWords org end (words_after_all org cs words)
  run_is [] words s ends end range has run = (tt, subst (λ (t : ModuleState). HasWords org t words) (sym run.1) has)
  run_is (c ∷ cs) words s [] end range has run = absurd run
  run_is (c ∷ cs) words s (e ∷ ends) end range has run =
      let one = cycle_is c words s e range.0 has run.0 in
      let rest = run_is cs (words_after org c words) e ends end range.1 one.holds run.1 in
      ((one.answers, rest.0), rest.1)

pub memories_answer : MemoriesAnswer
memories_answer plan name is some s words cs ends end range has run = run_is (nat_lt 0 plan.masks) plan name refl is some cs words s ends end range has run

pub commands_step : CommandsStep
commands_step plan name s c end is some h run = step_is (nat_lt 0 plan.masks) plan name refl is some c s end h run
