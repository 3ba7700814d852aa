-- What a memory's module does at the two edges of its clock.
use Rattle.std.proofs.Common.{◌≡◌, ℕ, zero, suc, ◌<◌, List, [], ◌∷◌, ◌++◌, Bool, true, false, cond, nat_lt, Some, codes, length, refl, sym, ap, subst, ◌∙◌, arith, filter, flat_map, IsPermutation, swap}
use Rattle.std.proofs.lemmas.List.Sorted.{IsPermutation-keeps}
use Rattle.sram_plan.specs.declared.numbers.Plan.{Plan}
use Rattle.memory_laws.specs.Run.{MemoryCommand, bit_of}
use Rattle.memory_laws.specs.NumberArray.{number}
use Rattle.verilog_modules.specs.Tree.{Always, Module, Edge, Rising}
use Rattle.verilog_modules.specs.Meaning.{ModuleState, InputBits, Bit, IsEdge, waits_for, updates, updated_all, known_number, with_low, extended}
use Rattle.verilog_laws.specs.Memory.{module_of, rising}
use Rattle.verilog_laws.specs.Runs.{command_inputs}

-- one item has one order
pub one_order : {X : Type 0} (a : X) (order : List X) → IsPermutation (a ∷ []) order → order ≡ a ∷ []
one_order {X} a order p = IsPermutation-keeps (a ∷ []) (λ l. l ≡ a ∷ []) refl step order p where
  at_first : (i j : ℕ) → i < 1 → j < 1 → swap (a ∷ []) i j ≡ a ∷ []
  at_first zero zero h k = refl
  at_first zero (suc j) h k = absurd (omega (arith, k))
  at_first (suc i) j h k = absurd (omega (arith, h))

  step : (l : List X) (i j : ℕ) → i < length l → j < length l → l ≡ a ∷ [] → swap l i j ≡ a ∷ []
  step l i j h k e = ap (λ (m : List X). swap m i j) e ∙ at_first i j (subst (λ (m : List X). i < length m) e h) (subst (λ (m : List X). j < length m) e k)

pub edge_is : (m : Module) (edge : Edge) (inputs : InputBits) (s end : ModuleState) (a : Always) → filter (waits_for edge (codes "clk0")) m.always ≡ a ∷ []
    → IsEdge m edge (codes "clk0") inputs s end → end ≡ updated_all m (updates m inputs s a.body ++ []) s
edge_is m edge inputs s end a only is =
    is.assigned ∙ ap (λ (order : List Always). updated_all m (flat_map (λ (b : Always). updates m inputs s b.body) order) s)
    (one_order a is.order (subst (λ (l : List Always). IsPermutation l is.order) only is.blocks))

pub below_is : (i n : ℕ) → i < n → nat_lt i n ≡ true
below_is i n h = grind (arith, h)

pub extended_is : (n i : ℕ) (f : ℕ → Bit) → i < n → extended n f i ≡ f i
extended_is n i f h = ap (λ (t : Bool). cond t (f i) (Some false)) (below_is i n h)

-- the number of bits that are known
pub known_is : (n : ℕ) (f : ℕ → Bit) (g : ℕ → Bool) → ((i : ℕ) → i < n → f i ≡ Some (g i)) → known_number n f ≡ Some (number g n)
known_is zero f g h = refl
known_is (suc n) f g h = let low = h 0 (omega arith) in λ k. with_low (low k) (known_is n (λ j. f (suc j)) (λ j. g (suc j)) (λ i lt. h (suc i) (omega (arith, lt))) k)

-- what stands in the registers when the clock has risen
pub record HasRisen (masked : Bool) (plan : Plan) (c : MemoryCommand) (s mid : ModuleState) : Type 0 where
  pub csb : mid.regs (codes "csb0_reg") 0 ≡ Some c.csb
  pub web : mid.regs (codes "web0_reg") 0 ≡ Some c.web
  pub wmask : masked ≡ true → (i : ℕ) → i < plan.masks → mid.regs (codes "wmask0_reg") i ≡ Some (c.wmask i)
  pub addr : (i : ℕ) → i < plan.addr_bits → mid.regs (codes "addr0_reg") i ≡ Some (bit_of c.addr i)
  pub din : (i : ℕ) → i < plan.word_size → mid.regs (codes "din0_reg") i ≡ Some (c.din i)
  pub dout : mid.regs (codes "dout0") ≡ s.regs (codes "dout0")
  pub mems : mid.mems ≡ s.mems

-- the latched state
abbrev risen : Bool → Plan → List ℕ → MemoryCommand → ModuleState → ModuleState
risen masked plan name c s = let m = module_of masked plan name in updated_all m (updates m (command_inputs c) s (rising masked).body ++ []) s

has_risen : (masked : Bool) (plan : Plan) (name : List ℕ) (c : MemoryCommand) (s : ModuleState) → HasRisen masked plan c s (risen masked plan name c s)
has_risen true plan name c s = record {
  csb = refl;
  web = refl;
  wmask = λ e i h. extended_is plan.masks i (λ j. Some (c.wmask j)) h;
  addr = λ i h. extended_is plan.addr_bits i (λ j. Some (bit_of c.addr j)) h;
  din = λ i h. extended_is plan.word_size i (λ j. Some (c.din j)) h;
  dout = refl;
  mems = refl;
}
has_risen false plan name c s = record {
  csb = refl;
  web = refl;
  wmask = λ e i h. absurd cc;
  addr = λ i h. extended_is plan.addr_bits i (λ j. Some (bit_of c.addr j)) h;
  din = λ i h. extended_is plan.word_size i (λ j. Some (c.din j)) h;
  dout = refl;
  mems = refl;
}

pub rise_is : (masked : Bool) (plan : Plan) (name : List ℕ) (c : MemoryCommand) (s mid : ModuleState) → IsEdge (module_of masked plan name) Rising (codes "clk0") (command_inputs c) s mid → HasRisen masked plan c s mid
rise_is masked plan name c s mid is =
    subst (λ (end : ModuleState). HasRisen masked plan c s end) (sym (edge_is (module_of masked plan name) Rising (command_inputs c) s mid (rising masked) refl is)) (has_risen masked plan name c s)
