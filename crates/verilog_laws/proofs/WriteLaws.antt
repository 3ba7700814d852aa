-- What a write leaves in the memory.
use Rattle.std.proofs.Common.{◌≡◌, ℕ, zero, suc, ◌+◌, ◌-◌, ◌*◌, ◌/◌, ◌%◌, ◌<◌, ◌≤◌, List, [], ◌∷◌, ◌++◌, Bool, true, false, cond, ◌&&◌, nat_lt, nat_eq, nat_le, Option, Some, None, codes, refl, sym, ap, subst, ◌∙◌, arith, ltb-true, lt-ltb, leb-true, le-leb, eqb-true, eq-eqb}
use Rattle.std.specs.List.{range_with_len}
use Rattle.std.proofs.lemmas.Nat.{div-add-mod', mod_below, div_below, le-div}
use Rattle.sram_plan.specs.declared.numbers.Plan.{Plan}
use Rattle.memory_laws.specs.Run.{MemoryCommand}
use Rattle.verilog_modules.specs.Tree.{Module, PartOf}
use Rattle.verilog_modules.specs.Meaning.{ModuleState, Bit, Update, SetPart, updates, body_updates, updated, updated_all, within, address, expression_value, where_true, and_bit, or_bit}
use Rattle.verilog_laws.specs.Memory.{module_of, part_write, part_writes}
use Rattle.verilog_laws.specs.Runs.{command_inputs}
use Rattle.verilog_laws.proofs.EdgeLaws.{below_is, extended_is, HasRisen}

pub updates_append : (m : Module) (us vs : List Update) (s : ModuleState) → updated_all m (us ++ vs) s ≡ updated_all m vs (updated_all m us s)
updates_append m [] vs s = refl
updates_append m (u ∷ us) vs s = updates_append m us vs (updated m u s)

within_is : (n i : ℕ) (f : ℕ → Bit) → i < n → within n f i ≡ f i
within_is n i f h = ap (λ (t : Bool). cond t (f i) None) (below_is i n h)

-- Where a word's bit lies

inside : ℕ → ℕ → ℕ → Bool
inside z k i = nat_le (k * z) i && nat_lt i (k * z + ((k + 1) * z - 1 + 1 - k * z))

part_size : (z k : ℕ) → 0 < z → (k + 1) * z - 1 + 1 - k * z ≡ z
part_size z k h = omega (arith, h)

and_true : (a b : Bool) → (a && b) ≡ true → (a ≡ true) × (b ≡ true)
and_true true b e = (refl, e)
and_true false b e = absurd cc

both_true : (a b : Bool) → a ≡ true → b ≡ true → (a && b) ≡ true
both_true true b e f = f
both_true false b e f = absurd cc

inside_facts : (z k i : ℕ) → 0 < z → inside z k i ≡ true → (k * z ≤ i) × (i < k * z + z)
unfolding inside
inside_facts z k i h e =
    let b = and_true (nat_le (k * z) i) (nat_lt i (k * z + ((k + 1) * z - 1 + 1 - k * z))) e in
    let low = leb-true (k * z) i b.0 in let high = ltb-true i (k * z + ((k + 1) * z - 1 + 1 - k * z)) b.1 in
    (low, subst (λ (n : ℕ). i < k * z + n) (part_size z k h) high)

inside_is : (z k i : ℕ) → 0 < z → inside z k i ≡ nat_eq (i / z) k
unfolding inside
inside_is z k i h = by (inside z k i) (nat_eq (i / z) k) refl refl where
  by : (b t : Bool) → inside z k i ≡ b → nat_eq (i / z) k ≡ t → inside z k i ≡ nat_eq (i / z) k
  by true true e f = e ∙ sym f
  by false false e f = e ∙ sym f
  by true false e f =
      let p = inside_facts z k i h e in
      let q = le-div k i z h p.0 in
      let r = div_below i z (k + 1) h (omega (arith, p.1)) in
      let same : i / z ≡ k = omega (arith, q, r) in
      absurd (let g = eq-eqb (i / z) k same in cc)
  by false true e f =
      let same : i / z ≡ k = eqb-true (i / z) k f in
      let whole = div-add-mod' i z in
      let rest = mod_below i z h in
      let whole' : k * z + i % z ≡ i = subst (λ (n : ℕ). n * z + i % z ≡ i) same whole in
      let low : k * z ≤ i = omega (arith, whole') in
      let high : i < k * z + ((k + 1) * z - 1 + 1 - k * z) = omega (arith, whole', rest, h) in
      absurd (let g = both_true (nat_le (k * z) i) (nat_lt i (k * z + ((k + 1) * z - 1 + 1 - k * z))) (le-leb (k * z) i low) (lt-ltb i _ high) in cc)

-- one bit after the parts from k on, of which this is the bit's part
pub after_parts : Bool → (ℕ → Bool) → ℕ → ℕ → ℕ → Bit → Bit → Bit
after_parts here wmask k zero q new old = old
after_parts here wmask k (suc n) q new old = after_parts here wmask (k + 1) n q new (cond (here && (nat_eq q k && wmask k)) new old)

skipped : (here w : Bool) (q k : ℕ) (new old : Bit) → (q ≡ k → ⊥) → cond (here && (nat_eq q k && w)) new old ≡ old
skipped here w q k new old other = by here (nat_eq q k) refl where
  by : (h b : Bool) → nat_eq q k ≡ b → cond (h && (nat_eq q k && w)) new old ≡ old
  by false b e = refl
  by true false e = ap (λ (t : Bool). cond (t && w) new old) e
  by true true e = absurd (other (eqb-true q k e))

passed : (here : Bool) (wmask : ℕ → Bool) (n k q : ℕ) (new old : Bit) → q < k → after_parts here wmask k n q new old ≡ old
unfolding after_parts
passed here wmask zero k q new old h = refl
passed here wmask (suc n) k q new old h =
    passed here wmask n (k + 1) q new (cond (here && (nat_eq q k && wmask k)) new old) (omega (arith, h))
    ∙ skipped here (wmask k) q k new old (λ e. omega (arith, h, e))

pub met : (here : Bool) (wmask : ℕ → Bool) (n k q : ℕ) (new old : Bit) → k ≤ q → q < k + n → after_parts here wmask k n q new old ≡ cond (here && wmask q) new old
unfolding after_parts
met here wmask zero k q new old low high = absurd (omega (arith, low, high))
met here wmask (suc n) k q new old low high =
    by (nat_eq q k) refl (λ old' later. met here wmask n (k + 1) q new old' later (omega (arith, high))) where
      by : (b : Bool) → nat_eq q k ≡ b → ((old' : Bit) → k + 1 ≤ q → after_parts here wmask (k + 1) n q new old' ≡ cond (here && wmask q) new old')
          → after_parts here wmask (k + 1) n q new (cond (here && (nat_eq q k && wmask k)) new old) ≡ cond (here && wmask q) new old
      by true e rest =
          let same : q ≡ k = eqb-true q k e in
          passed here wmask n (k + 1) q new (cond (here && (nat_eq q k && wmask k)) new old) (omega (arith, same))
          ∙ (ap (λ (t : Bool). cond (here && (t && wmask k)) new old) e ∙ ap (λ (j : ℕ). cond (here && wmask j) new old) (sym same))
      by false e rest =
          let other : q ≡ k → ⊥ = λ f. (let g = eq-eqb q k f in absurd cc) in
          rest (cond (here && (nat_eq q k && wmask k)) new old) (omega (arith, low, other))
          ∙ ap (λ (x : Bit). cond (here && wmask q) new x) (skipped here (wmask k) q k new old other)

-- One part

-- the parts that stand in the registers
module _ (plan : Plan) (name : List ℕ) (c : MemoryCommand) (s mid : ModuleState) (risen : HasRisen true plan c s mid)
    (known : address (module_of true plan name) (command_inputs c) mid (codes "addr0_reg") ≡ Some c.addr) (some : 0 < plan.write_size) where
  abbrev m : Module
  m = module_of true plan name

  abbrev mem_after : List Update → ModuleState → ℕ → ℕ → Bit
  mem_after us t = (updated_all m us t).mems (codes "mem")

  -- the part's own bits
  abbrev part_value : ℕ → ℕ → Bit
  part_value k = expression_value m (command_inputs c) mid (PartOf (codes "din0_reg") ((k + 1) * plan.write_size - 1) (k * plan.write_size))

  abbrev part_update : ℕ → Option ℕ → List Update
  part_update k a = SetPart (codes "mem") a ((k + 1) * plan.write_size - 1) (k * plan.write_size) (part_value k) ∷ []

  part_bit : (k i : ℕ) → i < plan.word_size → k * plan.write_size ≤ i → i < k * plan.write_size + plan.write_size → part_value k (i - k * plan.write_size) ≡ Some (c.din i)
  part_bit k i few low high =
      let z = plan.write_size in
      let at : k * z + (i - k * z) ≡ i = omega (arith, low) in
      extended_is ((k + 1) * z - 1 + 1 - k * z) (i - k * z) (λ j. within plan.word_size (mid.regs (codes "din0_reg")) (k * z + j)) (omega (arith, low, high, some))
      ∙ (ap (λ (j : ℕ). within plan.word_size (mid.regs (codes "din0_reg")) j) at ∙ (within_is plan.word_size i (mid.regs (codes "din0_reg")) few ∙ risen.din i few))

  -- a part is written where its mask bit is 1
  part_updates : (k : ℕ) → k < plan.masks → updates m (command_inputs c) mid (part_write plan.write_size k) ≡ cond (c.wmask k) (part_update k (Some c.addr)) []
  part_updates k h =
      ap (λ (b : Bit). where_true (and_bit (or_bit b (Some false)) (Some true)) (part_update k (address m (command_inputs c) mid (codes "addr0_reg")))) bit
      ∙ (ap (λ (a : Option ℕ). where_true (and_bit (or_bit (Some (c.wmask k)) (Some false)) (Some true)) (part_update k a)) known ∙ chosen (c.wmask k) (part_update k (Some c.addr))) where
        bit : within plan.masks (mid.regs (codes "wmask0_reg")) (k + 0) ≡ Some (c.wmask k)
        bit = ap (λ (j : ℕ). within plan.masks (mid.regs (codes "wmask0_reg")) j) (omega arith) ∙ (within_is plan.masks k (mid.regs (codes "wmask0_reg")) h ∙ risen.wmask refl k h)

        chosen : (b : Bool) (us : List Update) → where_true (and_bit (or_bit (Some b) (Some false)) (Some true)) us ≡ cond b us []
        chosen true us = refl
        chosen false us = refl

  one_part : (k : ℕ) (t : ModuleState) (a i : ℕ) → k < plan.masks → i < plan.word_size → mem_after (updates m (command_inputs c) mid (part_write plan.write_size k)) t a i
      ≡ cond (nat_eq a c.addr && (nat_eq (i / plan.write_size) k && c.wmask k)) (Some (c.din i)) (t.mems (codes "mem") a i)
  unfolding inside
  one_part k t a i h few = ap (λ (us : List Update). mem_after us t a i) (part_updates k h) ∙ by (c.wmask k) where
    old : Bit
    old = t.mems (codes "mem") a i

    none : (x y : Bool) (new old : Bit) → old ≡ cond (x && (y && false)) new old
    none false y new old = refl
    none true false new old = refl
    none true true new old = refl

    placed : (here b : Bool) → inside plan.write_size k i ≡ b → cond (here && b) (part_value k (i - k * plan.write_size)) (t.mems (codes "mem") a i) ≡ cond (here && (b && true)) (Some (c.din i)) (t.mems (codes "mem") a i)
    placed false b e = refl
    placed true false e = refl
    placed true true e = let p = inside_facts plan.write_size k i some e in part_bit k i few p.0 p.1

    by : (w : Bool) → mem_after (cond w (part_update k (Some c.addr)) []) t a i ≡ cond (nat_eq a c.addr && (nat_eq (i / plan.write_size) k && w)) (Some (c.din i)) (t.mems (codes "mem") a i)
    by false = none (nat_eq a c.addr) (nat_eq (i / plan.write_size) k) (Some (c.din i)) (t.mems (codes "mem") a i)
    by true =
        placed (nat_eq a c.addr) (inside plan.write_size k i) refl
        ∙ ap (λ (b : Bool). cond (nat_eq a c.addr && (b && true)) (Some (c.din i)) (t.mems (codes "mem") a i)) (inside_is plan.write_size k i some)

  -- registers stay
  regs_one : (k : ℕ) (t : ModuleState) → k < plan.masks → (updated_all m (updates m (command_inputs c) mid (part_write plan.write_size k)) t).regs ≡ t.regs
  regs_one k t h = ap (λ (us : List Update). (updated_all m us t).regs) (part_updates k h) ∙ by (c.wmask k) where
    by : (w : Bool) → (updated_all m (cond w (part_update k (Some c.addr)) []) t).regs ≡ t.regs
    by true = refl
    by false = refl

  -- all parts from k on
  pub all_parts : (n k : ℕ) (t : ModuleState) (a i : ℕ) → k + n ≤ plan.masks → i < plan.word_size
      → mem_after (body_updates m (command_inputs c) mid (part_writes plan.write_size (range_with_len k n))) t a i
      ≡ after_parts (nat_eq a c.addr) c.wmask k n (i / plan.write_size) (Some (c.din i)) (t.mems (codes "mem") a i)
  unfolding after_parts
  all_parts zero k t a i h few = refl
  all_parts (suc n) k t a i h few =
      let us = updates m (command_inputs c) mid (part_write plan.write_size k) in
      ap (λ (u : ModuleState). u.mems (codes "mem") a i) (updates_append m us (body_updates m (command_inputs c) mid (part_writes plan.write_size (range_with_len (k + 1) n))) t)
      ∙ (all_parts n (k + 1) (updated_all m us t) a i (omega (arith, h)) few
      ∙ ap (λ (old : Bit). after_parts (nat_eq a c.addr) c.wmask (k + 1) n (i / plan.write_size) (Some (c.din i)) old) (one_part k t a i (omega (arith, h)) few))

  pub regs_all : (n k : ℕ) (t : ModuleState) → k + n ≤ plan.masks
      → (updated_all m (body_updates m (command_inputs c) mid (part_writes plan.write_size (range_with_len k n))) t).regs ≡ t.regs
  regs_all zero k t h = refl
  regs_all (suc n) k t h =
      let us = updates m (command_inputs c) mid (part_write plan.write_size k) in
      ap (λ (u : ModuleState). u.regs) (updates_append m us (body_updates m (command_inputs c) mid (part_writes plan.write_size (range_with_len (k + 1) n))) t)
      ∙ (regs_all n (k + 1) (updated_all m us t) (omega (arith, h)) ∙ regs_one k t (omega (arith, h)))
