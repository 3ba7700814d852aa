-- The module of a memory is one that a tool has to take.
use Rattle.std.proofs.Common.{◌≡◌, ◌⊎◌, inl, inr, ℕ, zero, suc, ◌+◌, ◌-◌, ◌*◌, ◌^◌, ◌<◌, ◌≤◌, List, [], ◌∷◌, length, Bool, true, false, nat_lt, refl, ap, ◌∙◌, arith, ltb-true}
use Rattle.std.specs.List.{AllByRecursion, range_with_len}
use Rattle.std.proofs.lemmas.Bool.{cases_lt}
use Rattle.std.proofs.lemmas.Nat.{pow_pos}
use Rattle.std.proofs.Math.Nat.{pow-le-pow_right}
use Rattle.sram_plan.specs.declared.numbers.Plan.{Plan}
use Rattle.sram_plan.specs.PlanNumbers.{numbers_of, organization}
use Rattle.sram_netlist.specs.Organization.{power_of_two, total_bits, IsGroupSize}
use Rattle.sram_netlist.specs.Numbers.{ArePlanNumbers}
use Rattle.memory_laws.proofs.Decode.{twice_some, twice_add}
use Rattle.verilog_modules.specs.Tree.{Parameter}
use Rattle.verilog_modules.specs.Meaning.{parameter_value}
use Rattle.verilog_modules.specs.Legal.{IsLegal, IsLegalBody, IsLegalStatement, IsSize}
use Rattle.verilog_laws.specs.Memory.{module_of, parameters, part_writes, write_body}
use Rattle.verilog_laws.specs.Laws.{MemoriesAreLegal}
use Rattle.verilog_laws.proofs.NamedLaws.{word_small, masks_small}

-- a row's address has 8 bits at most, and one at least
few_bits : (n : ℕ) → power_of_two n ≤ 256 → n ≤ 8
few_bits n h = elim (cases_lt n 9) [
  | inl low ↦ omega (arith, low)
  | inr high ↦ (let more = n - 9 in let same : n ≡ 9 + more = omega (arith, high) in let two : power_of_two n ≡ 512 * power_of_two more = ap power_of_two same ∙ twice_add 9 more in let some = twice_some more in absurd (omega (arith, h, two, some)))
]

some_bit : (groups : List ℕ) → AllByRecursion IsGroupSize groups → (length groups ≡ 2) ⊎ (length groups ≡ 3) → 1 ≤ total_bits groups
some_bit [] all (inl none) = absurd (omega (arith, none))
some_bit [] all (inr none) = absurd (omega (arith, none))
some_bit (b ∷ bs) all count = let size = all.0 in by size where
  by : IsGroupSize b → 1 ≤ b + total_bits bs
  by (inl two) = omega (arith, two)
  by (inr three) = omega (arith, three)

module _ (plan : Plan) (is : ArePlanNumbers (numbers_of plan)) where
  pub word_sized : IsSize plan.word_size
  word_sized = let a = word_small plan is in let b = is.plan.words in (omega (arith, b), omega (arith, a))

  pub addr_low : (1 ≤ plan.addr_bits) × (plan.addr_bits ≤ 13)
  addr_low =
      let sum = is.addr_bits in let rows = few_bits (total_bits (organization plan).groups) is.plan.rows in let some = some_bit (organization plan).groups is.plan.sizes is.plan.groups in
      let choices = is.plan.choices in let banks = is.plan.banks in
      (omega (arith, sum, some), omega (arith, sum, rows, choices, banks))

  pub addr_sized : IsSize plan.addr_bits
  addr_sized = let two = addr_low in let low = two.0 in let high = two.1 in (low, omega (arith, high))

  pub depth_sized : IsSize (2 ^ plan.addr_bits)
  depth_sized =
      let some = pow_pos plan.addr_bits in
      let most : 2 ^ plan.addr_bits ≤ 2 ^ 13 = pow-le-pow_right {n = 2} (omega arith) addr_low.1 in
      (omega (arith, some), omega (arith, most))

  masks_sized : nat_lt 0 plan.masks ≡ true → IsSize plan.masks
  masks_sized e = let a = masks_small plan is e in let b = ltb-true 0 plan.masks e in (omega (arith, b), omega (arith, a))

  parameters_sized : (masked : Bool) (name : List ℕ) → nat_lt 0 plan.masks ≡ masked → AllByRecursion (λ (p : Parameter). IsSize (parameter_value (module_of masked plan name) p.name)) (parameters masked plan)
  parameters_sized true name e = (masks_sized e, (word_sized, (addr_sized, (depth_sized, tt))))
  parameters_sized false name e = (word_sized, (addr_sized, (depth_sized, tt)))

part_falls : (size k : ℕ) → 0 < size → k * size ≤ (k + 1) * size - 1
part_falls size k some = omega (arith, some)

-- each part falls
parts_legal : (plan : Plan) (name : List ℕ) (size count k : ℕ) → 0 < size → IsLegalBody (module_of true plan name) (part_writes size (range_with_len k count))
parts_legal plan name size zero k some = tt
parts_legal plan name size (suc count) k some =
    (((refl, tt), ((refl, refl, part_falls size k some), (refl, part_falls size k some))), parts_legal plan name size count (k + 1) some)

write_legal : (masked : Bool) (plan : Plan) (name : List ℕ) → 0 < plan.write_size → IsLegalStatement (module_of masked plan name) (write_body masked plan)
write_legal true plan name some = parts_legal plan name plan.write_size plan.masks 0 some
write_legal false plan name some = ((refl, refl), refl)

legal : (masked : Bool) (plan : Plan) (name : List ℕ) → nat_lt 0 plan.masks ≡ masked → ArePlanNumbers (numbers_of plan) → 0 < plan.write_size → IsLegal (module_of masked plan name)
legal true plan name e is some = record {
  ports = refl;
  once = refl;
  declared = refl;
  inner = refl;
  outer = refl;
  alike = refl;
  known = refl;
  sized = refl;
  sizes = parameters_sized plan is true name e;
  initial = tt;
  always = (
    (refl, ((refl, refl), ((refl, refl), ((refl, refl), ((refl, refl), ((refl, refl), tt)))))),
    ((refl, (((refl, (refl, tt)), write_legal true plan name some), (((refl, (refl, tt)), (refl, (refl, refl))), tt))), tt),
  );
}
legal false plan name e is some = record {
  ports = refl;
  once = refl;
  declared = refl;
  inner = refl;
  outer = refl;
  alike = refl;
  known = refl;
  sized = refl;
  sizes = parameters_sized plan is false name e;
  initial = tt;
  always = (
    (refl, ((refl, refl), ((refl, refl), ((refl, refl), ((refl, refl), tt))))),
    ((refl, (((refl, (refl, tt)), write_legal false plan name some), (((refl, (refl, tt)), (refl, (refl, refl))), tt))), tt),
  );
}

pub memories_are_legal : MemoriesAreLegal
memories_are_legal plan name is some = legal (nat_lt 0 plan.masks) plan name refl is some
