-- The names and numbers of a memory's module.
use Rattle.std.proofs.Common.{◌≡◌, ◌⊎◌, inl, inr, ℕ, zero, suc, ◌+◌, ◌-◌, ◌*◌, ◌<◌, ◌≤◌, List, Bool, true, false, nat_lt, codes, refl, subst, arith, le_trans}
use Rattle.std.specs.List.{AllByRecursion, range_with_len}
use Rattle.sram_plan.specs.declared.numbers.Plan.{Plan}
use Rattle.sram_plan.specs.PlanNumbers.{numbers_of, organization}
use Rattle.sram_netlist.specs.Organization.{Organization, power_of_two, total_bits, words_per_row}
use Rattle.sram_netlist.specs.Numbers.{ArePlanNumbers}
use Rattle.sram_plan.specs.Keywords.{is_keyword}
use Rattle.verilog_modules.specs.Names.{is_name, IsName, IsNumber, HasLegalNames, IsNamedBody, IsNamedStatement, IsNamedDeclaration, IsNamedParameter}
use Rattle.verilog_laws.specs.Memory.{module_of, part_writes, declarations, latches, memory_ports, parameters, write_body, part_write}
use Rattle.std.proofs.lemmas.Nat.{mul-le}

-- The numbers of a plan are small

pub below_power : (n : ℕ) → n < power_of_two n
below_power zero = omega arith
below_power (suc n) = let h = below_power n in omega (arith, h)

pub some_power : (n : ℕ) → 0 < power_of_two n
some_power n = let h = below_power n in omega (arith, h)

times_some : (a b : ℕ) → 0 < b → a ≤ a * b
times_some a zero h = absurd (omega (arith, h))
times_some a (suc b) h = omega arith

pub small : (n : ℕ) → n ≤ 10000 → IsNumber n
unfolding IsNumber
small n h = omega (arith, h)

module _ (plan : Plan) (is : ArePlanNumbers (numbers_of plan)) where
  abbrev org : Organization
  org = organization plan

  pub word_small : plan.word_size ≤ 256
  word_small = let a = times_some plan.word_size (words_per_row org) (some_power org.col_bits) in let b = is.plan.columns in omega (arith, a, b)

  pub addr_small : plan.addr_bits ≤ 600
  addr_small = let a = is.addr_bits in let b = is.plan.choices in let c = is.plan.banks in let d = below_power (total_bits org.groups) in let e = is.plan.rows in omega (arith, a, b, c, d, e)

  pub parts_make : nat_lt 0 plan.masks ≡ true → (0 < plan.write_size) × (plan.masks * plan.write_size ≡ plan.word_size)
  parts_make e = by is.plan.masks where
    by : (plan.masks ≡ 0) ⊎ ((0 < plan.write_size) × (plan.masks * plan.write_size ≡ plan.word_size)) → (0 < plan.write_size) × (plan.masks * plan.write_size ≡ plan.word_size)
    by (inl none) = absurd (let f : nat_lt 0 0 ≡ true = subst (λ (n : ℕ). nat_lt 0 n ≡ true) none e in cc)
    by (inr parts) = parts

  pub masks_small : nat_lt 0 plan.masks ≡ true → plan.masks ≤ 600
  masks_small e = let p = parts_make e in let a = times_some plan.masks plan.write_size p.0 in let b = word_small in let c = p.1 in omega (arith, a, b, c)

-- The names of a memory's module

pub record Names : Type 0 where
  pub clk0_is : IsName (codes "clk0")
  pub csb0_is : IsName (codes "csb0")
  pub web0_is : IsName (codes "web0")
  pub wmask0_is : IsName (codes "wmask0")
  pub addr0_is : IsName (codes "addr0")
  pub din0_is : IsName (codes "din0")
  pub dout0_is : IsName (codes "dout0")
  pub csb0_reg_is : IsName (codes "csb0_reg")
  pub web0_reg_is : IsName (codes "web0_reg")
  pub wmask0_reg_is : IsName (codes "wmask0_reg")
  pub addr0_reg_is : IsName (codes "addr0_reg")
  pub din0_reg_is : IsName (codes "din0_reg")
  pub mem_is : IsName (codes "mem")
  pub data_width_is : IsName (codes "DATA_WIDTH")
  pub addr_width_is : IsName (codes "ADDR_WIDTH")
  pub num_wmasks_is : IsName (codes "NUM_WMASKS")
  pub ram_depth_is : IsName (codes "RAM_DEPTH")

pub names : Names
unfolding is_name is_keyword
names = record {
  clk0_is = refl;
  csb0_is = refl;
  web0_is = refl;
  wmask0_is = refl;
  addr0_is = refl;
  din0_is = refl;
  dout0_is = refl;
  csb0_reg_is = refl;
  web0_reg_is = refl;
  wmask0_reg_is = refl;
  addr0_reg_is = refl;
  din0_reg_is = refl;
  mem_is = refl;
  data_width_is = refl;
  addr_width_is = refl;
  num_wmasks_is = refl;
  ram_depth_is = refl;
}

abbrev n : Names
n = names

part_named : (size k : ℕ) → (k + 1) * size ≤ 256 → k ≤ 600 → IsNamedStatement (part_write size k)
part_named size k h low = (((n.wmask0_reg_is, small k (omega (arith, low))), tt), ((n.mem_is, n.addr0_reg_is, small ((k + 1) * size - 1) (omega (arith, h)), small (k * size) (omega (arith, h))), (n.din0_reg_is, small ((k + 1) * size - 1) (omega (arith, h)), small (k * size) (omega (arith, h)))))

parts_named : (size count k : ℕ) → (k + count) * size ≤ 256 → k + count ≤ 600 → IsNamedBody (part_writes size (range_with_len k count))
parts_named size zero k h low = tt
parts_named size (suc count) k h low =
    let more : (k + 1 + count) * size ≤ 256 = subst (λ (j : ℕ). j * size ≤ 256) (turned k count) h in
    (part_named size k (first k count size h) (omega (arith, low)), parts_named size count (k + 1) more (omega (arith, low))) where
      turned : (k count : ℕ) → k + suc count ≡ k + 1 + count
      turned k count = omega arith

      first : (k count size : ℕ) → (k + suc count) * size ≤ 256 → (k + 1) * size ≤ 256
      first k count size h = le_trans (mul-le (k + 1) size (k + suc count) size (omega arith) (omega arith)) h

declarations_named : (masked : Bool) → AllByRecursion IsNamedDeclaration (declarations masked)
declarations_named true = (
  (tt, n.clk0_is),
  (
    (tt, n.csb0_is),
    (
      (tt, n.web0_is),
      (
        (n.num_wmasks_is, n.wmask0_is),
        (
          (n.addr_width_is, n.addr0_is),
          (
            (n.data_width_is, n.din0_is),
            (
              (n.data_width_is, n.dout0_is),
              (
                (n.data_width_is, n.dout0_is),
                ((tt, n.csb0_reg_is), ((tt, n.web0_reg_is), ((n.num_wmasks_is, n.wmask0_reg_is), ((n.addr_width_is, n.addr0_reg_is), ((n.data_width_is, n.din0_reg_is), ((n.data_width_is, n.mem_is, n.ram_depth_is), tt)))))),
              ),
            ),
          ),
        ),
      ),
    ),
  ),
)
declarations_named false = (
  (tt, n.clk0_is),
  (
    (tt, n.csb0_is),
    (
      (tt, n.web0_is),
      (
        (n.addr_width_is, n.addr0_is),
        (
          (n.data_width_is, n.din0_is),
          (
            (n.data_width_is, n.dout0_is),
            (
              (n.data_width_is, n.dout0_is),
              ((tt, n.csb0_reg_is), ((tt, n.web0_reg_is), ((n.addr_width_is, n.addr0_reg_is), ((n.data_width_is, n.din0_reg_is), ((n.data_width_is, n.mem_is, n.ram_depth_is), tt))))),
            ),
          ),
        ),
      ),
    ),
  ),
)

latches_named : (masked : Bool) → IsNamedBody (latches masked)
latches_named true = ((n.csb0_reg_is, n.csb0_is), ((n.web0_reg_is, n.web0_is), ((n.wmask0_reg_is, n.wmask0_is), ((n.addr0_reg_is, n.addr0_is), ((n.din0_reg_is, n.din0_is), tt)))))
latches_named false = ((n.csb0_reg_is, n.csb0_is), ((n.web0_reg_is, n.web0_is), ((n.addr0_reg_is, n.addr0_is), ((n.din0_reg_is, n.din0_is), tt))))

ports_named : (masked : Bool) → AllByRecursion IsName (memory_ports masked)
ports_named true = (n.clk0_is, (n.csb0_is, (n.web0_is, (n.wmask0_is, (n.addr0_is, (n.din0_is, (n.dout0_is, tt)))))))
ports_named false = (n.clk0_is, (n.csb0_is, (n.web0_is, (n.addr0_is, (n.din0_is, (n.dout0_is, tt))))))

sizes_named : (plan : Plan) → ArePlanNumbers (numbers_of plan) → AllByRecursion IsNamedParameter (parameters false plan)
sizes_named plan is = ((n.data_width_is, small plan.word_size (let a = word_small plan is in omega (arith, a))), ((n.addr_width_is, small plan.addr_bits (let a = addr_small plan is in omega (arith, a))), ((n.ram_depth_is, n.addr_width_is), tt)))

parameters_named : (masked : Bool) (plan : Plan) → nat_lt 0 plan.masks ≡ masked → ArePlanNumbers (numbers_of plan) → AllByRecursion IsNamedParameter (parameters masked plan)
parameters_named true plan e is = ((n.num_wmasks_is, small plan.masks (let m = masks_small plan is e in omega (arith, m))), sizes_named plan is)
parameters_named false plan e is = sizes_named plan is

write_named : (masked : Bool) (plan : Plan) → nat_lt 0 plan.masks ≡ masked → ArePlanNumbers (numbers_of plan) → IsNamedStatement (write_body masked plan)
write_named true plan e is =
    let p = parts_make plan is e in let w = word_small plan is in let q = p.1 in
    parts_named plan.write_size plan.masks 0 (subst (λ (j : ℕ). j * plan.write_size ≤ 256) (zero_first plan.masks) (omega (arith, q, w))) (let m = masks_small plan is e in omega (arith, m)) where
      zero_first : (j : ℕ) → j ≡ 0 + j
      zero_first j = omega arith
write_named false plan e is = ((n.mem_is, n.addr0_reg_is), n.din0_reg_is)

pub named : (masked : Bool) (plan : Plan) (name : List ℕ) → nat_lt 0 plan.masks ≡ masked → ArePlanNumbers (numbers_of plan) → IsName name → HasLegalNames (module_of masked plan name)
named masked plan name e is given = record {
  name = given;
  ports = ports_named masked;
  parameters = parameters_named masked plan e is;
  declarations = declarations_named masked;
  initial = tt;
  always = (
    (n.clk0_is, latches_named masked),
    ((n.clk0_is, (((n.csb0_reg_is, (n.web0_reg_is, tt)), write_named masked plan e is), (((n.csb0_reg_is, (n.web0_reg_is, tt)), (n.dout0_is, (n.mem_is, n.addr0_reg_is))), tt))), tt),
  );
}
