-- The ports of the cells of the logic row.
use Rattle.std.proofs.Common.{◌≡◌, ◌⊎◌, inl, inr, ℕ, zero, suc, ◌+◌, ◌<◌, ◌≤◌, List, [], ◌∷◌, ◌++◌, length, Some, refl, ap, sym, subst, ◌∙◌, length-append, append_assoc, arith}
use Rattle.std.specs.Prelude.{slice_get, codes}
use Rattle.std.proofs.lemmas.Option.{slice_get_within}
use Rattle.cell_roles.specs.declared.role.Role.{Role}
use Rattle.cell_roles.specs.declared.role.Role.TheVariants.{Bitcell, Precharge, Mux, Tie, Sense, Write, RowNand2, RowNand3, Driver, Nand2, Nand3, Inv, Dff, Delay}
use Rattle.cell_roles.specs.Roles.{role_ports}
use Rattle.leaf_shapes.specs.declared.demand.Metal.TheVariants.{M2, M4}
use Rattle.sram_netlist.specs.Organization.{Organization}
use Rattle.sram_netlist.specs.Nets.{Net, Clk0, Csb0, Web0, Clkb, Csq, Weq, Cs, We, Wlb, Wlen, Wrb, Wen, Rdb, Rd, Dly, Seb, Sen, Vdd, Gnd, Control, Addr, Din, Wmask, A, Na, D, M, LineB, Line, WlenB, WlenAt, SenB, SenAt, WenB, WenAt}
use Rattle.sram_netlist.specs.Instances.{LogicCell, Clki, Csd, Wed, Csi, Wei, Wln, Wli, Wrn, Wri, Rdn, Rdi, Dlay, Senn, Seni, Ad, Ai, Dd, Dm, Pn, Pi, Ln, Li, Kn, Ki, Gn, Gi}
use Rattle.sram_netlist.specs.Netlist.{gate_of, sense_start, logic_role, picks, enable_inputs, bank_line, supply_nets, logic_cell_ports}
use Rattle.floorplan.specs.Demanded.{IsDemandOf}
use Rattle.main_channel.proofs.ListLaws.{split_at}

pub three_ports : (plan : Organization) (c : LogicCell) → 3 ≤ length (logic_cell_ports plan c)
three_ports plan (Pn o b k) = let all = length-append (picks o b k) (LineB o b k ∷ supply_nets) in omega (arith, all)
three_ports plan (Gn bank m) = let all = length-append (enable_inputs plan bank m) (WenB bank m ∷ supply_nets) in omega (arith, all)
three_ports plan c = omega arith

-- All end by the supplies.
record HasFront (plan : Organization) (c : LogicCell) : Type 0 where
  pub front : List Net
  pub is : logic_cell_ports plan c ≡ front ++ supply_nets

front_of : (plan : Organization) (c : LogicCell) → HasFront plan c
front_of plan Clki = record { front = Control Clk0 ∷ Control Clkb ∷ []; is = refl }
front_of plan Csd = record { front = Control Csb0 ∷ Control Clk0 ∷ Control Csq ∷ []; is = refl }
front_of plan Wed = record { front = Control Web0 ∷ Control Clk0 ∷ Control Weq ∷ []; is = refl }
front_of plan Csi = record { front = Control Csq ∷ Control Cs ∷ []; is = refl }
front_of plan Wei = record { front = Control Weq ∷ Control We ∷ []; is = refl }
front_of plan Wln = record { front = Control Cs ∷ Control Clkb ∷ Control Wlb ∷ []; is = refl }
front_of plan Wli = record { front = Control Wlb ∷ Control Wlen ∷ []; is = refl }
front_of plan Wrn = record { front = Control Cs ∷ Control We ∷ Control Clkb ∷ Control Wrb ∷ []; is = refl }
front_of plan Wri = record { front = Control Wrb ∷ Control Wen ∷ []; is = refl }
front_of plan Rdn = record { front = Control Cs ∷ Control Weq ∷ Control Clkb ∷ Control Rdb ∷ []; is = refl }
front_of plan Rdi = record { front = Control Rdb ∷ Control Rd ∷ []; is = refl }
front_of plan Dlay = record { front = Control Clkb ∷ Control Dly ∷ []; is = refl }
front_of plan Senn = record { front = sense_start plan.write_size ∷ Control Dly ∷ Control Seb ∷ []; is = refl }
front_of plan Seni = record { front = Control Seb ∷ Control Sen ∷ []; is = refl }
front_of plan (Ad i) = record { front = Addr i ∷ Control Clk0 ∷ A i ∷ []; is = refl }
front_of plan (Ai i) = record { front = A i ∷ Na i ∷ []; is = refl }
front_of plan (Pn o b k) = record { front = picks o b k ++ LineB o b k ∷ []; is = sym (append_assoc (picks o b k) (LineB o b k ∷ []) supply_nets) }
front_of plan (Pi o b k) = record { front = LineB o b k ∷ Line o b k ∷ []; is = refl }
front_of plan (Dd i) = record { front = Din i ∷ Control Clk0 ∷ D i ∷ []; is = refl }
front_of plan (Dm m) = record { front = Wmask m ∷ Control Clk0 ∷ M m ∷ []; is = refl }
front_of plan (Ln bank) = record { front = Control Wlen ∷ bank_line plan bank ∷ WlenB bank ∷ []; is = refl }
front_of plan (Li bank) = record { front = WlenB bank ∷ WlenAt bank ∷ []; is = refl }
front_of plan (Kn bank) = record { front = Control Sen ∷ bank_line plan bank ∷ SenB bank ∷ []; is = refl }
front_of plan (Ki bank) = record { front = SenB bank ∷ SenAt bank ∷ []; is = refl }
front_of plan (Gn bank m) = record { front = enable_inputs plan bank m ++ WenB bank m ∷ []; is = sym (append_assoc (enable_inputs plan bank m) (WenB bank m ∷ []) supply_nets) }
front_of plan (Gi bank m) = record { front = WenB bank m ∷ WenAt bank m ∷ []; is = refl }

supply_is : (k : ℕ) (x : Net) → slice_get supply_nets k ≡ Some x → (x ≡ Vdd) ⊎ (x ≡ Gnd)
supply_is zero x at = inl (let e : Vdd ≡ x = cc in sym e)
supply_is (suc zero) x at = inr (let e : Gnd ≡ x = cc in sym e)
supply_is (suc (suc k)) x at = absurd cc

-- a net stands on a port before the supplies, or is a supply
pub which_port : (plan : Organization) (c : LogicCell) (k : ℕ) (x : Net) → slice_get (logic_cell_ports plan c) k ≡ Some x → (k + 2 < length (logic_cell_ports plan c)) ⊎ ((x ≡ Vdd) ⊎ (x ≡ Gnd))
which_port plan c k x at =
    let f = front_of plan c in
    let long = ap length f.is ∙ length-append f.front supply_nets in
    elim (split_at f.front supply_nets k x (subst (λ (l : List Net). slice_get l k ≡ Some x) f.is at)) [
      | inl here ↦ let within = slice_get_within f.front k x here in inl (omega (arith, long, within))
      | inr b ↦ inr (supply_is b.index x b.at)
    ]

-- The cells' roles, whose ports are on the second metal in their order
abbrev IsLogicRole : Role → Type 0
IsLogicRole Nand2 = Unit {0}
IsLogicRole Nand3 = Unit {0}
IsLogicRole Inv = Unit {0}
IsLogicRole Dff = Unit {0}
IsLogicRole Delay = Unit {0}
IsLogicRole role = ⊥

gate_logic : (n : ℕ) → IsLogicRole (gate_of n)
gate_logic zero = tt
gate_logic (suc zero) = tt
gate_logic (suc (suc zero)) = tt
gate_logic (suc (suc (suc n))) = tt

role_logic : (plan : Organization) (c : LogicCell) → IsLogicRole (logic_role plan c)
role_logic plan (Pn o b k) = gate_logic b
role_logic plan (Gn bank m) = gate_logic (length (enable_inputs plan bank m))
role_logic plan c = tt

demand_of : (role : Role) → IsLogicRole role → (k : ℕ) → k + 2 < length (role_ports role) → IsDemandOf role k 1 k
demand_of Nand2 is zero few = record { name = codes "a"; named = refl; on = M2; number = refl; first = refl; there = omega arith }
demand_of Nand2 is (suc zero) few = record { name = codes "b"; named = refl; on = M2; number = refl; first = refl; there = omega arith }
demand_of Nand2 is (suc (suc zero)) few = record { name = codes "z"; named = refl; on = M2; number = refl; first = refl; there = omega arith }
demand_of Nand2 is (suc (suc (suc k))) few = absurd (omega (arith, few))
demand_of Nand3 is zero few = record { name = codes "a"; named = refl; on = M2; number = refl; first = refl; there = omega arith }
demand_of Nand3 is (suc zero) few = record { name = codes "b"; named = refl; on = M2; number = refl; first = refl; there = omega arith }
demand_of Nand3 is (suc (suc zero)) few = record { name = codes "c"; named = refl; on = M2; number = refl; first = refl; there = omega arith }
demand_of Nand3 is (suc (suc (suc zero))) few = record { name = codes "z"; named = refl; on = M2; number = refl; first = refl; there = omega arith }
demand_of Nand3 is (suc (suc (suc (suc k)))) few = absurd (omega (arith, few))
demand_of Inv is zero few = record { name = codes "a"; named = refl; on = M2; number = refl; first = refl; there = omega arith }
demand_of Inv is (suc zero) few = record { name = codes "z"; named = refl; on = M2; number = refl; first = refl; there = omega arith }
demand_of Inv is (suc (suc k)) few = absurd (omega (arith, few))
demand_of Dff is zero few = record { name = codes "d"; named = refl; on = M2; number = refl; first = refl; there = omega arith }
demand_of Dff is (suc zero) few = record { name = codes "clk"; named = refl; on = M2; number = refl; first = refl; there = omega arith }
demand_of Dff is (suc (suc zero)) few = record { name = codes "q"; named = refl; on = M2; number = refl; first = refl; there = omega arith }
demand_of Dff is (suc (suc (suc k))) few = absurd (omega (arith, few))
demand_of Delay is zero few = record { name = codes "a"; named = refl; on = M2; number = refl; first = refl; there = omega arith }
demand_of Delay is (suc zero) few = record { name = codes "z"; named = refl; on = M2; number = refl; first = refl; there = omega arith }
demand_of Delay is (suc (suc k)) few = absurd (omega (arith, few))
demand_of Bitcell is k few = absurd is
demand_of Precharge is k few = absurd is
demand_of Mux is k few = absurd is
demand_of Tie is k few = absurd is
demand_of Sense is k few = absurd is
demand_of Write is k few = absurd is
demand_of RowNand2 is k few = absurd is
demand_of RowNand3 is k few = absurd is
demand_of Driver is k few = absurd is

pub logic_demand : (plan : Organization) (c : LogicCell) (k : ℕ) → k + 2 < length (role_ports (logic_role plan c)) → IsDemandOf (logic_role plan c) k 1 k
logic_demand plan c k few = demand_of (logic_role plan c) (role_logic plan c) k few

-- The pins of write and sense cells
pub write_din : IsDemandOf Write 0 3 0
write_din = record { name = codes "din"; named = refl; on = M4; number = refl; first = refl; there = omega arith }

pub write_en : IsDemandOf Write 3 3 3
write_en = record { name = codes "en"; named = refl; on = M4; number = refl; first = refl; there = omega arith }

pub sense_dout : IsDemandOf Sense 2 3 2
sense_dout = record { name = codes "dout"; named = refl; on = M4; number = refl; first = refl; there = omega arith }
