-- The netlist with what its instances look at, drive and join by cases, in place of by port numbers.
use Rattle.std.proofs.Common.{◌+◌, ◌-◌, ◌≡◌, ℕ, zero, suc, ◌/◌, ◌%◌, ◌<◌, Bool, List, [], ◌∷◌, length, refl, sym, ap, subst, arith, inl, inr, ◌⊎◌}
use Rattle.sram_netlist.specs.Organization.{IsBuildable, IsWritten, bank_bit, power_of_two, Organization, IsGroupSize}
use Rattle.sram_netlist.specs.Nets.{Net, Clk0, Csb0, Web0, Clkb, Csq, Weq, Cs, We, Wlb, Wlen, Wrb, Wen, Rdb, Rd, Dly, Seb, Sen, Control, Addr, Din, Dout, Wmask, A, Na, D, M, LineB, Line, WlenB, WlenAt, SenB, SenAt, WenB, WenAt, Zb, Wl, Bl, Br}
use Rattle.sram_netlist.specs.Instances.{LogicCell, LeafInstance, Clki, Csd, Wed, Csi, Wei, Wln, Wli, Wrn, Wri, Rdn, Rdi, Dlay, Senn, Seni, Ad, Ai, Dd, Dm, Pn, Pi, Ln, Li, Kn, Ki, Gn, Gi, BitAt, NandAt, DriverAt, PrechargeAt, WriteAt, SenseAt, MuxAt, TieAt, LogicAt}
use Rattle.cell_roles.specs.declared.role.Role.{Role}
use Rattle.cell_roles.specs.declared.leaf_role.LeafRole.TheVariants.{Common}
use Rattle.cell_roles.specs.declared.role.Role.TheVariants.{Bitcell, Precharge, Mux, Tie, Sense, Write, Nand2, Nand3, Driver, Dff, Delay}
use Rattle.cell_roles.specs.LeafRoles.{leaf_act}
use Rattle.memory_laws.specs.NetlistCircuit.{circuit}
use Rattle.sram_netlist.specs.Membership.{HasLeafInstance, HasLogicCell, HasLeafNet, IsChoice, IsGroup}
use Rattle.sram_netlist.specs.Netlist.{picks, row_lines, lo_net, ro_net, wlen_at, sen_at, enable_at, mask_of, enable_inputs, sense_start}
use Rattle.memory_laws.specs.Phase.{Circuit, State, act_at, bits}
use Rattle.memory_laws.proofs.Circuits.{SameCircuit}
use Rattle.cell_roles.specs.Roles.{role_ports}
use Rattle.std.specs.List.{AllByRecursion}
use Rattle.sram_netlist.specs.Netlist as netlist
use Rattle.sram_netlist.specs.LeafNetlist.{read_write}
use Rattle.memory_laws.specs.NetlistCircuit as by_ports

-- all gates act by one formula
abbrev pub logic_role : LogicCell → Role
logic_role Csd = Dff
logic_role Wed = Dff
logic_role (Ad i) = Dff
logic_role (Dd i) = Dff
logic_role (Dm i) = Dff
logic_role Dlay = Delay
logic_role cell = Nand3

abbrev pub role : LeafInstance → Role
role (BitAt bank r c) = Bitcell
role (NandAt bank r) = Nand3
role (DriverAt bank r) = Driver
role (PrechargeAt bank c) = Precharge
role (WriteAt bank i) = Write
role (SenseAt bank i) = Sense
role (MuxAt bank c) = Mux
role (TieAt bank c) = Tie
role (LogicAt cell) = logic_role cell

abbrev pub cell_looks : Organization → LogicCell → List Net
cell_looks p Clki = Control Clk0 ∷ []
cell_looks p Csd = Control Csb0 ∷ Control Clk0 ∷ []
cell_looks p Wed = Control Web0 ∷ Control Clk0 ∷ []
cell_looks p Csi = Control Csq ∷ []
cell_looks p Wei = Control Weq ∷ []
cell_looks p Wln = Control Cs ∷ Control Clkb ∷ []
cell_looks p Wli = Control Wlb ∷ []
cell_looks p Wrn = Control Cs ∷ Control We ∷ Control Clkb ∷ []
cell_looks p Wri = Control Wrb ∷ []
cell_looks p Rdn = Control Cs ∷ Control Weq ∷ Control Clkb ∷ []
cell_looks p Rdi = Control Rdb ∷ []
cell_looks p Dlay = Control Clkb ∷ []
cell_looks p Senn = Control Rd ∷ Control Dly ∷ []
cell_looks p Seni = Control Seb ∷ []
cell_looks p (Ad i) = Addr i ∷ Control Clk0 ∷ []
cell_looks p (Ai i) = A i ∷ []
cell_looks p (Dd i) = Din i ∷ Control Clk0 ∷ []
cell_looks p (Dm j) = Wmask j ∷ Control Clk0 ∷ []
cell_looks p (Pn o b k) = picks o b k
cell_looks p (Pi o b k) = LineB o b k ∷ []
cell_looks p (Ln bank) = Control Wlen ∷ Line (bank_bit p) p.bank_bits bank ∷ []
cell_looks p (Li bank) = WlenB bank ∷ []
cell_looks p (Kn bank) = Control Sen ∷ Line (bank_bit p) p.bank_bits bank ∷ []
cell_looks p (Ki bank) = SenB bank ∷ []
cell_looks p (Gn bank j) = enable_inputs p bank j
cell_looks p (Gi bank j) = WenB bank j ∷ []

abbrev pub cell_drives : LogicCell → Net
cell_drives Clki = Control Clkb
cell_drives Csd = Control Csq
cell_drives Wed = Control Weq
cell_drives Csi = Control Cs
cell_drives Wei = Control We
cell_drives Wln = Control Wlb
cell_drives Wli = Control Wlen
cell_drives Wrn = Control Wrb
cell_drives Wri = Control Wen
cell_drives Rdn = Control Rdb
cell_drives Rdi = Control Rd
cell_drives Dlay = Control Dly
cell_drives Senn = Control Seb
cell_drives Seni = Control Sen
cell_drives (Ad i) = A i
cell_drives (Ai i) = Na i
cell_drives (Dd i) = D i
cell_drives (Dm j) = M j
cell_drives (Pn o b k) = LineB o b k
cell_drives (Pi o b k) = Line o b k
cell_drives (Ln bank) = WlenB bank
cell_drives (Li bank) = WlenAt bank
cell_drives (Kn bank) = SenB bank
cell_drives (Ki bank) = SenAt bank
cell_drives (Gn bank j) = WenB bank j
cell_drives (Gi bank j) = WenAt bank j

-- the write enable of bit j
abbrev pub enable : Organization → ℕ → ℕ → Net
enable p bank j = enable_at p.bank_bits p.masks bank (mask_of p.masks p.write_size j)

abbrev pub looks : Organization → LeafInstance → List Net
looks p (BitAt bank r c) = Wl bank r ∷ Bl bank c ∷ Br bank c ∷ []
looks p (NandAt bank r) = row_lines p.groups p.col_bits r
looks p (DriverAt bank r) = Zb bank r ∷ wlen_at p.bank_bits bank ∷ []
looks p (PrechargeAt bank c) = Control Clkb ∷ []
looks p (WriteAt bank i) = enable p bank i ∷ D i ∷ []
looks p (SenseAt bank i) = sen_at p.bank_bits bank ∷ lo_net p.col_bits bank i ∷ ro_net p.col_bits bank i ∷ []
looks p (MuxAt bank c) = Line 0 p.col_bits (c % power_of_two p.col_bits) ∷ []
looks p (TieAt bank c) = []
looks p (LogicAt cell) = cell_looks p cell

abbrev pub drives : Organization → LeafInstance → List Net
drives p (BitAt bank r c) = Bl bank c ∷ Br bank c ∷ []
drives p (NandAt bank r) = Zb bank r ∷ []
drives p (DriverAt bank r) = Wl bank r ∷ []
drives p (PrechargeAt bank c) = Bl bank c ∷ Br bank c ∷ []
drives p (WriteAt bank i) = lo_net p.col_bits bank i ∷ ro_net p.col_bits bank i ∷ []
drives p (SenseAt bank i) = Dout i ∷ []
drives p (MuxAt bank c) = []
drives p (TieAt bank c) = []
drives p (LogicAt cell) = cell_drives cell ∷ []

abbrev pub joins : Organization → LeafInstance → List (Net × Net)
joins p (MuxAt bank c) = (Bl bank c, lo_net p.col_bits bank (c / power_of_two p.col_bits)) ∷ (Br bank c, ro_net p.col_bits bank (c / power_of_two p.col_bits)) ∷ []
joins p leaf = []

-- the memory of the same numbers in which something is written
abbrev pub writable : Organization → Organization
writable p = record { word_size = p.word_size; write_size = suc (p.write_size - 1); masks = p.masks; bank_bits = p.bank_bits; col_bits = p.col_bits; groups = p.groups }

pub writable_same : (p : Organization) → IsWritten p → writable p ≡ p
writable_same p some =
    let e : suc (p.write_size - 1) ≡ p.write_size = omega arith in
    ap (λ (z : ℕ). record { word_size = p.word_size; write_size = z; masks = p.masks; bank_bits = p.bank_bits; col_bits = p.col_bits; groups = p.groups }) e

-- the instances and nets of a written memory
abbrev pub direct : Organization → Circuit
direct p = record { has = HasLeafInstance (writable p); knows = HasLeafNet (writable p); role = λ leaf. Common (role leaf); looks = looks p; drives = drives p; joins = joins p }

-- By its ports and by cases an instance drives, joins and stores the same; where something is written, it acts the same.
pub record SamePlace (p : Organization) (leaf : LeafInstance) : Type 0 where
  pub drives : by_ports.driven_nets (read_write p) leaf ≡ drives p leaf
  pub joins : by_ports.joined_nets (read_write p) leaf ≡ joins p leaf
  pub acts : (s : State) (v : Net → Bool) → IsWritten p → act_at (circuit p) s v leaf ≡ act_at (direct p) s v leaf
  pub bits : (s : State) → bits (Common (netlist.role p leaf)) s leaf ≡ bits (Common (role leaf)) s leaf
  pub flops : Common (role leaf) ≡ Common Dff → Common (netlist.role p leaf) ≡ Common Dff
  pub flops_back : Common (netlist.role p leaf) ≡ Common Dff → Common (role leaf) ≡ Common Dff
  pub count : length (netlist.ports p leaf) ≡ length (role_ports (netlist.role p leaf))

small : (b : ℕ) → 0 < b → b < 4 → (b ≡ 1) ⊎ ((b ≡ 2) ⊎ (b ≡ 3))
small zero a h = absurd (omega arith)
small (suc zero) a h = inl refl
small (suc (suc zero)) a h = inr (inl refl)
small (suc (suc (suc zero))) a h = inr (inr refl)
small (suc (suc (suc (suc b)))) a h = absurd (omega arith)

picks_same : (p : Organization) (o b k : ℕ) → (b ≡ 1) ⊎ ((b ≡ 2) ⊎ (b ≡ 3)) → SamePlace p (LogicAt (Pn o b k))
picks_same p o b k (inl e) = subst (λ (b : ℕ). SamePlace p (LogicAt (Pn o b k))) (sym e) (record { drives = refl; joins = refl; acts = λ s v some. refl; bits = λ s. refl; flops = λ h. absurd cc; flops_back = λ h. absurd cc; count = refl })
picks_same p o b k (inr (inl e)) = subst (λ (b : ℕ). SamePlace p (LogicAt (Pn o b k))) (sym e) (record { drives = refl; joins = refl; acts = λ s v some. refl; bits = λ s. refl; flops = λ h. absurd cc; flops_back = λ h. absurd cc; count = refl })
picks_same p o b k (inr (inr e)) = subst (λ (b : ℕ). SamePlace p (LogicAt (Pn o b k))) (sym e) (record { drives = refl; joins = refl; acts = λ s v some. refl; bits = λ s. refl; flops = λ h. absurd cc; flops_back = λ h. absurd cc; count = refl })

sized : (b : ℕ) → (b ≡ 2) ⊎ (b ≡ 3) → (0 < b) × (b < 4)
sized b (inl e) = (omega arith, omega arith)
sized b (inr e) = (omega arith, omega arith)

group_small : (groups : List ℕ) (from o b : ℕ) → AllByRecursion IsGroupSize groups → IsGroup groups from o b → (0 < b) × (b < 4)
group_small [] from o b are g = absurd g
group_small (a ∷ as_) from o b are (inl g) = subst (λ (n : ℕ). (0 < n) × (n < 4)) (sym g.1) (sized a are.0)
group_small (a ∷ as_) from o b are (inr g) = group_small as_ (from + a) o b are.1 g

choice_small : (p : Organization) → IsBuildable p → (o b : ℕ) → IsChoice p o b → (0 < b) × (b < 4)
choice_small p ok o b (inl g) = (g.1, let e = g.0.1 in let f = ok.choices in omega arith)
choice_small p ok o b (inr (inr g)) = (g.1, let e = g.0.1 in let f = ok.banks in omega arith)
choice_small p ok o b (inr (inl g)) = group_small p.groups p.col_bits o b ok.sizes g

enables_same : (w z k n m : ℕ) (groups : List ℕ) (bank j : ℕ) → (0 < n) ⊎ (0 < k) → SamePlace (record { word_size = w; write_size = z; masks = k; bank_bits = n; col_bits = m; groups = groups }) (LogicAt (Gn bank j))
enables_same w z zero zero m groups bank j (inl h) = absurd (omega arith)
enables_same w z zero zero m groups bank j (inr h) = absurd (omega arith)
enables_same w z (suc k) zero m groups bank j h = record { drives = refl; joins = refl; acts = λ s v some. refl; bits = λ s. refl; flops = λ h. absurd cc; flops_back = λ h. absurd cc; count = refl }
enables_same w z zero (suc n) m groups bank j h = record { drives = refl; joins = refl; acts = λ s v some. refl; bits = λ s. refl; flops = λ h. absurd cc; flops_back = λ h. absurd cc; count = refl }
enables_same w z (suc k) (suc n) m groups bank j h = record { drives = refl; joins = refl; acts = λ s v some. refl; bits = λ s. refl; flops = λ h. absurd cc; flops_back = λ h. absurd cc; count = refl }

nand_same : (w z k n m : ℕ) (groups : List ℕ) (bank r : ℕ) → (length groups ≡ 2) ⊎ (length groups ≡ 3) → SamePlace (record { word_size = w; write_size = z; masks = k; bank_bits = n; col_bits = m; groups = groups }) (NandAt bank r)
nand_same w z k n m [] bank r (inl e) = absurd cc
nand_same w z k n m [] bank r (inr e) = absurd cc
nand_same w z k n m (a ∷ []) bank r (inl e) = absurd (let f : 1 ≡ 2 = e in omega arith)
nand_same w z k n m (a ∷ []) bank r (inr e) = absurd (let f : 1 ≡ 3 = e in omega arith)
nand_same w z k n m (a ∷ b ∷ []) bank r h = record { drives = refl; joins = refl; acts = λ s v some. refl; bits = λ s. refl; flops = λ h. absurd cc; flops_back = λ h. absurd cc; count = refl }
nand_same w z k n m (a ∷ b ∷ c ∷ []) bank r h = record { drives = refl; joins = refl; acts = λ s v some. refl; bits = λ s. refl; flops = λ h. absurd cc; flops_back = λ h. absurd cc; count = refl }
nand_same w z k n m (a ∷ b ∷ c ∷ d ∷ ds) bank r (inl e) = absurd (let f : suc (suc (suc (suc (length ds)))) ≡ 2 = e in omega arith)
nand_same w z k n m (a ∷ b ∷ c ∷ d ∷ ds) bank r (inr e) = absurd (let f : suc (suc (suc (suc (length ds)))) ≡ 3 = e in omega arith)

-- where something is written a read starts the sense enable
sense_is : (z : ℕ) → 0 < z → sense_start z ≡ Control Rd
sense_is zero some = absurd (omega arith)
sense_is (suc z) some = refl

-- a gate of one formula
gate_same : (p : Organization) (cell : LogicCell) → HasLogicCell p cell → IsBuildable p → SamePlace p (LogicAt cell)
gate_same p (Pn o b k) there ok = let h = choice_small p ok o b there.0 in picks_same p o b k (small b h.0 h.1)
gate_same p (Gn bank j) there ok = enables_same p.word_size p.write_size p.masks p.bank_bits p.col_bits p.groups bank j there.1
gate_same p Csd there ok = record { drives = refl; joins = refl; acts = λ s v some. refl; bits = λ s. refl; flops = λ h. refl; flops_back = λ h. refl; count = refl }
gate_same p Wed there ok = record { drives = refl; joins = refl; acts = λ s v some. refl; bits = λ s. refl; flops = λ h. refl; flops_back = λ h. refl; count = refl }
gate_same p (Ad i) there ok = record { drives = refl; joins = refl; acts = λ s v some. refl; bits = λ s. refl; flops = λ h. refl; flops_back = λ h. refl; count = refl }
gate_same p (Dd i) there ok = record { drives = refl; joins = refl; acts = λ s v some. refl; bits = λ s. refl; flops = λ h. refl; flops_back = λ h. refl; count = refl }
gate_same p (Dm i) there ok = record { drives = refl; joins = refl; acts = λ s v some. refl; bits = λ s. refl; flops = λ h. refl; flops_back = λ h. refl; count = refl }
gate_same p Senn there ok = record { drives = refl; joins = refl; acts = λ s v some j. leaf_act (Common Nand2) (v (sense_is p.write_size some j) ∷ v (Control Dly) ∷ []) []; bits = λ s. refl; flops = λ h. absurd cc; flops_back = λ h. absurd cc; count = refl }
gate_same p cell there ok = record { drives = refl; joins = refl; acts = λ s v some. refl; bits = λ s. refl; flops = λ h. absurd cc; flops_back = λ h. absurd cc; count = refl }

pub place_same : (p : Organization) (leaf : LeafInstance) → HasLeafInstance p leaf → IsBuildable p → SamePlace p leaf
place_same p (NandAt bank r) there ok = nand_same p.word_size p.write_size p.masks p.bank_bits p.col_bits p.groups bank r ok.groups
place_same p (LogicAt cell) there ok = gate_same p cell there ok
place_same p leaf there ok = record { drives = refl; joins = refl; acts = λ s v some. refl; bits = λ s. refl; flops = λ h. absurd cc; flops_back = λ h. absurd cc; count = refl }

pub direct_same : (p : Organization) → IsBuildable p → IsWritten p → SameCircuit (circuit p) (direct p)
direct_same p ok some =
    let e = writable_same p some in
    record {
      there = λ leaf t. subst (λ q. HasLeafInstance q leaf) (sym e) t;
      back = λ leaf t. subst (λ q. HasLeafInstance q leaf) e t;
      knows = λ x t. subst (λ q. HasLeafNet q x) (sym e) t;
      known = λ x t. subst (λ q. HasLeafNet q x) e t;
      drives = λ leaf t. (place_same p leaf t ok).drives;
      joins = λ leaf t. (place_same p leaf t ok).joins;
      acts = λ s v leaf t. (place_same p leaf t ok).acts s v some;
      bits = λ s leaf t. (place_same p leaf t ok).bits s;
      flops = λ leaf t. (place_same p leaf t ok).flops;
      flops_back = λ leaf t. (place_same p leaf t ok).flops_back;
    }
