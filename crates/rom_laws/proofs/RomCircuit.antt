-- The netlist of a read-only memory with what its instances look at, drive and join by cases, in place of by port numbers; and its
-- instances and nets beside those of a read-write memory.
use Rattle.std.proofs.Common.{◌≡◌, ℕ, Bool, true, false, List, [], ◌∷◌, refl, arith, inl, inr}
use Rattle.sram_netlist.specs.Organization.{Organization, IsBuildable}
use Rattle.sram_netlist.specs.Nets.{Net, Web0, Weq, We, Wlen, Wrb, Wen, Rdb, Rd, Dly, Control, Din, D, WenB, WenAt, Wl}
use Rattle.sram_netlist.specs.Instances.{LogicCell, LeafInstance, Wed, Wei, Wrn, Wri, Rdn, Rdi, Senn, Dd, Gn, Gi, BitAt, WriteAt, LogicAt}
use Rattle.sram_netlist.specs.Membership.{HasLeafInstance, HasLeafNet, IsGated}
use Rattle.sram_netlist.specs.BitCells.{fixed_bit, read_only}
use Rattle.sram_netlist.specs.LeafNetlist.{fixed_role, fixed_netlist}
use Rattle.cell_roles.specs.declared.role.Role.TheVariants.{Dff}
use Rattle.cell_roles.specs.declared.leaf_role.LeafRole.{LeafRole}
use Rattle.cell_roles.specs.declared.leaf_role.LeafRole.TheVariants.{Common, Fixed}
use Rattle.memory_laws.specs.Phase.{Circuit, State, act_at, bits}
use Rattle.memory_laws.specs.NetlistCircuit.{driven_nets, joined_nets}
use Rattle.memory_laws.proofs.Circuits.{SameCircuit}
use Rattle.memory_laws.proofs.Direct.{role, looks, drives, joins, writable, place_same}
use Rattle.rom_laws.specs.RomRun.{IsRomPlan, rom_circuit}

-- the instances and nets of the read-only memory
abbrev pub HasRomLeaf : Organization → LeafInstance → Type 0
HasRomLeaf p = HasLeafInstance (read_only p)

abbrev pub HasRomNet : Organization → Net → Type 0
HasRomNet p = HasLeafNet (read_only p)

abbrev pub rom_role : Organization → List ℕ → LeafInstance → LeafRole
rom_role p words (BitAt bank r c) = Fixed (fixed_bit p words r c)
rom_role p words leaf = Common (role leaf)

abbrev pub rom_looks : Organization → LeafInstance → List Net
rom_looks p (BitAt bank r c) = Wl bank r ∷ []
rom_looks p (LogicAt Senn) = Control Wlen ∷ Control Dly ∷ []
rom_looks p leaf = looks p leaf

abbrev pub rom_direct : Organization → List ℕ → Circuit
rom_direct p words = record { has = HasRomLeaf p; knows = HasRomNet p; role = rom_role p words; looks = rom_looks p; drives = drives p; joins = joins p }

-- What writes, and telling reads from them, need

abbrev pub is_write_cell : LogicCell → Bool
is_write_cell Wed = true
is_write_cell Wei = true
is_write_cell Wrn = true
is_write_cell Wri = true
is_write_cell Rdn = true
is_write_cell Rdi = true
is_write_cell (Dd i) = true
is_write_cell cell = false

abbrev pub is_write_leaf : LeafInstance → Bool
is_write_leaf (WriteAt bank i) = true
is_write_leaf (LogicAt cell) = is_write_cell cell
is_write_leaf leaf = false

abbrev pub is_write_net : Net → Bool
is_write_net (Control Web0) = true
is_write_net (Control Weq) = true
is_write_net (Control We) = true
is_write_net (Control Wrb) = true
is_write_net (Control Wen) = true
is_write_net (Control Rdb) = true
is_write_net (Control Rd) = true
is_write_net (Din i) = true
is_write_net (D i) = true
is_write_net net = false

-- The read-only memory has the instances and nets of the read-write memory but for these

pub in_memory : (p : Organization) (leaf : LeafInstance) → HasRomLeaf p leaf → HasLeafInstance (writable p) leaf
in_memory p (WriteAt bank i) there = absurd (let h = there.1 in omega arith)
in_memory p (LogicAt Wed) there = absurd (omega arith)
in_memory p (LogicAt Wei) there = absurd (omega arith)
in_memory p (LogicAt Wrn) there = absurd (omega arith)
in_memory p (LogicAt Wri) there = absurd (omega arith)
in_memory p (LogicAt Rdn) there = absurd (omega arith)
in_memory p (LogicAt Rdi) there = absurd (omega arith)
in_memory p (LogicAt (Dd i)) there = absurd (omega arith)
in_memory p (LogicAt (Gn bank m)) there = absurd (let h = there.0.1 in omega arith)
in_memory p (LogicAt (Gi bank m)) there = absurd (let h = there.0.1 in omega arith)
in_memory p leaf there = there

pub net_in_memory : (p : Organization) (x : Net) → HasRomNet p x → HasLeafNet (writable p) x × (is_write_net x ≡ false)
net_in_memory p (Control Web0) there = absurd (omega arith)
net_in_memory p (Control Weq) there = absurd (omega arith)
net_in_memory p (Control We) there = absurd (omega arith)
net_in_memory p (Control Wrb) there = absurd (omega arith)
net_in_memory p (Control Wen) there = absurd (omega arith)
net_in_memory p (Control Rdb) there = absurd (omega arith)
net_in_memory p (Control Rd) there = absurd (omega arith)
net_in_memory p (Din i) there = absurd (omega arith)
net_in_memory p (D i) there = absurd (omega arith)
net_in_memory p (WenB bank m) there = absurd (let h = there.0.1 in omega arith)
net_in_memory p (WenAt bank m) there = absurd (let h = there.0.1 in omega arith)
net_in_memory p x there = (there, refl)

-- one bank without masks has no gates of write enables
ungated : (p : Organization) → IsRomPlan p → IsGated p → ⊥
ungated p ok (inl h) = let e = ok.one_bank in omega arith
ungated p ok (inr h) = let e = ok.whole in omega arith

pub leaf_back : (p : Organization) → IsRomPlan p → (leaf : LeafInstance) → is_write_leaf leaf ≡ false → HasLeafInstance (writable p) leaf → HasRomLeaf p leaf
leaf_back p ok (WriteAt bank i) e there = absurd cc
leaf_back p ok (LogicAt Wed) e there = absurd cc
leaf_back p ok (LogicAt Wei) e there = absurd cc
leaf_back p ok (LogicAt Wrn) e there = absurd cc
leaf_back p ok (LogicAt Wri) e there = absurd cc
leaf_back p ok (LogicAt Rdn) e there = absurd cc
leaf_back p ok (LogicAt Rdi) e there = absurd cc
leaf_back p ok (LogicAt (Dd i)) e there = absurd cc
leaf_back p ok (LogicAt (Gn bank m)) e there = absurd (ungated p ok there.1)
leaf_back p ok (LogicAt (Gi bank m)) e there = absurd (ungated p ok there.1)
leaf_back p ok leaf e there = there

pub net_back : (p : Organization) → IsRomPlan p → (x : Net) → is_write_net x ≡ false → HasLeafNet (writable p) x → HasRomNet p x
net_back p ok (Control Web0) e there = absurd cc
net_back p ok (Control Weq) e there = absurd cc
net_back p ok (Control We) e there = absurd cc
net_back p ok (Control Wrb) e there = absurd cc
net_back p ok (Control Wen) e there = absurd cc
net_back p ok (Control Rdb) e there = absurd cc
net_back p ok (Control Rd) e there = absurd cc
net_back p ok (Din i) e there = absurd cc
net_back p ok (D i) e there = absurd cc
net_back p ok (WenB bank m) e there = absurd (ungated p ok there.1)
net_back p ok (WenAt bank m) e there = absurd (ungated p ok there.1)
net_back p ok x e there = there

-- the netlist by port numbers and by cases

written_stands : (p : Organization) → IsRomPlan p → IsBuildable (writable p)
written_stands p ok = let b = ok.buildable in record { words = b.words; rows = b.rows; columns = b.columns; banks = b.banks; choices = b.choices; sizes = b.sizes; groups = b.groups; masks = inl ok.whole }

module _ (p : Organization) (words : List ℕ) (ok : IsRomPlan p) where
  stands : IsBuildable (writable p)
  stands = written_stands p ok

  same_drives : (leaf : LeafInstance) → HasRomLeaf p leaf → driven_nets (fixed_netlist (read_only p) words) leaf ≡ drives p leaf
  same_drives (WriteAt bank i) there = absurd (let h = there.1 in omega arith)
  same_drives (BitAt bank r c) there = refl
  same_drives (LogicAt Senn) there = refl
  same_drives leaf there = (place_same (writable p) leaf (in_memory p leaf there) stands).drives

  same_joins : (leaf : LeafInstance) → HasRomLeaf p leaf → joined_nets (fixed_netlist (read_only p) words) leaf ≡ joins p leaf
  same_joins (WriteAt bank i) there = absurd (let h = there.1 in omega arith)
  same_joins (BitAt bank r c) there = refl
  same_joins (LogicAt Senn) there = refl
  same_joins leaf there = (place_same (writable p) leaf (in_memory p leaf there) stands).joins

  same_acts : (s : State) (v : Net → Bool) (leaf : LeafInstance) → HasRomLeaf p leaf → act_at (rom_circuit (read_only p) words) s v leaf ≡ act_at (rom_direct p words) s v leaf
  same_acts s v (WriteAt bank i) there = absurd (let h = there.1 in omega arith)
  same_acts s v (BitAt bank r c) there = refl
  same_acts s v (LogicAt Senn) there = refl
  same_acts s v leaf there = (place_same (writable p) leaf (in_memory p leaf there) stands).acts s v (omega arith)

  same_bits : (s : State) (leaf : LeafInstance) → HasRomLeaf p leaf → bits (fixed_role (read_only p) words leaf) s leaf ≡ bits (rom_role p words leaf) s leaf
  same_bits s (BitAt bank r c) there = refl
  same_bits s leaf there = (place_same (writable p) leaf (in_memory p leaf there) stands).bits s

  same_flops : (leaf : LeafInstance) → HasRomLeaf p leaf → rom_role p words leaf ≡ Common Dff → fixed_role (read_only p) words leaf ≡ Common Dff
  same_flops (BitAt bank r c) there e = absurd cc
  same_flops leaf there e = (place_same (writable p) leaf (in_memory p leaf there) stands).flops e

  same_flops_back : (leaf : LeafInstance) → HasRomLeaf p leaf → fixed_role (read_only p) words leaf ≡ Common Dff → rom_role p words leaf ≡ Common Dff
  same_flops_back (BitAt bank r c) there e = absurd cc
  same_flops_back leaf there e = (place_same (writable p) leaf (in_memory p leaf there) stands).flops_back e

  pub rom_same : SameCircuit (rom_circuit (read_only p) words) (rom_direct p words)
  rom_same = record {
    there = λ leaf t. t;
    back = λ leaf t. t;
    knows = λ x t. t;
    known = λ x t. t;
    drives = same_drives;
    joins = same_joins;
    acts = same_acts;
    bits = same_bits;
    flops = same_flops;
    flops_back = same_flops_back;
  }
