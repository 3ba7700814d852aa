-- A memory that differs from a small one in the number of slices and in its masks alone, and how nets move.
use Rattle.std.specs.Prelude.{◌≡◌, ◌⊎◌, ℕ, ◌+◌, ◌*◌, ◌<◌, map}
use Rattle.sram_netlist.specs.Organization.{Organization, words_per_row}
use Rattle.sram_netlist.specs.Nets.{Net, Din, Dout, D, Wmask, M, WenB, WenAt, Bl, Br, Lo, Ro}
use Rattle.sram_netlist.specs.Instances.{LogicCell, LeafInstance, Dd, Dm, Gn, Gi, BitAt, NandAt, DriverAt, PrechargeAt, WriteAt, SenseAt, MuxAt, TieAt, LogicAt}
use Rattle.sram_netlist.specs.Netlist.{ports, mask_of}

-- Rows, words in a row and banks are the same. Both are written; either neither has masks, or both do and the small one writes bit by bit.
pub record IsLike (plan small : Organization) : Type 0 where
  pub bank_bits : small.bank_bits ≡ plan.bank_bits
  pub col_bits : small.col_bits ≡ plan.col_bits
  pub groups : small.groups ≡ plan.groups
  pub written : 0 < plan.write_size
  pub small_written : 0 < small.write_size
  pub masks : ((plan.masks ≡ 0) × (small.masks ≡ 0)) ⊎ ((0 < plan.masks) × (0 < small.masks) × (small.write_size ≡ 1))

-- Slices

-- so many slices further, so many columns further
abbrev pub slice_net : Organization → ℕ → Net → Net
slice_net plan k (Din i) = Din (i + k)
slice_net plan k (Dout i) = Dout (i + k)
slice_net plan k (D i) = D (i + k)
slice_net plan k (Lo bank i) = Lo bank (i + k)
slice_net plan k (Ro bank i) = Ro bank (i + k)
slice_net plan k (Bl bank c) = Bl bank (c + k * words_per_row plan)
slice_net plan k (Br bank c) = Br bank (c + k * words_per_row plan)
-- where there are masks, the small memory has one for each bit
slice_net plan k (WenAt bank i) = WenAt bank (mask_of plan.masks plan.write_size (i + k))
slice_net plan k net = net

abbrev pub slice_leaf : Organization → ℕ → LeafInstance → LeafInstance
slice_leaf plan k (BitAt bank r c) = BitAt bank r (c + k * words_per_row plan)
slice_leaf plan k (PrechargeAt bank c) = PrechargeAt bank (c + k * words_per_row plan)
slice_leaf plan k (WriteAt bank i) = WriteAt bank (i + k)
slice_leaf plan k (SenseAt bank i) = SenseAt bank (i + k)
slice_leaf plan k (MuxAt bank c) = MuxAt bank (c + k * words_per_row plan)
slice_leaf plan k (TieAt bank c) = TieAt bank (c + k * words_per_row plan)
slice_leaf plan k (LogicAt (Dd i)) = LogicAt (Dd (i + k))
slice_leaf plan k leaf = leaf

-- the instances of banks, and the flip-flops of data bits
abbrev pub IsInSlices : LeafInstance → Type 0
IsInSlices (BitAt bank r c) = Unit {0}
IsInSlices (NandAt bank r) = Unit {0}
IsInSlices (DriverAt bank r) = Unit {0}
IsInSlices (PrechargeAt bank c) = Unit {0}
IsInSlices (WriteAt bank i) = Unit {0}
IsInSlices (SenseAt bank i) = Unit {0}
IsInSlices (MuxAt bank c) = Unit {0}
IsInSlices (TieAt bank c) = Unit {0}
IsInSlices (LogicAt (Dd i)) = Unit {0}
IsInSlices (LogicAt cell) = ⊥

-- The nets on the ports of a moved instance are the moved nets.
abbrev pub SlicesMove : Type 0
SlicesMove = (plan small : Organization) (k : ℕ) (leaf : LeafInstance) → IsLike plan small → IsInSlices leaf → ports plan (slice_leaf plan k leaf) ≡ map (slice_net plan k) (ports small leaf)

-- The logic row

-- Data bits move by k. Masks move by one function, and those of each bank by another: the gates of two banks stand side by side.
pub record Moves : Type 0 where
  pub k : ℕ
  pub mask : ℕ → ℕ
  pub of_bank : ℕ → ℕ → ℕ

abbrev pub logic_net : Moves → Net → Net
logic_net v (Din i) = Din (i + v.k)
logic_net v (D i) = D (i + v.k)
logic_net v (Wmask m) = Wmask (v.mask m)
logic_net v (M m) = M (v.mask m)
logic_net v (WenB bank m) = WenB bank (v.of_bank bank m)
logic_net v (WenAt bank m) = WenAt bank (v.of_bank bank m)
logic_net v net = net

abbrev pub moved_cell : Moves → LogicCell → LogicCell
moved_cell v (Dd i) = Dd (i + v.k)
moved_cell v (Dm m) = Dm (v.mask m)
moved_cell v (Gn bank m) = Gn bank (v.of_bank bank m)
moved_cell v (Gi bank m) = Gi bank (v.of_bank bank m)
moved_cell v cell = cell

-- a gate's mask moves as the mask's flip-flop does
abbrev pub MovesAsMask : Moves → LogicCell → Type 0
MovesAsMask v (Gn bank m) = v.of_bank bank m ≡ v.mask m
MovesAsMask v cell = Unit {0}

-- The nets on the ports of a moved cell are the moved nets.
abbrev pub LogicMoves : Type 0
LogicMoves = (plan small : Organization) (v : Moves) (cell : LogicCell) → IsLike plan small → MovesAsMask v cell → ports plan (LogicAt (moved_cell v cell)) ≡ map (logic_net v) (ports small (LogicAt cell))
