-- The leaf instances of a memory.
use Rattle.std.specs.Prelude.{ℕ}

-- cells of the logic row, by the names of their instances
pub data LogicCell : Type 0 where
  -- xclki, xcsd, xwed, xcsi, xwei
  Clki : LogicCell
  Csd : LogicCell
  Wed : LogicCell
  Csi : LogicCell
  Wei : LogicCell
  -- xwln, xwli, xwrn, xwri
  Wln : LogicCell
  Wli : LogicCell
  Wrn : LogicCell
  Wri : LogicCell
  -- xrdn, xrdi, xdly, xsen, xsei
  Rdn : LogicCell
  Rdi : LogicCell
  Dlay : LogicCell
  Senn : LogicCell
  Seni : LogicCell
  -- of an address bit: xad, xai; of a data bit: xdd; of a mask bit: xdm
  Ad : ℕ → LogicCell
  Ai : ℕ → LogicCell
  Dd : ℕ → LogicCell
  Dm : ℕ → LogicCell
  -- of a line with lowest address bit o, b bits and number k, the gate and its inverter: xsn and xsi of a column choice,
  -- xpn and xpi of a group, xbn and xbi of a bank choice
  Pn : ℕ → ℕ → ℕ → LogicCell
  Pi : ℕ → ℕ → ℕ → LogicCell
  -- of a bank: xln, xli, xkn, xki
  Ln : ℕ → LogicCell
  Li : ℕ → LogicCell
  Kn : ℕ → LogicCell
  Ki : ℕ → LogicCell
  -- of a bank and a mask: xgn, xgi
  Gn : ℕ → ℕ → LogicCell
  Gi : ℕ → ℕ → LogicCell

-- the bank comes first, then the row, the column or the bit of the word
pub data LeafInstance : Type 0 where
  BitAt : ℕ → ℕ → ℕ → LeafInstance
  NandAt : ℕ → ℕ → LeafInstance
  DriverAt : ℕ → ℕ → LeafInstance
  PrechargeAt : ℕ → ℕ → LeafInstance
  WriteAt : ℕ → ℕ → LeafInstance
  SenseAt : ℕ → ℕ → LeafInstance
  MuxAt : ℕ → ℕ → LeafInstance
  TieAt : ℕ → ℕ → LeafInstance
  LogicAt : LogicCell → LeafInstance
