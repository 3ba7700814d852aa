-- The nets of a memory.
use Rattle.std.specs.Prelude.{ℕ}

-- nets of which a memory has one: the control ports clk0, csb0 and web0, and what the control logic makes of them
pub data ControlSignal : Type 0 where
  Clk0 : ControlSignal
  Csb0 : ControlSignal
  Web0 : ControlSignal
  -- the clock inverted
  Clkb : ControlSignal
  -- csb0 and web0 latched, and inverted
  Csq : ControlSignal
  Weq : ControlSignal
  Cs : ControlSignal
  We : ControlSignal
  -- the word line enable, and before its inverter
  Wlb : ControlSignal
  Wlen : ControlSignal
  -- the write enable
  Wrb : ControlSignal
  Wen : ControlSignal
  -- a read, the clock delayed, and the sense enable
  Rdb : ControlSignal
  Rd : ControlSignal
  Dly : ControlSignal
  Seb : ControlSignal
  Sen : ControlSignal

-- Where a net is of one bank the bank comes first. A line is on exactly where the b address bits from bit o on make the
-- number k: a column choice (sel), a predecode line (p) or a bank choice (e).
pub data Net : Type 0 where
  Vdd : Net
  Gnd : Net
  Control : ControlSignal → Net
  -- addr0[i], din0[i], dout0[i], wmask0[m]
  Addr : ℕ → Net
  Din : ℕ → Net
  Dout : ℕ → Net
  Wmask : ℕ → Net
  -- an address bit latched and its complement, a data bit and a mask bit latched: a, n, d, m
  A : ℕ → Net
  Na : ℕ → Net
  D : ℕ → Net
  M : ℕ → Net
  -- a line before its inverter, and the line: o, b and k
  LineB : ℕ → ℕ → ℕ → Net
  Line : ℕ → ℕ → ℕ → Net
  -- a bank's word line enable and sense enable, each before its inverter and after: lb, wlen, kb, sen
  WlenB : ℕ → Net
  WlenAt : ℕ → Net
  SenB : ℕ → Net
  SenAt : ℕ → Net
  -- a bank's write enable for a mask: wx, we
  WenB : ℕ → ℕ → Net
  WenAt : ℕ → ℕ → Net
  -- a row's gate and its word line: zb, wl
  Zb : ℕ → ℕ → Net
  Wl : ℕ → ℕ → Net
  -- a column's bit lines: bl, br
  Bl : ℕ → ℕ → Net
  Br : ℕ → ℕ → Net
  -- the lines of a bit of the word behind the multiplexers: lo, ro
  Lo : ℕ → ℕ → Net
  Ro : ℕ → ℕ → Net
