-- What a cell of each role does at the values of its inputs and its stored bits, by formula.
use Rattle.std.specs.Prelude.{List, [], ◌∷◌, Bool, true, false, ◌&&◌, not, if◌then◌else◌}
use Rattle.cell_roles.specs.declared.role.Role.{Role}
use Rattle.cell_roles.specs.declared.role.Role.TheVariants.{Bitcell, Precharge, Mux, Sense, Write, RowNand2, RowNand3, Driver, Nand2, Nand3, Inv, Dff, Delay}

-- what a cell puts on a pin that it may drive: nothing, a value, or a value that a strong one overrides
pub data Drive : Type 0 where
  Off : Drive
  Strong : Bool → Drive
  Weak : Bool → Drive

-- for each pin that it may drive what it puts there, for each pair that it may join whether it does, and its next stored bits
pub record Act : Type 0 where
  pub drives : List Drive
  pub joins : List Bool
  pub next : List Bool

abbrev pub all_high : List Bool → Bool
all_high [] = true
all_high (b ∷ bs) = b && all_high bs

abbrev pub differ : Bool → Bool → Bool
differ true b = not b
differ false b = b

abbrev pub low_if : Bool → Drive
low_if true = Weak false
low_if false = Off

abbrev pub high_unless : Bool → Drive
high_unless true = Off
high_unless false = Strong true

abbrev pub strong_if : Bool → Bool → Drive
strong_if true b = Strong b
strong_if false b = Off

-- the next bit of a bitcell with word line wl and bit lines bl and br
abbrev pub cell_bit : Bool → Bool → Bool → Bool → Bool
cell_bit wl bl br q = if wl && differ bl br then bl else q

-- the output of a flip-flop with input d and the clock, whose clock was p before
abbrev pub flop_bit : Bool → Bool → Bool → Bool → Bool
flop_bit d clk q p = if clk && not p then d else q

abbrev pub act : Role → List Bool → List Bool → Act
act Bitcell (wl ∷ bl ∷ br ∷ []) (q ∷ []) = record { drives = low_if (wl && not q) ∷ low_if (wl && q) ∷ []; joins = []; next = cell_bit wl bl br q ∷ [] }
act Precharge (en_bar ∷ []) st = record { drives = high_unless en_bar ∷ high_unless en_bar ∷ []; joins = []; next = [] }
act Mux (sel ∷ []) st = record { drives = []; joins = sel ∷ sel ∷ []; next = [] }
act Sense (en ∷ bl ∷ br ∷ []) st = record { drives = strong_if (en && differ bl br) bl ∷ []; joins = []; next = [] }
act Write (en ∷ din ∷ []) st = record { drives = strong_if en din ∷ strong_if en (not din) ∷ []; joins = []; next = [] }
act RowNand2 values st = record { drives = Strong (not (all_high values)) ∷ []; joins = []; next = [] }
act RowNand3 values st = record { drives = Strong (not (all_high values)) ∷ []; joins = []; next = [] }
act Nand2 values st = record { drives = Strong (not (all_high values)) ∷ []; joins = []; next = [] }
act Nand3 values st = record { drives = Strong (not (all_high values)) ∷ []; joins = []; next = [] }
act Inv values st = record { drives = Strong (not (all_high values)) ∷ []; joins = []; next = [] }
act Driver (a ∷ en ∷ []) st = record { drives = Strong (en && not a) ∷ []; joins = []; next = [] }
act Dff (d ∷ clk ∷ []) (q ∷ p ∷ []) = record { drives = Strong (flop_bit d clk q p) ∷ []; joins = []; next = flop_bit d clk q p ∷ clk ∷ [] }
act Delay (a ∷ []) (s ∷ []) = record { drives = Strong s ∷ []; joins = []; next = a ∷ [] }
act role values st = record { drives = []; joins = []; next = [] }
