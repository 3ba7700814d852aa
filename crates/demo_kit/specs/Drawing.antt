-- What each cell of the demonstration kit draws, before it is scaled.
use Rattle.std.specs.Prelude.{ℕ, ◌+◌, List, [], ◌∷◌, ◌++◌, map, codes}
use Rattle.cell_roles.specs.declared.role.Role.{Role}
use Rattle.cell_roles.specs.declared.role.Role.TheVariants.{Bitcell, Precharge, Mux, Tie, Sense, Write, RowNand2, RowNand3, Driver, Nand2, Nand3, Inv, Dff, Delay}
use Rattle.demo_kit.specs.declared.layer.DemoLayer.{DemoLayer}
use Rattle.demo_kit.specs.declared.layer.DemoLayer.TheVariants.{Outline, M1, M2, Via2, M3, Via3, M4}
use Rattle.demo_kit.specs.declared.drawing.CellBox.{CellBox}

-- from the lower left corner to the upper right one
abbrev pub box_at : DemoLayer → ℕ → ℕ → ℕ → ℕ → CellBox
box_at on left low right high = record { layer = on; x1 = left; y1 = low; x2 = right; y2 = high }

-- a box that is the shape of a pin
pub record DrawnPin : Type 0 where
  pub name : List ℕ
  pub shape : CellBox

abbrev pub pin_at : List ℕ → DemoLayer → ℕ → ℕ → ℕ → ℕ → DrawnPin
pin_at text on left low right high = record { name = text; shape = box_at on left low right high }

abbrev pub cell_width : Role → ℕ
cell_width Nand2 = 24
cell_width Inv = 16
cell_width Dff = 24
cell_width Delay = 16
cell_width role = 32

-- each cell is 32 high
abbrev pub outline_box : Role → CellBox
outline_box role = box_at Outline 0 0 (cell_width role) 32

-- the supplies, along the lower edge and along the upper one
abbrev pub lower_rail : List ℕ → ℕ → DrawnPin
lower_rail text width = pin_at text M1 0 0 width 4

abbrev pub upper_rail : List ℕ → ℕ → DrawnPin
upper_rail text width = pin_at text M1 0 28 width 32

-- gnd and then vdd
abbrev pub gnd_below : ℕ → List DrawnPin
gnd_below width = lower_rail (codes "gnd") width ∷ upper_rail (codes "vdd") width ∷ []

abbrev pub vdd_below : ℕ → List DrawnPin
vdd_below width = upper_rail (codes "gnd") width ∷ lower_rail (codes "vdd") width ∷ []

-- gnd lies below, but in three roles above
abbrev pub rail_pins : Role → List DrawnPin
rail_pins Mux = vdd_below (cell_width Mux)
rail_pins Tie = vdd_below (cell_width Tie)
rail_pins Write = vdd_below (cell_width Write)
rail_pins role = gnd_below (cell_width role)

-- a pin of a gate, at the upper edge
abbrev pub top_pin : List ℕ → ℕ → DrawnPin
top_pin text left = pin_at text M2 left 20 (left + 4) 32

-- the other pins
abbrev pub signal_pins : Role → List DrawnPin
signal_pins Bitcell =
    pin_at (codes "bl") M2 2 0 6 32 ∷ pin_at (codes "br") M2 26 0 30 32 ∷ pin_at (codes "wl") M1 0 14 32 18 ∷ []
signal_pins Precharge =
    pin_at (codes "bl") M2 2 0 6 20 ∷ pin_at (codes "br") M2 26 0 30 20 ∷ pin_at (codes "en_bar") M3 2 14 6 18 ∷ []
signal_pins Mux =
    pin_at (codes "bl") M2 2 20 6 32 ∷ pin_at (codes "br") M2 26 20 30 32
    ∷ pin_at (codes "blo") M4 2 0 6 8 ∷ pin_at (codes "bro") M4 26 0 30 8 ∷ pin_at (codes "sel") M4 14 0 18 8 ∷ []
signal_pins Tie =
    pin_at (codes "bl") M2 2 12 6 32 ∷ pin_at (codes "bl") M4 2 0 6 16
    ∷ pin_at (codes "br") M2 26 12 30 32 ∷ pin_at (codes "br") M4 26 0 30 16 ∷ []
signal_pins Sense =
    pin_at (codes "bl") M2 2 0 6 32 ∷ pin_at (codes "br") M2 26 0 30 32
    ∷ pin_at (codes "dout") M4 10 0 14 8 ∷ pin_at (codes "en") M3 14 14 18 18 ∷ []
signal_pins Write =
    pin_at (codes "din") M4 2 0 6 8 ∷ pin_at (codes "bl") M2 2 20 6 32
    ∷ pin_at (codes "br") M2 26 20 30 32 ∷ pin_at (codes "en") M4 18 0 22 8 ∷ []
signal_pins RowNand2 =
    pin_at (codes "a") M3 2 2 6 6 ∷ pin_at (codes "b") M3 2 10 6 14 ∷ pin_at (codes "z") M1 20 14 32 18 ∷ []
signal_pins RowNand3 =
    pin_at (codes "a") M3 2 2 6 6 ∷ pin_at (codes "b") M3 2 10 6 14
    ∷ pin_at (codes "c") M3 2 18 6 22 ∷ pin_at (codes "z") M1 20 14 32 18 ∷ []
signal_pins Driver =
    pin_at (codes "a") M1 0 14 12 18 ∷ pin_at (codes "en") M3 2 26 6 30 ∷ pin_at (codes "z") M1 20 14 32 18 ∷ []
signal_pins Nand2 = top_pin (codes "a") 2 ∷ top_pin (codes "b") 10 ∷ top_pin (codes "z") 18 ∷ []
signal_pins Nand3 =
    top_pin (codes "a") 2 ∷ top_pin (codes "b") 10 ∷ top_pin (codes "c") 18 ∷ top_pin (codes "z") 26 ∷ []
signal_pins Inv = top_pin (codes "a") 2 ∷ top_pin (codes "z") 10 ∷ []
signal_pins Dff = top_pin (codes "d") 2 ∷ top_pin (codes "clk") 10 ∷ top_pin (codes "q") 18 ∷ []
signal_pins Delay = top_pin (codes "a") 2 ∷ top_pin (codes "z") 10 ∷ []

-- boxes that no pin names: in the tie the bit lines go from metal 2 to metal 4
abbrev pub inner_boxes : Role → List CellBox
inner_boxes Tie =
    box_at M3 2 12 6 16 ∷ box_at M3 26 12 30 16
    ∷ box_at Via2 3 13 5 15 ∷ box_at Via3 3 13 5 15 ∷ box_at Via2 27 13 29 15 ∷ box_at Via3 27 13 29 15 ∷ []
inner_boxes role = []

-- the supplies, and then the other pins
abbrev pub cell_pins : Role → List DrawnPin
cell_pins role = rail_pins role ++ signal_pins role

-- the outline, the shapes of the pins, and the other boxes
abbrev pub cell_boxes : Role → List CellBox
cell_boxes role = outline_box role ∷ (map (λ p. p.shape) (cell_pins role) ++ inner_boxes role)
