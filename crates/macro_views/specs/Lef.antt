-- The LEF text of a macro: its size, its pins and its obstructions (LEF 5.8).
use Rattle.std.specs.Prelude.{ℕ, zero, suc, ℤ, pos, ◌≤ℤ◌, ◌+ℤ◌, ◌-ℤ◌, List, [], ◌∷◌, ◌++◌, if◌then◌else◌, codes, flat_map, slice_index_or}
use Rattle.sram_plan.specs.declared.view.Abstract.{Abstract}
use Rattle.sram_plan.specs.declared.view.SignalPin.{SignalPin}
use Rattle.macro_views.specs.declared.lef.LefBox.{LefBox}
use Rattle.macro_views.specs.Lines.{text_of_lines}
use Rattle.macro_views.specs.Microns.{microns}

-- the metals' names, from 0
abbrev pub metal_name : Abstract → ℕ → List ℕ
metal_name view i = slice_index_or view.metals i []

-- a box of lengths, none negative
pub record HasNoNegativeLength (area : LefBox) : Type 0 where
  pub x1 : pos 0 ≤ℤ area.x1
  pub y1 : pos 0 ≤ℤ area.y1
  pub x2 : pos 0 ≤ℤ area.x2
  pub y2 : pos 0 ≤ℤ area.y2

abbrev pub corner_text : ℤ → ℤ → List ℕ
corner_text x y = microns x ++ codes " " ++ microns y

-- the box from one corner to the other
abbrev pub box_text : LefBox → List ℕ
box_text area = codes "RECT " ++ corner_text area.x1 area.y1 ++ codes " " ++ corner_text area.x2 area.y2 ++ codes " ;"

-- one box on a layer
abbrev pub port_lines : List ℕ → LefBox → List (List ℕ)
port_lines layer area =
    codes "    PORT"
    ∷ (codes "      LAYER " ++ layer ++ codes " ;")
    ∷ (codes "        " ++ box_text area)
    ∷ codes "    END"
    ∷ []

abbrev pub pin_lines : List ℕ → List ℕ → List ℕ → List ℕ → LefBox → List (List ℕ)
pin_lines name direction use_of layer area =
    (codes "  PIN " ++ name)
    ∷ (codes "    DIRECTION " ++ direction ++ codes " ;")
    ∷ (codes "    USE " ++ use_of ++ codes " ;")
    ∷ (port_lines layer area
    ++ (codes "  END " ++ name)
    ∷ [])

abbrev pub signal_direction : SignalPin → List ℕ
signal_direction pin = if pin.output then codes "OUTPUT" else codes "INPUT"

abbrev pub signal_use : SignalPin → List ℕ
signal_use pin = if pin.clock then codes "CLOCK" else codes "SIGNAL"

-- a signal's wire, at the macro's left side: a pitch long
abbrev pub signal_box : Abstract → SignalPin → LefBox
signal_box view pin = record { x1 = pos 0; y1 = pin.y; x2 = view.pitch; y2 = pin.y +ℤ view.wire }

-- a supply's trunk, from the macro's lower to its upper side
abbrev pub supply_box : Abstract → ℤ → LefBox
supply_box view x = record { x1 = x; y1 = pos 0; x2 = x +ℤ view.wire; y2 = view.height }

-- what is blocked: all, but on the second metal from a space before the supplies on, and on the third a pitch at the left side
abbrev pub whole_box : Abstract → LefBox
whole_box view = record { x1 = pos 0; y1 = pos 0; x2 = view.width; y2 = view.height }

abbrev pub before_supplies : Abstract → LefBox
before_supplies view = record (whole_box view) { x2 = view.supply_x -ℤ view.space }

abbrev pub behind_signals : Abstract → LefBox
behind_signals view = record (whole_box view) { x1 = view.pitch }

-- Metals are counted from 0.
abbrev pub blocked_box : Abstract → ℕ → LefBox
blocked_box view zero = whole_box view
blocked_box view (suc zero) = before_supplies view
blocked_box view (suc (suc zero)) = behind_signals view
blocked_box view (suc (suc (suc metal))) = whole_box view

-- a signal's pin is on the third metal
abbrev pub signal_lines : Abstract → SignalPin → List (List ℕ)
signal_lines view pin = pin_lines pin.name (signal_direction pin) (signal_use pin) (metal_name view 2) (signal_box view pin)

abbrev pub signal_text : Abstract → SignalPin → List ℕ
signal_text view pin = text_of_lines (signal_lines view pin)

-- a supply's pin is on the second metal
abbrev pub supply_lines : Abstract → List ℕ → List ℕ → ℤ → List (List ℕ)
supply_lines view name use_of x = pin_lines name (codes "INOUT") use_of (metal_name view 1) (supply_box view x)

-- vdd, and gnd a pitch further right
abbrev pub supplies_lines : Abstract → List (List ℕ)
supplies_lines view =
    supply_lines view (codes "vdd") (codes "POWER") view.supply_x
    ++ supply_lines view (codes "gnd") (codes "GROUND") (view.supply_x +ℤ view.pitch)

-- a box of a metal where no wire may be drawn
abbrev pub blocked_lines : List ℕ → LefBox → List (List ℕ)
blocked_lines layer area =
    (codes "    LAYER " ++ layer ++ codes " ;")
    ∷ (codes "      " ++ box_text area)
    ∷ []

abbrev pub metal_lines : Abstract → ℕ → List (List ℕ)
metal_lines view metal = blocked_lines (metal_name view metal) (blocked_box view metal)

abbrev pub obstruction_lines : Abstract → List (List ℕ)
obstruction_lines view =
    codes "  OBS"
    ∷ (metal_lines view 0
    ++ metal_lines view 1
    ++ metal_lines view 2
    ++ metal_lines view 3
    ++ codes "  END"
    ∷ [])

abbrev pub size_text : Abstract → List ℕ
size_text view = codes "  SIZE " ++ microns view.width ++ codes " BY " ++ microns view.height ++ codes " ;"

abbrev pub head_lines : Abstract → List (List ℕ)
head_lines view =
    codes "VERSION 5.8 ;"
    ∷ codes "BUSBITCHARS \"[]\" ;"
    ∷ codes "DIVIDERCHAR \"/\" ;"
    ∷ codes "UNITS"
    ∷ codes "  DATABASE MICRONS 1000 ;"
    ∷ codes "END UNITS"
    ∷ (codes "MACRO " ++ view.name)
    ∷ codes "  CLASS BLOCK ;"
    ∷ size_text view
    ∷ codes "  SYMMETRY X Y ;"
    ∷ []

abbrev pub end_lines : Abstract → List (List ℕ)
end_lines view = (codes "END " ++ view.name) ∷ codes "END LIBRARY" ∷ []

abbrev pub lef_text : Abstract → List ℕ
lef_text view =
    text_of_lines (head_lines view ++ flat_map (signal_lines view) view.signals ++ supplies_lines view ++ obstruction_lines view ++ end_lines view)
