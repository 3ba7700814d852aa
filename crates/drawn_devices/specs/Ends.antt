-- The nets at the ends of a flow.
use Rattle.std.specs.Prelude.{◌≡◌, ℕ}
use Rattle.or_geom.specs.declared.shape.Rect.{Rect}
use Rattle.drawn_devices.specs.declared.cut_cell.CutCell.{CutCell}
use Rattle.drawn_devices.specs.declared.drawn.Flow.{Flow}
use Rattle.drawn_devices.specs.declared.drawn.Side.{Side}
use Rattle.drawn_devices.specs.declared.drawn.Terminals.{Terminals}
use Rattle.drawn_devices.specs.NetsOver.{IsNetOver}
use Rattle.drawn_devices.specs.Sides.{IsOpen, IsStrip, first_side, second_side}

-- a shape of the layer that lies along the side has this number
pub record IsNetAlong (cell : CutCell) (layer : ℕ) (area : Rect) (side : Side) (net : ℕ) : Type 0 where
  pub strip : Rect
  pub is : IsStrip side area strip
  pub over : IsNetOver cell.bins cell.nets layer strip net

-- the terminals have this gate and such numbers
pub record AreEnds (cell : CutCell) (layer : ℕ) (area : Rect) (flow : Flow) (gate : ℕ) (terminals : Terminals) : Type 0 where
  pub gate_is : terminals.gate ≡ gate
  pub first : IsNetAlong cell layer area (first_side flow) terminals.first
  pub second : IsNetAlong cell layer area (second_side flow) terminals.second

-- not both sides are open
abbrev pub HaveNoEnds : CutCell → ℕ → Rect → Flow → Type 0
HaveNoEnds cell layer area flow = IsOpen cell.tech.now cell.shapes.now layer area (first_side flow) → IsOpen cell.tech.now cell.shapes.now layer area (second_side flow) → ⊥
