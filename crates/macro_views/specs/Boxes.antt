-- The boxes of the LEF text, metal by metal, and what they cover. Metals are counted from 0.
use Rattle.std.specs.Prelude.{◌≡◌, ◌⊎◌, ℕ, zero, suc, ℤ, ◌≤ℤ◌, ◌<ℤ◌, ◌+ℤ◌, Contains}
use Rattle.or_geom.specs.declared.shape.Rect.{Rect}
use Rattle.or_geom.specs.Covered.{HasCell}
use Rattle.sram_plan.specs.declared.view.Abstract.{Abstract}
use Rattle.sram_plan.specs.declared.view.SignalPin.{SignalPin}
use Rattle.macro_views.specs.declared.lef.LefBox.{LefBox}
use Rattle.macro_views.specs.Lef.{signal_box, supply_box, blocked_box}

-- the box of a pin on the metal: of vdd or gnd on the second, of a signal on the third
abbrev pub IsPinBox : Abstract → ℕ → LefBox → Type 0
IsPinBox view (suc zero) area = (area ≡ supply_box view view.supply_x) ⊎ (area ≡ supply_box view (view.supply_x +ℤ view.pitch))
IsPinBox view (suc (suc zero)) area = (pin : SignalPin) × Contains view.signals pin × (area ≡ signal_box view pin)
IsPinBox view metal area = ⊥

-- a box of the text on the metal: of a pin, or where the metal is blocked
abbrev pub IsBoxOn : Abstract → ℕ → LefBox → Type 0
IsBoxOn view metal area = IsPinBox view metal area ⊎ (area ≡ blocked_box view metal)

-- the unit cell with its lower left corner at (x, y) lies in the box
pub record BoxHasCell (area : LefBox) (x y : ℤ) : Type 0 where
  pub left : area.x1 ≤ℤ x
  pub right : x <ℤ area.x2
  pub low : area.y1 ≤ℤ y
  pub high : y <ℤ area.y2

-- each unit cell of the rectangle lies in a box of the text on the metal
abbrev pub IsCoveredOn : Abstract → ℕ → Rect → Type 0
IsCoveredOn view metal r = (x y : ℤ) → HasCell r x y → (area : LefBox) × IsBoxOn view metal area × BoxHasCell area x y
