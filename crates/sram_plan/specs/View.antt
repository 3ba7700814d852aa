-- What holds of every abstract view that is written.
use Rattle.std.specs.Prelude.{◌≡◌, ◌^◌, ℤ, pos, ◌≤ℤ◌, length, All}
use Rattle.sram_plan.specs.declared.view.Abstract.{Abstract}
use Rattle.sram_plan.specs.declared.view.SignalPin.{SignalPin}

-- a number from 0 to 2^40
pub record IsLength (z : ℤ) : Type 0 where
  pub low : pos 0 ≤ℤ z
  pub high : z ≤ℤ pos (2 ^ 40)

-- there are four metals, each number is a length, and the space fits before the supplies
pub record IsView (view : Abstract) : Type 0 where
  pub metals : length view.metals ≡ 4
  pub width : IsLength view.width
  pub height : IsLength view.height
  pub pitch : IsLength view.pitch
  pub supply_x : IsLength view.supply_x
  pub space : IsLength view.space
  pub wire : IsLength view.wire
  pub before_supplies : view.space ≤ℤ view.supply_x
  pub signals : All (λ (pin : SignalPin). IsLength pin.y) view.signals
