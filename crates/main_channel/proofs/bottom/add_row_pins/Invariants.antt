use Rattle.std.proofs.Common.{◌≡◌, ◌++◌, ℕ, ◌+◌, ◌*◌, pos, ◌+ℤ◌}
use Rattle.std.specs.Prelude.{take}
use Rattle.floorplan.specs.LeafSides.{leaf_width}
use Rattle.floorplan.specs.FloorplanNumbers.{IsUpTo}
use Rattle.main_channel.specs.Leaves.{pin_begin}
use Rattle.main_channel.specs.Numbers.{found_number, IsNetNumbering}
use Rattle.main_channel.specs.Pins.{AreMainPins}
use Rattle.main_channel.specs.Row.{row_pins}
use Rattle.main_channel.proofs.StepLaws.{widths_of}
use Rattle.main_channel.proofs.bottom.add_row_pins.Given as goal

abbrev pub invariant-loop-cell : goal.invariant-loop-cell
invariant-loop-cell l = record {
  near : IsUpTo (131072 + 65536 * l.cell) l.x;
  here : l.x ≡ l.logic_x +ℤ pos (widths_of (leaf_width l.kit) (take l.cell l.roles));
  is : l.pins.items ≡ l.fn.pins.items ++ row_pins (pin_begin l.kit) (leaf_width l.kit) (found_number l.numbers) (take l.cell l.gates) (take l.cell l.roles) l.logic_x;
  main : (nets : ℕ) → IsNetNumbering nets (found_number l.numbers) → AreMainPins nets l.fn.pins.items → AreMainPins nets l.pins.items;
}
