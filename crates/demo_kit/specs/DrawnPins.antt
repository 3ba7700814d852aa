-- The pins of the code as the definitions name them.
use Rattle.demo_kit.specs.declared.drawing.PinBox.{PinBox}
use Rattle.demo_kit.specs.Drawing.{DrawnPin}

abbrev pub drawn : PinBox → DrawnPin
drawn p = record { name = p.pin.now; shape = p.shape }
