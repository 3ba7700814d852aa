-- A label of a cell's own elements as plain data.
use Rattle.std.specs.Prelude.{[]}
use Rattle.element_drawing.specs.PlainLabel.{PlainLabel}
use Rattle.element_drawing.specs.declared.label.ElementLabel.{ElementLabel}

-- its path is empty
abbrev pub pathless : ElementLabel → PlainLabel
pathless label = record { path = []; name = label.name.now; layer = label.layer; at = label.at }
