-- The limits of flat rows.
use Rattle.std.specs.Prelude.{ℕ, ◌^◌}

-- the most leaf instances
abbrev pub most_leaves : ℕ
most_leaves = 2 ^ 20

-- the most rows: the top's ports and the pins of leaf instances
abbrev pub most_pins : ℕ
most_pins = 2 ^ 24
