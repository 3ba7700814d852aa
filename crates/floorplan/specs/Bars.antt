-- Bars along every second row.
use Rattle.std.specs.Prelude.{◌≡◌, ◌<◌, ◌*◌, ◌%◌, ℕ, ℤ, pos, ◌+ℤ◌}
use Rattle.or_geom.specs.declared.shape.Shape.{Shape}
use Rattle.tech_rules.specs.declared.tech.Wire.{Wire}
use Rattle.macro_layout.specs.Wires.{IsBar}

-- The bar of row r, where its parity is that of the rows with a bar. Rows begin at (x, y), each so high.
abbrev pub IsBarOfRow : Wire → ℤ → ℤ → ℤ → ℕ → ℕ → ℕ → Shape → Type 0
IsBarOfRow wire trunk x y height odd r s = (r % 2 ≡ odd) × IsBar wire trunk x (y +ℤ pos (r * height)) s

-- one of those of so many rows
abbrev pub IsRowBar : Wire → ℤ → ℤ → ℤ → ℕ → ℕ → ℕ → Shape → Type 0
IsRowBar wire trunk x y height odd rows s = (r : ℕ) × (r < rows) × IsBarOfRow wire trunk x y height odd r s
