-- The least of some names, by their bytes.
use Rattle.std.specs.Prelude.{◌≢◌, ℕ, List}
use Rattle.std.specs.Ordering.{nat_cmp}
use Rattle.std.specs.Cmp.Lexicographic.{slice_cmp}
use Rattle.std.specs.declared.cmp.Ordering.{Ordering}
use Rattle.std.specs.declared.cmp.Ordering.TheVariants.{Greater}

-- the order of names, by their bytes
abbrev pub name_order : List ℕ → List ℕ → Ordering
name_order a b = slice_cmp nat_cmp a b

-- the name has P, and no name before it has
pub record IsLeast (P : List ℕ → Type 0) (name : List ℕ) : Type 0 where
  pub has : P name
  pub least : (other : List ℕ) → P other → name_order name other ≢ Greater
