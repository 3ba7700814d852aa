-- Which nets of the rows and of the layout pins have together.
use Rattle.std.specs.Prelude.{◌≡◌, ℕ, ◌<◌, List, slice_get, Option, Some, None, cond}
use Rattle.std.specs.BTreeMap.{get, is_at}
use Rattle.std.specs.Ordering.{nat_cmp}
use Rattle.net_extractor.specs.declared.conflicts.Matching.{Matching}
use Rattle.net_extractor.specs.declared.pins.PinNet.{PinNet}

-- the nets of each pin before the place go with one another
pub record AreMatched (nets : List PinNet) (place : ℕ) (matching : Matching) : Type 0 where
  pub layouts : (k : ℕ) (a : PinNet) → k < place → slice_get nets k ≡ Some a → get nat_cmp matching.layouts a.rows ≡ Some a.layout
  pub rows : (k : ℕ) (a : PinNet) → k < place → slice_get nets k ≡ Some a → get nat_cmp matching.rows a.layout ≡ Some a.rows

-- what goes with the pin's nets is each other, or nothing does
abbrev pub GoTogether : Option ℕ → Option ℕ → PinNet → Type 0
GoTogether None None net = Unit {0}
GoTogether None (Some rows) net = ⊥
GoTogether (Some layout) None net = ⊥
GoTogether (Some layout) (Some rows) net = (layout ≡ net.layout) × (rows ≡ net.rows)

-- the pin's nets go with one another now
pub record IsPut (net : PinNet) (old new : Matching) : Type 0 where
  pub layouts : (q : ℕ) → get nat_cmp new.layouts q ≡ cond (is_at (nat_cmp net.rows) q) (Some net.layout) (get nat_cmp old.layouts q)
  pub rows : (q : ℕ) → get nat_cmp new.rows q ≡ cond (is_at (nat_cmp net.layout) q) (Some net.rows) (get nat_cmp old.rows q)
