-- What a good kit's rules may say of the layers of wires.
use Rattle.std.specs.Prelude.{◌≡◌, ◌⊎◌, ◌<◌, ℕ, ◌+◌, ℤ, pos, ◌≤ℤ◌, ◌+ℤ◌, List, Contains, slice_index}
use Rattle.tech_rules.specs.declared.tech.Rule.{Rule}
use Rattle.tech_rules.specs.declared.tech.Rule.TheVariants.{Width, Space, Enclose}
use Rattle.tech_rules.specs.declared.tech.Wire.{Wire}
use Rattle.tech_rules.specs.WireRules.{margin}
use Rattle.kit_rules.specs.Reach.{minimum_of}
use Rattle.leaf_shapes.specs.Outline.{IsWireLayer}
use Rattle.good_places.specs.Plain.{IsPlain}

-- no wire is less wide than the minimum, nor a cut on a layer that has cuts
abbrev pub IsWideEnough : Wire → ℕ → ℤ → Type 0
IsWideEnough wire layer min = (min ≤ℤ wire.cut) ⊎ ((min ≤ℤ wire.width) × (Contains wire.cuts layer → ⊥))

-- a cut of the wires that has to be enclosed by a metal beside it, no further than by the wires' margin
pub record IsEnclosed (wire : Wire) (layer : ℕ) (listed : List ℕ) (min : ℤ) : Type 0 where
  pub index : ℕ
  pub below : index < 3
  pub is : layer ≡ slice_index wire.cuts index
  pub by : Contains listed (slice_index wire.metals index) ⊎ Contains listed (slice_index wire.metals (index + 1))
  pub fits : min ≤ℤ margin wire

-- The rule is about no layer of wires, or is a width rule, a space rule of a layer with itself, or an enclose rule of a cut, which wires keep.
abbrev pub IsAllowed : Wire → Rule → Type 0
IsAllowed wire (Width layer min) = IsWireLayer wire layer → IsWideEnough wire layer min
IsAllowed wire (Space layer other min) = (IsPlain wire layer × IsPlain wire other) ⊎ ((layer ≡ other) × (IsWireLayer wire layer → min ≤ℤ wire.space))
IsAllowed wire (Enclose layer listed min) = IsPlain wire layer ⊎ IsEnclosed wire layer listed min

-- such a rule, which is felt no further than the reach
pub record IsKeptRule (wire : Wire) (by reach : ℤ) (rule : Rule) : Type 0 where
  pub some : pos 1 ≤ℤ minimum_of rule
  pub near : (minimum_of rule +ℤ (by +ℤ by)) ≤ℤ reach
  pub allowed : IsAllowed wire rule
