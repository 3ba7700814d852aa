-- Where the pins of leaf cells begin.
use Rattle.std.specs.Prelude.{ℕ, ℤ, pos, Option, None, Some, slice_get, option_and_then}
use Rattle.cell_roles.specs.declared.role.Role.{Role}
use Rattle.leaf_shapes.specs.declared.pins.LeafPin.{LeafPin}
use Rattle.leaf_tables.specs.declared.kit.Leaf.{Leaf}
use Rattle.leaf_tables.specs.declared.kit.Kit.{Kit}
use Rattle.leaf_tables.specs.Alignment.{leaf_in}

-- where the pin of this index begins in a role's cell
abbrev pub begin_of : Option LeafPin → ℤ
begin_of None = pos 0
begin_of (Some pin) = pin.rect.x1

abbrev pub pin_begin : Kit → Role → ℕ → ℤ
pin_begin kit role k = begin_of (option_and_then (λ (leaf : Leaf). slice_get leaf.pins k) (leaf_in kit.leaves role))
