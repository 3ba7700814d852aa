-- How many leaf instances and pins a walk has.
use Rattle.std.specs.Prelude.{ℕ, ◌+◌, min, List, length, slice_index_or}
use Rattle.spice_netlist.specs.Limits.{most_leaves, most_pins}
use Rattle.spice_netlist.specs.declared.resolved.ResolvedSubckt.{ResolvedSubckt}
use Rattle.spice_netlist.specs.declared.size.Size.{Size}
use Rattle.spice_netlist.specs.Walk.{FlatInstance, leaf_count}
use Rattle.spice_netlist.specs.Pins.{pins_of}

-- the numbers, which stand still one above what is allowed
abbrev pub walk_size : List ResolvedSubckt → List FlatInstance → Size
walk_size subckts visits = record {
  leaves = min (leaf_count subckts visits) (most_leaves + 1);
  pins = min (length (pins_of subckts visits)) (most_pins + 1);
}

-- the two numbers of both together
abbrev pub both : Size → Size → Size
both a b = record { leaves = min (a.leaves + b.leaves) (most_leaves + 1); pins = min (a.pins + b.pins) (most_pins + 1) }

-- how many pins there are at the index; none past the end
abbrev pub pins_at : List Size → ℕ → ℕ
pins_at sizes index = (slice_index_or sizes index (record { leaves = 0; pins = 0 })).pins
