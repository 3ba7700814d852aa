-- Two instances stand, moved together, in a small memory.
use Rattle.std.specs.Prelude.{◌≡◌, ◌⊎◌}
use Rattle.sram_netlist.specs.Instances.{LogicCell, LeafInstance, LogicAt}
use Rattle.seen_pairs.specs.Counterpart.{IsOfColumns, IsOfFronts, IsOfSlices}

-- where an instance stands
abbrev pub IsOfSome : LeafInstance → Type 0
IsOfSome leaf = IsOfColumns leaf ⊎ (IsOfFronts leaf ⊎ (IsOfSlices leaf ⊎ ((cell : LogicCell) × (leaf ≡ LogicAt cell))))
