-- What the walk from a top rests on.
use Rattle.std.specs.Prelude.{◌≡◌, ℕ, ◌<◌, List, length, Option, None, Some, slice_index_or}
use Rattle.reference_graph.specs.Reaches.{Reaches}
use Rattle.spice_netlist.specs.declared.resolved.ResolvedSubckt.{ResolvedSubckt}
use Rattle.spice_netlist.specs.declared.name_index.NameIndex.{NameIndex}
use Rattle.spice_netlist.specs.declared.size.Size.{Size}
use Rattle.spice_netlist.specs.Names.{index_of}
use Rattle.spice_netlist.specs.Found.{found}
use Rattle.spice_netlist.specs.Resolved.{ports_at, instances_at, graph}
use Rattle.spice_netlist.specs.Walk.{visits_by, walk_at, first_bad}
use Rattle.spice_netlist.specs.Pins.{pins_of}
use Rattle.spice_netlist.specs.Tables.{HoldsAt}
use Rattle.spice_netlist.specs.Sizes.{walk_size, pins_at}

-- each subcircuit that the top reaches is there, its walk is put together from those of what it refers to, and each
-- instance has as many nodes as its subcircuit has ports
pub record IsWalkable (subckts : List ResolvedSubckt) (top : ℕ) : Type 0 where
  pub within : (index : ℕ) → Reaches (graph subckts) top index → index < length subckts
  pub whole : (index : ℕ) → Reaches (graph subckts) top index
      → walk_at subckts index ≡ visits_by subckts (walk_at subckts) (instances_at subckts index)
  pub good : first_bad subckts (walk_at subckts top) ≡ None

-- the indices of the ports, if there are pins
abbrev pub IsTableBy : ℕ → List (List ℕ) → Option NameIndex → Type 0
IsTableBy pins ports None = pins ≡ 0
IsTableBy pins ports (Some table) = (name : List ℕ) → found table name ≡ index_of ports name

-- for each subcircuit the indices of its ports, if it has pins below by these sizes
pub record AreTablesBy (subckts : List ResolvedSubckt) (sizes : List Size) (tables : List (Option NameIndex)) : Type 0 where
  pub sized : length tables ≡ length subckts
  pub each : (index : ℕ) (other : Option NameIndex) → index < length subckts
      → IsTableBy (pins_at sizes index) (ports_at subckts index) (slice_index_or tables index other)

-- for each subcircuit that the top reaches the indices of its ports, or that there are no pins below it
pub record ArePortTables (subckts : List ResolvedSubckt) (top : ℕ) (tables : List (Option NameIndex)) : Type 0 where
  pub sized : length tables ≡ length subckts
  pub each : (index : ℕ) (other : Option NameIndex) → Reaches (graph subckts) top index
      → IsTableBy (length (pins_of subckts (walk_at subckts index))) (ports_at subckts index) (slice_index_or tables index other)

-- for each subcircuit that the top reaches how many leaf instances and pins there are below it
abbrev pub AreSubcktSizes : List ResolvedSubckt → ℕ → List Size → Type 0
AreSubcktSizes subckts top sizes = (index : ℕ) → Reaches (graph subckts) top index
    → HoldsAt (λ other. walk_size subckts (walk_at subckts other)) sizes index
