-- A walk has as many levels as it needs.
use Rattle.std.specs.Prelude.{◌≡◌, ℕ, ◌<◌, List, length}
use Rattle.reference_graph.specs.Reaches.{AreWithin, IsAcyclic}
use Rattle.spice_netlist.specs.declared.resolved.ResolvedSubckt.{ResolvedSubckt}
use Rattle.spice_netlist.specs.Resolved.{instances_at, graph}
use Rattle.spice_netlist.specs.Walk.{visits_by, walk_at}

-- where nothing that a subcircuit reaches reaches itself, its walk is put together from the whole walks of those that it
-- refers to
abbrev pub WalksAreWhole : Type 0
WalksAreWhole = (subckts : List ResolvedSubckt) (index : ℕ) → AreWithin (graph subckts) → index < length (graph subckts)
    → IsAcyclic (graph subckts) index
    → walk_at subckts index ≡ visits_by subckts (walk_at subckts) (instances_at subckts index)
