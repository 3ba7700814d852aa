use Rattle.std.proofs.Common.{◌≡◌, ℕ, List, map, take}
use Rattle.spice_netlist.specs.declared.level.LevelNet.{LevelNet}
use Rattle.spice_netlist.specs.declared.level.WalkLevel.{WalkLevel}
use Rattle.spice_netlist.specs.Levels.{level_key, AreWithinPath, seen_name, view_of}
use Rattle.spice_netlist.proofs.level.nets_in.Given as goal

-- the nets of the names before the index
pub record AreNetsOf (level : WalkLevel) (names : List (List ℕ)) (nets : List LevelNet) : Type 0 where
  pub near : AreWithinPath level.prefix nets
  pub seen : (path net : List ℕ) → map (level_key net) nets ≡ map (seen_name (view_of path net level)) names

abbrev pub invariant-loop-name : goal.invariant-loop-name
invariant-loop-name l = AreNetsOf l.level (take l.name-index l.names) l.nets.items
