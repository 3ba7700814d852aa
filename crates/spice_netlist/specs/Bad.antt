-- Where the first bad instance is: the first whose nodes aren't as many as its subcircuit's ports.
use Rattle.std.specs.Prelude.{◌≡◌, ℕ, Bool, is_some, IsSome, option_map, List, ◌∷◌, ◌++◌, Option, Some, Contains}
use Rattle.spice_netlist.specs.declared.resolved.ResolvedSubckt.{ResolvedSubckt}
use Rattle.spice_netlist.specs.declared.resolved.ResolvedInstance.{ResolvedInstance}
use Rattle.spice_netlist.specs.declared.ports.BadInstance.{BadInstance}
use Rattle.spice_netlist.specs.declared.ports.BadInstance.TheVariants.{Itself, Inside}
use Rattle.spice_netlist.specs.Resolved.{subckt_references}
use Rattle.spice_netlist.specs.Walk.{visits_by, walk_at, first_bad}

-- the path of the first bad instance below the subcircuit at an index
abbrev pub bad_at : List ResolvedSubckt → ℕ → Option (List ℕ)
bad_at subckts index = first_bad subckts (walk_at subckts index)

-- the path of the first bad instance of the instances and all below them
abbrev pub bad_in : List ResolvedSubckt → List ResolvedInstance → Option (List ℕ)
bad_in subckts instances = first_bad subckts (visits_by subckts (walk_at subckts) instances)

-- whether there is a bad instance below the subcircuit at an index
abbrev pub has_bad : List ResolvedSubckt → ℕ → Bool
has_bad subckts index = is_some (bad_at subckts index)

-- the path by the instance, where `inside` has the paths from inside the subcircuits
abbrev pub path_by : (ℕ → Option (List ℕ)) → BadInstance → Option (List ℕ)
path_by inside (Itself name) = Some name.now
path_by inside (Inside name index) = option_map (λ path. name.now ++ 47 ∷ path) (inside index)

-- the index, where there is one, is that of one of the instances
abbrev pub IsOfOne : List ResolvedInstance → BadInstance → Type 0
IsOfOne instances (Itself name) = Unit {0}
IsOfOne instances (Inside name index) = Contains (subckt_references instances) index

-- there is a bad instance among the instances and all below them, and the path of the first is by this instance
pub record IsBadInstance (subckts : List ResolvedSubckt) (instances : List ResolvedInstance) (instance : BadInstance) : Type 0 where
  pub some : IsSome (bad_in subckts instances)
  pub refers : IsOfOne instances instance
  pub path : bad_in subckts instances ≡ path_by (bad_at subckts) instance
