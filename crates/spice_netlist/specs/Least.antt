-- The least of names, where there is one, and names that are missing.
use Rattle.std.specs.Prelude.{◌≡◌, ℕ, List, Option, None, Some, MatchOption, Contains, if◌then◌else◌}
use Rattle.std.specs.Ordering.{nat_cmp, is_gt}
use Rattle.std.specs.Cmp.Lexicographic.{slice_cmp}
use Rattle.or_geom.specs.Least.{IsLeast}
use Rattle.spice_netlist.specs.declared.resolved.ResolvedInstance.{ResolvedInstance}

-- the least name that has P; None where no name has
abbrev pub IsLeastOf : (List ℕ → Type 0) → Option (List ℕ) → Type 0
IsLeastOf P found = MatchOption found ((name : List ℕ) → P name → ⊥) (IsLeast P)

-- the lesser of the best so far, if there is one, and the name
abbrev pub lesser_of : Option (List ℕ) → List ℕ → List ℕ
lesser_of None name = name
lesser_of (Some best) name = if is_gt (slice_cmp nat_cmp best name) then name else best

-- an instance refers to the name, and it isn't there
pub record IsMissingIn (instances : List ResolvedInstance) (name : List ℕ) : Type 0 where
  pub instance : ResolvedInstance
  pub stands : Contains instances instance
  pub missing : instance.index ≡ None
  pub is : instance.of ≡ name
