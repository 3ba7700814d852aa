-- The names of structures.
use Rattle.std.specs.Prelude.{ℕ, List, Bool}
use Rattle.std.specs.List.{list_any}
use Rattle.std.specs.Str.{bytes_eq}
use Rattle.gds_library.specs.declared.names.StructureNames.{StructureNames}

-- whether a name is one of them
abbrev pub has_name : StructureNames → List ℕ → Bool
has_name names text = list_any (λ name. bytes_eq text name.now) names.seen.keys
