-- Names that no structure has.
use Rattle.std.specs.Prelude.{◌≢◌, ℕ, List}
use Rattle.std.specs.List.{AllByRecursion}
use Rattle.gds_library.specs.declared.library.Structure.{Structure}

-- none of the structures has the name
abbrev pub IsNewName : List ℕ → List Structure → Type 0
IsNewName name structs = AllByRecursion (λ (s : Structure). name ≢ s.name) structs
