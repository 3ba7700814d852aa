-- A structure has one total.
use Rattle.std.specs.Prelude.{◌≡◌, ℕ, List}
use Rattle.std.specs.List.{AllByRecursion}
use Rattle.gds_library.specs.declared.library.Structure.{Structure}
use Rattle.gds_library.specs.Writable.{IsWritableCell}
use Rattle.tech_rules.specs.declared.tech.Layer.{Layer}
use Rattle.cell_hierarchy.specs.Counts.{Total, IsTotalWithin}

-- two totals of a structure by ways of at most so many references are the same
abbrev pub IsOneTotal : Type 0
IsOneTotal = (depth : ℕ) (layers : List Layer) (structs : List Structure) (name : List ℕ) (a b : Total) → AllByRecursion IsWritableCell structs
    → IsTotalWithin depth layers structs name a → IsTotalWithin depth layers structs name b → a ≡ b
