-- What a table of indices finds.
use Rattle.std.specs.Prelude.{ℕ, nat_eq, List, Option}
use Rattle.std.specs.Cmp.Lexicographic.{pointwise}
use Rattle.indexmap.specs.IndexMap.{get_by}
use Rattle.spice_netlist.specs.declared.name_index.NameIndex.{NameIndex}

-- the index that the table has for the name
abbrev pub found : NameIndex → List ℕ → Option ℕ
found p name = get_by (λ key. pointwise nat_eq name key.now) p.indices
