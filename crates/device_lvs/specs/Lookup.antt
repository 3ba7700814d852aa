-- A table of names by the numbers of nets.
use Rattle.std.specs.Prelude.{◌≡◌, List, map}
use Rattle.std.specs.List.Sorted.{IsSorted}
use Rattle.drawn_devices.specs.declared.drawn.NetName.{NetName}
use Rattle.device_lvs.specs.declared.lookup.NameTable.{NameTable}
use Rattle.device_lvs.specs.Sorted.{by_net, net_first}

-- the names that the table holds
abbrev pub table_names : NameTable → List NetName
table_names table = map net_first table.named.items

-- they are in order, and the numbers are theirs
pub record IsSearchable (table : NameTable) : Type 0 where
  pub rise : IsSorted by_net (table_names table)
  pub nets : table.nets.items ≡ map (λ (n : NetName). n.net) (table_names table)
