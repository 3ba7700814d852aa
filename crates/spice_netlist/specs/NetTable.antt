-- What a table of nets holds.
use Rattle.std.specs.Prelude.{ℕ, List, map}
use Rattle.spice_netlist.specs.declared.number.NetTable.{NetTable}

-- the nets, in the order in which they came
abbrev pub table_nets : NetTable → List (List ℕ)
table_nets t = map (λ key. key.items) t.nets.keys
