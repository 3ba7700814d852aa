-- Rows whose nets are numbered as they come.
use Rattle.std.specs.Prelude.{◌≡◌, ℕ, ◌+◌, ◌≤◌, List, ◌++◌, length, map}
use Rattle.spice_netlist.specs.declared.rows.RowList.{RowList}
use Rattle.spice_netlist.specs.NetTable.{table_nets}
use Rattle.spice_netlist.specs.Numbers.{label_of_row, label_of_named, IsTableNumbering}
use Rattle.spice_netlist.specs.Pins.{NamedPin}
use Rattle.spice_netlist.specs.NetKeys.{net_key}

-- these named rows with numbers in place of nets, and the table with their nets
pub record AreRowsOf (named : List NamedPin) (list : RowList) : Type 0 where
  pub labels : map label_of_row list.rows.items ≡ map label_of_named named
  pub numbers : IsTableNumbering (map (λ n. net_key n.net) named) (map (λ r. r.net) list.rows.items)
      (table_nets list.nets)

-- how many nets there are
abbrev pub net_count : RowList → ℕ
net_count list = length (table_nets list.nets)

-- these rows were added
pub record AddsRows (old new : RowList) (added : List NamedPin) : Type 0 where
  pub rows : (named : List NamedPin) → AreRowsOf named old → AreRowsOf (named ++ added) new
  pub few : net_count new ≤ net_count old + length added
