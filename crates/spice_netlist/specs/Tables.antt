-- Tables that have a value for each subcircuit, filled from the bottom up.
use Rattle.std.specs.Prelude.{◌≡◌, ℕ, ◌<◌, ◌≤◌, List, length, slice_index_or, Contains}
use Rattle.reference_graph.specs.Reaches.{AreWithin}
use Rattle.reference_graph.specs.BottomUp.{IsBottomUp}
use Rattle.spice_netlist.specs.declared.resolved.ResolvedSubckt.{ResolvedSubckt}
use Rattle.spice_netlist.specs.declared.resolved.ResolvedInstance.{ResolvedInstance}
use Rattle.spice_netlist.specs.Resolved.{subckt_references, graph}

-- the table has what f gives of the index
pub record HoldsAt {V : Type 0} (f : ℕ → V) (table : List V) (index : ℕ) : Type 0 where
  pub within : index < length table
  pub is : (d : V) → slice_index_or table index d ≡ f index

-- of each index that the instances refer to
abbrev pub HoldsForReferences : {V : Type 0} → (ℕ → V) → List V → List ResolvedInstance → Type 0
HoldsForReferences f table instances =
    (index : ℕ) → Contains (subckt_references instances) index → HoldsAt f table index

-- the order has each subcircuit after all that it refers to, and none twice
pub record IsSubcktOrder (subckts : List ResolvedSubckt) (order : List ℕ) : Type 0 where
  pub within : AreWithin (graph subckts)
  pub bottom_up : IsBottomUp (graph subckts) order
  pub short : length order ≤ length subckts

-- of each index of the order
abbrev pub IsTable : {V : Type 0} → (ℕ → V) → List ℕ → List V → Type 0
IsTable f order table = (index : ℕ) → Contains order index → HoldsAt f table index
