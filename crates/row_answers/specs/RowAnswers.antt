-- A subcircuit has flat rows or a refusal.
use Rattle.std.specs.Prelude.{◌≢◌, ◌⊎◌, ℕ, List}
use Rattle.netlist.specs.declared.deck.Subckt.{Subckt}
use Rattle.netlist.specs.declared.rows.RowPin.{RowPin}
use Rattle.spice_netlist.specs.declared.fault.FlatFault.{FlatFault}
use Rattle.spice_netlist.specs.declared.fault.FlatFault.TheVariants.{Memory}
use Rattle.spice_netlist.specs.Faults.{AreFlatRows, IsFlatFault}

-- flat rows of the top, for these leaves, or a first refusal that isn't out of memory
abbrev pub HasRowAnswer : List Subckt → List ℕ → List (List ℕ) → Type 0
HasRowAnswer subckts top leaves =
    ((rows : List RowPin) × AreFlatRows subckts top leaves rows)
    ⊎ ((fault : FlatFault) × (fault ≢ Memory) × IsFlatFault subckts top leaves fault)

-- of any subcircuits, whatever the names of the top and of the leaves are
abbrev pub RowAnswersAreThere : Type 0
RowAnswersAreThere = (subckts : List Subckt) (top : List ℕ) (leaves : List (List ℕ)) → HasRowAnswer subckts top leaves
