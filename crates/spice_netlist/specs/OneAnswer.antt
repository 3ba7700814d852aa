-- There is one answer.
use Rattle.std.specs.Prelude.{◌≡◌, ◌≢◌, ℕ, List}
use Rattle.netlist.specs.declared.deck.Subckt.{Subckt}
use Rattle.netlist.specs.declared.rows.RowPin.{RowPin}
use Rattle.spice_netlist.specs.declared.fault.FlatFault.{FlatFault}
use Rattle.spice_netlist.specs.declared.fault.FlatFault.TheVariants.{Memory}
use Rattle.spice_netlist.specs.Faults.{AreFlatRows, IsFlatFault}

-- a subcircuit has one list of flat rows
abbrev pub RowsAreUnique : Type 0
RowsAreUnique = (subckts : List Subckt) (top : List ℕ) (leaves : List (List ℕ)) (a b : List RowPin)
    → AreFlatRows subckts top leaves a → AreFlatRows subckts top leaves b → a ≡ b

-- and one refusal, out of memory aside
abbrev pub FlatFaultsAreUnique : Type 0
FlatFaultsAreUnique = (subckts : List Subckt) (top : List ℕ) (leaves : List (List ℕ)) (f g : FlatFault)
    → f ≢ Memory → g ≢ Memory → IsFlatFault subckts top leaves f → IsFlatFault subckts top leaves g → f ≡ g

-- and not both
abbrev pub FlatFaultsExcludeRows : Type 0
FlatFaultsExcludeRows = (subckts : List Subckt) (top : List ℕ) (leaves : List (List ℕ)) (f : FlatFault) (rows : List RowPin)
    → f ≢ Memory → IsFlatFault subckts top leaves f → AreFlatRows subckts top leaves rows → ⊥
