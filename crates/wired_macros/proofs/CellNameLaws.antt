-- No two cells of the logic row have one name.
use Rattle.std.proofs.Common.{◌≢◌, ℕ, List, [], ◌∷◌, map}
use Rattle.std.specs.List.{AllByRecursion}
use Rattle.cell_roles.specs.declared.role.Role.{Role}
use Rattle.sram_netlist.specs.BitCells.{Alike}
use Rattle.sram_netlist.specs.InstanceList.{logic_cells}
use Rattle.sram_netlist.specs.Names.{cell_name}
use Rattle.sram_netlist.specs.Organization.{Organization, IsBuildable}
use Rattle.sram_deck.specs.Deck.{logic_cell}
use Rattle.sram_rows.proofs.DifferLaws.{DifferBy}
use Rattle.sram_rows.proofs.InstancesDiffer.{logic_instances_differ}

all_unmapped : {X : Type 0} {Y : Type 0} (f : X → Y) (P : Y → Type 0) (xs : List X) → AllByRecursion P (map f xs) → AllByRecursion (λ (x : X). P (f x)) xs
all_unmapped f P [] all = tt
all_unmapped f P (x ∷ xs) all = (all.0, all_unmapped f P xs all.1)

differ_unmapped : {X : Type 0} {Y : Type 0} (name : Y → List ℕ) (f : X → Y) (xs : List X) → DifferBy name (map f xs) → DifferBy (λ (x : X). name (f x)) xs
differ_unmapped name f [] differ = tt
differ_unmapped {X} {Y} name f (x ∷ xs) differ = (all_unmapped f (λ (y : Y). name (f x) ≢ name y) xs differ.0, differ_unmapped name f xs differ.1)

pub cells_differ : (plan : Organization) → IsBuildable plan → DifferBy (cell_name plan) (logic_cells plan)
cells_differ plan build = differ_unmapped _ (logic_cell plan cell) (logic_cells plan) (logic_instances_differ plan build cell (Alike []) []) where
  cell : Role → List ℕ
  cell role = []
