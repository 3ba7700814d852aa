-- Rows that are told apart, and what is added to a list of cells.
use Rattle.std.proofs.Common.{◌≡◌, ℕ, ◌+◌, ◌<◌, ◌≤◌, List, [], ◌∷◌, ◌++◌, length, length-append, append_assoc, ap, ◌∙◌, arith}
use Rattle.cell_builder.specs.declared.cell.DrawnCell.{DrawnCell}
use Rattle.cell_builder.specs.CellList.{CellList, with_drawn}
use Rattle.sram_netlist.specs.Organization.{Organization, IsBuildable, bank_rows}
use Rattle.sram_netlist.specs.InstanceList.{tabulate}
use Rattle.sram_netlist.specs.BitCells.{BitCells, row_kinds}
use Rattle.sram_netlist.proofs.Bounds.{bounds}
use Rattle.sram_rows.proofs.RowKinds.{kinds_few, some_rows}
use Rattle.macro_bounds.proofs.CountLaws.{tabulate_long}

-- a row that is told apart is a row of the bank
pub row_below : (bits : BitCells) (plan : Organization) (row kinds : ℕ) → kinds ≡ row_kinds bits (bank_rows plan) → row < kinds → row < bank_rows plan
row_below bits plan row kinds is below = let few = kinds_few bits (bank_rows plan) (some_rows plan) in omega (arith, is, below, few)

-- there are few rows
pub more_rows : {X : Type 0} (plan : Organization) (f : ℕ → X) (old list : List X) (row : ℕ) → IsBuildable plan → row < bank_rows plan → list ≡ old ++ tabulate row f → length list ≤ length old + 256
more_rows plan f old list row buildable below is =
    let long = ap length is ∙ length-append old (tabulate row f) in
    let counted = tabulate_long row f in
    let most = (bounds plan buildable).rows in
    omega (arith, long, counted, below, most)

pub more_kinds : {X : Type 0} (plan : Organization) (bits : BitCells) (f : ℕ → X) (old list : List X) → IsBuildable plan → list ≡ old ++ tabulate (row_kinds bits (bank_rows plan)) f → length list ≤ length old + 256
more_kinds plan bits f old list buildable is =
    let long = ap length is ∙ length-append old (tabulate (row_kinds bits (bank_rows plan)) f) in
    let counted = tabulate_long (row_kinds bits (bank_rows plan)) f in
    let most = (bounds plan buildable).rows in
    let few = kinds_few bits (bank_rows plan) (some_rows plan) in
    omega (arith, long, counted, few, most)

-- two items more
pub two_added : {X : Type 0} (before l0 l1 l2 : List X) (a b first second : X) → l0 ≡ before → l1 ≡ l0 ++ a ∷ [] → l2 ≡ l1 ++ b ∷ [] → a ≡ first → b ≡ second → l2 ≡ before ++ first ∷ second ∷ []
two_added {X = X} before l0 l1 l2 a b first second sofar one two is_first is_second =
    let now : l1 ≡ before ++ first ∷ [] = one ∙ (λ i. sofar i ++ is_first i ∷ []) in
    let then : l2 ≡ (before ++ first ∷ []) ++ second ∷ [] = two ∙ (λ i. now i ++ is_second i ∷ []) in
    then ∙ append_assoc before (first ∷ []) (second ∷ [])

-- a cell more
pub one_longer : (old new : CellList) (made : DrawnCell) (most : ℕ) → new ≡ with_drawn made old → length old.cells ≤ most → length new.cells ≤ most + 1
one_longer old new made most is few = let long = ap (λ (l : CellList). length l.cells) is ∙ length-append old.cells (made ∷ []) in omega (arith, long, few)

-- the rows, and two cells more
pub rows_and_two : (old l0 l1 l2 : CellList) (rows : List DrawnCell) (a b first second : DrawnCell) → l0.adopted ≡ old.adopted → l0.cells ≡ old.cells ++ rows → l1 ≡ with_drawn a l0 → l2 ≡ with_drawn b l1 → a ≡ first → b ≡ second
    → l2 ≡ record { adopted = old.adopted; cells = old.cells ++ (rows ++ first ∷ second ∷ []) }
rows_and_two old l0 l1 l2 rows a b first second same sofar one two is_first is_second =
    let adopted = ap (λ (l : CellList). l.adopted) two ∙ (ap (λ (l : CellList). l.adopted) one ∙ same) in
    let cells = two_added (old.cells ++ rows) l0.cells l1.cells l2.cells a b first second sofar (ap (λ (l : CellList). l.cells) one) (ap (λ (l : CellList). l.cells) two) is_first is_second
    ∙ append_assoc old.cells rows (first ∷ second ∷ []) in
    λ i. record { adopted = adopted i; cells = cells i }
