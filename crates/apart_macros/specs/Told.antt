-- The leaf instance to which a chain of references in a macro leads, told by the references' elements.
use Rattle.std.specs.Prelude.{ℕ, zero, suc, List, [], ◌∷◌, ◌++◌, Option, Some, None, slice_get, map}
use Rattle.sram_netlist.specs.Organization.{Organization, inputs_of, columns_of}
use Rattle.sram_netlist.specs.InstanceList.{tabulate, logic_cells}
use Rattle.sram_netlist.specs.Instances.{LeafInstance, BitAt, NandAt, DriverAt, PrechargeAt, WriteAt, SenseAt, LogicAt}
use Rattle.macro_layout.specs.Cells.{column_leaf}
use Rattle.leaf_contacts.specs.Chains.{Reference}

abbrev pub elements_along : List Reference → List ℕ
elements_along [] = []
elements_along (r ∷ chain) = r.element ∷ elements_along chain

-- the leaf instances of a bank's data, in order
abbrev pub leaves_of_data : Organization → ℕ → List LeafInstance
leaves_of_data plan b = tabulate (inputs_of plan) (WriteAt b) ++ (tabulate plan.word_size (SenseAt b) ++ tabulate (columns_of plan) (column_leaf plan.col_bits b))

-- those of a row, after its gate and its driver
abbrev pub row_leaf : ℕ → ℕ → ℕ → LeafInstance
row_leaf b r zero = NandAt b r
row_leaf b r (suc zero) = DriverAt b r
row_leaf b r (suc (suc c)) = BitAt b r c

-- below a bank: its array, its precharge cells, its data
abbrev pub bank_leaf : Organization → ℕ → List ℕ → Option LeafInstance
bank_leaf plan b (zero ∷ r ∷ k ∷ rest) = Some (row_leaf b r k)
bank_leaf plan b (suc zero ∷ c ∷ rest) = Some (PrechargeAt b c)
bank_leaf plan b (suc (suc zero) ∷ k ∷ rest) = slice_get (leaves_of_data plan b) k
bank_leaf plan b rest = None

-- the logic row, and behind it the banks
abbrev pub leaf_told : Organization → List ℕ → Option LeafInstance
leaf_told plan (zero ∷ k ∷ rest) = slice_get (map LogicAt (logic_cells plan)) k
leaf_told plan (suc b ∷ rest) = bank_leaf plan b rest
leaf_told plan rest = None
