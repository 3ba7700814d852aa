-- The rows of the reference netlist, and that flat rows equal them.
use Rattle.std.specs.Prelude.{◌≡◌, ◌≢◌, ◌↔◌, ℕ, ◌<◌, List, [], ◌∷◌, ◌++◌, map, length, None, Some, slice_index_or, Contains}
use Rattle.std.specs.List.{flat_map, AllByRecursion}
use Rattle.netlist.specs.declared.deck.Subckt.{Subckt}
use Rattle.netlist.specs.declared.rows.RowPin.{RowPin}
use Rattle.spice_text.specs.Words.{lower}
use Rattle.spice_text.specs.Writable.{lowered_subckt}
use Rattle.spice_netlist.specs.declared.fault.FlatFault.{FlatFault}
use Rattle.spice_netlist.specs.declared.fault.FlatFault.TheVariants.{Memory}
use Rattle.spice_netlist.specs.Names.{index_of}
use Rattle.spice_netlist.specs.Resolved.{names_of}
use Rattle.spice_netlist.specs.Numbers.{PinLabel, label_of_row, number_at}
use Rattle.spice_netlist.specs.Faults.{AreFlatRows, IsFlatFault}
use Rattle.cell_roles.specs.declared.role.Role.{Role}
use Rattle.cell_roles.specs.declared.role.Role.TheVariants.{Bitcell}
use Rattle.cell_roles.specs.Roles.{role_ports}
use Rattle.sram_netlist.specs.Organization.{Organization, IsBuildable, inputs_of, bank_rows, columns_of, addr_bits}
use Rattle.sram_netlist.specs.Nets.{Net, Vdd, Control, Clk0, Csb0, Addr, Din, Dout, Wmask}
use Rattle.sram_netlist.specs.Instances.{LeafInstance, BitAt}
use Rattle.sram_netlist.specs.Netlist.{web_nets, role, ports, supply_nets}
use Rattle.sram_netlist.specs.Names.{leaf_path, net_name}
use Rattle.sram_netlist.specs.BitCells.{BitCells, bit_cell}
use Rattle.sram_netlist.specs.InstanceList.{tabulate, leaf_instances}
use Rattle.sram_deck.specs.Deck.{written_subckts}

-- The rows of the netlist

-- the nets on the macro's ports: clk0 csb0 web0 wmask0[..] addr0[..] din0[..] dout0[..] vdd gnd, of which a read-only memory has no
-- web0 and din0
abbrev pub macro_nets : Organization → List Net
macro_nets plan =
    Control Clk0 ∷ Control Csb0 ∷ (web_nets plan.write_size ++ (tabulate plan.masks Wmask
    ++ (tabulate (addr_bits plan) Addr ++ (tabulate (inputs_of plan) Din ++ (tabulate plan.word_size Dout ++ supply_nets)))))

-- a pin of the netlist: the path of its instance, the name of its cell, its own, and its net
pub record NetlistPin : Type 0 where
  pub path : List ℕ
  pub cell : List ℕ
  pub pin : List ℕ
  pub net : Net

-- a port of the macro
abbrev pub port_pin : Organization → Net → NetlistPin
port_pin plan x = record { path = []; cell = []; pin = net_name plan x; net = x }

-- pins with their nets, both in order
abbrev pub pins_with_nets : List ℕ → List ℕ → List (List ℕ) → List Net → List NetlistPin
pins_with_nets path cell [] nets = []
pins_with_nets path cell (pin ∷ pins) [] = []
pins_with_nets path cell (pin ∷ pins) (net ∷ nets) =
    record { path = path; cell = cell; pin = pin; net = net } ∷ pins_with_nets path cell pins nets

-- the name of a leaf instance's cell: cell is the name of a role's cell, bits of the cells of the bits
abbrev pub cell_at : Organization → (Role → List ℕ) → BitCells → LeafInstance → List ℕ
cell_at plan cell bits (BitAt bank r c) = bit_cell bits r c
cell_at plan cell bits leaf = cell (role plan leaf)

-- the pins of a leaf instance; names of cells count in lower case
abbrev pub leaf_pins : Organization → (Role → List ℕ) → BitCells → LeafInstance → List NetlistPin
leaf_pins plan cell bits leaf =
    pins_with_nets (leaf_path plan leaf) (lower (cell_at plan cell bits leaf)) (role_ports (role plan leaf)) (ports plan leaf)

-- the macro's ports, and then the pins of each leaf instance
abbrev pub netlist_pins : Organization → (Role → List ℕ) → BitCells → List NetlistPin
netlist_pins plan cell bits = map (port_pin plan) (macro_nets plan) ++ flat_map (leaf_pins plan cell bits) (leaf_instances plan)

abbrev pub label_of_pin : NetlistPin → PinLabel
label_of_pin p = record { path = p.path; leaf = p.cell; pin = p.pin }

abbrev pub net_of_pin : List NetlistPin → ℕ → Net
net_of_pin pins k = slice_index_or (map (λ p. p.net) pins) k Vdd

-- the same paths, cells and pins in the same order, and two pins have one number exactly where they have one net
pub record RowsEqual (rows : List RowPin) (pins : List NetlistPin) : Type 0 where
  pub labels : map label_of_row rows ≡ map label_of_pin pins
  pub nets : (j k : ℕ) → j < length pins → k < length pins
      → (number_at rows j ≡ number_at rows k) ↔ (net_of_pin pins j ≡ net_of_pin pins k)

-- What is asked of the subcircuits of a kit's leaf cells

-- of those with this name the first has the role's ports
pub record HasCellOf (leaves : List Subckt) (name : List ℕ) (r : Role) : Type 0 where
  pub index : ℕ
  pub there : index_of (names_of leaves) (lower name) ≡ Some index
  pub ported : map lower (slice_index_or (map (λ s. s.ports) leaves) index []) ≡ role_ports r

abbrev pub HasRoleCell : List Subckt → (Role → List ℕ) → Role → Type 0
HasRoleCell leaves cell r = HasCellOf leaves (cell r) r

-- the cell of a bit has the ports of a bitcell, and is one of the cells that end a walk
pub record HasBitCell (leaves : List Subckt) (ends : List (List ℕ)) (name : List ℕ) : Type 0 where
  pub is : HasCellOf leaves name Bitcell
  pub ends_there : Contains ends name

-- They have each role's cell and the cells of the bits, all of which end a walk; names that end a walk are theirs; and none of them has
-- a name that will be written.
pub record AreLeavesFor (plan : Organization) (cell : Role → List ℕ) (bits : BitCells) (ends : List (List ℕ)) (leaves : List Subckt) (n : List ℕ) : Type 0 where
  pub roles : (r : Role) → HasRoleCell leaves cell r
  pub ended : (r : Role) → Contains ends (cell r)
  pub of_bits : (r c : ℕ) → r < bank_rows plan → c < columns_of plan → HasBitCell leaves ends (bit_cell bits r c)
  pub known : (name : List ℕ) → Contains ends name → (k : ℕ) × (index_of (names_of leaves) (lower name) ≡ Some k)
  pub free : AllByRecursion (λ name. index_of (names_of leaves) name ≡ None) (names_of (written_subckts plan cell bits n))

-- The law

-- with these cells as leaves, the top has flat rows, they equal the netlist, and no fault but want of memory applies
pub record DeckIsNetlist (plan : Organization) (cell : Role → List ℕ) (bits : BitCells) (ends : List (List ℕ)) (subckts : List Subckt) (top : List ℕ) : Type 0 where
  pub some : (rows : List RowPin) × AreFlatRows subckts top ends rows
  pub rows : (rows : List RowPin) → AreFlatRows subckts top ends rows
      → RowsEqual rows (netlist_pins plan cell bits)
  pub faults : (fault : FlatFault) → fault ≢ Memory → IsFlatFault subckts top ends fault → ⊥

-- the written subcircuits behind those of the leaf cells, as they are built and as they are read back; top is the output name,
-- without regard to case
abbrev pub RowsEqualNetlist : Type 0
RowsEqualNetlist = (plan : Organization) (cell : Role → List ℕ) (bits : BitCells) (ends : List (List ℕ)) (leaves : List Subckt) (n top : List ℕ)
    → IsBuildable plan → AreLeavesFor plan cell bits ends leaves n → lower top ≡ lower n
    → DeckIsNetlist plan cell bits ends (leaves ++ written_subckts plan cell bits n) top
    × DeckIsNetlist plan cell bits ends (leaves ++ map lowered_subckt (written_subckts plan cell bits n)) top

-- there are a plan and leaf cells that meet what is asked of them
pub record SomeAreLeavesFor : Type 0 where
  pub plan : Organization
  pub cell : Role → List ℕ
  pub bits : BitCells
  pub ends : List (List ℕ)
  pub leaves : List Subckt
  pub name : List ℕ
  pub is_buildable : IsBuildable plan
  pub are_leaves : AreLeavesFor plan cell bits ends leaves name
