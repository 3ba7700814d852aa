-- What makes macros, and what is asked of it.
use Rattle.std.specs.Prelude.{◌≢◌, ℕ, List, ◌++◌, map, Contains, Result, Ok, Err}
use Rattle.gds_library.specs.declared.library.Library.{Library}
use Rattle.gds_library.specs.Writable.{IsWritable}
use Rattle.netlist.specs.declared.deck.Deck.{Deck}
use Rattle.netlist.specs.declared.deck.Subckt.{Subckt}
use Rattle.cell_roles.specs.Roles.{all_roles}
use Rattle.port_lists.specs.Cells.{cell_in}
use Rattle.cell_hierarchy.specs.declared.fault.FlattenFault.TheVariants as flatten_fault
use Rattle.cell_hierarchy.specs.FlatLists.{IsFault}
use Rattle.spice_netlist.specs.declared.fault.FlatFault.{FlatFault}
use Rattle.spice_netlist.specs.declared.fault.FlatFault.TheVariants as flat_fault
use Rattle.spice_netlist.specs.Faults.{IsFlatFault}
use Rattle.leaf_tables.specs.declared.kit.Kit.{Kit}
use Rattle.sram_plan.specs.declared.numbers.Plan.{Plan}
use Rattle.kit_check.specs.declared.window.Window.{Window}
use Rattle.kit_check.specs.Windows.{all_windows, plan_of}
use Rattle.kit_check.specs.FreeName.{IsFreeName}
use Rattle.leaf_tables.specs.declared.part.PartFault.{PartFault}
use Rattle.leaf_tables.specs.declared.part.PartFault.TheVariants as part_fault

-- the kit's subcircuits and behind them a macro's
abbrev pub subckts_with : Kit → Deck → List Subckt
subckts_with kit deck = kit.deck.subckts ++ deck.subckts

-- the cells of the fourteen roles, which are the leaves of a macro's netlist
abbrev pub role_cells : Kit → List (List ℕ)
role_cells kit = map (cell_in kit.tech.roles) all_roles

-- the macro's subcircuits have flat rows
abbrev pub HasFlatRows : Kit → List ℕ → Deck → Type 0
HasFlatRows kit name deck = (fault : FlatFault) → fault ≢ flat_fault.Memory → IsFlatFault (subckts_with kit deck) name (role_cells kit) fault → ⊥

-- What a made macro has to be: its library can be written, all structures that the macro reaches are there and none reaches itself,
-- and its subcircuits have flat rows.
pub record IsGoodMacro (kit : Kit) (name : List ℕ) (lib : Library) (deck : Deck) : Type 0 where
  pub writable : IsWritable lib
  pub there : (missing : List ℕ) → IsFault kit.tech.layers lib.structs name (flatten_fault.UnknownStruct missing) → ⊥
  pub acyclic : (cyclic : List ℕ) → IsFault kit.tech.layers lib.structs name (flatten_fault.Cycle cyclic) → ⊥
  pub rows : HasFlatRows kit name deck

-- What an answer has to be: no name is taken, and a macro is a good one.
abbrev pub IsGoodAnswer : Kit → List ℕ → Result (Library × Deck) PartFault → Type 0
IsGoodAnswer kit name (Ok made) = IsGoodMacro kit name made.0 made.1
IsGoodAnswer kit name (Err fault) = (taken : List ℕ) → fault ≢ part_fault.NameTaken taken

-- What is asked of a maker: each of its answers for a window under a free name is a good one.
abbrev pub IsGoodMaker : (Kit → Plan → List ℕ → Result (Library × Deck) PartFault → Type 0) → Kit → Type 0
IsGoodMaker answers kit = (w : Window) (name : List ℕ) (answer : Result (Library × Deck) PartFault) → Contains all_windows w → IsFreeName kit name → answers kit (plan_of w) name answer → IsGoodAnswer kit name answer
