-- Why files are no kit, the first reason in the order in which a kit is read.
use Rattle.std.specs.Prelude.{◌≡◌, ◌≢◌, ◌⊎◌, ℕ, List, Some, None, Ok}
use Rattle.cell_hierarchy.specs.declared.fault.FlattenFault.{FlattenFault}
use Rattle.cell_hierarchy.specs.declared.fault.FlattenFault.TheVariants as flatten_fault
use Rattle.gds_library.specs.declared.fault.GdsFault.TheVariants as gds_fault
use Rattle.gds_library.specs.declared.library.Library.{Library}
use Rattle.gds_library.specs.FirstFault.{IsFaultOf}
use Rattle.gds_library.specs.Grammar.{Spells}
use Rattle.netlist.specs.declared.deck.Deck.{Deck}
use Rattle.spice_text.specs.declared.fault.SpiceFault.{SpiceFault}
use Rattle.spice_text.specs.declared.fault.SpiceFault.TheVariants as spice_fault
use Rattle.spice_text.specs.Deck.{deck}
use Rattle.spice_text.specs.Faults.{IsSpiceFault}
use Rattle.tech_rules.specs.declared.tech.Tech.{Tech}
use Rattle.tech_rules.specs.declared.tech.Wire.{Wire}
use Rattle.role_tables.specs.declared.fault.TableFault.{TableFault}
use Rattle.role_tables.specs.declared.fault.TableFault.TheVariants as table_fault
use Rattle.role_tables.specs.Fault.{IsTableFault}
use Rattle.role_tables.specs.Table.{HasTables}
use Rattle.leaf_tables.specs.declared.fault.KitFault.{KitFault}
use Rattle.leaf_tables.specs.declared.fault.KitFault.TheVariants as kit_fault
use Rattle.leaf_tables.specs.declared.kit.Leaf.{Leaf}
use Rattle.leaf_tables.specs.Leaves.{LeafSource, AreLeaves, IsFirstLeafFault}
use Rattle.leaf_tables.specs.Alignment.{IsMisaligned}

-- faults of what a kit is read from; want of memory is one fault, whoever meets it
abbrev pub of_spice : SpiceFault → KitFault
of_spice spice_fault.Memory = kit_fault.Memory
of_spice (spice_fault.NotAscii at) = kit_fault.Spice (spice_fault.NotAscii at)
of_spice (spice_fault.OutsideSubckt line) = kit_fault.Spice (spice_fault.OutsideSubckt line)
of_spice (spice_fault.Unclosed line) = kit_fault.Spice (spice_fault.Unclosed line)
of_spice (spice_fault.Duplicate line) = kit_fault.Spice (spice_fault.Duplicate line)
of_spice (spice_fault.Refused line) = kit_fault.Spice (spice_fault.Refused line)
of_spice (spice_fault.BadLine line) = kit_fault.Spice (spice_fault.BadLine line)

abbrev pub of_table : TableFault → KitFault
of_table table_fault.Memory = kit_fault.Memory
of_table (table_fault.MissingRole role) = kit_fault.Table (table_fault.MissingRole role)
of_table (table_fault.BadRow role row) = kit_fault.Table (table_fault.BadRow role row)
of_table (table_fault.Differs role point) = kit_fault.Table (table_fault.Differs role point)

abbrev pub of_flatten : FlattenFault → KitFault
of_flatten flatten_fault.Memory = kit_fault.Memory
of_flatten (flatten_fault.UnknownStruct name) = kit_fault.Flatten (flatten_fault.UnknownStruct name)
of_flatten (flatten_fault.Cycle name) = kit_fault.Flatten (flatten_fault.Cycle name)
of_flatten (flatten_fault.TooDeep depth) = kit_fault.Flatten (flatten_fault.TooDeep depth)
of_flatten (flatten_fault.TooMany shapes labels) = kit_fault.Flatten (flatten_fault.TooMany shapes labels)
of_flatten (flatten_fault.Far x y) = kit_fault.Flatten (flatten_fault.Far x y)

-- the bytes spell a library
abbrev pub IsSpelled : List ℕ → Type 0
IsSpelled gds = (lib : Library) × Spells gds lib

-- and the text is a deck
abbrev pub AreRead : List ℕ → List ℕ → Type 0
AreRead gds sp = IsSpelled gds × ((read : Deck) × (deck sp ≡ Ok read))

abbrev pub HasWire : Tech → Type 0
HasWire tech = (wire : Wire) × (tech.wire ≡ Some wire)

-- what the leaf cells of these files are read from, where each role has its cell and table
pub record IsSource (tech : Tech) (gds sp : List ℕ) (source : LeafSource) : Type 0 where
  pub of : source.tech ≡ tech
  pub wire : tech.wire ≡ Some source.wire
  pub lib : Library
  pub spelled : Spells gds lib
  pub structs : source.structs ≡ lib.structs
  pub read : Deck
  pub text : deck sp ≡ Ok read
  pub subckts : source.subckts ≡ read.subckts
  pub tables : HasTables tech

-- what is wrong with the first role that has no leaf
pub record IsFaultOfLeaves (tech : Tech) (gds sp : List ℕ) (fault : KitFault) : Type 0 where
  pub source : LeafSource
  pub of : IsSource tech gds sp source
  pub is : IsFirstLeafFault source fault

-- where each role has a leaf: what doesn't fit
pub record IsFaultBetweenLeaves (tech : Tech) (gds sp : List ℕ) (fault : KitFault) : Type 0 where
  pub source : LeafSource
  pub of : IsSource tech gds sp source
  pub leaves : List Leaf
  pub are : AreLeaves source leaves
  pub is : IsMisaligned leaves fault

abbrev pub IsKitFault : Tech → List ℕ → List ℕ → KitFault → Type 0
IsKitFault tech gds sp (kit_fault.Gds fault) = (fault ≢ gds_fault.Memory) × IsFaultOf fault gds
IsKitFault tech gds sp (kit_fault.Spice fault) = (fault ≢ spice_fault.Memory) × IsSpelled gds × IsSpiceFault fault (deck sp)
IsKitFault tech gds sp kit_fault.NoWire = AreRead gds sp × (tech.wire ≡ None)
IsKitFault tech gds sp (kit_fault.Table fault) = (fault ≢ table_fault.Memory) × AreRead gds sp × HasWire tech × IsTableFault tech fault
IsKitFault tech gds sp (kit_fault.Flatten fault) = IsFaultOfLeaves tech gds sp (kit_fault.Flatten fault)
IsKitFault tech gds sp (kit_fault.Outline role) = IsFaultOfLeaves tech gds sp (kit_fault.Outline role)
IsKitFault tech gds sp (kit_fault.UnknownSubckt name) = IsFaultOfLeaves tech gds sp (kit_fault.UnknownSubckt name)
IsKitFault tech gds sp (kit_fault.PortsDiffer role) = IsFaultOfLeaves tech gds sp (kit_fault.PortsDiffer role)
IsKitFault tech gds sp (kit_fault.PinMissing role pin) = IsFaultOfLeaves tech gds sp (kit_fault.PinMissing role pin)
IsKitFault tech gds sp (kit_fault.PinLayer role pin) = IsFaultOfLeaves tech gds sp (kit_fault.PinLayer role pin)
IsKitFault tech gds sp (kit_fault.EdgePin role pin) =
    IsFaultOfLeaves tech gds sp (kit_fault.EdgePin role pin) ⊎ IsFaultBetweenLeaves tech gds sp (kit_fault.EdgePin role pin)
IsKitFault tech gds sp (kit_fault.HeightDiffers role) = IsFaultBetweenLeaves tech gds sp (kit_fault.HeightDiffers role)
IsKitFault tech gds sp (kit_fault.WidthDiffers role) = IsFaultBetweenLeaves tech gds sp (kit_fault.WidthDiffers role)
IsKitFault tech gds sp kit_fault.Memory = Unit {0}
