-- The stated layout of a macro of a kit whose leaf cells are known.
use Rattle.std.proofs.Common.{◌≡◌, ℕ, List, subst}
use Rattle.cell_roles.specs.declared.role.Role.{Role}
use Rattle.cell_roles.specs.declared.role.Role.TheVariants.{Bitcell}
use Rattle.tech_rules.specs.declared.tech.Wire.{Wire}
use Rattle.cell_hierarchy.specs.Plain.{FlatLists}
use Rattle.cell_hierarchy.specs.FlatLists.{AreFlatLists}
use Rattle.sram_netlist.specs.Organization.{Organization, IsBuildable}
use Rattle.sram_netlist.specs.InstanceList.{logic_cells}
use Rattle.sram_netlist.specs.Names.{cell_name}
use Rattle.sram_netlist.specs.BitCells.{BitCells, bit_cell}
use Rattle.sram_rows.proofs.DifferLaws.{DifferBy}
use Rattle.macro_layout.specs.LayoutKit.{LayoutKit}
use Rattle.macro_layout.specs.Places.{Floorplan}
use Rattle.macro_layout.specs.Floorplan.{Tracks}
use Rattle.macro_layout.specs.Stated.{AreStated}
use Rattle.leaf_tables.specs.declared.kit.Kit.{Kit}
use Rattle.row_nets.proofs.SizedLaws.{leaf_sized}
use Rattle.kit_nets.specs.KitLeaf.{KnownLeaf}
use Rattle.kit_nets.specs.StatedParts.{Source, IsStatedBy}
use Rattle.kit_nets.proofs.PlaceLaws.{one_place}

module _ (kit : Kit) (known : (r : Role) → KnownLeaf kit r) (plan : Organization) (lk : LayoutKit) (bits : BitCells) (wire : Wire) (tracks : Tracks) (fl : Floorplan) where
  abbrev pub known_source : Source
  known_source = record { layers = kit.tech.layers; structs = kit.lib.structs; plan = plan; kit = lk; bits = bits; wire = wire; tracks = tracks; floorplan = fl; lists = λ (r : Role). (known r).lists }

  -- It is stated by its kit, over its flat lists.
  pub known_is_stated : IsBuildable plan → DifferBy (cell_name plan) (logic_cells plan) → ((r : Role) → (known r).cell ≡ lk.cell r) → ((r c : ℕ) → bit_cell bits r c ≡ lk.cell Bitcell) → (flat : FlatLists) → AreStated kit.tech.layers kit.lib.structs plan lk bits wire tracks fl flat
      → IsStatedBy kit.tech.connects known_source flat
  known_is_stated build differ cells bitcell flat stated = record {
    stated = stated;
    flat_cells = λ r. subst (λ (name : List ℕ). AreFlatLists kit.tech.layers kit.lib.structs name (known r).lists) (cells r) (known r).flat;
    bitcell = bitcell;
    right = λ r. (known r).right;
    conductors = λ r. (known r).conductors;
    sized = λ leaf has. leaf_sized plan leaf build has;
    placed_once = λ leaf p q has at too. one_place plan lk fl differ leaf p q at too;
  }
