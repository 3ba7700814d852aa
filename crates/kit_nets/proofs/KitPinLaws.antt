-- The shapes of a kit's pins in a layout of the kit are bound and lie as demanded.
use Rattle.std.proofs.Common.{◌≡◌, ℕ, ◌<◌, pos, List, Contains, sym, subst, ◌∙◌}
use Rattle.or_geom.specs.declared.shape.Shape.{Shape}
use Rattle.or_geom.proofs.ListLaws.{contained_at}
use Rattle.cell_roles.specs.declared.role.Role.{Role}
use Rattle.cell_roles.specs.declared.leaf_role.LeafRole.TheVariants.{Common}
use Rattle.cell_roles.specs.Roles.{all_roles}
use Rattle.cell_hierarchy.specs.Plain.{FlatLists}
use Rattle.cell_hierarchy.proofs.OneListsLaws.{one_pair}
use Rattle.cell_hierarchy.specs.FlatLists.{AreFlatLists}
use Rattle.label_binding.specs.Binding.{Binds}
use Rattle.label_binding.specs.BoundPlaces.{label_anchor}
use Rattle.leaf_shapes.specs.declared.demand.Metal.{Metal}
use Rattle.leaf_shapes.specs.declared.fit.Fit.{Fit}
use Rattle.leaf_shapes.specs.declared.fit.CellSize.{CellSize}
use Rattle.leaf_shapes.specs.Demands.{draw, metal_layer, role_demands}
use Rattle.leaf_shapes.specs.Fits.{FitsCell}
use Rattle.leaf_tables.specs.declared.kit.Kit.{Kit}
use Rattle.leaf_tables.specs.Alignment.{role_number}
use Rattle.leaf_tables.specs.Kits.{IsKit, source_of}
use Rattle.leaf_tables.specs.Leaves.{IsLeaf, size_of}
use Rattle.leaf_tables.proofs.RoleLaws.{role_there}
use Rattle.sram_netlist.specs.Organization.{Organization}
use Rattle.sram_netlist.specs.BitCells.{BitCells}
use Rattle.macro_layout.specs.LayoutKit.{LayoutKit}
use Rattle.macro_layout.specs.Places.{Floorplan}
use Rattle.macro_layout.specs.Floorplan.{Tracks}
use Rattle.joined_nets.proofs.WireNetLaws.{item_there, place_below}
use Rattle.kit_nets.specs.KitLeaf.{KnownLeaf}
use Rattle.kit_nets.specs.LaidKit.{IsLaidBy}
use Rattle.kit_nets.specs.RolePins.{metal_place, IsDemand, IsDrawnPin}
use Rattle.kit_nets.proofs.KnownLaws.{known_source}
use Rattle.std.proofs.lemmas.Option.{same_Some}

module _ (kit : Kit) (is : IsKit kit) (known : (r : Role) → KnownLeaf kit r) (plan : Organization) (lk : LayoutKit) (bits : BitCells) (tracks : Tracks) (fl : Floorplan) (laid : IsLaidBy kit lk) where
  -- Each demanded shape is bound, and lies so.
  pub kit_pin_drawn : (role : Role) (port : ℕ) (on : Metal) (fit : Fit) → IsDemand role port on fit → IsDrawnPin (known_source kit known plan lk bits is.wire tracks fl) role port on fit
  kit_pin_drawn role port on fit d =
      let lt = place_below all_roles (role_number role) role (role_there role) in
      let leaf = item_there kit.leaves (role_number role) (subst (λ (n : ℕ). role_number role < n) (sym is.leaves.sized) lt) in
      let l : IsLeaf (source_of kit is.wire) (Common role) leaf.0 = is.leaves.each (role_number role) role leaf.0 (role_there role) leaf.1 in
      let k = known role in
      let same_cell = same_Some l.cell k.cell (sym l.sized.flat.plays ∙ k.plays) in
      let flat : AreFlatLists kit.tech.layers kit.lib.structs k.cell l.lists = subst (λ (c : List ℕ). AreFlatLists kit.tech.layers kit.lib.structs c l.lists) same_cell l.sized.flat.flat in
      let same : l.lists ≡ k.lists = one_pair kit.tech.layers kit.lib.structs k.cell l.lists k.lists flat k.flat in
      let few = place_below (role_demands role) d.place (draw d.name on fit) d.there in
      let pin = item_there leaf.0.pins d.place (subst (λ (n : ℕ). d.place < n) (sym l.pins.sized) few) in
      let f = (l.pins.each d.place (draw d.name on fit) pin.0 d.there pin.1).is in
      let rect : pin.0.rect ≡ lk.pin role port (metal_place on) = laid.pin role leaf.0 leaf.1 port on fit d pin.0 pin.1 in
      let layer = f.has.0 in
      let shape : Shape = record { layer = pin.0.layer; rect = pin.0.rect } in
      let drawn : Shape = record { layer = metal_layer is.wire on; rect = lk.pin role port (metal_place on) } in
      let whole : shape ≡ drawn = λ j. record { layer = layer j; rect = rect j } in
      let width = laid.width role leaf.0 leaf.1 in
      let height = laid.height role leaf.0 leaf.1 in
      let own : CellSize = record { width = pos (lk.width role); height = pos (lk.height role) } in
      let size : size_of leaf.0 ≡ own = λ j. record { width = width j; height = height j } in
      let b = f.bound in
      record {
        bound = record {
          pin = d.name;
          there = d.named;
          binds = record {
            label = b.label;
            listed = subst (λ (x : FlatLists). Contains x.labels b.label) same (contained_at l.lists.labels f.place b.label b.there);
            of = b.of;
            binds = subst (λ (x : Shape). Binds k.lists.shapes (label_anchor b.label) x) whole (subst (λ (x : FlatLists). Binds x.shapes (label_anchor b.label) shape) same b.binds);
          };
        };
        fits = subst (FitsCell fit is.wire.width own) rect (subst (λ (z : CellSize). FitsCell fit is.wire.width z pin.0.rect) size f.has.1);
      }
