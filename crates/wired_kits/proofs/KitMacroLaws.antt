-- A drawn macro of a kit whose pins are right is stated by its leaf cells, and wired.
use Rattle.std.proofs.Common.{◌≡◌, ℕ, ◌<◌, ℤ, List, None, length, refl, sym, subst, arith}
use Rattle.std.specs.Prelude.{IfSome, Option}
use Rattle.cell_roles.specs.declared.role.Role.{Role}
use Rattle.cell_roles.specs.declared.role.Role.TheVariants.{Bitcell}
use Rattle.cell_roles.specs.declared.leaf_role.LeafRole.TheVariants.{Common}
use Rattle.tech_rules.specs.declared.tech.Wire.{Wire}
use Rattle.tech_rules.specs.WireRules.{first_bad_index}
use Rattle.cell_hierarchy.specs.Plain.{FlatLists}
use Rattle.cell_hierarchy.specs.FlatSet.{IsFlatShape}
use Rattle.channel_router.specs.declared.channel.ChannelPin.{ChannelPin}
use Rattle.channel_router.specs.Channel.{IsPinOf}
use Rattle.leaf_tables.specs.declared.kit.Kit.{Kit}
use Rattle.leaf_tables.specs.Kits.{IsKit}
use Rattle.kit_rules.specs.Layout.{IsFlatLeaf}
use Rattle.leaf_nets.specs.Leaves.{HaveRightPins}
use Rattle.sram_netlist.specs.BitCells.{Alike}
use Rattle.sram_netlist.specs.Nets.{Net}
use Rattle.sram_netlist.specs.Netlist.{role}
use Rattle.sram_netlist.specs.Organization.{Organization, IsBuildable, IsWritten}
use Rattle.port_lists.specs.Cells.{cell_in}
use Rattle.floorplan.specs.LayoutOfKit.{layout_kit}
use Rattle.floorplan.proofs.DemandLaws.{wire_there}
use Rattle.macro_layout.specs.LayoutKit.{LayoutKit}
use Rattle.macro_layout.specs.Pins.{main_nets, column_nets}
use Rattle.macro_layout.specs.Channels.{Numbered, ArePins, MeetsMainTopOfBanks, MeetsMainBottom, MeetsColumnTop, MeetsColumnBottom, IsMainChannel, IsColumnChannel}
use Rattle.good_windows.proofs.PassLaws.{leaves_draw_inside}
use Rattle.drawn_memories.specs.Drawn.{IsDrawnMacro}
use Rattle.drawn_memories.proofs.LayerLaws.{are_first_layers}
use Rattle.joined_nets.specs.Joints.{JoinsWires}
use Rattle.joined_nets.proofs.WireNetLaws.{place_below}
use Rattle.kit_nets.specs.DrawnChannels.{IsDrawnChannel}
use Rattle.kit_nets.specs.KitLeaf.{KnownLeaf}
use Rattle.kit_nets.specs.StatedParts.{Source, IsStatedBy}
use Rattle.kit_nets.proofs.KitFacingLaws.{kit_role_pins}
use Rattle.kit_nets.proofs.KitLeafLaws.{known_leaf}
use Rattle.kit_nets.proofs.KnownLaws.{known_is_stated}
use Rattle.kit_nets.proofs.PartsLaws.{cell_of_role}
use Rattle.kit_nets.proofs.TechLaws.{wires_joined}
use Rattle.view_cover.proofs.RoleLaws.{leaf_cell_is}
use Rattle.wire_nets.proofs.NamedLaws.{named_nets}
use Rattle.wired_macros.specs.WiredMacro.{IsWiredMacro}
use Rattle.wired_macros.specs.Texts.{AreLeavesInside}
use Rattle.wired_macros.proofs.CellNameLaws.{cells_differ}
use Rattle.wired_kits.specs.KitMacros.{source_of_kit}
use Rattle.wired_kits.proofs.DrawnChannelLaws.{route_drawn}
use Rattle.wired_kits.proofs.LaidKitLaws.{laid_by_kit}

-- a channel's pins are of its nets
numbered_below : (nets : List Net) (Meets : Net → ℤ → Type 0) (pins : List ChannelPin) (count number : ℕ) (x : ℤ) → count ≡ length nets → ArePins pins (Numbered nets Meets) → IsPinOf pins number x → number < count
numbered_below nets Meets pins count number x counted are pin =
    let numbered = (are number x).0 pin in
    let lt = place_below nets number numbered.0 numbered.1 in
    omega (arith, lt, counted)

module _ (kit : Kit) (is : IsKit kit) (rights : HaveRightPins kit) where
  -- The kit connects its wires, and each role's leaf cell is known.
  pub kit_joins : JoinsWires kit.tech.connects is.wire
  kit_joins = wires_joined kit.tech is.wire (wire_there kit is).four (wire_there kit is).three (subst (λ (w : Option Wire). IfSome w (λ (x : Wire). first_bad_index kit.tech x ≡ None)) is.wired is.tech.allowed)

  pub kit_leaf : (role : Role) → KnownLeaf kit role
  kit_leaf = known_leaf kit is kit_joins rights

  -- the flat lists of its cell
  pub leaf_lists : Role → FlatLists
  leaf_lists role = (kit_leaf role).lists

  pub flat_leaf : (role : Role) → (cell : List ℕ) × IsFlatLeaf kit role cell (leaf_lists role)
  unfolding leaf_lists
  flat_leaf role = ((kit_leaf role).cell, record { plays = (kit_leaf role).plays; flat = (kit_leaf role).flat })

  cell_is : (role : Role) → (kit_leaf role).cell ≡ cell_in kit.tech.roles role
  cell_is role = sym (leaf_cell_is kit.tech.roles (Common role) (kit_leaf role).cell (kit_leaf role).plays)

  module _ (plan : Organization) (build : IsBuildable plan) (written : IsWritten plan) (lists : FlatLists) (m : IsDrawnMacro kit plan is.wire lists) where
    abbrev lk : LayoutKit
    lk = layout_kit kit

    -- A drawn macro is stated by these.
    abbrev pub kit_source : Source
    kit_source = source_of_kit kit leaf_lists plan is.wire m.tracks m.floorplan

    pub kit_stated : IsStatedBy kit.tech.connects kit_source lists
    unfolding leaf_lists
    kit_stated = known_is_stated kit kit_leaf plan lk (Alike (cell_in kit.tech.roles Bitcell)) is.wire m.tracks m.floorplan build (cells_differ plan build) cell_is (λ r c. refl) lists m.stated

    main_channel : IsDrawnChannel (IsMainChannel plan lk is.wire m.floorplan) is.wire m.tracks.main
    main_channel =
        let route = m.drawn.main in
        route_drawn (IsMainChannel plan lk is.wire m.floorplan) is.wire m.tracks.main route m.main_lowest m.drawn.laid.sizes
        (λ number x pin. numbered_below (main_nets plan) (MeetsMainTopOfBanks plan lk is.wire m.floorplan) route.channel.top route.channel.nets number x route.meant.nets route.meant.top pin)
        (λ number x pin. numbered_below (main_nets plan) (MeetsMainBottom plan lk m.floorplan) route.channel.bottom route.channel.nets number x route.meant.nets route.meant.bottom pin)

    column_channel : IsDrawnChannel (IsColumnChannel plan lk is.wire m.floorplan) is.wire m.tracks.column
    column_channel =
        let route = m.drawn.column in
        route_drawn (IsColumnChannel plan lk is.wire m.floorplan) is.wire m.tracks.column route m.column_lowest m.drawn.laid.sizes
        (λ number x pin. numbered_below (column_nets plan) (MeetsColumnTop plan lk m.floorplan) route.channel.top route.channel.nets number x route.meant.nets route.meant.top pin)
        (λ number x pin. numbered_below (column_nets plan) (MeetsColumnBottom plan lk m.floorplan) route.channel.bottom route.channel.nets number x route.meant.nets route.meant.bottom pin)

    -- It is wired,
    pub kit_wired : IsWiredMacro kit.tech kit_source lists
    unfolding leaf_lists
    kit_wired = record {
      laid = record {
        by = kit_stated;
        joins = kit_joins;
        sizes = m.drawn.laid.sizes;
        first = are_first_layers kit is;
        pins = kit_role_pins kit is kit_leaf plan lk (Alike (cell_in kit.tech.roles Bitcell)) m.tracks m.floorplan (laid_by_kit kit is);
        inside = m.drawn.pins;
        fits = m.drawn.laid.fits;
        build = build;
        floor = m.drawn.stands;
        main = main_channel;
        column = column_channel;
      };
      written = written;
      reach = m.reaches;
      memory = m.drawn;
      named = named_nets plan lk is.wire m.tracks m.floorplan m.drawn m.main_lowest m.column_lowest;
    }

    -- and its leaf cells draw inside of their sides on layers of wires.
    pub kit_leaves_inside : AreLeavesInside kit_source
    kit_leaves_inside leaf inner has listed of =
        leaves_draw_inside kit plan is leaf inner has
        (subst (λ (name : List ℕ). IsFlatShape kit.tech.layers kit.lib.structs name inner) (sym (cell_of_role kit.tech.connects kit_source lists kit_stated leaf)) (((kit_stated.flat_cells (role plan leaf)).shapes_exact inner).0 listed)) of
