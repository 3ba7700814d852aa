-- A drawn macro of a good kit is one whose parts are seen.
use Rattle.std.proofs.Common.{◌≡◌, ℕ, ℤ, pos, ◌+ℤ◌, ◌≤ℤ◌, List, [], ◌∷◌, Contains, refl, sym, subst, arith}
use Rattle.std.specs.Int.{int_max}
use Rattle.std.proofs.lemmas.Int.{ints, clamps}
use Rattle.or_geom.specs.declared.shape.Shape.{Shape}
use Rattle.cell_roles.specs.declared.role.Role.TheVariants.{Bitcell}
use Rattle.tech_rules.specs.declared.tech.Rule.{Rule}
use Rattle.cell_hierarchy.specs.Plain.{FlatLists}
use Rattle.cell_hierarchy.specs.FlatSet.{IsFlatShape}
use Rattle.sram_netlist.specs.BitCells.{Alike}
use Rattle.sram_netlist.specs.Instances.{LeafInstance, BitAt, NandAt, DriverAt, PrechargeAt, WriteAt, SenseAt, MuxAt, TieAt, LogicAt}
use Rattle.sram_netlist.specs.Netlist.{role}
use Rattle.sram_netlist.specs.Organization.{Organization, IsBuildable, IsWritten}
use Rattle.leaf_tables.specs.declared.kit.Kit.{Kit}
use Rattle.leaf_tables.specs.Kits.{IsKit}
use Rattle.port_lists.specs.Cells.{cell_in}
use Rattle.macro_layout.specs.Places.{leaf_cell}
use Rattle.floorplan.specs.LayoutOfKit.{layout_kit}
use Rattle.floorplan.proofs.DemandLaws.{wire_there}
use Rattle.kit_rules.specs.Reach.{IsOverhang, reach_with, greatest_minimum, minimum_of}
use Rattle.kit_check.specs.Quick.{PassesQuickCheck}
use Rattle.macro_maker.specs.Assembled.{IsAssembled}
use Rattle.good_windows.specs.Short.{HasShortReach}
use Rattle.good_windows.proofs.PassLaws.{shapes_pass_little, leaves_draw_inside}
use Rattle.good_windows.proofs.ShortLaws.{good_kits_are_short}
use Rattle.good_reports.proofs.OverhangLaws.{overhang_there}
use Rattle.drawn_memories.specs.Drawn.{IsDrawnMacro}
use Rattle.drawn_memories.proofs.LayerLaws.{are_first_layers}
use Rattle.joined_nets.specs.Joints.{JoinsOnlyWires}
use Rattle.kit_nets.proofs.JointLaws.{good_joints}
use Rattle.kit_nets.proofs.PartsLaws.{cell_of_role}
use Rattle.seen_pairs.specs.Window.{IsDrawnSource, IsSeenSource}
use Rattle.seen_labels.specs.Stay.{DoShapesPassLittle, DoShapesStayInside}
use Rattle.wired_kits.proofs.KitMacroLaws.{kit_source, kit_stated, kit_leaves_inside}

at_least_one : (rules : List Rule) → pos 1 ≤ℤ greatest_minimum rules
at_least_one [] = omega (arith, ints)
at_least_one (rule ∷ rules) = let r = at_least_one rules in go (minimum_of rule) (greatest_minimum rules) r where
  go : (a b : ℤ) → pos 1 ≤ℤ b → pos 1 ≤ℤ int_max a b
  go a b le = omega (arith, ints, clamps, le)

module _ (kit : Kit) (is : IsKit kit) (good : PassesQuickCheck IsAssembled kit) where
  -- the greatest distance by which shapes pass their outlines
  pub overhang : (overhang : ℤ) × IsOverhang kit overhang
  overhang = overhang_there kit is

  short : HasShortReach kit is.wire overhang.0
  short = good_kits_are_short kit is.wire overhang.0 is overhang.1 (good.wires.reach is.wire overhang.0 is.wired overhang.1)

  pub only : JoinsOnlyWires kit.tech.connects is.wire
  only = good_joints kit.tech.connects is.wire (wire_there kit is).four (wire_there kit is).three (good.wires.joints is.wire is.wired)

  felt : (pos 1 +ℤ (overhang.0 +ℤ overhang.0)) ≤ℤ reach_with kit overhang.0
  felt = by (greatest_minimum kit.tech.rules) overhang.0 (at_least_one kit.tech.rules) where
    by : (g o : ℤ) → pos 1 ≤ℤ g → (pos 1 +ℤ (o +ℤ o)) ≤ℤ (g +ℤ (o +ℤ o))
    by g o le = omega (arith, ints, le)

  module _ (plan : Organization) (build : IsBuildable plan) (written : IsWritten plan) (lists : FlatLists) (m : IsDrawnMacro kit plan is.wire lists) where
    pub drawn_source : IsDrawnSource (kit_source kit is good.pins plan build written lists m)
    drawn_source = record { drawn = m.drawn; main = m.main_lowest; column = m.column_lowest }

    -- Its parts are seen.
    pub seen_source : IsSeenSource kit.tech.connects (kit_source kit is good.pins plan build written lists m) overhang.0 (reach_with kit overhang.0)
    seen_source =
        let stated = kit_stated kit is good.pins plan build written lists m in
        record {
          words = build.words;
          written = written;
          source = drawn_source;
          first = are_first_layers kit is;
          only = only;
          from = short.from;
          space = (good.wires.reach is.wire overhang.0 is.wired overhang.1).inside;
          short = short.short;
          felt = felt;
          passes = λ leaf inner has listed.
              shapes_pass_little kit overhang.0 plan is overhang.1 leaf inner has
              (subst (λ (name : List ℕ). IsFlatShape kit.tech.layers kit.lib.structs name inner) (sym (cell_of_role kit.tech.connects (kit_source kit is good.pins plan build written lists m) lists stated leaf)) (((stated.flat_cells (role plan leaf)).shapes_exact inner).0 listed));
          inside = λ leaf inner has listed of. kit_leaves_inside kit is good.pins plan build written lists m leaf inner has listed of;
        }

    -- a leaf instance's cell in any memory of the kit
    cell_is : (any : Organization) (leaf : LeafInstance) → leaf_cell any (layout_kit kit) (Alike (cell_in kit.tech.roles Bitcell)) leaf ≡ (layout_kit kit).cell (role any leaf)
    cell_is any (BitAt b r c) = (kit_stated kit is good.pins plan build written lists m).bitcell r c
    cell_is any (NandAt b r) = refl
    cell_is any (DriverAt b r) = refl
    cell_is any (PrechargeAt b c) = refl
    cell_is any (WriteAt b i) = refl
    cell_is any (SenseAt b i) = refl
    cell_is any (MuxAt b c) = refl
    cell_is any (TieAt b c) = refl
    cell_is any (LogicAt cell) = refl

    flat_in : (any : Organization) (leaf : LeafInstance) (inner : Shape) → Contains ((kit_source kit is good.pins plan build written lists m).lists (role any leaf)).shapes inner → IsFlatShape kit.tech.layers kit.lib.structs (leaf_cell any (layout_kit kit) (Alike (cell_in kit.tech.roles Bitcell)) leaf) inner
    flat_in any leaf inner listed =
        subst (λ (name : List ℕ). IsFlatShape kit.tech.layers kit.lib.structs name inner) (sym (cell_is any leaf)) ((((kit_stated kit is good.pins plan build written lists m).flat_cells (role any leaf)).shapes_exact inner).0 listed)

    -- So far at most its leaf cells draw in each memory beyond their sides, and on layers of wires inside of them.
    pub shapes_pass : DoShapesPassLittle (kit_source kit is good.pins plan build written lists m) overhang.0
    shapes_pass any leaf inner has listed = shapes_pass_little kit overhang.0 any is overhang.1 leaf inner has (flat_in any leaf inner listed)

    pub shapes_inside : DoShapesStayInside (kit_source kit is good.pins plan build written lists m)
    shapes_inside any leaf inner has listed of = leaves_draw_inside kit any is leaf inner has (flat_in any leaf inner listed) of
