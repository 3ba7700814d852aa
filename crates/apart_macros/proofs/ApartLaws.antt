-- In a macro of a kit chains lead to the leaf instances, and no free shape of one touches a shape outside of it.
use Rattle.std.proofs.Common.{◌≡◌, ◌∙◌, ◌≢◌, inl, inr, ℕ, zero, suc, ◌<◌, List, [], ◌∷◌, ◌++◌, Contains, AllPairs, Some, refl, sym, ap, subst, arith}
use Rattle.std.specs.Prelude.{slice_get}
use Rattle.std.proofs.lemmas.Option.{same_Some}
use Rattle.std.proofs.lemmas.List.Elements.{Contains-append_right}
use Rattle.or_geom.specs.declared.shape.Shape.{Shape}
use Rattle.or_geom.proofs.ListLaws.{contained_at}
use Rattle.gds_library.specs.declared.library.Structure.{Structure}
use Rattle.cell_roles.specs.declared.role.Role.{Role}
use Rattle.cell_roles.specs.declared.role.Role.TheVariants.{Bitcell}
use Rattle.cell_roles.specs.Roles.{all_roles}
use Rattle.cell_chains.specs.Chains.{IsThere}
use Rattle.cell_hierarchy.specs.Plain.{FlatLists}
use Rattle.cell_hierarchy.specs.FlatLists.{AreFlatLists}
use Rattle.cell_hierarchy.specs.FlatSet.{IsFlatShape}
use Rattle.cell_hierarchy.proofs.OneListsLaws.{one_pair}
use Rattle.cell_builder.specs.declared.cell.DrawnCell.{DrawnCell}
use Rattle.cell_builder.specs.Flat.{IsDrawn}
use Rattle.cell_builder.proofs.LibraryLaws.{there_or_not, leaves_are_kept, has_drawn, finished_cells_are_drawn}
use Rattle.sram_netlist.specs.Organization.{Organization}
use Rattle.sram_netlist.specs.Nets.{Net}
use Rattle.sram_netlist.specs.Netlist.{role}
use Rattle.sram_netlist.specs.Numbers.{ArePlanNumbers}
use Rattle.sram_netlist.specs.BitCells.BitCells.{Alike}
use Rattle.sram_plan.specs.declared.numbers.Plan.{Plan}
use Rattle.sram_plan.specs.PlanNumbers.{numbers_of, organization}
use Rattle.port_lists.specs.Cells.{cell_in}
use Rattle.port_lists.specs.Held.Held.{Stored}
use Rattle.leaf_tables.specs.declared.kit.Kit.{Kit}
use Rattle.leaf_tables.specs.Kits.{IsKit}
use Rattle.leaf_tables.specs.Alignment.{role_number}
use Rattle.kit_rules.specs.Layout.{IsFlatLeaf}
use Rattle.leaf_nets.specs.declared.leaves.LooseLeaf.{LooseLeaf}
use Rattle.leaf_nets.specs.Leaves.{AreLooseLeaves}
use Rattle.leaf_contacts.specs.Chains.{Reference}
use Rattle.leaf_contacts.specs.Contact.{leaf_cell_names}
use Rattle.macro_layout.specs.LayoutKit.{LayoutKit}
use Rattle.macro_layout.specs.Places.{Floorplan}
use Rattle.macro_layout.specs.Floorplan.{Tracks}
use Rattle.macro_layout.specs.Layout.{Drawing, DrawsMacro, IsMacroOf}
use Rattle.floorplan.specs.LayoutOfKit.{layout_kit}
use Rattle.floorplan.specs.FloorplanNumbers.{floorplan_of}
use Rattle.macro_bounds.proofs.CompleteLaws.{flat_cells_are_complete}
use Rattle.macro_bounds.proofs.LibraryLaws.{macro_libraries_are_macros}
use Rattle.sram_macro.specs.declared.assembly.Macro.{Macro}
use Rattle.sram_macro.specs.Library.{macro_list}
use Rattle.sram_macro.specs.Macro.{IsMacro}
use Rattle.sram_macro.proofs.StatedLaws.{tracks_of, drawing_of, is_macro_of}
use Rattle.view_cover.proofs.RoleLaws.{cell_is}
use Rattle.kit_check.specs.Judged.{TouchesOutside}
use Rattle.good_nets.specs.Parts.{IsShapeOf, IsFree, IsOutside}
use Rattle.joined_nets.proofs.WireNetLaws.{item_there, place_below}
use Rattle.kit_nets.specs.StatedParts.{Source, Standing, stated_parts}
use Rattle.tech_rules.specs.Touch.{Touch}
use Rattle.contact_nets.specs.Chained.{HasChains, StandsBelow, StandsApart}
use Rattle.contact_nets.proofs.WireChainLaws.{wires_stand}
use Rattle.contact_nets.proofs.ContactLaws.{no_contact}
use Rattle.leaf_tables.proofs.RoleLaws.{role_there}
use Rattle.row_nets.proofs.KindLaws.{listed_at}
use Rattle.apart_macros.specs.Apart.{AreFreeApart, macro_source, MacrosAreApart}
use Rattle.apart_macros.specs.Told.{elements_along, leaf_told}
use Rattle.apart_macros.proofs.LooseLaws.{with_loose_leaves}
use Rattle.apart_macros.proofs.ItemLaws.{below_instance, instance_leads}
use Rattle.apart_macros.proofs.OwnWireLaws.{drawn_wires}
use Rattle.apart_macros.proofs.LedLaws.{AreOtherCells, IsTold, told}

-- Names

first_pairs : {X : Type 0} (R : X → X → Type 0) (x : X) (xs : List X) (y : X) → AllPairs R (x ∷ xs) → Contains xs y → R x y
first_pairs {X} R x xs y all c = subst (R x) c.2 (all 0 (suc c.0) y (omega arith) (let lt = c.1 in omega (arith, lt)))

other_pairs : {X : Type 0} (R : X → X → Type 0) (x : X) (xs : List X) → AllPairs R (x ∷ xs) → AllPairs R xs
other_pairs {X} R x xs all i j d before below = all (suc i) (suc j) d (omega (arith, before)) (omega (arith, below))

-- no structure behind has the name of one before
names_apart : (xs ys : List Structure) (name : List ℕ) (t : Structure) → AllPairs (λ (a b : Structure). a.name ≢ b.name) (xs ++ ys) → IsThere xs name → Contains ys t → t.name ≡ name → ⊥
names_apart [] ys name t all there c e = there
names_apart (x ∷ xs) ys name t all (inl first) c e = first_pairs (λ (a b : Structure). a.name ≢ b.name) x (xs ++ ys) t all (Contains-append_right xs ys t c) (first ∙ sym e)
names_apart (x ∷ xs) ys name t all (inr later) c e = names_apart xs ys name t (other_pairs (λ (a b : Structure). a.name ≢ b.name) x (xs ++ ys) all) later c e

-- the leaf of a cell that is named
record IsLeafNamed (leaves : List LooseLeaf) (name : List ℕ) : Type 0 where
  place : ℕ
  leaf : LooseLeaf
  there : slice_get leaves place ≡ Some leaf
  cell : leaf.cell ≡ name

named : (leaves : List LooseLeaf) (place : ℕ) (name : List ℕ) → slice_get (leaf_cell_names leaves) place ≡ Some name → IsLeafNamed leaves name
named [] place name e = absurd cc
named (l ∷ ls) zero name e = record { place = 0; leaf = l; there = refl; cell = same_Some l.cell name e }
named (l ∷ ls) (suc place) name e = let n = named ls place name e in record { place = suc n.place; leaf = n.leaf; there = n.there; cell = n.cell }

cell_at : (leaves : List LooseLeaf) (place : ℕ) (leaf : LooseLeaf) → slice_get leaves place ≡ Some leaf → slice_get (leaf_cell_names leaves) place ≡ Some leaf.cell
cell_at [] place leaf e = absurd cc
cell_at (l ∷ ls) zero leaf e = ap (λ (x : LooseLeaf). Some x.cell) (same_Some l leaf e)
cell_at (l ∷ ls) (suc place) leaf e = cell_at ls place leaf e

module _ (kit : Kit) (plan : Plan) (name : List ℕ) (m : Macro) (is : IsKit kit) (numbers : ArePlanNumbers (numbers_of plan)) (made : IsMacro kit plan Stored name m) (leaves : List LooseLeaf) (are : AreLooseLeaves kit leaves) where
  abbrev org : Organization
  org = organization plan

  abbrev lk : LayoutKit
  lk = layout_kit kit

  abbrev d : Drawing
  d = drawing_of kit plan Stored name m made

  abbrev drawn_cells : List DrawnCell
  drawn_cells = (macro_list kit org name d).cells

  abbrev cells : List (List ℕ)
  cells = leaf_cell_names leaves

  of : IsMacroOf kit.tech.layers kit.lib.structs drawn_cells m.lib.structs org lk name d
  of = is_macro_of macro_libraries_are_macros flat_cells_are_complete kit plan Stored name m is numbers.plan tt made

  pub draws : DrawsMacro kit.tech.layers m.lib.structs org lk name d
  draws =
      let drawn : (cell : DrawnCell) → Contains drawn_cells cell → IsDrawn kit.tech.layers m.lib.structs cell = finished_cells_are_drawn kit.tech.layers kit.lib.structs drawn_cells m.lib.structs of.made of.differ in
      record {
        buildable = of.buildable;
        row = λ r lt. drawn _ (of.has.row r lt);
        array = drawn _ of.has.array;
        pre = drawn _ of.has.pre;
        data_ = drawn _ of.has.data_;
        bank = drawn _ of.has.bank;
        bank_on = of.bank_on;
        logic = drawn _ of.has.logic;
        macro = drawn _ of.has.macro;
        macro_on = of.macro_on;
      }

  -- The leaf cells are listed,
  listed : (r : Role) → Contains cells (lk.cell r)
  listed r =
      let lt = place_below all_roles (role_number r) r (role_there r) in
      let found = item_there leaves (role_number r) (subst (λ (n : ℕ). role_number r < n) (sym are.sized) lt) in
      let leaf = are.each (role_number r) r found.0 (role_there r) found.1 in
      subst (Contains cells) (sym (cell_is kit.tech.roles r found.0.cell leaf.flat.plays)) (contained_at cells (role_number r) found.0.cell (cell_at leaves (role_number r) found.0 found.1))

  -- and none of them is a cell of the macro.
  other : (cell : DrawnCell) → Contains drawn_cells cell → Contains cells cell.name → ⊥
  other cell among is_leaf =
      let at = listed_at cells cell.name is_leaf in
      let n = named leaves at.0 cell.name at.1 in
      let lt = place_below leaves n.place n.leaf n.there in
      let r = item_there all_roles n.place (subst (λ (k : ℕ). n.place < k) are.sized lt) in
      let leaf = are.each n.place r.0 n.leaf r.1 n.there in
      let h = has_drawn kit.tech.layers drawn_cells of.made.made cell of.made.each among in
      let name_is : h.made.name ≡ cell.name = ap (λ (t : Structure). t.name) h.is.is ∙ h.is.order.name in
      elim (there_or_not kit.lib.structs n.leaf.cell) [
        | inl there ↦ names_apart kit.lib.structs of.made.made n.leaf.cell h.made (subst (AllPairs (λ (a b : Structure). a.name ≢ b.name)) of.made.parts of.differ) there h.among (name_is ∙ sym n.cell)
        | inr lacks ↦ leaf.flat.flat.sound.there n.leaf.cell (record { reached = record { chain = []; leads = refl }; missing = lacks })
      ]

  others : AreOtherCells cells org lk name d
  others = record {
    macro = other _ of.has.macro;
    bank = other _ of.has.bank;
    pre = other _ of.has.pre;
    data_ = other _ of.has.data_;
    logic = other _ of.has.logic;
    array = other _ of.has.array;
    row = λ r. other _ (of.has.row 0 (omega arith));
  }

  module _ (lists : Role → FlatLists) (flat_cells : (r : Role) → AreFlatLists kit.tech.layers kit.lib.structs (lk.cell r) (lists r)) where
    abbrev pub own_source : Source
    own_source = record {
      layers = kit.tech.layers;
      structs = kit.lib.structs;
      plan = org;
      kit = lk;
      bits = Alike (cell_in kit.tech.roles Bitcell);
      wire = is.wire;
      tracks = tracks_of made.layout made.laid.column;
      floorplan = floorplan_of made.layout.floorplan;
      lists = lists;
    }

    reached : (i : Standing own_source) → IsTold cells m.lib.structs org lk name i.leaf i.place
    reached i = told cells kit.tech.layers m.lib.structs org lk name d draws others listed (λ r c. refl) i.leaf i.place i.has i.stands

    inside : (i : Standing own_source) (inner shape : Shape) → IsShapeOf kit.tech.connects (stated_parts own_source) i inner shape → StandsBelow own_source m.lib.structs name (reached i).led.chain shape
    inside i inner shape one =
        let r = role org i.leaf in
        let flat = ((flat_cells r).shapes_exact inner).0 one.listed in
        let kept = ((leaves_are_kept kit.tech.layers kit.lib.structs of.made.made (lk.cell r) (flat_cells r).sound.there).shapes inner).1 flat in
        let there = subst (λ (structs : List Structure). IsFlatShape kit.tech.layers structs (lk.cell r) inner) (sym of.made.parts) kept in
        let led = (reached i).led in
        let below = below_instance kit.tech.layers m.lib.structs name (lk.cell r) led.chain i.place inner shape (instance_leads cells m.lib.structs name (lk.cell r) led.chain led.instance) led.point there one.moved in
        record { rest = below.0; stands = below.1 }

    own_wires : (n : Net) (shape : Shape) → (stated_parts own_source).Wire n shape → StandsApart kit.tech.layers m.lib.structs name cells shape
    own_wires =
        let drawn = drawn_wires kit plan name m is made in
        wires_stand cells kit.tech.layers m.lib.structs org lk name d draws others.macro others.bank is.wire own_source.tracks drawn.top drawn.bank

    chained : HasChains kit.tech.connects own_source m.lib.structs name cells
    chained = record {
      chain = λ i. (reached i).led.chain;
      instance = λ i. (reached i).led.instance;
      point = λ i p. (reached i).led.point p;
      tells = λ i j e. same_Some i.leaf j.leaf (sym (reached i).told ∙ (ap (λ (chain : List Reference). leaf_told org (elements_along chain)) e ∙ (reached j).told));
      inside = inside;
      wires = own_wires;
    }

    known : (r : Role) (cell : List ℕ) (flat : FlatLists) → IsFlatLeaf kit r cell flat → (cell ≡ lk.cell r) × (flat ≡ lists r)
    known r cell flat leaf =
        let same = sym (cell_is kit.tech.roles r cell leaf.plays) in
        (same, one_pair kit.tech.layers kit.lib.structs (lk.cell r) flat (lists r) (subst (λ (c : List ℕ). AreFlatLists kit.tech.layers kit.lib.structs c flat) same leaf.flat) (flat_cells r))

    pub own_apart : (TouchesOutside kit name m.lib.structs → ⊥) → (i : Standing own_source) (inner shape t : Shape) → IsShapeOf kit.tech.connects (stated_parts own_source) i inner shape → IsFree kit.tech.connects (stated_parts own_source) i inner → IsOutside kit.tech.connects (stated_parts own_source) i t → Touch kit.tech.connects shape t → ⊥
    own_apart none i inner shape t one free outside touch =
        no_contact kit own_source m.lib.structs name leaves are refl chained known (λ contact. none (record { leaves = leaves; are = are; contact = contact })) i inner shape t one free outside touch

-- the source on other tracks and another floorplan that are the same
pub macros_are_apart : MacrosAreApart
macros_are_apart kit plan name m leaves tracks floorplan is right numbers made on_tracks on_floorplan flat_cells none =
    subst (λ (t : Tracks). AreFreeApart kit.tech.connects (macro_source kit plan leaves is.wire t floorplan)) (sym on_tracks)
    (subst (λ (f : Floorplan). AreFreeApart kit.tech.connects (macro_source kit plan leaves is.wire (tracks_of made.layout made.laid.column) f)) (sym on_floorplan)
    (λ i inner shape t one free outside touch. with_loose_leaves kit right (λ loose are. own_apart kit plan name m is numbers made loose are leaves flat_cells none i inner shape t one free outside touch)))
