-- Where leaf instances draw on layers of wires: cells of the logic row below all banks, one behind the other.
use Rattle.std.proofs.Common.{◌≡◌, ◌⊎◌, inl, inr, ℕ, ◌+◌, ◌<◌, ℤ, pos, ◌+ℤ◌, ◌≤ℤ◌, ◌<ℤ◌, List, [], ◌∷◌, ◌++◌, Contains, refl, sym, ap, subst, ◌∙◌, arith}
use Rattle.std.specs.Prelude.{slice_index}
use Rattle.std.proofs.lemmas.Int.{ints}
use Rattle.or_geom.specs.declared.shape.Shape.{Shape}
use Rattle.or_geom.specs.declared.place.Place.{Place}
use Rattle.cell_roles.specs.declared.role.Role.TheVariants.{Inv}
use Rattle.tech_rules.specs.declared.tech.Tech.{Tech}
use Rattle.cell_hierarchy.specs.Plain.{FlatLists}
use Rattle.channel_router.specs.declared.channel.Interval.{Interval}
use Rattle.channel_router.specs.Wires.{IsWireOf}
use Rattle.sram_netlist.specs.Nets.{Net}
use Rattle.sram_netlist.specs.Instances.{LogicCell, LeafInstance, BitAt, NandAt, DriverAt, PrechargeAt, WriteAt, SenseAt, MuxAt, TieAt, LogicAt}
use Rattle.sram_netlist.specs.InstanceList.{logic_cells}
use Rattle.sram_netlist.specs.Membership.{IsOneOf, HasLeafInstance}
use Rattle.sram_netlist.specs.Netlist.{role}
use Rattle.sram_netlist.proofs.InstanceLists.{to_cells}
use Rattle.macro_layout.specs.Places.{IsPlaceOf, total_width, upright}
use Rattle.macro_layout.specs.Floorplan.{column_channel_y}
use Rattle.macro_layout.specs.Wires.{trunk_x, ground_x}
use Rattle.good_nets.specs.Parts.{IsShapeOf}
use Rattle.good_places.specs.Leaves.{zone_of, LiesNear}
use Rattle.leaf_shapes.specs.Outline.{IsWireLayer}
use Rattle.good_places.proofs.LaidLaws.{in_zone}
use Rattle.good_places.proofs.RowLaws.{total_split}
use Rattle.good_wires.proofs.ClearLaws.{write_high, column_high}
use Rattle.good_wires.proofs.LayerLaws.{metals_differ, cut_no_metal}
use Rattle.good_wires.proofs.LevelLaws.{levels}
use Rattle.good_wires.proofs.SecondLaws.{on_second}
use Rattle.joined_nets.specs.WireNets.{IsWireOfNet}
use Rattle.joined_nets.proofs.WireNetLaws.{net_of_wire}
use Rattle.kit_nets.specs.StatedParts.{Source, Standing, stated_parts}
use Rattle.wired_macros.specs.WiredMacro.{IsWiredMacro}
use Rattle.wired_macros.specs.Texts.{AreLeavesInside}

-- where an item stands in a list
record Splits {X : Type 0} (xs : List X) (x : X) : Type 0 where
  before : List X
  after : List X
  whole : xs ≡ before ++ (x ∷ after)

split_at : {X : Type 0} (xs : List X) (x : X) → IsOneOf x xs → Splits xs x
split_at [] x none = absurd none
split_at {X = X} (y ∷ ys) x (inl same) = record { before = []; after = ys; whole = ap (λ (z : X). z ∷ ys) same }
split_at {X = X} (y ∷ ys) x (inr later) = let s = split_at ys x later in record { before = y ∷ s.before; after = s.after; whole = ap (λ (zs : List X). y ∷ zs) s.whole }

-- lists one behind the other
pub append_on : {X : Type 0} (xs ys zs : List X) → (xs ++ ys) ++ zs ≡ xs ++ (ys ++ zs)
append_on [] ys zs = refl
append_on {X = X} (x ∷ xs) ys zs = ap (λ (l : List X). x ∷ l) (append_on xs ys zs)

-- an item of a list stands in front of one of them, is it, or stands behind it
pub side_of : {X : Type 0} (before : List X) (x : X) (after : List X) (y : X) → IsOneOf y (before ++ (x ∷ after)) → IsOneOf y before ⊎ ((x ≡ y) ⊎ IsOneOf y after)
side_of [] x after y (inl same) = inr (inl same)
side_of [] x after y (inr later) = inr (inr later)
side_of (b ∷ before) x after y (inl same) = inl (inl same)
side_of (b ∷ before) x after y (inr later) = elim (side_of before x after y later) [
  | inl front ↦ inl (inr front)
  | inr rest ↦ inr rest
]

module _ (tech : Tech) (s : Source) (flat : FlatLists) (d : IsWiredMacro tech s flat) (inside : AreLeavesInside s) where
  -- a shape of a leaf instance on a layer of wires lies in its zone
  pub lies_in : (i : Standing s) (inner u : Shape) → IsShapeOf tech.connects (stated_parts s) i inner u → IsWireLayer s.wire u.layer → LiesNear (pos 0) (zone_of s.plan s.kit s.floorplan i.leaf i.place) u.rect
  lies_in i inner u is on = in_zone s.plan s.kit s.wire s.floorplan (pos 0) d.memory.laid i.leaf i.place inner u i.has i.stands (inside i.leaf inner i.has is.listed (subst (IsWireLayer s.wire) is.moved.layer on)) is.moved

  same : (z : ℤ) → z ≤ℤ z
  same z = omega (arith, ints)

  -- a leaf instance is a cell of the logic row, or stands over it
  pub row_or_bank : (leaf : LeafInstance) (place : Place) → ((cell : LogicCell) × (leaf ≡ LogicAt cell)) ⊎ (s.floorplan.write_y ≤ℤ (zone_of s.plan s.kit s.floorplan leaf place).low)
  row_or_bank (BitAt b r c) place = inr (column_high s.plan s.kit s.wire s.tracks s.floorplan d.memory)
  row_or_bank (NandAt b r) place = inr (column_high s.plan s.kit s.wire s.tracks s.floorplan d.memory)
  row_or_bank (DriverAt b r) place = inr (column_high s.plan s.kit s.wire s.tracks s.floorplan d.memory)
  row_or_bank (PrechargeAt b c) place = inr (column_high s.plan s.kit s.wire s.tracks s.floorplan d.memory)
  row_or_bank (WriteAt b i) place = inr (same s.floorplan.write_y)
  row_or_bank (SenseAt b i) place = inr (same s.floorplan.write_y)
  row_or_bank (MuxAt b c) place = inr (column_high s.plan s.kit s.wire s.tracks s.floorplan d.memory)
  row_or_bank (TieAt b c) place = inr (column_high s.plan s.kit s.wire s.tracks s.floorplan d.memory)
  row_or_bank (LogicAt cell) place = inl (cell, refl)

  -- the row lies below all banks
  pub over_row : pos (s.kit.height Inv) <ℤ s.floorplan.write_y
  over_row = by (pos (s.kit.height Inv)) s.wire.space s.floorplan.write_y (write_high s.plan s.kit s.wire s.tracks s.floorplan d.memory) d.laid.sizes.space.from where
    by : (h space y : ℤ) → (h +ℤ space) ≤ℤ y → pos 1 ≤ℤ space → h <ℤ y
    by h space y a b = omega (arith, ints, a, b)

  -- In the logic row

  abbrev pub width : LogicCell → ℕ
  width cell = s.kit.width (role s.plan (LogicAt cell))

  abbrev pub wide : List LogicCell → ℕ
  wide cells = total_width s.plan s.kit cells

  -- what stands behind cells that are so wide together
  abbrev pub row_place : List LogicCell → Place
  row_place before = upright (s.floorplan.logic_x +ℤ pos (wide before)) (pos 0)

  pub stands_in_row : (before after : List LogicCell) (cell : LogicCell) → logic_cells s.plan ≡ before ++ (cell ∷ after) → IsPlaceOf s.plan s.kit s.floorplan (LogicAt cell) (row_place before)
  stands_in_row before after cell row = record { before = before; after = after; row = row; at = refl }

  place_is : (before after : List LogicCell) (cell : LogicCell) (place : Place) → HasLeafInstance s.plan (LogicAt cell) → logic_cells s.plan ≡ before ++ (cell ∷ after) → IsPlaceOf s.plan s.kit s.floorplan (LogicAt cell) place → place.at.x ≡ s.floorplan.logic_x +ℤ pos (wide before)
  place_is before after cell place has row stands = ap (λ (p : Place). p.at.x) (d.laid.by.placed_once (LogicAt cell) place (row_place before) has stands (stands_in_row before after cell row))

  -- a cell in front of these ends where they end, or before
  in_front : (before after : List LogicCell) (cell c : LogicCell) (place : Place) → logic_cells s.plan ≡ before ++ (cell ∷ after) → IsOneOf c before → HasLeafInstance s.plan (LogicAt c) → IsPlaceOf s.plan s.kit s.floorplan (LogicAt c) place
      → (place.at.x +ℤ pos (width c)) ≤ℤ (s.floorplan.logic_x +ℤ pos (wide before))
  in_front before after cell c place row one has stands =
      let at = split_at before c one in
      let whole = ap (λ (l : List LogicCell). l ++ (cell ∷ after)) at.whole ∙ append_on at.before (c ∷ at.after) (cell ∷ after) in
      let x = place_is at.before (at.after ++ (cell ∷ after)) c place has (row ∙ whole) stands in
      let sum = ap wide at.whole ∙ total_split s.plan s.kit at.before (c ∷ at.after) in
      by s.floorplan.logic_x place.at.x (wide before) (wide at.before) (width c) (wide at.after) x sum
    where
      by : (lx x : ℤ) (all b c a : ℕ) → x ≡ lx +ℤ pos b → all ≡ b + (c + a) → (x +ℤ pos c) ≤ℤ (lx +ℤ pos all)
      by lx x all b c a e sum = omega (arith, ints, e, sum)

  -- one behind the cell begins where it ends, or later
  in_back : (before after : List LogicCell) (cell c : LogicCell) (place : Place) → logic_cells s.plan ≡ before ++ (cell ∷ after) → IsOneOf c after → HasLeafInstance s.plan (LogicAt c) → IsPlaceOf s.plan s.kit s.floorplan (LogicAt c) place
      → ((s.floorplan.logic_x +ℤ pos (wide before)) +ℤ pos (width cell)) ≤ℤ place.at.x
  in_back before after cell c place row one has stands =
      let at = split_at after c one in
      let whole = ap (λ (l : List LogicCell). before ++ (cell ∷ l)) at.whole ∙ sym (append_on before (cell ∷ at.before) (c ∷ at.after)) in
      let x = place_is (before ++ (cell ∷ at.before)) at.after c place has (row ∙ whole) stands in
      let sum = total_split s.plan s.kit before (cell ∷ at.before) in
      by s.floorplan.logic_x place.at.x (wide (before ++ (cell ∷ at.before))) (wide before) (width cell) (wide at.before) x sum
    where
      by : (lx x : ℤ) (all b c a : ℕ) → x ≡ lx +ℤ pos all → all ≡ b + (c + a) → ((lx +ℤ pos b) +ℤ pos c) ≤ℤ x
      by lx x all b c a e sum = omega (arith, ints, e, sum)

  -- Wires on the second metal stand over the row, or behind it.
  pub second_wire : (n : Net) (u : Shape) → IsWireOfNet s.plan s.kit s.wire s.tracks s.floorplan n u → u.layer ≡ slice_index s.wire.metals 1 → (pos (s.kit.height Inv) ≤ℤ u.rect.y1) ⊎ (trunk_x s.plan s.kit s.wire s.floorplan ≤ℤ u.rect.x1)
  second_wire n u is on = elim (on_second s.plan s.kit s.wire s.tracks s.floorplan d.memory u on (net_of_wire s.plan s.kit s.wire s.tracks s.floorplan n u is)) [
    | inl main ↦ inl (branch main.net main.of.interval main.of.t main.of.wires)
    | inr (inl column) ↦
        let l = levels s.plan s.kit s.wire s.tracks s.floorplan d.laid.sizes d.laid.floor in
        inl (higher u.rect.y1 (column_channel_y s.kit s.floorplan) s.floorplan.write_y s.floorplan.sense_y (pos (s.kit.height Inv)) column.drawn.low l.sense l.channel over_row)
    | inr (inr trunk) ↦ inr (behind trunk.x trunk.at trunk.drawn.left)
  ] where
    no_metal : {X : Type 0} (k : ℕ) → k < 4 → (k ≡ 1 → ⊥) → u.layer ≡ slice_index s.wire.metals k → X
    no_metal k lt other e = absurd (metals_differ s.wire k 1 d.memory.seven lt (omega arith) other (sym e ∙ on))

    no_cut : {X : Type 0} (k : ℕ) → k < 3 → u.layer ≡ slice_index s.wire.cuts k → X
    no_cut k lt e = absurd (cut_no_metal s.wire k 1 d.memory.seven lt (omega arith) (sym e ∙ on))

    branch : (net : ℕ) (interval : Interval) (t : ℕ) → IsWireOf d.memory.main.channel s.wire s.tracks.main net interval t u → pos (s.kit.height Inv) ≤ℤ u.rect.y1
    branch net interval t (inl trunk) = no_metal 2 (omega arith) (λ e. omega (arith, e)) trunk.on
    branch net interval t (inr (inl (x, p, inl box))) = no_metal 3 (omega arith) (λ e. omega (arith, e)) box.on
    branch net interval t (inr (inl (x, p, inr via))) = no_cut 2 (omega arith) via.on
    branch net interval t (inr (inr (x, p, inl box))) = let low = box.low in let from = d.memory.main.meant.low in omega (arith, ints, low, from)
    branch net interval t (inr (inr (x, p, inr via))) = no_cut 1 (omega arith) via.on

    higher : (y1 c w se h : ℤ) → y1 ≡ c → w ≤ℤ se → se ≤ℤ c → h <ℤ w → h ≤ℤ y1
    higher y1 c w se h a b e f = omega (arith, ints, a, b, e, f)

    behind : (x : ℤ) → (x ≡ trunk_x s.plan s.kit s.wire s.floorplan) ⊎ (x ≡ ground_x s.plan s.kit s.wire s.floorplan) → u.rect.x1 ≡ x → trunk_x s.plan s.kit s.wire s.floorplan ≤ℤ u.rect.x1
    behind x (inl e) left = at u.rect.x1 x (trunk_x s.plan s.kit s.wire s.floorplan) left e where
      at : (x1 x t : ℤ) → x1 ≡ x → x ≡ t → t ≤ℤ x1
      at x1 x t a b = omega (arith, ints, a, b)
    behind x (inr e) left = at u.rect.x1 x (trunk_x s.plan s.kit s.wire s.floorplan) s.wire.width s.wire.space left e d.laid.sizes.width.from d.laid.sizes.space.from where
      at : (x1 x t w space : ℤ) → x1 ≡ x → x ≡ t +ℤ (w +ℤ space) → pos 1 ≤ℤ w → pos 1 ≤ℤ space → t ≤ℤ x1
      at x1 x t w space a b c e = omega (arith, ints, a, b, c, e)

  -- a shape on a metal is on a layer of wires
  pub of_metal : (metal : ℕ) → metal < 4 → (layer : ℕ) → layer ≡ slice_index s.wire.metals metal → IsWireLayer s.wire layer
  of_metal metal lt layer on = inl (subst (Contains s.wire.metals) (sym on) (d.laid.first.metals metal lt))

  -- what a leaf instance of the row draws on a layer of wires
  pub lies_in_row : (i : Standing s) (c : LogicCell) (e : i.leaf ≡ LogicAt c) (inner u : Shape) → IsShapeOf tech.connects (stated_parts s) i inner u → IsWireLayer s.wire u.layer → LiesNear (pos 0) (zone_of s.plan s.kit s.floorplan (LogicAt c) i.place) u.rect
  lies_in_row i c e inner u is on = subst (λ (l : LeafInstance). LiesNear (pos 0) (zone_of s.plan s.kit s.floorplan l i.place) u.rect) e (lies_in i inner u is on)

  module _ (before after : List LogicCell) (cell : LogicCell) (row : logic_cells s.plan ≡ before ++ (cell ∷ after)) where
    -- where the cell begins and ends
    abbrev pub begins : ℤ
    begins = s.floorplan.logic_x +ℤ pos (wide before)

    abbrev pub ends : ℤ
    ends = (s.floorplan.logic_x +ℤ pos (wide before)) +ℤ pos (width cell)

    pub behind_row : (i : Standing s) (c : LogicCell) → i.leaf ≡ LogicAt c → IsOneOf c after → ends ≤ℤ i.place.at.x
    behind_row i c e back = in_back before after cell c i.place row back (subst (HasLeafInstance s.plan) e i.has) (subst (λ (l : LeafInstance). IsPlaceOf s.plan s.kit s.floorplan l i.place) e i.stands)

    pub before_row : (i : Standing s) (c : LogicCell) → i.leaf ≡ LogicAt c → IsOneOf c before → (i.place.at.x +ℤ pos (width c)) ≤ℤ begins
    before_row i c e front = in_front before after cell c i.place row front (subst (HasLeafInstance s.plan) e i.has) (subst (λ (l : LeafInstance). IsPlaceOf s.plan s.kit s.floorplan l i.place) e i.stands)

    -- a cell of the row stands in front of it, is it, or stands behind it
    pub side : (c : LogicCell) → HasLeafInstance s.plan (LogicAt c) → IsOneOf c before ⊎ ((cell ≡ c) ⊎ IsOneOf c after)
    side c there = side_of before cell after c (subst (IsOneOf c) row (to_cells s.plan c there))
