-- Where the instances of a memory stand, which stand near each other, and that their shapes lie near their zones.
use Rattle.std.proofs.Common.{◌≡◌, ◌⊎◌, inl, inr, ℕ, ◌<◌, ℤ, pos, ◌+ℤ◌, ◌≤ℤ◌, List, refl, subst, arith}
use Rattle.std.proofs.lemmas.Int.{ints}
use Rattle.or_geom.specs.declared.place.Place.{Place}
use Rattle.or_geom.specs.declared.shape.Point.{Point}
use Rattle.or_geom.specs.declared.shape.Rect.{Rect}
use Rattle.or_geom.specs.declared.shape.Shape.{Shape}
use Rattle.or_geom.specs.Joined.{IsIn}
use Rattle.tech_rules.specs.declared.tech.Connect.{Connect}
use Rattle.tech_rules.specs.Touch.{Touch, ShareArea}
use Rattle.sram_netlist.specs.Organization.{Organization, columns_of}
use Rattle.sram_netlist.specs.Instances.{LeafInstance, BitAt, NandAt, DriverAt, PrechargeAt, WriteAt, SenseAt, MuxAt, TieAt, LogicAt}
use Rattle.sram_netlist.specs.Membership.{HasLeafInstance}
use Rattle.macro_layout.specs.LayoutKit.{LayoutKit}
use Rattle.macro_layout.specs.Places.{Floorplan}
use Rattle.good_places.specs.Beside.{IsNext, IsBeside, IsBesideSlice}
use Rattle.good_places.specs.Leaves.{Zone, LiesNear, AreNearZones, zone_of, column_zone, front_zone, slice_zone}
use Rattle.leaf_shapes.specs.Outline.{IsWireLayer}
use Rattle.good_places.proofs.LaidLaws.{in_zone, written_all}
use Rattle.good_nets.specs.Parts.{IsShapeOf}
use Rattle.kit_nets.specs.StatedParts.{Source, Standing, stated_parts}
use Rattle.seen_pairs.specs.Counterpart.{IsOfColumns, IsOfFronts, IsOfSlices, leaf_bank, number_of}
use Rattle.seen_pairs.specs.Pair.{IsOfSome}
use Rattle.seen_pairs.specs.Window.{IsSeenSource}

pub seat : (leaf : LeafInstance) → IsOfSome leaf
seat (BitAt b r c) = inl tt
seat (PrechargeAt b c) = inl tt
seat (MuxAt b c) = inl tt
seat (TieAt b c) = inl tt
seat (NandAt b r) = inr (inl tt)
seat (DriverAt b r) = inr (inl tt)
seat (WriteAt b i) = inr (inr (inl tt))
seat (SenseAt b i) = inr (inr (inl tt))
seat (LogicAt cell) = inr (inr (inr (cell, refl)))

-- the zones of instances
pub column_seat : (plan : Organization) (kit : LayoutKit) (f : Floorplan) (leaf : LeafInstance) (place : Place) → IsOfColumns leaf → zone_of plan kit f leaf place ≡ column_zone plan kit f (leaf_bank leaf) (number_of leaf)
column_seat plan kit f (BitAt b r c) place of = refl
column_seat plan kit f (PrechargeAt b c) place of = refl
column_seat plan kit f (MuxAt b c) place of = refl
column_seat plan kit f (TieAt b c) place of = refl
column_seat plan kit f (NandAt b r) place of = absurd of
column_seat plan kit f (DriverAt b r) place of = absurd of
column_seat plan kit f (WriteAt b i) place of = absurd of
column_seat plan kit f (SenseAt b i) place of = absurd of
column_seat plan kit f (LogicAt cell) place of = absurd of

pub front_seat : (plan : Organization) (kit : LayoutKit) (f : Floorplan) (leaf : LeafInstance) (place : Place) → IsOfFronts leaf → zone_of plan kit f leaf place ≡ front_zone plan kit f (leaf_bank leaf)
front_seat plan kit f (NandAt b r) place of = refl
front_seat plan kit f (DriverAt b r) place of = refl
front_seat plan kit f (BitAt b r c) place of = absurd of
front_seat plan kit f (PrechargeAt b c) place of = absurd of
front_seat plan kit f (MuxAt b c) place of = absurd of
front_seat plan kit f (TieAt b c) place of = absurd of
front_seat plan kit f (WriteAt b i) place of = absurd of
front_seat plan kit f (SenseAt b i) place of = absurd of
front_seat plan kit f (LogicAt cell) place of = absurd of

pub slice_seat : (plan : Organization) (kit : LayoutKit) (f : Floorplan) (leaf : LeafInstance) (place : Place) → IsOfSlices leaf → zone_of plan kit f leaf place ≡ slice_zone plan kit f (leaf_bank leaf) (number_of leaf)
slice_seat plan kit f (WriteAt b i) place of = refl
slice_seat plan kit f (SenseAt b i) place of = refl
slice_seat plan kit f (BitAt b r c) place of = absurd of
slice_seat plan kit f (NandAt b r) place of = absurd of
slice_seat plan kit f (DriverAt b r) place of = absurd of
slice_seat plan kit f (PrechargeAt b c) place of = absurd of
slice_seat plan kit f (MuxAt b c) place of = absurd of
slice_seat plan kit f (TieAt b c) place of = absurd of
slice_seat plan kit f (LogicAt cell) place of = absurd of

-- their columns and slices are among the memory's
pub column_below : (plan : Organization) (leaf : LeafInstance) → IsOfColumns leaf → HasLeafInstance plan leaf → number_of leaf < columns_of plan
column_below plan (BitAt b r c) of has = has.1.1
column_below plan (PrechargeAt b c) of has = has.1
column_below plan (MuxAt b c) of has = has.1.0
column_below plan (TieAt b c) of has = has.1.0
column_below plan (NandAt b r) of has = absurd of
column_below plan (DriverAt b r) of has = absurd of
column_below plan (WriteAt b i) of has = absurd of
column_below plan (SenseAt b i) of has = absurd of
column_below plan (LogicAt cell) of has = absurd of

pub slice_below : (plan : Organization) (leaf : LeafInstance) → 0 < plan.write_size → IsOfSlices leaf → HasLeafInstance plan leaf → number_of leaf < plan.word_size
slice_below plan (WriteAt b i) some of has = subst (λ (n : ℕ). i < n) (written_all plan.write_size plan.word_size some) has.1
slice_below plan (SenseAt b i) some of has = has.1
slice_below plan (BitAt b r c) some of has = absurd of
slice_below plan (NandAt b r) some of has = absurd of
slice_below plan (DriverAt b r) some of has = absurd of
slice_below plan (PrechargeAt b c) some of has = absurd of
slice_below plan (MuxAt b c) some of has = absurd of
slice_below plan (TieAt b c) some of has = absurd of
slice_below plan (LogicAt cell) some of has = absurd of

-- what stands beside a column, a front or a slice
pub beside_is : (b c : ℕ) (leaf : LeafInstance) → IsBeside b c leaf → (leaf_bank leaf ≡ b) × ((IsOfColumns leaf × IsNext c (number_of leaf)) ⊎ (IsOfFronts leaf × (c ≡ 0)))
beside_is b c (BitAt bank r d) h = (h.0, inl (tt, h.1))
beside_is b c (PrechargeAt bank d) h = (h.0, inl (tt, h.1))
beside_is b c (MuxAt bank d) h = (h.0, inl (tt, h.1))
beside_is b c (TieAt bank d) h = (h.0, inl (tt, h.1))
beside_is b c (NandAt bank r) h = (h.0, inr (tt, h.1))
beside_is b c (DriverAt bank r) h = (h.0, inr (tt, h.1))
beside_is b c (WriteAt bank i) h = absurd h
beside_is b c (SenseAt bank i) h = absurd h
beside_is b c (LogicAt cell) h = absurd h

pub beside_slice_is : (b i : ℕ) (leaf : LeafInstance) → IsBesideSlice b i leaf → (leaf_bank leaf ≡ b) × (IsOfSlices leaf × IsNext i (number_of leaf))
beside_slice_is b i (WriteAt bank j) h = (h.0, (tt, h.1))
beside_slice_is b i (SenseAt bank j) h = (h.0, (tt, h.1))
beside_slice_is b i (BitAt bank r d) h = absurd h
beside_slice_is b i (NandAt bank r) h = absurd h
beside_slice_is b i (DriverAt bank r) h = absurd h
beside_slice_is b i (PrechargeAt bank d) h = absurd h
beside_slice_is b i (MuxAt bank d) h = absurd h
beside_slice_is b i (TieAt bank d) h = absurd h
beside_slice_is b i (LogicAt cell) h = absurd h

-- Touching shapes have near zones

-- so do shapes that hold one point
pub point_zones : (by reach : ℤ) (z w : Zone) (a b : Rect) (p : Point) → (pos 1 +ℤ (by +ℤ by)) ≤ℤ reach → LiesNear by z a → LiesNear by w b → IsIn a p → IsIn b p → AreNearZones reach w z
point_zones by reach z w a b p le in_z in_w pa pb = record {
  left = let x = in_w.left in let y = in_z.right in let u = pa.right in let v = pb.left in omega (arith, ints, le, x, y, u, v);
  right = let x = in_w.right in let y = in_z.left in let u = pa.left in let v = pb.right in omega (arith, ints, le, x, y, u, v);
  low = let x = in_w.low in let y = in_z.high in let u = pa.high in let v = pb.low in omega (arith, ints, le, x, y, u, v);
  high = let x = in_w.high in let y = in_z.low in let u = pa.low in let v = pb.high in omega (arith, ints, le, x, y, u, v);
}

area_zones : (by reach : ℤ) (z w : Zone) (a b : Rect) → (pos 1 +ℤ (by +ℤ by)) ≤ℤ reach → LiesNear by z a → LiesNear by w b → ShareArea a b → AreNearZones reach w z
area_zones by reach z w a b le in_z in_w s =
    let pa = s.in_a in
    let pb = s.in_b in
    record {
      left = let x = in_w.left in let y = in_z.right in let u = pa.right in let v = pb.left in omega (arith, ints, le, x, y, u, v);
      right = let x = in_w.right in let y = in_z.left in let u = pa.left in let v = pb.right in omega (arith, ints, le, x, y, u, v);
      low = let x = in_w.low in let y = in_z.high in let u = pa.high in let v = pb.low in omega (arith, ints, le, x, y, u, v);
      high = let x = in_w.high in let y = in_z.low in let u = pa.low in let v = pb.high in omega (arith, ints, le, x, y, u, v);
    }

turned_area : (a b : Rect) → ShareArea b a → ShareArea a b
turned_area a b s = record { x = s.x; y = s.y; in_a = s.in_b; in_b = s.in_a }

touch_zones : (connections : List Connect) (by reach : ℤ) (z w : Zone) (a b : Shape) → (pos 1 +ℤ (by +ℤ by)) ≤ℤ reach → LiesNear by z a.rect → LiesNear by w b.rect → Touch connections a b → AreNearZones reach w z
touch_zones connections by reach z w a b le in_z in_w (inl same) = let j = same.joined in point_zones by reach z w a.rect b.rect j.p le in_z in_w j.p_in_a j.p_in_b
touch_zones connections by reach z w a b le in_z in_w (inr (inl cut)) = area_zones by reach z w a.rect b.rect le in_z in_w cut.area
touch_zones connections by reach z w a b le in_z in_w (inr (inr cut)) = area_zones by reach z w a.rect b.rect le in_z in_w (turned_area a.rect b.rect cut.area)

module _ (connections : List Connect) (s : Source) (by reach : ℤ) (is : IsSeenSource connections s by reach) where
  abbrev pub zone_at : Standing s → Zone
  zone_at i = zone_of s.plan s.kit s.floorplan i.leaf i.place

  -- an instance's shapes lie near its zone, and in it on layers of wires
  pub shape_near : (i : Standing s) (inner shape : Shape) → IsShapeOf connections (stated_parts s) i inner shape → LiesNear by (zone_at i) shape.rect
  shape_near i inner shape of = in_zone s.plan s.kit s.wire s.floorplan by is.source.drawn.laid i.leaf i.place inner shape i.has i.stands (is.passes i.leaf inner i.has of.listed) of.moved

  pub shape_inside : (i : Standing s) (inner shape : Shape) → IsShapeOf connections (stated_parts s) i inner shape → IsWireLayer s.wire shape.layer → LiesNear (pos 0) (zone_at i) shape.rect
  shape_inside i inner shape of wires =
      in_zone s.plan s.kit s.wire s.floorplan (pos 0) is.source.drawn.laid i.leaf i.place inner shape i.has i.stands (is.inside i.leaf inner i.has of.listed (subst (IsWireLayer s.wire) of.moved.layer wires)) of.moved

  pub near_zones : (i j : Standing s) (x y a b : Shape) → IsShapeOf connections (stated_parts s) i x a → IsShapeOf connections (stated_parts s) j y b → Touch connections a b → AreNearZones reach (zone_at j) (zone_at i)
  near_zones i j x y a b of_i of_j touch = touch_zones connections by reach (zone_at i) (zone_at j) a b is.felt (shape_near i x a of_i) (shape_near j y b of_j) touch

  pub holding_zones : (i j : Standing s) (x y a b : Shape) (p : Point) → IsShapeOf connections (stated_parts s) i x a → IsShapeOf connections (stated_parts s) j y b → IsIn a.rect p → IsIn b.rect p → AreNearZones reach (zone_at j) (zone_at i)
  holding_zones i j x y a b p of_i of_j in_a in_b = point_zones by reach (zone_at i) (zone_at j) a.rect b.rect p is.felt (shape_near i x a of_i) (shape_near j y b of_j) in_a in_b
