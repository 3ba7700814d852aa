-- What touches a wire is near it, and touches, moved, a wire that covers as much there.
use Rattle.std.proofs.Common.{◌≡◌, ◌⊎◌, inl, inr, ℕ, ◌+◌, ◌<◌, ℤ, pos, ◌<ℤ◌, ◌≤ℤ◌, ◌+ℤ◌, List, Contains, ap, sym, subst, ◌∙◌, arith}
use Rattle.std.specs.Prelude.{slice_index}
use Rattle.std.proofs.lemmas.Int.{ints}
use Rattle.or_geom.specs.declared.shape.Point.{Point}
use Rattle.or_geom.specs.declared.shape.Rect.{Rect}
use Rattle.or_geom.specs.declared.shape.Shape.{Shape}
use Rattle.or_geom.specs.Joined.{AreJoined, IsIn}
use Rattle.tech_rules.specs.declared.tech.Connect.{Connect}
use Rattle.tech_rules.specs.declared.tech.Wire.{Wire}
use Rattle.tech_rules.specs.Touch.{Touch, ShareArea, IsConductor, IsCutTo}
use Rattle.macro_layout.specs.Stated.{IsShifted}
use Rattle.good_places.specs.Leaves.{Zone, LiesNear}
use Rattle.leaf_shapes.specs.Outline.{IsWireLayer}
use Rattle.joined_nets.specs.Joints.{JoinsOnlyWires, IsOnWireLayer}
use Rattle.small_wires.specs.Seen.{IsNearZone, CoversThere}

-- Near

pub point_near : (m : ℤ) (z : Zone) (a t : Rect) (p : Point) → pos 1 ≤ℤ m → LiesNear (pos 0) z a → IsIn a p → IsIn t p → IsNearZone m z t
point_near m z a t p some near pa pb = record {
  left = let x = near.left in let y = pa.left in let w = pb.right in omega (arith, ints, some, x, y, w);
  right = let x = near.right in let y = pa.right in let w = pb.left in omega (arith, ints, some, x, y, w);
  low = let x = near.low in let y = pa.low in let w = pb.high in omega (arith, ints, some, x, y, w);
  high = let x = near.high in let y = pa.high in let w = pb.low in omega (arith, ints, some, x, y, w);
}

area_near : (by m : ℤ) (z : Zone) (a t : Rect) → by ≤ℤ m → LiesNear by z a → ShareArea a t → IsNearZone m z t
area_near by m z a t le near s =
    let pa = s.in_a in
    let pb = s.in_b in
    record {
      left = let x = near.left in let y = pa.left in let w = pb.right in omega (arith, ints, le, x, y, w);
      right = let x = near.right in let y = pa.right in let w = pb.left in omega (arith, ints, le, x, y, w);
      low = let x = near.low in let y = pa.low in let w = pb.high in omega (arith, ints, le, x, y, w);
      high = let x = near.high in let y = pa.high in let w = pb.low in omega (arith, ints, le, x, y, w);
    }

turned_area : (a b : Rect) → ShareArea a b → ShareArea b a
turned_area a b s = record { x = s.x; y = s.y; in_a = s.in_b; in_b = s.in_a }

module _ (connections : List Connect) (wire : Wire) (only : JoinsOnlyWires connections wire) (metals : (k : ℕ) → k < 4 → Contains wire.metals (slice_index wire.metals k)) (by m : ℤ) (some : pos 1 ≤ℤ m) (from : pos 0 ≤ℤ m) (le : by ≤ℤ m) where
  -- a cut of wires joins metals of wires alone
  by_cut : (z : Zone) (a t : Shape) → (IsWireLayer wire a.layer → LiesNear (pos 0) z a.rect) → IsOnWireLayer wire t → IsCutTo connections t.layer a.layer → ShareArea t.rect a.rect → IsNearZone m z t.rect
  by_cut z a t inside (inl metal) to area = absurd (only.no_metal metal.place a.layer metal.below (subst (λ (l : ℕ). IsCutTo connections l a.layer) metal.on to))
  by_cut z a t inside (inr cut) to area = elim (only.beside cut.place a.layer cut.below (subst (λ (l : ℕ). IsCutTo connections l a.layer) cut.on to)) [
    | inl under ↦ area_near (pos 0) m z a.rect t.rect from (inside (inl (subst (Contains wire.metals) (sym under) (metals cut.place (let b = cut.below in omega (arith, b)))))) (turned_area t.rect a.rect area)
    | inr over ↦ area_near (pos 0) m z a.rect t.rect from (inside (inl (subst (Contains wire.metals) (sym over) (metals (cut.place + 1) (let b = cut.below in omega (arith, b)))))) (turned_area t.rect a.rect area)
  ]

  -- What touches a wire: it is near the zone in which the shape lies.
  pub touch_near : (z : Zone) (a t : Shape) → LiesNear by z a.rect → (IsWireLayer wire a.layer → LiesNear (pos 0) z a.rect) → IsOnWireLayer wire t → IsWireLayer wire t.layer → Touch connections a t → IsNearZone m z t.rect
  touch_near z a t near inside on of (inl same) = let j = same.joined in point_near m z a.rect t.rect j.p some (inside (subst (IsWireLayer wire) (sym same.one_layer) of)) j.p_in_a j.p_in_b
  touch_near z a t near inside on of (inr (inl cut)) = area_near by m z a.rect t.rect le near cut.area
  touch_near z a t near inside on of (inr (inr cut)) = by_cut z a t inside on cut.connects cut.area

-- Covered

abbrev moved_point : ℤ → ℤ → Point → Point
moved_point dx dy p = record { x = p.x +ℤ dx; y = p.y +ℤ dy }

in_moved : (dx dy : ℤ) (a b : Shape) (p : Point) → IsShifted dx dy a b → IsIn a.rect p → IsIn b.rect (moved_point dx dy p)
in_moved dx dy a b p s is = record {
  left = let x = s.x1 in let y = is.left in omega (arith, ints, x, y);
  right = let x = s.x2 in let y = is.right in omega (arith, ints, x, y);
  low = let x = s.y1 in let y = is.low in omega (arith, ints, x, y);
  high = let x = s.y2 in let y = is.high in omega (arith, ints, x, y);
}

-- what is at least so much, or lies at least as far as the shape
reaches_low : (by d z a t other p : ℤ) → (other ≤ℤ (t +ℤ d)) ⊎ ((other +ℤ by) ≤ℤ (z +ℤ d)) → z ≤ℤ (a +ℤ by) → a ≤ℤ p → t ≤ℤ p → other ≤ℤ (p +ℤ d)
reaches_low by d z a t other p (inl e) n in_a in_t = omega (arith, ints, e, in_t)
reaches_low by d z a t other p (inr e) n in_a in_t = omega (arith, ints, e, n, in_a)

reaches_high : (by d z a t other p : ℤ) → ((t +ℤ d) ≤ℤ other) ⊎ (((z +ℤ d) +ℤ by) ≤ℤ other) → a ≤ℤ (z +ℤ by) → p ≤ℤ a → p ≤ℤ t → (p +ℤ d) ≤ℤ other
reaches_high by d z a t other p (inl e) n in_a in_t = omega (arith, ints, e, in_t)
reaches_high by d z a t other p (inr e) n in_a in_t = omega (arith, ints, e, n, in_a)

module _ (by dx dy : ℤ) (z : Zone) (a b t u : Shape) (near : LiesNear by z a.rect) (at : IsShifted dx dy a b) (covers : CoversThere by dx dy z t u) where
  pub in_cover : (p : Point) → IsIn a.rect p → IsIn t.rect p → IsIn u.rect (moved_point dx dy p)
  in_cover p in_a in_t = record {
    left = reaches_low by dx z.left a.rect.x1 t.rect.x1 u.rect.x1 p.x covers.left near.left in_a.left in_t.left;
    right = reaches_high by dx z.right a.rect.x2 t.rect.x2 u.rect.x2 p.x covers.right near.right in_a.right in_t.right;
    low = reaches_low by dy z.low a.rect.y1 t.rect.y1 u.rect.y1 p.y covers.low near.low in_a.low in_t.low;
    high = reaches_high by dy z.high a.rect.y2 t.rect.y2 u.rect.y2 p.y covers.high near.high in_a.high in_t.high;
  }

  joined_there : AreJoined a.rect t.rect → AreJoined b.rect u.rect
  joined_there j = record {
    p = moved_point dx dy j.p;
    q = moved_point dx dy j.q;
    differ = λ e. j.differ (back j.p j.q e);
    p_in_a = in_moved dx dy a b j.p at j.p_in_a;
    p_in_b = in_cover j.p j.p_in_a j.p_in_b;
    q_in_a = in_moved dx dy a b j.q at j.q_in_a;
    q_in_b = in_cover j.q j.q_in_a j.q_in_b;
  } where
    one : (x y d : ℤ) → x +ℤ d ≡ y +ℤ d → x ≡ y
    one x y d e = omega (arith, ints, e)

    back : (p q : Point) → moved_point dx dy p ≡ moved_point dx dy q → p ≡ q
    back p q e =
        let x = one p.x q.x dx (ap (λ (r : Point). r.x) e) in
        let y = one p.y q.y dy (ap (λ (r : Point). r.y) e) in
        λ i. record { x = x i; y = y i }

  next : (x y : ℤ) → x <ℤ y → (x +ℤ pos 1) ≤ℤ y
  next x y lt = omega (arith, ints, lt)

  before : (x y : ℤ) → (x +ℤ pos 1) ≤ℤ y → x <ℤ y
  before x y le = omega (arith, ints, le)

  area_there : ShareArea a.rect t.rect → ShareArea b.rect u.rect
  area_there s =
      let pa = s.in_a in
      let pt = s.in_b in
      record {
        x = s.x +ℤ dx;
        y = s.y +ℤ dy;
        in_a = record {
          left = let e = at.x1 in let l = pa.left in omega (arith, ints, e, l);
          right = let e = at.x2 in let l = pa.right in omega (arith, ints, e, l);
          low = let e = at.y1 in let l = pa.low in omega (arith, ints, e, l);
          high = let e = at.y2 in let l = pa.high in omega (arith, ints, e, l);
        };
        in_b = record {
          left = reaches_low by dx z.left a.rect.x1 t.rect.x1 u.rect.x1 s.x covers.left near.left pa.left pt.left;
          right = let r = reaches_high by dx z.right a.rect.x2 t.rect.x2 u.rect.x2 (s.x +ℤ pos 1) covers.right near.right (next s.x a.rect.x2 pa.right) (next s.x t.rect.x2 pt.right) in omega (arith, ints, r);
          low = reaches_low by dy z.low a.rect.y1 t.rect.y1 u.rect.y1 s.y covers.low near.low pa.low pt.low;
          high = let r = reaches_high by dy z.high a.rect.y2 t.rect.y2 u.rect.y2 (s.y +ℤ pos 1) covers.high near.high (next s.y a.rect.y2 pa.high) (next s.y t.rect.y2 pt.high) in omega (arith, ints, r);
        };
      }

  -- What touches the wire touches, moved, the one that covers as much.
  pub touch_there : (connections : List Connect) → Touch connections a t → Touch connections b u
  touch_there connections (inl same) = inl (record { one_layer = at.layer ∙ (same.one_layer ∙ sym covers.layer); conductor = subst (IsConductor connections) (sym at.layer) same.conductor; joined = joined_there same.joined })
  touch_there connections (inr (inl cut)) = inr (inl (record { connects = cut_to connections (sym at.layer) (sym covers.layer) cut.connects; area = area_there cut.area })) where
    cut_to : (connections : List Connect) {k l m n : ℕ} → k ≡ l → m ≡ n → IsCutTo connections k m → IsCutTo connections l n
    cut_to connections {k} {l} {m} {n} p q is = subst (λ (x : ℕ). IsCutTo connections x n) p (subst (λ (x : ℕ). IsCutTo connections k x) q is)
  touch_there connections (inr (inr cut)) = inr (inr (record { connects = cut_to connections (sym covers.layer) (sym at.layer) cut.connects; area = turned_area b.rect u.rect (area_there (turned_area t.rect a.rect cut.area)) })) where
    cut_to : (connections : List Connect) {k l m n : ℕ} → k ≡ l → m ≡ n → IsCutTo connections k m → IsCutTo connections l n
    cut_to connections {k} {l} {m} {n} p q is = subst (λ (x : ℕ). IsCutTo connections x n) p (subst (λ (x : ℕ). IsCutTo connections k x) q is)
