-- Where whatever touches is seen in a window, touching shapes have one net.
use Rattle.std.proofs.Common.{◌≡◌, inl, inr, ℕ, zero, suc, ℤ, List, [], ◌∷◌, Contains, Option, Some, map, refl, sym, subst, ◌∙◌}
use Rattle.std.specs.Prelude.{slice_get}
use Rattle.std.specs.Int.{int_max, int_min}
use Rattle.or_geom.specs.declared.shape.Point.{Point}
use Rattle.or_geom.specs.declared.shape.Shape.{Shape}
use Rattle.or_geom.specs.declared.place.Place.{Place}
use Rattle.or_geom.specs.Place.{placed, low_corner, high_corner}
use Rattle.tech_rules.specs.declared.tech.Connect.{Connect}
use Rattle.tech_rules.specs.Touch.{Touch}
use Rattle.cell_hierarchy.specs.FlatSet.{IsMoved}
use Rattle.cell_hierarchy.proofs.ComposeLaws.{same_between}
use Rattle.net_extractor.proofs.ExtractLaws.{touch_turned}
use Rattle.good_nets.specs.Drawn.{AreNetsApart}
use Rattle.good_nets.specs.Parts.{Parts, IsShapeOf, IsOnPortOf, IsOfNet, AreParts, StandsIn, ArePairSeen, IsWireSeen, AreSeen}
use Rattle.good_nets.specs.Ports.{IsOnPort, IsPlain, upright_place}
use Rattle.good_nets.proofs.MovedLaws.{touch_moved}
use Rattle.good_nets.proofs.CellLaws.{has_image}
use Rattle.good_nets.proofs.PortLaws.{port_spreads, one_port}
use Rattle.good_nets.proofs.SeenLaws.{one_at, mapped_at}
use Rattle.good_nets.proofs.WindowLaws.{instances_touch, touches_wire}

-- what stands at one place after another stands at both
moved_on : (outer inner both : Place) (r s t : Shape) → ((p : Point) → placed both p ≡ placed outer (placed inner p)) → IsMoved inner r s → IsMoved outer s t → IsMoved both r t
moved_on outer inner both r s t same a b =
    let w = same_between outer.orient outer.at (placed inner (low_corner r.rect)) (placed inner (high_corner r.rect)) s.rect a.image in
    let low = same (low_corner r.rect) in
    let high = same (high_corner r.rect) in
    record {
      layer = b.layer ∙ a.layer;
      image = record {
        x1 = b.image.x1 ∙ (w.x1 ∙ sym (λ i. int_min (low i).x (high i).x));
        y1 = b.image.y1 ∙ (w.y1 ∙ sym (λ i. int_min (low i).y (high i).y));
        x2 = b.image.x2 ∙ (w.x2 ∙ sym (λ i. int_max (low i).x (high i).x));
        y2 = b.image.y2 ∙ (w.y2 ∙ sym (λ i. int_max (low i).y (high i).y));
      };
    }

-- what stands in a list of values stands there for an item
unmapped_at : {N : Type 0} {M : Type 0} (f : N → M) (xs : List N) (place : ℕ) (y : M) → slice_get (map f xs) place ≡ Some y → (x : N) × (slice_get xs place ≡ Some x) × (f x ≡ y)
unmapped_at f [] place y h = absurd cc
unmapped_at f (x ∷ xs) zero y h = (x, refl, cc)
unmapped_at f (x ∷ xs) (suc place) y h = unmapped_at f xs place y h

up : (dx dy : ℤ) → IsPlain (upright_place dx dy)
up dx dy = inl (record { x = dx; y = dy; is = refl })

module _ {N : Type 0} (connections : List Connect) (parts window : Parts N) (f : N → N) (dx dy : ℤ) (i : parts.Instance) (j : window.Instance) (stands : StandsIn parts window f dx dy i j) where
  -- a shape of the instance stands, moved, as one of its stand-in
  shape_there : (x s s' : Shape) → IsShapeOf connections parts i x s → IsMoved (upright_place dx dy) s s' → IsShapeOf connections window j x s'
  shape_there x s s' is moved = record {
    listed = subst (λ (xs : List Shape). Contains xs x) (sym stands.cell) is.listed;
    moved = moved_on (upright_place dx dy) (parts.place i) (window.place j) x s s' stands.place is.moved moved;
  }

  port_there : (port : ℕ) (x : Shape) → IsOnPortOf connections parts i port x → IsOnPortOf connections window j port x
  port_there port x on =
      subst (λ (xs : List Shape). IsOnPort connections xs (window.Bound j) port x) (sym stands.cell) (record { bound = on.bound; is = (stands.bound port on.bound).0 on.is; net = on.net })

  port_here : (port : ℕ) (x : Shape) → IsOnPortOf connections window j port x → IsOnPortOf connections parts i port x
  port_here port x on =
      let there : IsOnPort connections (parts.cell i) (window.Bound j) port x = subst (λ (xs : List Shape). IsOnPort connections xs (window.Bound j) port x) stands.cell on in
      record { bound = there.bound; is = (stands.bound port there.bound).1 there.is; net = there.net }

  -- the net of a port there, and here
  net_there : (port : ℕ) (n : N) → slice_get (parts.ports i) port ≡ Some n → (k : N) × (slice_get (window.ports j) port ≡ Some k) × (f k ≡ n)
  net_there port n has = unmapped_at f (window.ports j) port n (subst (λ (ns : List N). slice_get ns port ≡ Some n) stands.ports has)

  net_here : (port : ℕ) (k : N) → slice_get (window.ports j) port ≡ Some k → slice_get (parts.ports i) port ≡ Some (f k)
  net_here port k has = subst (λ (ns : List N). slice_get ns port ≡ Some (f k)) (sym stands.ports) (mapped_at f (window.ports j) port k has)

-- the inner shape is on the net of a port that has this net
record IsOnNetOf {N : Type 0} (connections : List Connect) (parts : Parts N) (i : parts.Instance) (inner : Shape) (n : N) : Type 0 where
  port : ℕ
  on : IsOnPortOf connections parts i port inner
  has : slice_get (parts.ports i) port ≡ Some n

module _ {N : Type 0} (connections : List Connect) (parts : Parts N) where
  -- Two instances that are seen: what touches a shape on a port's net is on a port of this net.
  pair_touch : (i j : parts.Instance) (seen : ArePairSeen connections parts i j) (a : ℕ) (m : N) (x y s t : Shape) → IsShapeOf connections parts i x s → IsOnPortOf connections parts i a x → slice_get (parts.ports i) a ≡ Some m → IsShapeOf connections parts j y t → Touch connections s t
      → (IsOnNetOf connections parts j y m → ⊥) → ⊥
  pair_touch i j seen a m x y s t is on has other touch none =
      let w = seen.window in
      let s' = has_image (upright_place seen.dx seen.dy) s in
      let t' = has_image (upright_place seen.dx seen.dy) t in
      let there = shape_there connections parts w.parts seen.f seen.dx seen.dy i seen.one seen.one_is x s s'.0 is s'.1 in
      let other_there = shape_there connections parts w.parts seen.f seen.dx seen.dy j seen.other seen.other_is y t t'.0 other t'.1 in
      let k = net_there connections parts w.parts seen.f seen.dx seen.dy i seen.one seen.one_is a m has in
      instances_touch connections w.parts w.shapes w.plain w.labels w.pins w.right seen.one seen.other a k.0 x y s'.0 t'.0 seen.differ there
      (port_there connections parts w.parts seen.f seen.dx seen.dy i seen.one seen.one_is a x on) k.1 other_there
      ((touch_moved connections (upright_place seen.dx seen.dy) s t s'.0 t'.0 (up seen.dx seen.dy) s'.1 t'.1).0 touch)
      (λ found. none (record {
        port = found.port;
        on = port_here connections parts w.parts seen.f seen.dx seen.dy j seen.other seen.other_is found.port y found.on;
        has = subst (λ (n : N). slice_get (parts.ports j) found.port ≡ Some n) k.2 (net_here connections parts w.parts seen.f seen.dx seen.dy j seen.other seen.other_is found.port k.0 found.has);
      }))

  -- A wire that is seen with an instance: what touches it is on a port of its net.
  wire_seen_touches : (i : parts.Instance) (n : N) (x s t : Shape) (seen : IsWireSeen connections parts i n t) → IsShapeOf connections parts i x s → Touch connections s t → (IsOnNetOf connections parts i x n → ⊥) → ⊥
  wire_seen_touches i n x s t seen is touch none =
      let w = seen.window in
      let s' = has_image (upright_place seen.dx seen.dy) s in
      let there = shape_there connections parts w.parts seen.f seen.dx seen.dy i seen.one seen.one_is x s s'.0 is s'.1 in
      touches_wire connections w.parts w.shapes w.plain w.labels w.pins w.right seen.one seen.net x s'.0 seen.wire there seen.is (seen.keeps x s s'.0 is s'.1 touch)
      (λ found. none (record {
        port = found.port;
        on = port_here connections parts w.parts seen.f seen.dx seen.dy i seen.one seen.one_is found.port x found.on;
        has = subst (λ (k : N). slice_get (parts.ports i) found.port ≡ Some k) seen.named (net_here connections parts w.parts seen.f seen.dx seen.dy i seen.one seen.one_is found.port seen.net found.has);
      }))

  some_same : (m n : N) → ◌≡◌ {A = Option N} (Some m) (Some n) → m ≡ n
  some_same m n e = cc

module _ {N : Type 0} (connections : List Connect) (parts : Parts N) (shapes : List Shape) (are : AreParts connections parts shapes) (seen : AreSeen connections parts) where
  -- a shape of the instance that touches a shape on a port's net, of the same instance
  same_touch : (i j : parts.Instance) → parts.Twin i j → (a : ℕ) (m : N) (x y s t : Shape) → IsShapeOf connections parts i x s → IsOnPortOf connections parts i a x → slice_get (parts.ports i) a ≡ Some m → IsShapeOf connections parts j y t → Touch connections s t → IsOnNetOf connections parts j y m
  same_touch i j twin a m x y s t is on has other touch =
      let twins = are.twins i j twin in
      let listed = subst (λ (xs : List Shape). Contains xs y) twins.cell other.listed in
      let moved = subst (λ (p : Place). IsMoved p y t) twins.place other.moved in
      let here = port_spreads connections (parts.cell i) (parts.Bound i) a x y on listed ((touch_moved connections (parts.place i) x y s t (are.plain i) is.moved moved).1 touch) in
      record {
        port = a;
        on = subst (λ (xs : List Shape). IsOnPort connections xs (parts.Bound j) a y) (sym twins.cell) (record { bound = here.bound; is = (twins.bound a here.bound).0 here.is; net = here.net });
        has = subst (λ (ns : List N). slice_get ns a ≡ Some m) (sym twins.ports) has;
      }

  -- any shape of an instance that touches a shape on a port's net
  instance_touch : (i j : parts.Instance) (a : ℕ) (m : N) (x y s t : Shape) → IsShapeOf connections parts i x s → IsOnPortOf connections parts i a x → slice_get (parts.ports i) a ≡ Some m → IsShapeOf connections parts j y t → Touch connections s t
      → (IsOnNetOf connections parts j y m → ⊥) → ⊥
  instance_touch i j a m x y s t is on has other touch none =
      let differ = λ (twin : parts.Twin i j). none (same_touch i j twin a m x y s t is on has other touch) in
      pair_touch connections parts i j (seen.pair i j x y s t differ is other touch) a m x y s t is on has other touch none

  -- a shape on a port's net that touches a wire has its net
  instance_wire : (i : parts.Instance) (a : ℕ) (m n : N) (x s t : Shape) → IsShapeOf connections parts i x s → IsOnPortOf connections parts i a x → slice_get (parts.ports i) a ≡ Some m → parts.Wire n t → Touch connections s t → m ≡ n
  instance_wire i a m n x s t is on has wire touch =
      seen.stable m n (λ differ.
      wire_seen_touches connections parts i n x s t (seen.wire i x s t n is wire touch) is touch (λ found.
      let port = one_port connections (parts.cell i) (parts.Bound i) (are.right i) found.port a x found.on on in
      differ (one_at (parts.ports i) a m n has (subst (λ (b : ℕ). slice_get (parts.ports i) b ≡ Some n) port found.has))))

  spread : (m : N) (s t : Shape) → IsOfNet connections parts m s → Contains shapes t → Touch connections s t → (IsOfNet connections parts m t → ⊥) → ⊥
  spread m s t (inl o) listed touch none = elim (are.all t listed) [
    | inl h ↦ instance_touch o.i h.0 o.port m o.inner h.1 s t o.is o.on o.has h.2 touch (λ found. none (inl (record { i = h.0; inner = h.1; is = h.2; port = found.port; on = found.on; has = found.has })))
    | inr w ↦ none (inr (subst (λ (n : N). parts.Wire n t) (sym (instance_wire o.i o.port m w.0 o.inner s t o.is o.on o.has w.1 touch)) w.1))
  ]
  spread m s t (inr wire) listed touch none = elim (are.all t listed) [
    | inl h ↦ let turned = touch_turned connections s t touch in
        wire_seen_touches connections parts h.0 m h.1 t s (seen.wire h.0 h.1 t s m h.2 wire turned) h.2 turned (λ found. none (inl (record { i = h.0; inner = h.1; is = h.2; port = found.port; on = found.on; has = found.has })))
    | inr w ↦ none (inr (subst (λ (n : N). parts.Wire n t) (sym (seen.wires m w.0 s t wire w.1 touch)) w.1))
  ]

  -- of an instance's shape that is of a net: one that touches it and is on the same port's net, as it stands
  record HasNeighbour (o_i : parts.Instance) (port : ℕ) (s : Shape) : Type 0 where
    z : Shape
    stands : Shape
    is : IsShapeOf connections parts o_i z stands
    on : IsOnPortOf connections parts o_i port z
    touch : Touch connections stands s

  neighbour : (i : parts.Instance) (port : ℕ) (x s : Shape) → IsShapeOf connections parts i x s → IsOnPortOf connections parts i port x → HasNeighbour i port s
  neighbour i port x s is on =
      let r = are.reached i port x is.listed on in
      let image = has_image (parts.place i) r.0 in
      record { z = r.0; stands = image.0; is = record { listed = r.1; moved = image.1 }; on = r.2; touch = (touch_moved connections (parts.place i) r.0 x image.0 s (are.plain i) image.1 is.moved).0 r.3 }

  one : (m n : N) (s : Shape) → IsOfNet connections parts m s → IsOfNet connections parts n s → m ≡ n
  one m n s (inl o) (inl p) =
      seen.stable m n (λ differ.
      let z = neighbour o.i o.port o.inner s o.is o.on in
      instance_touch o.i p.i o.port m z.z p.inner z.stands s z.is z.on o.has p.is z.touch (λ found.
      let port = one_port connections (parts.cell p.i) (parts.Bound p.i) (are.right p.i) found.port p.port p.inner found.on p.on in
      differ (one_at (parts.ports p.i) p.port m n (subst (λ (b : ℕ). slice_get (parts.ports p.i) b ≡ Some m) port found.has) p.has)))
  one m n s (inl o) (inr wire) =
      let z = neighbour o.i o.port o.inner s o.is o.on in
      instance_wire o.i o.port m n z.z z.stands s z.is z.on o.has wire z.touch
  one m n s (inr wire) (inl o) =
      let z = neighbour o.i o.port o.inner s o.is o.on in
      sym (instance_wire o.i o.port n m z.z z.stands s z.is z.on o.has wire z.touch)
  one m n s (inr wire) (inr other) = seen.wire_once m n s wire other

  -- Touching shapes have one net, and no shape has two.
  pub seen_nets_apart : AreNetsApart connections shapes (λ (n : N) (s : Shape). IsOfNet connections parts n s)
  seen_nets_apart = record { spread = spread; one = one; stable = seen.stable }
