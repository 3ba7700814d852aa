-- A cell has one outline, and one shape for each demand or one fault of its pins.
use Rattle.std.proofs.Common.{◌≡◌, ℕ, pos, List, Some, refl, sym, ap, subst, ◌∙◌, arith}
use Rattle.std.specs.Prelude.{slice_get}
use Rattle.std.specs.List.Sorted.{IsStrictlySortedBy}
use Rattle.or_geom.specs.declared.shape.Shape.{Shape}
use Rattle.or_geom.specs.ShapeOrder.{shape_order}
use Rattle.or_geom.proofs.ListLaws.{contained_at, one_at}
use Rattle.std.proofs.lemmas.Option.{slice_get_within}
use Rattle.element_drawing.specs.PlainLabel.{PlainLabel}
use Rattle.label_binding.specs.Binding.{Binds, IsUnder}
use Rattle.leaf_shapes.specs.declared.fault.PinFault.TheVariants.{PinMissing, PinLayer, EdgePin, Memory}
use Rattle.leaf_shapes.specs.declared.pins.LeafPin.{LeafPin}
use Rattle.label_binding.specs.BoundPlaces.{label_anchor}
use Rattle.leaf_shapes.specs.Candidates.{BindsPinAt, IsFirstCandidate}
use Rattle.leaf_shapes.specs.Demands.{PinDemand}
use Rattle.kit_laws.specs.OneCell.{OutlinesAreUnique, LeafPinsAreUnique, PinFaultsAreUnique, PinFaultsExcludePins}
use Rattle.leaf_shapes.specs.Pins.{CellDrawing, IsDemanded, IsMet, IsPinFor, AreLeafPins, IsFirstUnmet, FirstLacks, IsUnbound, IsOffLayer}
use Rattle.label_binding.specs.declared.anchor.Anchor.{Anchor}
use Rattle.wire_drawing.specs.Drawing.{IsBox}
use Rattle.leaf_shapes.proofs.PlaceLaws.{at_contained, sorted_at}
use Rattle.leaf_shapes.proofs.PinLaws.{exists_at, pin_meets}
use Rattle.kit_laws.proofs.EachLaws.{one_first, one_list}

pub one_outline : OutlinesAreUnique
one_outline wire outline shapes a b p q =
    let same : q.shape ≡ p.shape = p.alone.only q.shape q.alone.there in
    let also = subst (λ (s : Shape). IsBox outline (pos 0) (pos 0) b.width b.height s) same q.is in
    λ i. record { width = (sym p.is.right ∙ also.right) i; height = (sym p.is.high ∙ also.high) i }

-- a label binds one shape
one_bound : (shapes : List Shape) (label : Anchor) (s t : Shape) → IsStrictlySortedBy shape_order shapes → Binds shapes label s → Binds shapes label t → s ≡ t
one_bound shapes label s t rises a b =
    let Under : ℕ → Type 0 = λ k. (u : Shape) × (slice_get shapes k ≡ Some u) × IsUnder label u in
    let at_s = at_contained shapes s a.listed in
    let at_t = at_contained shapes t b.listed in
    let place : a.listed.0 ≡ b.listed.0 = one_first Under a.listed.0 b.listed.0 (s, at_s, a.under) (t, at_t, b.under)
    (λ k lt u. a.first u.0 (contained_at shapes k u.0 u.1) u.2 (sorted_at shape_order shapes k a.listed.0 u.0 s rises u.1 at_s lt))
    (λ k lt u. b.first u.0 (contained_at shapes k u.0 u.1) u.2 (sorted_at shape_order shapes k b.listed.0 u.0 t rises u.1 at_t lt)) in
    one_at shapes b.listed.0 s t (subst (λ (k : ℕ). slice_get shapes k ≡ Some s) place at_s) at_t

-- a pin's first candidate is one
one_candidate : (P : Shape → Type 0) (shapes : List Shape) (labels : List PlainLabel) (pin : List ℕ) (s t : Shape) → IsStrictlySortedBy shape_order shapes
    → IsFirstCandidate P shapes labels pin s → IsFirstCandidate P shapes labels pin t → s ≡ t
one_candidate P shapes labels pin s t rises a b =
    let Gives : ℕ → Type 0 = λ k. (x : Shape) × BindsPinAt shapes labels pin k x × P x in
    let place : a.place ≡ b.place = one_first Gives a.place b.place (s, a.bound, a.has) (t, b.bound, b.has) (λ k lt g. a.first k g.0 lt g.1 g.2) (λ k lt g. b.first k g.0 lt g.1 g.2) in
    let here = subst (λ (k : ℕ). slice_get labels k ≡ Some a.bound.label) place a.bound.there in
    let label : a.bound.label ≡ b.bound.label = one_at labels b.place a.bound.label b.bound.label here b.bound.there in
    one_bound shapes (label_anchor b.bound.label) s t rises (subst (λ (l : PlainLabel). Binds shapes (label_anchor l) s) label a.bound.binds) b.bound.binds

one_pin : (cell : CellDrawing) → IsStrictlySortedBy shape_order cell.shapes → (demand : PinDemand) (a b : LeafPin) → IsPinFor cell demand a → IsPinFor cell demand b → a ≡ b
one_pin cell rises demand a b p q =
    let s : Shape = record { layer = a.layer; rect = a.rect } in
    let t : Shape = record { layer = b.layer; rect = b.rect } in
    let shape : s ≡ t = one_candidate (IsDemanded cell demand) cell.shapes cell.labels demand.pin s t rises p.is q.is in
    λ i. record { pin = (p.named ∙ sym q.named) i; layer = (shape i).layer; rect = (shape i).rect }

pub one_list_of_pins : LeafPinsAreUnique
one_list_of_pins cell demands a b rises p q = one_list (IsPinFor cell) demands a b (one_pin cell rises) p.sized q.sized p.each q.each

-- the first demand that isn't met is one
one_unmet : (cell : CellDrawing) (demands : List PinDemand) (d e : PinDemand) → IsFirstUnmet cell demands d → IsFirstUnmet cell demands e → d ≡ e
one_unmet cell demands d e a b =
    let Lacks : ℕ → Type 0 = λ k. (x : PinDemand) × (slice_get demands k ≡ Some x) × (IsMet cell x → ⊥) in
    let place : a.place ≡ b.place = one_first Lacks a.place b.place (d, a.there, a.unmet) (e, b.there, b.unmet) (λ k lt l. l.2 (a.before k l.0 lt l.1)) (λ k lt l. l.2 (b.before k l.0 lt l.1)) in
    one_at demands b.place d e (subst (λ (k : ℕ). slice_get demands k ≡ Some d) place a.there) b.there

-- and so is its pin
one_lacking : (cell : CellDrawing) (demands : List PinDemand) (p q : List ℕ) → FirstLacks cell demands p → FirstLacks cell demands q → p ≡ q
one_lacking cell demands p q a b = sym a.of ∙ ap (λ (d : PinDemand). d.pin) (one_unmet cell demands a.demand b.demand a.unmet b.unmet) ∙ b.of

unbound_or_not : (cell : CellDrawing) (demands : List PinDemand) (p q : List ℕ) → FirstLacks cell demands p → IsUnbound cell p → FirstLacks cell demands q → (IsUnbound cell q → ⊥) → ⊥
unbound_or_not cell demands p q a unbound b bound = bound (subst (IsUnbound cell) (one_lacking cell demands p q a b) unbound)

off_or_not : (cell : CellDrawing) (demands : List PinDemand) (p q : List ℕ) → FirstLacks cell demands p → IsOffLayer cell demands p → FirstLacks cell demands q → (IsOffLayer cell demands q → ⊥) → ⊥
off_or_not cell demands p q a off b on = on (subst (IsOffLayer cell demands) (one_lacking cell demands p q a b) off)

pub one_pin_fault : PinFaultsAreUnique
one_pin_fault cell demands Memory g some also p q = absurd (some refl)
one_pin_fault cell demands f Memory some also p q = absurd (also refl)
one_pin_fault cell demands (PinMissing m) (PinMissing n) some also p q = ap (λ (x : List ℕ). PinMissing x) (one_lacking cell demands m n p.0 q.0)
one_pin_fault cell demands (PinMissing m) (PinLayer n) some also p q = absurd (unbound_or_not cell demands m n p.0 p.1 q.0 q.1)
one_pin_fault cell demands (PinMissing m) (EdgePin n) some also p q = absurd (unbound_or_not cell demands m n p.0 p.1 q.0 q.1)
one_pin_fault cell demands (PinLayer m) (PinMissing n) some also p q = absurd (unbound_or_not cell demands n m q.0 q.1 p.0 p.1)
one_pin_fault cell demands (PinLayer m) (PinLayer n) some also p q = ap (λ (x : List ℕ). PinLayer x) (one_lacking cell demands m n p.0 q.0)
one_pin_fault cell demands (PinLayer m) (EdgePin n) some also p q = absurd (off_or_not cell demands m n p.0 p.2 q.0 q.2)
one_pin_fault cell demands (EdgePin m) (PinMissing n) some also p q = absurd (unbound_or_not cell demands n m q.0 q.1 p.0 p.1)
one_pin_fault cell demands (EdgePin m) (PinLayer n) some also p q = absurd (off_or_not cell demands n m q.0 q.2 p.0 p.2)
one_pin_fault cell demands (EdgePin m) (EdgePin n) some also p q = ap (λ (x : List ℕ). EdgePin x) (one_lacking cell demands m n p.0 q.0)

-- where each demand has its shape none is the first that isn't met
none_lacking : (cell : CellDrawing) (demands : List PinDemand) (pins : List LeafPin) (p : List ℕ) → FirstLacks cell demands p → AreLeafPins cell demands pins → ⊥
none_lacking cell demands pins p a are =
    let place = a.unmet.place in
    let sized = are.sized in
    let within = slice_get_within demands place a.demand a.unmet.there in
    let pin = exists_at pins place (omega (arith, within, sized)) in
    a.unmet.unmet (pin_meets cell a.demand pin.0 (are.each place a.demand pin.0 a.unmet.there pin.1))

pub no_pins_beside : PinFaultsExcludePins
no_pins_beside cell demands pins (PinMissing p) some f are = none_lacking cell demands pins p f.0 are
no_pins_beside cell demands pins (PinLayer p) some f are = none_lacking cell demands pins p f.0 are
no_pins_beside cell demands pins (EdgePin p) some f are = none_lacking cell demands pins p f.0 are
no_pins_beside cell demands pins Memory some f are = absurd (some refl)
