-- Rails and taps are drawn of lists.
use Rattle.std.proofs.Common.{◌≡◌, ◌⊎◌, inl, inr, ℕ, ℤ, pos, ◌+ℤ◌, ◌-ℤ◌, ◌≤ℤ◌, List, [], ◌∷◌, Some, refl, sym, ap, subst, ◌∙◌, arith}
use Rattle.std.proofs.lemmas.Int.{ints}
use Rattle.std.specs.Prelude.{Contains, slice_get, slice_index}
use Rattle.or_geom.specs.declared.shape.Shape.{Shape}
use Rattle.or_geom.specs.Gathering.{SomeGives}
use Rattle.or_geom.proofs.ListLaws.{contains_none, contains_cases, contains_first, contains_later}
use Rattle.wire_drawing.specs.declared.route.Tap.{Tap}
use Rattle.tech_rules.specs.declared.tech.Wire.{Wire}
use Rattle.wire_drawing.specs.Drawing.{IsBox, IsVia}
use Rattle.rail_bus.specs.Rails.{IsTapOf, IsOfTap, IsRail}
use Rattle.sram_netlist.specs.Organization.{Organization}
use Rattle.macro_layout.specs.LayoutKit.{LayoutKit}
use Rattle.macro_layout.specs.Places.{Floorplan}
use Rattle.macro_layout.specs.Wires.{IsTapAt, IsTapWire, IsRailWire}
use Rattle.macro_layout.specs.Stated.{IsShifted}
use Rattle.macro_layout.specs.RailLists.{HasTap, AreRailLists, RailsAreDrawn}
use Rattle.macro_layout.proofs.MovedLaws.{box_moves, via_moves, shift_back}

down : (y w : ℤ) → y -ℤ w ≡ y +ℤ (pos 0 -ℤ w)
down y w = omega (arith, ints)

down_by : (y w h : ℤ) → (y -ℤ w) +ℤ h ≡ (y +ℤ h) +ℤ (pos 0 -ℤ w)
down_by y w h = omega (arith, ints)

still : (x : ℤ) → x ≡ x +ℤ pos 0
still x = omega (arith, ints)

none_left : (w : ℤ) → pos 0 ≡ w +ℤ (pos 0 -ℤ w)
none_left w = omega (arith, ints)

up_down : (y w : ℤ) → y ≡ (y +ℤ w) -ℤ w
up_down y w = omega (arith, ints)

-- an item of the list that gives x
record IsGiven {X Y : Type 0} (gives : Y → X → Type 0) (ys : List Y) (x : X) : Type 0 where
  from : Y
  among : Contains ys from
  it : gives from x

given : {X Y : Type 0} (gives : Y → X → Type 0) (ys : List Y) (x : X) → SomeGives gives ys x → IsGiven gives ys x
given gives [] x h = absurd h
given gives (y ∷ ys) x (inl h) = record { from = y; among = contains_first y ys; it = h }
given gives (y ∷ ys) x (inr h) = let r = given gives ys x h in record { from = r.from; among = contains_later y ys r.from r.among; it = r.it }

some_gives : {X Y : Type 0} (gives : Y → X → Type 0) (ys : List Y) (y : Y) (x : X) → Contains ys y → gives y x → SomeGives gives ys x
some_gives gives [] y x c h = absurd (contains_none y c)
some_gives gives (z ∷ zs) y x c h = elim (contains_cases z zs y c) [ inl e ↦ inl (subst (λ (w : _). gives w x) e h) | inr later ↦ inr (some_gives gives zs y x later h) ]

-- the kinds of a tap's wires, of its rail's place, its height and its end
abbrev IsTapKind : Wire → ℤ → ℤ → ℤ → Shape → Type 0
IsTapKind wire x y end s = IsBox (slice_index wire.metals 2) x y end (y +ℤ wire.width) s ⊎ IsVia wire 2 x y s

kind_down : (wire : Wire) (x y end w : ℤ) (s t : Shape) → IsShifted (pos 0) (pos 0 -ℤ w) s t → IsTapKind wire x y end s → IsTapKind wire x (y -ℤ w) end t
kind_down wire x y end w s t m (inl box) = inl (box_moves (pos 0) (pos 0 -ℤ w) (slice_index wire.metals 2) _ _ _ _ _ _ _ _ s t m (still x) (down y w) (still end) (down_by y w wire.width) box)
kind_down wire x y end w s t m (inr via) = inr (via_moves (pos 0) (pos 0 -ℤ w) wire 2 x y x (y -ℤ w) s t m (still x) (down y w) via)

back_still : (x : ℤ) → x ≡ x +ℤ (pos 0 -ℤ pos 0)
back_still x = omega (arith, ints)

back_up : (y w : ℤ) → y +ℤ w ≡ y +ℤ (pos 0 -ℤ (pos 0 -ℤ w))
back_up y w = omega (arith, ints)

back_up_by : (y w h : ℤ) → (y +ℤ w) +ℤ h ≡ (y +ℤ h) +ℤ (pos 0 -ℤ (pos 0 -ℤ w))
back_up_by y w h = omega (arith, ints)

back_from_none : (w : ℤ) → w ≡ pos 0 +ℤ (pos 0 -ℤ (pos 0 -ℤ w))
back_from_none w = omega (arith, ints)

kind_up : (wire : Wire) (x y end w : ℤ) (s t : Shape) → IsShifted (pos 0) (pos 0 -ℤ w) s t → IsTapKind wire x y end t → IsTapKind wire x (y +ℤ w) end s
kind_up wire x y end w s t m (inl box) =
    inl (box_moves (pos 0 -ℤ pos 0) (pos 0 -ℤ (pos 0 -ℤ w)) (slice_index wire.metals 2) _ _ _ _ _ _ _ _ t s (shift_back (pos 0) (pos 0 -ℤ w) s t m) (back_still x) (back_up y w) (back_still end) (back_up_by y w wire.width) box)
kind_up wire x y end w s t m (inr via) = inr (via_moves (pos 0 -ℤ pos 0) (pos 0 -ℤ (pos 0 -ℤ w)) wire 2 x y x (y +ℤ w) t s (shift_back (pos 0) (pos 0 -ℤ w) s t m) (back_still x) (back_up y w) via)

tap_here : (xs : List ℤ) (taps : List Tap) (x : ℤ) (tap : Tap) → Contains taps tap → slice_get xs tap.rail ≡ Some x → HasTap xs taps x tap.y tap.end
tap_here xs taps x tap listed at_x = record { tap = tap; listed = listed; at_x = at_x; at_y = refl; ends = refl }

-- a listed tap is one of the bank's
tap_up : (plan : Organization) (kit : LayoutKit) (wire : Wire) (tracks : ℕ) (floorplan : Floorplan) (xs : List ℤ) (taps : List Tap) → AreRailLists plan kit wire tracks floorplan xs taps → (x y end : ℤ) → HasTap xs taps x y end → IsTapAt plan kit wire tracks floorplan x (y +ℤ floorplan.write_y) end
tap_up plan kit wire tracks floorplan xs taps lists x y end h = (lists.taps x (y +ℤ floorplan.write_y) end).0 (subst (λ (z : ℤ). HasTap xs taps x z end) (up_down y floorplan.write_y) h)

tap_of : (xs : List ℤ) (taps : List Tap) (rail : ℕ) (x y end : ℤ) → ((i : ℕ) → slice_get xs i ≡ Some x → i ≡ rail) → HasTap xs taps x y end → IsTapOf taps rail y
tap_of xs taps rail x y end one h = record { tap = h.tap; listed = h.listed; of_rail = one h.tap.rail h.at_x; at_y = h.at_y }

has_tap : (xs : List ℤ) (taps : List Tap) (rail : ℕ) (x y : ℤ) → slice_get xs rail ≡ Some x → (t : IsTapOf taps rail y) → HasTap xs taps x y t.tap.end
has_tap xs taps rail x y at_x t = record { tap = t.tap; listed = t.listed; at_x = ap (slice_get xs) t.of_rail ∙ at_x; at_y = t.at_y; ends = refl }

lower_then : (a b w : ℤ) → (a -ℤ w) ≤ℤ b → a ≤ℤ (b +ℤ w)
lower_then a b w le = omega (arith, ints, le)

lower_too : (a b w : ℤ) → (a +ℤ w) ≤ℤ b → a ≤ℤ (b -ℤ w)
lower_too a b w le = omega (arith, ints, le)

pub rails_are_drawn : RailsAreDrawn
rails_are_drawn plan kit wire tracks floorplan xs taps shapes lists drawn s t shift = (
  λ either. drawn.all t (elim either [
    | inl w ↦ (let h = (lists.taps w.x w.y w.end).1 w.tap in inl (tap_wire w h))
    | inr r ↦ (let h = (lists.taps r.x r.y r.end).1 r.tap in inr (h.tap.rail, rail_wire r h))
  ]),
  λ among. elim (drawn.only t among) [
    | inl g ↦ inl (tap_back (given (IsOfTap xs wire) taps t g))
    | inr g ↦ inr (rail_up g.0 g.1)
  ],
)
  where
    w_y : ℤ
    w_y = floorplan.write_y

    tap_wire : (w : IsTapWire plan kit wire tracks floorplan s) → HasTap xs taps w.x (w.y -ℤ w_y) w.end → SomeGives (IsOfTap xs wire) taps t
    tap_wire w h = some_gives (IsOfTap xs wire) taps h.tap t h.listed (record {
      x = w.x;
      at_x = h.at_x;
      kind = subst (λ (z : ℤ). IsTapKind wire w.x z h.tap.end t) (sym h.at_y) (subst (λ (z : ℤ). IsTapKind wire w.x (w.y -ℤ w_y) z t) (sym h.ends) (kind_down wire w.x w.y w.end w_y s t shift w.drawn));
    })

    tap_back : IsGiven (IsOfTap xs wire) taps t → IsTapWire plan kit wire tracks floorplan s
    tap_back g = record {
      x = g.it.x;
      y = g.from.y +ℤ w_y;
      end = g.from.end;
      tap = tap_up plan kit wire tracks floorplan xs taps lists g.it.x g.from.y g.from.end (tap_here xs taps g.it.x g.from g.among g.it.at_x);
      drawn = kind_up wire g.it.x g.from.y g.from.end w_y s t shift g.it.kind;
    }

    rail_wire : (r : IsRailWire plan kit wire tracks floorplan s) (h : HasTap xs taps r.x (r.y -ℤ w_y) r.end) → IsRail (pos 0) xs taps wire h.tap.rail t
    rail_wire r h = record {
      x = r.x;
      at_x = h.at_x;
      y = r.y -ℤ w_y;
      highest = record {
        tap = record { tap = h.tap; listed = h.listed; of_rail = refl; at_y = h.at_y };
        highest = λ other p. lower_too other r.y w_y (r.highest (other +ℤ w_y) p.tap.end (tap_up plan kit wire tracks floorplan xs taps lists r.x other p.tap.end (has_tap xs taps h.tap.rail r.x other h.at_x p)));
      };
      drawn = box_moves (pos 0) (pos 0 -ℤ w_y) (slice_index wire.metals 3) _ _ _ _ _ _ _ _ s t shift (still r.x) (none_left w_y) (still (r.x +ℤ wire.width)) (down_by r.y w_y wire.width) r.drawn;
    }

    rail_up : (rail : ℕ) → IsRail (pos 0) xs taps wire rail t → IsRailWire plan kit wire tracks floorplan s
    rail_up rail r = record {
      x = r.x;
      y = r.y +ℤ w_y;
      end = r.highest.tap.tap.end;
      tap = tap_up plan kit wire tracks floorplan xs taps lists r.x r.y r.highest.tap.tap.end (has_tap xs taps rail r.x r.y r.at_x r.highest.tap);
      highest = λ other other_end p. lower_then other r.y w_y (r.highest.highest (other -ℤ w_y) (tap_of xs taps rail r.x (other -ℤ w_y) other_end (λ i e. lists.differ i rail r.x e r.at_x) ((lists.taps r.x other other_end).1 p)));
      drawn = box_moves (pos 0 -ℤ pos 0) (pos 0 -ℤ (pos 0 -ℤ w_y)) (slice_index wire.metals 3) _ _ _ _ _ _ _ _ t s (shift_back (pos 0) (pos 0 -ℤ w_y) s t shift) (back_still r.x) (back_from_none w_y) (back_still (r.x +ℤ wire.width)) (back_up_by r.y w_y wire.width) r.drawn;
    }
