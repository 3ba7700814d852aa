-- Where taps and pins of the column channel lie in their bank: between its first rail and its end.
use Rattle.std.proofs.Common.{◌≡◌, ◌⊎◌, inl, inr, ℕ, zero, suc, ◌+◌, ◌*◌, ◌<◌, ◌≤◌, ℤ, pos, ◌+ℤ◌, ◌*ℤ◌, ◌≤ℤ◌, List, [], ◌∷◌, ◌++◌, refl, arith}
use Rattle.std.specs.Prelude.{slice_get, Some}
use Rattle.std.proofs.Math.Nat.{mul_assoc}
use Rattle.std.proofs.lemmas.Int.{ints}
use Rattle.std.proofs.lemmas.List.Elements.{Contains-append_cases}
use Rattle.or_geom.specs.declared.shape.Rect.{Rect}
use Rattle.or_geom.proofs.ListLaws.{contains_none, contained_at}
use Rattle.tech_rules.specs.declared.tech.Wire.{Wire}
use Rattle.wire_drawing.specs.Drawing.{pitch}
use Rattle.channel_router.specs.declared.channel.Channel.{Channel}
use Rattle.channel_router.specs.Channel.{IsPinOf, places}
use Rattle.sram_netlist.specs.Organization.{Organization, columns_of, words_per_row}
use Rattle.sram_netlist.specs.Instances.{NandAt, DriverAt, PrechargeAt, SenseAt}
use Rattle.sram_netlist.specs.Nets.{Net}
use Rattle.macro_layout.specs.LayoutKit.{LayoutKit}
use Rattle.macro_layout.specs.Places.{Floorplan, columns_x, bit_width}
use Rattle.macro_layout.specs.Floorplan.{Tracks}
use Rattle.macro_layout.specs.Pins.{IsRailOf}
use Rattle.macro_layout.specs.Wires.{IsTapAt, IsTapOfNet}
use Rattle.good_places.proofs.NumberLaws.{all_of}
use Rattle.good_wires.specs.Drawn.{IsDrawnMemory}
use Rattle.good_wires.proofs.LevelLaws.{Sides, sides, rail_at}
use Rattle.good_wires.proofs.PinLaws.{IsInColumns, column_in, sense_in}
use Rattle.good_wires.proofs.TapLaws.{pin_in_zone}

-- a pin of a channel is one of its upper side, of its lower side, or an exit
pub pin_cases : (ch : Channel) (net : ℕ) (x : ℤ) → IsPinOf (places ch) net x → IsPinOf ch.top net x ⊎ (IsPinOf ch.bottom net x ⊎ IsPinOf ch.exits net x)
pin_cases ch net x p = elim (Contains-append_cases (ch.top ++ ch.bottom) ch.exits p.pin p.listed) [
  | inl first ↦ elim (Contains-append_cases ch.top ch.bottom p.pin first) [
    | inl a ↦ inl (record { pin = p.pin; listed = a; at_x = p.at_x; of_net = p.of_net })
    | inr b ↦ inr (inl (record { pin = p.pin; listed = b; at_x = p.at_x; of_net = p.of_net }))
  ]
  | inr c ↦ inr (inr (record { pin = p.pin; listed = c; at_x = p.at_x; of_net = p.of_net }))
]

-- what stands first in a list stands there in a longer one
pub in_longer : {X : Type 0} (xs ys : List X) (k : ℕ) (x : X) → slice_get xs k ≡ Some x → slice_get (xs ++ ys) k ≡ Some x
in_longer [] ys k x e = absurd (contains_none x (contained_at [] k x e))
in_longer (y ∷ xs) ys zero x e = e
in_longer (y ∷ xs) ys (suc k) x e = in_longer xs ys k x e

pub over : (y z : ℤ) (rect : Rect) → y ≡ rect.y1 → z ≤ℤ (rect.y1 +ℤ pos 0) → z ≤ℤ y
over y z rect at low = omega (arith, ints, at, low)

module _ (plan : Organization) (kit : LayoutKit) (wire : Wire) (tracks : Tracks) (f : Floorplan) (m : IsDrawnMemory plan kit wire tracks f) where
  s_of : Sides plan kit wire f
  s_of = sides plan kit wire tracks f m.laid.sizes m.stands

  abbrev offset : ℕ → ℤ
  offset b = pos b *ℤ f.bank_width

  pub zero_times : (q : ℤ) → pos 0 *ℤ q ≡ pos 0
  zero_times q = grind (arith, ints)

  pub row_end : f.row_x ≤ℤ f.bank_width
  row_end = go f.row_x (columns_x plan kit f) f.bank_width (columns_of plan * bit_width kit) s_of.columns s_of.bank where
    go : (row col bank : ℤ) (n : ℕ) → row ≤ℤ col → bank ≡ col +ℤ pos n → row ≤ℤ bank
    go row col bank n a e = omega (arith, ints, a, e)

  -- a place of bank 0 from which a wire's width lies between the first rail and the bank's end
  pub record IsWithin (x : ℤ) : Type 0 where
    pub from : pitch wire ≤ℤ x
    pub to : (x +ℤ wire.width) ≤ℤ f.bank_width

  pub from_columns : (x : ℤ) → IsInColumns plan kit wire f 0 x → IsWithin x
  from_columns x i =
      let z = zero_times f.bank_width in
      let a = i.from in
      let c = i.to in
      let r = s_of.row in
      let t = s_of.columns in
      record { from = go1 (columns_x plan kit f) (offset 0) x (pitch wire) f.row_x z a r t; to = go2 f.bank_width (offset 0) x wire.width z c }
    where
      go1 : (c o x p row : ℤ) → o ≡ pos 0 → (c +ℤ o) ≤ℤ x → p ≤ℤ row → row ≤ℤ c → p ≤ℤ x
      go1 c o x p row e a r t = omega (arith, ints, e, a, r, t)

      go2 : (bank o x w : ℤ) → o ≡ pos 0 → (x +ℤ w) ≤ℤ (bank +ℤ o) → (x +ℤ w) ≤ℤ bank
      go2 bank o x w e a = omega (arith, ints, e, a)

  pub from_rail : (net : Net) (x : ℤ) → IsRailOf plan wire f 0 net x → IsWithin x
  from_rail net x is =
      let r = rail_at plan kit wire f 0 net x s_of is in
      let z = zero_times f.bank_width in
      record { from = let a = r.from in go1 (pitch wire) (offset 0) x z a; to = let c = r.to in go2 f.row_x (offset 0) x wire.width wire.space f.bank_width z c m.laid.sizes.space.from row_end }
    where
      go1 : (c o x : ℤ) → o ≡ pos 0 → (c +ℤ o) ≤ℤ x → c ≤ℤ x
      go1 c o x e a = omega (arith, ints, e, a)

      go2 : (row o x w s bank : ℤ) → o ≡ pos 0 → ((x +ℤ w) +ℤ s) ≤ℤ (row +ℤ o) → pos 1 ≤ℤ s → row ≤ℤ bank → (x +ℤ w) ≤ℤ bank
      go2 row o x w s bank e a b c = omega (arith, ints, e, a, b, c)

  pub column_place : (net : ℕ) (x : ℤ) → IsPinOf (places m.column.channel) net x → IsWithin x
  column_place net x p = elim (pin_cases m.column.channel net x p) [
    | inl top ↦ let meets = (m.column.meant.top net x).0 top in from_columns x (column_in plan kit wire f m.laid m.pins s_of plan.col_bits 0 meets.2.0 meets.2.1 3 meets.0 x (inr refl) meets.2.2)
    | inr rest ↦ elim rest [
      | inl bottom ↦ let meets = (m.column.meant.bottom net x).0 bottom in from_columns x (sense_in plan kit wire f m.laid m.pins s_of 0 meets.2.0 meets.2.1 1 meets.0 x (inl refl) meets.2.2)
      | inr exit ↦ let meets = (m.column.meant.exits net x).0 exit in from_rail meets.0 x meets.2
    ]
  ]

  -- a tap begins behind its bank's first rail's pitch and ends in the bank
  pub tap_from : (x y end : ℤ) → IsTapAt plan kit wire tracks.column f x y end → pitch wire ≤ℤ x
  tap_from x y end is = let w = from_rail is.net x is.rail in w.from

  slice_end : (i w v : ℕ) → i < plan.word_size → (i * w) * v + w * v ≤ (plan.word_size * w) * v
  slice_end i w v lt =
      let le = all_of i plan.word_size (w * v) lt in
      let a = mul_assoc i w v in
      let c = mul_assoc plan.word_size w v in
      omega (arith, le, a, c)

  pub tap_to : (x y end : ℤ) → IsTapAt plan kit wire tracks.column f x y end → end ≤ℤ f.bank_width
  tap_to x y end is = by is.tap where
    z : offset 0 ≡ pos 0
    z = zero_times f.bank_width

    go : (col o bank e r : ℤ) (n w all : ℕ) → o ≡ pos 0 → e ≡ r → r ≤ℤ ((((col +ℤ pos n) +ℤ o) +ℤ pos w) +ℤ pos 0) → n + w ≤ all → bank ≡ col +ℤ pos all → e ≤ℤ bank
    go col o bank e r n w all none is le fits at = omega (arith, ints, none, is, le, fits, at)

    front : (col o bank e r : ℤ) (all : ℕ) → o ≡ pos 0 → e ≡ r → r ≤ℤ ((col +ℤ o) +ℤ pos 0) → bank ≡ col +ℤ pos all → e ≤ℤ bank
    front col o bank e r all none is le at = omega (arith, ints, none, is, le, at)

    by : IsTapOfNet plan kit wire tracks.column f is.net x y end → end ≤ℤ f.bank_width
    by (inl (r, p)) = let n = pin_in_zone plan kit wire f (NandAt 0 r) p.port 2 is.net p.rect m.laid m.pins p.pin in front (columns_x plan kit f) (offset 0) f.bank_width end p.rect.x2 (columns_of plan * bit_width kit) z p.ends n.right s_of.bank
    by (inr (inl (r, p))) = let n = pin_in_zone plan kit wire f (DriverAt 0 r) p.port 2 is.net p.rect m.laid m.pins p.pin in front (columns_x plan kit f) (offset 0) f.bank_width end p.rect.x2 (columns_of plan * bit_width kit) z p.ends n.right s_of.bank
    by (inr (inr (inl (i, last, p)))) =
        let n = pin_in_zone plan kit wire f (SenseAt 0 i) p.port 2 is.net p.rect m.laid m.pins p.pin in
        go (columns_x plan kit f) (offset 0) f.bank_width end p.rect.x2 ((i * words_per_row plan) * bit_width kit) (words_per_row plan * bit_width kit) (columns_of plan * bit_width kit) z p.ends n.right (slice_end i (words_per_row plan) (bit_width kit) p.pin.has.1) s_of.bank
    by (inr (inr (inr (inl (c, last, p))))) =
        let n = pin_in_zone plan kit wire f (PrechargeAt 0 c) p.port 2 is.net p.rect m.laid m.pins p.pin in
        go (columns_x plan kit f) (offset 0) f.bank_width end p.rect.x2 (c * bit_width kit) (bit_width kit) (columns_of plan * bit_width kit) z p.ends n.right (all_of c (columns_of plan) (bit_width kit) p.pin.has.1) s_of.bank
    by (inr (inr (inr (inr c)))) = let w = from_rail is.net x is.rail in let t = w.to in let e = c.ends in omega (arith, ints, t, e)
