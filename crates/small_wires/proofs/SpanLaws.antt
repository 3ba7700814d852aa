-- Where pins of a bank's instances stand, and which are near; and the nets of rails.
use Rattle.std.proofs.Common.{◌≡◌, ◌⊎◌, inl, inr, ◌∙◌, ℕ, zero, suc, ◌+◌, ◌-◌, ◌*◌, ◌<◌, ◌≤◌, ℤ, pos, ◌+ℤ◌, ◌≤ℤ◌, ◌<ℤ◌, List, [], ◌∷◌, ◌++◌, Some, refl, sym, subst, arith}
use Rattle.std.specs.Prelude.{slice_get, map}
use Rattle.std.specs.List.{AllByRecursion}
use Rattle.std.proofs.lemmas.Bool.{cases_lt}
use Rattle.std.proofs.lemmas.Int.{ints, clamps}
use Rattle.std.proofs.lemmas.Option.{same_Some}
use Rattle.or_geom.specs.declared.shape.Rect.{Rect}
use Rattle.or_geom.specs.declared.place.Place.{Place}
use Rattle.or_geom.specs.Place.{placed, IsImage}
use Rattle.cell_roles.specs.declared.role.Role.{Role}
use Rattle.cell_roles.specs.declared.role.Role.TheVariants.{Mux, Tie, Sense, Write, Precharge}
use Rattle.tech_rules.specs.declared.tech.Wire.{Wire}
use Rattle.sram_netlist.specs.Organization.{Organization, words_per_row, power_of_two}
use Rattle.sram_netlist.specs.Instances.{SenseAt, WriteAt, PrechargeAt}
use Rattle.sram_netlist.specs.InstanceList.{numbers_from, tabulate}
use Rattle.sram_netlist.specs.Netlist.{wlen_at, sen_at}
use Rattle.sram_netlist.specs.Nets.{Net, Vdd, Gnd, Control, Addr, Din, Dout, Wmask, A, Na, D, M, LineB, Line, WlenB, WlenAt, SenB, SenAt, WenB, WenAt, Zb, Wl, Bl, Br, Lo, Ro, Clkb}
use Rattle.macro_layout.specs.LayoutKit.{LayoutKit}
use Rattle.macro_layout.specs.Places.{Floorplan, bank_x, column_x, bit_width, upright}
use Rattle.macro_layout.specs.Pins.{IsPin, line_nets, choice_nets, rail_nets}
use Rattle.macro_layout.specs.Cells.{column_leaf}
use Rattle.good_places.specs.Beside.{IsNext}
use Rattle.good_places.specs.Leaves.{Zone}
use Rattle.good_places.specs.Zones.{IsLaid}
use Rattle.good_places.proofs.NearLaws.{next_from}
use Rattle.good_wires.specs.Drawn.{PinsFit, HasUprightPins}
use Rattle.moved_nets.specs.Moved.{slice_net}
use Rattle.small_rows.specs.Few.{IsAmongFew}
use Rattle.small_wires.specs.Seen.{IsNearZone}

-- Numbers

-- what is next to a number with a counterpart has one, as far before it
pub beside_few : (n k c m e : ℕ) → IsAmongFew n k c m → IsNext c e → e < n → (j : ℕ) × (e ≡ j + m) × (j < k)
beside_few n k c m e few next lt = elim (cases_lt e c) [
  | inl before ↦ lower few.left before
  | inr from ↦ elim (cases_lt c e) [
    | inl after ↦ let a = next.not_after in let s = few.sum in (few.d + 1, omega (arith, after, a, s), few.next (omega (arith, after, lt)))
    | inr to ↦ let s = few.sum in (few.d, omega (arith, from, to, s), few.inside)
  ]
] where
  lower : (m ≡ 0) ⊎ (1 ≤ few.d) → e < c → (j : ℕ) × (e ≡ j + m) × (j < k)
  lower (inl none) before = let s = few.sum in let i = few.inside in (e, omega (arith, none), omega (arith, before, s, none, i))
  lower (inr some) before = let s = few.sum in let i = few.inside in let b = next.not_before in (few.d - 1, omega (arith, some, before, s, b), omega (arith, some, i))

-- the numbers of units that are near
pub near_numbers : (u c e : ℕ) (reach x : ℤ) (z : Zone) (t : Rect) → reach ≤ℤ pos u → z.left ≡ x +ℤ pos (c * u) → z.right ≡ (x +ℤ pos (c * u)) +ℤ pos u → (x +ℤ pos (e * u)) ≤ℤ t.x1 → t.x2 ≤ℤ ((x +ℤ pos (e * u)) +ℤ pos u) → IsNearZone reach z t → IsNext c e
near_numbers u c e reach x z t short l r from to near = next_from c e u reach x short (let n = near.right in go (x +ℤ pos (e * u)) t.x1 z.right ((x +ℤ pos (c * u)) +ℤ pos u) reach from n r) (let n = near.left in og (x +ℤ pos (c * u)) z.left t.x2 ((x +ℤ pos (e * u)) +ℤ pos u) reach l n to) where
  go : (a t r b reach : ℤ) → a ≤ℤ t → t <ℤ (r +ℤ reach) → r ≡ b → a <ℤ (b +ℤ reach)
  go a t r b reach p q e = omega (arith, ints, p, q, e)

  og : (a l t b reach : ℤ) → l ≡ a → l <ℤ (t +ℤ reach) → t ≤ℤ b → a <ℤ (b +ℤ reach)
  og a l t b reach e p q = omega (arith, ints, e, p, q)

-- Pins

-- the rectangle stands in the part of a bank that begins with so many columns and is so wide
pub record IsInSpan (plan : Organization) (kit : LayoutKit) (f : Floorplan) (b column : ℕ) (w : ℕ) (r : Rect) : Type 0 where
  pub from : bank_x f b (column_x plan kit f column) ≤ℤ r.x1
  pub to : r.x2 ≤ℤ (bank_x f b (column_x plan kit f column) +ℤ pos w)

-- so does a wire that begins at its left end
pub record IsWireInSpan (plan : Organization) (kit : LayoutKit) (wire : Wire) (f : Floorplan) (b column : ℕ) (w : ℕ) (x : ℤ) : Type 0 where
  pub from : bank_x f b (column_x plan kit f column) ≤ℤ x
  pub to : (x +ℤ wire.width) ≤ℤ (bank_x f b (column_x plan kit f column) +ℤ pos w)

upright_x : (x y : ℤ) (r s : Rect) → IsImage (placed (upright x y)) r s → (s.x1 ≡ r.x1 +ℤ x) × (s.x2 ≡ r.x2 +ℤ x)
upright_x x y r s image = let wide = r.wide in let x1 = image.x1 in let x2 = image.x2 in (x1 ∙ omega (arith, ints, clamps, wide), x2 ∙ omega (arith, ints, clamps, wide))

module _ (plan : Organization) (kit : LayoutKit) (wire : Wire) (f : Floorplan) (laid : IsLaid plan kit wire f) (pins : PinsFit kit wire) where
  span : (role : Role) (port metal b column w : ℕ) (y : ℤ) (place : Place) (rect : Rect) → kit.width role ≤ w → place ≡ upright (bank_x f b (column_x plan kit f column)) y → IsImage (placed place) (kit.pin role port metal) rect → IsInSpan plan kit f b column w rect
  span role port metal b column w y place rect narrow at image =
      let e = upright_x (bank_x f b (column_x plan kit f column)) y (kit.pin role port metal) rect (subst (λ (p : Place). IsImage (placed p) (kit.pin role port metal) rect) at image) in
      let a = e.0 in
      let c = e.1 in
      let l = pins.left role port metal in
      let r = pins.end role port metal in
      record { from = omega (arith, ints, a, l); to = omega (arith, ints, c, r, narrow) }

  wire_span : (role : Role) (port metal b column w : ℕ) (y : ℤ) (place : Place) (rect : Rect) → HasUprightPins role → (metal ≡ 1) ⊎ (metal ≡ 3) → kit.width role ≤ w → place ≡ upright (bank_x f b (column_x plan kit f column)) y → IsImage (placed place) (kit.pin role port metal) rect → IsWireInSpan plan kit wire f b column w rect.x1
  wire_span role port metal b column w y place rect upright_pins which narrow at image =
      let e = upright_x (bank_x f b (column_x plan kit f column)) y (kit.pin role port metal) rect (subst (λ (p : Place). IsImage (placed p) (kit.pin role port metal) rect) at image) in
      let a = e.0 in
      let l = pins.left role port metal in
      let r = pins.right role port metal upright_pins which in
      record { from = omega (arith, ints, a, l); to = omega (arith, ints, a, r, narrow) }

  pub sense_span : (b i port metal : ℕ) (net : Net) (rect : Rect) → IsPin plan kit f (SenseAt b i) port metal net rect → IsInSpan plan kit f b (i * words_per_row plan) (words_per_row plan * bit_width kit) rect
  sense_span b i port metal net rect p = span Sense port metal b (i * words_per_row plan) (words_per_row plan * bit_width kit) f.sense_y p.place rect laid.fits.sense p.stands p.image

  pub precharge_span : (b c port metal : ℕ) (net : Net) (rect : Rect) → IsPin plan kit f (PrechargeAt b c) port metal net rect → IsInSpan plan kit f b c (bit_width kit) rect
  precharge_span b c port metal net rect p = span Precharge port metal b c (bit_width kit) f.precharge_y p.place rect (let e = laid.fits.precharge in omega (arith, e)) p.stands p.image

  pub sense_wire : (b i port metal : ℕ) (net : Net) (rect : Rect) → (metal ≡ 1) ⊎ (metal ≡ 3) → IsPin plan kit f (SenseAt b i) port metal net rect → IsWireInSpan plan kit wire f b (i * words_per_row plan) (words_per_row plan * bit_width kit) rect.x1
  sense_wire b i port metal net rect which p = wire_span Sense port metal b (i * words_per_row plan) (words_per_row plan * bit_width kit) f.sense_y p.place rect tt which laid.fits.sense p.stands p.image

  pub write_wire : (b i port metal : ℕ) (net : Net) (rect : Rect) → (metal ≡ 1) ⊎ (metal ≡ 3) → IsPin plan kit f (WriteAt b i) port metal net rect → IsWireInSpan plan kit wire f b (i * words_per_row plan) (words_per_row plan * bit_width kit) rect.x1
  write_wire b i port metal net rect which p = wire_span Write port metal b (i * words_per_row plan) (words_per_row plan * bit_width kit) f.write_y p.place rect tt which laid.fits.write p.stands p.image

  pub end_wire : (n b c port metal : ℕ) (net : Net) (rect : Rect) → (metal ≡ 1) ⊎ (metal ≡ 3) → IsPin plan kit f (column_leaf n b c) port metal net rect → IsWireInSpan plan kit wire f b c (bit_width kit) rect.x1
  end_wire zero b c port metal net rect which p = wire_span Tie port metal b c (bit_width kit) f.column_y p.place rect tt which (let e = laid.fits.tie in omega (arith, e)) p.stands p.image
  end_wire (suc n) b c port metal net rect which p = wire_span Mux port metal b c (bit_width kit) f.column_y p.place rect tt which (let e = laid.fits.mux in omega (arith, e)) p.stands p.image

-- Nets of rails

abbrev pub IsRailNet : Net → Type 0
IsRailNet (Line o b k) = Unit {0}
IsRailNet (Control c) = Unit {0}
IsRailNet (WlenAt b) = Unit {0}
IsRailNet (SenAt b) = Unit {0}
IsRailNet net = ⊥

both : (xs ys : List Net) → AllByRecursion IsRailNet xs → AllByRecursion IsRailNet ys → AllByRecursion IsRailNet (xs ++ ys)
both [] ys a b = b
both (x ∷ xs) ys a b = (a.0, both xs ys a.1 b)

each_line : (o b : ℕ) (ns : List ℕ) → AllByRecursion IsRailNet (map (Line o b) ns)
each_line o b [] = tt
each_line o b (k ∷ ks) = (tt, each_line o b ks)

each_group : (bs : List ℕ) (o : ℕ) → AllByRecursion IsRailNet (line_nets bs o)
each_group [] o = tt
each_group (b ∷ bs) o = both (tabulate (power_of_two b) (Line o b)) (line_nets bs (o + b)) (each_line o b (numbers_from 0 (power_of_two b))) (each_group bs (o + b))

each_choice : (n : ℕ) → AllByRecursion IsRailNet (choice_nets n)
each_choice zero = tt
each_choice (suc n) = each_line 0 (suc n) (numbers_from 0 (power_of_two (suc n)))

wlen_is : (n b : ℕ) → IsRailNet (wlen_at n b)
wlen_is zero b = tt
wlen_is (suc n) b = tt

sen_is : (n b : ℕ) → IsRailNet (sen_at n b)
sen_is zero b = tt
sen_is (suc n) b = tt

at_all : (xs : List Net) (k : ℕ) (x : Net) → AllByRecursion IsRailNet xs → slice_get xs k ≡ Some x → IsRailNet x
at_all [] k x all e = absurd cc
at_all (y ∷ ys) zero x all e = subst IsRailNet (same_Some y x e) all.0
at_all (y ∷ ys) (suc k) x all e = at_all ys k x all.1 e

pub rail_net : (plan : Organization) (b j : ℕ) (x : Net) → slice_get (rail_nets plan b) j ≡ Some x → IsRailNet x
rail_net plan b j x e =
    at_all (rail_nets plan b) j x (both (line_nets plan.groups plan.col_bits) (wlen_at plan.bank_bits b ∷ sen_at plan.bank_bits b ∷ Control Clkb ∷ choice_nets plan.col_bits) (each_group plan.groups plan.col_bits) (wlen_is plan.bank_bits b, (sen_is plan.bank_bits b, (tt, each_choice plan.col_bits)))) e

-- what slices move to such a net is the net
rail_back : (plan : Organization) (m : ℕ) (x : Net) → IsRailNet (slice_net plan m x) → slice_net plan m x ≡ x
rail_back plan m Vdd h = refl
rail_back plan m Gnd h = refl
rail_back plan m (Control c) h = refl
rail_back plan m (Addr i) h = refl
rail_back plan m (Din i) h = absurd h
rail_back plan m (Dout i) h = absurd h
rail_back plan m (Wmask i) h = refl
rail_back plan m (A i) h = refl
rail_back plan m (Na i) h = refl
rail_back plan m (D i) h = absurd h
rail_back plan m (M i) h = refl
rail_back plan m (LineB o c k) h = refl
rail_back plan m (Line o c k) h = refl
rail_back plan m (WlenB k) h = refl
rail_back plan m (WlenAt k) h = refl
rail_back plan m (SenB k) h = refl
rail_back plan m (SenAt k) h = refl
rail_back plan m (WenB k i) h = refl
rail_back plan m (WenAt k i) h = absurd h
rail_back plan m (Zb k r) h = refl
rail_back plan m (Wl k r) h = refl
rail_back plan m (Bl k c) h = absurd h
rail_back plan m (Br k c) h = absurd h
rail_back plan m (Lo k i) h = absurd h
rail_back plan m (Ro k i) h = absurd h

pub same_rail_net : (plan : Organization) (m : ℕ) (x y : Net) → slice_net plan m x ≡ y → IsRailNet y → x ≡ y
same_rail_net plan m x y e h = sym (rail_back plan m x (subst IsRailNet (sym e) h)) ∙ e
