-- The wires of a drawn memory have their nets' names: those of channels by their numbers, and rails and outputs by their pins.
use Rattle.std.proofs.Common.{◌≡◌, inl, inr, ◌∙◌, ℕ, zero, suc, ◌+◌, ◌*◌, ◌<◌, ◌≤◌, ℤ, pos, ◌+ℤ◌, ◌*ℤ◌, ◌≤ℤ◌, ◌<ℤ◌, List, [], ◌∷◌, ◌++◌, Some, refl, sym, ap, subst, arith}
use Rattle.std.specs.Prelude.{slice_get, map}
use Rattle.std.proofs.lemmas.Bool.{cases_lt}
use Rattle.std.proofs.lemmas.Int.{ints, clamps}
use Rattle.std.proofs.lemmas.Option.{same_Some}
use Rattle.or_geom.specs.declared.shape.Shape.{Shape}
use Rattle.or_geom.specs.declared.shape.Rect.{Rect}
use Rattle.or_geom.specs.declared.place.Place.{Place}
use Rattle.or_geom.specs.Place.{placed, IsImage}
use Rattle.cell_roles.specs.declared.role.Role.TheVariants.{Sense}
use Rattle.tech_rules.specs.declared.tech.Wire.{Wire}
use Rattle.wire_drawing.specs.Drawing.{pitch}
use Rattle.channel_router.specs.declared.channel.Channel.{Channel}
use Rattle.channel_router.specs.declared.channel.ChannelPin.{ChannelPin}
use Rattle.channel_router.specs.Channel.{IsPinOf}
use Rattle.channel_router.specs.Tracks.{IsLowest}
use Rattle.sram_netlist.specs.Organization.{Organization, banks_of, inputs_of, columns_of, written_bits, power_of_two, words_per_row, addr_bits}
use Rattle.sram_netlist.specs.Instances.{SenseAt}
use Rattle.sram_netlist.specs.InstanceList.{numbers_from, tabulate, logic_cells}
use Rattle.sram_netlist.specs.Nets.{Net, Line, Control, Clk0, Csb0, Clkb, Wmask, Addr, Din, Dout}
use Rattle.sram_netlist.specs.Netlist.{web_nets, wlen_at, sen_at}
use Rattle.macro_layout.specs.LayoutKit.{LayoutKit}
use Rattle.macro_layout.specs.Places.{Floorplan, upright, column_x, bank_x, bit_width, columns_x}
use Rattle.macro_layout.specs.Floorplan.{Tracks, rail_x}
use Rattle.macro_layout.specs.Pins.{IsPin, IsRailOf, rail_nets, line_nets, choice_nets, port_nets, output_of, main_nets, column_nets}
use Rattle.macro_layout.specs.Channels.{IsColumnChannel, IsMainChannel, IsPinFrom, ArePins, MeetsMainTop}
use Rattle.macro_layout.specs.Moved.{ArePinsMoved, IsChannelMoved}
use Rattle.macro_layout.specs.Stated.{IsShifted}
use Rattle.macro_layout.proofs.MovedLaws.{net_moves}
use Rattle.macro_layout.proofs.RoutingLaws.{intervals_move, AreTwo}
use Rattle.good_places.proofs.NumberLaws.{banks_before}
use Rattle.good_wires.specs.Drawn.{IsDrawnMemory, IsOneRoute}
use Rattle.good_wires.proofs.LevelLaws.{Sides, sides, IsRailAt, rail_at, pitch_low}
use Rattle.good_wires.proofs.PinLaws.{IsInColumns, upright_left, sense_in, write_in}
use Rattle.good_wires.proofs.FourthLaws.{rail_in}
use Rattle.joined_nets.specs.WireNets.{in_bank, IsChannelWireOf}
use Rattle.wire_nets.specs.Named.{IsRoutedAs, IsMainTop, HasNamedNets}
use Rattle.wire_nets.proofs.ToldLaws.{one_name}

-- A channel's wires are of the one route, by the same numbers

none : (z : ℤ) → z ≡ z +ℤ pos 0
none z = omega (arith, ints)

same_pins : (xs ys : List ChannelPin) (M : ℕ → ℤ → Type 0) → ArePins xs M → ArePins ys M → ArePinsMoved (pos 0) xs ys
same_pins xs ys M a b net x = (
  λ p. (a net x).1 ((b net x).0 (subst (IsPinOf ys net) (sym (none x)) p)),
  λ p. subst (IsPinOf ys net) (none x) ((b net x).1 ((a net x).0 p)),
)

same_low : (a b z : ℤ) → a ≡ z → b ≡ z → b ≡ a +ℤ pos 0
same_low a b z e f = omega (arith, ints, e, f)

routed_as : (IsMeant : Channel → Type 0) (wire : Wire) (tracks : ℕ) (route : IsOneRoute IsMeant wire tracks) → IsLowest (pitch wire) route.intervals route.track → ((c e : Channel) → IsMeant c → IsMeant e → IsChannelMoved (pos 0) (pos 0) c e)
    → (nets : List Net) (n : Net) (s : Shape) → IsChannelWireOf IsMeant wire tracks nets n s → IsRoutedAs IsMeant wire tracks route nets n s
routed_as IsMeant wire tracks route lowest one nets n s w =
    let there = one w.channel route.channel w.routed.meant route.meant in
    let two : AreTwo (pos 0) (pitch wire) w.intervals route.intervals w.track route.track = record { moved = intervals_move (pos 0) (pos 0) w.channel route.channel w.intervals route.intervals there w.routed.nets route.nets; lowest = w.routed.lowest; lows = lowest } in
    let still : IsShifted (pos 0) (pos 0) s s = record { layer = refl; x1 = none s.rect.x1; y1 = none s.rect.y1; x2 = none s.rect.x2; y2 = none s.rect.y2 } in
    record { number = w.number; named = w.named; of = net_moves (pos 0) (pos 0) w.channel route.channel wire w.intervals route.intervals w.track route.track tracks w.number s s there two still w.drawn }

-- The nets of a bank's rails are those of bank 0, as they are in that bank

mapped_at : {X : Type 0} {Y : Type 0} (g : X → Y) (xs : List X) (k : ℕ) (x : X) → slice_get xs k ≡ Some x → slice_get (map g xs) k ≡ Some (g x)
mapped_at g [] k x e = absurd cc
mapped_at g (y ∷ ys) zero x e = ap (λ (z : _). Some (g z)) (same_Some y x e)
mapped_at g (y ∷ ys) (suc k) x e = mapped_at g ys k x e

append_map : {X : Type 0} {Y : Type 0} (g : X → Y) (xs ys : List X) → map g (xs ++ ys) ≡ map g xs ++ map g ys
append_map g [] ys = refl
append_map g (x ∷ xs) ys = ap (λ (zs : List _). g x ∷ zs) (append_map g xs ys)

keep_some : (b o g : ℕ) (ns : List ℕ) → map (in_bank b) (map (Line o g) ns) ≡ map (Line o g) ns
keep_some b o g [] = refl
keep_some b o g (n ∷ ns) = ap (λ (zs : List Net). Line o g n ∷ zs) (keep_some b o g ns)

keep_lines : (b : ℕ) (gs : List ℕ) (o : ℕ) → map (in_bank b) (line_nets gs o) ≡ line_nets gs o
keep_lines b [] o = refl
keep_lines b (g ∷ gs) o = append_map (in_bank b) (tabulate (power_of_two g) (Line o g)) (line_nets gs (o + g)) ∙ ap (λ (zs : List Net). zs ++ map (in_bank b) (line_nets gs (o + g))) (keep_some b o g (numbers_from 0 (power_of_two g))) ∙ ap (λ (zs : List Net). tabulate (power_of_two g) (Line o g) ++ zs) (keep_lines b gs (o + g))

keep_choices : (b n : ℕ) → map (in_bank b) (choice_nets n) ≡ choice_nets n
keep_choices b zero = refl
keep_choices b (suc n) = keep_some b 0 (suc n) (numbers_from 0 (power_of_two (suc n)))

pub wlen_in : (b n : ℕ) → in_bank b (wlen_at n 0) ≡ wlen_at n b
wlen_in b zero = refl
wlen_in b (suc n) = refl

pub sen_in : (b n : ℕ) → in_bank b (sen_at n 0) ≡ sen_at n b
sen_in b zero = refl
sen_in b (suc n) = refl

rails_in : (plan : Organization) (b : ℕ) → map (in_bank b) (rail_nets plan 0) ≡ rail_nets plan b
rails_in plan b =
    append_map (in_bank b) (line_nets plan.groups plan.col_bits) (wlen_at plan.bank_bits 0 ∷ sen_at plan.bank_bits 0 ∷ Control Clkb ∷ choice_nets plan.col_bits)
    ∙ ap (λ (zs : List Net). zs ++ (in_bank b (wlen_at plan.bank_bits 0) ∷ in_bank b (sen_at plan.bank_bits 0) ∷ Control Clkb ∷ map (in_bank b) (choice_nets plan.col_bits))) (keep_lines b plan.groups plan.col_bits)
    ∙ ap (λ (z : Net). line_nets plan.groups plan.col_bits ++ (z ∷ in_bank b (sen_at plan.bank_bits 0) ∷ Control Clkb ∷ map (in_bank b) (choice_nets plan.col_bits))) (wlen_in b plan.bank_bits)
    ∙ ap (λ (z : Net). line_nets plan.groups plan.col_bits ++ (wlen_at plan.bank_bits b ∷ z ∷ Control Clkb ∷ map (in_bank b) (choice_nets plan.col_bits))) (sen_in b plan.bank_bits)
    ∙ ap (λ (zs : List Net). line_nets plan.groups plan.col_bits ++ (wlen_at plan.bank_bits b ∷ sen_at plan.bank_bits b ∷ Control Clkb ∷ zs)) (keep_choices b plan.col_bits)

pub bank_rail : (plan : Organization) (b j : ℕ) (net : Net) → slice_get (rail_nets plan 0) j ≡ Some net → slice_get (rail_nets plan b) j ≡ Some (in_bank b net)
bank_rail plan b j net e = subst (λ (xs : List Net). slice_get xs j ≡ Some (in_bank b net)) (rails_in plan b) (mapped_at (in_bank b) (rail_nets plan 0) j net e)

-- Each output has a number in the main channel

record HasNumber (xs : List Net) (n : Net) : Type 0 where
  number : ℕ
  there : slice_get xs number ≡ Some n

number_left : (xs ys : List Net) (n : Net) → HasNumber xs n → HasNumber (xs ++ ys) n
number_left xs ys n h = record { number = h.number; there = go xs h.number h.there } where
  go : (xs : List Net) (k : ℕ) → slice_get xs k ≡ Some n → slice_get (xs ++ ys) k ≡ Some n
  go [] k e = absurd cc
  go (x ∷ xs) zero e = e
  go (x ∷ xs) (suc k) e = go xs k e

number_later : (x : Net) (xs : List Net) (n : Net) → HasNumber xs n → HasNumber (x ∷ xs) n
number_later x xs n h = record { number = suc h.number; there = h.there }

number_right : (xs ys : List Net) (n : Net) → HasNumber ys n → HasNumber (xs ++ ys) n
number_right [] ys n h = h
number_right (x ∷ xs) ys n h = number_later x (xs ++ ys) n (number_right xs ys n h)

number_in : (k n i : ℕ) → i < n → HasNumber (map Dout (numbers_from k n)) (Dout (k + i))
number_in k zero i lt = absurd (omega (arith, lt))
number_in k (suc n) zero lt = record { number = 0; there = ap (λ (j : ℕ). Some (Dout j)) (omega arith) }
number_in k (suc n) (suc i) lt = number_later (Dout k) (map Dout (numbers_from (suc k) n)) (Dout (k + suc i)) (subst (λ (j : ℕ). HasNumber (map Dout (numbers_from (suc k) n)) (Dout j)) (omega arith) (number_in (suc k) n i (omega (arith, lt))))

zero_plus : (i : ℕ) → 0 + i ≡ i
zero_plus i = omega arith

zero_times : (q : ℤ) → pos 0 *ℤ q ≡ pos 0
zero_times q = grind (arith, ints)

output_number : (plan : Organization) (i : ℕ) → i < plan.word_size → HasNumber (main_nets plan) (Dout i)
output_number plan i lt =
    number_left (port_nets plan) (map (output_of plan) (logic_cells plan)) (Dout i)
    (number_later (Control Clk0) _ (Dout i) (number_later (Control Csb0) _ (Dout i)
    (number_right (web_nets plan.write_size) _ (Dout i) (number_right (tabulate plan.masks Wmask) _ (Dout i) (number_right (tabulate (addr_bits plan) Addr) _ (Dout i) (number_right (tabulate (inputs_of plan) Din) _ (Dout i) (subst (λ (j : ℕ). HasNumber (tabulate plan.word_size Dout) (Dout j)) (zero_plus i) (number_in 0 plan.word_size i lt))))))))

-- a rectangle of a cell that stands upright, and the same so much further right
record IsMovedImage (x y q : ℤ) (r s : Rect) : Type 0 where
  to : Rect
  image : IsImage (placed (upright (x +ℤ q) y)) r to
  left : to.x1 ≡ s.x1 +ℤ q

moved_image : (x y q : ℤ) (r s : Rect) → IsImage (placed (upright x y)) r s → IsMovedImage x y q r s
moved_image x y q r s image = record {
  to = record { x1 = r.x1 +ℤ (x +ℤ q); y1 = r.y1 +ℤ y; x2 = r.x2 +ℤ (x +ℤ q); y2 = r.y2 +ℤ y; wide = still r.x1 r.x2 (x +ℤ q) r.wide; tall = still r.y1 r.y2 y r.tall };
  image = (let wide : r.x1 <ℤ r.x2 = r.wide in let tall : r.y1 <ℤ r.y2 = r.tall in record { x1 = omega (arith, ints, clamps, wide); y1 = omega (arith, ints, clamps, tall); x2 = omega (arith, ints, clamps, wide); y2 = omega (arith, ints, clamps, tall) });
  left = (let e = upright_left x y r s image in omega (arith, ints, e));
} where
  still : (a b d : ℤ) → a <ℤ b → (a +ℤ d) <ℤ (b +ℤ d)
  still a b d lt = omega (arith, ints, lt)

inputs_below : (k n i : ℕ) → i < written_bits k n → i < n
inputs_below zero n i lt = absurd (omega (arith, lt))
inputs_below (suc k) n i lt = lt

module _ (plan : Organization) (kit : LayoutKit) (wire : Wire) (tracks : Tracks) (f : Floorplan) (m : IsDrawnMemory plan kit wire tracks f) where
  s_of : Sides plan kit wire f
  s_of = sides plan kit wire tracks f m.laid.sizes m.stands

  abbrev offset : ℕ → ℤ
  offset b = pos b *ℤ f.bank_width

  banks_left : (b c : ℕ) → b < c → (offset b +ℤ f.bank_width) ≤ℤ offset c
  banks_left b c lt = banks_before b c f.bank_width lt s_of.wide

  up : (b k : ℕ) → b ≤ k → offset b ≤ℤ offset k
  up b k le = elim (cases_lt b k) [
    | inl lt ↦ let g = banks_left b k lt in let w = s_of.wide in omega (arith, ints, g, w)
    | inr ge ↦ let e : offset b ≡ offset k = ap (λ (n : ℕ). pos n *ℤ f.bank_width) (omega (arith, le, ge)) in omega (arith, ints, e)
  ]

  -- no rail begins where a pin of a slice does
  not_in_columns : (b c : ℕ) (x : ℤ) → IsRailAt wire f b x → IsInColumns plan kit wire f c x → ⊥
  not_in_columns b c x r i = elim (cases_lt c b) [
    | inl lt ↦ let g = banks_left c b lt in let p = r.from in let q = i.to in let w = m.laid.sizes.width.from in let sp = m.laid.sizes.space.from in go x wire.width wire.space f.bank_width (offset b) (offset c) g p q w sp
    | inr ge ↦ let u = up b c ge in let p = r.to in let q = i.from in let t = s_of.columns in let w = m.laid.sizes.width.from in let sp = m.laid.sizes.space.from in go2 x wire.width wire.space f.row_x (columns_x plan kit f) (offset b) (offset c) u p q t w sp
  ] where
    go : (x w s q b c : ℤ) → (c +ℤ q) ≤ℤ b → ((w +ℤ s) +ℤ b) ≤ℤ x → (x +ℤ w) ≤ℤ (q +ℤ c) → pos 1 ≤ℤ w → pos 1 ≤ℤ s → ⊥
    go x w s q b c g p r a d = omega (arith, ints, g, p, r, a, d)

    go2 : (x w s row col b c : ℤ) → b ≤ℤ c → ((x +ℤ w) +ℤ s) ≤ℤ (row +ℤ b) → (col +ℤ c) ≤ℤ x → row ≤ℤ col → pos 1 ≤ℤ w → pos 1 ≤ℤ s → ⊥
    go2 x w s row col b c u p q t a d = omega (arith, ints, u, p, q, t, a, d)

  row_end : f.row_x ≤ℤ f.bank_width
  row_end = go f.row_x (columns_x plan kit f) f.bank_width (columns_of plan * bit_width kit) s_of.columns s_of.bank where
    go : (row col bank : ℤ) (n : ℕ) → row ≤ℤ col → bank ≡ col +ℤ pos n → row ≤ℤ bank
    go row col bank n a e = omega (arith, ints, a, e)

  no_later : (b c : ℕ) (x : ℤ) → IsRailAt wire f b x → IsRailAt wire f c x → b < c → ⊥
  no_later b c x r q lt = let g = banks_left b c lt in let p = r.to in let h = q.from in let e = row_end in let w = m.laid.sizes.width.from in let sp = m.laid.sizes.space.from in go x wire.width wire.space f.row_x f.bank_width (offset b) (offset c) g p h e w sp where
    go : (x w s row q b c : ℤ) → (b +ℤ q) ≤ℤ c → ((x +ℤ w) +ℤ s) ≤ℤ (row +ℤ b) → ((w +ℤ s) +ℤ c) ≤ℤ x → row ≤ℤ q → pos 1 ≤ℤ w → pos 1 ≤ℤ s → ⊥
    go x w s row q b c g p h e a d = omega (arith, ints, g, p, h, e, a, d)

  one_bank : (b c : ℕ) (x : ℤ) → IsRailAt wire f b x → IsRailAt wire f c x → b ≡ c
  one_bank b c x r q = elim (cases_lt b c) [
    | inl lt ↦ absurd (no_later b c x r q lt)
    | inr ge ↦ elim (cases_lt c b) [ inl lt ↦ absurd (no_later c b x q r lt) | inr le ↦ omega (arith, ge, le) ]
  ]

  before : (i j : ℕ) → i < j → rail_x wire i ≡ rail_x wire j → ⊥
  before i j lt e =
      let g = banks_before (i + 1) (j + 1) (pitch wire) (omega (arith, lt)) (pitch_low wire m.laid.sizes) in
      go (rail_x wire i) (rail_x wire j) wire.width wire.space g e m.laid.sizes.width.from m.laid.sizes.space.from
    where
      go : (x y w s : ℤ) → (x +ℤ (w +ℤ s)) ≤ℤ y → x ≡ y → pos 1 ≤ℤ w → pos 1 ≤ℤ s → ⊥
      go x y w s g e a b = omega (arith, ints, g, e, a, b)

  one_number : (i j : ℕ) → rail_x wire i ≡ rail_x wire j → i ≡ j
  one_number i j e = elim (cases_lt i j) [
    | inl lt ↦ absurd (before i j lt e)
    | inr ge ↦ elim (cases_lt j i) [ inl lt ↦ absurd (before j i lt (sym e)) | inr le ↦ omega (arith, ge, le) ]
  ]

  -- the rail of bank 0, moved, and a rail of a bank at its place
  rail_is : (b c : ℕ) (net other : Net) (x : ℤ) → IsRailOf plan wire f 0 net x → IsRailOf plan wire f c other (x +ℤ offset b) → other ≡ in_bank b net
  rail_is b c net other x is at =
      let e : b ≡ c = one_bank b c (x +ℤ offset b) (rail_in plan kit wire tracks f m b net x is) (rail_at plan kit wire f c other (x +ℤ offset b) s_of at) in
      let o : offset b ≡ offset c = ap (λ (k : ℕ). pos k *ℤ f.bank_width) e in
      let j : at.rail ≡ is.rail = one_number at.rail is.rail (go (rail_x wire at.rail) (rail_x wire is.rail) x (offset b) (offset c) f.bank_width is.at at.at o) in
      one_name (rail_nets plan c) at.rail is.rail other (in_bank b net) j at.on (subst (λ (k : ℕ). slice_get (rail_nets plan k) is.rail ≡ Some (in_bank b net)) e (bank_rail plan b is.rail net is.on))
    where
      go : (r t x b c q : ℤ) → x ≡ t +ℤ (pos 0 *ℤ q) → x +ℤ b ≡ r +ℤ c → b ≡ c → r ≡ t
      go r t x b c q e d o = let z = zero_times q in omega (arith, ints, e, d, o, z)

  named_rail : (b : ℕ) (net : Net) (x : ℤ) → b < banks_of plan → IsRailOf plan wire f 0 net x → IsMainTop plan kit wire tracks f m (in_bank b net) (x +ℤ offset b)
  named_rail b net x lt is =
      let n = m.rails b net x lt is in
      let meets = (m.main.meant.top n.0 (x +ℤ offset b)).0 n.1 in
      record { number = n.0; named = meets.1 ∙ ap (λ (z : Net). Some z) (by meets.2.0 meets.0 meets.2.2); pin = n.1 }
    where
      rail : IsRailAt wire f b (x +ℤ offset b)
      rail = rail_in plan kit wire tracks f m b net x is

      by : (c : ℕ) (other : Net) → MeetsMainTop plan kit wire f c other (x +ℤ offset b) → other ≡ in_bank b net
      by c other (inl at) = rail_is b c net other x is at
      by c other (inr (inl (i, p))) = absurd (not_in_columns b c (x +ℤ offset b) rail (write_in plan kit wire f m.laid m.pins s_of c i 0 3 other (x +ℤ offset b) (inputs_below plan.write_size plan.word_size i p.is.has.1) (inr refl) p))
      by c other (inr (inr (inl (i, p)))) = absurd (not_in_columns b c (x +ℤ offset b) rail (write_in plan kit wire f m.laid m.pins s_of c i 3 3 other (x +ℤ offset b) (inputs_below plan.write_size plan.word_size i p.is.has.1) (inr refl) p))
      by c other (inr (inr (inr (i, p)))) = absurd (not_in_columns b c (x +ℤ offset b) rail (sense_in plan kit wire f m.laid m.pins s_of c i 2 3 other (x +ℤ offset b) (inr refl) p))

  -- an output of bank 0, in another
  named_output : (b bit : ℕ) (net : Net) (rect : Rect) → b < banks_of plan → IsPin plan kit f (SenseAt 0 bit) 2 3 net rect → IsMainTop plan kit wire tracks f m (in_bank b net) (rect.x1 +ℤ offset b)
  named_output b bit net rect lt p =
      let own : Dout bit ≡ net = same_Some (Dout bit) net p.on in
      let x = column_x plan kit f (bit * words_per_row plan) in
      let at0 : p.place ≡ upright x f.sense_y = p.stands ∙ ap (λ (z : ℤ). upright z f.sense_y) (first x f.bank_width) in
      let moved = moved_image x f.sense_y (offset b) (kit.pin Sense 2 3) rect (subst (λ (q : Place). IsImage (placed q) (kit.pin Sense 2 3) rect) at0 p.image) in
      let pin : IsPinFrom plan kit f (SenseAt b bit) 2 3 (Dout bit) (rect.x1 +ℤ offset b) = record { rect = moved.to; is = record { has = (lt, p.has.1); on = refl; place = upright (bank_x f b x) f.sense_y; stands = refl; image = moved.image }; begins = sym moved.left } in
      let number = output_number plan bit p.has.1 in
      subst (λ (n : Net). IsMainTop plan kit wire tracks f m (in_bank b n) (rect.x1 +ℤ offset b)) own
      (record { number = number.number; named = number.there; pin = (m.main.meant.top number.number (rect.x1 +ℤ offset b)).1 (Dout bit, number.there, (b, lt, inr (inr (inr (bit, pin))))) })
    where
      first : (x q : ℤ) → x +ℤ (pos 0 *ℤ q) ≡ x
      first x q = let z = zero_times q in omega (arith, ints, z)

  pub one_main : (c e : Channel) → IsMainChannel plan kit wire f c → IsMainChannel plan kit wire f e → IsChannelMoved (pos 0) (pos 0) c e
  one_main c e a b = record { low = same_low c.low e.low _ a.low b.low; nets = b.nets ∙ sym a.nets; top = same_pins c.top e.top _ a.top b.top; bottom = same_pins c.bottom e.bottom _ a.bottom b.bottom; exits = same_pins c.exits e.exits _ a.exits b.exits }

  pub one_column : (c e : Channel) → IsColumnChannel plan kit wire f c → IsColumnChannel plan kit wire f e → IsChannelMoved (pos 0) (pos 0) c e
  one_column c e a b = record { low = same_low c.low e.low _ a.low b.low; nets = b.nets ∙ sym a.nets; top = same_pins c.top e.top _ a.top b.top; bottom = same_pins c.bottom e.bottom _ a.bottom b.bottom; exits = same_pins c.exits e.exits _ a.exits b.exits }

-- A drawn memory whose channels are routed on lowest tracks has its nets' names.
pub named_nets : (plan : Organization) (kit : LayoutKit) (wire : Wire) (tracks : Tracks) (f : Floorplan) (m : IsDrawnMemory plan kit wire tracks f) → IsLowest (pitch wire) m.main.intervals m.main.track → IsLowest (pitch wire) m.column.intervals m.column.track → HasNamedNets plan kit wire tracks f m
named_nets plan kit wire tracks f m main column = record {
  main = λ n s w. routed_as (IsMainChannel plan kit wire f) wire tracks.main m.main main (one_main plan kit wire tracks f m) (main_nets plan) n s w;
  column = λ n s w. routed_as (IsColumnChannel plan kit wire f) wire tracks.column m.column column (one_column plan kit wire tracks f m) (column_nets plan) n s w;
  rails = λ b net x lt is. named_rail plan kit wire tracks f m b net x lt is;
  outputs = λ b bit net rect lt p. named_output plan kit wire tracks f m b bit net rect lt p;
}
