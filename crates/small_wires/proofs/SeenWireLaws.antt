-- A wire beside an instance of a bank is seen where the small memory has a wire that covers as much.
use Rattle.std.proofs.Common.{◌≡◌, ◌⊎◌, inl, inr, ◌∙◌, ℕ, ◌*◌, ◌<◌, ℤ, pos, ◌+ℤ◌, ◌*ℤ◌, ◌≤ℤ◌, ◌<ℤ◌, List, refl, sym, subst, arith}
use Rattle.std.specs.Prelude.{slice_index}
use Rattle.std.specs.Int.{int_max}
use Rattle.std.proofs.lemmas.Int.{ints, clamps}
use Rattle.or_geom.specs.declared.shape.Shape.{Shape}
use Rattle.tech_rules.specs.declared.tech.Connect.{Connect}
use Rattle.wire_drawing.specs.Drawing.{IsBox, pitch}
use Rattle.sram_netlist.specs.Organization.{banks_of, words_per_row}
use Rattle.sram_netlist.specs.InstanceList.{logic_cells}
use Rattle.sram_netlist.specs.Nets.{Net, Vdd, Gnd}
use Rattle.macro_layout.specs.Places.{Floorplan, columns_x, total_width, bit_width}
use Rattle.macro_layout.specs.Wires.{trunk_x, IsPowerBarAt, IsGroundBarAt}
use Rattle.good_places.specs.Leaves.{Zone}
use Rattle.good_places.proofs.NumberLaws.{banks_before, times_low}
use Rattle.joined_nets.specs.WireNets.{IsWireOfNet}
use Rattle.kit_nets.specs.StatedParts.{Source, Standing, stated_parts}
use Rattle.kit_nets.proofs.ChannelDrawnLaws.{box_there}
use Rattle.kit_nets.proofs.StandInLaws.{slice_stands_in}
use Rattle.moved_nets.specs.Moved.{slice_net}
use Rattle.small_wires.specs.Seen.{CoversThere, IsWireThere}
use Rattle.seen_pairs.specs.Window.{IsSeenSource, HasSeenWindow}
use Rattle.small_wires.proofs.AnchorLaws.{Anchored, bar_left, trunk_right, width_there, there}
use Rattle.seen_pairs.proofs.BankPairLaws.{w, akin, Counter, standing, stands_moved}
use Rattle.seen_pairs.proofs.SeatLaws.{zone_at}
use Rattle.small_wires.proofs.WireLayerLaws.{wire_on, drawn_stands}

module _ (connections : List Connect) (s : Source) (by reach : ℤ) (is : IsSeenSource connections s by reach) (window : HasSeenWindow connections s) where
  abbrev f : Floorplan
  f = s.floorplan

  abbrev g : Floorplan
  g = window.floorplan

  abbrev pub small : Source
  small = w connections s by reach is window

  abbrev pub WireHere : Net → Shape → Type 0
  WireHere n t = IsWireOfNet s.plan s.kit s.wire s.tracks s.floorplan n t

  abbrev pub WireThere : Net → Shape → Type 0
  WireThere n t = IsWireOfNet small.plan s.kit s.wire window.tracks window.floorplan n t

  -- the wire is seen there with the instance
  abbrev pub SeenThere : Standing s → Net → Shape → Type 0
  SeenThere i n t = IsWireThere s small by (zone_at connections s by reach is i) i n t

  pub stands_there : (n : Net) (t : Shape) → WireThere n t → (stated_parts small).Wire n t
  stands_there n t is_wire = drawn_stands s.layers s.wire is.first (WireThere n) t (wire_on small.plan s.kit s.wire window.tracks window.floorplan n t is_wire) is_wire

  -- an instance of a bank, and a wire that covers as much
  pub bank_seen : (m : ℕ) (dx dy : ℤ) (i : Standing s) → Counter connections s by reach is window m dx dy i → (n net : Net) (t u : Shape) → slice_net s.plan m net ≡ n → WireThere net u → CoversThere by dx dy (zone_at connections s by reach is i) t u → SeenThere i n t
  bank_seen m dx dy i c n net t u named is_wire covers = record {
    f = slice_net s.plan m;
    dx = dx;
    dy = dy;
    one = standing connections s by reach is window m dx dy i c;
    one_is = slice_stands_in s small (akin connections s by reach is window) m dx dy i (standing connections s by reach is window m dx dy i c) c.inside c.is (stands_moved connections s by reach is window m dx dy i c);
    one_at = refl;
    one_role = c.same_role;
    net = net;
    named = named;
    wire = u;
    is = stands_there net u is_wire;
    covers = covers;
  }

  -- Bars

  abbrev pub trunk_there : ℤ
  trunk_there = trunk_x small.plan s.kit s.wire window.floorplan

  columns_before : (b : ℕ) → b < banks_of s.plan → columns_x s.plan s.kit g ≤ℤ trunk_there
  columns_before b lt = go (columns_x s.plan s.kit g) g.bank_width (pos 0 *ℤ g.bank_width) (pos (banks_of s.plan) *ℤ g.bank_width) (g.logic_x +ℤ pos (total_width small.plan s.kit (logic_cells small.plan))) s.wire.space ((window.word * words_per_row s.plan) * bit_width s.kit)
      (width_there connections s by reach is window) (banks_before 0 (banks_of s.plan) g.bank_width (omega (arith, lt)) (there connections s by reach is window).right) (times_low 0 g.bank_width (there connections s by reach is window).right) is.source.drawn.laid.sizes.space.from
    where
      go : (c w z all l sp : ℤ) (n : ℕ) → w ≡ c +ℤ pos n → (z +ℤ w) ≤ℤ all → pos 0 ≤ℤ z → pos 1 ≤ℤ sp → c ≤ℤ (int_max all l +ℤ sp)
      go c w z all l sp n e a b d = omega (arith, ints, clamps, e, a, b, d)

  -- a bar along a height, which is as high there
  pub record IsBarThere (x y : ℤ) (trunk : ℤ) (u : Shape) : Type 0 where
    pub box : IsBox (slice_index s.wire.metals 0) x y (trunk +ℤ s.wire.width) (y +ℤ s.wire.width) u

  pub bar_there : (b : ℕ) → b < banks_of s.plan → (x y more : ℤ) → x ≤ℤ columns_x s.plan s.kit g → pos 0 ≤ℤ more → (u : Shape) × IsBarThere x y (trunk_there +ℤ more) u
  bar_there b lt x y more le some =
      let box = box_there (slice_index s.wire.metals 0) x y ((trunk_there +ℤ more) +ℤ s.wire.width) (y +ℤ s.wire.width) (wide x (columns_x s.plan s.kit g) trunk_there more s.wire.width le (columns_before b lt) some is.source.drawn.laid.sizes.width.from) (tall y s.wire.width is.source.drawn.laid.sizes.width.from) in
      (box.0, record { box = box.1 })
    where
      wide : (x c tr m w : ℤ) → x ≤ℤ c → c ≤ℤ tr → pos 0 ≤ℤ m → pos 1 ≤ℤ w → x <ℤ ((tr +ℤ m) +ℤ w)
      wide x c tr m w a b d e = omega (arith, ints, a, b, d, e)

      tall : (y w : ℤ) → pos 1 ≤ℤ w → y <ℤ (y +ℤ w)
      tall y w a = omega (arith, ints, a)

  pub bar_covers : (b m unit : ℕ) (z : Zone) (dx dy : ℤ) → Anchored connections s by reach is window b m unit z dx → reach ≤ℤ pos unit → b < banks_of s.plan → (x y v trunk more : ℤ) (t u : Shape) → x ≤ℤ columns_x s.plan s.kit g → pos 0 ≤ℤ more → y +ℤ dy ≡ v
      → IsBox (slice_index s.wire.metals 0) x y (trunk +ℤ s.wire.width) (y +ℤ s.wire.width) t → IsBarThere x v (trunk_there +ℤ more) u → CoversThere by dx dy z t u
  bar_covers b m unit z dx dy a wide lt x y v trunk more t u le some up box bar =
      let o = bar.box in
      record {
        layer = o.on ∙ sym box.on;
        left = left (bar_left connections s by reach is window b m unit z dx a wide x le) box.left o.left;
        right = inr (right (z.right +ℤ dx) trunk_there more s.wire.width u.rect.x2 (trunk_right connections s by reach is window b m unit z dx a wide lt) some is.source.drawn.laid.sizes.width.from o.right);
        low = inl (low y v dy t.rect.y1 u.rect.y1 up box.low o.low);
        high = inl (high y v dy s.wire.width t.rect.y2 u.rect.y2 up box.high o.high);
      }
    where
      left : (x ≤ℤ (x +ℤ dx)) ⊎ ((x +ℤ by) ≤ℤ (z.left +ℤ dx)) → t.rect.x1 ≡ x → u.rect.x1 ≡ x → (u.rect.x1 ≤ℤ (t.rect.x1 +ℤ dx)) ⊎ ((u.rect.x1 +ℤ by) ≤ℤ (z.left +ℤ dx))
      left (inl h) p r = inl (go x dx t.rect.x1 u.rect.x1 h p r) where
        go : (x d a b : ℤ) → x ≤ℤ (x +ℤ d) → a ≡ x → b ≡ x → b ≤ℤ (a +ℤ d)
        go x d a b h p r = omega (arith, ints, h, p, r)
      left (inr h) p r = inr (go x by (z.left +ℤ dx) u.rect.x1 h r) where
        go : (x by l b : ℤ) → (x +ℤ by) ≤ℤ l → b ≡ x → (b +ℤ by) ≤ℤ l
        go x by l b h r = omega (arith, ints, h, r)

      right : (r tr m w x2 : ℤ) → (r +ℤ by) ≤ℤ tr → pos 0 ≤ℤ m → pos 1 ≤ℤ w → x2 ≡ (tr +ℤ m) +ℤ w → (r +ℤ by) ≤ℤ x2
      right r tr m w x2 a b c e = omega (arith, ints, a, b, c, e)

      low : (y v d a b : ℤ) → y +ℤ d ≡ v → a ≡ y → b ≡ v → b ≤ℤ (a +ℤ d)
      low y v d a b e p r = omega (arith, ints, e, p, r)

      high : (y v d w a b : ℤ) → y +ℤ d ≡ v → a ≡ y +ℤ w → b ≡ v +ℤ w → (a +ℤ d) ≤ℤ b
      high y v d w a b e p r = omega (arith, ints, e, p, r)

  -- a pitch is no less than nothing
  pub pitch_some : pos 0 ≤ℤ pitch s.wire
  pitch_some = let a = is.source.drawn.laid.sizes.width.from in let b = is.source.drawn.laid.sizes.space.from in omega (arith, ints, a, b)

  module _ (m : ℕ) (dx dy : ℤ) (i : Standing s) (c : Counter connections s by reach is window m dx dy i) (b unit : ℕ) (a : Anchored connections s by reach is window b m unit (zone_at connections s by reach is i) dx) (wide : reach ≤ℤ pos unit) (lt : b < banks_of s.plan) where
    -- a power bar, and a ground bar
    pub power_seen : (x y v trunk : ℤ) (t : Shape) → x ≤ℤ columns_x s.plan s.kit g → y +ℤ dy ≡ v → IsBox (slice_index s.wire.metals 0) x y (trunk +ℤ s.wire.width) (y +ℤ s.wire.width) t → IsPowerBarAt small.plan s.kit s.wire g x v → SeenThere i Vdd t
    power_seen x y v trunk t le up box at =
        let u = bar_there b lt x v (pos 0) le (omega (arith, ints)) in
        bank_seen m dx dy i c Vdd Vdd t u.0 refl (inl (inr (inl (refl, inr (x, v, at, inl (subst (λ (z : ℤ). IsBox (slice_index s.wire.metals 0) x v (z +ℤ s.wire.width) (v +ℤ s.wire.width) u.0) (nothing trunk_there) u.1.box))))))
        (bar_covers b m unit (zone_at connections s by reach is i) dx dy a wide lt x y v trunk (pos 0) t u.0 le (omega (arith, ints)) up box u.1)
      where
        nothing : (z : ℤ) → z +ℤ pos 0 ≡ z
        nothing z = omega (arith, ints)

    pub ground_seen : (x y v trunk : ℤ) (t : Shape) → x ≤ℤ columns_x s.plan s.kit g → y +ℤ dy ≡ v → IsBox (slice_index s.wire.metals 0) x y (trunk +ℤ s.wire.width) (y +ℤ s.wire.width) t → IsGroundBarAt small.plan s.kit g x v → SeenThere i Gnd t
    ground_seen x y v trunk t le up box at =
        let u = bar_there b lt x v (pitch s.wire) le pitch_some in
        bank_seen m dx dy i c Gnd Gnd t u.0 refl (inl (inr (inr (refl, inr (x, v, at, inl u.1.box)))))
        (bar_covers b m unit (zone_at connections s by reach is i) dx dy a wide lt x y v trunk (pitch s.wire) t u.0 le pitch_some up box u.1)
