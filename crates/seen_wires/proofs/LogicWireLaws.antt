-- Wires that touch a cell of the logic row are seen in the small memory.
use Rattle.std.proofs.Common.{◌≡◌, inl, inr, ℕ, ℤ, pos, ◌+ℤ◌, ◌-ℤ◌, ◌≤ℤ◌, List, refl, sym, subst, arith}
use Rattle.std.specs.Prelude.{slice_index}
use Rattle.std.proofs.lemmas.Int.{ints}
use Rattle.or_geom.specs.declared.shape.Shape.{Shape}
use Rattle.cell_roles.specs.declared.role.Role.TheVariants.{Inv, Sense}
use Rattle.tech_rules.specs.declared.tech.Connect.{Connect}
use Rattle.wire_drawing.specs.Drawing.{IsBox, IsVia}
use Rattle.tech_rules.specs.WireRules.{margin}
use Rattle.tech_rules.proofs.WireLaws.{margin_positive}
use Rattle.sram_netlist.specs.Nets.{Net, Vdd, Gnd}
use Rattle.sram_netlist.specs.Instances.{LogicCell, LogicAt}
use Rattle.macro_layout.specs.Places.{Floorplan}
use Rattle.macro_layout.specs.Floorplan.{column_channel_y}
use Rattle.macro_layout.specs.Pins.{main_nets, column_nets}
use Rattle.macro_layout.specs.Channels.{IsMainChannel, IsColumnChannel}
use Rattle.macro_layout.specs.Wires.{IsPowerWire, IsGroundWire, IsPowerBarAt, IsGroundBarAt, trunk_x, ground_x}
use Rattle.good_places.specs.Leaves.{Zone, AreNearZones}
use Rattle.good_wires.proofs.TapLaws.{tap_low}
use Rattle.joined_nets.specs.WireNets.{IsChannelWireOf, IsBankWireOf}
use Rattle.kit_nets.specs.StatedParts.{Source, Standing}
use Rattle.small_rows.specs.Row.{AreCellsSeen}
use Rattle.small_wires.specs.Seen.{IsNearZone}
use Rattle.seen_pairs.specs.Window.{IsSeenSource, HasSeenWindow}
use Rattle.small_wires.proofs.BranchLaws.{channel_kind}
use Rattle.small_wires.proofs.FarLaws.{lv, wide_wire, wide_space, slices_level, corner_level, upper_level, joiner_level, row_level}
use Rattle.seen_pairs.proofs.PairLaws.{x_of, least, cell_dx, row_moved, row_seen}
use Rattle.seen_pairs.proofs.SeatLaws.{zone_at}
use Rattle.small_wires.proofs.SeenWireLaws.{small, SeenThere, WireHere}
use Rattle.seen_wires.proofs.LogicPinLaws as first

module _ (connections : List Connect) (s : Source) (by reach : ℤ) (is : IsSeenSource connections s by reach) (window : HasSeenWindow connections s) (i : Standing s) (c : LogicCell) (ei : i.leaf ≡ LogicAt c) where
  abbrev f : Floorplan
  f = s.floorplan

  abbrev S : ℤ
  S = s.wire.space

  abbrev W : ℤ
  W = s.wire.width

  abbrev sm : Source
  sm = small connections s by reach is window

  abbrev z : Zone
  z = zone_at connections s by reach is i

  abbrev x : ℕ
  x = x_of connections s by reach is window i c ei

  abbrev near_itself : AreNearZones reach z z
  near_itself = first.near_itself connections s by reach is window i c ei

  abbrev above : (t : Shape) → IsNearZone S z t.rect → f.write_y ≤ℤ t.rect.y1 → ⊥
  above = first.above connections s by reach is window i c ei

  abbrev over : (t : Shape) → IsNearZone S z t.rect → (pos (s.kit.height Inv) +ℤ S) ≤ℤ t.rect.y1 → ⊥
  over = first.over connections s by reach is window i c ei

  abbrev behind : (t : Shape) → IsNearZone S z t.rect → trunk_x s.plan s.kit s.wire f ≤ℤ t.rect.x1 → ⊥
  behind = first.behind connections s by reach is window i c ei

  own : AreCellsSeen sm.plan s.kit (least connections s by reach is window) c c x x
  own = row_seen connections s by reach is window i i c c ei ei near_itself

  no_more : (a e : ℤ) → a ≡ e → a ≤ℤ e
  no_more a e h = omega (arith, ints, h)

  via_behind : (y trunk : ℤ) (t : Shape) → trunk_x s.plan s.kit s.wire f ≤ℤ trunk → IsVia s.wire 0 trunk y t → IsNearZone S z t.rect → ⊥
  via_behind y trunk t le box near = behind t near (let e = box.left in let p = margin_positive s.wire is.source.drawn.laid.sizes in go (trunk_x s.plan s.kit s.wire f) trunk (margin s.wire) t.rect.x1 le p e) where
    go : (a tr m x : ℤ) → a ≤ℤ tr → pos 1 ≤ℤ m → x ≡ tr +ℤ m → a ≤ℤ x
    go a tr m x h1 h2 h3 = omega (arith, ints, h1, h2, h3)

  ground_behind : trunk_x s.plan s.kit s.wire f ≤ℤ ground_x s.plan s.kit s.wire f
  ground_behind = go (trunk_x s.plan s.kit s.wire f) W S (wide_wire connections s by reach is) (wide_space connections s by reach is) where
    go : (t w sp : ℤ) → pos 1 ≤ℤ w → pos 1 ≤ℤ sp → t ≤ℤ (t +ℤ (w +ℤ sp))
    go t w sp h1 h2 = omega (arith, ints, h1, h2)

  column_high : f.write_y ≤ℤ f.column_y
  column_high = let a = slices_level connections s by reach is in let e = wide_space connections s by reach is in omega (arith, ints, a, e)

  channel_high : f.write_y ≤ℤ (column_channel_y s.kit f -ℤ W)
  channel_high = let a = (lv connections s by reach is).sense in let e = is.source.drawn.pins.cells Sense in omega (arith, ints, a, e)

  power_contact : (t : Shape) → IsPowerWire s.plan s.kit s.wire f t → IsNearZone S z t.rect → SeenThere connections s by reach is window i Vdd t
  power_contact t (inl trunk) near = absurd (behind t near (let e = trunk.left in no_more (trunk_x s.plan s.kit s.wire f) t.rect.x1 (sym e)))
  power_contact t (inr (u, y, at, inr via)) near = absurd (via_behind y (trunk_x s.plan s.kit s.wire f) t (no_more _ _ refl) via near)
  power_contact t (inr (u, y, at, inl box)) near = height at where
    high : f.write_y ≤ℤ y → SeenThere connections s by reach is window i Vdd t
    high le = absurd (above t near (let e = box.low in omega (arith, ints, le, e)))

    height : IsPowerBarAt s.plan s.kit s.wire f u y → SeenThere connections s by reach is window i Vdd t
    height (inl (eu, ey)) = first.power_seen connections s by reach is window i c ei own.moves own.x2 (cell_dx connections s by reach is window x own.x2) (row_moved connections s by reach is window x own.x2) own.one y t ey (subst (λ (v : ℤ). IsBox (slice_index s.wire.metals 0) v y (trunk_x s.plan s.kit s.wire f +ℤ W) (y +ℤ W) t) eu box)
    height (inr (inl (w0, eu, ey))) = high (no_more f.write_y y (sym ey))
    height (inr (inr (inl (eu, ey)))) = high (let a = channel_high in omega (arith, ints, a, ey))
    height (inr (inr (inr (inl (eu, ey))))) = high (let a = column_high in omega (arith, ints, a, ey))
    height (inr (inr (inr (inr (inl (k, lt, odd, eu, ey)))))) = high (let a = column_high in let e = row_level connections s by reach is k in omega (arith, ints, a, e, ey))
    height (inr (inr (inr (inr (inr (eu, ey)))))) = high (let a = column_high in let e = upper_level connections s by reach is in omega (arith, ints, a, e, ey))

  ground_contact : (t : Shape) → IsGroundWire s.plan s.kit s.wire f t → IsNearZone S z t.rect → SeenThere connections s by reach is window i Gnd t
  ground_contact t (inl trunk) near = absurd (behind t near (let e = trunk.left in let a = ground_behind in omega (arith, ints, e, a)))
  ground_contact t (inr (u, y, at, inr via)) near = absurd (via_behind y (ground_x s.plan s.kit s.wire f) t ground_behind via near)
  ground_contact t (inr (u, y, at, inl box)) near = height at where
    high : f.write_y ≤ℤ y → SeenThere connections s by reach is window i Gnd t
    high le = absurd (above t near (let e = box.low in omega (arith, ints, le, e)))

    height : IsGroundBarAt s.plan s.kit f u y → SeenThere connections s by reach is window i Gnd t
    height (inl (eu, ey)) = first.ground_seen connections s by reach is window i c ei own.moves own.x2 (cell_dx connections s by reach is window x own.x2) (row_moved connections s by reach is window x own.x2) own.one y t ey (subst (λ (v : ℤ). IsBox (slice_index s.wire.metals 0) v y (ground_x s.plan s.kit s.wire f +ℤ W) (y +ℤ W) t) eu box)
    height (inr (inl (eu, ey))) = high (let a = (lv connections s by reach is).sense in omega (arith, ints, a, ey))
    height (inr (inr (inl (k, lt, even, eu, ey)))) = high (let a = column_high in let e = row_level connections s by reach is k in omega (arith, ints, a, e, ey))
    height (inr (inr (inr (eu, ey)))) = high (let a = column_high in let e = (lv connections s by reach is).array in let h = (lv connections s by reach is).precharge in omega (arith, ints, a, e, h, ey))

  -- All wires

  main_case : (n : Net) (t : Shape) → IsChannelWireOf (IsMainChannel s.plan s.kit s.wire f) s.wire s.tracks.main (main_nets s.plan) n t → IsNearZone S z t.rect → IsNearZone reach z t.rect → SeenThere connections s by reach is window i n t
  main_case n t w near_s near_r = elim (channel_kind (IsMainChannel s.plan s.kit s.wire f) s.wire s.tracks.main (main_nets s.plan) n t w is.source.drawn.laid.sizes) [
    | inl inner ↦ absurd (over t near_s (let a = inner.above in let l = w.routed.meant.low in omega (arith, ints, a, l)))
    | inr (inl top) ↦ absurd (over t near_s (let a = top.above in let h = top.box.low in let l = w.routed.meant.low in omega (arith, ints, a, h, l)))
    | inr (inr bottom) ↦ first.bottom_contact connections s by reach is window i c ei n t w bottom near_r
  ]

  channel_up : f.write_y ≤ℤ column_channel_y s.kit f
  channel_up = let a = (lv connections s by reach is).sense in let e = (lv connections s by reach is).channel in omega (arith, ints, a, e)

  bank_high : (n : Net) (inner : Shape) → IsBankWireOf s.plan s.kit s.wire s.tracks f n inner → f.write_y ≤ℤ inner.rect.y1
  bank_high n inner (inl w) = elim (channel_kind (IsColumnChannel s.plan s.kit s.wire f) s.wire s.tracks.column (column_nets s.plan) n inner w is.source.drawn.laid.sizes) [
    | inl middle ↦ let a = middle.above in let l = w.routed.meant.low in let u = channel_up in let sp = wide_space connections s by reach is in omega (arith, ints, a, l, u, sp)
    | inr (inl top) ↦ let a = top.above in let h = top.box.low in let l = w.routed.meant.low in let u = channel_up in let sp = wide_space connections s by reach is in omega (arith, ints, a, h, l, u, sp)
    | inr (inr bottom) ↦ let h = bottom.box.low in let l = w.routed.meant.low in let u = channel_up in omega (arith, ints, h, l, u)
  ]
  bank_high n inner (inr (inl tap)) =
      let low = tap_low s.plan s.kit s.wire s.tracks f tap.x tap.y tap.end is.source.drawn (record { net = n; rail = tap.rail; tap = tap.tap }) in
      elim tap.drawn [
        | inl box ↦ let h = box.low in omega (arith, ints, low, h)
        | inr via ↦ let h = via.low in let p = margin_positive s.wire is.source.drawn.laid.sizes in go tap.y (margin s.wire) inner.rect.y1 low p h
      ]
    where
      go : (y m a : ℤ) → f.write_y ≤ℤ y → pos 1 ≤ℤ m → a ≡ y +ℤ m → f.write_y ≤ℤ a
      go y m a h1 h2 h3 = omega (arith, ints, h1, h2, h3)
  bank_high n inner (inr (inr (inl rail))) = no_more f.write_y inner.rect.y1 (sym rail.drawn.low)
  bank_high n inner (inr (inr (inr (inl output)))) = no_more f.write_y inner.rect.y1 (sym output.drawn.low)
  bank_high n inner (inr (inr (inr (inr (e, inl joiner))))) = let a = joiner_level connections s by reach is in let h = joiner.1.low in omega (arith, ints, a, h)
  bank_high n inner (inr (inr (inr (inr (e, inr joiner))))) = let a = corner_level connections s by reach is in let u = column_high in let h = joiner.low in omega (arith, ints, a, u, h)

  -- A wire that is near a cell of the logic row is seen with it.
  pub logic_wire : (n : Net) (t : Shape) → WireHere connections s by reach is window n t → IsNearZone S z t.rect → IsNearZone reach z t.rect → SeenThere connections s by reach is window i n t
  logic_wire n t (inl (inl w)) near_s near_r = main_case n t w near_s near_r
  logic_wire n t (inl (inr (inl power))) near_s near_r = subst (λ (v : Net). SeenThere connections s by reach is window i v t) (sym power.0) (power_contact t power.1 near_s)
  logic_wire n t (inl (inr (inr ground))) near_s near_r = subst (λ (v : Net). SeenThere connections s by reach is window i v t) (sym ground.0) (ground_contact t ground.1 near_s)
  logic_wire n t (inr bank) near_s near_r = absurd (above t near_s (let a = bank_high bank.net bank.inner bank.is in let e = bank.shifted.y1 in omega (arith, ints, a, e)))
