-- Supply wires, joiners and labels near the origin.
use Rattle.std.proofs.Common.{◌≡◌, ◌⊎◌, inl, inr, ℕ, zero, suc, ◌*◌, ◌<◌, ◌≤◌, ◌^◌, ℤ, pos, negsuc, ◌+ℤ◌, ◌-ℤ◌, ◌*ℤ◌, ◌≤ℤ◌, List, [], ◌∷◌, ◌++◌, length, refl, sym, ap, subst, ◌∙◌, arith}
use Rattle.std.specs.Prelude.{Contains, slice_index, codes, FitsSigned}
use Rattle.std.specs.List.{AllByRecursion}
use Rattle.std.specs.Int.{w32, int_max}
use Rattle.std.proofs.Math.Nat.{mul-le-mul_left}
use Rattle.std.proofs.lemmas.Int.{ints, clamps}
use Rattle.or_geom.specs.declared.shape.Shape.{Shape}
use Rattle.or_geom.proofs.ListLaws.{all_contained, contained_at}
use Rattle.gds_library.specs.Writable.{IsText}
use Rattle.cell_roles.specs.declared.role.Role.TheVariants.{Bitcell, Driver, Inv, Sense, Precharge}
use Rattle.tech_rules.specs.declared.tech.Layer.{Layer}
use Rattle.tech_rules.specs.declared.tech.Wire.{Wire}
use Rattle.tech_rules.specs.Facts.{IsWire}
use Rattle.wire_drawing.specs.Drawing.{pitch}
use Rattle.channel_router.specs.Wires.{channel_height}
use Rattle.cell_builder.specs.declared.cell.PlacedLabel.{PlacedLabel}
use Rattle.cell_builder.specs.Writable.{IsWritableText}
use Rattle.sram_netlist.specs.Organization.{Organization, inputs_of, addr_bits, bank_rows, columns_of, banks_of, IsBuildable}
use Rattle.sram_netlist.specs.Instances.{LogicCell, LogicAt}
use Rattle.sram_netlist.specs.Nets.{Net, Addr, Din, Dout, Wmask}
use Rattle.sram_netlist.specs.Netlist.{web_nets, role, row_gate}
use Rattle.sram_netlist.specs.InstanceList.{tabulate, logic_cells}
use Rattle.sram_netlist.specs.Names.{net_name}
use Rattle.sram_netlist.proofs.Bounds.{bounds}
use Rattle.macro_layout.specs.LayoutKit.{LayoutKit}
use Rattle.macro_layout.specs.Places.{Floorplan, bit_width, bit_height, drive_width, columns_x, total_width}
use Rattle.macro_layout.specs.Floorplan.{Tracks, column_channel_y, upper_y}
use Rattle.macro_layout.specs.Pins.{port_nets}
use Rattle.macro_layout.specs.Wires.{columns_end, trunk_x, ground_x, IsSupplyTrunk, IsBar, row_y, IsPowerBarAt, IsGroundBarAt, IsPowerWire, IsGroundWire, IsPortLabel}
use Rattle.macro_bounds.specs.Near.{IsCoordinate, IsLengthUpTo, IsWireShape, IsSevenLayerWire}
use Rattle.macro_bounds.specs.Floorplans.{IsSmallKit, AreFewTracks}
use Rattle.macro_bounds.specs.Supplies.{IsNearMacro, SupplyWiresAreNear, JoinersAreNear, LabelsAreWritable, LabelsHaveLayers}
use Rattle.macro_bounds.proofs.BoxLaws.{metal, on_layer, box_near, LeavesWidth, roomy, wider, via_near}
use Rattle.macro_bounds.proofs.TextLaws.{all_joined, label_text, index_text}
use Rattle.macro_bounds.proofs.CountLaws.{logic_cells_are_few, address_few, inputs_few}
use Rattle.macro_bounds.proofs.FloorplanLaws.{sides, pitch_up, height_up}
use Rattle.macro_bounds.proofs.CellLaws.{all_tabulated, few_number}

abbrev most : ℕ
most = 1107296256

abbrev Room : ℤ → Type 0
Room = LeavesWidth 1107296256

-- numbers

up_room : (z : ℤ) → IsLengthUpTo (2 ^ 30) z → Room z
up_room z up = let low = up.above in let high = up.below in record { above = omega (arith, ints, low); below = omega (arith, ints, high) }

less_up : (few : ℕ) (z : ℤ) → few ≤ 1073741824 → IsLengthUpTo few z → IsLengthUpTo (2 ^ 30) z
less_up few z le up = let low = up.above in let high = up.below in record { above = low; below = omega (arith, ints, le, high) }

plus_room : (z : ℤ) (n : ℕ) → IsLengthUpTo (2 ^ 30) z → n ≤ 16777216 → Room (z +ℤ pos n)
plus_room z n up le = let low = up.above in let high = up.below in record { above = omega (arith, ints, low); below = omega (arith, ints, high, le) }

minus_room : (z w : ℤ) (n : ℕ) → IsLengthUpTo (2 ^ 30) z → n ≤ 16777216 → pos 1 ≤ℤ w → w ≤ℤ pos 65536 → Room ((z +ℤ pos n) -ℤ w)
minus_room z w n up le from to = let low = up.above in let high = up.below in record { above = omega (arith, ints, low, to); below = omega (arith, ints, high, le, from) }

below_room : (w : ℤ) (n : ℕ) → n ≤ 65536 → pos 1 ≤ℤ w → w ≤ℤ pos 65536 → Room (pos n -ℤ w)
below_room w n le from to = record { above = omega (arith, ints, to); below = omega (arith, ints, le, from) }

zero_room : Room (pos 0)
zero_room = record { above = omega (arith, ints); below = omega (arith, ints) }

bank_product : (b w : ℕ) → b ≤ 4 → w ≤ 33554432 → b * w ≤ 134217728
bank_product b w few small = let le = mul-le-mul_left b small in omega (arith, le, few)

banks_up : (b : ℕ) (w : ℤ) → b ≤ 4 → IsLengthUpTo (2 ^ 25) w → IsLengthUpTo 134217728 (pos b *ℤ w)
banks_up b (pos w) few up = let below = up.below in let le = bank_product b w few (omega (arith, ints, below)) in record { above = omega (arith, ints, le); below = omega (arith, ints, le) }
banks_up b (negsuc w) few up = let above = up.above in absurd (omega (arith, ints, above))

width_few : (plan : Organization) (kit : LayoutKit) (cs : List LogicCell) → IsSmallKit kit → total_width plan kit cs ≤ 65536 * length cs
width_few plan kit [] small = omega arith
width_few plan kit (c ∷ cs) small = let one = small.widths (role plan (LogicAt c)) in let rest = width_few plan kit cs small in omega (arith, one, rest)

trunk_up : (a b s : ℤ) (n : ℕ) → IsLengthUpTo 134217728 a → IsLengthUpTo (2 ^ 17) b → n ≤ 183500800 → pos 1 ≤ℤ s → s ≤ℤ pos 65536 → IsLengthUpTo 183697408 (int_max a (b +ℤ pos n) +ℤ s)
trunk_up a b s n up logic le from to =
    let a0 = up.above in
    let a1 = up.below in
    let b0 = logic.above in
    let b1 = logic.below in
    record { above = omega (arith, ints, clamps, a0, b0, from); below = omega (arith, ints, clamps, a1, b1, le, to) }

more_up : (z : ℤ) → IsLengthUpTo 183697408 z → IsLengthUpTo 183828480 z
more_up z up = let low = up.above in let high = up.below in record { above = low; below = omega (arith, ints, high) }

further : (a p : ℤ) → IsLengthUpTo 183697408 a → pos 0 ≤ℤ p → p ≤ℤ pos 131072 → IsLengthUpTo 183828480 (a +ℤ p)
further a p up low high = let a0 = up.above in let a1 = up.below in record { above = omega (arith, ints, a0, low); below = omega (arith, ints, a1, high) }

module _ (plan : Organization) (kit : LayoutKit) (wire : Wire) (f : Floorplan) (m : IsNearMacro plan kit wire f) where
  power_up : IsLengthUpTo 183697408 (trunk_x plan kit wire f)
  power_up =
      let wide = width_few plan kit (logic_cells plan) m.small in
      let cells = logic_cells_are_few plan m.buildable in
      trunk_up (pos (banks_of plan) *ℤ f.bank_width) f.logic_x wire.space (total_width plan kit (logic_cells plan)) (banks_up (banks_of plan) f.bank_width (bounds plan m.buildable).banks m.near.bank_width) m.near.logic_x (omega (arith, wide, cells)) m.wires.sizes.space.from m.wires.sizes.space.to

  ground_up : IsLengthUpTo 183828480 (ground_x plan kit wire f)
  ground_up = let p = pitch_up wire m.wires.sizes in further (trunk_x plan kit wire f) (pitch wire) power_up p.0 p.1

  trunk_near : (x : ℤ) (s : Shape) → IsLengthUpTo 183828480 x → IsSupplyTrunk kit wire f x s → IsWireShape wire most s
  trunk_near x s up is =
      let room = up_room x (less_up 183828480 x (omega arith) up) in
      let end = plus_room f.precharge_y (kit.height Precharge) m.near.precharge_y (let h = m.small.heights Precharge in omega (arith, h)) in
      box_near wire most (slice_index wire.metals 1) x (pos 0) (x +ℤ wire.width) (upper_y kit f) s (metal wire 1 m.wires (omega arith))
      (record { left = roomy most x room; low = roomy most (pos 0) zero_room; right = wider most x wire.width room m.wires.sizes.width.from m.wires.sizes.width.to; high = roomy most (upper_y kit f) end }) is

  bar_near : (trunk x y : ℤ) (s : Shape) → IsLengthUpTo 183828480 trunk → Room x → Room y → IsBar wire trunk x y s → IsWireShape wire most s
  bar_near trunk x y s up at_x at_y (inl is) =
      let room = up_room trunk (less_up 183828480 trunk (omega arith) up) in
      box_near wire most (slice_index wire.metals 0) x y (trunk +ℤ wire.width) (y +ℤ wire.width) s (metal wire 0 m.wires (omega arith))
      (record { left = roomy most x at_x; low = roomy most y at_y; right = wider most trunk wire.width room m.wires.sizes.width.from m.wires.sizes.width.to; high = wider most y wire.width at_y m.wires.sizes.width.from m.wires.sizes.width.to }) is
  bar_near trunk x y s up at_x at_y (inr is) = via_near wire most 0 trunk y s m.wires (omega arith) (up_room trunk (less_up 183828480 trunk (omega arith) up)) at_y is

  logic_room : Room f.logic_x
  logic_room = up_room f.logic_x (less_up (2 ^ 17) f.logic_x (omega arith) m.near.logic_x)

  rows_room : Room f.row_x
  rows_room = up_room f.row_x (less_up (2 ^ 23) f.row_x (omega arith) m.near.row_x)

  drive_few : drive_width plan kit ≤ 131072
  drive_few = let gate = m.small.widths (row_gate plan.groups) in let driver = m.small.widths Driver in omega (arith, gate, driver)

  columns_room : Room (columns_x plan kit f)
  columns_room = let d = drive_few in plus_room f.row_x (drive_width plan kit) (less_up (2 ^ 23) f.row_x (omega arith) m.near.row_x) (omega (arith, d))

  row_room : (r : ℕ) → r < bank_rows plan → Room (row_y kit f r)
  row_room r lt =
      let rows = m.buildable.rows in
      let few = sides r (bit_height kit) 256 (omega (arith, rows, lt)) (m.small.heights Bitcell) in
      plus_room f.array_y (r * bit_height kit) m.near.array_y (omega (arith, few))

  channel_room : Room (column_channel_y kit f -ℤ wire.width)
  channel_room = minus_room f.sense_y wire.width (kit.height Sense) m.near.sense_y (let h = m.small.heights Sense in omega (arith, h)) m.wires.sizes.width.from m.wires.sizes.width.to

  top_room : Room (upper_y kit f -ℤ wire.width)
  top_room = minus_room f.precharge_y wire.width (kit.height Precharge) m.near.precharge_y (let h = m.small.heights Precharge in omega (arith, h)) m.wires.sizes.width.from m.wires.sizes.width.to

  abbrev AreRooms : ℤ → ℤ → Type 0
  AreRooms x y = Room x × Room y

  at : (x y a b : ℤ) → x ≡ a → y ≡ b → Room a → Room b → AreRooms x y
  at x y a b p q ha hb = (subst Room (sym p) ha, subst Room (sym q) hb)

  power_rooms : (x y : ℤ) → IsPowerBarAt plan kit wire f x y → AreRooms x y
  power_rooms x y (inl h) = at x y f.logic_x (pos (kit.height Inv) -ℤ wire.width) h.0 h.1 logic_room (below_room wire.width (kit.height Inv) (m.small.heights Inv) m.wires.sizes.width.from m.wires.sizes.width.to)
  power_rooms x y (inr (inl (written, at_x, at_y))) = at x y (columns_x plan kit f) f.write_y at_x at_y columns_room (up_room f.write_y m.near.write_y)
  power_rooms x y (inr (inr (inl h))) = at x y (columns_x plan kit f) (column_channel_y kit f -ℤ wire.width) h.0 h.1 columns_room channel_room
  power_rooms x y (inr (inr (inr (inl h)))) = at x y (columns_x plan kit f) f.column_y h.0 h.1 columns_room (up_room f.column_y m.near.column_y)
  power_rooms x y (inr (inr (inr (inr (inl (r, lt, odd, at_x, at_y)))))) = at x y f.row_x (row_y kit f r) at_x at_y rows_room (row_room r lt)
  power_rooms x y (inr (inr (inr (inr (inr h))))) = at x y (columns_x plan kit f) (upper_y kit f -ℤ wire.width) h.0 h.1 columns_room top_room

  ground_rooms : (x y : ℤ) → IsGroundBarAt plan kit f x y → AreRooms x y
  ground_rooms x y (inl h) = at x y f.logic_x (pos 0) h.0 h.1 logic_room zero_room
  ground_rooms x y (inr (inl h)) = at x y (columns_x plan kit f) f.sense_y h.0 h.1 columns_room (up_room f.sense_y m.near.sense_y)
  ground_rooms x y (inr (inr (inl (r, lt, even, at_x, at_y)))) = at x y f.row_x (row_y kit f r) at_x at_y rows_room (row_room r lt)
  ground_rooms x y (inr (inr (inr h))) = at x y f.row_x f.precharge_y h.0 h.1 rows_room (up_room f.precharge_y m.near.precharge_y)

  power_near : (s : Shape) → IsPowerWire plan kit wire f s → IsWireShape wire most s
  power_near s (inl is) = trunk_near (trunk_x plan kit wire f) s (more_up (trunk_x plan kit wire f) power_up) is
  power_near s (inr (x, y, place, bar)) = let rooms = power_rooms x y place in bar_near (trunk_x plan kit wire f) x y s (more_up (trunk_x plan kit wire f) power_up) rooms.0 rooms.1 bar

  ground_near : (s : Shape) → IsGroundWire plan kit wire f s → IsWireShape wire most s
  ground_near s (inl is) = trunk_near (ground_x plan kit wire f) s ground_up is
  ground_near s (inr (x, y, place, bar)) = let rooms = ground_rooms x y place in bar_near (ground_x plan kit wire f) x y s ground_up rooms.0 rooms.1 bar

pub supply_wires_are_near : SupplyWiresAreNear
supply_wires_are_near plan kit wire f m s (inl is) = power_near plan kit wire f m s is
supply_wires_are_near plan kit wire f m s (inr is) = ground_near plan kit wire f m s is

-- joiners

same_coordinate : (t s dx z : ℤ) → t ≡ s +ℤ dx → s ≡ z → IsCoordinate most (z +ℤ dx) → IsCoordinate most t
same_coordinate t s dx z moved is near = subst (IsCoordinate most) (sym (moved ∙ ap (λ (u : ℤ). u +ℤ dx) is)) near

still : (z : ℤ) → IsLengthUpTo (2 ^ 30) z → IsCoordinate most (z +ℤ pos 0)
still z up = let low = up.above in let high = up.below in record { above = omega (arith, ints, low); below = omega (arith, ints, high) }

still_columns : (z : ℤ) (drive : ℕ) → IsLengthUpTo (2 ^ 23) z → drive ≤ 131072 → IsCoordinate most ((z +ℤ pos drive) +ℤ pos 0)
still_columns z drive up d = let low = up.above in let high = up.below in record { above = omega (arith, ints, low); below = omega (arith, ints, high, d) }

still_end : (z : ℤ) (drive columns : ℕ) → IsLengthUpTo (2 ^ 23) z → drive ≤ 131072 → columns ≤ 16777216 → IsCoordinate most (((z +ℤ pos drive) +ℤ pos columns) +ℤ pos 0)
still_end z drive columns up d c = let low = up.above in let high = up.below in record { above = omega (arith, ints, low); below = omega (arith, ints, high, d, c) }

lowered : (y by : ℤ) → IsLengthUpTo (2 ^ 30) y → IsLengthUpTo (2 ^ 30) by → IsCoordinate most (y +ℤ (pos 0 -ℤ by))
lowered y by a b = let a0 = a.above in let a1 = a.below in let b0 = b.above in let b1 = b.below in record { above = omega (arith, ints, a0, b1); below = omega (arith, ints, a1, b0) }

lowered_more : (y w by : ℤ) → IsLengthUpTo (2 ^ 30) y → IsLengthUpTo (2 ^ 30) by → pos 1 ≤ℤ w → w ≤ℤ pos 65536 → IsCoordinate most ((y -ℤ w) +ℤ (pos 0 -ℤ by))
lowered_more y w by a b from to = let a0 = a.above in let a1 = a.below in let b0 = b.above in let b1 = b.below in record { above = omega (arith, ints, a0, b1, to); below = omega (arith, ints, a1, b0, from) }

on_metal : (wire : Wire) (t s : Shape) → IsSevenLayerWire wire → t.layer ≡ s.layer → s.layer ≡ slice_index wire.metals 0 → Contains wire.metals t.layer ⊎ Contains wire.cuts t.layer
on_metal wire t s w a b = subst (λ (l : ℕ). Contains wire.metals l ⊎ Contains wire.cuts l) (sym (a ∙ b)) (metal wire 0 w (omega arith))

pub joiners_are_near : JoinersAreNear
joiners_are_near plan kit wire f m s t (inl (written, box)) moved =
    let d = drive_few plan kit wire f m in
    let c = sides (columns_of plan) (bit_width kit) 256 m.buildable.columns (m.small.widths Bitcell) in
    record {
      on = on_metal wire t s m.wires moved.layer box.on;
      left = same_coordinate t.rect.x1 s.rect.x1 (pos 0) (columns_x plan kit f) moved.x1 box.left (still_columns f.row_x (drive_width plan kit) m.near.row_x d);
      low = same_coordinate t.rect.y1 s.rect.y1 (pos 0 -ℤ f.write_y) (f.sense_y -ℤ wire.width) moved.y1 box.low (lowered_more f.sense_y wire.width f.write_y m.near.sense_y m.near.write_y m.wires.sizes.width.from m.wires.sizes.width.to);
      right = same_coordinate t.rect.x2 s.rect.x2 (pos 0) (columns_end plan kit f) moved.x2 box.right (still_end f.row_x (drive_width plan kit) (columns_of plan * bit_width kit) m.near.row_x d (omega (arith, c)));
      high = same_coordinate t.rect.y2 s.rect.y2 (pos 0 -ℤ f.write_y) f.sense_y moved.y2 box.high (lowered f.sense_y f.write_y m.near.sense_y m.near.write_y);
    }
joiners_are_near plan kit wire f m s t (inr box) moved =
    let d = drive_few plan kit wire f m in
    let c = sides (columns_of plan) (bit_width kit) 256 m.buildable.columns (m.small.widths Bitcell) in
    record {
      on = on_metal wire t s m.wires moved.layer box.on;
      left = same_coordinate t.rect.x1 s.rect.x1 (pos 0) f.row_x moved.x1 box.left (still f.row_x (less_up (2 ^ 23) f.row_x (omega arith) m.near.row_x));
      low = same_coordinate t.rect.y1 s.rect.y1 (pos 0 -ℤ f.write_y) (f.array_y -ℤ wire.width) moved.y1 box.low (lowered_more f.array_y wire.width f.write_y m.near.array_y m.near.write_y m.wires.sizes.width.from m.wires.sizes.width.to);
      right = same_coordinate t.rect.x2 s.rect.x2 (pos 0) (columns_end plan kit f) moved.x2 box.right (still_end f.row_x (drive_width plan kit) (columns_of plan * bit_width kit) m.near.row_x d (omega (arith, c)));
      high = same_coordinate t.rect.y2 s.rect.y2 (pos 0 -ℤ f.write_y) f.array_y moved.y2 box.high (lowered f.array_y f.write_y m.near.array_y m.near.write_y);
    }

-- labels

abbrev HasText : Organization → Net → Type 0
HasText plan net = IsText (net_name plan net)

web_text : (plan : Organization) (w : ℕ) → AllByRecursion (HasText plan) (web_nets w)
web_text plan zero = tt
web_text plan (suc w) = (label_text (codes "web0") refl, tt)

port_texts : (plan : Organization) → IsBuildable plan → AllByRecursion (HasText plan) (port_nets plan)
port_texts plan p =
    let inputs = inputs_few plan p in
    let words = (bounds plan p).words in
    let masks = (bounds plan p).masks in
    let address = address_few plan p in (
      label_text (codes "clk0") refl,
      (
        label_text (codes "csb0") refl,
        all_joined (HasText plan) (web_nets plan.write_size) (tabulate plan.masks Wmask ++ (tabulate (addr_bits plan) Addr ++ (tabulate (inputs_of plan) Din ++ tabulate plan.word_size Dout))) (web_text plan plan.write_size)
            (all_joined (HasText plan) (tabulate plan.masks Wmask) (tabulate (addr_bits plan) Addr ++ (tabulate (inputs_of plan) Din ++ tabulate plan.word_size Dout))
            (all_tabulated (HasText plan) plan.masks Wmask (λ i lt. index_text (codes "wmask0") i refl (few_number i 256 (omega (arith, masks, lt)) (omega arith))))
            (all_joined (HasText plan) (tabulate (addr_bits plan) Addr) (tabulate (inputs_of plan) Din ++ tabulate plan.word_size Dout)
            (all_tabulated (HasText plan) (addr_bits plan) Addr (λ i lt. index_text (codes "addr0") i refl (few_number i 256 (omega (arith, address, lt)) (omega arith))))
            (all_joined (HasText plan) (tabulate (inputs_of plan) Din) (tabulate plan.word_size Dout)
            (all_tabulated (HasText plan) (inputs_of plan) Din (λ i lt. index_text (codes "din0") i refl (few_number i 256 (omega (arith, inputs, lt)) (omega arith))))
            (all_tabulated (HasText plan) plan.word_size Dout (λ i lt. index_text (codes "dout0") i refl (few_number i 256 (omega (arith, words, lt)) (omega arith))))))),
      ),
    )

short_up : (z : ℤ) → IsLengthUpTo (2 ^ 30) z → FitsSigned w32 z
short_up z up = let low = up.above in let high = up.below in omega (arith, ints, low, high)

label_at : (label : PlacedLabel) (text : List ℕ) (x y : ℤ) → label.text ≡ text → label.at.x ≡ x → label.at.y ≡ y → IsText text → IsLengthUpTo (2 ^ 30) x → IsLengthUpTo (2 ^ 30) y → IsWritableText label
label_at label text x y p q r is ux uy = record { text = subst IsText (sym p) is; at = record { x = subst (FitsSigned w32) (sym q) (short_up x ux); y = subst (FitsSigned w32) (sym r) (short_up y uy) } }

zero_up : IsLengthUpTo (2 ^ 30) (pos 0)
zero_up = record { above = omega (arith, ints); below = omega (arith, ints) }

track_up : (low h : ℤ) (n : ℕ) → low ≡ pos n → n ≤ 65536 → pos 0 ≤ℤ h → h ≤ℤ pos 536936448 → IsLengthUpTo (2 ^ 30) (low +ℤ h)
track_up low h n is le from to = record { above = omega (arith, ints, is, from); below = omega (arith, ints, is, le, to) }

port_label : (plan : Organization) (kit : LayoutKit) (wire : Wire) (tracks : Tracks) (f : Floorplan) (label : PlacedLabel) → IsNearMacro plan kit wire f → AreFewTracks tracks → IsPortLabel plan kit wire tracks.main f label → IsWritableText label
port_label plan kit wire tracks f label m few is =
    let named = all_contained (HasText plan) (port_nets plan) is.net (port_texts plan m.buildable) (contained_at (port_nets plan) is.number is.net is.port) in
    let trunk = is.trunk in
    let below = trunk.routed.count.below is.number trunk.on trunk.has.on in
    let all = few.main in
    let h = height_up wire trunk.on 4096 m.wires.sizes (omega (arith, below, all)) in
    let y = subst (IsLengthUpTo (2 ^ 30)) (sym trunk.at) (track_up trunk.channel.low (channel_height wire trunk.on) (kit.height Inv) trunk.routed.meant.low (m.small.heights Inv) h.0 h.1) in
    label_at label (net_name plan is.net) (pos 0) is.y is.text.text_is is.text.x_is is.text.y_is named zero_up y

pub labels_are_writable : LabelsAreWritable
labels_are_writable plan kit wire tracks f m few label (inl is) = port_label plan kit wire tracks f label m few is
labels_are_writable plan kit wire tracks f m few label (inr (inl is)) = label_at label (codes "vdd") (trunk_x plan kit wire f) (pos 0) is.text_is is.x_is is.y_is (label_text (codes "vdd") refl) (less_up 183697408 (trunk_x plan kit wire f) (omega arith) (power_up plan kit wire f m)) zero_up
labels_are_writable plan kit wire tracks f m few label (inr (inr is)) = label_at label (codes "gnd") (ground_x plan kit wire f) (pos 0) is.text_is is.x_is is.y_is (label_text (codes "gnd") refl) (less_up 183828480 (ground_x plan kit wire f) (omega arith) (ground_up plan kit wire f m)) zero_up

seven_layers : (layers : List Layer) (wire : Wire) → IsWire layers wire → IsSevenLayerWire wire
seven_layers layers wire is = record { sizes = is.sizes; four = is.four; three = is.three }

metal_there : (layers : List Layer) (wire : Wire) (k layer : ℕ) → IsWire layers wire → k < 4 → layer ≡ slice_index wire.metals k → layer < length layers
metal_there layers wire k layer is lt on = subst (λ (l : ℕ). l < length layers) (sym on) (on_layer layers wire (slice_index wire.metals k) is (metal wire k (seven_layers layers wire is) lt))

pub labels_have_layers : LabelsHaveLayers
labels_have_layers layers plan kit wire tracks f w label (inl is) = metal_there layers wire 2 label.layer w (omega arith) is.text.layer
labels_have_layers layers plan kit wire tracks f w label (inr (inl is)) = metal_there layers wire 1 label.layer w (omega arith) is.layer
labels_have_layers layers plan kit wire tracks f w label (inr (inr is)) = metal_there layers wire 1 label.layer w (omega arith) is.layer
