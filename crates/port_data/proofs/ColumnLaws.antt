-- The channel of the formula is the column channel, moved.
use Rattle.std.proofs.Common.{◌≡◌, inl, inr, ℕ, ◌+◌, ℤ, pos, ◌+ℤ◌, ◌-ℤ◌, List, [], ◌∷◌, map, refl, ap, sym, subst, arith}
use Rattle.std.proofs.lemmas.Int.{ints}
use Rattle.or_geom.proofs.ListLaws.{contains_map}
use Rattle.tech_rules.specs.declared.tech.Wire.{Wire}
use Rattle.wire_drawing.specs.Drawing.{pitch}
use Rattle.cell_roles.specs.declared.role.Role.TheVariants.{Sense}
use Rattle.sram_netlist.specs.Organization.{Organization}
use Rattle.channel_router.specs.declared.channel.Channel.{Channel}
use Rattle.channel_router.specs.declared.channel.ChannelPin.{ChannelPin}
use Rattle.channel_router.specs.Channel.{IsPinOf}
use Rattle.macro_layout.specs.LayoutKit.{LayoutKit}
use Rattle.macro_layout.specs.Places.{Floorplan, columns_x, drive_width}
use Rattle.macro_layout.specs.Floorplan.{choice_count, rail_count, rail_x, write_height, column_channel_y}
use Rattle.macro_layout.specs.Channels.{ArePins, Numbered, IsColumnChannel, MeetsColumnTop, MeetsColumnBottom}
use Rattle.macro_layout.specs.Moved.{ArePinsMoved, IsChannelMoved}
use Rattle.macro_layout.specs.Pins.{IsRailOf, column_nets}
use Rattle.port_data.specs.Column.{IsBankFloorplan, IsDataChannel}
use Rattle.port_data.specs.Pins.{columns_in, column_channel}
use Rattle.port_data.proofs.MeetLaws.{top_of, top_line, top_choice, bottom_of, bottom_there, exit_of, exit_there}
use Rattle.port_data.proofs.NetLaws.{nets_long}
use Rattle.port_data.proofs.SenseLaws.{sense_meets, meets_sense}
use Rattle.port_data.proofs.TopLaws.{line_meets, choice_meets, meets_top}
use Rattle.port_data.proofs.ExitLaws.{exit_meets, meets_exit}

-- pins, so much further right

abbrev pub shifted : ℤ → ChannelPin → ChannelPin
shifted dx pin = record { x = pin.x +ℤ dx; net = pin.net }

there_and_back : (x dx : ℤ) → (x -ℤ dx) +ℤ dx ≡ x
there_and_back x dx = omega (arith, ints)

and_back : (x dx : ℤ) → (x +ℤ dx) +ℤ (pos 0 -ℤ dx) ≡ x
and_back x dx = omega (arith, ints)

and_there : (x dx : ℤ) → (x +ℤ (pos 0 -ℤ dx)) +ℤ dx ≡ x
and_there x dx = omega (arith, ints)

pub shifted_pin : (dx : ℤ) (pins : List ChannelPin) (net : ℕ) (x : ℤ) → IsPinOf pins net x → IsPinOf (map (shifted dx) pins) net (x +ℤ dx)
shifted_pin dx pins net x p = record { pin = shifted dx p.pin; listed = contains_map (shifted dx) pins p.pin p.listed; at_x = ap (λ (z : ℤ). z +ℤ dx) p.at_x; of_net = p.of_net }

twice : (dx : ℤ) (pins : List ChannelPin) → map (shifted (pos 0 -ℤ dx)) (map (shifted dx) pins) ≡ pins
twice dx [] = refl
twice dx (p ∷ ps) = λ i. record { x = and_back p.x dx i; net = p.net } ∷ twice dx ps i

pub pin_shifted : (dx : ℤ) (pins : List ChannelPin) (net : ℕ) (x : ℤ) → IsPinOf (map (shifted dx) pins) net x → IsPinOf pins net (x +ℤ (pos 0 -ℤ dx))
pin_shifted dx pins net x p = subst (λ (l : List ChannelPin). IsPinOf l net (x +ℤ (pos 0 -ℤ dx))) (twice dx pins) (shifted_pin (pos 0 -ℤ dx) (map (shifted dx) pins) net x p)

-- the shifted pins, moved back, are the pins
moved_back : (dx : ℤ) (pins : List ChannelPin) → ArePinsMoved (pos 0 -ℤ dx) (map (shifted dx) pins) pins
moved_back dx pins net x = (
  λ p. subst (IsPinOf (map (shifted dx) pins) net) (and_there x dx) (shifted_pin dx pins net (x +ℤ (pos 0 -ℤ dx)) p),
  λ p. pin_shifted dx pins net x p,
)

-- pins that meet there where those of the formula do, moved
meets_shifted : (dx : ℤ) (pins : List ChannelPin) (Meets : ℕ → ℤ → Type 0) → ((net : ℕ) (x : ℤ) → IsPinOf pins net x → Meets net (x +ℤ dx)) → ((net : ℕ) (x : ℤ) → Meets net (x +ℤ dx) → IsPinOf pins net x) → ArePins (map (shifted dx) pins) Meets
meets_shifted dx pins Meets to from net x = (
  λ p. subst (Meets net) (and_there x dx) (to net (x +ℤ (pos 0 -ℤ dx)) (pin_shifted dx pins net x p)),
  λ m. subst (IsPinOf (map (shifted dx) pins) net) (and_there x dx) (shifted_pin dx pins net (x +ℤ (pos 0 -ℤ dx)) (from net (x +ℤ (pos 0 -ℤ dx)) (subst (Meets net) (sym (and_there x dx)) m))),
)

-- the column channel where it is meant
abbrev pub meant_channel : Organization → LayoutKit → Wire → Floorplan → Channel
meant_channel plan kit wire floorplan =
    let ch = column_channel plan kit wire in
    let dx = columns_x plan kit floorplan in
    record { low = column_channel_y kit floorplan; top = map (shifted dx) ch.top; bottom = map (shifted dx) ch.bottom; exits = map (shifted dx) ch.exits; nets = ch.nets }

pub is_meant : (plan : Organization) (kit : LayoutKit) (wire : Wire) (floorplan : Floorplan) → IsBankFloorplan plan kit wire floorplan → IsColumnChannel plan kit wire floorplan (meant_channel plan kit wire floorplan)
is_meant plan kit wire floorplan bank =
    let dx = columns_x plan kit floorplan in
    let columns = columns_in plan kit in
    let ch = column_channel plan kit wire in
    record {
      low = refl;
      nets = sym (nets_long plan);
      top = meets_shifted dx ch.top (Numbered (column_nets plan) (MeetsColumnTop plan kit floorplan))
          (λ net x p. elim (top_of plan.col_bits kit columns net x p) [ inl line ↦ line_meets plan kit floorplan net x line | inr choice ↦ choice_meets plan kit floorplan net x choice ])
          (λ net x m. elim (meets_top plan kit floorplan net x m) [ inl line ↦ top_line plan.col_bits kit columns net x line | inr choice ↦ top_choice plan.col_bits kit columns net x choice ]);
      bottom = meets_shifted dx ch.bottom (Numbered (column_nets plan) (MeetsColumnBottom plan kit floorplan))
          (λ net x p. sense_meets plan kit floorplan net x (bottom_of kit columns net x p))
          (λ net x m. bottom_there kit columns net x (meets_sense plan kit floorplan net x m));
      exits = meets_shifted dx ch.exits (Numbered (column_nets plan) (IsRailOf plan wire floorplan 0))
          (λ net x p. exit_meets plan kit wire floorplan bank net x (exit_of (choice_count plan.col_bits) (drive_width plan kit) (pitch wire) net x p))
          (λ net x m. exit_there (choice_count plan.col_bits) (drive_width plan kit) (pitch wire) net x (meets_exit plan kit wire floorplan bank net x m));
    }

low_back : (write sense : ℕ) (write_y sense_y : ℤ) → sense_y ≡ write_y +ℤ pos write → pos (write + sense) ≡ (sense_y +ℤ pos sense) +ℤ (pos 0 -ℤ write_y)
low_back write sense write_y sense_y at = omega (arith, ints, at)

pub is_moved : (plan : Organization) (kit : LayoutKit) (wire : Wire) (floorplan : Floorplan) → IsBankFloorplan plan kit wire floorplan
    → IsChannelMoved (pos 0 -ℤ columns_x plan kit floorplan) (pos 0 -ℤ floorplan.write_y) (meant_channel plan kit wire floorplan) (column_channel plan kit wire)
is_moved plan kit wire floorplan bank =
    let dx = columns_x plan kit floorplan in
    let ch = column_channel plan kit wire in
    record {
      low = low_back (write_height plan kit) (kit.height Sense) floorplan.write_y floorplan.sense_y bank.sense_y;
      nets = refl;
      top = moved_back dx ch.top;
      bottom = moved_back dx ch.bottom;
      exits = moved_back dx ch.exits;
    }

-- some bank has such a floorplan
abbrev some_floorplan : Organization → LayoutKit → Wire → Floorplan
some_floorplan plan kit wire = record { logic_x = pos 0; row_x = rail_x wire (rail_count plan); write_y = pos 0; sense_y = pos 0 +ℤ pos (write_height plan kit); column_y = pos 0; array_y = pos 0; precharge_y = pos 0; bank_width = pos 0 }

pub is_data_channel : (plan : Organization) (kit : LayoutKit) (wire : Wire) → IsDataChannel plan kit wire (column_channel plan kit wire)
is_data_channel plan kit wire =
    let floorplan = some_floorplan plan kit wire in
    let bank : IsBankFloorplan plan kit wire (some_floorplan plan kit wire) = record { row_x = refl; sense_y = refl } in
    record {
      floorplan = floorplan;
      bank = bank;
      meant = meant_channel plan kit wire floorplan;
      is = is_meant plan kit wire floorplan bank;
      moved = is_moved plan kit wire floorplan bank;
    }
