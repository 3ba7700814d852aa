-- Each rail and each output of a bank is a pin of the main channel; and where a mask has its write enable.
use Rattle.std.proofs.Common.{◌≡◌, ◌⊎◌, inl, inr, ℕ, zero, suc, ◌+◌, ◌*◌, ◌<◌, ℤ, pos, ◌+ℤ◌, ◌*ℤ◌, List, [], ◌∷◌, refl, sym, subst, arith}
use Rattle.std.specs.List.{AllByRecursion}
use Rattle.std.proofs.lemmas.Int.{ints}
use Rattle.std.proofs.lemmas.Option.{slice_get_within}
use Rattle.std.proofs.Math.Nat.{div-lt_iff_lt-mul}
use Rattle.or_geom.specs.declared.shape.Rect.{Rect}
use Rattle.or_geom.specs.declared.place.Place.{Place}
use Rattle.or_geom.specs.Place.{placed, IsImage}
use Rattle.cell_roles.specs.declared.role.Role.TheVariants.{Sense}
use Rattle.tech_rules.specs.declared.tech.Wire.{Wire}
use Rattle.channel_router.specs.declared.channel.Channel.{Channel}
use Rattle.channel_router.specs.Channel.{IsPinOf}
use Rattle.sram_netlist.specs.Organization.{Organization, IsBuildable, IsWritten, banks_of, words_per_row, power_of_two, written_bits}
use Rattle.sram_netlist.specs.Nets.{Net, Control, Wlen, Sen, Clkb, Dout, Line, WlenAt, SenAt}
use Rattle.sram_netlist.specs.Instances.{SenseAt, Clki, Wli, Seni, Li, Ki, Pi}
use Rattle.sram_netlist.specs.InstanceList.{tabulate}
use Rattle.sram_netlist.specs.Netlist.{wlen_at, sen_at, mask_of, enables_of, enable_count}
use Rattle.sram_netlist.specs.Membership.{IsOneOf, IsGroup}
use Rattle.sram_rows.proofs.Segments.{all_tabulate}
use Rattle.macro_layout.specs.LayoutKit.{LayoutKit}
use Rattle.macro_layout.specs.Places.{Floorplan, bank_x, column_x, upright}
use Rattle.macro_layout.specs.Floorplan.{rail_x}
use Rattle.macro_layout.specs.Pins.{IsPin, IsRailOf, line_nets, choice_nets, rail_nets, main_nets}
use Rattle.macro_layout.specs.Channels.{IsMainChannel, IsPinFrom}
use Rattle.macro_layout.proofs.RoutingLaws.{item_at}
use Rattle.main_channel.proofs.ListLaws.{all_at}
use Rattle.row_laws.proofs.LookLaws.{all_append}
use Rattle.sram_netlist.proofs.InstanceLists.{place_in}
use Rattle.route_laws.proofs.NumberLaws.{output_main, result_main}
use Rattle.good_wires.proofs.LevelLaws.{rails_count}
use Rattle.drawn_memories.proofs.StandLaws.{zero_times, up_at, image_there}

-- Nets on rails are nets of the main channel.

record IsMainNet (plan : Organization) (net : Net) : Type 0 where
  is : IsOneOf net (main_nets plan)

lines_main : (plan : Organization) (bs : List ℕ) (from : ℕ) → ((o b : ℕ) → IsGroup bs from o b → IsGroup plan.groups plan.col_bits o b) → AllByRecursion (IsMainNet plan) (line_nets bs from)
lines_main plan [] from are = tt
lines_main plan (b ∷ bs) from are =
    all_append (IsMainNet plan) (tabulate (power_of_two b) (Line from b)) (line_nets bs (from + b))
    (all_tabulate (IsMainNet plan) (power_of_two b) (Line from b) (λ k lt. record { is = output_main plan (Pi from b k) (Line from b k) (inr (inl (are from b (inl (refl, refl)))), lt) refl }))
    (lines_main plan bs (from + b) (λ o c group. are o c (inr group)))

choices_main : (plan : Organization) (n : ℕ) → plan.col_bits ≡ n → AllByRecursion (IsMainNet plan) (choice_nets n)
choices_main plan zero e = tt
choices_main plan (suc n) e = all_tabulate (IsMainNet plan) (power_of_two (suc n)) (Line 0 (suc n)) (λ k lt. record { is = output_main plan (Pi 0 (suc n) k) (Line 0 (suc n) k) (inl ((refl, sym e), omega arith), lt) refl })

wlen_main : (plan : Organization) (n b : ℕ) → plan.bank_bits ≡ n → b < banks_of plan → IsMainNet plan (wlen_at n b)
wlen_main plan zero b e lt = record { is = output_main plan Wli (Control Wlen) tt refl }
wlen_main plan (suc n) b e lt = record { is = output_main plan (Li b) (WlenAt b) (lt, omega (arith, e)) refl }

sen_main : (plan : Organization) (n b : ℕ) → plan.bank_bits ≡ n → b < banks_of plan → IsMainNet plan (sen_at n b)
sen_main plan zero b e lt = record { is = output_main plan Seni (Control Sen) tt refl }
sen_main plan (suc n) b e lt = record { is = output_main plan (Ki b) (SenAt b) (lt, omega (arith, e)) refl }

rails_main : (plan : Organization) (b : ℕ) → b < banks_of plan → AllByRecursion (IsMainNet plan) (rail_nets plan b)
rails_main plan b lt =
    all_append (IsMainNet plan) (line_nets plan.groups plan.col_bits) (wlen_at plan.bank_bits b ∷ sen_at plan.bank_bits b ∷ Control Clkb ∷ choice_nets plan.col_bits) (lines_main plan plan.groups plan.col_bits (λ o c group. group))
    (wlen_main plan plan.bank_bits b refl lt, (sen_main plan plan.bank_bits b refl lt, (record { is = output_main plan Clki (Control Clkb) tt refl }, choices_main plan plan.col_bits refl)))

-- Pins of the main channel

pub rail_pins : (plan : Organization) (kit : LayoutKit) (wire : Wire) (f : Floorplan) (ch : Channel) → IsMainChannel plan kit wire f ch → (b : ℕ) (net : Net) (x : ℤ) → b < banks_of plan → IsRailOf plan wire f 0 net x → (n : ℕ) × IsPinOf ch.top n (x +ℤ (pos b *ℤ f.bank_width))
rail_pins plan kit wire f ch is b net x lt rail =
    let j = rail.rail in
    let within = slice_get_within (rail_nets plan 0) j net rail.on in
    let here = rails_count plan 0 in
    let there = rails_count plan b in
    let other = item_at (rail_nets plan b) j (omega (arith, within, here, there)) in
    let main = (all_at (IsMainNet plan) (rail_nets plan b) j other.item (rails_main plan b lt) other.is).is in
    let number = place_in other.item (main_nets plan) main in
    (number.0, (is.top number.0 (x +ℤ (pos b *ℤ f.bank_width))).1 (other.item, number.1, (b, lt, inl (record { rail = j; on = other.is; at = moved (rail_x wire j) (pos 0 *ℤ f.bank_width) (pos b *ℤ f.bank_width) x (zero_times f.bank_width) rail.at }))))
  where
    moved : (r z o x : ℤ) → z ≡ pos 0 → x ≡ r +ℤ z → x +ℤ o ≡ r +ℤ o
    moved r z o x e at = omega (arith, ints, e, at)

pub output_pins : (plan : Organization) (kit : LayoutKit) (wire : Wire) (f : Floorplan) (ch : Channel) → IsMainChannel plan kit wire f ch → (b bit : ℕ) (net : Net) (rect : Rect) → b < banks_of plan → IsPin plan kit f (SenseAt 0 bit) 2 3 net rect
    → (n : ℕ) × IsPinOf ch.top n (rect.x1 +ℤ (pos b *ℤ f.bank_width))
output_pins plan kit wire f ch is b bit net rect lt pin =
    let c = column_x plan kit f (bit * words_per_row plan) in
    let number = place_in (Dout bit) (main_nets plan) (result_main plan bit pin.has.1) in
    let there = image_there (bank_x f b c) f.sense_y (kit.pin Sense 2 3) in
    let u = up_at (bank_x f b c) f.sense_y (kit.pin Sense 2 3) there.0 there.1 in
    let v = up_at (bank_x f 0 c) f.sense_y (kit.pin Sense 2 3) rect (subst (λ (q : Place). IsImage (placed q) (kit.pin Sense 2 3) rect) pin.stands pin.image) in
    let from : IsPinFrom plan kit f (SenseAt b bit) 2 3 (Dout bit) there.0.x1 = record { rect = there.0; is = record { has = (lt, pin.has.1); on = refl; place = upright (bank_x f b c) f.sense_y; stands = refl; image = there.1 }; begins = refl } in (
      number.0,
      subst (IsPinOf ch.top number.0) (moved (kit.pin Sense 2 3).x1 c (pos 0 *ℤ f.bank_width) (pos b *ℤ f.bank_width) rect.x1 there.0.x1 (zero_times f.bank_width) v.left u.left)
          ((is.top number.0 there.0.x1).1 (Dout bit, number.1, (b, lt, inr (inr (inr (bit, from)))))),
    )
  where
    moved : (p c z o x y : ℤ) → z ≡ pos 0 → x ≡ p +ℤ (c +ℤ z) → y ≡ p +ℤ (c +ℤ o) → y ≡ x +ℤ o
    moved p c z o x y e a b = omega (arith, ints, e, a, b)

-- The mask of a bit has its write enable.
pub masked : (plan : Organization) → IsBuildable plan → IsWritten plan → (i : ℕ) → i < plan.word_size → mask_of plan.masks plan.write_size i < enables_of plan
masked plan built written i lt = by plan.masks plan.write_size built.masks written where
  by : (masks write : ℕ) → (masks ≡ 0) ⊎ ((0 < write) × (masks * write ≡ plan.word_size)) → 0 < write → mask_of masks write i < written_bits write (enable_count masks)
  by masks zero cut some = absurd (omega (arith, some))
  by zero (suc write) cut some = omega arith
  by (suc masks) (suc write) (inl none) some = absurd (omega (arith, none))
  by (suc masks) (suc write) (inr cut) some = (div-lt_iff_lt-mul some).1 (let e = cut.1 in omega (arith, e, lt))
