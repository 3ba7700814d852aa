-- The pins of the logic row are those that the layout states.
use Rattle.std.proofs.Common.{◌≡◌, inl, inr, ℕ, zero, suc, ◌+◌, ◌-◌, ◌<◌, ℤ, pos, ◌+ℤ◌, List, [], ◌∷◌, ◌++◌, map, length, get_or, Option, Some, refl, ap, sym, subst, ◌∙◌, arith}
use Rattle.std.specs.Prelude.{slice_get, take, option_map, ◌↔◌}
use Rattle.std.proofs.lemmas.Int.{ints}
use Rattle.std.proofs.lemmas.List.{length-map, take_at}
use Rattle.std.proofs.lemmas.Option.{slice_get-map, slice_get-get_or, get_or_from_slice_get}
use Rattle.cell_roles.specs.declared.role.Role.{Role}
use Rattle.channel_router.specs.declared.channel.ChannelPin.{ChannelPin}
use Rattle.channel_router.specs.Channel.{IsPinOf}
use Rattle.sram_netlist.specs.Organization.{Organization}
use Rattle.sram_netlist.specs.Nets.{Net}
use Rattle.sram_netlist.specs.Instances.{LogicCell, LogicAt}
use Rattle.sram_netlist.specs.Netlist.{logic_role, logic_cell_ports}
use Rattle.sram_netlist.specs.Membership.{HasLogicCell}
use Rattle.sram_netlist.specs.Names.{net_name}
use Rattle.sram_netlist.specs.InstanceList.{logic_cells}
use Rattle.sram_deck.specs.Deck.{logic_cell}
use Rattle.sram_rows.proofs.LogicCells.{cells_in, ports_good}
use Rattle.macro_layout.specs.LayoutKit.{LayoutKit}
use Rattle.macro_layout.specs.Places.{Floorplan, upright, total_width, StandsInRow}
use Rattle.macro_layout.specs.Pins.{port_nets, output_of, main_nets}
use Rattle.macro_layout.specs.Channels.{Numbered, MeetsMainBottom}
use Rattle.floorplan.proofs.UprightLaws.{begins_at, begins_only}
use Rattle.main_channel.specs.Pins.{HasPinOfNet}
use Rattle.main_channel.specs.Row.{port_channel_pin, cell_channel_pins, row_pins}
use Rattle.main_channel.specs.Formula.{port_begin}
use Rattle.main_channel.proofs.ListLaws.{comes_from, behind_all, all_at, exists_in}
use Rattle.main_channel.proofs.NetLaws.{before_at, has_output, not_vdd, not_gnd}
use Rattle.main_channel.proofs.LookLaws.{IsNumbering}
use Rattle.channel_router.proofs.PinListLaws.{pin_none, pin_in_both, pin_left, pin_right}
use Rattle.main_channel.proofs.PinLaws.{named_is, named_there, in_one, of_one}
use Rattle.main_channel.proofs.PortLaws.{three_ports, which_port}

-- the items before and behind one
record IsAmid {X : Type 0} (xs : List X) (i : ℕ) (x : X) : Type 0 where
  pub after : List X
  pub whole : xs ≡ take i xs ++ (x ∷ after)

amid : {X : Type 0} (xs : List X) (i : ℕ) (x : X) → slice_get xs i ≡ Some x → IsAmid xs i x
amid [] i x at = absurd cc
amid (y ∷ xs) zero x at = let e : y ≡ x = cc in record { after = xs; whole = λ j. e j ∷ xs }
amid (y ∷ xs) (suc i) x at = let m = amid xs i x at in record { after = m.after; whole = λ j. y ∷ m.whole j }

swapped : (a b : ℤ) → a +ℤ b ≡ b +ℤ a
swapped a b = omega (arith, ints)

behind : (from : ℤ) (a b : ℕ) → (from +ℤ pos a) +ℤ pos b ≡ from +ℤ pos (a + b)
behind from a b = omega (arith, ints)

-- a cell of the row has the pin
record IsInRow (plan : Organization) (kit : LayoutKit) (pins_at : LogicCell → ℤ → List ChannelPin) (cs : List LogicCell) (from : ℤ) (number : ℕ) (x : ℤ) : Type 0 where
  pub index : ℕ
  pub item : LogicCell
  pub at : slice_get cs index ≡ Some item
  pub is : IsPinOf (pins_at item (from +ℤ pos (total_width plan kit (take index cs)))) number x

module _ (plan : Organization) (kit : LayoutKit) (floorplan : Floorplan) (look : List ℕ → Option ℕ) (numbering : IsNumbering plan look) (cell : Role → List ℕ) where
  abbrev cells : List LogicCell
  cells = logic_cells plan

  abbrev ports : LogicCell → List Net
  ports c = logic_cell_ports plan c

  abbrev names : LogicCell → List (List ℕ)
  names c = map (net_name plan) (ports c)

  abbrev place_x : ℕ → ℤ
  place_x i = floorplan.logic_x +ℤ pos (total_width plan kit (take i cells))

  abbrev begin_in : LogicCell → ℕ → ℤ
  begin_in c q = port_begin kit 1 (logic_role plan c) q

  abbrev cell_at : LogicCell → ℤ → List ChannelPin
  cell_at c z = cell_channel_pins (port_begin kit 1) look (logic_role plan c) (logic_cell plan cell c) z

  abbrev row_at : List LogicCell → ℤ → List ChannelPin
  row_at cs from = row_pins (port_begin kit 1) kit.width look (map (logic_cell plan cell) cs) (map (logic_role plan) cs) from

  abbrev whole_row : List ChannelPin
  whole_row = row_at cells floorplan.logic_x

  in_row : (cs : List LogicCell) (from : ℤ) (number : ℕ) (x : ℤ) → IsPinOf (row_at cs from) number x → IsInRow plan kit cell_at cs from number x
  in_row [] from number x is = absurd (pin_none number x is)
  in_row (c ∷ cs) from number x is =
      let wide = kit.width (logic_role plan c) in
      elim (pin_in_both (cell_at c from) (row_at cs (from +ℤ pos wide)) number x is) [
        | inl first ↦ let here : from ≡ from +ℤ pos 0 = omega (arith, ints) in record { index = 0; item = c; at = refl; is = subst (λ (z : ℤ). IsPinOf (cell_at c z) number x) here first }
        | inr rest ↦
            let r = in_row cs (from +ℤ pos wide) number x rest in
            record { index = suc r.index; item = r.item; at = r.at; is = subst (λ (z : ℤ). IsPinOf (cell_at r.item z) number x) (behind from wide (total_width plan kit (take r.index cs))) r.is }
      ]

  of_row : (cs : List LogicCell) (from : ℤ) (number : ℕ) (x : ℤ) (i : ℕ) (c : LogicCell) → slice_get cs i ≡ Some c → IsPinOf (cell_at c (from +ℤ pos (total_width plan kit (take i cs)))) number x → IsPinOf (row_at cs from) number x
  of_row [] from number x i c at is = absurd cc
  of_row (d ∷ cs) from number x zero c at is =
      let e : c ≡ d = cc in
      let here : from +ℤ pos 0 ≡ from = omega (arith, ints) in
      pin_left (cell_at d from) (row_at cs (from +ℤ pos (kit.width (logic_role plan d)))) number x (subst (λ (b : LogicCell). IsPinOf (cell_at b from) number x) e (subst (λ (z : ℤ). IsPinOf (cell_at c z) number x) here is))
  of_row (d ∷ cs) from number x (suc i) c at is =
      let wide = kit.width (logic_role plan d) in
      pin_right (cell_at d from) (row_at cs (from +ℤ pos wide)) number x
      (of_row cs (from +ℤ pos wide) number x i c at (subst (λ (z : ℤ). IsPinOf (cell_at c z) number x) (sym (behind from wide (total_width plan kit (take i cs)))) is))

  -- a port that isn't a supply's
  meets : (i : ℕ) (c : LogicCell) (q : ℕ) (y : Net) (number : ℕ) (x : ℤ) → slice_get cells i ≡ Some c → slice_get (ports c) q ≡ Some y → slice_get (main_nets plan) number ≡ Some y
      → x ≡ place_x i +ℤ begin_in c q → Numbered (main_nets plan) (MeetsMainBottom plan kit floorplan) number x
  meets i c q y number x at on numbered here =
      let has = all_at (HasLogicCell plan) cells i c (cells_in plan) at in
      let mid = amid cells i c at in
      let stands : StandsInRow plan kit floorplan c (upright (place_x i) (pos 0)) = record { before = take i cells; after = mid.after; row = mid.whole; at = refl } in
      (y, numbered, (c, q, begins_at plan kit floorplan (LogicAt c) q 1 y (place_x i) (pos 0) x has on stands (here ∙ swapped (place_x i) (begin_in c q))))

  -- a pin of a cell is stated
  cell_meets : (i : ℕ) (c : LogicCell) (number : ℕ) (x : ℤ) → slice_get cells i ≡ Some c → IsPinOf (cell_at c (place_x i)) number x → Numbered (main_nets plan) (MeetsMainBottom plan kit floorplan) number x
  cell_meets i c number x at is =
      let r = in_one (length (names c) - 2) (port_channel_pin (begin_in c) look (names c) (place_x i)) number x is in
      let below = r.below in
      let name = get_or (names c) r.at [] in
      let named = named_is look name (place_x i +ℤ begin_in c r.at) number x r.is in
      let has = all_at (HasLogicCell plan) cells i c (cells_in plan) at in
      let from = comes_from (net_name plan) (ports c) r.at name (slice_get-get_or (names c) r.at [] (omega (arith, below))) in
      let good = all_at (λ y. _) (ports c) r.at from.item (ports_good plan c has) from.at in
      meets i c r.at from.item number x at from.at (numbering.found from.item number (inl (good.has, good.logic)) (ap look (sym from.is) ∙ named.number)) named.here

  row_meets : (number : ℕ) (x : ℤ) → IsPinOf whole_row number x → Numbered (main_nets plan) (MeetsMainBottom plan kit floorplan) number x
  row_meets number x is = let r = in_row cells floorplan.logic_x number x is in cell_meets r.index r.item number x r.at r.is

  -- and what is stated is a pin of the row
  port_there : (i : ℕ) (c : LogicCell) (q : ℕ) (y : Net) (number : ℕ) (x : ℤ) → slice_get cells i ≡ Some c → slice_get (ports c) q ≡ Some y → slice_get (main_nets plan) number ≡ Some y → q + 2 < length (ports c) → x ≡ place_x i +ℤ begin_in c q → IsPinOf whole_row number x
  port_there i c q y number x at on numbered few here =
      let long = length-map (ports c) (net_name plan) in
      let listed : slice_get (names c) q ≡ Some (net_name plan y) = slice_get-map (net_name plan) (ports c) q ∙ ap (option_map (net_name plan)) on in
      let named = get_or_from_slice_get (names c) q (net_name plan y) [] listed in
      of_row cells floorplan.logic_x number x i c at
      (of_one (length (names c) - 2) (port_channel_pin (begin_in c) look (names c) (place_x i)) number x q (omega (arith, long, few))
      (named_there look (get_or (names c) q []) (place_x i +ℤ begin_in c q) number x (ap look named ∙ numbering.there y number numbered) here))

  pin_there : (i : ℕ) (c : LogicCell) (q : ℕ) (y : Net) (number : ℕ) (x : ℤ) → slice_get cells i ≡ Some c → slice_get (ports c) q ≡ Some y → slice_get (main_nets plan) number ≡ Some y → x ≡ begin_in c q +ℤ place_x i → IsPinOf whole_row number x
  pin_there i c q y number x at on numbered from = elim (which_port plan c q y on) [
    | inl few ↦ port_there i c q y number x at on numbered few (from ∙ swapped (begin_in c q) (place_x i))
    | inr (inl vdd) ↦ absurd (not_vdd plan number (numbered ∙ ap (λ (z : Net). Some z) vdd))
    | inr (inr gnd) ↦ absurd (not_gnd plan number (numbered ∙ ap (λ (z : Net). Some z) gnd))
  ]

  meets_row : (number : ℕ) (x : ℤ) → Numbered (main_nets plan) (MeetsMainBottom plan kit floorplan) number x → IsPinOf whole_row number x
  meets_row number x (y, numbered, (c, q, from)) =
      let stands = from.is.stands in
      let i = length stands.before in
      let at : slice_get cells i ≡ Some c = ap (λ (l : List LogicCell). slice_get l i) stands.row ∙ behind_all stands.before (c ∷ stands.after) i 0 (omega arith) in
      let before : take i cells ≡ stands.before = ap (take i) stands.row ∙ take_at stands.before (c ∷ stands.after) i refl in
      let u = floorplan.logic_x +ℤ pos (total_width plan kit stands.before) in
      let u_is : u ≡ place_x i = ap (λ (l : List LogicCell). floorplan.logic_x +ℤ pos (total_width plan kit l)) (sym before) in
      let begins_here = begins_only plan kit floorplan (LogicAt c) q 1 y u (pos 0) x from stands.at in
      pin_there i c q y number x at from.is.on numbered (begins_here ∙ ap (λ (z : ℤ). begin_in c q +ℤ z) u_is)

  pub row_pins_are : (number : ℕ) (x : ℤ) → IsPinOf whole_row number x ↔ Numbered (main_nets plan) (MeetsMainBottom plan kit floorplan) number x
  row_pins_are number x = (row_meets number x, meets_row number x)

  -- each output has its pin
  pub output_there : (k : ℕ) → k < length cells → HasPinOfNet whole_row (length (port_nets plan) + k)
  output_there k less =
      let c = exists_in cells k less in
      let three = three_ports plan c.0 in
      let q = length (ports c.0) - 3 in
      let number = length (port_nets plan) + k in
      let numbered = behind_all (port_nets plan) (map (output_of plan) cells) number k refl ∙ has_output plan k c.0 c.1 in
      (place_x k +ℤ begin_in c.0 q, port_there k c.0 q (output_of plan c.0) number (place_x k +ℤ begin_in c.0 q) c.1 (before_at (ports c.0) three) numbered (omega (arith, three)) refl)
