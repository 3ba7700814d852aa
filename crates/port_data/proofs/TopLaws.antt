-- The pins at the top of the column channel are those of the multiplexers or ties.
use Rattle.std.proofs.Common.{◌≡◌, ◌⊎◌, inl, inr, ℕ, zero, suc, ◌*◌, ◌/◌, ◌%◌, ◌<◌, ℤ, pos, ◌+ℤ◌, true, false, Some, refl, ap, sym, subst, ◌∙◌, arith}
use Rattle.std.specs.Prelude.{slice_get}
use Rattle.std.proofs.Math.Nat.{div-one}
use Rattle.std.proofs.lemmas.Option.{same_Some}
use Rattle.cell_roles.specs.declared.role.Role.TheVariants.{Bitcell, Mux, Tie}
use Rattle.sram_netlist.specs.Organization.{Organization, words_per_row, columns_of, power_of_two}
use Rattle.sram_netlist.specs.Nets.{Net, Vdd, Gnd, Bl, Br, Line}
use Rattle.sram_netlist.specs.Instances.{LeafInstance, MuxAt, TieAt}
use Rattle.sram_netlist.specs.Netlist.{lo_net, ro_net, ports}
use Rattle.port_lists.proofs.TabulateLaws.{some_lines}
use Rattle.macro_layout.specs.LayoutKit.{LayoutKit}
use Rattle.macro_layout.specs.Places.{Floorplan, columns_x, bank_x, column_x}
use Rattle.macro_layout.specs.Cells.{column_leaf}
use Rattle.macro_layout.specs.Channels.{IsPinFrom, Numbered, MeetsColumnTop}
use Rattle.macro_layout.specs.Pins.{column_nets}
use Rattle.port_data.specs.Pins.{columns_in, column_ends}
use Rattle.port_data.proofs.ChannelLaws.{bit_of, chosen}
use Rattle.port_data.proofs.MeetLaws.{IsColumnLine, IsColumnChoice}
use Rattle.port_data.proofs.NetLaws.{IsColumnNet, column_net, choice_numbered, lo_numbered, ro_numbered, is_behind, among, among_muxed, number_of_lo, number_of_ro, number_of_choice}
use Rattle.floorplan.proofs.UprightLaws.{begins_at, begins_only}
use Rattle.port_data.proofs.SenseLaws.{in_bank, from_bank, never}

abbrev column_at : Organization → LayoutKit → Floorplan → ℕ → ℤ
column_at plan kit floorplan c = bank_x floorplan 0 (column_x plan kit floorplan c)

-- what a column ends in

mux_leaf : (bits c : ℕ) → 0 < bits → column_leaf bits 0 c ≡ MuxAt 0 c
mux_leaf zero c some = absurd (omega (arith, some))
mux_leaf (suc n) c some = refl

tie_leaf : (bits c : ℕ) → bits ≡ 0 → column_leaf bits 0 c ≡ TieAt 0 c
tie_leaf zero c none = refl
tie_leaf (suc n) c none = absurd (omega (arith, none))

mux_lo : (bits : ℕ) (kit : LayoutKit) → 0 < bits → (column_ends bits kit).lo ≡ (kit.pin Mux 2 3).x1
mux_lo zero kit some = absurd (omega (arith, some))
mux_lo (suc n) kit some = refl

mux_ro : (bits : ℕ) (kit : LayoutKit) → 0 < bits → (column_ends bits kit).ro ≡ (kit.pin Mux 3 3).x1
mux_ro zero kit some = absurd (omega (arith, some))
mux_ro (suc n) kit some = refl

tie_lo : (bits : ℕ) (kit : LayoutKit) → bits ≡ 0 → (column_ends bits kit).lo ≡ (kit.pin Tie 0 3).x1
tie_lo zero kit none = refl
tie_lo (suc n) kit none = absurd (omega (arith, none))

tie_ro : (bits : ℕ) (kit : LayoutKit) → bits ≡ 0 → (column_ends bits kit).ro ≡ (kit.pin Tie 1 3).x1
tie_ro zero kit none = refl
tie_ro (suc n) kit none = absurd (omega (arith, none))

-- where a row has one word, a column's lines are its bit's
tie_bl : (bits c : ℕ) → bits ≡ 0 → Bl 0 c ≡ lo_net bits 0 (c / power_of_two bits)
tie_bl zero c none = ap (Bl 0) (sym (div-one c))
tie_bl (suc n) c none = absurd (omega (arith, none))

tie_br : (bits c : ℕ) → bits ≡ 0 → Br 0 c ≡ ro_net bits 0 (c / power_of_two bits)
tie_br zero c none = ap (Br 0) (sym (div-one c))
tie_br (suc n) c none = absurd (omega (arith, none))

-- from the formula

mux_there : (plan : Organization) (kit : LayoutKit) (floorplan : Floorplan) (c port : ℕ) (net : Net) (x : ℤ) → 0 < plan.col_bits → c < columns_of plan → slice_get (ports plan (MuxAt 0 c)) port ≡ Some net
    → x ≡ pos (c * kit.width Bitcell) +ℤ (kit.pin Mux port 3).x1 → MeetsColumnTop plan kit floorplan net (x +ℤ columns_x plan kit floorplan)
mux_there plan kit floorplan c port net x some below on at = (
  c,
  port,
  subst (λ (leaf : LeafInstance). IsPinFrom plan kit floorplan leaf port 3 net (x +ℤ columns_x plan kit floorplan)) (sym (mux_leaf plan.col_bits c some))
      (begins_at plan kit floorplan (MuxAt 0 c) port 3 net (column_at plan kit floorplan c) floorplan.column_y (x +ℤ columns_x plan kit floorplan) (some_lines plan.bank_bits, (below, some)) on refl
      (in_bank (kit.pin Mux port 3).x1 (columns_x plan kit floorplan) floorplan.bank_width (c * kit.width Bitcell) x at)),
)

tie_there : (plan : Organization) (kit : LayoutKit) (floorplan : Floorplan) (c port : ℕ) (net : Net) (x : ℤ) → plan.col_bits ≡ 0 → c < columns_of plan → slice_get (ports plan (TieAt 0 c)) port ≡ Some net
    → x ≡ pos (c * kit.width Bitcell) +ℤ (kit.pin Tie port 3).x1 → MeetsColumnTop plan kit floorplan net (x +ℤ columns_x plan kit floorplan)
tie_there plan kit floorplan c port net x none below on at = (
  c,
  port,
  subst (λ (leaf : LeafInstance). IsPinFrom plan kit floorplan leaf port 3 net (x +ℤ columns_x plan kit floorplan)) (sym (tie_leaf plan.col_bits c none))
      (begins_at plan kit floorplan (TieAt 0 c) port 3 net (column_at plan kit floorplan c) floorplan.column_y (x +ℤ columns_x plan kit floorplan) (some_lines plan.bank_bits, (below, none)) on refl
      (in_bank (kit.pin Tie port 3).x1 (columns_x plan kit floorplan) floorplan.bank_width (c * kit.width Bitcell) x at)),
)

-- none or some
bits_cases : (bits : ℕ) → (0 < bits) ⊎ (bits ≡ 0)
bits_cases zero = inr refl
bits_cases (suc n) = inl (omega arith)

pub line_meets : (plan : Organization) (kit : LayoutKit) (floorplan : Floorplan) (number : ℕ) (x : ℤ) → IsColumnLine plan.col_bits kit (columns_in plan kit) number x → Numbered (column_nets plan) (MeetsColumnTop plan kit floorplan) number (x +ℤ columns_x plan kit floorplan)
line_meets plan kit floorplan number x line =
    let c = line.column in
    let words = words_per_row plan in
    let bit : c / words < plan.word_size = bit_of c plan.word_size words (some_lines plan.col_bits) line.below in
    let offset = pos (c * kit.width Bitcell) in
    elim line.is [
      | inl lo ↦ (
        lo_net plan.col_bits 0 (c / words),
        ap (slice_get (column_nets plan)) lo.0 ∙ lo_numbered plan (c / words) bit,
        elim (bits_cases plan.col_bits) [
          | inl some ↦ mux_there plan kit floorplan c 2 (lo_net plan.col_bits 0 (c / words)) x some line.below refl (lo.1 ∙ ap (λ (z : ℤ). offset +ℤ z) (mux_lo plan.col_bits kit some))
          | inr none ↦ tie_there plan kit floorplan c 0 (lo_net plan.col_bits 0 (c / words)) x none line.below (ap (λ (n : Net). Some n) (tie_bl plan.col_bits c none)) (lo.1 ∙ ap (λ (z : ℤ). offset +ℤ z) (tie_lo plan.col_bits kit none))
        ],
      )
      | inr ro ↦ (
        ro_net plan.col_bits 0 (c / words),
        ap (slice_get (column_nets plan)) ro.0 ∙ ro_numbered plan (c / words) bit,
        elim (bits_cases plan.col_bits) [
          | inl some ↦ mux_there plan kit floorplan c 3 (ro_net plan.col_bits 0 (c / words)) x some line.below refl (ro.1 ∙ ap (λ (z : ℤ). offset +ℤ z) (mux_ro plan.col_bits kit some))
          | inr none ↦ tie_there plan kit floorplan c 1 (ro_net plan.col_bits 0 (c / words)) x none line.below (ap (λ (n : Net). Some n) (tie_br plan.col_bits c none)) (ro.1 ∙ ap (λ (z : ℤ). offset +ℤ z) (tie_ro plan.col_bits kit none))
        ],
      )
    ]

pub choice_meets : (plan : Organization) (kit : LayoutKit) (floorplan : Floorplan) (number : ℕ) (x : ℤ) → IsColumnChoice plan.col_bits kit (columns_in plan kit) number x → Numbered (column_nets plan) (MeetsColumnTop plan kit floorplan) number (x +ℤ columns_x plan kit floorplan)
choice_meets plan kit floorplan number x choice =
    let c = choice.column in
    let k = c % words_per_row plan in
    (Line 0 plan.col_bits k, ap (slice_get (column_nets plan)) choice.of_net ∙ choice_numbered plan k (chosen plan.col_bits c (words_per_row plan) choice.some refl), mux_there plan kit floorplan c 4 (Line 0 plan.col_bits k) x choice.some choice.below refl choice.at)

-- to the formula

abbrev IsOfColumn : Organization → LayoutKit → ℕ → ℤ → Type 0
IsOfColumn plan kit number x = IsColumnLine plan.col_bits kit (columns_in plan kit) number x ⊎ IsColumnChoice plan.col_bits kit (columns_in plan kit) number x

never_muxed : (net other : Net) → is_behind net ≡ true → Some other ≡ Some net → is_behind other ≡ false → ⊥
never_muxed net other is same not = let t : true ≡ false = sym is ∙ (ap is_behind (sym (same_Some other net same)) ∙ not) in cc

mux_port : (plan : Organization) (kit : LayoutKit) (c port number : ℕ) (net : Net) (x : ℤ) → 0 < plan.col_bits → c < columns_of plan → IsColumnNet plan number net → slice_get (ports plan (MuxAt 0 c)) port ≡ Some net
    → x ≡ pos (c * kit.width Bitcell) +ℤ (kit.pin Mux port 3).x1 → IsOfColumn plan kit number x
mux_port plan kit c zero number net x some below is on at = absurd (never_muxed net (Bl 0 c) (among_muxed plan number net some is) on refl)
mux_port plan kit c (suc zero) number net x some below is on at = absurd (never_muxed net (Br 0 c) (among_muxed plan number net some is) on refl)
mux_port plan kit c (suc (suc zero)) number net x some below is on at =
    inl (record { column = c; below = below; is = inl (number_of_lo plan number net (c / words_per_row plan) (sym (same_Some (lo_net plan.col_bits 0 (c / words_per_row plan)) net on)) is, at ∙ ap (λ (z : ℤ). pos (c * kit.width Bitcell) +ℤ z) (sym (mux_lo plan.col_bits kit some))) })
mux_port plan kit c (suc (suc (suc zero))) number net x some below is on at =
    inl (record { column = c; below = below; is = inr (number_of_ro plan number net (c / words_per_row plan) (sym (same_Some (ro_net plan.col_bits 0 (c / words_per_row plan)) net on)) is, at ∙ ap (λ (z : ℤ). pos (c * kit.width Bitcell) +ℤ z) (sym (mux_ro plan.col_bits kit some))) })
mux_port plan kit c (suc (suc (suc (suc zero)))) number net x some below is on at =
    inr (record { some = some; column = c; below = below; of_net = (number_of_choice plan number net (c % words_per_row plan) (sym (same_Some (Line 0 plan.col_bits (c % words_per_row plan)) net on)) is).0; at = at })
mux_port plan kit c (suc (suc (suc (suc (suc zero))))) number net x some below is on at = absurd (never_muxed net Vdd (among_muxed plan number net some is) on refl)
mux_port plan kit c (suc (suc (suc (suc (suc (suc zero)))))) number net x some below is on at = absurd (never_muxed net Gnd (among_muxed plan number net some is) on refl)
mux_port plan kit c (suc (suc (suc (suc (suc (suc (suc port))))))) number net x some below is on at = absurd cc

tie_port : (plan : Organization) (kit : LayoutKit) (c port number : ℕ) (net : Net) (x : ℤ) → plan.col_bits ≡ 0 → c < columns_of plan → IsColumnNet plan number net → slice_get (ports plan (TieAt 0 c)) port ≡ Some net
    → x ≡ pos (c * kit.width Bitcell) +ℤ (kit.pin Tie port 3).x1 → IsOfColumn plan kit number x
tie_port plan kit c zero number net x none below is on at =
    inl (record { column = c; below = below; is = inl (number_of_lo plan number net (c / words_per_row plan) (sym (same_Some (Bl 0 c) net on) ∙ tie_bl plan.col_bits c none) is, at ∙ ap (λ (z : ℤ). pos (c * kit.width Bitcell) +ℤ z) (sym (tie_lo plan.col_bits kit none))) })
tie_port plan kit c (suc zero) number net x none below is on at =
    inl (record { column = c; below = below; is = inr (number_of_ro plan number net (c / words_per_row plan) (sym (same_Some (Br 0 c) net on) ∙ tie_br plan.col_bits c none) is, at ∙ ap (λ (z : ℤ). pos (c * kit.width Bitcell) +ℤ z) (sym (tie_ro plan.col_bits kit none))) })
tie_port plan kit c (suc (suc zero)) number net x none below is on at = absurd (never net Vdd (among plan number net is) on refl)
tie_port plan kit c (suc (suc (suc zero))) number net x none below is on at = absurd (never net Gnd (among plan number net is) on refl)
tie_port plan kit c (suc (suc (suc (suc port)))) number net x none below is on at = absurd cc

pub meets_top : (plan : Organization) (kit : LayoutKit) (floorplan : Floorplan) (number : ℕ) (x : ℤ) → Numbered (column_nets plan) (MeetsColumnTop plan kit floorplan) number (x +ℤ columns_x plan kit floorplan) → IsOfColumn plan kit number x
meets_top plan kit floorplan number x (net, at, (c, port, from)) =
    let is = column_net plan number net at in
    let to = x +ℤ columns_x plan kit floorplan in
    elim (bits_cases plan.col_bits) [
      | inl some ↦
          let pin = subst (λ (leaf : LeafInstance). IsPinFrom plan kit floorplan leaf port 3 net (x +ℤ columns_x plan kit floorplan)) (mux_leaf plan.col_bits c some) from in
          mux_port plan kit c port number net x some pin.is.has.1.0 is pin.is.on
          (from_bank (kit.pin Mux port 3).x1 (columns_x plan kit floorplan) floorplan.bank_width (c * kit.width Bitcell) x (begins_only plan kit floorplan (MuxAt 0 c) port 3 net (column_at plan kit floorplan c) floorplan.column_y to pin pin.is.stands))
      | inr none ↦
          let pin = subst (λ (leaf : LeafInstance). IsPinFrom plan kit floorplan leaf port 3 net (x +ℤ columns_x plan kit floorplan)) (tie_leaf plan.col_bits c none) from in
          tie_port plan kit c port number net x none pin.is.has.1.0 is pin.is.on
          (from_bank (kit.pin Tie port 3).x1 (columns_x plan kit floorplan) floorplan.bank_width (c * kit.width Bitcell) x (begins_only plan kit floorplan (TieAt 0 c) port 3 net (column_at plan kit floorplan c) floorplan.column_y to pin pin.is.stands))
    ]
