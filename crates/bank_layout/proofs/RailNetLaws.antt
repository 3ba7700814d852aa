-- Which nets are on rails, and on which; and the ports of leaf instances that are on none.
use Rattle.std.proofs.Common.{◌≡◌, inl, inr, ℕ, zero, suc, ◌+◌, ◌<◌, List, [], ◌∷◌, length, Some, refl, ap, sym, subst, ◌∙◌, arith}
use Rattle.std.specs.Prelude.{slice_get}
use Rattle.std.proofs.lemmas.List.{length-append}
use Rattle.std.proofs.lemmas.Option.{same_Some, slice_get_within}
use Rattle.sram_netlist.specs.Organization.{Organization, power_of_two}
use Rattle.sram_netlist.specs.Nets.{Net, Clkb, Wlen, Sen, Control, Vdd, Gnd, Dout, Line, WlenAt, SenAt, Zb, Wl, Bl, Br}
use Rattle.sram_netlist.specs.Instances.{DriverAt, PrechargeAt, SenseAt}
use Rattle.sram_netlist.specs.Netlist.{high_bits, row_lines, lo_net, ro_net, wlen_at, sen_at, supply_nets, ports}
use Rattle.macro_layout.specs.Floorplan.{line_count, choice_count, rail_count}
use Rattle.macro_layout.specs.Pins.{line_nets, choice_nets, rail_nets}
use Rattle.bank_layout.proofs.ListLaws.{tabulated_at, tabulated_long}
use Rattle.bank_layout.proofs.LineLaws.{line_at, line_below}
use Rattle.bank_layout.proofs.NetLaws.{in_front, behind, split_at, lines_long, line_net, line_of, choice_at, others}

-- nets that a rail can have are marked 0
pub rail_mark : Net → ℕ
rail_mark (Line o b k) = 0
rail_mark (WlenAt b) = 0
rail_mark (SenAt b) = 0
rail_mark (Control Wlen) = 0
rail_mark (Control Sen) = 0
rail_mark (Control Clkb) = 0
rail_mark net = 1

abbrev pub IsOnRail : Net → Type 0
IsOnRail net = rail_mark net ≡ zero

wlen_on : (n : ℕ) → IsOnRail (wlen_at n 0)
unfolding rail_mark
wlen_on zero = refl
wlen_on (suc n) = refl

sen_on : (n : ℕ) → IsOnRail (sen_at n 0)
unfolding rail_mark
sen_on zero = refl
sen_on (suc n) = refl

line_on : (o b k : ℕ) (net : Net) → net ≡ Line o b k → IsOnRail net
unfolding rail_mark
line_on o b k net is = let here : IsOnRail (Line o b k) = refl in subst IsOnRail (sym is) here

clock_on : IsOnRail (Control Clkb)
unfolding rail_mark
clock_on = refl

other_on : (plan : Organization) (k : ℕ) (net : Net) → slice_get (others plan) k ≡ Some net → IsOnRail net
other_on plan zero net e = subst IsOnRail (same_Some (wlen_at plan.bank_bits 0) net e) (wlen_on plan.bank_bits)
other_on plan (suc zero) net e = subst IsOnRail (same_Some (sen_at plan.bank_bits 0) net e) (sen_on plan.bank_bits)
other_on plan (suc (suc zero)) net e = subst IsOnRail (same_Some (Control Clkb) net e) clock_on
other_on plan (suc (suc (suc k))) net e = line_on 0 plan.col_bits k net (choice_at plan.col_bits k net e)

-- a rail's net is one
pub on_rail : (plan : Organization) (rail : ℕ) (net : Net) → slice_get (rail_nets plan 0) rail ≡ Some net → IsOnRail net
on_rail plan rail net e = elim (split_at (line_nets plan.groups plan.col_bits) (others plan) rail net e) [
  | inl line ↦ (let r = line_of plan.groups plan.col_bits rail net line in line_on r.bit r.bits r.number net r.is)
  | inr other ↦ other_on plan other.k net other.at
]

-- Where rails are

pub choices_long : (bits : ℕ) → length (choice_nets bits) ≡ choice_count bits
choices_long zero = refl
choices_long (suc n) = tabulated_long (power_of_two (suc n)) (Line 0 (suc n))

pub choice_has : (bits k : ℕ) → k < choice_count bits → slice_get (choice_nets bits) k ≡ Some (Line 0 bits k)
choice_has zero k lt = absurd (omega (arith, lt))
choice_has (suc n) k lt = tabulated_at (power_of_two (suc n)) (Line 0 (suc n)) k lt

pub rails_long : (plan : Organization) → length (rail_nets plan 0) ≡ rail_count plan
rails_long plan =
    let lines = lines_long plan.groups plan.col_bits in
    let choices = choices_long plan.col_bits in
    let both = length-append (line_nets plan.groups plan.col_bits) (others plan) in
    omega (arith, lines, choices, both)

pub rows_long : (groups : List ℕ) (o r : ℕ) → length (row_lines groups o r) ≡ length groups
rows_long [] o r = refl
rows_long (b ∷ bs) o r = ap suc (rows_long bs (o + b) (high_bits b r))

-- the rail of a row's line in a group
pub line_rail : (plan : Organization) (r group : ℕ) → group < length plan.groups → slice_get (rail_nets plan 0) (line_at plan.groups 0 r group) ≡ slice_get (row_lines plan.groups plan.col_bits r) group
line_rail plan r group lt =
    let long = lines_long plan.groups plan.col_bits in
    let below = line_below plan.groups 0 r group lt in
    in_front (line_nets plan.groups plan.col_bits) (others plan) (line_at plan.groups 0 r group) (omega (arith, long, below)) ∙ line_net plan.groups plan.col_bits r group lt

-- the rails behind those of the lines
pub other_rail : (plan : Organization) (k rail : ℕ) → rail ≡ line_count plan.groups + k → slice_get (rail_nets plan 0) rail ≡ slice_get (others plan) k
other_rail plan k rail e = let long = lines_long plan.groups plan.col_bits in behind (line_nets plan.groups plan.col_bits) (others plan) rail k (omega (arith, long, e))

-- Ports on no rail

off : (a net : Net) → Some a ≡ Some net → IsOnRail net → IsOnRail a
off a net e on = subst IsOnRail (sym (same_Some a net e)) on

none_at : {X : Type 0} (k : ℕ) (x : X) → slice_get [] k ≡ Some x → ⊥
none_at k x e = let lt = slice_get_within [] k x e in omega (arith, lt)

none_on : (k : ℕ) (net : Net) → slice_get supply_nets k ≡ Some net → IsOnRail net → ⊥
unfolding rail_mark
none_on zero net e on = let no : suc zero ≡ zero = off Vdd net e on in omega (arith, no)
none_on (suc zero) net e on = let no : suc zero ≡ zero = off Gnd net e on in omega (arith, no)
none_on (suc (suc k)) net e on = none_at k net e

-- a gate's output and supplies
pub gate_off : (r k : ℕ) (net : Net) → slice_get (Zb 0 r ∷ supply_nets) k ≡ Some net → IsOnRail net → ⊥
unfolding rail_mark
gate_off r zero net e on = let no : suc zero ≡ zero = off (Zb 0 r) net e on in omega (arith, no)
gate_off r (suc k) net e on = none_on k net e on

-- of a driver only the enable is on a rail
pub driver_port : (plan : Organization) (r k : ℕ) (net : Net) → slice_get (ports plan (DriverAt 0 r)) k ≡ Some net → IsOnRail net → k ≡ 1
unfolding rail_mark
driver_port plan r zero net e on = let no : suc zero ≡ zero = off (Zb 0 r) net e on in omega (arith, no)
driver_port plan r (suc zero) net e on = refl
driver_port plan r (suc (suc zero)) net e on = let no : suc zero ≡ zero = off (Wl 0 r) net e on in omega (arith, no)
driver_port plan r (suc (suc (suc k))) net e on = absurd (none_on k net e on)

-- of a precharge cell only the enable
pub precharge_port : (plan : Organization) (c k : ℕ) (net : Net) → slice_get (ports plan (PrechargeAt 0 c)) k ≡ Some net → IsOnRail net → k ≡ 2
unfolding rail_mark
precharge_port plan c zero net e on = let no : suc zero ≡ zero = off (Bl 0 c) net e on in omega (arith, no)
precharge_port plan c (suc zero) net e on = let no : suc zero ≡ zero = off (Br 0 c) net e on in omega (arith, no)
precharge_port plan c (suc (suc zero)) net e on = refl
precharge_port plan c (suc (suc (suc k))) net e on = absurd (none_on k net e on)

lo_off : (n i : ℕ) → IsOnRail (lo_net n 0 i) → suc zero ≡ zero
unfolding rail_mark
lo_off zero i on = on
lo_off (suc n) i on = on

ro_off : (n i : ℕ) → IsOnRail (ro_net n 0 i) → suc zero ≡ zero
unfolding rail_mark
ro_off zero i on = on
ro_off (suc n) i on = on

-- of a sense cell only the enable
pub sense_port : (plan : Organization) (i k : ℕ) (net : Net) → slice_get (ports plan (SenseAt 0 i)) k ≡ Some net → IsOnRail net → k ≡ 3
unfolding rail_mark
sense_port plan i zero net e on = let no : suc zero ≡ zero = lo_off plan.col_bits i (off (lo_net plan.col_bits 0 i) net e on) in omega (arith, no)
sense_port plan i (suc zero) net e on = let no : suc zero ≡ zero = ro_off plan.col_bits i (off (ro_net plan.col_bits 0 i) net e on) in omega (arith, no)
sense_port plan i (suc (suc zero)) net e on = let no : suc zero ≡ zero = off (Dout i) net e on in omega (arith, no)
sense_port plan i (suc (suc (suc zero))) net e on = refl
sense_port plan i (suc (suc (suc (suc k)))) net e on = absurd (none_on k net e on)
