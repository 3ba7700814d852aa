-- The exits of the column channel are the rails of the column choices.
use Rattle.std.proofs.Common.{◌≡◌, ◌⊎◌, inl, inr, ℕ, zero, suc, ◌+◌, ◌-◌, ◌<◌, ◌≤◌, ℤ, pos, ◌+ℤ◌, ◌-ℤ◌, ◌*ℤ◌, Bool, true, false, List, [], ◌∷◌, ◌++◌, map, length, Some, refl, ap, sym, ◌∙◌, arith}
use Rattle.std.specs.Prelude.{slice_get}
use Rattle.std.proofs.lemmas.Int.{ints}
use Rattle.std.proofs.lemmas.Option.{same_Some}
use Rattle.tech_rules.specs.declared.tech.Wire.{Wire}
use Rattle.wire_drawing.specs.Drawing.{pitch}
use Rattle.sram_netlist.specs.Organization.{Organization, power_of_two}
use Rattle.sram_netlist.specs.Nets.{Net, Clkb, Control, Line, WlenAt, SenAt}
use Rattle.sram_netlist.specs.Netlist.{lo_net, ro_net, wlen_at, sen_at}
use Rattle.sram_netlist.specs.InstanceList.{numbers_from, tabulate}
use Rattle.macro_layout.specs.LayoutKit.{LayoutKit}
use Rattle.macro_layout.specs.Places.{Floorplan, columns_x, drive_width}
use Rattle.macro_layout.specs.Floorplan.{line_count, choice_count, rail_count, rail_x}
use Rattle.macro_layout.specs.Channels.{Numbered}
use Rattle.macro_layout.specs.Pins.{IsRailOf, line_nets, choice_nets, rail_nets, column_nets}
use Rattle.port_data.specs.Column.{IsBankFloorplan}
use Rattle.port_data.proofs.MeetLaws.{IsChoiceExit}
use Rattle.port_data.proofs.NetLaws.{IsColumnNet, column_net, table_long, behind, choice_at, choice_numbered}

-- nets of the rails

lines_long : (groups : List ℕ) (o : ℕ) → length (line_nets groups o) ≡ line_count groups
lines_long [] o = refl
lines_long (b ∷ bs) o =
    let first = table_long (Line o b) 0 (power_of_two b) in
    let later = lines_long bs (o + b) in
    length_both (tabulate (power_of_two b) (Line o b)) (line_nets bs (o + b)) ∙ (λ i. first i + later i)
  where
    length_both : {X : Type 0} (xs ys : List X) → length (xs ++ ys) ≡ length xs + length ys
    length_both [] ys = omega arith
    length_both (x ∷ xs) ys = let more = length_both xs ys in omega (arith, more)

-- the rails behind those of the lines
abbrev others : Organization → List Net
others plan = wlen_at plan.bank_bits 0 ∷ sen_at plan.bank_bits 0 ∷ Control Clkb ∷ choice_nets plan.col_bits

-- the rail of a choice
abbrev choice_rail : Organization → ℕ → ℕ
choice_rail plan k = line_count plan.groups + suc (suc (suc k))

rail_of_choice : (plan : Organization) (k : ℕ) → k < choice_count plan.col_bits → slice_get (rail_nets plan 0) (choice_rail plan k) ≡ Some (Line 0 plan.col_bits k)
rail_of_choice plan k lt =
    let long = lines_long plan.groups plan.col_bits in
    behind (line_nets plan.groups plan.col_bits) (others plan) (choice_rail plan k) (suc (suc (suc k))) (omega (arith, long)) ∙ choice_at plan.col_bits k lt

-- an item of two lists is one of the first or of the second
split_at : {X : Type 0} (xs ys : List X) (n : ℕ) (x : X) → slice_get (xs ++ ys) n ≡ Some x → (slice_get xs n ≡ Some x) ⊎ ((i : ℕ) × (n ≡ length xs + i) × (slice_get ys i ≡ Some x))
split_at [] ys n x at = inr (n, omega arith, at)
split_at (y ∷ xs) ys zero x at = inl at
split_at (y ∷ xs) ys (suc n) x at = elim (split_at xs ys n x at) [
  | inl first ↦ inl first
  | inr later ↦ inr (later.0, (let e = later.1 in omega (arith, e)), later.2)
]

of_table : {X : Type 0} (f : ℕ → X) (k n i : ℕ) (x : X) → slice_get (map f (numbers_from k n)) i ≡ Some x → (j : ℕ) × (x ≡ f j)
of_table f k zero i x at = absurd cc
of_table f k (suc n) zero x at = (k, same_Some x (f k) (sym at))
of_table f k (suc n) (suc i) x at = of_table f (suc k) n i x at

-- the line of a group, whose bits begin behind the column bits
pub record IsRowLine (from : ℕ) (net : Net) : Type 0 where
  pub bit : ℕ
  pub behind : from ≤ bit
  pub bits : ℕ
  pub number : ℕ
  pub is : net ≡ Line bit bits number

row_line : (groups : List ℕ) (o i : ℕ) (net : Net) → slice_get (line_nets groups o) i ≡ Some net → IsRowLine o net
row_line [] o i net at = absurd cc
row_line (b ∷ bs) o i net at = elim (split_at (tabulate (power_of_two b) (Line o b)) (line_nets bs (o + b)) i net at) [
  | inl first ↦ let r = of_table (Line o b) 0 (power_of_two b) i net first in record { bit = o; behind = omega arith; bits = b; number = r.0; is = r.1 }
  | inr later ↦ let r = row_line bs (o + b) later.0 net later.2 in let le = r.behind in record { bit = r.bit; behind = omega (arith, le); bits = r.bits; number = r.number; is = r.is }
]

choice_only : (bits i k : ℕ) → slice_get (choice_nets bits) i ≡ Some (Line 0 bits k) → i ≡ k
choice_only zero i k at = absurd cc
choice_only (suc n) i k at = let same = by (power_of_two (suc n)) 0 i at in omega (arith, same)
  where
    by : (m from i : ℕ) → slice_get (map (Line 0 (suc n)) (numbers_from from m)) i ≡ Some (Line 0 (suc n) k) → from + i ≡ k
    by zero from i at = absurd cc
    by (suc m) from zero at = let same : from ≡ k = cc in omega (arith, same)
    by (suc m) from (suc i) at = let more = by m (suc from) i at in omega (arith, more)

wlen_no_choice : (bits b k : ℕ) → Some (wlen_at bits 0) ≡ Some (Line 0 b k) → ⊥
wlen_no_choice zero b k e = cc
wlen_no_choice (suc n) b k e = cc

sen_no_choice : (bits b k : ℕ) → Some (sen_at bits 0) ≡ Some (Line 0 b k) → ⊥
sen_no_choice zero b k e = cc
sen_no_choice (suc n) b k e = cc

-- a column choice has one rail
only_rail : (plan : Organization) (rail k : ℕ) → k < choice_count plan.col_bits → slice_get (rail_nets plan 0) rail ≡ Some (Line 0 plan.col_bits k) → rail ≡ choice_rail plan k
only_rail plan rail k lt at =
    let long = lines_long plan.groups plan.col_bits in
    elim (split_at (line_nets plan.groups plan.col_bits) (others plan) rail (Line 0 plan.col_bits k) at) [
      | inl row ↦
          let r = row_line plan.groups plan.col_bits rail (Line 0 plan.col_bits k) row in
          absurd (no_row plan.col_bits r.bit r.bits k r.number lt r.behind r.is)
      | inr later ↦ let e = later.1 in let same = other later.0 later.2 in omega (arith, long, e, same)
    ]
  where
    no_row : (cols bit bits k number : ℕ) → k < choice_count cols → cols ≤ bit → Line 0 cols k ≡ Line bit bits number → ⊥
    no_row zero bit bits k number lt le e = omega (arith, lt)
    no_row (suc n) bit bits k number lt le e = let none : 0 ≡ bit = cc in omega (arith, none, le)

    other : (i : ℕ) → slice_get (others plan) i ≡ Some (Line 0 plan.col_bits k) → i ≡ suc (suc (suc k))
    other zero at = absurd (wlen_no_choice plan.bank_bits plan.col_bits k at)
    other (suc zero) at = absurd (sen_no_choice plan.bank_bits plan.col_bits k at)
    other (suc (suc zero)) at = absurd cc
    other (suc (suc (suc i))) at = ap (λ (m : ℕ). suc (suc (suc m))) (choice_only plan.col_bits i k at)

-- what rails carry

abbrev is_rail : Net → Bool
is_rail (Line o b k) = true
is_rail (Control signal) = true
is_rail (WlenAt bank) = true
is_rail (SenAt bank) = true
is_rail net = false

wlen_rail : (bits : ℕ) → is_rail (wlen_at bits 0) ≡ true
wlen_rail zero = refl
wlen_rail (suc n) = refl

sen_rail : (bits : ℕ) → is_rail (sen_at bits 0) ≡ true
sen_rail zero = refl
sen_rail (suc n) = refl

choice_rails : (bits i : ℕ) (net : Net) → slice_get (choice_nets bits) i ≡ Some net → is_rail net ≡ true
choice_rails zero i net at = absurd cc
choice_rails (suc n) i net at = ap is_rail (of_table (Line 0 (suc n)) 0 (power_of_two (suc n)) i net at).1

other_rails : (plan : Organization) (i : ℕ) (net : Net) → slice_get (others plan) i ≡ Some net → is_rail net ≡ true
other_rails plan zero net at = ap is_rail (sym (same_Some (wlen_at plan.bank_bits 0) net at)) ∙ wlen_rail plan.bank_bits
other_rails plan (suc zero) net at = ap is_rail (sym (same_Some (sen_at plan.bank_bits 0) net at)) ∙ sen_rail plan.bank_bits
other_rails plan (suc (suc zero)) net at = ap is_rail (sym (same_Some (Control Clkb) net at))
other_rails plan (suc (suc (suc i))) net at = choice_rails plan.col_bits i net at

rail_nets_are : (plan : Organization) (rail : ℕ) (net : Net) → slice_get (rail_nets plan 0) rail ≡ Some net → is_rail net ≡ true
rail_nets_are plan rail net at = elim (split_at (line_nets plan.groups plan.col_bits) (others plan) rail net at) [
  | inl row ↦ ap is_rail (row_line plan.groups plan.col_bits rail net row).is
  | inr later ↦ other_rails plan later.0 net later.2
]

-- places

pitches_apart : (a b c : ℕ) (z : ℤ) → a ≡ b + c → pos a *ℤ z ≡ (pos b *ℤ z) +ℤ (pos c *ℤ z)
pitches_apart a b c z e = ap (λ (n : ℕ). pos n *ℤ z) e ∙ omega (arith, ints)

difference : (choices k : ℕ) (z : ℤ) → k < choices → (n : ℕ) × (choices ≡ k + n) × ((pos choices -ℤ pos k) *ℤ z ≡ pos n *ℤ z)
difference choices k z lt = let off : pos choices -ℤ pos k ≡ pos (choices - k) = omega (arith, ints, lt) in (choices - k, omega (arith, lt), ap (λ (d : ℤ). d *ℤ z) off)

exit_stands : (first k choices drive : ℕ) (z w x : ℤ) → k < choices → x ≡ pos 0 -ℤ (((pos choices -ℤ pos k) *ℤ z) +ℤ pos drive)
    → x +ℤ ((pos (first + (3 + choices) + 1) *ℤ z) +ℤ pos drive) ≡ (pos (first + suc (suc (suc k)) + 1) *ℤ z) +ℤ (pos 0 *ℤ w)
exit_stands first k choices drive z w x lt at =
    let d = difference choices k z lt in
    let left = d.2 in
    let count = d.1 in
    let apart = pitches_apart (first + (3 + choices) + 1) (first + suc (suc (suc k)) + 1) d.0 z (omega (arith, count)) in
    omega (arith, ints, at, left, apart)

stands_exit : (first k choices drive : ℕ) (z w x : ℤ) → k < choices → x +ℤ ((pos (first + (3 + choices) + 1) *ℤ z) +ℤ pos drive) ≡ (pos (first + suc (suc (suc k)) + 1) *ℤ z) +ℤ (pos 0 *ℤ w)
    → x ≡ pos 0 -ℤ (((pos choices -ℤ pos k) *ℤ z) +ℤ pos drive)
stands_exit first k choices drive z w x lt at =
    let d = difference choices k z lt in
    let left = d.2 in
    let count = d.1 in
    let apart = pitches_apart (first + (3 + choices) + 1) (first + suc (suc (suc k)) + 1) d.0 z (omega (arith, count)) in
    omega (arith, ints, at, left, apart)

columns_from : (plan : Organization) (kit : LayoutKit) (wire : Wire) (floorplan : Floorplan) → IsBankFloorplan plan kit wire floorplan → columns_x plan kit floorplan ≡ rail_x wire (rail_count plan) +ℤ pos (drive_width plan kit)
columns_from plan kit wire floorplan bank = ap (λ (z : ℤ). z +ℤ pos (drive_width plan kit)) bank.row_x

pub exit_meets : (plan : Organization) (kit : LayoutKit) (wire : Wire) (floorplan : Floorplan) → IsBankFloorplan plan kit wire floorplan → (number : ℕ) (x : ℤ) → IsChoiceExit (choice_count plan.col_bits) (drive_width plan kit) (pitch wire) number x
    → Numbered (column_nets plan) (IsRailOf plan wire floorplan 0) number (x +ℤ columns_x plan kit floorplan)
exit_meets plan kit wire floorplan bank number x e = (
  Line 0 plan.col_bits number,
  choice_numbered plan number e.below,
  record {
    rail = choice_rail plan number;
    on = rail_of_choice plan number e.below;
    at = ap (λ (z : ℤ). x +ℤ z) (columns_from plan kit wire floorplan bank) ∙ exit_stands (line_count plan.groups) number (choice_count plan.col_bits) (drive_width plan kit) (pitch wire) floorplan.bank_width x e.below e.at;
  },
)

rail_is_choice : (plan : Organization) (number rail : ℕ) (net : Net) → IsColumnNet plan number net → slice_get (rail_nets plan 0) rail ≡ Some net → (number < choice_count plan.col_bits) × (net ≡ Line 0 plan.col_bits number)
rail_is_choice plan number rail net (inl choice) on = (choice.below, choice.is)
rail_is_choice plan number rail net (inr (inl lo)) on = absurd (no_lo plan.col_bits lo.bit net lo.is (rail_nets_are plan rail net on))
  where
    no_lo : (bits i : ℕ) (net : Net) → net ≡ lo_net bits 0 i → is_rail net ≡ true → ⊥
    no_lo zero i net is rail = let t : true ≡ false = sym rail ∙ ap is_rail is in cc
    no_lo (suc n) i net is rail = let t : true ≡ false = sym rail ∙ ap is_rail is in cc
rail_is_choice plan number rail net (inr (inr ro)) on = absurd (no_ro plan.col_bits ro.bit net ro.is (rail_nets_are plan rail net on))
  where
    no_ro : (bits i : ℕ) (net : Net) → net ≡ ro_net bits 0 i → is_rail net ≡ true → ⊥
    no_ro zero i net is rail = let t : true ≡ false = sym rail ∙ ap is_rail is in cc
    no_ro (suc n) i net is rail = let t : true ≡ false = sym rail ∙ ap is_rail is in cc

pub meets_exit : (plan : Organization) (kit : LayoutKit) (wire : Wire) (floorplan : Floorplan) → IsBankFloorplan plan kit wire floorplan → (number : ℕ) (x : ℤ) → Numbered (column_nets plan) (IsRailOf plan wire floorplan 0) number (x +ℤ columns_x plan kit floorplan)
    → IsChoiceExit (choice_count plan.col_bits) (drive_width plan kit) (pitch wire) number x
meets_exit plan kit wire floorplan bank number x (net, at, rail) =
    let choice = rail_is_choice plan number rail.rail net (column_net plan number net at) rail.on in
    let only = only_rail plan rail.rail number choice.0 (rail.on ∙ ap (λ (n : Net). Some n) choice.1) in
    record {
      below = choice.0;
      at = stands_exit (line_count plan.groups) number (choice_count plan.col_bits) (drive_width plan kit) (pitch wire) floorplan.bank_width x choice.0
          (sym (ap (λ (z : ℤ). x +ℤ z) (columns_from plan kit wire floorplan bank)) ∙ (rail.at ∙ ap (λ (n : ℕ). rail_x wire n +ℤ (pos 0 *ℤ floorplan.bank_width)) only));
    }
