-- Which nets meet the channel of the formula, and where.
use Rattle.std.proofs.Common.{◌≡◌, ◌⊎◌, inl, inr, ℕ, zero, suc, ◌+◌, ◌*◌, ◌/◌, ◌%◌, ◌<◌, ℤ, pos, ◌+ℤ◌, ◌-ℤ◌, ◌*ℤ◌, [], ◌∷◌, sym, subst, arith}
use Rattle.cell_roles.specs.declared.role.Role.TheVariants.{Mux}
use Rattle.sram_netlist.specs.InstanceList.{tabulate, tabulate_lists}
use Rattle.channel_router.specs.Channel.{IsPinOf}
use Rattle.macro_layout.specs.LayoutKit.{LayoutKit}
use Rattle.port_data.specs.declared.columns.Columns.{Columns}
use Rattle.port_data.specs.declared.lines.LineEnds.{LineEnds}
use Rattle.port_data.specs.Pins.{pin_in, line_pins, column_ends, column_lines, column_choice, choice_pins, top_pins, sense_ends, sense_lines, bottom_pins, exit_at}
use Rattle.channel_router.proofs.PinListLaws.{pin_first, pin_later, pin_none, pin_cases, pin_in_both, pin_left, pin_right}
use Rattle.port_data.proofs.PinLaws.{of_lists, to_lists, of_table, to_table}

-- one of the two lines of a bit, in a cell that begins at `from`
abbrev pub IsOfLines : ℕ → LineEnds → ℕ → ℕ → ℕ → ℤ → Type 0
IsOfLines choices ends bit from net x = ((net ≡ choices + 2 * bit) × (x ≡ pos from +ℤ ends.lo)) ⊎ ((net ≡ choices + 2 * bit + 1) × (x ≡ pos from +ℤ ends.ro))

pub lines_of : (choices : ℕ) (ends : LineEnds) (bit from net : ℕ) (x : ℤ) → IsPinOf (line_pins choices ends bit from) net x → IsOfLines choices ends bit from net x
lines_of choices ends bit from net x p = elim (pin_cases (pin_in (choices + 2 * bit) from ends.lo) (pin_in (choices + 2 * bit + 1) from ends.ro ∷ []) net x p) [
  | inl lo ↦ inl (sym lo.0, sym lo.1)
  | inr later ↦ elim (pin_cases (pin_in (choices + 2 * bit + 1) from ends.ro) [] net x later) [
    | inl ro ↦ inr (sym ro.0, sym ro.1)
    | inr none ↦ absurd (pin_none net x none)
  ]
]

pub lines_there : (choices : ℕ) (ends : LineEnds) (bit from net : ℕ) (x : ℤ) → IsOfLines choices ends bit from net x → IsPinOf (line_pins choices ends bit from) net x
lines_there choices ends bit from net x (inl lo) =
    subst (λ (n : ℕ). IsPinOf (line_pins choices ends bit from) n x) (sym lo.0) (subst (IsPinOf (line_pins choices ends bit from) (choices + 2 * bit)) (sym lo.1) (pin_first (pin_in (choices + 2 * bit) from ends.lo) (pin_in (choices + 2 * bit + 1) from ends.ro ∷ [])))
lines_there choices ends bit from net x (inr ro) =
    pin_later (pin_in (choices + 2 * bit) from ends.lo) (pin_in (choices + 2 * bit + 1) from ends.ro ∷ []) net x
    (subst (λ (n : ℕ). IsPinOf (pin_in (choices + 2 * bit + 1) from ends.ro ∷ []) n x) (sym ro.0) (subst (IsPinOf (pin_in (choices + 2 * bit + 1) from ends.ro ∷ []) (choices + 2 * bit + 1)) (sym ro.1) (pin_first (pin_in (choices + 2 * bit + 1) from ends.ro) [])))

-- a line at column c
pub record IsColumnLine (bits : ℕ) (kit : LayoutKit) (columns : Columns) (net : ℕ) (x : ℤ) : Type 0 where
  pub column : ℕ
  pub below : column < columns.count
  pub is : IsOfLines columns.choices (column_ends bits kit) (column / columns.words) (column * columns.width) net x

-- the choice at column c
pub record IsColumnChoice (bits : ℕ) (kit : LayoutKit) (columns : Columns) (net : ℕ) (x : ℤ) : Type 0 where
  pub some : 0 < bits
  pub column : ℕ
  pub below : column < columns.count
  pub of_net : net ≡ column % columns.words
  pub at : x ≡ pos (column * columns.width) +ℤ (kit.pin Mux 4 3).x1

choice_of : (bits : ℕ) (kit : LayoutKit) (columns : Columns) (net : ℕ) (x : ℤ) → IsPinOf (choice_pins bits kit columns) net x → IsColumnChoice bits kit columns net x
choice_of zero kit columns net x p = absurd (pin_none net x p)
choice_of (suc n) kit columns net x p =
    let r = of_table (column_choice columns (kit.pin Mux 4 3).x1) columns.count net x p in
    record { some = omega arith; column = r.number; below = r.below; of_net = sym r.of_net; at = sym r.at }

choice_there : (bits : ℕ) (kit : LayoutKit) (columns : Columns) (net : ℕ) (x : ℤ) → IsColumnChoice bits kit columns net x → IsPinOf (choice_pins bits kit columns) net x
choice_there zero kit columns net x c = let some = c.some in absurd (omega (arith, some))
choice_there (suc n) kit columns net x c =
    let pins = tabulate columns.count (column_choice columns (kit.pin Mux 4 3).x1) in
    subst (λ (m : ℕ). IsPinOf pins m x) (sym c.of_net) (subst (IsPinOf pins (c.column % columns.words)) (sym c.at) (to_table (column_choice columns (kit.pin Mux 4 3).x1) columns.count c.column c.below))

pub top_of : (bits : ℕ) (kit : LayoutKit) (columns : Columns) (net : ℕ) (x : ℤ) → IsPinOf (top_pins bits kit columns) net x → IsColumnLine bits kit columns net x ⊎ IsColumnChoice bits kit columns net x
top_of bits kit columns net x p = elim (pin_in_both (tabulate_lists columns.count (column_lines columns (column_ends bits kit))) (choice_pins bits kit columns) net x p) [
  | inl line ↦
      let r = of_lists (column_lines columns (column_ends bits kit)) columns.count net x line in
      inl (record { column = r.number; below = r.below; is = lines_of columns.choices (column_ends bits kit) (r.number / columns.words) (r.number * columns.width) net x r.is })
  | inr choice ↦ inr (choice_of bits kit columns net x choice)
]

pub top_line : (bits : ℕ) (kit : LayoutKit) (columns : Columns) (net : ℕ) (x : ℤ) → IsColumnLine bits kit columns net x → IsPinOf (top_pins bits kit columns) net x
top_line bits kit columns net x l =
    pin_left (tabulate_lists columns.count (column_lines columns (column_ends bits kit))) (choice_pins bits kit columns) net x
    (to_lists (column_lines columns (column_ends bits kit)) columns.count l.column net x l.below (lines_there columns.choices (column_ends bits kit) (l.column / columns.words) (l.column * columns.width) net x l.is))

pub top_choice : (bits : ℕ) (kit : LayoutKit) (columns : Columns) (net : ℕ) (x : ℤ) → IsColumnChoice bits kit columns net x → IsPinOf (top_pins bits kit columns) net x
top_choice bits kit columns net x c = pin_right (tabulate_lists columns.count (column_lines columns (column_ends bits kit))) (choice_pins bits kit columns) net x (choice_there bits kit columns net x c)

-- a line at the sense cell of a bit
pub record IsSenseLine (kit : LayoutKit) (columns : Columns) (net : ℕ) (x : ℤ) : Type 0 where
  pub bit : ℕ
  pub below : bit < columns.bits
  pub is : IsOfLines columns.choices (sense_ends kit) bit ((bit * columns.words) * columns.width) net x

pub bottom_of : (kit : LayoutKit) (columns : Columns) (net : ℕ) (x : ℤ) → IsPinOf (bottom_pins kit columns) net x → IsSenseLine kit columns net x
bottom_of kit columns net x p =
    let r = of_lists (sense_lines columns (sense_ends kit)) columns.bits net x p in
    record { bit = r.number; below = r.below; is = lines_of columns.choices (sense_ends kit) r.number ((r.number * columns.words) * columns.width) net x r.is }

pub bottom_there : (kit : LayoutKit) (columns : Columns) (net : ℕ) (x : ℤ) → IsSenseLine kit columns net x → IsPinOf (bottom_pins kit columns) net x
bottom_there kit columns net x l =
    to_lists (sense_lines columns (sense_ends kit)) columns.bits l.bit net x l.below (lines_there columns.choices (sense_ends kit) l.bit ((l.bit * columns.words) * columns.width) net x l.is)

-- the exit of a choice
pub record IsChoiceExit (choices drive : ℕ) (pitch : ℤ) (net : ℕ) (x : ℤ) : Type 0 where
  pub below : net < choices
  pub at : x ≡ pos 0 -ℤ (((pos choices -ℤ pos net) *ℤ pitch) +ℤ pos drive)

pub exit_of : (choices drive : ℕ) (pitch : ℤ) (net : ℕ) (x : ℤ) → IsPinOf (tabulate choices (exit_at choices drive pitch)) net x → IsChoiceExit choices drive pitch net x
exit_of choices drive pitch net x p =
    let r = of_table (exit_at choices drive pitch) choices net x p in
    subst (λ (n : ℕ). IsChoiceExit choices drive pitch n x) r.of_net (record { below = r.below; at = sym r.at })

pub exit_there : (choices drive : ℕ) (pitch : ℤ) (net : ℕ) (x : ℤ) → IsChoiceExit choices drive pitch net x → IsPinOf (tabulate choices (exit_at choices drive pitch)) net x
exit_there choices drive pitch net x e = subst (IsPinOf (tabulate choices (exit_at choices drive pitch)) net) (sym e.at) (to_table (exit_at choices drive pitch) choices net e.below)
