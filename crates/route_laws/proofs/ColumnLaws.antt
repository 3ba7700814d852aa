-- The column channel: where no two pins of one side are too close for a word of two bits or more, none are for any word of as many words in a row.
use Rattle.std.proofs.Common.{◌≡◌, inl, inr, ℕ, zero, suc, ◌+◌, ◌*◌, ◌<◌, ◌≤◌, ℤ, pos, ◌+ℤ◌, List, [], ◌∷◌, ◌++◌, map, flat_map, refl, sym, ap, subst, ◌∙◌, arith}
use Rattle.std.proofs.lemmas.Int.{ints}
use Rattle.cell_roles.specs.declared.role.Role.{Role}
use Rattle.cell_roles.specs.declared.role.Role.TheVariants.{Bitcell, Mux, Tie, Sense}
use Rattle.tech_rules.specs.declared.tech.Wire.{Wire}
use Rattle.wire_drawing.specs.Drawing.{pitch}
use Rattle.channel_router.specs.declared.channel.ChannelPin.{ChannelPin}
use Rattle.channel_router.specs.Routed.{pin_xs, HasClosePins}
use Rattle.sram_netlist.specs.Organization.{Organization, words_per_row, columns_of, power_of_two}
use Rattle.sram_netlist.specs.InstanceList.{numbers_from, tabulate_lists}
use Rattle.macro_layout.specs.LayoutKit.{LayoutKit}
use Rattle.macro_layout.specs.Places.{bit_width}
use Rattle.port_data.specs.declared.columns.Columns.{Columns}
use Rattle.port_data.specs.declared.lines.LineEnds.{LineEnds}
use Rattle.port_data.specs.Column.{AreWideSlices, AreColumnPinsApart}
use Rattle.port_data.specs.Pins.{columns_in, column_ends, column_lines, column_choice, choice_pins, top_pins, sense_ends, sense_lines, bottom_pins, column_channel}
use Rattle.spacing_laws.proofs.CloseLaws.{HasClose, of_close, to_close, close_front}
use Rattle.spacing_laws.proofs.RepeatLaws.{IsInStep, AreInStep, block, repeats, close_both, close_repeats, wide_steps}

-- Lists

pub x_of : ChannelPin → ℤ
x_of pin = pin.x

pub xs_append : (xs ys : List ChannelPin) → pin_xs (xs ++ ys) ≡ pin_xs xs ++ pin_xs ys
xs_append [] ys = refl
xs_append (x ∷ xs) ys = ap (λ (l : List ℤ). x.x ∷ l) (xs_append xs ys)

pub xs_flat : (f : ℕ → List ChannelPin) (ns : List ℕ) → pin_xs (flat_map f ns) ≡ flat_map (λ k. pin_xs (f k)) ns
xs_flat f [] = refl
xs_flat f (n ∷ ns) = xs_append (f n) (flat_map f ns) ∙ ap (λ (l : List ℤ). pin_xs (f n) ++ l) (xs_flat f ns)

pub xs_each : (f : ℕ → ChannelPin) (ns : List ℕ) → pin_xs (map f ns) ≡ flat_map (λ k. (f k).x ∷ []) ns
xs_each f [] = refl
xs_each f (n ∷ ns) = ap (λ (l : List ℤ). (f n).x ∷ l) (xs_each f ns)

pub flat_same : (f g : ℕ → List ℤ) (ns : List ℕ) → ((k : ℕ) → f k ≡ g k) → flat_map f ns ≡ flat_map g ns
flat_same f g ns same = λ i. flat_map (λ k. same k i) ns

from_zero : (a : ℤ) (u : ℤ) → a +ℤ u ≡ (pos 0 +ℤ a) +ℤ u
from_zero a u = omega (arith, ints)

-- The top

line_xs : (columns : Columns) (ends : LineEnds) (c : ℕ) → pin_xs (column_lines columns ends c) ≡ block (pos 0) columns.width (ends.lo ∷ ends.ro ∷ []) c
line_xs columns ends c = λ i. from_zero (pos (c * columns.width)) ends.lo i ∷ from_zero (pos (c * columns.width)) ends.ro i ∷ []

abbrev choice_offsets : ℕ → LayoutKit → List ℤ
choice_offsets zero kit = []
choice_offsets (suc col_bits) kit = (kit.pin Mux 4 3).x1 ∷ []

abbrev line_offsets : LineEnds → List ℤ
line_offsets ends = ends.lo ∷ ends.ro ∷ []

nothing_repeats : (z : ℤ) (w : ℕ) (ns : List ℕ) → flat_map (block z w []) ns ≡ []
nothing_repeats z w [] = refl
nothing_repeats z w (n ∷ ns) = nothing_repeats z w ns

choice_xs : (col_bits : ℕ) (kit : LayoutKit) (columns : Columns) → pin_xs (choice_pins col_bits kit columns) ≡ repeats (pos 0) columns.width (choice_offsets col_bits kit) columns.count
choice_xs zero kit columns = sym (nothing_repeats (pos 0) columns.width (numbers_from 0 columns.count))
choice_xs (suc col_bits) kit columns =
    xs_each (column_choice columns (kit.pin Mux 4 3).x1) (numbers_from 0 columns.count)
    ∙ flat_same (λ c. (column_choice columns (kit.pin Mux 4 3).x1 c).x ∷ []) (block (pos 0) columns.width ((kit.pin Mux 4 3).x1 ∷ [])) (numbers_from 0 columns.count) (λ c. λ i. from_zero (pos (c * columns.width)) (kit.pin Mux 4 3).x1 i ∷ [])

-- of so many columns of this width
abbrev top_xs : ℕ → LayoutKit → ℕ → ℕ → List ℤ
top_xs col_bits kit w n = repeats (pos 0) w (line_offsets (column_ends col_bits kit)) n ++ repeats (pos 0) w (choice_offsets col_bits kit) n

xs_of_top : (col_bits : ℕ) (kit : LayoutKit) (columns : Columns) → pin_xs (top_pins col_bits kit columns) ≡ top_xs col_bits kit columns.width columns.count
xs_of_top col_bits kit columns =
    xs_append (tabulate_lists columns.count (column_lines columns (column_ends col_bits kit))) (choice_pins col_bits kit columns)
    ∙ (λ i. (xs_flat (column_lines columns (column_ends col_bits kit)) (numbers_from 0 columns.count)
    ∙ flat_same (λ c. pin_xs (column_lines columns (column_ends col_bits kit) c)) (block (pos 0) columns.width (line_offsets (column_ends col_bits kit))) (numbers_from 0 columns.count) (line_xs columns (column_ends col_bits kit))) i
    ++ choice_xs col_bits kit columns i)

-- The bottom

pub product_of : (a b c : ℕ) → (a * b) * c ≡ a * (b * c)
product_of zero b c = grind arith
product_of (suc a) b c = let e = product_of a b c in grind (arith, e)

bottom_block : (columns : Columns) (ends : LineEnds) (i : ℕ) → pin_xs (sense_lines columns ends i) ≡ block (pos 0) (columns.words * columns.width) (line_offsets ends) i
bottom_block columns ends k =
    let e = product_of k columns.words columns.width in
    λ i. (ap (λ (n : ℕ). pos n +ℤ ends.lo) e ∙ from_zero (pos (k * (columns.words * columns.width))) ends.lo) i
    ∷ (ap (λ (n : ℕ). pos n +ℤ ends.ro) e ∙ from_zero (pos (k * (columns.words * columns.width))) ends.ro) i ∷ []

xs_of_bottom : (kit : LayoutKit) (columns : Columns) → pin_xs (bottom_pins kit columns) ≡ repeats (pos 0) (columns.words * columns.width) (line_offsets (sense_ends kit)) columns.bits
xs_of_bottom kit columns =
    xs_flat (sense_lines columns (sense_ends kit)) (numbers_from 0 columns.bits)
    ∙ flat_same (λ k. pin_xs (sense_lines columns (sense_ends kit) k)) (block (pos 0) (columns.words * columns.width) (line_offsets (sense_ends kit))) (numbers_from 0 columns.bits) (bottom_block columns (sense_ends kit))

-- Pins begin in their cells, and what columns end in is as wide as a bitcell.
pub record HasPinsInCells (kit : LayoutKit) : Type 0 where
  pub begin : (role : Role) (port metal : ℕ) → IsInStep (kit.width role) (kit.pin role port metal).x1
  pub mux : kit.width Mux ≡ kit.width Bitcell
  pub tie : kit.width Tie ≡ kit.width Bitcell

in_wider : (v w : ℕ) (u : ℤ) → v ≤ w → IsInStep v u → IsInStep w u
in_wider v w u le is = let b = is.below in record { above = is.above; below = omega (arith, ints, le, b) }

begins : (kit : LayoutKit) (role : Role) (w port metal : ℕ) → HasPinsInCells kit → kit.width role ≡ w → IsInStep w (kit.pin role port metal).x1
begins kit role w port metal has e = in_wider (kit.width role) w (kit.pin role port metal).x1 (omega (arith, e)) (has.begin role port metal)

lines_in : (col_bits : ℕ) (kit : LayoutKit) → HasPinsInCells kit → AreInStep (bit_width kit) (line_offsets (column_ends col_bits kit))
lines_in zero kit has = (begins kit Tie (bit_width kit) 0 3 has has.tie, (begins kit Tie (bit_width kit) 1 3 has has.tie, tt))
lines_in (suc col_bits) kit has = (begins kit Mux (bit_width kit) 2 3 has has.mux, (begins kit Mux (bit_width kit) 3 3 has has.mux, tt))

choices_in : (col_bits : ℕ) (kit : LayoutKit) → HasPinsInCells kit → AreInStep (bit_width kit) (choice_offsets col_bits kit)
choices_in zero kit has = tt
choices_in (suc col_bits) kit has = (begins kit Mux (bit_width kit) 4 3 has has.mux, tt)

senses_in : (kit : LayoutKit) (w : ℕ) → HasPinsInCells kit → kit.width Sense ≤ w → AreInStep w (line_offsets (sense_ends kit))
senses_in kit w has le = (in_wider (kit.width Sense) w (kit.pin Sense 0 1).x1 le (has.begin Sense 0 1), (in_wider (kit.width Sense) w (kit.pin Sense 1 1).x1 le (has.begin Sense 1 1), tt))

pub some_power : (n : ℕ) → 0 < power_of_two n
some_power zero = omega arith
some_power (suc n) = let e = some_power n in omega (arith, e)

two_or_more : (a b : ℕ) → 2 ≤ a → 0 < b → 2 ≤ a * b
two_or_more a zero le less = absurd (omega (arith, less))
two_or_more a (suc b) le less = let e : a * suc b ≡ a + a * b = grind arith in omega (arith, e, le)

-- the tops of two counts of columns, the bottoms of two counts of bits

tops_apart : (p : ℤ) (col_bits : ℕ) (kit : LayoutKit) (n m : ℕ) → HasPinsInCells kit → 2 ≤ m → (HasClose p (top_xs col_bits kit (bit_width kit) m) → ⊥) → HasClose p (top_xs col_bits kit (bit_width kit) n) → ⊥
tops_apart p col_bits kit n m has two apart close =
    let w = bit_width kit in
    let lines = line_offsets (column_ends col_bits kit) in
    let choices = choice_offsets col_bits kit in
    let wide = wide_steps p (pos 0) w m (column_ends col_bits kit).lo ((column_ends col_bits kit).ro ∷ []) two (λ h. apart (close_front p (repeats (pos 0) w lines m) (repeats (pos 0) w choices m) h)) in
    apart (close_both p (pos 0) (pos 0) w n m lines choices two (lines_in col_bits kit has) (choices_in col_bits kit has) wide close)

bottoms_apart : (p : ℤ) (kit : LayoutKit) (w n m : ℕ) → HasPinsInCells kit → kit.width Sense ≤ w → 2 ≤ m → (HasClose p (repeats (pos 0) w (line_offsets (sense_ends kit)) m) → ⊥) → HasClose p (repeats (pos 0) w (line_offsets (sense_ends kit)) n) → ⊥
bottoms_apart p kit w n m has le two apart close =
    let wide = wide_steps p (pos 0) w m (sense_ends kit).lo ((sense_ends kit).ro ∷ []) two apart in
    apart (close_repeats p (pos 0) (pos 0) w n m (line_offsets (sense_ends kit)) two (senses_in kit w has le) wide close)

-- So where a row has as many words, and the other plan's words have two bits or more.
pub columns_apart : (plan other : Organization) (kit : LayoutKit) (wire : Wire) → HasPinsInCells kit → other.col_bits ≡ plan.col_bits → 2 ≤ other.word_size → AreWideSlices other kit → AreColumnPinsApart other kit wire → AreColumnPinsApart plan kit wire
columns_apart plan other kit wire has bits two wide apart = λ close. by close
  where
    many : 2 ≤ columns_of other
    many = two_or_more other.word_size (words_per_row other) two (some_power other.col_bits)

    top_apart : HasClose (pitch wire) (top_xs other.col_bits kit (bit_width kit) (columns_of other)) → ⊥
    top_apart h = apart (inl (to_close (pitch wire) _ (subst (HasClose (pitch wire)) (sym (xs_of_top other.col_bits kit (columns_in other kit))) h)))

    bottom_apart : HasClose (pitch wire) (repeats (pos 0) (words_per_row other * bit_width kit) (line_offsets (sense_ends kit)) other.word_size) → ⊥
    bottom_apart h = apart (inr (to_close (pitch wire) _ (subst (HasClose (pitch wire)) (sym (xs_of_bottom kit (columns_in other kit))) h)))

    by : HasClosePins (column_channel plan kit wire) wire → ⊥
    by (inl h) =
        tops_apart (pitch wire) plan.col_bits kit (columns_of plan) (columns_of other) has many (subst (λ (k : ℕ). HasClose (pitch wire) (top_xs k kit (bit_width kit) (columns_of other)) → ⊥) bits top_apart)
        (subst (HasClose (pitch wire)) (xs_of_top plan.col_bits kit (columns_in plan kit)) (of_close (pitch wire) _ h))
    by (inr h) =
        bottoms_apart (pitch wire) kit (words_per_row plan * bit_width kit) plan.word_size other.word_size has (subst (λ (k : ℕ). kit.width Sense ≤ power_of_two k * bit_width kit) bits wide.sense) two
        (subst (λ (k : ℕ). HasClose (pitch wire) (repeats (pos 0) (power_of_two k * bit_width kit) (line_offsets (sense_ends kit)) other.word_size) → ⊥) bits bottom_apart)
        (subst (HasClose (pitch wire)) (xs_of_bottom kit (columns_in plan kit)) (of_close (pitch wire) _ h))
