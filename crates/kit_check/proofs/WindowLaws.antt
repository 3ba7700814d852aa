-- The numbers of windows, and the lists of windows as they are made.
use Rattle.std.proofs.Common.{◌≡◌, ◌⊎◌, inl, inr, ℕ, ◌+◌, ◌*◌, ◌/◌, ◌^◌, ◌<◌, ◌≤◌, ◌==◌, cond, List, [], ◌∷◌, ◌++◌, length, map, take, get_or, Some, refl, sym, ap, subst, ◌∙◌, arith, lit<, lit≤}
use Rattle.std.specs.Prelude.{Contains, slice_get}
use Rattle.std.specs.List.{AllByRecursion, flat_map}
use Rattle.std.proofs.Math.Nat.{mul-le-mul_left}
use Rattle.std.proofs.lemmas.List.{take_more, take_all, flat_map_more}
use Rattle.std.proofs.lemmas.List.Elements.{Contains-append_cases}
use Rattle.std.proofs.lemmas.Option.{same_Some, slice_get_within, slice_get-get_or}
use Rattle.or_geom.proofs.ListLaws.{contains_none, contains_cases, contains_first, contains_later, all_contained}
use Rattle.sram_netlist.specs.Organization.{IsGroupSize, power_of_two, total_bits}
use Rattle.sram_netlist.specs.Numbers.{ArePlanNumbers}
use Rattle.sram_plan.specs.Plan.{row_groups}
use Rattle.sram_plan.specs.PlanNumbers.{numbers_of, used_groups}
use Rattle.kit_check.specs.declared.window.Window.{Window}
use Rattle.kit_check.specs.declared.window.WordSizes.{WordSizes}
use Rattle.kit_check.specs.Windows.{word_sizes, window_words, window_rows, window_banks, window_with, windows_of_rows, windows_of_words, windows_of_size, all_windows, bits_of_count, bits_of_rows, plan_of}

-- lists that grow by what each item gives

pub flat_more : {X Y : Type 0} (f : X → List Y) (xs : List X) (i : ℕ) (d : X) (start old new : List Y) → i < length xs → old ≡ start ++ flat_map f (take i xs) → new ≡ old ++ f (get_or xs i d) → new ≡ start ++ flat_map f (take (i + 1) xs)
flat_more {X} {Y} f xs i d start old new lt so_far more =
    let joined : old ++ f (get_or xs i d) ≡ (start ++ flat_map f (take i xs)) ++ f (get_or xs i d) = ap (λ (l : List Y). l ++ f (get_or xs i d)) so_far in
    let taken : start ++ flat_map f (take i xs ++ get_or xs i d ∷ []) ≡ start ++ flat_map f (take (i + 1) xs) = ap (λ (l : List X). start ++ flat_map f l) (sym (take_more xs i d lt)) in
    more ∙ (joined ∙ (flat_map_more f start (take i xs) (get_or xs i d) ∙ taken))

pub flat_more_at : {X Y : Type 0} (f : X → List Y) (xs : List X) (i : ℕ) (x : X) (start old new : List Y) → slice_get xs i ≡ Some x → old ≡ start ++ flat_map f (take i xs) → new ≡ old ++ f x → new ≡ start ++ flat_map f (take (i + 1) xs)
flat_more_at {X} {Y} f xs i x start old new there so_far more =
    let lt = slice_get_within xs i x there in
    let same : get_or xs i x ≡ x = same_Some (get_or xs i x) x (sym (slice_get-get_or xs i x lt) ∙ there) in
    flat_more f xs i x start old new lt so_far (more ∙ ap (λ (z : X). old ++ f z) (sym same))

pub flat_all : {X Y : Type 0} (f : X → List Y) (xs : List X) (i : ℕ) (list : List Y) → length xs ≤ i → list ≡ flat_map f (take i xs) → list ≡ flat_map f xs
flat_all {X} f xs i list over so_far = so_far ∙ ap (λ (l : List X). flat_map f l) (take_all i xs over)

pub windows_made : (list : List Window) → list ≡ flat_map windows_of_size word_sizes → list ≡ all_windows
unfolding all_windows
windows_made list e = e

pub windows_counted : (list : List Window) → list ≡ flat_map windows_of_size word_sizes → length list ≡ 540
windows_counted list e = ap (λ (l : List Window). length l) e

-- where an item of such a list comes from

pub from_flat_map : {X Y : Type 0} (f : X → List Y) (xs : List X) (y : Y) → Contains (flat_map f xs) y → (x : X) × Contains xs x × Contains (f x) y
from_flat_map f [] y h = absurd (contains_none y h)
from_flat_map f (x ∷ xs) y h = elim (Contains-append_cases (f x) (flat_map f xs) y h) [
  | inl here ↦ (x, contains_first x xs, here)
  | inr later ↦ let r = from_flat_map f xs y later in (r.0, contains_later x xs r.0 r.1, r.2)
]

from_map : {X Y : Type 0} (f : X → Y) (xs : List X) (y : Y) → Contains (map f xs) y → (x : X) × Contains xs x × (y ≡ f x)
from_map f [] y h = absurd (contains_none y h)
from_map f (x ∷ xs) y h = elim (contains_cases (f x) (map f xs) y h) [
  | inl here ↦ (x, contains_first x xs, here)
  | inr later ↦ let r = from_map f xs y later in (r.0, contains_later x xs r.0 r.1, r.2)
]

-- what holds of the numbers

abbrev masks_with : WordSizes → ℕ
masks_with size = cond (size.write_size == size.word_size) 0 (size.word_size / size.write_size)

record AreSizes (size : WordSizes) : Type 0 where
  some : 0 < size.word_size
  few : size.word_size ≤ 5
  written : 0 < size.write_size
  masks : (masks_with size ≡ 0) ⊎ ((0 < size.write_size) × (masks_with size * size.write_size ≡ size.word_size))

record IsWordCount (wpr : ℕ) : Type 0 where
  is : wpr ≡ 2 ^ bits_of_count wpr
  power : power_of_two (bits_of_count wpr) ≤ 8
  bits : bits_of_count wpr ≤ 3
  small : wpr ≤ 8

record IsRowCount (rows : ℕ) : Type 0 where
  is : rows ≡ 2 ^ total_bits (used_groups (row_groups rows))
  bits : bits_of_rows rows ≡ total_bits (used_groups (row_groups rows))
  sizes : AllByRecursion IsGroupSize (used_groups (row_groups rows))
  groups : (length (used_groups (row_groups rows)) ≡ 2) ⊎ (length (used_groups (row_groups rows)) ≡ 3)
  power : power_of_two (total_bits (used_groups (row_groups rows))) ≤ 256
  small : rows ≤ 256

record IsBankCount (banks : ℕ) : Type 0 where
  is : banks ≡ 2 ^ bits_of_count banks
  bits : bits_of_count banks ≤ 2
  small : banks ≤ 4

written_whole : (word write : ℕ) → 0 < word → word ≤ 5 → 0 < write → masks_with (record { word_size = word; write_size = write }) ≡ 0 → AreSizes (record { word_size = word; write_size = write })
written_whole word write some few written none = record { some = some; few = few; written = written; masks = inl none }

written_by_bits : (word write : ℕ) → 0 < word → word ≤ 5 → 0 < write → masks_with (record { word_size = word; write_size = write }) * write ≡ word → AreSizes (record { word_size = word; write_size = write })
written_by_bits word write some few written cut = record { some = some; few = few; written = written; masks = inr (written, cut) }

sizes_hold : AllByRecursion AreSizes word_sizes
sizes_hold = (
  written_whole 1 1 (lit< tt) (lit≤ tt) (lit< tt) refl,
  (
    written_by_bits 2 1 (lit< tt) (lit≤ tt) (lit< tt) refl,
    (
      written_whole 2 2 (lit< tt) (lit≤ tt) (lit< tt) refl,
      (
        written_by_bits 3 1 (lit< tt) (lit≤ tt) (lit< tt) refl,
        (
          written_whole 3 3 (lit< tt) (lit≤ tt) (lit< tt) refl,
          (
            written_by_bits 4 1 (lit< tt) (lit≤ tt) (lit< tt) refl,
            (
              written_whole 4 4 (lit< tt) (lit≤ tt) (lit< tt) refl,
              (
                written_by_bits 5 1 (lit< tt) (lit≤ tt) (lit< tt) refl,
                (written_whole 5 5 (lit< tt) (lit≤ tt) (lit< tt) refl, tt),
              ),
            ),
          ),
        ),
      ),
    ),
  ),
)

words_hold : AllByRecursion IsWordCount window_words
words_hold = (
  record { is = refl; power = lit≤ tt; bits = lit≤ tt; small = lit≤ tt },
  (
    record { is = refl; power = lit≤ tt; bits = lit≤ tt; small = lit≤ tt },
    (
      record { is = refl; power = lit≤ tt; bits = lit≤ tt; small = lit≤ tt },
      (record { is = refl; power = lit≤ tt; bits = lit≤ tt; small = lit≤ tt }, tt),
    ),
  ),
)

rows_hold : AllByRecursion IsRowCount window_rows
rows_hold = (
  record { is = refl; bits = refl; sizes = (inl refl, (inl refl, tt)); groups = inl refl; power = lit≤ tt; small = lit≤ tt },
  (
    record { is = refl; bits = refl; sizes = (inl refl, (inr refl, tt)); groups = inl refl; power = lit≤ tt; small = lit≤ tt },
    (
      record { is = refl; bits = refl; sizes = (inr refl, (inr refl, tt)); groups = inl refl; power = lit≤ tt; small = lit≤ tt },
      (
        record { is = refl; bits = refl; sizes = (inl refl, (inl refl, (inr refl, tt))); groups = inr refl; power = lit≤ tt; small = lit≤ tt },
        (record { is = refl; bits = refl; sizes = (inl refl, (inr refl, (inr refl, tt))); groups = inr refl; power = lit≤ tt; small = lit≤ tt }, tt),
      ),
    ),
  ),
)

banks_hold : AllByRecursion IsBankCount window_banks
banks_hold = (
  record { is = refl; bits = lit≤ tt; small = lit≤ tt },
  (
    record { is = refl; bits = lit≤ tt; small = lit≤ tt },
    (record { is = refl; bits = lit≤ tt; small = lit≤ tt }, tt),
  ),
)

record HasNumbers (w : Window) : Type 0 where
  size : WordSizes
  wpr : ℕ
  rows : ℕ
  banks : ℕ
  is : w ≡ window_with size wpr rows banks
  sizes : AreSizes size
  words : IsWordCount wpr
  row_count : IsRowCount rows
  bank_count : IsBankCount banks

has_numbers : (w : Window) → Contains all_windows w → HasNumbers w
unfolding all_windows
has_numbers w listed =
    let a = from_flat_map windows_of_size word_sizes w listed in
    let b = from_flat_map (windows_of_words a.0) window_words w a.2 in
    let c = from_flat_map (windows_of_rows a.0 b.0) window_rows w b.2 in
    let d = from_map (window_with a.0 b.0 c.0) window_banks w c.2 in
    record {
      size = a.0;
      wpr = b.0;
      rows = c.0;
      banks = d.0;
      is = d.2;
      sizes = all_contained AreSizes word_sizes a.0 sizes_hold a.1;
      words = all_contained IsWordCount window_words b.0 words_hold b.1;
      row_count = all_contained IsRowCount window_rows c.0 rows_hold c.1;
      bank_count = all_contained IsBankCount window_banks d.0 banks_hold d.1;
    }

-- a window's numbers are small
pub record AreSmall (w : Window) : Type 0 where
  pub written : 0 < w.write_size
  pub cells : w.rows * w.wpr ≤ 2048
  pub words : w.banks * (w.rows * w.wpr) ≤ 8192
  pub columns : w.word_size * w.wpr ≤ 40

small_with : (size : WordSizes) (wpr rows banks : ℕ) → AreSizes size → IsWordCount wpr → IsRowCount rows → IsBankCount banks → AreSmall (window_with size wpr rows banks)
small_with size wpr rows banks s w r b =
    let row_words : rows * wpr ≤ rows * 8 = mul-le-mul_left rows w.small in
    let few_rows = r.small in
    let cells : rows * wpr ≤ 2048 = omega (arith, row_words, few_rows) in
    let bank_words : banks * (rows * wpr) ≤ banks * 2048 = mul-le-mul_left banks cells in
    let few_banks = b.small in
    let bits : size.word_size * wpr ≤ size.word_size * 8 = mul-le-mul_left size.word_size w.small in
    let few_bits = s.few in
    record { written = s.written; cells = cells; words = omega (arith, bank_words, few_banks); columns = omega (arith, bits, few_bits) }

pub are_small : (w : Window) → Contains all_windows w → AreSmall w
are_small w listed =
    let n = has_numbers w listed in
    subst AreSmall (sym n.is) (small_with n.size n.wpr n.rows n.banks n.sizes n.words n.row_count n.bank_count)

planned_with : (size : WordSizes) (wpr rows banks : ℕ) → AreSizes size → IsWordCount wpr → IsRowCount rows → IsBankCount banks → ArePlanNumbers (numbers_of (plan_of (window_with size wpr rows banks)))
planned_with size wpr rows banks s w r b =
    let bits : size.word_size * power_of_two (bits_of_count wpr) ≤ size.word_size * 8 = mul-le-mul_left size.word_size w.power in
    let few_bits = s.few in
    record {
      plan = record {
        words = s.some;
        rows = r.power;
        columns = omega (arith, bits, few_bits);
        banks = b.bits;
        choices = w.bits;
        sizes = r.sizes;
        groups = r.groups;
        masks = s.masks;
      };
      rows = r.is;
      wpr = w.is;
      banks = b.is;
      columns = refl;
      addr_bits = ap (λ (k : ℕ). bits_of_count wpr + k + bits_of_count banks) r.bits;
      words = refl;
    }

-- the numbers of a window's plan are those of a plan
pub are_planned : (w : Window) → Contains all_windows w → ArePlanNumbers (numbers_of (plan_of w))
are_planned w listed =
    let n = has_numbers w listed in
    let P : Window → Type 0 = λ v. ArePlanNumbers (numbers_of (plan_of v)) in
    subst P (sym n.is) (planned_with n.size n.wpr n.rows n.banks n.sizes n.words n.row_count n.bank_count)
