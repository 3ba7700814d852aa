-- The small memories of a memory are windows.
use Rattle.std.proofs.Common.{◌≡◌, inl, inr, ◌∙◌, ℕ, zero, suc, ◌≤◌, List, [], ◌∷◌, refl, sym, ap, subst, arith}
use Rattle.std.specs.Prelude.{Contains}
use Rattle.std.specs.List.{flat_map}
use Rattle.std.proofs.lemmas.List.Elements.{Contains-append_left, Contains-append_right}
use Rattle.or_geom.proofs.ListLaws.{contains_none, contains_cases, contained_at, contains_map}
use Rattle.sram_netlist.specs.Organization.{Organization}
use Rattle.sram_plan.specs.Plan.{row_groups}
use Rattle.sram_plan.specs.PlanNumbers.{used_groups}
use Rattle.kit_check.specs.declared.window.WordSizes.{WordSizes}
use Rattle.kit_check.specs.Windows.{all_windows, plan_of, window_rows, window_words, window_banks, word_sizes, sizes_of_word, window_with, windows_of_rows, windows_of_words, windows_of_size, bits_of_count}
use Rattle.good_places.specs.Windows.{IsWindowOf, with_bits}
use Rattle.good_windows.specs.Listed.{IsPlanOfWindow, WindowsAreListed}

in_flat : {X Y : Type 0} (f : X → List Y) (xs : List X) (x : X) (y : Y) → Contains xs x → Contains (f x) y → Contains (flat_map f xs) y
in_flat f [] x y has inner = absurd (contains_none x has)
in_flat f (first ∷ xs) x y has inner = elim (contains_cases first xs x has) [
  | inl e ↦ Contains-append_left (f first) (flat_map f xs) y (subst (λ (z : _). Contains (f z) y) e inner)
  | inr later ↦ Contains-append_right (f first) (flat_map f xs) y (in_flat f xs x y later inner)
]

listed : (size : WordSizes) (wpr rows banks : ℕ) → Contains word_sizes size → Contains window_words wpr → Contains window_rows rows → Contains window_banks banks → Contains all_windows (window_with size wpr rows banks)
unfolding all_windows
listed size wpr rows banks a b c d =
    in_flat windows_of_size word_sizes size (window_with size wpr rows banks) a
    (in_flat (windows_of_words size) window_words wpr (window_with size wpr rows banks) b
    (in_flat (windows_of_rows size wpr) window_rows rows (window_with size wpr rows banks) c
    (contains_map (window_with size wpr rows) window_banks banks d)))

words_of : (c : ℕ) → c ≤ 3 → (wpr : ℕ) × Contains window_words wpr × (bits_of_count wpr ≡ c)
words_of zero few = (1, contained_at window_words 0 1 refl, refl)
words_of (suc zero) few = (2, contained_at window_words 1 2 refl, refl)
words_of (suc (suc zero)) few = (4, contained_at window_words 2 4 refl, refl)
words_of (suc (suc (suc zero))) few = (8, contained_at window_words 3 8 refl, refl)
words_of (suc (suc (suc (suc c)))) few = absurd (omega (arith, few))

banks_of_bits : (b : ℕ) → b ≤ 2 → (banks : ℕ) × Contains window_banks banks × (bits_of_count banks ≡ b)
banks_of_bits zero few = (1, contained_at window_banks 0 1 refl, refl)
banks_of_bits (suc zero) few = (2, contained_at window_banks 1 2 refl, refl)
banks_of_bits (suc (suc zero)) few = (4, contained_at window_banks 2 4 refl, refl)
banks_of_bits (suc (suc (suc b))) few = absurd (omega (arith, few))

-- the words of the memories
pub record IsSize (word write masks : ℕ) : Type 0 where
  pub listed : Contains word_sizes (sizes_of_word word write)
  pub masks_are : (plan_of (window_with (sizes_of_word word write) 1 16 1)).masks ≡ masks

pub all_at_once : (k : ℕ) → 1 ≤ k → k ≤ 4 → IsSize k k 0
all_at_once zero some few = absurd (omega (arith, some))
all_at_once (suc zero) some few = record { listed = contained_at word_sizes 0 (sizes_of_word 1 1) refl; masks_are = refl }
all_at_once (suc (suc zero)) some few = record { listed = contained_at word_sizes 2 (sizes_of_word 2 2) refl; masks_are = refl }
all_at_once (suc (suc (suc zero))) some few = record { listed = contained_at word_sizes 4 (sizes_of_word 3 3) refl; masks_are = refl }
all_at_once (suc (suc (suc (suc zero)))) some few = record { listed = contained_at word_sizes 6 (sizes_of_word 4 4) refl; masks_are = refl }
all_at_once (suc (suc (suc (suc (suc k))))) some few = absurd (omega (arith, few))

pub one_by_one : (k : ℕ) → 2 ≤ k → k ≤ 4 → IsSize k 1 k
one_by_one zero some few = absurd (omega (arith, some))
one_by_one (suc zero) some few = absurd (omega (arith, some))
one_by_one (suc (suc zero)) some few = record { listed = contained_at word_sizes 1 (sizes_of_word 2 1) refl; masks_are = refl }
one_by_one (suc (suc (suc zero))) some few = record { listed = contained_at word_sizes 3 (sizes_of_word 3 1) refl; masks_are = refl }
one_by_one (suc (suc (suc (suc zero)))) some few = record { listed = contained_at word_sizes 5 (sizes_of_word 4 1) refl; masks_are = refl }
one_by_one (suc (suc (suc (suc (suc k))))) some few = absurd (omega (arith, few))

abbrev memory : ℕ → ℕ → ℕ → ℕ → ℕ → List ℕ → Organization
memory word write masks b c g = record { word_size = word; write_size = write; masks = masks; bank_bits = b; col_bits = c; groups = g }

same_memory : (word write masks m b c bb cc : ℕ) (g gg : List ℕ) → m ≡ masks → b ≡ bb → c ≡ cc → g ≡ gg → memory word write m b c g ≡ memory word write masks bb cc gg
same_memory word write masks m b c bb cc g gg em eb ec eg =
    ap (λ (z : ℕ). memory word write z b c g) em
    ∙ (ap (λ (z : ℕ). memory word write masks z c g) eb
    ∙ (ap (λ (z : ℕ). memory word write masks bb z g) ec
    ∙ ap (λ (z : List ℕ). memory word write masks bb cc z) eg))

module _ (plan : Organization) (rows : ℕ) (row : Contains window_rows rows) (groups : plan.groups ≡ used_groups (row_groups rows)) (few : plan.col_bits ≤ 3) (small : plan.bank_bits ≤ 2) where
  pub with_size : (word write masks : ℕ) → IsSize word write masks → IsPlanOfWindow (with_bits plan word write masks)
  with_size word write masks size =
      let w = words_of plan.col_bits few in
      let b = banks_of_bits plan.bank_bits small in
      record {
        window = window_with (sizes_of_word word write) w.0 rows b.0;
        listed = listed (sizes_of_word word write) w.0 rows b.0 size.listed w.1 row b.1;
        is = same_memory word write masks _ _ _ plan.bank_bits plan.col_bits _ plan.groups size.masks_are b.2 w.2 (sym groups);
      }

  pub which : (other : Organization) → IsWindowOf plan other → IsPlanOfWindow other
  which other (inl (k, some, few, e)) = subst IsPlanOfWindow (sym e) (with_size k k 0 (all_at_once k some few))
  which other (inr e) = subst IsPlanOfWindow (sym e) (with_size 3 1 3 (one_by_one 3 (omega arith) (omega arith)))

pub windows_are_listed : WindowsAreListed
windows_are_listed plan other rows row groups few small is = which plan rows row groups few small other is
