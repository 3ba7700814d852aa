-- What stands under keys is never refused for want of memory.
use Rattle.std.proofs.Common.{◌≡◌, ◌≢◌, ℕ, ℤ, List, [], ◌∷◌, ◌++◌, Bool, true, false, cond, Option, Some, None, Result, Ok, Err, refl, sym, ap}
use Rattle.std.proofs.Common.{◌∙◌}
use Rattle.std.specs.Option.{ok_or}
use Rattle.toml.specs.Data.{Data, as_integer, as_str, get}
use Rattle.toml_keys.specs.Fault.{◌>>=◌, in_turn}
use Rattle.toml_keys.specs.Keys.{Section, array_of, array_under, as_list, counted, has_key, in_range, is_table, key_in, kind_under, missing}
use Rattle.toml_keys.specs.Keys.{number_under, optional, optional_tables, out_of_range, section_at, section_under, tables_under, text_in, text_under}
use Rattle.toml_keys.specs.Keys.{texts_under, value_under, wrong_kind}

-- a step doesn't end in this fault
abbrev pub Lasts : {F X : Type 0} → F → Result X F → Type 0
Lasts memory result = result ≡ Err memory → ⊥

pub ok_lasts : {F X : Type 0} (memory : F) (x : X) → Lasts memory (Ok x)
ok_lasts memory x e = absurd (cc)

pub err_lasts : {F : Type 0} (X : Type 0) (memory fault : F) → fault ≢ memory → ◌≡◌ {A = Result X F} (Err fault) (Err memory) → ⊥
err_lasts X memory fault other e = let same : fault ≡ memory = cc in other same

pub then_lasts : {F A B : Type 0} (memory : F) (r : Result A F) (f : A → Result B F) → Lasts memory r → ((x : A) → r ≡ Ok x → Lasts memory (f x))
    → Lasts memory (r >>= f)
then_lasts memory (Ok x) f lasts each = each x refl
then_lasts {F} {A} memory (Err g) f lasts each = λ e. let same : g ≡ memory = cc in lasts (ap (λ (h : F). Err h) same)

pub if_lasts : {F X : Type 0} (memory : F) (test : Bool) (a b : Result X F) → Lasts memory a → Lasts memory b → Lasts memory (cond test a b)
if_lasts memory true a b by_a by_b = by_a
if_lasts memory false a b by_a by_b = by_b

pub or_lasts : {F X : Type 0} (memory : F) (o : Option X) (fault : F) → fault ≢ memory → Lasts memory (ok_or o fault)
or_lasts memory (Some x) fault other = λ e. absurd (cc)
or_lasts {F} {X} memory None fault other = err_lasts X memory fault other

pub turns_last : {F A B : Type 0} (memory : F) (step : List B → A → Result B F) (before : List B) (xs : List A)
    → ((some : List B) (x : A) → Lasts memory (step some x)) → Lasts memory (in_turn step before xs)
unfolding in_turn
turns_last memory step before [] each = λ e. absurd (cc)
turns_last memory step before (x ∷ xs) each =
    then_lasts memory (step before x) (λ y. in_turn step (before ++ y ∷ []) xs) (each before x)
    (λ y made. turns_last memory step (before ++ y ∷ []) xs each)

-- none of the faults of keys is this one
pub record HasOthers {F : Type 0} (memory : F) (s : Section F) : Type 0 where
  pub missing : (key : List ℕ) → s.faults.missing key ≢ memory
  pub wrong_kind : (key : List ℕ) → s.faults.wrong_kind key ≢ memory
  pub out_of_range : (key : List ℕ) → s.faults.out_of_range key ≢ memory

-- the faults of a table are those of the document
pub as_others : {F : Type 0} (memory : F) (s t : Section F) → t.faults ≡ s.faults → HasOthers memory s → HasOthers memory t
as_others memory s t same o = record {
  missing = λ key e. o.missing key (ap (λ f. f.missing key) (sym same) ∙ e);
  wrong_kind = λ key e. o.wrong_kind key (ap (λ f. f.wrong_kind key) (sym same) ∙ e);
  out_of_range = λ key e. o.out_of_range key (ap (λ f. f.out_of_range key) (sym same) ∙ e);
}

module _ {F : Type 0} (memory : F) (s : Section F) (o : HasOthers memory s) where
  pub value_lasts : (key : List ℕ) → Lasts memory (value_under s key)
  value_lasts key = or_lasts memory (get key s.table) (missing s key) (o.missing (key_in s key))

  pub kind_lasts : {X : Type 0} (kind : Data → Option X) (key : List ℕ) → Lasts memory (kind_under kind s key)
  kind_lasts kind key =
      then_lasts memory (value_under s key) (λ d. ok_or (kind d) (wrong_kind s key)) (value_lasts key)
      (λ d made. or_lasts memory (kind d) (wrong_kind s key) (o.wrong_kind (key_in s key)))

  pub text_lasts : (key : List ℕ) → Lasts memory (text_under s key)
  text_lasts key = kind_lasts as_str key

  pub number_lasts : (low high : ℤ) (key : List ℕ) → Lasts memory (number_under low high s key)
  number_lasts low high key =
      then_lasts memory (kind_under as_integer s key) (λ z. ok_or (in_range low high z) (out_of_range s key)) (kind_lasts as_integer key)
      (λ z made. or_lasts memory (in_range low high z) (out_of_range s key) (o.out_of_range (key_in s key)))

  pub range_lasts : (X : Type 0) (key : List ℕ) → ◌≡◌ {A = Result X F} (Err (out_of_range s key)) (Err memory) → ⊥
  range_lasts X key = err_lasts X memory (out_of_range s key) (o.out_of_range (key_in s key))

  pub kind_fault_lasts : (X : Type 0) (key : List ℕ) → ◌≡◌ {A = Result X F} (Err (wrong_kind s key)) (Err memory) → ⊥
  kind_fault_lasts X key = err_lasts X memory (wrong_kind s key) (o.wrong_kind (key_in s key))

  pub array_lasts : (key : List ℕ) → Lasts memory (array_under s key)
  array_lasts key = kind_lasts as_list key

  pub array_of_lasts : (is_kind : Data → Bool) (key : List ℕ) → Lasts memory (array_of is_kind s key)
  array_of_lasts is_kind key =
      then_lasts memory (array_under s key) _ (array_lasts key)
      (λ ds made. if_lasts memory _ _ _ (ok_lasts memory ds) (kind_fault_lasts (List Data) key))

  pub texts_last : (key : List ℕ) → Lasts memory (texts_under s key)
  texts_last key =
      then_lasts memory (array_under s key) (in_turn (λ _ d. text_in s key d) []) (array_lasts key)
      (λ ds made. turns_last memory (λ _ d. text_in s key d) [] ds
      (λ some d. or_lasts memory (as_str d) (wrong_kind s key) (o.wrong_kind (key_in s key))))

  pub counted_lasts : {X : Type 0} (low high : ℕ) (key : List ℕ) (xs : List X) → Lasts memory (counted low high s key xs)
  counted_lasts {X} low high key xs = if_lasts memory _ _ _ (ok_lasts memory xs) (range_lasts (List X) key)

  pub tables_last : (low high : ℕ) (key : List ℕ) → Lasts memory (tables_under low high s key)
  tables_last low high key =
      then_lasts memory (array_of is_table s key) (counted low high s key) (array_of_lasts is_table key) (λ ds made. counted_lasts low high key ds)

  pub optional_tables_last : (high : ℕ) (key : List ℕ) → Lasts memory (optional_tables high s key)
  optional_tables_last high key = if_lasts memory (has_key s key) _ _ (tables_last 0 high key) (ok_lasts memory [])

  pub optional_lasts : {X : Type 0} (under : Section F → List ℕ → Result X F) (key : List ℕ) → Lasts memory (under s key)
      → Lasts memory (optional under s key)
  optional_lasts under key lasts =
      if_lasts memory (has_key s key) _ _ (then_lasts memory (under s key) (λ x. Ok (Some x)) lasts (λ x made. ok_lasts memory (Some x)))
      (ok_lasts memory None)

  pub section_lasts : (key : List ℕ) → Lasts memory (section_under s key)
  section_lasts key =
      then_lasts memory (value_under s key) _ (value_lasts key)
      (λ d made. if_lasts memory (is_table d) _ _ (ok_lasts memory (section_at s key d)) (kind_fault_lasts (Section F) key))

  by_table : (key : List ℕ) (test : Bool) (d : Data) (t : Section F) → cond test (Ok (section_at s key d)) (Err (wrong_kind s key)) ≡ Ok t
      → t.faults ≡ s.faults
  by_table key true d t made = let same : section_at s key d ≡ t = cc in ap (λ (u : Section F). u.faults) (sym same)
  by_table key false d t made = absurd (cc)

  pub section_others : (key : List ℕ) (t : Section F) → section_under s key ≡ Ok t → HasOthers memory t
  section_others key t made = by_value (value_under s key) made
    where
      by_value : (v : Result Data F) → (v >>= λ d. cond (is_table d) (Ok (section_at s key d)) (Err (wrong_kind s key))) ≡ Ok t → HasOthers memory t
      by_value (Ok d) e = as_others memory s t (by_table key (is_table d) d t e) o
      by_value (Err f) e = absurd (cc)
