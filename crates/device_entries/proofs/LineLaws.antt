-- The M lines among the first lines.
use Rattle.std.proofs.Common.{◌≡◌, ◌≢◌, inl, inr, ℕ, ◌+◌, ◌<◌, Bool, true, false, cond, List, [], ◌∷◌, ◌++◌, length, get_or, take, Option, None, Some, IsTrue, sym, ap, subst, ◌∙◌, append-nil, filter}
use Rattle.std.specs.Prelude.{Contains, filter_map}
use Rattle.std.proofs.lemmas.List.{take_more}
use Rattle.std.proofs.lemmas.List.Elements.{filter-append, filter_map-append, Contains-append_cases}
use Rattle.or_geom.proofs.ListLaws.{contains_cases, contains_none}
use Rattle.device_entries.specs.declared.entry.DeviceEntry.{DeviceEntry}
use Rattle.device_entries.specs.Lines.{is_device_line, entry_in_line, IsGoodLine, AreLineEntries}

abbrev found_in : List (List ℕ) → List DeviceEntry
found_in lines = filter_map entry_in_line (filter is_device_line lines)

found_apart : (lines more : List (List ℕ)) → found_in (lines ++ more) ≡ found_in lines ++ found_in more
found_apart lines more =
    ap (λ (l : List (List ℕ)). filter_map entry_in_line l) (filter-append is_device_line lines more) ∙ filter_map-append entry_in_line (filter is_device_line lines) (filter is_device_line more)

found_none : (line : List ℕ) → is_device_line line ≡ false → found_in (line ∷ []) ≡ []
found_none line other = ap (λ (b : Bool). filter_map entry_in_line (cond b (line ∷ []) [])) other

found_one : (line : List ℕ) (entry : DeviceEntry) → is_device_line line ≡ true → entry_in_line line ≡ Some entry → found_in (line ∷ []) ≡ entry ∷ []
found_one line entry begins whole =
    let alone : found_in (line ∷ []) ≡ filter_map entry_in_line (line ∷ []) = ap (λ (b : Bool). filter_map entry_in_line (cond b (line ∷ []) [])) begins in
    alone ∙ ap (λ (o : Option DeviceEntry). filter_map (λ (l : List ℕ). o) (line ∷ [])) whole

good_with : (lines : List (List ℕ)) (line : List ℕ) → ((l : List ℕ) → Contains lines l → IsGoodLine l) → IsGoodLine line → (l : List ℕ) → Contains (lines ++ line ∷ []) l → IsGoodLine l
good_with lines line good last l there = elim (Contains-append_cases lines (line ∷ []) l there) [
  | inl before ↦ good l before
  | inr here ↦ elim (contains_cases line [] l here) [
    | inl same ↦ subst IsGoodLine (sym same) last
    | inr none ↦ absurd (contains_none l none)
  ]
]

more_lines : (lines : List (List ℕ)) (k : ℕ) (line : List ℕ) → k < length lines → line ≡ get_or lines k line → take k lines ++ line ∷ [] ≡ take (k + 1) lines
more_lines lines k line inside is = ap (λ (l : List ℕ). take k lines ++ l ∷ []) is ∙ sym (take_more lines k line inside)

never_both : (b : Bool) → b ≡ false → IsTrue b → ⊥
never_both b is holds = cc

-- one line more that is no M line
pub other_more : (lines : List (List ℕ)) (entries : List DeviceEntry) (k : ℕ) (line : List ℕ) → k < length lines → line ≡ get_or lines k line → is_device_line line ≡ false → AreLineEntries (take k lines) entries
    → AreLineEntries (take (k + 1) lines) entries
other_more lines entries k line inside is other so_far =
    let last : IsGoodLine line = λ begins. absurd (never_both (is_device_line line) other begins) in
    subst (λ (l : List (List ℕ)). AreLineEntries l entries) (more_lines lines k line inside is) (record {
      good = good_with (take k lines) line so_far.good last;
      are = so_far.are ∙ sym (found_apart (take k lines) (line ∷ []) ∙ ap (λ (l : List DeviceEntry). found_in (take k lines) ++ l) (found_none line other) ∙ append-nil (found_in (take k lines)));
    })

some_is_not_none : (o : Option DeviceEntry) (entry : DeviceEntry) → o ≡ Some entry → o ≢ None
some_is_not_none o entry some = λ none. absurd cc

-- one M line more
pub whole_more : (lines : List (List ℕ)) (entries : List DeviceEntry) (k : ℕ) (line : List ℕ) (entry : DeviceEntry) → k < length lines → line ≡ get_or lines k line → is_device_line line ≡ true → entry_in_line line ≡ Some entry
    → AreLineEntries (take k lines) entries → AreLineEntries (take (k + 1) lines) (entries ++ entry ∷ [])
whole_more lines entries k line entry inside is begins whole so_far =
    let last : IsGoodLine line = λ begins. some_is_not_none (entry_in_line line) entry whole in
    subst (λ (l : List (List ℕ)). AreLineEntries l (entries ++ entry ∷ [])) (more_lines lines k line inside is) (record {
      good = good_with (take k lines) line so_far.good last;
      are = ap (λ (l : List DeviceEntry). l ++ entry ∷ []) so_far.are ∙ sym (found_apart (take k lines) (line ∷ []) ∙ ap (λ (l : List DeviceEntry). found_in (take k lines) ++ l) (found_one line entry begins whole));
    })
