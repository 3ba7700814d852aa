-- Where lines are cut off.
use Rattle.std.proofs.Common.{◌≡◌, ℕ, suc, ◌+◌, ◌≤◌, List, [], ◌∷◌, ◌++◌, length, take, drop, Bool, true, false, cond, not, filter, position, nat_lt, ◌==◌, Some, None, refl, sym, ap, ◌∙◌, arith}
use Rattle.std.specs.List.{position_or_len}
use Rattle.std.proofs.lemmas.List.Sums.{prefix_len-le-length}
use Rattle.std.proofs.lemmas.List.Folds.{length-prefix_len}
use Rattle.std.proofs.lemmas.Bool.{ltb-false}
use Rattle.spice_text.specs.Lines.{is_lf, with_head, pieces, without_cr, numbered_lines}
use Rattle.spice_text.specs.LogicalLines.{counts}
use Rattle.spice_text.specs.Views.{kept_line}

-- the place is no further than the end
pub place_within : (p : ℕ → Bool) (xs : List ℕ) → position_or_len p xs ≤ length xs
place_within p xs = prefix_len-le-length (λ x. not (p x)) xs

-- where nothing passes the place is the end
pub nowhere : (p : ℕ → Bool) (xs : List ℕ) → position p xs ≡ None → position_or_len p xs ≡ length xs
nowhere p xs none = by (nat_lt (position_or_len p xs) (length xs)) refl none where
  by : (b : Bool) → nat_lt (position_or_len p xs) (length xs) ≡ b → cond b (Some (position_or_len p xs)) None ≡ None → position_or_len p xs ≡ length xs
  by true is none = absurd cc
  by false is none = let far = ltb-false (position_or_len p xs) (length xs) is in let near = place_within p xs in omega (arith, far, near)

-- without the CR
pub without_last : (front : List ℕ) (b : ℕ) → without_cr (front ++ b ∷ []) ≡ cond (b == 13) front (front ++ b ∷ [])
without_last [] b = refl
without_last (a ∷ []) b = elim (b == 13) as (λ v. a ∷ cond v [] (b ∷ []) ≡ cond v (a ∷ []) (a ∷ b ∷ [])) [ true ↦ refl | false ↦ refl ]
without_last (a ∷ c ∷ front) b =
    ap (λ l. a ∷ l) (without_last (c ∷ front) b) ∙ elim (b == 13) as (λ v. a ∷ cond v (c ∷ front) (c ∷ (front ++ b ∷ [])) ≡ cond v (a ∷ c ∷ front) (a ∷ c ∷ (front ++ b ∷ []))) [ true ↦ refl | false ↦ refl ]

pub stripped : (text front : List ℕ) (b : ℕ) → text ≡ front ++ b ∷ [] → (b == 13) ≡ true → front ≡ without_cr text
stripped text front b is cr = sym (ap without_cr is ∙ without_last front b ∙ ap (λ v. cond v front (front ++ b ∷ [])) cr)

pub unstripped : (text front : List ℕ) (b : ℕ) → text ≡ front ++ b ∷ [] → (b == 13) ≡ false → text ≡ without_cr text
unstripped text front b is other = is ∙ sym (ap without_cr is ∙ without_last front b ∙ ap (λ v. cond v front (front ++ b ∷ [])) other)

-- the pieces after the first, where these bytes follow it
abbrev pub pieces_past : (ℕ → Bool) → List ℕ → List (List ℕ)
pieces_past p [] = []
pieces_past p (b ∷ bytes) = pieces p bytes

-- the first piece and the others
pub pieces_cut : (p : ℕ → Bool) (bytes : List ℕ) → pieces p bytes ≡ take (position_or_len p bytes) bytes ∷ pieces_past p (drop (position_or_len p bytes) bytes)
pieces_cut p [] = refl
pieces_cut p (b ∷ bytes) =
    let n = position_or_len p bytes in
    let more : suc n ≡ 1 + n = omega arith in
    elim (p b) as (λ v. cond v ([] ∷ pieces p bytes) (with_head b (pieces p bytes)) ≡ take (cond (not v) (1 + n) 0) (b ∷ bytes) ∷ pieces_past p (drop (cond (not v) (1 + n) 0) (b ∷ bytes))) [
      | true ↦ refl
      | false ↦ ap (with_head b) (pieces_cut p bytes) ∙ ap (λ k. take k (b ∷ bytes) ∷ pieces_past p (drop k (b ∷ bytes))) more
    ]

-- the lines, where the first is cut off before these bytes
cut : (bytes past : List ℕ) (number before n : ℕ) (text : List ℕ) → n ≡ position_or_len is_lf bytes → text ≡ without_cr (take n bytes) → drop n bytes ≡ past
    → filter counts (numbered_lines number before (pieces is_lf bytes)) ≡ kept_line (record { number = number; before = before; text = text }) (filter counts (numbered_lines (number + 1) (before + n + 1) (pieces_past is_lf past)))
cut bytes past number before n text is text_is left =
    let parts : pieces is_lf bytes ≡ take n bytes ∷ pieces_past is_lf past = pieces_cut is_lf bytes ∙ (λ i. take (sym is i) bytes ∷ pieces_past is_lf (drop (sym is i) bytes)) ∙ (λ i. take n bytes ∷ pieces_past is_lf (left i)) in
    let sized : length (take n bytes) ≡ n = ap (λ k. length (take k bytes)) is ∙ length-prefix_len (λ x. not (is_lf x)) bytes ∙ sym is in
    ap (λ ps. filter counts (numbered_lines number before ps)) parts
    ∙ (λ i. kept_line (record { number = number; before = before; text = sym text_is i }) (filter counts (numbered_lines (number + 1) (before + sized i + 1) (pieces_past is_lf past))))

pub cut_before : (bytes : List ℕ) (b : ℕ) (rest : List ℕ) (number before n : ℕ) (text : List ℕ) → n ≡ position_or_len is_lf bytes → text ≡ without_cr (take n bytes) → drop n bytes ≡ b ∷ rest
    → filter counts (numbered_lines number before (pieces is_lf bytes)) ≡ kept_line (record { number = number; before = before; text = text }) (filter counts (numbered_lines (number + 1) (before + n + 1) (pieces is_lf rest)))
cut_before bytes b rest number before n text is text_is left = cut bytes (b ∷ rest) number before n text is text_is left

-- the last line
pub cut_last : (bytes after : List ℕ) (number before n : ℕ) (text : List ℕ) → n ≡ position_or_len is_lf bytes → text ≡ without_cr (take n bytes) → drop n bytes ≡ after → after ≡ []
    → filter counts (numbered_lines number before (pieces is_lf bytes)) ≡ kept_line (record { number = number; before = before; text = text }) (filter counts (numbered_lines (number + 1) (before + n) (pieces is_lf after)))
cut_last bytes after number before n text is text_is left none =
    cut bytes [] number before n text is text_is (left ∙ none) ∙ (λ i. kept_line (record { number = number; before = before; text = text }) (filter counts (numbered_lines (number + 1) (before + n) (pieces is_lf (sym none i)))))
