-- Where words are cut off.
use Rattle.std.proofs.Common.{◌≡◌, ℕ, suc, ◌+◌, List, [], ◌∷◌, ◌++◌, take, drop, Bool, true, false, cond, not, filter, refl, sym, ap, ◌∙◌, arith}
use Rattle.std.specs.List.{position_or_len}
use Rattle.std.proofs.lemmas.List.{append_assoc}
use Rattle.spice_text.specs.Lines.{pieces, with_head}
use Rattle.spice_text.specs.LogicalLines.{is_blank}
use Rattle.spice_text.specs.Words.{is_nonempty, words_of}
use Rattle.spice_text.proofs.LineLaws.{pieces_past, pieces_cut}

-- the pieces past the first are the words of what follows
after_word : (text : List ℕ) → filter is_nonempty (pieces_past is_blank (drop (position_or_len is_blank text) text)) ≡ words_of (drop (position_or_len is_blank text) text)
after_word [] = refl
after_word (c ∷ text) = at (is_blank c) refl (after_word text) where
  at : (v : Bool) → is_blank c ≡ v → filter is_nonempty (pieces_past is_blank (drop (position_or_len is_blank text) text)) ≡ words_of (drop (position_or_len is_blank text) text)
      → filter is_nonempty (pieces_past is_blank (drop (cond (not v) (1 + position_or_len is_blank text) 0) (c ∷ text))) ≡ words_of (drop (cond (not v) (1 + position_or_len is_blank text) 0) (c ∷ text))
  at true e h = sym (ap (λ v. filter is_nonempty (cond v ([] ∷ pieces is_blank text) (with_head c (pieces is_blank text)))) e)
  at false e h =
      let more : suc (position_or_len is_blank text) ≡ 1 + position_or_len is_blank text = omega arith in
      ap (λ k. filter is_nonempty (pieces_past is_blank (drop k (c ∷ text)))) (sym more) ∙ h ∙ ap (λ k. words_of (drop k (c ∷ text))) more

cut_word : (b : ℕ) (others : List ℕ) → is_blank b ≡ false
    → words_of (b ∷ others) ≡ take (position_or_len is_blank (b ∷ others)) (b ∷ others) ∷ words_of (drop (position_or_len is_blank (b ∷ others)) (b ∷ others))
cut_word b others is = at (is_blank b) is where
  at : (v : Bool) → v ≡ false
      → filter is_nonempty (cond v ([] ∷ pieces is_blank others) (with_head b (pieces is_blank others))) ≡ take (cond (not v) (1 + position_or_len is_blank others) 0) (b ∷ others) ∷ words_of (drop (cond (not v) (1 + position_or_len is_blank others) 0) (b ∷ others))
  at true is = absurd cc
  at false is =
      let n = position_or_len is_blank others in
      let more : suc n ≡ 1 + n = omega arith in
      ap (λ (ps : List (List ℕ)). filter is_nonempty (with_head b ps)) (pieces_cut is_blank others) ∙ ap (λ (ws : List (List ℕ)). (b ∷ take n others) ∷ ws) (after_word others)
      ∙ ap (λ k. take k (b ∷ others) ∷ words_of (drop k (b ∷ others))) more

-- the first word and the others
pub first_word : (text others word after : List ℕ) (b n : ℕ) → text ≡ b ∷ others → is_blank b ≡ false → n ≡ position_or_len is_blank text → word ≡ take n text → after ≡ drop n text → words_of text ≡ word ∷ words_of after
first_word text others word after b n e is place front back =
    ap words_of e ∙ cut_word b others is ∙ (λ i. take (position_or_len is_blank (sym e i)) (sym e i) ∷ words_of (drop (position_or_len is_blank (sym e i)) (sym e i)))
    ∙ (λ i. take (sym place i) text ∷ words_of (drop (sym place i) text)) ∙ (λ i. sym front i ∷ words_of (sym back i))

-- a word more among those that were found
pub one_found : (found words rest : List (List ℕ)) (word : List ℕ) → words ≡ word ∷ rest → (found ++ word ∷ []) ++ rest ≡ found ++ words
one_found found words rest word e = append_assoc found (word ∷ []) rest ∙ ap (λ (ws : List (List ℕ)). found ++ ws) (sym e)
