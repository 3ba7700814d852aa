-- The words of a text that is read.
use Rattle.std.proofs.Common.{◌≡◌, ◌⊎◌, inl, inr, ℕ, ◌+◌, ◌≤◌, List, [], ◌∷◌, ◌++◌, length, drop, Bool, true, false, cond, ◌&&◌, ◌||◌, ◌==◌, nat_le, nat_lt, filter, map, refl, sym, subst, arith}
use Rattle.std.specs.List.{AllByRecursion}
use Rattle.std.specs.Char.{to_ascii_lowercase}
use Rattle.std.proofs.lemmas.Bool.{eqb-true, leb-true}
use Rattle.std.proofs.lemmas.Str.Ascii.{lowercase-lowercase}
use borrow.Author.Tests.{ltb-true}
use Rattle.std.proofs.lemmas.Bool.{ltb-false}
use Rattle.spice_text.specs.Lines.{TextLine, is_lf, with_head, pieces, without_cr, numbered_lines, lines_of}
use Rattle.spice_text.specs.LogicalLines.{is_blank, counts, continues, joined, put_before, join, logical_lines}
use Rattle.spice_text.specs.Words.{is_nonempty, words_of, lower, is_assignment, before_assignment}
use Rattle.spice_text.specs.Deck.{is_text_byte}
use Rattle.spice_text.proofs.WrittenWords.{all_of, all_mapped}
use Rattle.spice_text.proofs.WrittenBytes.{IsPlainText}

-- a byte of a line: 20 to 7E, tab or CR
abbrev pub IsLineByte : ℕ → Type 0
IsLineByte b = ((32 ≤ b) × (b ≤ 126)) ⊎ ((b ≡ 9) ⊎ (b ≡ 13))

line_byte : (b : ℕ) → is_text_byte b ≡ true → is_lf b ≡ false → IsLineByte b
line_byte b text off = at (nat_le 32 b) (nat_le b 126) (b == 9) (b == 10) (b == 13) refl refl refl refl refl text off where
  at : (v w x y z : Bool) → nat_le 32 b ≡ v → nat_le b 126 ≡ w → (b == 9) ≡ x → (b == 10) ≡ y → (b == 13) ≡ z → ((v && w) || (x || (y || z))) ≡ true → y ≡ false → IsLineByte b
  at true true x y z e f g h i is off = inl (leb-true 32 b e, leb-true b 126 f)
  at true false true y z e f g h i is off = inr (inl (eqb-true b 9 g))
  at true false false true z e f g h i is off = absurd cc
  at true false false false true e f g h i is off = inr (inr (eqb-true b 13 i))
  at true false false false false e f g h i is off = absurd cc
  at false w true y z e f g h i is off = inr (inl (eqb-true b 9 g))
  at false w false true z e f g h i is off = absurd cc
  at false w false false true e f g h i is off = inr (inr (eqb-true b 13 i))
  at false w false false false e f g h i is off = absurd cc

-- pieces hold the bytes that stood there, and none that separates
abbrev IsPieceByte : (ℕ → Type 0) → (ℕ → Bool) → ℕ → Type 0
IsPieceByte P separates b = P b × (separates b ≡ false)

head_holds : (Q : ℕ → Type 0) (b : ℕ) (ps : List (List ℕ)) → Q b → AllByRecursion (AllByRecursion Q) ps → AllByRecursion (AllByRecursion Q) (with_head b ps)
head_holds Q b [] h all = tt
head_holds Q b (p ∷ ps) h all = ((h, all.0), all.1)

pieces_hold : (P : ℕ → Type 0) (separates : ℕ → Bool) (bytes : List ℕ) → AllByRecursion P bytes → AllByRecursion (AllByRecursion (IsPieceByte P separates)) (pieces separates bytes)
pieces_hold P separates [] all = (tt, tt)
pieces_hold P separates (b ∷ bytes) all = at (separates b) refl (pieces_hold P separates bytes all.1) where
  at : (v : Bool) → separates b ≡ v → AllByRecursion (AllByRecursion (IsPieceByte P separates)) (pieces separates bytes)
      → AllByRecursion (AllByRecursion (IsPieceByte P separates)) (cond v ([] ∷ pieces separates bytes) (with_head b (pieces separates bytes)))
  at true e h = (tt, h)
  at false e h = head_holds (IsPieceByte P separates) b (pieces separates bytes) (all.0, e) h

without_cr_holds : (Q : ℕ → Type 0) (text : List ℕ) → AllByRecursion Q text → AllByRecursion Q (without_cr text)
without_cr_holds Q [] all = tt
without_cr_holds Q (b ∷ []) all = at (b == 13) where
  at : (v : Bool) → AllByRecursion Q (cond v [] (b ∷ []))
  at true = tt
  at false = all
without_cr_holds Q (b ∷ c ∷ text) all = (all.0, without_cr_holds Q (c ∷ text) all.1)

-- a line whose bytes are those of lines
abbrev pub IsLineText : List ℕ → Type 0
IsLineText text = AllByRecursion IsLineByte text

abbrev pub IsReadLine : TextLine → Type 0
IsReadLine line = IsLineText line.text

numbered_read : (n k : ℕ) (ps : List (List ℕ)) → AllByRecursion IsLineText ps → AllByRecursion IsReadLine (numbered_lines n k ps)
numbered_read n k [] all = tt
numbered_read n k (p ∷ ps) all = (without_cr_holds IsLineByte p all.0, numbered_read (n + 1) (k + length p + 1) ps all.1)

filter_holds : {X : Type 0} (P : X → Type 0) (p : X → Bool) (xs : List X) → AllByRecursion P xs → AllByRecursion P (filter p xs)
filter_holds P p [] all = tt
filter_holds P p (x ∷ xs) all = at (p x) (filter_holds P p xs all.1) where
  at : (v : Bool) → AllByRecursion P (filter p xs) → AllByRecursion P (cond v (x ∷ filter p xs) (filter p xs))
  at true h = (all.0, h)
  at false h = h

both_hold : (Q : ℕ → Type 0) (xs ys : List ℕ) → AllByRecursion Q xs → AllByRecursion Q ys → AllByRecursion Q (xs ++ ys)
both_hold Q [] ys f g = g
both_hold Q (x ∷ xs) ys f g = (f.0, both_hold Q xs ys f.1 g)

rest_holds : (Q : ℕ → Type 0) (text : List ℕ) → AllByRecursion Q text → AllByRecursion Q (drop 1 text)
rest_holds Q [] all = tt
rest_holds Q (b ∷ text) all = all.1

put_read : (line : TextLine) (lines : List TextLine) → IsReadLine line → AllByRecursion IsReadLine lines → AllByRecursion IsReadLine (put_before line lines)
put_read line [] h all = (h, tt)
put_read line (more ∷ lines) h all = at (continues more) where
  at : (v : Bool) → AllByRecursion IsReadLine (cond v (joined line more ∷ lines) (line ∷ more ∷ lines))
  at true = (both_hold IsLineByte line.text (32 ∷ drop 1 more.text) h (inl (omega arith, omega arith), rest_holds IsLineByte more.text all.0), all.1)
  at false = (h, all)

join_read : (lines : List TextLine) → AllByRecursion IsReadLine lines → AllByRecursion IsReadLine (join lines)
join_read [] all = tt
join_read (line ∷ lines) all = put_read line (join lines) all.0 (join_read lines all.1)

-- the lines of a text hold bytes of lines
pub lines_read : (bytes : List ℕ) → IsPlainText bytes → AllByRecursion IsReadLine (logical_lines (lines_of bytes))
lines_read bytes plain =
    let own = pieces_hold (λ b. is_text_byte b ≡ true) is_lf bytes plain in
    let texts = all_of (AllByRecursion (IsPieceByte (λ b. is_text_byte b ≡ true) is_lf)) IsLineText (λ piece. all_of (IsPieceByte (λ b. is_text_byte b ≡ true) is_lf) IsLineByte (λ b h. line_byte b h.0 h.1) piece) (pieces is_lf bytes) own in
    join_read (filter counts (lines_of bytes)) (filter_holds IsReadLine counts (lines_of bytes) (numbered_read 1 0 (pieces is_lf bytes) texts))

-- a byte of a line in lower case
abbrev IsLowByte : ℕ → Type 0
IsLowByte b = IsLineByte b × (to_ascii_lowercase b ≡ b)

low_byte : (b : ℕ) → IsLineByte b → IsLowByte (to_ascii_lowercase b)
low_byte b h = (at h, lowercase-lowercase b) where
  within : (v : Bool) → nat_lt b 91 ≡ v → 65 ≤ b → (32 ≤ b) × (b ≤ 126) → IsLineByte (cond v (b + 32) b)
  within true is up h = let low = ltb-true b 91 is in inl (omega arith, omega arith)
  within false is up h = inl h

  under : (v : Bool) → nat_lt b 65 ≡ v → (32 ≤ b) × (b ≤ 126) → IsLineByte (cond v b (cond (nat_lt b 91) (b + 32) b))
  under true is h = inl h
  under false is h = within (nat_lt b 91) refl (ltb-false b 65 is) h

  at : IsLineByte b → IsLineByte (to_ascii_lowercase b)
  at (inl h) = under (nat_lt b 65) refl h
  at (inr (inl e)) = subst (λ c. IsLineByte (to_ascii_lowercase c)) (sym e) (inr (inl refl))
  at (inr (inr e)) = subst (λ c. IsLineByte (to_ascii_lowercase c)) (sym e) (inr (inr refl))

-- a byte of a word
abbrev pub IsWordByte : ℕ → Type 0
IsWordByte b = IsLowByte b × (is_blank b ≡ false)

pub record IsReadWord (word : List ℕ) : Type 0 where
  pub some : is_nonempty word ≡ true
  pub bytes : AllByRecursion IsWordByte word

some_words : (ps : List (List ℕ)) → AllByRecursion (AllByRecursion IsWordByte) ps → AllByRecursion IsReadWord (filter is_nonempty ps)
some_words [] all = tt
some_words (p ∷ ps) all = at (is_nonempty p) refl (some_words ps all.1) where
  at : (v : Bool) → is_nonempty p ≡ v → AllByRecursion IsReadWord (filter is_nonempty ps) → AllByRecursion IsReadWord (cond v (p ∷ filter is_nonempty ps) (filter is_nonempty ps))
  at true e h = (record { some = e; bytes = all.0 }, h)
  at false e h = h

-- the words of a line, in lower case
pub words_read : (text : List ℕ) → IsLineText text → AllByRecursion IsReadWord (words_of (lower text))
words_read text h = some_words (pieces is_blank (lower text)) (pieces_hold IsLowByte is_blank (lower text) (all_mapped to_ascii_lowercase IsLineByte IsLowByte low_byte text h))

-- a word that is no assignment
pub record IsReadName (name : List ℕ) : Type 0 where
  pub word : IsReadWord name
  pub plain : is_assignment name ≡ false

pub names_read : (words : List (List ℕ)) → AllByRecursion IsReadWord words → AllByRecursion IsReadName (before_assignment words)
names_read [] all = tt
names_read (word ∷ words) all = at (is_assignment word) refl (names_read words all.1) where
  at : (v : Bool) → is_assignment word ≡ v → AllByRecursion IsReadName (before_assignment words) → AllByRecursion IsReadName (cond v [] (word ∷ before_assignment words))
  at true e h = tt
  at false e h = (record { word = all.0; plain = e }, h)

lower_same : (word : List ℕ) → AllByRecursion IsWordByte word → lower word ≡ word
lower_same [] all = refl
lower_same (b ∷ word) all = λ i. all.0.0.1 i ∷ lower_same word all.1 i

-- a name is in lower case
pub name_low : (name : List ℕ) → IsReadName name → lower name ≡ name
name_low name h = lower_same name h.word.bytes

pub names_low : (names : List (List ℕ)) → AllByRecursion IsReadName names → map lower names ≡ names
names_low [] all = refl
names_low (name ∷ names) all = λ i. name_low name all.0 i ∷ names_low names all.1 i
