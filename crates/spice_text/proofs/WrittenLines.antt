-- Reading a line as it is written.
use Rattle.std.proofs.Common.{◌≡◌, ℕ, ◌+◌, ◌<◌, List, [], ◌∷◌, ◌++◌, length, Bool, true, false, cond, not, ◌&&◌, ◌==◌, filter, refl, sym, ap, ◌∙◌, arith}
use Rattle.std.specs.List.{AllByRecursion, list_all}
use Rattle.std.proofs.lemmas.List.{append_assoc, append-nil}
use Rattle.std.proofs.lemmas.Bool.{ne_eqb}
use Rattle.spice_text.specs.Lines.{TextLine, is_lf, with_head, pieces, without_cr, numbered_lines}
use Rattle.spice_text.specs.LogicalLines.{is_blank, counts, joined, put_before, join}
use Rattle.spice_text.specs.WrittenText.{count_after, words_text}

abbrev pub NonePasses : (ℕ → Bool) → List ℕ → Type 0
NonePasses p bytes = AllByRecursion (λ b. p b ≡ false) bytes

pub none_append : (p : ℕ → Bool) (xs ys : List ℕ) → NonePasses p xs → NonePasses p ys → NonePasses p (xs ++ ys)
none_append p [] ys f g = g
none_append p (x ∷ xs) ys f g = (f.0, none_append p xs ys f.1 g)

-- the piece before a separator
pub piece_before : (p : ℕ → Bool) (t : List ℕ) (s : ℕ) (more : List ℕ) → NonePasses p t → p s ≡ true → pieces p (t ++ s ∷ more) ≡ t ∷ pieces p more
piece_before p [] s more none is = ap (λ v. cond v ([] ∷ pieces p more) (with_head s (pieces p more))) is
piece_before p (b ∷ t) s more none is =
    ap (λ v. cond v ([] ∷ pieces p (t ++ s ∷ more)) (with_head b (pieces p (t ++ s ∷ more)))) none.0 ∙ ap (with_head b) (piece_before p t s more none.1 is)

pub piece_alone : (p : ℕ → Bool) (t : List ℕ) → NonePasses p t → pieces p t ≡ t ∷ []
piece_alone p [] none = refl
piece_alone p (b ∷ t) none = ap (λ v. cond v ([] ∷ pieces p t) (with_head b (pieces p t))) none.0 ∙ ap (with_head b) (piece_alone p t none.1)

abbrev pub is_cr : ℕ → Bool
is_cr b = b == 13

no_cr : (t : List ℕ) → NonePasses is_cr t → without_cr t ≡ t
no_cr [] none = refl
no_cr (b ∷ []) none = ap (λ v. cond v [] (b ∷ [])) none.0
no_cr (b ∷ c ∷ t) none = ap (λ l. b ∷ l) (no_cr (c ∷ t) none.1)

-- a line that counts: it begins with this byte, and holds no LF and no CR
pub record IsLine (c : ℕ) (t : List ℕ) : Type 0 where
  pub star : (c == 42) ≡ false
  pub blank : is_blank c ≡ false
  pub lf : NonePasses is_lf (c ∷ t)
  pub cr : NonePasses is_cr (c ∷ t)

abbrev pub line_at : ℕ → ℕ → List ℕ → TextLine
line_at number before text = record { number = number; before = before; text = text }

-- the logical lines of these bytes
abbrev pub Read : ℕ → ℕ → List ℕ → List TextLine
Read number before bytes = join (filter counts (numbered_lines number before (pieces is_lf bytes)))

abbrev counted : Bool → Bool → List ℕ → TextLine → List TextLine → List TextLine
counted star blank t line lines = join (cond (cond star false (not (blank && list_all is_blank t))) (line ∷ lines) lines)

-- a line before others
line_read : (n b c : ℕ) (t more : List ℕ) → IsLine c t → Read n b ((c ∷ t) ++ 10 ∷ more) ≡ put_before (line_at n b (c ∷ t)) (Read (n + 1) (b + length (c ∷ t) + 1) more)
line_read n b c t more h =
    let rest = filter counts (numbered_lines (n + 1) (b + length (c ∷ t) + 1) (pieces is_lf more)) in
    ap (λ (ps : List (List ℕ)). join (filter counts (numbered_lines n b ps))) (piece_before is_lf (c ∷ t) 10 more h.lf refl)
    ∙ ap (λ (text : List ℕ). join (filter counts (line_at n b text ∷ numbered_lines (n + 1) (b + length (c ∷ t) + 1) (pieces is_lf more)))) (no_cr (c ∷ t) h.cr)
    ∙ (λ i. counted (h.star i) (h.blank i) t (line_at n b (c ∷ t)) rest)

-- what stands here is joined to no line before it
abbrev pub IsApart : List ℕ → Type 0
IsApart more = (line : TextLine) (n b : ℕ) → put_before line (Read n b more) ≡ line ∷ Read n b more

-- a logical line is read, and what follows it
pub record Reads (n b : ℕ) (bytes text more : List ℕ) : Type 0 where
  pub number : ℕ
  pub before : ℕ
  pub is : Read n b bytes ≡ line_at n b text ∷ Read number before more

same_reads : (n b : ℕ) (bytes bytes2 text text2 more : List ℕ) → bytes2 ≡ bytes → text ≡ text2 → Reads n b bytes text more → Reads n b bytes2 text2 more
same_reads n b bytes bytes2 text text2 more e f r =
    record { number = r.number; before = r.before; is = ap (Read n b) e ∙ r.is ∙ ap (λ (t : List ℕ). line_at n b t ∷ Read r.number r.before more) f }

-- what the words add to their logical line
abbrev pub tail_text : ℕ → List (List ℕ) → List ℕ
tail_text count [] = []
tail_text count (word ∷ words) = (cond (count == 12) (32 ∷ 32 ∷ []) (32 ∷ []) ++ word) ++ tail_text (count_after count) words

-- a word of a line
pub record IsPlain (word : List ℕ) : Type 0 where
  pub lf : NonePasses is_lf word
  pub cr : NonePasses is_cr word

longer : (c : ℕ) (t word : List ℕ) → IsLine c t → IsPlain word → IsLine c (t ++ 32 ∷ word)
longer c t word h w = record {
  star = h.star;
  blank = h.blank;
  lf = none_append is_lf (c ∷ t) (32 ∷ word) h.lf (refl, w.lf);
  cr = none_append is_cr (c ∷ t) (32 ∷ word) h.cr (refl, w.cr);
}

plus : (word : List ℕ) → IsPlain word → IsLine 43 (32 ∷ word)
plus word w = record { star = refl; blank = refl; lf = (refl, (refl, w.lf)); cr = (refl, (refl, w.cr)) }

abbrev Rest : List (List ℕ) → List ℕ → Type 0
Rest words more = (count n b c : ℕ) (t : List ℕ) → 0 < count → IsLine c t → Reads n b ((c ∷ t) ++ (words_text count words ++ more)) ((c ∷ t) ++ tail_text count words) more

-- the text where the gap before a word is this one, and the line has so many words with it
abbrev gapped : List ℕ → ℕ → ℕ → List ℕ → List ℕ → List (List ℕ) → List ℕ → List ℕ
gapped g k c t word words more = (c ∷ t) ++ (((g ++ word) ++ words_text k words) ++ more)

abbrev tailed : Bool → ℕ → ℕ → List ℕ → List ℕ → List (List ℕ) → List ℕ
tailed v k c t word words = (c ∷ t) ++ ((cond v (32 ∷ 32 ∷ []) (32 ∷ []) ++ word) ++ tail_text k words)

more_words : (v : Bool) (count n b c : ℕ) (t word : List ℕ) (words : List (List ℕ)) (more : List ℕ) → IsLine c t → IsPlain word → Rest words more
    → Reads n b (gapped (cond v (10 ∷ 43 ∷ 32 ∷ []) (32 ∷ [])) (cond v 1 (count + 1)) c t word words more) (tailed v (cond v 1 (count + 1)) c t word words) more
more_words false count n b c t word words more h w rest =
    same_reads n b _ _ _ _ more (ap (λ (l : List ℕ). (c ∷ t) ++ l) (append_assoc (32 ∷ word) (words_text (count + 1) words) more) ∙ sym (append_assoc (c ∷ t) (32 ∷ word) (words_text (count + 1) words ++ more)))
    (append_assoc (c ∷ t) (32 ∷ word) (tail_text (count + 1) words)) (rest (count + 1) n b c (t ++ 32 ∷ word) (omega arith) (longer c t word h w))
more_words true count n b c t word words more h w rest =
    let next = (43 ∷ 32 ∷ word) ++ (words_text 1 words ++ more) in
    let r = rest 1 (n + 1) (b + length (c ∷ t) + 1) 43 (32 ∷ word) (omega arith) (plus word w) in
    record {
      number = r.number;
      before = r.before;
      is = ap (Read n b) (ap (λ (l : List ℕ). (c ∷ t) ++ l) (append_assoc (10 ∷ 43 ∷ 32 ∷ word) (words_text 1 words) more)) ∙ line_read n b c t next h ∙ ap (put_before (line_at n b (c ∷ t))) r.is;
    }

-- where words stand already
later : (count : ℕ) → 0 < count → (count == 0) ≡ false
later count some = ne_eqb count 0 (λ e. absurd (omega arith))

pub line_reads : (words : List (List ℕ)) (more : List ℕ) → AllByRecursion IsPlain words → IsApart more → Rest words more
line_reads [] more plain apart count n b c t some h = record {
  number = n + 1;
  before = b + length (c ∷ t) + 1;
  is = line_read n b c t more h ∙ apart (line_at n b (c ∷ t)) (n + 1) (b + length (c ∷ t) + 1) ∙ ap (λ (l : List ℕ). line_at n b l ∷ Read (n + 1) (b + length (c ∷ t) + 1) more) (sym (append-nil (c ∷ t)));
}
line_reads (word ∷ words) more plain apart count n b c t some h =
    same_reads n b _ _ _ _ more (ap (λ v. gapped (cond v [] (cond (count == 12) (10 ∷ 43 ∷ 32 ∷ []) (32 ∷ []))) (count_after count) c t word words more) (later count some)) refl
    (more_words (count == 12) count n b c t word words more h plain.0 (line_reads words more plain.1 apart))

-- a whole line
pub first_reads : (c : ℕ) (t : List ℕ) (words : List (List ℕ)) (more : List ℕ) (n b : ℕ) → IsLine c t → AllByRecursion IsPlain words → IsApart more
    → Reads n b (words_text 0 ((c ∷ t) ∷ words) ++ more) ((c ∷ t) ++ tail_text 1 words) more
first_reads c t words more n b h plain apart = same_reads n b _ _ _ _ more (append_assoc (c ∷ t) (words_text 1 words) more) refl (line_reads words more plain apart 1 n b c t (omega arith) h)

-- a line that doesn't begin with `+` is joined to none
pub line_apart : (c : ℕ) (t : List ℕ) (words : List (List ℕ)) (more : List ℕ) → IsLine c t → (c == 43) ≡ false → AllByRecursion IsPlain words → IsApart more → IsApart (words_text 0 ((c ∷ t) ∷ words) ++ more)
line_apart c t words more h off plain apart line n b =
    let r = first_reads c t words more n b h plain apart in
    let this = line_at n b ((c ∷ t) ++ tail_text 1 words) in
    let rest = Read r.number r.before more in
    ap (put_before line) r.is ∙ ap (λ v. cond v (joined line this ∷ rest) (line ∷ this ∷ rest)) off ∙ ap (λ (ls : List TextLine). line ∷ ls) (sym r.is)
