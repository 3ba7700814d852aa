-- The words of a line as it is written.
use Rattle.std.proofs.Common.{◌≡◌, ℕ, ◌+◌, ◌<◌, ◌≤◌, List, [], ◌∷◌, ◌++◌, length, Bool, true, false, cond, ◌&&◌, ◌||◌, ◌==◌, nat_lt, filter, map, refl, ap, ◌∙◌, arith}
use Rattle.std.specs.List.{AllByRecursion}
use Rattle.std.specs.Char.{to_ascii_lowercase}
use Rattle.std.proofs.lemmas.List.{append-nil, map-append}
use Rattle.std.proofs.lemmas.Bool.{ne_eqb, ltb-false, le-leb}
use borrow.Author.Tests.{ltb-true}
use Rattle.spice_text.specs.Lines.{is_lf}
use Rattle.spice_text.specs.LogicalLines.{is_blank}
use Rattle.spice_text.specs.Words.{is_nonempty, words_of, lower, is_assignment, before_assignment}
use Rattle.spice_text.specs.Deck.{is_text_byte}
use Rattle.spice_text.specs.WrittenText.{count_after}
use Rattle.spice_text.specs.Writable.{IsNameByte, IsName}
use Rattle.spice_text.proofs.WrittenLines.{NonePasses, piece_before, piece_alone, is_cr, tail_text, IsPlain}

pub all_of : {X : Type 0} (P Q : X → Type 0) → ((x : X) → P x → Q x) → (xs : List X) → AllByRecursion P xs → AllByRecursion Q xs
all_of P Q f [] h = tt
all_of P Q f (x ∷ xs) h = (f x h.0, all_of P Q f xs h.1)

pub all_mapped : {X Y : Type 0} (g : X → Y) (P : X → Type 0) (Q : Y → Type 0) → ((x : X) → P x → Q (g x)) → (xs : List X) → AllByRecursion P xs → AllByRecursion Q (map g xs)
all_mapped g P Q f [] h = tt
all_mapped g P Q f (x ∷ xs) h = (f x h.0, all_mapped g P Q f xs h.1)

-- a word that stands between spaces
pub record IsApartWord (word : List ℕ) : Type 0 where
  pub some : is_nonempty word ≡ true
  pub none : NonePasses is_blank word

-- the words of a line
pub words_back : (words : List (List ℕ)) (count : ℕ) (word : List ℕ) → IsApartWord word → AllByRecursion IsApartWord words → words_of (word ++ tail_text count words) ≡ word ∷ words
words_back [] count word w all = ap words_of (append-nil word) ∙ ap (filter is_nonempty) (piece_alone is_blank word w.none) ∙ ap (λ v. cond v (word ∷ []) []) w.some
words_back (next ∷ words) count word w all = by (count == 12) (words_back words (count_after count) next all.0 all.1) where
  past : (rest : List ℕ) → words_of (word ++ 32 ∷ rest) ≡ word ∷ words_of rest
  past rest = ap (filter is_nonempty) (piece_before is_blank word 32 rest w.none refl) ∙ ap (λ v. cond v (word ∷ words_of rest) (words_of rest)) w.some

  by : (v : Bool) → words_of (next ++ tail_text (count_after count) words) ≡ next ∷ words → words_of (word ++ ((cond v (32 ∷ 32 ∷ []) (32 ∷ []) ++ next) ++ tail_text (count_after count) words)) ≡ word ∷ next ∷ words
  by true h = past (32 ∷ (next ++ tail_text (count_after count) words)) ∙ ap (λ (ws : List (List ℕ)). word ∷ ws) h
  by false h = past (next ++ tail_text (count_after count) words) ∙ ap (λ (ws : List (List ℕ)). word ∷ ws) h

lower_gap : (v : Bool) → lower (cond v (32 ∷ 32 ∷ []) (32 ∷ [])) ≡ cond v (32 ∷ 32 ∷ []) (32 ∷ [])
lower_gap true = refl
lower_gap false = refl

lower_tail : (words : List (List ℕ)) (count : ℕ) → lower (tail_text count words) ≡ tail_text count (map lower words)
lower_tail [] count = refl
lower_tail (word ∷ words) count =
    let g = cond (count == 12) (32 ∷ 32 ∷ []) (32 ∷ []) in
    map-append to_ascii_lowercase (g ++ word) (tail_text (count_after count) words)
    ∙ (λ i. (map-append to_ascii_lowercase g word i) ++ lower_tail words (count_after count) i) ∙ ap (λ (l : List ℕ). (l ++ lower word) ++ tail_text (count_after count) (map lower words)) (lower_gap (count == 12))

pub lower_line : (word : List ℕ) (words : List (List ℕ)) (count : ℕ) → lower (word ++ tail_text count words) ≡ lower word ++ tail_text count (map lower words)
lower_line word words count = map-append to_ascii_lowercase word (tail_text count words) ∙ ap (λ (l : List ℕ). lower word ++ l) (lower_tail words count)

-- bytes of names
not_byte : (b n : ℕ) → (b ≡ n → ⊥) → (b == n) ≡ false
not_byte b n off = ne_eqb b n off

pub byte_blank : (b : ℕ) → IsNameByte b → is_blank b ≡ false
byte_blank b h = let low = h.above in (λ i. not_byte b 32 (λ e. absurd (omega arith)) i || not_byte b 9 (λ e. absurd (omega arith)) i)

pub byte_lf : (b : ℕ) → IsNameByte b → is_lf b ≡ false
byte_lf b h = let low = h.above in not_byte b 10 (λ e. absurd (omega arith))

pub byte_cr : (b : ℕ) → IsNameByte b → is_cr b ≡ false
byte_cr b h = let low = h.above in not_byte b 13 (λ e. absurd (omega arith))

pub byte_equals : (b : ℕ) → IsNameByte b → (b == 61) ≡ false
byte_equals b h = not_byte b 61 h.other

pub byte_text : (b : ℕ) → IsNameByte b → is_text_byte b ≡ true
byte_text b h = (λ i. (le-leb 32 b (let low = h.above in omega arith) i && le-leb b 126 h.below i) || ((b == 9) || ((b == 10) || (b == 13))))

lower_byte : (b : ℕ) → IsNameByte b → IsNameByte (to_ascii_lowercase b)
lower_byte b h = under (nat_lt b 65) refl where
  within : (v : Bool) → nat_lt b 91 ≡ v → (65 ≤ b) → IsNameByte (cond v (b + 32) b)
  within true is up = let low = ltb-true b 91 is in record { above = omega arith; below = omega arith; other = λ e. absurd (omega arith) }
  within false is up = h

  under : (v : Bool) → nat_lt b 65 ≡ v → IsNameByte (cond v b (cond (nat_lt b 91) (b + 32) b))
  under true is = h
  under false is = within (nat_lt b 91) refl (ltb-false b 65 is)

lower_length : (name : List ℕ) → 0 < length name → 0 < length (lower name)
lower_length [] h = h
lower_length (b ∷ name) h = omega arith

pub lower_name : (name : List ℕ) → IsName name → IsName (lower name)
lower_name name h = record { some = lower_length name h.some; bytes = all_mapped to_ascii_lowercase IsNameByte IsNameByte lower_byte name h.bytes }

pub lower_names : (names : List (List ℕ)) → AllByRecursion IsName names → AllByRecursion IsName (map lower names)
lower_names names h = all_mapped lower IsName IsName lower_name names h

some_word : (name : List ℕ) → 0 < length name → is_nonempty name ≡ true
some_word [] h = absurd (omega arith)
some_word (b ∷ name) h = refl

pub apart_word : (name : List ℕ) → IsName name → IsApartWord name
apart_word name h = record { some = some_word name h.some; none = all_of IsNameByte (λ b. is_blank b ≡ false) byte_blank name h.bytes }

pub plain_word : (name : List ℕ) → IsName name → IsPlain name
plain_word name h = record { lf = all_of IsNameByte (λ b. is_lf b ≡ false) byte_lf name h.bytes; cr = all_of IsNameByte (λ b. is_cr b ≡ false) byte_cr name h.bytes }

-- a name holds no `=`
no_equals : (bytes : List ℕ) → AllByRecursion IsNameByte bytes → is_assignment bytes ≡ false
no_equals [] h = refl
no_equals (b ∷ bytes) h = (λ i. byte_equals b h.0 i || no_equals bytes h.1 i)

pub all_before : (names : List (List ℕ)) → AllByRecursion IsName names → before_assignment names ≡ names
all_before [] h = refl
all_before (name ∷ names) h = ap (λ v. cond v [] (name ∷ before_assignment names)) (no_equals name h.0.bytes) ∙ ap (λ (ws : List (List ℕ)). name ∷ ws) (all_before names h.1)
