-- The tokens of words, numbers and lines.
use Rattle.std.proofs.Common.{◌≡◌, ℕ, zero, suc, ◌+◌, ◌/◌, ◌%◌, ◌<◌, List, [], ◌∷◌, ◌++◌, Bool, true, false, cond, ◌&&◌, ◌||◌, nat_eq, nat_le, nat_lt, flat_map, refl, sym, ap, subst, ◌∙◌, arith, eqb-true, le-leb, append_assoc, lt-ltb}
use Rattle.std.specs.Prelude.{◌==◌}
use Rattle.std.specs.List.{list_all}
use Rattle.std.specs.Fmt.{decimal, digits, digits_onto, digit_glyph}
use Rattle.or_geom.specs.Texts.{is_word_byte}
use Rattle.verilog_modules.specs.Tokens.{is_blank, are_joined, joins_next, with_head, put, tokens_of}

-- a word of a text
pub record IsWord (name : List ℕ) : Type 0 where
  pub first : ℕ
  pub rest : List ℕ
  pub is : name ≡ first ∷ rest
  pub bytes : list_all is_word_byte (first ∷ rest) ≡ true

-- a byte of a word is no other byte
other : (b k : ℕ) → is_word_byte b ≡ true → is_word_byte k ≡ false → nat_eq b k ≡ false
other b k e f = by (nat_eq b k) refl where
  by : (t : Bool) → nat_eq b k ≡ t → nat_eq b k ≡ false
  by false g = g
  by true g = absurd (let h = ap is_word_byte (eqb-true b k g) in let i = sym e ∙ (h ∙ f) in cc)

no_blank : (b : ℕ) → is_word_byte b ≡ true → is_blank b ≡ false
no_blank b e = λ k. other b 32 e refl k || (other b 10 e refl k || (other b 9 e refl k || other b 12 e refl k))

apart : (b c : ℕ) → is_word_byte b ≡ true → is_word_byte c ≡ false → are_joined b c ≡ false
apart b c e f = λ k. (e k && f k) || ((other b 60 e refl k && (nat_eq c 61 || nat_eq c 60)) || ((other b 38 e refl k && nat_eq c 38) || (other b 39 e refl k && is_word_byte c)))

together : (b c : ℕ) → is_word_byte b ≡ true → is_word_byte c ≡ true → are_joined b c ≡ true
together b c e f = λ k. (e k && f k) || ((nat_eq b 60 && (nat_eq c 61 || nat_eq c 60)) || ((nat_eq b 38 && nat_eq c 38) || (nat_eq b 39 && is_word_byte c)))

and_parts : (a b : Bool) → (a && b) ≡ true → (a ≡ true) × (b ≡ true)
and_parts true b e = (refl, e)
and_parts false b e = absurd cc

-- a word ends where another byte follows
word_bytes : (b : ℕ) (w : List ℕ) (c : ℕ) (rest : List ℕ) → list_all is_word_byte (b ∷ w) ≡ true → is_word_byte c ≡ false → tokens_of ((b ∷ w) ++ c ∷ rest) ≡ (b ∷ w) ∷ tokens_of (c ∷ rest)
word_bytes b [] c rest all ends =
    let e = (and_parts (is_word_byte b) true all).0 in
    λ k. cond (no_blank b e k) (tokens_of (c ∷ rest)) (cond (apart b c e ends k) (with_head b (tokens_of (c ∷ rest))) ((b ∷ []) ∷ tokens_of (c ∷ rest)))
word_bytes b (d ∷ w) c rest all ends =
    let e = and_parts (is_word_byte b) (list_all is_word_byte (d ∷ w)) all in
    let f = and_parts (is_word_byte d) (list_all is_word_byte w) e.1 in
    ap (put b ((d ∷ w) ++ c ∷ rest)) (word_bytes d w c rest e.1 ends)
    ∙ (λ k. cond (no_blank b e.0 k) ((d ∷ w) ∷ tokens_of (c ∷ rest)) (cond (together b d e.0 f.0 k) ((b ∷ d ∷ w) ∷ tokens_of (c ∷ rest)) ((b ∷ []) ∷ ((d ∷ w) ∷ tokens_of (c ∷ rest)))))

pub word_ends : (name : List ℕ) (c : ℕ) (rest : List ℕ) → IsWord name → is_word_byte c ≡ false → tokens_of (name ++ c ∷ rest) ≡ name ∷ tokens_of (c ∷ rest)
word_ends name c rest is ends = subst (λ (w : List ℕ). tokens_of (w ++ c ∷ rest) ≡ w ∷ tokens_of (c ∷ rest)) (sym is.is) (word_bytes is.first is.rest c rest is.bytes ends)

-- the tokens of a line that ends
record IsSome (tokens : List (List ℕ)) : Type 0 where
  pub first : List ℕ
  pub rest : List (List ℕ)
  pub is : tokens ≡ first ∷ rest

head_there : (b : ℕ) (tokens : List (List ℕ)) → IsSome (with_head b tokens)
head_there b [] = record { first = b ∷ []; rest = []; is = refl }
head_there b (token ∷ tokens) = record { first = b ∷ token; rest = tokens; is = refl }

either : (P : List (List ℕ) → Type 0) (t : Bool) (x y : List (List ℕ)) → P x → P y → P (cond t x y)
either P true x y p q = p
either P false x y p q = q

begun : (b : ℕ) (bytes : List ℕ) → is_blank b ≡ false → IsSome (tokens_of (b ∷ bytes))
begun b bytes e =
    subst (λ (t : Bool). IsSome (cond t (tokens_of bytes) (cond (joins_next b bytes) (with_head b (tokens_of bytes)) ((b ∷ []) ∷ tokens_of bytes)))) (sym e)
    (either IsSome (joins_next b bytes) (with_head b (tokens_of bytes)) ((b ∷ []) ∷ tokens_of bytes) (head_there b (tokens_of bytes)) (record { first = b ∷ []; rest = tokens_of bytes; is = refl }))

-- what joins isn't blank
and_false : (a : Bool) → (a && false) ≡ false
and_false true = refl
and_false false = refl

not_joined : (b c : ℕ) → is_word_byte c ≡ false → nat_eq c 61 ≡ false → nat_eq c 60 ≡ false → nat_eq c 38 ≡ false → are_joined b c ≡ false
not_joined b c e f g h =
    (λ k. (is_word_byte b && e k) || ((nat_eq b 60 && (f k || g k)) || ((nat_eq b 38 && h k) || (nat_eq b 39 && e k))))
    ∙ (λ k. and_false (is_word_byte b) k || (and_false (nat_eq b 60) k || (and_false (nat_eq b 38) k || and_false (nat_eq b 39) k)))

blank_not_joined : (b c : ℕ) → is_blank c ≡ true → are_joined b c ≡ false
blank_not_joined b c e = by (nat_eq c 32) (nat_eq c 10) (nat_eq c 9) (nat_eq c 12) refl refl refl refl where
  at : (n : ℕ) → are_joined b n ≡ false → nat_eq c n ≡ true → are_joined b c ≡ false
  at n f g = ap (are_joined b) (eqb-true c n g) ∙ f

  by : (w x y z : Bool) → nat_eq c 32 ≡ w → nat_eq c 10 ≡ x → nat_eq c 9 ≡ y → nat_eq c 12 ≡ z → are_joined b c ≡ false
  by true x y z f g h i = at 32 (not_joined b 32 refl refl refl refl) f
  by false true y z f g h i = at 10 (not_joined b 10 refl refl refl refl) g
  by false false true z f g h i = at 9 (not_joined b 9 refl refl refl refl) h
  by false false false true f g h i = at 12 (not_joined b 12 refl refl refl refl) i
  by false false false false f g h i = absurd (let j : false ≡ true = (λ k. sym f k || (sym g k || (sym h k || sym i k))) ∙ e in cc)

joined_not_blank : (b c : ℕ) → are_joined b c ≡ true → is_blank c ≡ false
joined_not_blank b c e = by (is_blank c) refl where
  by : (t : Bool) → is_blank c ≡ t → is_blank c ≡ false
  by false f = f
  by true f = absurd (let g : false ≡ true = sym (blank_not_joined b c f) ∙ e in cc)

head_append : (b : ℕ) (x y : List (List ℕ)) → IsSome x → with_head b (x ++ y) ≡ with_head b x ++ y
head_append b x y some = subst (λ (z : List (List ℕ)). with_head b (z ++ y) ≡ with_head b z ++ y) (sym some.is) refl

put_append : (blank join : Bool) (b : ℕ) (x y : List (List ℕ)) → (join ≡ true → IsSome x)
    → cond blank (x ++ y) (cond join (with_head b (x ++ y)) ((b ∷ []) ∷ (x ++ y))) ≡ cond blank x (cond join (with_head b x) ((b ∷ []) ∷ x)) ++ y
put_append true join b x y some = refl
put_append false true b x y some = head_append b x y (some refl)
put_append false false b x y some = refl

-- a line's end parts tokens
pub line_ends : (line rest : List ℕ) → tokens_of (line ++ 10 ∷ rest) ≡ tokens_of line ++ tokens_of rest
line_ends [] rest = refl
line_ends (b ∷ []) rest =
    ap (λ (j : Bool). cond (is_blank b) (tokens_of rest) (cond j (with_head b (tokens_of rest)) ((b ∷ []) ∷ tokens_of rest))) (not_joined b 10 refl refl refl refl)
    ∙ put_append (is_blank b) false b [] (tokens_of rest) (λ e. absurd cc)
line_ends (b ∷ c ∷ line) rest =
    ap (put b (c ∷ (line ++ 10 ∷ rest))) (line_ends (c ∷ line) rest)
    ∙ put_append (is_blank b) (are_joined b c) b (tokens_of (c ∷ line)) (tokens_of rest) (λ e. begun c line (joined_not_blank b c e))

pub flat_append : {X : Type 0} (f : X → List (List ℕ)) (xs ys : List X) → flat_map f (xs ++ ys) ≡ flat_map f xs ++ flat_map f ys
flat_append f [] ys = refl
flat_append f (x ∷ xs) ys = ap (λ (ts : List (List ℕ)). f x ++ ts) (flat_append f xs ys) ∙ sym (append_assoc (f x) (flat_map f xs) (flat_map f ys))

-- Numbers are words

or_true : (a b : Bool) → b ≡ true → (a || b) ≡ true
or_true true b e = refl
or_true false b e = e

digit_byte : (d : ℕ) → d < 10 → is_word_byte (48 + d) ≡ true
digit_byte d h =
    or_true (nat_le 97 (48 + d) && nat_le (48 + d) 122) _ (or_true (nat_le 65 (48 + d) && nat_le (48 + d) 90) _
    (λ k. (le-leb 48 (48 + d) (omega arith) k && le-leb (48 + d) 57 (omega (arith, h)) k) || nat_eq (48 + d) 95))

glyph_byte : (d : ℕ) → d < 10 → is_word_byte (digit_glyph false d) ≡ true
glyph_byte d h = ap (λ (t : Bool). is_word_byte (cond t (48 + d) (87 + d))) (below d h) ∙ digit_byte d h where
  below : (d : ℕ) → d < 10 → nat_lt d 10 ≡ true
  below d h = lt-ltb d 10 h

both : (a b : Bool) → a ≡ true → b ≡ true → (a && b) ≡ true
both true b e f = f
both false b e f = absurd cc

choose : (P : List ℕ → Type 0) (t : Bool) (x y : List ℕ) → P x → P y → P (cond t x y)
choose P true x y p q = p
choose P false x y p q = q

next : (n b : ℕ) (acc : List ℕ) → list_all is_word_byte (b ∷ acc) ≡ true → list_all is_word_byte (digit_glyph false (n % 10) ∷ b ∷ acc) ≡ true
next n b acc e = both (is_word_byte (digit_glyph false (n % 10))) (list_all is_word_byte (b ∷ acc)) (glyph_byte (n % 10) (omega arith)) e

onto_word : (k n b : ℕ) (acc : List ℕ) → list_all is_word_byte (b ∷ acc) ≡ true → IsWord (digits_onto k 10 false n (b ∷ acc))
onto_word zero n b acc e = record { first = b; rest = acc; is = refl; bytes = e }
onto_word (suc k) n b acc e =
    choose IsWord (n / 10 == 0) (digit_glyph false (n % 10) ∷ b ∷ acc) (digits_onto k 10 false (n / 10) (digit_glyph false (n % 10) ∷ b ∷ acc))
    (record { first = digit_glyph false (n % 10); rest = b ∷ acc; is = refl; bytes = next n b acc e })
    (onto_word k (n / 10) (digit_glyph false (n % 10)) (b ∷ acc) (next n b acc e))

pub decimal_word : (n : ℕ) → IsWord (decimal n)
unfolding digits
decimal_word n =
    let one = both (is_word_byte (digit_glyph false (n % 10))) true (glyph_byte (n % 10) (omega arith)) refl in
    choose IsWord (n / 10 == 0) (digit_glyph false (n % 10) ∷ []) (digits_onto 63 10 false (n / 10) (digit_glyph false (n % 10) ∷ []))
    (record { first = digit_glyph false (n % 10); rest = []; is = refl; bytes = one })
    (onto_word 63 (n / 10) (digit_glyph false (n % 10)) [] one)
