-- The tokens of a text, by clause 2 of IEEE 1364-2001. A text with a comment, a string, a directive, an escaped name, a name with $ or a
-- carriage return has tokens that no module of this language has.
use Rattle.std.specs.Prelude.{ℕ, List, [], ◌∷◌, Bool, false, ◌||◌, ◌&&◌, nat_le, nat_eq, if◌then◌else◌}
use Rattle.or_geom.specs.Texts.{is_word_byte}

-- space, tab, line feed, form feed (2.2)
abbrev pub is_blank : ℕ → Bool
is_blank b = nat_eq b 32 || (nat_eq b 10 || (nat_eq b 9 || nat_eq b 12))

-- Two bytes beside each other are of one token: in words and numbers, in the operators <=, << and && (2.4), and an apostrophe with the base and
-- the digits behind it (2.5.1).
abbrev pub are_joined : ℕ → ℕ → Bool
are_joined b c =
    (is_word_byte b && is_word_byte c) || ((nat_eq b 60 && (nat_eq c 61 || nat_eq c 60)) || ((nat_eq b 38 && nat_eq c 38) || (nat_eq b 39 && is_word_byte c)))

abbrev pub joins_next : ℕ → List ℕ → Bool
joins_next b [] = false
joins_next b (c ∷ bytes) = are_joined b c

-- one byte more at the head of the first token
abbrev pub with_head : ℕ → List (List ℕ) → List (List ℕ)
with_head b [] = (b ∷ []) ∷ []
with_head b (token ∷ tokens) = (b ∷ token) ∷ tokens

-- a byte before a text with these tokens
abbrev pub put : ℕ → List ℕ → List (List ℕ) → List (List ℕ)
put b bytes tokens = if is_blank b then tokens else (if joins_next b bytes then with_head b tokens else (b ∷ []) ∷ tokens)

abbrev pub tokens_of : List ℕ → List (List ℕ)
tokens_of [] = []
tokens_of (b ∷ bytes) = put b bytes (tokens_of bytes)
