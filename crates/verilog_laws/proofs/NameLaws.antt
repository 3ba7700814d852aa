-- The name that a configuration gives a memory is a name of Verilog.
use Rattle.std.proofs.Common.{◌≡◌, ℕ, ◌≤◌, List, [], ◌∷◌, length, Bool, true, false, not, ◌&&◌, ◌||◌, nat_le, nat_eq, refl, sym, ap, ◌∙◌, arith, leb-true}
use Rattle.std.specs.List.{list_all}
use Rattle.std.specs.Prelude.{IsTrue}
use Rattle.sram_plan.specs.Config.{is_identifier, is_name_char, is_letter_byte, is_output_name, starts_with_letter}
use Rattle.sram_plan.specs.Keywords.{is_keyword}
use Rattle.or_geom.specs.Texts.{is_word_byte}
use Rattle.verilog_modules.specs.Names.{is_name, starts_word, IsName}
use Rattle.verilog_modules.proofs.TokenLaws.{IsWord}

turned : (u l d : Bool) → ((u || l) || d) ≡ (l || (u || d))
turned true true d = refl
turned true false d = refl
turned false true d = refl
turned false false d = refl

same_byte : (b : ℕ) → is_name_char b ≡ is_word_byte b
same_byte b = turned (nat_le 65 b && nat_le b 90) (nat_le 97 b && nat_le b 122) ((nat_le 48 b && nat_le b 57) || nat_eq b 95)

and_parts : (a b : Bool) → (a && b) ≡ true → (a ≡ true) × (b ≡ true)
and_parts true b e = (refl, e)
and_parts false b e = absurd cc

both : (a b : Bool) → a ≡ true → b ≡ true → (a && b) ≡ true
both true b e f = f
both false b e f = absurd cc

letter_high : (b : ℕ) → is_letter_byte b ≡ true → 65 ≤ b
letter_high b e = by (nat_le 65 b && nat_le b 90) (nat_le 97 b && nat_le b 122) refl refl where
  by : (x y : Bool) → (nat_le 65 b && nat_le b 90) ≡ x → (nat_le 97 b && nat_le b 122) ≡ y → 65 ≤ b
  by true y f g = leb-true 65 b (and_parts (nat_le 65 b) (nat_le b 90) f).0
  by false true f g = let h = leb-true 97 b (and_parts (nat_le 97 b) (nat_le b 122) g).0 in omega (arith, h)
  by false false f g = absurd (let h : false ≡ true = (λ k. sym f k || sym g k) ∙ e in cc)

no_digit : (b : ℕ) → 65 ≤ b → not (nat_le 48 b && nat_le b 57) ≡ true
no_digit b h = by (nat_le 48 b) (nat_le b 57) refl where
  by : (x y : Bool) → nat_le b 57 ≡ y → not (x && y) ≡ true
  by x true f = absurd (let g = leb-true b 57 f in omega (arith, h, g))
  by true false f = refl
  by false false f = refl

letter_char : (b : ℕ) → is_letter_byte b ≡ true → is_name_char b ≡ true
letter_char b e = ap (λ (x : Bool). x || ((nat_le 48 b && nat_le b 57) || nat_eq b 95)) e

letter_starts : (text : List ℕ) → starts_with_letter text ≡ true → starts_word text ≡ true
letter_starts [] e = absurd cc
letter_starts (b ∷ bytes) e = both (is_word_byte b) (not (nat_le 48 b && nat_le b 57)) (sym (same_byte b) ∙ letter_char b e) (no_digit b (letter_high b e))

-- a memory's name is a name of Verilog
pub output_named : (text : List ℕ) → IsTrue (is_output_name text) → IsName text
unfolding is_name
output_named text e =
    let n = and_parts (is_identifier text) (not (is_keyword text)) e in
    let p = and_parts (nat_le (length text) 24) (starts_with_letter text && list_all is_name_char text) n.0 in
    let q = and_parts (starts_with_letter text) (list_all is_name_char text) p.1 in
    both (starts_word text) (list_all is_word_byte text && not (is_keyword text)) (letter_starts text q.0)
    (both (list_all is_word_byte text) (not (is_keyword text)) (sym (λ k. list_all (λ (b : ℕ). same_byte b k) text) ∙ q.1) n.1)

-- a name is a word
pub name_word : (name : List ℕ) → IsName name → IsWord name
unfolding is_name
name_word [] e = absurd cc
name_word (b ∷ name) e = record { first = b; rest = name; is = refl; bytes = (and_parts (list_all is_word_byte (b ∷ name)) (not (is_keyword (b ∷ name))) (and_parts (starts_word (b ∷ name)) _ e).1).0 }
