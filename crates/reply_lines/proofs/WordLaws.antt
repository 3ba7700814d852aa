-- Words added to a line one after another.
use Rattle.std.proofs.Common.{◌≡◌, ℕ, ℤ, List, [], ◌∷◌, ◌++◌, refl, sym, ap, ◌∙◌, append_assoc}
use Rattle.std.proofs.lemmas.List.{append-nil}
use Rattle.std.specs.Prelude.{codes}
use Rattle.std.specs.Fmt.{decimal, signed_decimal}
use Rattle.reply_lines.specs.Lines.{sentence, spaced, reply_line}
use Rattle.reply_lines.specs.Refusals.{headed}

-- the words of two lists, one after the other
pub spaced_append : (xs ys : List (List ℕ)) → spaced (xs ++ ys) ≡ spaced xs ++ spaced ys
spaced_append [] ys = refl
spaced_append (x ∷ xs) ys = ap (λ (l : List ℕ). 32 ∷ (x ++ l)) (spaced_append xs ys) ∙ sym (append_assoc (32 ∷ x) (spaced xs) (spaced ys))

-- one word more
pub one_more : (text a b word word' : List ℕ) (words : List (List ℕ)) → a ≡ text ++ spaced words → b ≡ a ++ 32 ∷ word' → word' ≡ word → b ≡ text ++ spaced (words ++ word ∷ [])
one_more text a b word word' words p q r =
    q
    ∙ (ap (λ (w : List ℕ). a ++ 32 ∷ w) r
    ∙ (ap (λ (l : List ℕ). l ++ 32 ∷ word) p
    ∙ (append_assoc text (spaced words) (32 ∷ word)
    ∙ ap (λ (l : List ℕ). text ++ l) (ap (λ (w : List ℕ). spaced words ++ 32 ∷ w) (sym (append-nil word)) ∙ sym (spaced_append words (word ∷ []))))))

one_number_more : (text a b : List ℕ) (x x' : ℤ) (words : List (List ℕ)) → a ≡ text ++ spaced words → b ≡ a ++ 32 ∷ signed_decimal x' → x' ≡ x → b ≡ text ++ spaced (words ++ signed_decimal x ∷ [])
one_number_more text a b x x' words p q r = one_more text a b (signed_decimal x) (signed_decimal x') words p q (ap signed_decimal r)

pub pointed_line : (number : ℕ) (name a b c d : List ℕ) (x y x' y' : ℤ) → a ≡ sentence (headed number name []) → b ≡ a ++ 32 ∷ signed_decimal x' → c ≡ b ++ 32 ∷ signed_decimal y' → d ≡ c ++ 10 ∷ []
    → x' ≡ x → y' ≡ y → d ≡ reply_line (headed number name (signed_decimal x ∷ (signed_decimal y ∷ [])))
pointed_line number name a b c d x y x' y' p q r s t u =
    let text = codes "openram:" in
    let head = decimal number ∷ (name ∷ []) in
    let first : b ≡ text ++ spaced (head ++ signed_decimal x ∷ []) = one_number_more text a b x x' head p q t in
    let second : c ≡ text ++ spaced ((head ++ signed_decimal x ∷ []) ++ signed_decimal y ∷ []) = one_number_more text b c y y' (head ++ signed_decimal x ∷ []) first r u in
    s ∙ ap (λ (l : List ℕ). l ++ 10 ∷ []) second

pub five_words : (a b c d e f name name' : List ℕ) (w x y z w' x' y' z' : ℤ) → b ≡ a ++ 32 ∷ name' → c ≡ b ++ 32 ∷ signed_decimal w' → d ≡ c ++ 32 ∷ signed_decimal x' → e ≡ d ++ 32 ∷ signed_decimal y' → f ≡ e ++ 32 ∷ signed_decimal z'
    → name' ≡ name → w' ≡ w → x' ≡ x → y' ≡ y → z' ≡ z
    → f ≡ a ++ spaced (name ∷ (signed_decimal w ∷ (signed_decimal x ∷ (signed_decimal y ∷ (signed_decimal z ∷ [])))))
five_words a b c d e f name name' w x y z w' x' y' z' p q r s t j k l m n =
    let one = one_more a a b name name' [] (sym (append-nil a)) p j in
    let two = one_number_more a b c w w' (name ∷ []) one q k in
    let three = one_number_more a c d x x' (name ∷ (signed_decimal w ∷ [])) two r l in
    let four = one_number_more a d e y y' (name ∷ (signed_decimal w ∷ (signed_decimal x ∷ []))) three s m in
    one_number_more a e f z z' (name ∷ (signed_decimal w ∷ (signed_decimal x ∷ (signed_decimal y ∷ [])))) four t n

-- a number, and two that may be negative
pub numbered_pair : (number side side' : ℕ) (name a b c d e : List ℕ) (x y x' y' : ℤ) → a ≡ sentence (headed number name []) → b ≡ a ++ 32 ∷ decimal side' → c ≡ b ++ 32 ∷ signed_decimal x' → d ≡ c ++ 32 ∷ signed_decimal y' → e ≡ d ++ 10 ∷ []
    → side' ≡ side → x' ≡ x → y' ≡ y → e ≡ reply_line (headed number name (decimal side ∷ (signed_decimal x ∷ (signed_decimal y ∷ []))))
numbered_pair number side side' name a b c d e x y x' y' p q r s t i j k =
    let text = codes "openram:" in
    let head = decimal number ∷ (name ∷ []) in
    let one : b ≡ text ++ spaced (head ++ decimal side ∷ []) = one_more text a b (decimal side) (decimal side') head p q (ap decimal i) in
    let two = one_number_more text b c x x' (head ++ decimal side ∷ []) one r j in
    let three = one_number_more text c d y y' ((head ++ decimal side ∷ []) ++ signed_decimal x ∷ []) two s k in
    t ∙ ap (λ (l : List ℕ). l ++ 10 ∷ []) three
