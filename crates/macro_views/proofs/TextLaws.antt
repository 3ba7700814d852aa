-- Texts one after another.
use Rattle.std.proofs.Common.{◌≡◌, ℕ, zero, suc, ◌+◌, ◌<◌, length, get_or, drop, List, [], ◌∷◌, ◌++◌, refl, sym, ap, ◌∙◌, append_assoc, add-one, arith}
use Rattle.std.specs.Prelude.{flat_map}
use Rattle.std.specs.Fmt.{decimal}
use Rattle.std.specs.List.{range_with_len}
use Rattle.std.proofs.lemmas.List.{append-nil}
use Rattle.std.proofs.lemmas.List.Concat.{flat_map-append}
use Rattle.or_geom.proofs.ListLaws.{rest_at}
use Rattle.or_geom.proofs.RangeLaws.{range_more}
use Rattle.macro_views.specs.Lines.{text_of_lines}

-- one text more
pub text_more : {a b : List ℕ} (x done text : List ℕ) → a ≡ x ++ done → b ≡ a ++ text → b ≡ x ++ (done ++ text)
text_more x done text p q = q ∙ (ap (λ (l : List ℕ). l ++ text) p ∙ append_assoc x done text)

pub three_texts : {a b c : List ℕ} (x p q r : List ℕ) → a ≡ x ++ p → b ≡ a ++ q → c ≡ b ++ r → c ≡ x ++ ((p ++ q) ++ r)
three_texts x p q r e f g = text_more x (p ++ q) r (text_more x p q e f) g

pub five_texts : {a b c d e : List ℕ} (x p q r s t : List ℕ) → a ≡ x ++ p → b ≡ a ++ q → c ≡ b ++ r → d ≡ c ++ s → e ≡ d ++ t → e ≡ x ++ ((((p ++ q) ++ r) ++ s) ++ t)
five_texts x p q r s t e f g h i = text_more x (((p ++ q) ++ r) ++ s) t (text_more x ((p ++ q) ++ r) s (three_texts x p q r e f g) h) i

pub spread : (p q r s : List ℕ) → ((p ++ q) ++ r) ++ s ≡ p ++ (q ++ (r ++ s))
spread p q r s = append_assoc (p ++ q) r s ∙ append_assoc p q (r ++ s)

-- behind a hole the text may be cut elsewhere
pub cut_elsewhere : (p q r s r' s' : List ℕ) → r ++ s ≡ r' ++ s' → ((p ++ q) ++ r) ++ s ≡ ((p ++ q) ++ r') ++ s'
cut_elsewhere p q r s r' s' e = spread p q r s ∙ (ap (λ (l : List ℕ). p ++ (q ++ l)) e ∙ sym (spread p q r' s'))

pub from_left : (p q r s t : List ℕ) → (((p ++ q) ++ r) ++ s) ++ t ≡ p ++ (q ++ (r ++ (s ++ t)))
from_left p q r s t = append_assoc ((p ++ q) ++ r) s t ∙ spread p q r (s ++ t)

-- the lines of two lists, one after the other
pub text_append : (xs ys : List (List ℕ)) → text_of_lines (xs ++ ys) ≡ text_of_lines xs ++ text_of_lines ys
text_append [] ys = refl
text_append (x ∷ xs) ys = ap (λ (l : List ℕ). x ++ 10 ∷ l) (text_append xs ys) ∙ sym (append_assoc x (10 ∷ text_of_lines xs) (text_of_lines ys))

-- the texts of lines, one after another
pub text_flat_map : {X : Type 0} (f : X → List (List ℕ)) (xs : List X) → text_of_lines (flat_map f xs) ≡ flat_map (λ x. text_of_lines (f x)) xs
text_flat_map f [] = refl
text_flat_map f (x ∷ xs) = text_append (f x) (flat_map f xs) ∙ ap (λ (l : List ℕ). text_of_lines (f x) ++ l) (text_flat_map f xs)

-- the text of one number more
pub numbers_more : (f : ℕ → List ℕ) (n : ℕ) → flat_map f (range_with_len 0 (n + 1)) ≡ flat_map f (range_with_len 0 n) ++ f n
numbers_more f n = ap (λ (k : ℕ). flat_map f (range_with_len 0 k)) (add-one n) ∙ (ap (flat_map f) (range_more 0 n n (omega arith)) ∙ (flat_map-append f (range_with_len 0 n) (n ∷ []) ∙ ap (λ (l : List ℕ). flat_map f (range_with_len 0 n) ++ l) (append-nil (f n))))

-- a number that is the same
pub same_number : {b : List ℕ} (a : List ℕ) (n n' : ℕ) → b ≡ a ++ decimal n' → n' ≡ n → b ≡ a ++ decimal n
same_number a n n' e p = e ∙ ap (λ (k : ℕ). a ++ decimal k) p

-- the text of one item more
pub item_more : {X : Type 0} (f : X → List ℕ) (xs : List X) (i : ℕ) (x : X) (a b z : List ℕ) → i < length xs → x ≡ get_or xs i x → b ≡ a ++ f x → a ++ flat_map f (drop i xs) ≡ z → b ++ flat_map f (drop (i + 1) xs) ≡ z
item_more {X} f xs i x a b z lt is e given =
    ap (λ (l : List ℕ). l ++ flat_map f (drop (i + 1) xs)) e
    ∙ (append_assoc a (f x) (flat_map f (drop (i + 1) xs)) ∙ (ap (λ (l : List X). a ++ flat_map f l) (sym (rest_at xs i x lt is)) ∙ given))
