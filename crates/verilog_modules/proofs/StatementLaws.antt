-- Tokens of expressions, assignments and conditions spell one statement.
use Rattle.std.proofs.Common.{◌≡◌, ℕ, zero, suc, ◌+◌, ◌/◌, ◌%◌, ◌<◌, List, [], ◌∷◌, ◌++◌, Bool, true, false, cond, not, ◌&&◌, nat_le, codes, refl, sym, ap, ◌∙◌, arith, le-leb, append_assoc, lt-ltb}
use Rattle.std.specs.Prelude.{◌==◌}
use Rattle.std.specs.List.{list_all, AllByRecursion}
use Rattle.std.specs.Fmt.{decimal, digits, digits_onto, digit_glyph}
use Rattle.std.specs.Str.Parse.{digits_value}
use Rattle.std.proofs.lemmas.Fmt.{decimal_is_IsNumeral_wide}
use Rattle.verilog_modules.specs.Tree.{Expression, Whole, Element, BitOf, PartOf, Target, ToRegister, ToWord, ToPart, Term, Statement, Assign, If, Block, Statements, Done, Then}
use Rattle.or_geom.specs.Texts.{is_word_byte}
use Rattle.verilog_modules.specs.Grammar.{expression_tokens, target_tokens, term_tokens, joined, statement_tokens, body_tokens}
use Rattle.verilog_modules.specs.Names.{is_name, starts_word, IsName, IsNumber, IsNamedExpression, IsNamedTarget, IsNamedTerm, IsNamedStatement, IsNamedBody}
use Rattle.sram_plan.specs.Keywords.{is_keyword}

abbrev pub Tokens : Type 0
Tokens = List (List ℕ)

unfoldable pub hd : Tokens → List ℕ
hd [] = []
hd (x ∷ xs) = x

unfoldable pub tl : Tokens → Tokens
tl [] = []
tl (x ∷ xs) = xs

-- the token at an index, and what stands after so many
unfoldable pub at : ℕ → Tokens → List ℕ
at zero xs = hd xs
at (suc n) xs = at n (tl xs)

unfoldable pub after : ℕ → Tokens → Tokens
after zero xs = xs
after (suc n) xs = after n (tl xs)

pub differs : (x k : List ℕ) → IsName x → is_name k ≡ false → x ≡ k → ⊥
differs x k e f g = let h : true ≡ false = sym e ∙ (ap is_name g ∙ f) in absurd cc

-- Numbers

starts_digit : List ℕ → Bool
starts_digit [] = false
starts_digit (b ∷ bytes) = nat_le 48 b && nat_le b 57

both : (a b : Bool) → a ≡ true → b ≡ true → (a && b) ≡ true
both true b e f = f
both false b e f = absurd cc

glyph_digit : (d : ℕ) → d < 10 → (nat_le 48 (digit_glyph false d) && nat_le (digit_glyph false d) 57) ≡ true
glyph_digit d h =
    ap (λ (x : Bool). nat_le 48 (cond x (48 + d) (87 + d)) && nat_le (cond x (48 + d) (87 + d)) 57) (lt-ltb d 10 h)
    ∙ both (nat_le 48 (48 + d)) (nat_le (48 + d) 57) (le-leb 48 (48 + d) (omega arith)) (le-leb (48 + d) 57 (omega (arith, h)))

choose : (P : List ℕ → Type 0) (x : Bool) (a b : List ℕ) → P a → P b → P (cond x a b)
choose P true a b p q = p
choose P false a b p q = q

abbrev StartsDigit : List ℕ → Type 0
StartsDigit l = starts_digit l ≡ true

onto_digit : (k n : ℕ) (acc : List ℕ) → StartsDigit acc → StartsDigit (digits_onto k 10 false n acc)
unfolding starts_digit
onto_digit zero n acc e = e
onto_digit (suc k) n acc e =
    choose StartsDigit (n / 10 == 0) (digit_glyph false (n % 10) ∷ acc) (digits_onto k 10 false (n / 10) (digit_glyph false (n % 10) ∷ acc)) (glyph_digit (n % 10) (omega arith))
    (onto_digit k (n / 10) (digit_glyph false (n % 10) ∷ acc) (glyph_digit (n % 10) (omega arith)))

decimal_digit_first : (n : ℕ) → StartsDigit (decimal n)
unfolding starts_digit digits
decimal_digit_first n =
    choose StartsDigit (n / 10 == 0) (digit_glyph false (n % 10) ∷ []) (digits_onto 63 10 false (n / 10) (digit_glyph false (n % 10) ∷ [])) (glyph_digit (n % 10) (omega arith))
    (onto_digit 63 (n / 10) (digit_glyph false (n % 10) ∷ []) (glyph_digit (n % 10) (omega arith)))

no_start : (l : List ℕ) → StartsDigit l → starts_word l ≡ false
unfolding starts_digit
no_start [] e = refl
no_start (b ∷ l) e = ap (λ (x : Bool). is_word_byte b && not x) e ∙ none (is_word_byte b) where
  none : (x : Bool) → (x && false) ≡ false
  none true = refl
  none false = refl

number_no_name : (x : List ℕ) (n : ℕ) → IsName x → x ≡ decimal n → ⊥
unfolding is_name
number_no_name x n e f =
    differs x (decimal n) e (λ k. no_start (decimal n) (decimal_digit_first n) k && (list_all is_word_byte (decimal n) && not (is_keyword (decimal n)))) f

pub same_number : (m n : ℕ) → IsNumber m → IsNumber n → decimal m ≡ decimal n → m ≡ n
unfolding IsNumber
same_number m n h k e = sym (decimal_is_IsNumeral_wide m h).1 ∙ (ap (digits_value 10) e ∙ (decimal_is_IsNumeral_wide n k).1)

-- no [ follows
abbrev Closed : Tokens → Type 0
Closed r = hd r ≡ codes "[" → ⊥

-- two tokens that are other
bracket_colon : codes "]" ≡ codes ":" → ⊥
bracket_colon e = absurd cc

abbrev Met : Expression → Expression → Tokens → Tokens → Type 0
Met a b r s = (a ≡ b) × (r ≡ s)

one_whole : (a : List ℕ) (b : Expression) (r s : Tokens) → IsNamedExpression b → Closed r → a ∷ r ≡ expression_tokens b ++ s → Met (Whole a) b r s
unfolding hd tl at after
one_whole a (Whole b) r s m c e = (ap (λ x. Whole x) (ap hd e), ap tl e)
one_whole a (Element b x) r s m c e = absurd (c (ap (at 1) e))
one_whole a (BitOf b k) r s m c e = absurd (c (ap (at 1) e))
one_whole a (PartOf b h l) r s m c e = absurd (c (ap (at 1) e))

one_element : (a x : List ℕ) (b : Expression) (r s : Tokens) → IsName x → IsNamedExpression b → Closed s → expression_tokens (Element a x) ++ r ≡ expression_tokens b ++ s → Met (Element a x) b r s
unfolding hd tl at after
one_element a x (Whole b) r s n m d e = absurd (d (sym (ap (at 1) e)))
one_element a x (Element b y) r s n m d e = (λ k. Element (ap hd e k) (ap (at 2) e k), ap (after 4) e)
one_element a x (BitOf b k) r s n m d e = absurd (number_no_name x k n (ap (at 2) e))
one_element a x (PartOf b h l) r s n m d e = absurd (number_no_name x h n (ap (at 2) e))

one_bit : (a : List ℕ) (k : ℕ) (b : Expression) (r s : Tokens) → IsNumber k → IsNamedExpression b → Closed s → expression_tokens (BitOf a k) ++ r ≡ expression_tokens b ++ s → Met (BitOf a k) b r s
unfolding hd tl at after
one_bit a k (Whole b) r s n m d e = absurd (d (sym (ap (at 1) e)))
one_bit a k (Element b y) r s n m d e = absurd (number_no_name y k m.1 (sym (ap (at 2) e)))
one_bit a k (BitOf b j) r s n m d e = let q = same_number k j n m.1 (ap (at 2) e) in (λ i. BitOf (ap hd e i) (q i), ap (after 4) e)
one_bit a k (PartOf b h l) r s n m d e = absurd (bracket_colon (ap (at 3) e))

one_part : (a : List ℕ) (h l : ℕ) (b : Expression) (r s : Tokens) → IsNumber h → IsNumber l → IsNamedExpression b → Closed s → expression_tokens (PartOf a h l) ++ r ≡ expression_tokens b ++ s → Met (PartOf a h l) b r s
unfolding hd tl at after
one_part a h l (Whole b) r s n o m d e = absurd (d (sym (ap (at 1) e)))
one_part a h l (Element b y) r s n o m d e = absurd (number_no_name y h m.1 (sym (ap (at 2) e)))
one_part a h l (BitOf b k) r s n o m d e = absurd (bracket_colon (sym (ap (at 3) e)))
one_part a h l (PartOf b i p) r s n o m d e =
    let q = same_number h i n m.1 (ap (at 2) e) in let w = same_number l p o m.2 (ap (at 4) e) in (λ k. PartOf (ap hd e k) (q k) (w k), ap (after 6) e)

one_expression : (a b : Expression) (r s : Tokens) → IsNamedExpression a → IsNamedExpression b → Closed r → Closed s → expression_tokens a ++ r ≡ expression_tokens b ++ s → Met a b r s
one_expression (Whole a) b r s n m c d e = one_whole a b r s m c e
one_expression (Element a x) b r s n m c d e = one_element a x b r s n.1 m d e
one_expression (BitOf a k) b r s n m c d e = one_bit a k b r s n.1 m d e
one_expression (PartOf a h l) b r s n m c d e = one_part a h l b r s n.1 n.2 m d e

-- Targets

abbrev Hit : Target → Target → Tokens → Tokens → Type 0
Hit a b r s = (a ≡ b) × (r ≡ s)

one_register : (a : List ℕ) (b : Target) (r s : Tokens) → Closed r → a ∷ r ≡ target_tokens b ++ s → Hit (ToRegister a) b r s
unfolding hd tl at after
one_register a (ToRegister b) r s c e = (ap (λ x. ToRegister x) (ap hd e), ap tl e)
one_register a (ToWord b y) r s c e = absurd (c (ap (at 1) e))
one_register a (ToPart b y h l) r s c e = absurd (c (ap (at 1) e))

one_word : (a x : List ℕ) (b : Target) (r s : Tokens) → Closed r → Closed s → target_tokens (ToWord a x) ++ r ≡ target_tokens b ++ s → Hit (ToWord a x) b r s
unfolding hd tl at after
one_word a x (ToRegister b) r s c d e = absurd (d (sym (ap (at 1) e)))
one_word a x (ToWord b y) r s c d e = (λ k. ToWord (ap hd e k) (ap (at 2) e k), ap (after 4) e)
one_word a x (ToPart b y h l) r s c d e = absurd (c (ap (at 4) e))

one_word_part : (a x : List ℕ) (h l : ℕ) (b : Target) (r s : Tokens) → IsNumber h → IsNumber l → IsNamedTarget b → Closed s → target_tokens (ToPart a x h l) ++ r ≡ target_tokens b ++ s → Hit (ToPart a x h l) b r s
unfolding hd tl at after
one_word_part a x h l (ToRegister b) r s n o m d e = absurd (d (sym (ap (at 1) e)))
one_word_part a x h l (ToWord b y) r s n o m d e = absurd (d (sym (ap (at 4) e)))
one_word_part a x h l (ToPart b y i p) r s n o m d e =
    let q = same_number h i n m.2 (ap (at 5) e) in let w = same_number l p o m.3 (ap (at 7) e) in (λ k. ToPart (ap hd e k) (ap (at 2) e k) (q k) (w k), ap (after 9) e)

one_target : (a b : Target) (r s : Tokens) → IsNamedTarget a → IsNamedTarget b → Closed r → Closed s → target_tokens a ++ r ≡ target_tokens b ++ s → Hit a b r s
one_target (ToRegister a) b r s n m c d e = one_register a b r s c e
one_target (ToWord a x) b r s n m c d e = one_word a x b r s c d e
one_target (ToPart a x h l) b r s n m c d e = one_word_part a x h l b r s n.2 n.3 m d e

-- First tokens

expression_first : (a : Expression) (r : Tokens) → IsNamedExpression a → IsName (hd (expression_tokens a ++ r))
unfolding hd
expression_first (Whole a) r n = n
expression_first (Element a x) r n = n.0
expression_first (BitOf a k) r n = n.0
expression_first (PartOf a h l) r n = n.0

target_first : (a : Target) (r : Tokens) → IsNamedTarget a → IsName (hd (target_tokens a ++ r))
unfolding hd
target_first (ToRegister a) r n = n
target_first (ToWord a x) r n = n.0
target_first (ToPart a x h l) r n = n.0

-- Terms

not_bang : is_name (codes "!") ≡ false
unfolding is_name
not_bang = refl

pub not_close : is_name (codes ")") ≡ false
unfolding is_name
not_close = refl

one_sign : (x y : Bool) (a b : Expression) (r s : Tokens) → IsNamedExpression a → IsNamedExpression b → Closed r → Closed s
    → cond x (codes "!" ∷ []) [] ++ expression_tokens a ++ r ≡ cond y (codes "!" ∷ []) [] ++ expression_tokens b ++ s → (x ≡ y) × Met a b r s
unfolding hd tl
one_sign true true a b r s n m c d e = (refl, one_expression a b r s n m c d (ap tl e))
one_sign true false a b r s n m c d e = absurd (differs (hd (expression_tokens b ++ s)) (codes "!") (expression_first b s m) not_bang (sym (ap hd e)))
one_sign false true a b r s n m c d e = absurd (differs (hd (expression_tokens a ++ r)) (codes "!") (expression_first a r n) not_bang (ap hd e))
one_sign false false a b r s n m c d e = (refl, one_expression a b r s n m c d e)

one_term : (a b : Term) (r s : Tokens) → IsNamedTerm a → IsNamedTerm b → Closed r → Closed s → term_tokens a ++ r ≡ term_tokens b ++ s → (a ≡ b) × (r ≡ s)
one_term a b r s n m c d e =
    let p = one_sign a.negated b.negated a.of b.of r s n m c d e in
    ((λ k. record { negated = p.0 k; of = p.1.0 k }), p.1.1)

bang_close : codes "!" ≡ codes ")" → ⊥
bang_close e = absurd cc

term_first : (x : Bool) (a : Expression) (r : Tokens) → IsNamedExpression a → hd (cond x (codes "!" ∷ []) [] ++ expression_tokens a ++ r) ≡ codes ")" → ⊥
unfolding hd
term_first true a r n e = bang_close e
term_first false a r n e = differs (hd (expression_tokens a ++ r)) (codes ")") (expression_first a r n) not_close e

-- Items with a token between them, before )

module _ {X : Type 0} (f : X → Tokens) (Good : X → Type 0) (between : List ℕ)
    (one : (a b : X) (r s : Tokens) → Good a → Good b → Closed r → Closed s → f a ++ r ≡ f b ++ s → (a ≡ b) × (r ≡ s))
    (first : (a : X) (r : Tokens) → Good a → hd (f a ++ r) ≡ codes ")" → ⊥) (open_other : between ≡ codes "[" → ⊥) (close_other : between ≡ codes ")" → ⊥) where
  abbrev items : List X → Tokens
  items = joined f (between ∷ [])

  cut : (a b : X) (xs : List X) (r : Tokens) → items (a ∷ b ∷ xs) ++ r ≡ f a ++ (between ∷ (items (b ∷ xs) ++ r))
  cut a b xs r = append_assoc (f a ++ between ∷ []) (items (b ∷ xs)) r ∙ append_assoc (f a) (between ∷ []) (items (b ∷ xs) ++ r)

  items_first : (a : X) (xs : List X) (r : Tokens) → Good a → hd (items (a ∷ xs) ++ r) ≡ codes ")" → ⊥
  items_first a [] r n e = first a r n e
  items_first a (b ∷ xs) r n e = first a (between ∷ (items (b ∷ xs) ++ r)) n (sym (ap hd (cut a b xs r)) ∙ e)

  close_closed : (r : Tokens) → Closed (codes ")" ∷ r)
  unfolding hd
  close_closed r e = absurd cc

  between_closed : (r : Tokens) → Closed (between ∷ r)
  unfolding hd
  between_closed r e = open_other e

  pub one_items : (xs ys : List X) (r s : Tokens) → AllByRecursion Good xs → AllByRecursion Good ys → items xs ++ codes ")" ∷ r ≡ items ys ++ codes ")" ∷ s → (xs ≡ ys) × (r ≡ s)
  unfolding hd tl
  one_items [] [] r s n m e = (refl, ap tl e)
  one_items [] (y ∷ ys) r s n m e = absurd (items_first y ys (codes ")" ∷ s) m.0 (sym (ap hd e)))
  one_items (x ∷ xs) [] r s n m e = absurd (items_first x xs (codes ")" ∷ r) n.0 (ap hd e))
  one_items (x ∷ []) (y ∷ []) r s n m e =
      let p = one x y (codes ")" ∷ r) (codes ")" ∷ s) n.0 m.0 (close_closed r) (close_closed s) e in
      ((λ k. p.0 k ∷ []), ap tl p.1)
  one_items (x ∷ []) (y ∷ z ∷ ys) r s n m e =
      let p = one x y (codes ")" ∷ r) (between ∷ (items (z ∷ ys) ++ codes ")" ∷ s)) n.0 m.0 (close_closed r) (between_closed (items (z ∷ ys) ++ codes ")" ∷ s)) (e ∙ cut y z ys (codes ")" ∷ s)) in
      absurd (close_other (sym (ap hd p.1)))
  one_items (x ∷ z ∷ xs) (y ∷ []) r s n m e =
      let p = one x y (between ∷ (items (z ∷ xs) ++ codes ")" ∷ r)) (codes ")" ∷ s) n.0 m.0 (between_closed (items (z ∷ xs) ++ codes ")" ∷ r)) (close_closed s) (sym (cut x z xs (codes ")" ∷ r)) ∙ e) in
      absurd (close_other (ap hd p.1))
  one_items (x ∷ z ∷ xs) (y ∷ w ∷ ys) r s n m e =
      let p = one x y (between ∷ (items (z ∷ xs) ++ codes ")" ∷ r)) (between ∷ (items (w ∷ ys) ++ codes ")" ∷ s)) n.0 m.0 (between_closed (items (z ∷ xs) ++ codes ")" ∷ r)) (between_closed (items (w ∷ ys) ++ codes ")" ∷ s))
      (sym (cut x z xs (codes ")" ∷ r)) ∙ (e ∙ cut y w ys (codes ")" ∷ s))) in
      let q = one_items (z ∷ xs) (w ∷ ys) r s n.1 m.1 (ap tl p.1) in
      ((λ k. p.0 k ∷ q.0 k), q.1)

-- Statements

one_terms : (xs ys : List Term) (r s : Tokens) → AllByRecursion IsNamedTerm xs → AllByRecursion IsNamedTerm ys
    → joined term_tokens (codes "&&" ∷ []) xs ++ codes ")" ∷ r ≡ joined term_tokens (codes "&&" ∷ []) ys ++ codes ")" ∷ s → (xs ≡ ys) × (r ≡ s)
one_terms = one_items term_tokens IsNamedTerm (codes "&&") one_term (λ a r n. term_first a.negated a.of r n) (λ e. absurd cc) (λ e. absurd cc)

assign_form : (to : Target) (e : Expression) (r : Tokens) → statement_tokens (Assign to e) ++ r ≡ target_tokens to ++ (codes "<=" ∷ (expression_tokens e ++ codes ";" ∷ r))
assign_form to e r =
    append_assoc (target_tokens to ++ codes "<=" ∷ [] ++ expression_tokens e) (codes ";" ∷ []) r
    ∙ (append_assoc (target_tokens to ++ codes "<=" ∷ []) (expression_tokens e) (codes ";" ∷ r)
    ∙ append_assoc (target_tokens to) (codes "<=" ∷ []) (expression_tokens e ++ codes ";" ∷ r))

if_form : (terms : List Term) (body : Statement) (r : Tokens)
    → statement_tokens (If terms body) ++ r ≡ codes "if" ∷ codes "(" ∷ (joined term_tokens (codes "&&" ∷ []) terms ++ codes ")" ∷ (statement_tokens body ++ r))
if_form terms body r =
    let j = joined term_tokens (codes "&&" ∷ []) terms in
    ap (λ (l : Tokens). codes "if" ∷ codes "(" ∷ l)
    (append_assoc (j ++ codes ")" ∷ []) (statement_tokens body) r ∙ append_assoc j (codes ")" ∷ []) (statement_tokens body ++ r))

block_form : (body : Statements) (r : Tokens) → statement_tokens (Block body) ++ r ≡ codes "begin" ∷ (body_tokens body ++ codes "end" ∷ r)
block_form body r = ap (λ (l : Tokens). codes "begin" ∷ l) (append_assoc (body_tokens body) (codes "end" ∷ []) r)

not_if : is_name (codes "if") ≡ false
unfolding is_name is_keyword
not_if = refl

not_begin : is_name (codes "begin") ≡ false
unfolding is_name is_keyword
not_begin = refl

pub not_end : is_name (codes "end") ≡ false
unfolding is_name is_keyword
not_end = refl

if_begin : codes "if" ≡ codes "begin" → ⊥
if_begin e = absurd cc

if_end : codes "if" ≡ codes "end" → ⊥
if_end e = absurd cc

begin_end : codes "begin" ≡ codes "end" → ⊥
begin_end e = absurd cc

arrow_closed : (r : Tokens) → Closed (codes "<=" ∷ r)
unfolding hd
arrow_closed r e = absurd cc

end_closed : (r : Tokens) → Closed (codes ";" ∷ r)
unfolding hd
end_closed r e = absurd cc

assign_first : (to : Target) (e : Expression) (r : Tokens) (k : List ℕ) → IsNamedTarget to → is_name k ≡ false → hd (statement_tokens (Assign to e) ++ r) ≡ k → ⊥
assign_first to e r k n other f = differs (hd (target_tokens to ++ (codes "<=" ∷ (expression_tokens e ++ codes ";" ∷ r)))) k (target_first to _ n) other (sym (ap hd (assign_form to e r)) ∙ f)

statement_no_end : (a : Statement) (r : Tokens) → IsNamedStatement a → hd (statement_tokens a ++ r) ≡ codes "end" → ⊥
unfolding hd
statement_no_end (Assign to e) r n f = assign_first to e r (codes "end") n.0 not_end f
statement_no_end (If terms body) r n f = if_end f
statement_no_end (Block body) r n f = begin_end f

one_assign : (to : Target) (e : Expression) (to' : Target) (e' : Expression) (r s : Tokens) → IsNamedTarget to → IsNamedExpression e → IsNamedTarget to' → IsNamedExpression e'
    → statement_tokens (Assign to e) ++ r ≡ statement_tokens (Assign to' e') ++ s → (Assign to e ≡ Assign to' e') × (r ≡ s)
unfolding tl
one_assign to e to' e' r s n o m p f =
    let q = one_target to to' (codes "<=" ∷ (expression_tokens e ++ codes ";" ∷ r)) (codes "<=" ∷ (expression_tokens e' ++ codes ";" ∷ s)) n m (arrow_closed _) (arrow_closed _)
    (sym (assign_form to e r) ∙ (f ∙ assign_form to' e' s)) in
    let w = one_expression e e' (codes ";" ∷ r) (codes ";" ∷ s) o p (end_closed r) (end_closed s) (ap tl q.1) in
    ((λ k. Assign (q.0 k) (w.0 k)), ap tl w.1)

one_if : (terms terms' : List Term) (body body' : Statement) (r s : Tokens) → AllByRecursion IsNamedTerm terms → AllByRecursion IsNamedTerm terms'
    → statement_tokens (If terms body) ++ r ≡ statement_tokens (If terms' body') ++ s → (terms ≡ terms') × (statement_tokens body ++ r ≡ statement_tokens body' ++ s)
unfolding tl
one_if terms terms' body body' r s n m f = one_terms terms terms' (statement_tokens body ++ r) (statement_tokens body' ++ s) n m (ap (λ l. tl (tl l)) (sym (if_form terms body r) ∙ (f ∙ if_form terms' body' s)))

one_block : (body body' : Statements) (r s : Tokens) → statement_tokens (Block body) ++ r ≡ statement_tokens (Block body') ++ s → body_tokens body ++ codes "end" ∷ r ≡ body_tokens body' ++ codes "end" ∷ s
unfolding tl
one_block body body' r s f = ap tl (sym (block_form body r) ∙ (f ∙ block_form body' s))

mutual
  unfolding hd tl

  pub one_statement : (a b : Statement) (r s : Tokens) → IsNamedStatement a → IsNamedStatement b → statement_tokens a ++ r ≡ statement_tokens b ++ s → (a ≡ b) × (r ≡ s)
  one_statement (Assign to e) (Assign to' e') r s n m f = one_assign to e to' e' r s n.0 n.1 m.0 m.1 f
  one_statement (Assign to e) (If terms body) r s n m f = absurd (assign_first to e r (codes "if") n.0 not_if (ap hd f))
  one_statement (Assign to e) (Block body) r s n m f = absurd (assign_first to e r (codes "begin") n.0 not_begin (ap hd f))
  one_statement (If terms body) (Assign to e) r s n m f = absurd (assign_first to e s (codes "if") m.0 not_if (sym (ap hd f)))
  one_statement (If terms body) (If terms' body') r s n m f =
      let p = one_if terms terms' body body' r s n.0 m.0 f in let q = one_statement body body' r s n.1 m.1 p.1 in ((λ k. If (p.0 k) (q.0 k)), q.1)
  one_statement (If terms body) (Block body') r s n m f = absurd (if_begin (ap hd f))
  one_statement (Block body) (Assign to e) r s n m f = absurd (assign_first to e s (codes "begin") m.0 not_begin (sym (ap hd f)))
  one_statement (Block body) (If terms body') r s n m f = absurd (if_begin (sym (ap hd f)))
  one_statement (Block body) (Block body') r s n m f = let p = one_body body body' r s n m (one_block body body' r s f) in ((λ k. Block (p.0 k)), p.1)

  one_body : (a b : Statements) (r s : Tokens) → IsNamedBody a → IsNamedBody b → body_tokens a ++ codes "end" ∷ r ≡ body_tokens b ++ codes "end" ∷ s → (a ≡ b) × (r ≡ s)
  one_body Done Done r s n m f = (refl, ap tl f)
  one_body Done (Then b bs) r s n m f =
      absurd (statement_no_end b (body_tokens bs ++ codes "end" ∷ s) m.0 (sym (ap hd (f ∙ append_assoc (statement_tokens b) (body_tokens bs) (codes "end" ∷ s)))))
  one_body (Then a rest) Done r s n m f =
      absurd (statement_no_end a (body_tokens rest ++ codes "end" ∷ r) n.0 (ap hd (sym (append_assoc (statement_tokens a) (body_tokens rest) (codes "end" ∷ r)) ∙ f)))
  one_body (Then a rest) (Then b bs) r s n m f =
      let p = one_statement a b (body_tokens rest ++ codes "end" ∷ r) (body_tokens bs ++ codes "end" ∷ s) n.0 m.0
      (sym (append_assoc (statement_tokens a) (body_tokens rest) (codes "end" ∷ r)) ∙ (f ∙ append_assoc (statement_tokens b) (body_tokens bs) (codes "end" ∷ s))) in
      let q = one_body rest bs r s n.1 m.1 p.1 in ((λ k. Then (p.0 k) (q.0 k)), q.1)
