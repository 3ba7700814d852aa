-- A text spells one module.
use Rattle.std.proofs.Common.{◌≡◌, ℕ, List, [], ◌∷◌, ◌++◌, true, false, bytes_eq, codes, flat_map, refl, sym, ap, subst, ◌∙◌, append_assoc}
use Rattle.std.specs.List.{AllByRecursion}
use Rattle.std.specs.Fmt.{digits}
use Rattle.verilog_modules.specs.Tree.{Range, Single, Wide, Amount, Number, PowerOf, Parameter, Declaration, Input, Output, Register, Memory, Setting, Statement, Always, Module, Edge, Rising, Falling}
use Rattle.verilog_modules.specs.Grammar.{one_token, range_tokens, amount_tokens, parameter_tokens, declaration_tokens, setting_tokens, initial_tokens, joined, statement_tokens, edge_tokens, always_tokens, module_tokens}
use Rattle.verilog_modules.specs.Names.{is_name, IsName, IsNamedAmount, IsNamedParameter, IsNamedDeclaration, IsNamedSetting, AreNamedSettings, IsNamedStatement, IsNamedAlways, OneTree}
use Rattle.verilog_modules.proofs.StatementLaws.{Tokens, hd, tl, at, after, differs, same_number, not_close, not_end, one_items, one_statement}

-- Declarations

not_open : is_name (codes "[") ≡ false
unfolding is_name
not_open = refl

not_semicolon : is_name (codes ";") ≡ false
unfolding is_name
not_semicolon = refl

one_range : (a b : Range) (x y : List ℕ) (r s : Tokens) → IsName x → IsName y → range_tokens a ++ x ∷ r ≡ range_tokens b ++ y ∷ s → (a ≡ b) × (x ≡ y) × (r ≡ s)
unfolding hd tl at after
one_range Single Single x y r s n m e = (refl, ap hd e, ap tl e)
one_range Single (Wide w) x y r s n m e = absurd (differs x (codes "[") n not_open (ap hd e))
one_range (Wide w) Single x y r s n m e = absurd (differs y (codes "[") m not_open (sym (ap hd e)))
one_range (Wide w) (Wide v) x y r s n m e = (ap (λ k. Wide k) (ap (at 1) e), ap (at 7) e, ap (after 8) e)

declared_form : (k : List ℕ) (a : Range) (x : List ℕ) (r : Tokens) → k ∷ [] ++ range_tokens a ++ x ∷ [] ++ codes ";" ∷ [] ++ r ≡ k ∷ (range_tokens a ++ x ∷ (codes ";" ∷ r))
declared_form k a x r = append_assoc (k ∷ [] ++ range_tokens a ++ x ∷ []) (codes ";" ∷ []) r ∙ append_assoc (k ∷ [] ++ range_tokens a) (x ∷ []) (codes ";" ∷ r)

one_declared : (k : List ℕ) (a b : Range) (x y : List ℕ) (r s : Tokens) → IsName x → IsName y
    → k ∷ [] ++ range_tokens a ++ x ∷ [] ++ codes ";" ∷ [] ++ r ≡ k ∷ [] ++ range_tokens b ++ y ∷ [] ++ codes ";" ∷ [] ++ s → (a ≡ b) × (x ≡ y) × (r ≡ s)
unfolding tl
one_declared k a b x y r s n m e =
    let p = one_range a b x y (codes ";" ∷ r) (codes ";" ∷ s) n m (ap tl (sym (declared_form k a x r) ∙ (e ∙ declared_form k b y s))) in (p.0, p.1, ap tl p.2)

open_semicolon : codes "[" ≡ codes ";" → ⊥
open_semicolon e = absurd cc

register_no_memory : (a : Range) (x w m d : List ℕ) (r s : Tokens) → IsName x → declaration_tokens (Register a x) ++ r ≡ declaration_tokens (Memory w m d) ++ s → ⊥
unfolding hd tl at after
register_no_memory Single x w m d r s n e = differs x (codes "[") n not_open (ap (at 1) e)
register_no_memory (Wide v) x w m d r s n e = open_semicolon (sym (ap (at 9) e))

input_output : codes "input" ≡ codes "output" → ⊥
input_output e = absurd cc

input_reg : codes "input" ≡ codes "reg" → ⊥
input_reg e = absurd cc

output_reg : codes "output" ≡ codes "reg" → ⊥
output_reg e = absurd cc

abbrev Declared : Declaration → Declaration → Tokens → Tokens → Type 0
Declared a b r s = (a ≡ b) × (r ≡ s)

one_input : (a : Range) (x : List ℕ) (b : Declaration) (r s : Tokens) → IsName x → IsNamedDeclaration b → declaration_tokens (Input a x) ++ r ≡ declaration_tokens b ++ s → Declared (Input a x) b r s
unfolding hd
one_input a x (Input b y) r s n m e = let p = one_declared (codes "input") a b x y r s n m.1 e in ((λ k. Input (p.0 k) (p.1 k)), p.2)
one_input a x (Output b y) r s n m e = absurd (input_output (ap hd e))
one_input a x (Register b y) r s n m e = absurd (input_reg (ap hd e))
one_input a x (Memory w y d) r s n m e = absurd (input_reg (ap hd e))

one_output : (a : Range) (x : List ℕ) (b : Declaration) (r s : Tokens) → IsName x → IsNamedDeclaration b → declaration_tokens (Output a x) ++ r ≡ declaration_tokens b ++ s → Declared (Output a x) b r s
unfolding hd
one_output a x (Input b y) r s n m e = absurd (input_output (sym (ap hd e)))
one_output a x (Output b y) r s n m e = let p = one_declared (codes "output") a b x y r s n m.1 e in ((λ k. Output (p.0 k) (p.1 k)), p.2)
one_output a x (Register b y) r s n m e = absurd (output_reg (ap hd e))
one_output a x (Memory w y d) r s n m e = absurd (output_reg (ap hd e))

one_reg : (a : Range) (x : List ℕ) (b : Declaration) (r s : Tokens) → IsName x → IsNamedDeclaration b → declaration_tokens (Register a x) ++ r ≡ declaration_tokens b ++ s → Declared (Register a x) b r s
unfolding hd
one_reg a x (Input b y) r s n m e = absurd (input_reg (sym (ap hd e)))
one_reg a x (Output b y) r s n m e = absurd (output_reg (sym (ap hd e)))
one_reg a x (Register b y) r s n m e = let p = one_declared (codes "reg") a b x y r s n m.1 e in ((λ k. Register (p.0 k) (p.1 k)), p.2)
one_reg a x (Memory w y d) r s n m e = absurd (register_no_memory a x w y d r s n e)

one_memory : (w x d : List ℕ) (b : Declaration) (r s : Tokens) → IsNamedDeclaration b → declaration_tokens (Memory w x d) ++ r ≡ declaration_tokens b ++ s → Declared (Memory w x d) b r s
unfolding hd tl at after
one_memory w x d (Input b y) r s m e = absurd (input_reg (sym (ap hd e)))
one_memory w x d (Output b y) r s m e = absurd (output_reg (sym (ap hd e)))
one_memory w x d (Register b y) r s m e = absurd (register_no_memory b y w x d s r m.1 (sym e))
one_memory w x d (Memory v y c) r s m e = ((λ k. Memory (ap (at 2) e k) (ap (at 8) e k) (ap (at 12) e k)), ap (after 17) e)

one_declaration : (a b : Declaration) (r s : Tokens) → IsNamedDeclaration a → IsNamedDeclaration b → declaration_tokens a ++ r ≡ declaration_tokens b ++ s → Declared a b r s
one_declaration (Input a x) b r s n m e = one_input a x b r s n.1 m e
one_declaration (Output a x) b r s n m e = one_output a x b r s n.1 m e
one_declaration (Register a x) b r s n m e = one_reg a x b r s n.1 m e
one_declaration (Memory w x d) b r s n m e = one_memory w x d b r s m e

-- Parameters

semicolon_shift : codes ";" ≡ codes "<<" → ⊥
semicolon_shift e = absurd cc

one_amount : (a b : Amount) (r s : Tokens) → IsNamedAmount a → IsNamedAmount b → amount_tokens a ++ codes ";" ∷ r ≡ amount_tokens b ++ codes ";" ∷ s → (a ≡ b) × (r ≡ s)
unfolding hd tl at after
one_amount (Number a) (Number b) r s n m e = (ap (λ k. Number k) (same_number a b n m (ap hd e)), ap (after 2) e)
one_amount (Number a) (PowerOf b) r s n m e = absurd (semicolon_shift (ap (at 1) e))
one_amount (PowerOf a) (Number b) r s n m e = absurd (semicolon_shift (sym (ap (at 1) e)))
one_amount (PowerOf a) (PowerOf b) r s n m e = (ap (λ k. PowerOf k) (ap (at 2) e), ap (after 4) e)

one_parameter : (a b : Parameter) (r s : Tokens) → IsNamedParameter a → IsNamedParameter b → parameter_tokens a ++ r ≡ parameter_tokens b ++ s → (a ≡ b) × (r ≡ s)
unfolding hd tl at after
one_parameter a b r s n m e =
    let f = sym (append_assoc (codes "parameter" ∷ a.name ∷ codes "=" ∷ amount_tokens a.amount) (codes ";" ∷ []) r) ∙ (e ∙ append_assoc (codes "parameter" ∷ b.name ∷ codes "=" ∷ amount_tokens b.amount) (codes ";" ∷ []) s) in
    let p = one_amount a.amount b.amount r s n.1 m.1 (ap (after 3) f) in ((λ k. record { name = ap (at 1) f k; amount = p.0 k }), p.1)

-- Blocks

one_edge : (a b : Edge) (c d : List ℕ) (x y : Statement) (r s : Tokens) → IsNamedStatement x → IsNamedStatement y
    → edge_tokens a ++ c ∷ [] ++ codes ")" ∷ [] ++ statement_tokens x ++ r ≡ edge_tokens b ++ d ∷ [] ++ codes ")" ∷ [] ++ statement_tokens y ++ s → (a ≡ b) × (c ≡ d) × (x ≡ y) × (r ≡ s)
unfolding hd tl at after
one_edge Rising Rising c d x y r s n m e = let p = one_statement x y r s n m (ap (after 3) e) in (refl, ap (at 1) e, p.0, p.1)
one_edge Falling Falling c d x y r s n m e = let p = one_statement x y r s n m (ap (after 3) e) in (refl, ap (at 1) e, p.0, p.1)
one_edge Rising Falling c d x y r s n m e = absurd (edges (ap hd e)) where
  edges : codes "posedge" ≡ codes "negedge" → ⊥
  edges f = absurd cc
one_edge Falling Rising c d x y r s n m e = absurd (edges (sym (ap hd e))) where
  edges : codes "posedge" ≡ codes "negedge" → ⊥
  edges f = absurd cc

always_form : (a : Always) (r : Tokens) → always_tokens a ++ r ≡ codes "always" ∷ codes "@" ∷ codes "(" ∷ (edge_tokens a.edge ++ a.clock ∷ [] ++ codes ")" ∷ [] ++ statement_tokens a.body ++ r)
always_form a r = refl

one_always : (a b : Always) (r s : Tokens) → IsNamedAlways a → IsNamedAlways b → always_tokens a ++ r ≡ always_tokens b ++ s → (a ≡ b) × (r ≡ s)
unfolding hd tl at after
one_always a b r s n m e =
    let p = one_edge a.edge b.edge a.clock b.clock a.body b.body r s n.1 m.1 (ap (after 3) e) in ((λ k. record { edge = p.0 k; clock = p.1 k; body = p.2 k }), p.3)

-- Lists that end where no item begins

module _ {X : Type 0} (f : X → Tokens) (Good : X → Type 0) (Start : List ℕ → Type 0)
    (one : (a b : X) (r s : Tokens) → Good a → Good b → f a ++ r ≡ f b ++ s → (a ≡ b) × (r ≡ s)) (starts : (a : X) (r : Tokens) → Good a → Start (hd (f a ++ r))) where
  one_list : (xs ys : List X) (r s : Tokens) → AllByRecursion Good xs → AllByRecursion Good ys → (Start (hd r) → ⊥) → (Start (hd s) → ⊥) → flat_map f xs ++ r ≡ flat_map f ys ++ s → (xs ≡ ys) × (r ≡ s)
  one_list [] [] r s n m c d e = (refl, e)
  one_list [] (y ∷ ys) r s n m c d e = absurd (c (subst Start (sym (ap hd (e ∙ append_assoc (f y) (flat_map f ys) s))) (starts y (flat_map f ys ++ s) m.0)))
  one_list (x ∷ xs) [] r s n m c d e = absurd (d (subst Start (ap hd (sym (append_assoc (f x) (flat_map f xs) r) ∙ e)) (starts x (flat_map f xs ++ r) n.0)))
  one_list (x ∷ xs) (y ∷ ys) r s n m c d e =
      let p = one x y (flat_map f xs ++ r) (flat_map f ys ++ s) n.0 m.0 (sym (append_assoc (f x) (flat_map f xs) r) ∙ (e ∙ append_assoc (f y) (flat_map f ys) s)) in
      let q = one_list xs ys r s n.1 m.1 c d p.1 in ((λ k. p.0 k ∷ q.0 k), q.1)

-- Initial blocks

-- the digits behind the apostrophe and the base
digits_in : List ℕ → List ℕ
digits_in [] = []
digits_in (a ∷ []) = []
digits_in (a ∷ b ∷ digits) = digits

one_setting : (a b : Setting) (r s : Tokens) → IsNamedSetting a → IsNamedSetting b → setting_tokens a ++ r ≡ setting_tokens b ++ s → (a ≡ b) × (r ≡ s)
unfolding hd tl at after digits_in
one_setting a b r s n m e =
    let p = same_number a.address b.address n.1 m.1 (ap (at 2) e) in
    let q = same_number a.size b.size n.2 m.2 (ap (at 5) e) in
    ((λ k. record { memory = ap hd e k; address = p k; size = q k; digits = ap (λ (l : Tokens). digits_in (at 6 l)) e k }), ap (after 8) e)

setting_starts : (a : Setting) (r : Tokens) → IsNamedSetting a → IsName (hd (setting_tokens a ++ r))
unfolding hd
setting_starts a r n = n.0

end_no_name : (r : Tokens) → IsName (hd (codes "end" ∷ r)) → ⊥
unfolding hd
end_no_name r n = differs (codes "end") (codes "end") n not_end refl

initial_form : (a : List Setting) (r : Tokens) → initial_tokens a ++ r ≡ codes "initial" ∷ codes "begin" ∷ (flat_map setting_tokens a ++ codes "end" ∷ r)
initial_form a r = ap (λ (l : Tokens). codes "initial" ∷ codes "begin" ∷ l) (append_assoc (flat_map setting_tokens a) (codes "end" ∷ []) r)

one_initial : (a b : List Setting) (r s : Tokens) → AreNamedSettings a → AreNamedSettings b → initial_tokens a ++ r ≡ initial_tokens b ++ s → (a ≡ b) × (r ≡ s)
unfolding hd tl at after
one_initial a b r s n m e =
    let p = one_list setting_tokens IsNamedSetting IsName one_setting setting_starts a b (codes "end" ∷ r) (codes "end" ∷ s) n m (end_no_name r) (end_no_name s)
    (ap (after 2) (sym (initial_form a r) ∙ (e ∙ initial_form b s))) in (p.0, ap tl p.1)

-- Modules

abbrev ending : Tokens
ending = codes "endmodule" ∷ []

unlike : (a b : List ℕ) → bytes_eq a a ≡ true → bytes_eq a b ≡ false → a ≡ b → ⊥
unlike a b f g e = let h : true ≡ false = sym f ∙ (ap (bytes_eq a) e ∙ g) in absurd cc

parameters_start : (p : Parameter) (r : Tokens) → hd (parameter_tokens p ++ r) ≡ codes "parameter"
unfolding hd
parameters_start p r = refl

abbrev IsDeclaring : List ℕ → Type 0
IsDeclaring k = (k ≡ codes "always" → ⊥) × (k ≡ codes "endmodule" → ⊥) × (k ≡ codes "parameter" → ⊥) × (k ≡ codes "initial" → ⊥)

declarations_start : (d : Declaration) (r : Tokens) → IsDeclaring (hd (declaration_tokens d ++ r))
unfolding hd
declarations_start (Input a x) r = (unlike (codes "input") (codes "always") refl refl, unlike (codes "input") (codes "endmodule") refl refl, unlike (codes "input") (codes "parameter") refl refl, unlike (codes "input") (codes "initial") refl refl)
declarations_start (Output a x) r = (unlike (codes "output") (codes "always") refl refl, unlike (codes "output") (codes "endmodule") refl refl, unlike (codes "output") (codes "parameter") refl refl, unlike (codes "output") (codes "initial") refl refl)
declarations_start (Register a x) r = (unlike (codes "reg") (codes "always") refl refl, unlike (codes "reg") (codes "endmodule") refl refl, unlike (codes "reg") (codes "parameter") refl refl, unlike (codes "reg") (codes "initial") refl refl)
declarations_start (Memory w x d) r = (unlike (codes "reg") (codes "always") refl refl, unlike (codes "reg") (codes "endmodule") refl refl, unlike (codes "reg") (codes "parameter") refl refl, unlike (codes "reg") (codes "initial") refl refl)

initial_start : (a : List Setting) (r : Tokens) → hd (initial_tokens a ++ r) ≡ codes "initial"
unfolding hd
initial_start a r = refl

always_start : (a : Always) (r : Tokens) → hd (always_tokens a ++ r) ≡ codes "always"
unfolding hd
always_start a r = refl

end_no_always : hd ending ≡ codes "always" → ⊥
unfolding hd
end_no_always e = unlike (codes "endmodule") (codes "always") refl refl e

-- what stands behind the declarations
abbrev blocks : List (List Setting) → List Always → Tokens
blocks is xs = flat_map initial_tokens is ++ (flat_map always_tokens xs ++ ending)

-- what follows the initial blocks begins none, nor does what follows the declarations or the parameters
always_first : (xs : List Always) → hd (flat_map always_tokens xs ++ ending) ≡ codes "initial" → ⊥
unfolding hd
always_first [] e = unlike (codes "endmodule") (codes "initial") refl refl e
always_first (a ∷ xs) e = unlike (codes "always") (codes "initial") refl refl e

blocks_first : (is : List (List Setting)) (xs : List Always) → IsDeclaring (hd (blocks is xs)) → ⊥
unfolding hd
blocks_first [] [] e = e.1 refl
blocks_first [] (a ∷ xs) e = e.0 refl
blocks_first (a ∷ is) xs e = e.3 refl

declarations_first : (ds : List Declaration) (is : List (List Setting)) (xs : List Always) → hd (flat_map declaration_tokens ds ++ blocks is xs) ≡ codes "parameter" → ⊥
unfolding hd
declarations_first [] [] [] e = unlike (codes "endmodule") (codes "parameter") refl refl e
declarations_first [] [] (a ∷ xs) e = unlike (codes "always") (codes "parameter") refl refl e
declarations_first [] (a ∷ is) xs e = unlike (codes "initial") (codes "parameter") refl refl e
declarations_first (d ∷ ds) is xs e =
    (declarations_start d (flat_map declaration_tokens ds ++ blocks is xs)).2 (sym (ap hd (append_assoc (declaration_tokens d) (flat_map declaration_tokens ds) (blocks is xs))) ∙ e)

one_ports : (xs ys : List (List ℕ)) (r s : Tokens) → AllByRecursion IsName xs → AllByRecursion IsName ys → joined one_token (codes "," ∷ []) xs ++ codes ")" ∷ r ≡ joined one_token (codes "," ∷ []) ys ++ codes ")" ∷ s → (xs ≡ ys) × (r ≡ s)
unfolding hd tl
one_ports = one_items one_token IsName (codes ",") (λ a b r s n m c d e. (ap hd e, ap tl e)) (λ a r n e. differs a (codes ")") n not_close e) (λ e. absurd cc) (λ e. absurd cc)

abbrev behind_ports : Module → Tokens
behind_ports m = flat_map parameter_tokens m.parameters ++ (flat_map declaration_tokens m.declarations ++ blocks m.initial m.always)

module_form : (m : Module) → module_tokens m ≡ codes "module" ∷ m.name ∷ codes "(" ∷ (joined one_token (codes "," ∷ []) m.ports ++ codes ")" ∷ (codes ";" ∷ behind_ports m))
module_form m =
    let j = joined one_token (codes "," ∷ []) m.ports in let p = flat_map parameter_tokens m.parameters in let d = flat_map declaration_tokens m.declarations in
    let i = flat_map initial_tokens m.initial in let a = flat_map always_tokens m.always in
    let head = codes ")" ∷ codes ";" ∷ [] in
    ap (λ (l : Tokens). codes "module" ∷ m.name ∷ codes "(" ∷ l)
    (append_assoc (j ++ head ++ p ++ d ++ i) a ending
    ∙ (append_assoc (j ++ head ++ p ++ d) i (a ++ ending)
    ∙ (append_assoc (j ++ head ++ p) d (i ++ (a ++ ending)) ∙ (append_assoc (j ++ head) p (d ++ (i ++ (a ++ ending))) ∙ append_assoc j head (p ++ (d ++ (i ++ (a ++ ending))))))))

pub one_tree : OneTree
unfolding hd tl at after
one_tree m n text e f =
    let g = sym (module_form m) ∙ (sym e.tokens ∙ (f.tokens ∙ module_form n)) in
    let one = e.named in let other = f.named in
    let p = one_ports m.ports n.ports (codes ";" ∷ behind_ports m) (codes ";" ∷ behind_ports n) one.ports other.ports (ap (after 3) g) in
    let q = one_list parameter_tokens IsNamedParameter (λ k. k ≡ codes "parameter") one_parameter (λ a r good. parameters_start a r) m.parameters n.parameters
    (flat_map declaration_tokens m.declarations ++ blocks m.initial m.always) (flat_map declaration_tokens n.declarations ++ blocks n.initial n.always) one.parameters other.parameters
    (declarations_first m.declarations m.initial m.always) (declarations_first n.declarations n.initial n.always) (ap tl p.1) in
    let w = one_list declaration_tokens IsNamedDeclaration IsDeclaring one_declaration (λ a r good. declarations_start a r) m.declarations n.declarations (blocks m.initial m.always) (blocks n.initial n.always)
    one.declarations other.declarations (blocks_first m.initial m.always) (blocks_first n.initial n.always) q.1 in
    let i = one_list initial_tokens AreNamedSettings (λ k. k ≡ codes "initial") one_initial (λ a r good. initial_start a r) m.initial n.initial (flat_map always_tokens m.always ++ ending) (flat_map always_tokens n.always ++ ending)
    one.initial other.initial (always_first m.always) (always_first n.always) w.1 in
    let b = one_list always_tokens IsNamedAlways (λ k. k ≡ codes "always") one_always (λ a r good. always_start a r) m.always n.always ending ending one.always other.always end_no_always end_no_always i.1 in
    λ k. record { name = ap (at 1) g k; ports = p.0 k; parameters = q.0 k; declarations = w.0 k; initial = i.0 k; always = b.0 k }
