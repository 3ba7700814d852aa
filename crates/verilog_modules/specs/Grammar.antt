-- The tokens of a module, by annex A of IEEE 1364-2001.
use Rattle.std.specs.Prelude.{ℕ, List, [], ◌∷◌, ◌++◌, codes, flat_map, if◌then◌else◌}
use Rattle.std.specs.Fmt.{decimal}
use Rattle.verilog_modules.specs.Tree.{Range, Single, Wide, Amount, Number, PowerOf, Parameter, Declaration, Input, Output, Register, Memory, Setting, Expression, Whole, Element, BitOf, PartOf, Target, ToRegister, ToWord, ToPart, Term, Statement, Assign, If, Block, Statements, Done, Then, Edge, Rising, Falling, Always, Module}
use Rattle.verilog_modules.specs.Tokens.{tokens_of}

abbrev pub one_token : List ℕ → List (List ℕ)
one_token name = name ∷ []

abbrev pub range_tokens : Range → List (List ℕ)
range_tokens Single = []
range_tokens (Wide w) = tokens_of (codes "[") ++ one_token w ++ tokens_of (codes "-1:0]")

abbrev pub amount_tokens : Amount → List (List ℕ)
amount_tokens (Number n) = one_token (decimal n)
amount_tokens (PowerOf p) = tokens_of (codes "1 <<") ++ one_token p

abbrev pub parameter_tokens : Parameter → List (List ℕ)
parameter_tokens p = tokens_of (codes "parameter") ++ one_token p.name ++ tokens_of (codes "=") ++ amount_tokens p.amount ++ tokens_of (codes ";")

abbrev pub declaration_tokens : Declaration → List (List ℕ)
declaration_tokens (Input r x) = tokens_of (codes "input") ++ range_tokens r ++ one_token x ++ tokens_of (codes ";")
declaration_tokens (Output r x) = tokens_of (codes "output") ++ range_tokens r ++ one_token x ++ tokens_of (codes ";")
declaration_tokens (Register r x) = tokens_of (codes "reg") ++ range_tokens r ++ one_token x ++ tokens_of (codes ";")
declaration_tokens (Memory w m d) = tokens_of (codes "reg") ++ range_tokens (Wide w) ++ one_token m ++ tokens_of (codes "[0:") ++ one_token d ++ tokens_of (codes "-1];")

-- the apostrophe, the base and the digits are one token
abbrev pub hex_token : List ℕ → List ℕ
hex_token digits = 39 ∷ 104 ∷ digits

abbrev pub setting_tokens : Setting → List (List ℕ)
setting_tokens s = one_token s.memory ++ tokens_of (codes "[") ++ one_token (decimal s.address) ++ tokens_of (codes "] =") ++ one_token (decimal s.size) ++ one_token (hex_token s.digits) ++ tokens_of (codes ";")

abbrev pub initial_tokens : List Setting → List (List ℕ)
initial_tokens settings = tokens_of (codes "initial begin") ++ flat_map setting_tokens settings ++ tokens_of (codes "end")

abbrev pub bit_tokens : ℕ → List (List ℕ)
bit_tokens k = tokens_of (codes "[") ++ one_token (decimal k) ++ tokens_of (codes "]")

abbrev pub part_tokens : ℕ → ℕ → List (List ℕ)
part_tokens high low = tokens_of (codes "[") ++ one_token (decimal high) ++ tokens_of (codes ":") ++ one_token (decimal low) ++ tokens_of (codes "]")

abbrev pub element_tokens : List ℕ → List ℕ → List (List ℕ)
element_tokens m r = one_token m ++ tokens_of (codes "[") ++ one_token r ++ tokens_of (codes "]")

abbrev pub expression_tokens : Expression → List (List ℕ)
expression_tokens (Whole r) = one_token r
expression_tokens (Element m r) = element_tokens m r
expression_tokens (BitOf r k) = one_token r ++ bit_tokens k
expression_tokens (PartOf r high low) = one_token r ++ part_tokens high low

abbrev pub target_tokens : Target → List (List ℕ)
target_tokens (ToRegister r) = one_token r
target_tokens (ToWord m r) = element_tokens m r
target_tokens (ToPart m r high low) = element_tokens m r ++ part_tokens high low

abbrev pub term_tokens : Term → List (List ℕ)
term_tokens x = (if x.negated then tokens_of (codes "!") else []) ++ expression_tokens x.of

-- items with a token between them
abbrev pub joined : {X : Type 0} → (X → List (List ℕ)) → List (List ℕ) → List X → List (List ℕ)
joined f between [] = []
joined f between (x ∷ []) = f x
joined f between (x ∷ y ∷ xs) = f x ++ between ++ joined f between (y ∷ xs)

abbrev mutual
  pub statement_tokens : Statement → List (List ℕ)
  statement_tokens (Assign to e) = target_tokens to ++ tokens_of (codes "<=") ++ expression_tokens e ++ tokens_of (codes ";")
  statement_tokens (If terms body) = tokens_of (codes "if (") ++ joined term_tokens (tokens_of (codes "&&")) terms ++ tokens_of (codes ")") ++ statement_tokens body
  statement_tokens (Block body) = tokens_of (codes "begin") ++ body_tokens body ++ tokens_of (codes "end")

  pub body_tokens : Statements → List (List ℕ)
  body_tokens Done = []
  body_tokens (Then s rest) = statement_tokens s ++ body_tokens rest

abbrev pub edge_tokens : Edge → List (List ℕ)
edge_tokens Rising = tokens_of (codes "posedge")
edge_tokens Falling = tokens_of (codes "negedge")

abbrev pub always_tokens : Always → List (List ℕ)
always_tokens a = tokens_of (codes "always @(") ++ edge_tokens a.edge ++ one_token a.clock ++ tokens_of (codes ")") ++ statement_tokens a.body

abbrev pub module_tokens : Module → List (List ℕ)
module_tokens m =
    tokens_of (codes "module") ++ one_token m.name ++ tokens_of (codes "(") ++ joined one_token (tokens_of (codes ",")) m.ports ++ tokens_of (codes ");")
    ++ flat_map parameter_tokens m.parameters ++ flat_map declaration_tokens m.declarations ++ flat_map initial_tokens m.initial ++ flat_map always_tokens m.always ++ tokens_of (codes "endmodule")
