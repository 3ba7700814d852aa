-- Trees whose names are identifiers, and the texts that spell one.
use Rattle.std.specs.Prelude.{◌≡◌, ℕ, ◌<◌, ◌^◌, List, [], ◌∷◌, Bool, true, false, ◌||◌, ◌&&◌, not, nat_le}
use Rattle.std.specs.List.{list_all, AllByRecursion}
use Rattle.sram_plan.specs.Keywords.{is_keyword}
use Rattle.verilog_modules.specs.Tree.{Range, Single, Wide, Amount, Number, PowerOf, Parameter, Declaration, Input, Output, Register, Memory, Setting, Expression, Whole, Element, BitOf, PartOf, Target, ToRegister, ToWord, ToPart, Term, Statement, Assign, If, Block, Statements, Done, Then, Always, Module}
use Rattle.or_geom.specs.Texts.{is_word_byte}
use Rattle.verilog_modules.specs.Tokens.{tokens_of}
use Rattle.verilog_modules.specs.Grammar.{module_tokens}

-- it begins with no digit (2.7)
abbrev pub starts_word : List ℕ → Bool
starts_word [] = false
starts_word (b ∷ bytes) = is_word_byte b && not (nat_le 48 b && nat_le b 57)

-- an identifier that is no keyword (2.7, 2.7.3)
unfoldable pub is_name : List ℕ → Bool
is_name text = starts_word text && (list_all is_word_byte text && not (is_keyword text))

abbrev pub IsName : List ℕ → Type 0
IsName text = is_name text ≡ true

-- no number has more than 64 digits
unfoldable pub IsNumber : ℕ → Type 0
IsNumber n = n < 10 ^ 64

abbrev pub IsNamedRange : Range → Type 0
IsNamedRange Single = Unit {0}
IsNamedRange (Wide w) = IsName w

abbrev pub IsNamedAmount : Amount → Type 0
IsNamedAmount (Number n) = IsNumber n
IsNamedAmount (PowerOf p) = IsName p

abbrev pub IsNamedParameter : Parameter → Type 0
IsNamedParameter p = IsName p.name × IsNamedAmount p.amount

abbrev pub IsNamedDeclaration : Declaration → Type 0
IsNamedDeclaration (Input r x) = IsNamedRange r × IsName x
IsNamedDeclaration (Output r x) = IsNamedRange r × IsName x
IsNamedDeclaration (Register r x) = IsNamedRange r × IsName x
IsNamedDeclaration (Memory w m d) = IsName w × IsName m × IsName d

-- 0 to 9, a to f, A to F (2.5.1)
abbrev pub is_hex_digit : ℕ → Bool
is_hex_digit b = (nat_le 48 b && nat_le b 57) || ((nat_le 97 b && nat_le b 102) || (nat_le 65 b && nat_le b 70))

abbrev pub IsNamedSetting : Setting → Type 0
IsNamedSetting s = IsName s.memory × IsNumber s.address × IsNumber s.size × (list_all is_hex_digit s.digits ≡ true)

abbrev pub AreNamedSettings : List Setting → Type 0
AreNamedSettings settings = AllByRecursion IsNamedSetting settings

abbrev pub IsNamedExpression : Expression → Type 0
IsNamedExpression (Whole r) = IsName r
IsNamedExpression (Element m r) = IsName m × IsName r
IsNamedExpression (BitOf r k) = IsName r × IsNumber k
IsNamedExpression (PartOf r high low) = IsName r × IsNumber high × IsNumber low

abbrev pub IsNamedTarget : Target → Type 0
IsNamedTarget (ToRegister r) = IsName r
IsNamedTarget (ToWord m r) = IsName m × IsName r
IsNamedTarget (ToPart m r high low) = IsName m × IsName r × IsNumber high × IsNumber low

abbrev pub IsNamedTerm : Term → Type 0
IsNamedTerm t = IsNamedExpression t.of

abbrev mutual
  pub IsNamedStatement : Statement → Type 0
  IsNamedStatement (Assign to e) = IsNamedTarget to × IsNamedExpression e
  IsNamedStatement (If terms body) = AllByRecursion IsNamedTerm terms × IsNamedStatement body
  IsNamedStatement (Block body) = IsNamedBody body

  pub IsNamedBody : Statements → Type 0
  IsNamedBody Done = Unit {0}
  IsNamedBody (Then first rest) = IsNamedStatement first × IsNamedBody rest

abbrev pub IsNamedAlways : Always → Type 0
IsNamedAlways a = IsName a.clock × IsNamedStatement a.body

pub record HasLegalNames (m : Module) : Type 0 where
  pub name : IsName m.name
  pub ports : AllByRecursion IsName m.ports
  pub parameters : AllByRecursion IsNamedParameter m.parameters
  pub declarations : AllByRecursion IsNamedDeclaration m.declarations
  pub initial : AllByRecursion AreNamedSettings m.initial
  pub always : AllByRecursion IsNamedAlways m.always

-- the text spells the module: its tokens are the module's, whatever blanks stand between them
pub record SpellsModule (m : Module) (text : List ℕ) : Type 0 where
  pub named : HasLegalNames m
  pub tokens : tokens_of text ≡ module_tokens m

-- a text spells one module at most
abbrev pub OneTree : Type 0
OneTree = (m n : Module) (text : List ℕ) → SpellsModule m text → SpellsModule n text → m ≡ n
