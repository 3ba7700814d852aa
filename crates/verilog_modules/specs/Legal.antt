-- Modules that a tool has to take: what IEEE 1364-2001 asks of the names, sizes and ranges of such a module. The grammar asks the rest.
use Rattle.std.specs.Prelude.{◌≡◌, ℕ, ◌<◌, ◌≤◌, ◌^◌, List, [], ◌∷◌, ◌++◌, Bool, true, false, ◌&&◌, not, bytes_eq, filter, map, if◌then◌else◌}
use Rattle.std.specs.List.{list_all, list_any, AllByRecursion}
use Rattle.std.specs.Str.Parse.{digits_value}
use Rattle.verilog_modules.specs.Tree.{Range, Single, Wide, Amount, Number, PowerOf, Parameter, Declaration, Input, Output, Register, Memory, Setting, Expression, Whole, Element, BitOf, PartOf, Target, ToRegister, ToWord, ToPart, Term, Statement, Assign, If, Block, Statements, Done, Then, Always, Module}
use Rattle.verilog_modules.specs.Meaning.{parameter_value}

-- Names

abbrev pub has : List (List ℕ) → List ℕ → Bool
has names name = list_any (bytes_eq name) names

abbrev pub are_among : List (List ℕ) → List (List ℕ) → Bool
are_among names others = list_all (has others) names

abbrev pub are_distinct : List (List ℕ) → Bool
are_distinct [] = true
are_distinct (name ∷ names) = not (has names name) && are_distinct names

abbrev pub declared_name : Declaration → List ℕ
declared_name (Input r x) = x
declared_name (Output r x) = x
declared_name (Register r x) = x
declared_name (Memory w x d) = x

abbrev pub declares_input : Declaration → Bool
declares_input (Input r x) = true
declares_input (Output r x) = false
declares_input (Register r x) = false
declares_input (Memory w x d) = false

abbrev pub declares_output : Declaration → Bool
declares_output (Input r x) = false
declares_output (Output r x) = true
declares_output (Register r x) = false
declares_output (Memory w x d) = false

abbrev pub declares_register : Declaration → Bool
declares_register (Input r x) = false
declares_register (Output r x) = false
declares_register (Register r x) = true
declares_register (Memory w x d) = false

abbrev pub declares_memory : Declaration → Bool
declares_memory (Input r x) = false
declares_memory (Output r x) = false
declares_memory (Register r x) = false
declares_memory (Memory w x d) = true

abbrev pub declares_vector : Declaration → Bool
declares_vector (Input Single x) = false
declares_vector (Input (Wide w) x) = true
declares_vector (Output Single x) = false
declares_vector (Output (Wide w) x) = true
declares_vector (Register Single x) = false
declares_vector (Register (Wide w) x) = true
declares_vector (Memory w x d) = false

abbrev pub declared_names : (Declaration → Bool) → Module → List (List ℕ)
declared_names kind m = map declared_name (filter kind m.declarations)

abbrev pub parameter_names : Module → List (List ℕ)
parameter_names m = map (λ (p : Parameter). p.name) m.parameters

abbrev pub directions : Module → List (List ℕ)
directions m = declared_names declares_input m ++ declared_names declares_output m

-- what has a value: inputs, outputs and registers, but no memory as a whole (3.10.3)
abbrev pub valued_names : Module → List (List ℕ)
valued_names m = directions m ++ declared_names declares_register m

-- Ranges

abbrev pub range_parameters : Range → List (List ℕ)
range_parameters Single = []
range_parameters (Wide w) = w ∷ []

-- the parameters that a declaration names
abbrev pub sizes_of : Declaration → List (List ℕ)
sizes_of (Input r x) = range_parameters r
sizes_of (Output r x) = range_parameters r
sizes_of (Register r x) = range_parameters r
sizes_of (Memory w x d) = w ∷ d ∷ []

-- a power is of a parameter before it (3.11.1)
abbrev pub is_known : List (List ℕ) → Amount → Bool
is_known before (Number n) = true
is_known before (PowerOf p) = has before p

abbrev pub are_known : List (List ℕ) → List Parameter → Bool
are_known before [] = true
are_known before (p ∷ ps) = is_known before p.amount && are_known (p.name ∷ before) ps

abbrev pub same_range : Range → Range → Bool
same_range Single Single = true
same_range Single (Wide w) = false
same_range (Wide v) Single = false
same_range (Wide v) (Wide w) = bytes_eq v w

-- a register of an output's name has the output's range (12.3.3)
abbrev pub agrees_with : List ℕ → Range → Declaration → Bool
agrees_with x r (Register s y) = if bytes_eq x y then same_range r s else true
agrees_with x r (Input s y) = true
agrees_with x r (Output s y) = true
agrees_with x r (Memory w y d) = true

abbrev pub is_alike : List Declaration → Declaration → Bool
is_alike ds (Output r x) = list_all (agrees_with x r) ds
is_alike ds (Input r x) = true
is_alike ds (Register r x) = true
is_alike ds (Memory w x d) = true

-- Statements

-- a bit or a part is of a vector, and a part falls, as the vector's range does (4.2.1)
abbrev pub IsLegalExpression : Module → Expression → Type 0
IsLegalExpression m (Whole r) = has (valued_names m) r ≡ true
IsLegalExpression m (Element x r) = (has (declared_names declares_memory m) x ≡ true) × (has (valued_names m) r ≡ true)
IsLegalExpression m (BitOf r k) = has (declared_names declares_vector m) r ≡ true
IsLegalExpression m (PartOf r high low) = (has (declared_names declares_vector m) r ≡ true) × (low ≤ high)

-- what is assigned is a register or a word (9.2)
abbrev pub IsLegalTarget : Module → Target → Type 0
IsLegalTarget m (ToRegister r) = has (declared_names declares_register m) r ≡ true
IsLegalTarget m (ToWord x r) = (has (declared_names declares_memory m) x ≡ true) × (has (valued_names m) r ≡ true)
IsLegalTarget m (ToPart x r high low) = (has (declared_names declares_memory m) x ≡ true) × (has (valued_names m) r ≡ true) × (low ≤ high)

abbrev mutual
  pub IsLegalStatement : Module → Statement → Type 0
  IsLegalStatement m (Assign to e) = IsLegalTarget m to × IsLegalExpression m e
  IsLegalStatement m (If terms body) = AllByRecursion (λ (t : Term). IsLegalExpression m t.of) terms × IsLegalStatement m body
  IsLegalStatement m (Block body) = IsLegalBody m body

  pub IsLegalBody : Module → Statements → Type 0
  IsLegalBody m Done = Unit {0}
  IsLegalBody m (Then first rest) = IsLegalStatement m first × IsLegalBody m rest

abbrev pub IsLegalAlways : Module → Always → Type 0
IsLegalAlways m a = (has (valued_names m) a.clock ≡ true) × IsLegalStatement m a.body

-- a constant has a bit at least, and a digit, and its number fits its bits (2.5.1)
pub record IsLegalSetting (m : Module) (x : Setting) : Type 0 where
  pub memory : has (declared_names declares_memory m) x.memory ≡ true
  pub size : 1 ≤ x.size
  pub digits : bytes_eq x.digits [] ≡ false
  pub fits : digits_value 16 x.digits < 2 ^ x.size

-- a range falls or a memory rises (3.3.1, 3.10.3), and each number fits the 31 bits that every tool has (2.5.1)
abbrev pub IsSize : ℕ → Type 0
IsSize n = (1 ≤ n) × (n < 2 ^ 31)

pub record IsLegal (m : Module) : Type 0 where
  -- the ports are distinct, and are the names that are declared as inputs and outputs, each once (12.3.2, 12.3.3)
  pub ports : are_distinct m.ports ≡ true
  pub once : are_distinct (directions m) ≡ true
  pub declared : (are_among m.ports (directions m) && are_among (directions m) m.ports) ≡ true
  -- each name is declared once (3.12), but an output may be a register too
  pub inner : are_distinct (parameter_names m ++ declared_names declares_input m ++ declared_names declares_register m ++ declared_names declares_memory m) ≡ true
  pub outer : are_distinct (parameter_names m ++ declared_names declares_output m ++ declared_names declares_memory m) ≡ true
  pub alike : list_all (is_alike m.declarations) m.declarations ≡ true
  -- sizes are parameters that there are
  pub known : are_known [] m.parameters ≡ true
  pub sized : list_all (λ d. are_among (sizes_of d) (parameter_names m)) m.declarations ≡ true
  pub sizes : AllByRecursion (λ (p : Parameter). IsSize (parameter_value m p.name)) m.parameters
  -- and what is done is done to what there is
  pub initial : AllByRecursion (λ (settings : List Setting). AllByRecursion (IsLegalSetting m) settings) m.initial
  pub always : AllByRecursion (IsLegalAlways m) m.always
