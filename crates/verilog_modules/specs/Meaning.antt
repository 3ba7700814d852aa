-- What a module does at an edge of its clock, and where it starts. Clauses are those of IEEE 1364-2001. There is no time: what stands at the inputs
-- holds while the clock moves.
use Rattle.std.specs.Prelude.{◌≡◌, ℕ, zero, suc, ◌+◌, ◌-◌, ◌*◌, ◌^◌, List, [], ◌∷◌, ◌++◌, Bool, true, false, ◌&&◌, not, nat_eq, nat_le, nat_lt, if◌then◌else◌, Option, Some, None, flat_map, filter, IsPermutation, bytes_eq}
use Rattle.std.specs.Str.Parse.{digits_value}
use Rattle.sram_netlist.specs.Netlist.{lowest_bit, high_bits}
use Rattle.verilog_modules.specs.Tree.{Range, Single, Wide, Amount, Number, PowerOf, Parameter, Declaration, Input, Output, Register, Memory, Setting, Expression, Whole, Element, BitOf, PartOf, Target, ToRegister, ToWord, ToPart, Term, Statement, Assign, If, Block, Statements, Done, Then, Edge, Rising, Falling, Always, Module}

-- 0, 1, or x: not known (3.1)
abbrev pub Bit : Type 0
Bit = Option Bool

-- what registers hold, by name and bit, and memories, by name, address and bit
pub record ModuleState : Type 0 where
  pub regs : List ℕ → ℕ → Bit
  pub mems : List ℕ → ℕ → ℕ → Bit

-- what stands at the inputs
abbrev pub InputBits : Type 0
InputBits = List ℕ → ℕ → Bit

-- Sizes

-- a shift is by so many bits, and a number has 32 bits at least (4.1.12, 2.5.1): the values of a legal module are below 2^31
abbrev pub amount_in : (List ℕ → ℕ) → Amount → ℕ
amount_in known (Number n) = n
amount_in known (PowerOf p) = 2 ^ known p

-- the values of parameters, each from those before it (3.11.1)
abbrev pub values_after : (List ℕ → ℕ) → List Parameter → List ℕ → ℕ
values_after known [] = known
values_after known (p ∷ ps) = values_after (λ name. if bytes_eq name p.name then amount_in known p.amount else known name) ps

abbrev pub parameter_value : Module → List ℕ → ℕ
parameter_value m = values_after (λ name. 0) m.parameters

-- [W-1:0] has W bits (3.3.1)
abbrev pub range_width : Module → Range → ℕ
range_width m Single = 1
range_width m (Wide w) = parameter_value m w

-- the bits of a port, a register, or a word of a memory, by its first declaration
abbrev pub width_among : Module → List ℕ → List Declaration → ℕ
width_among m x [] = 0
width_among m x (Input r y ∷ ds) = if bytes_eq x y then range_width m r else width_among m x ds
width_among m x (Output r y ∷ ds) = if bytes_eq x y then range_width m r else width_among m x ds
width_among m x (Register r y ∷ ds) = if bytes_eq x y then range_width m r else width_among m x ds
width_among m x (Memory w y d ∷ ds) = if bytes_eq x y then parameter_value m w else width_among m x ds

abbrev pub width_of : Module → List ℕ → ℕ
width_of m x = width_among m x m.declarations

-- the words of a memory (3.10.3)
abbrev pub depth_among : Module → List ℕ → List Declaration → ℕ
depth_among m x [] = 0
depth_among m x (Memory w y d ∷ ds) = if bytes_eq x y then parameter_value m d else depth_among m x ds
depth_among m x (Input r y ∷ ds) = depth_among m x ds
depth_among m x (Output r y ∷ ds) = depth_among m x ds
depth_among m x (Register r y ∷ ds) = depth_among m x ds

abbrev pub depth : Module → List ℕ → ℕ
depth m x = depth_among m x m.declarations

abbrev pub is_input_among : List ℕ → List Declaration → Bool
is_input_among x [] = false
is_input_among x (Input r y ∷ ds) = if bytes_eq x y then true else is_input_among x ds
is_input_among x (Output r y ∷ ds) = is_input_among x ds
is_input_among x (Register r y ∷ ds) = is_input_among x ds
is_input_among x (Memory w y d ∷ ds) = is_input_among x ds

-- Values

abbrev pub signal : Module → InputBits → ModuleState → List ℕ → ℕ → Bit
signal m inputs s x = if is_input_among x m.declarations then inputs x else s.regs x

-- the number that bits make, if all are known: an address with an x is none (4.2.2)
abbrev pub with_low : Bit → Option ℕ → Option ℕ
with_low (Some b) (Some n) = Some ((if b then 1 else 0) + 2 * n)
with_low (Some b) None = None
with_low None n = None

abbrev pub known_number : ℕ → (ℕ → Bit) → Option ℕ
known_number zero f = Some 0
known_number (suc n) f = with_low (f 0) (known_number n (λ j. f (suc j)))

abbrev pub address : Module → InputBits → ModuleState → List ℕ → Option ℕ
address m inputs s r = known_number (width_of m r) (signal m inputs s r)

-- a word, or x where the address isn't known or isn't there (4.2.2)
abbrev pub word_at : Module → ModuleState → List ℕ → Option ℕ → ℕ → Bit
word_at m s x None i = None
word_at m s x (Some a) i = if nat_lt a (depth m x) then s.mems x a i else None

-- an unsigned value is extended by zeros (4.4, 4.5)
abbrev pub extended : ℕ → (ℕ → Bit) → ℕ → Bit
extended n f i = if nat_lt i n then f i else Some false

-- bits that aren't there are x (4.2.1)
abbrev pub within : ℕ → (ℕ → Bit) → ℕ → Bit
within n f i = if nat_lt i n then f i else None

abbrev pub size_of : Module → Expression → ℕ
size_of m (Whole r) = width_of m r
size_of m (Element x r) = width_of m x
size_of m (BitOf r k) = 1
size_of m (PartOf r high low) = high + 1 - low

abbrev pub bits_of : Module → InputBits → ModuleState → Expression → ℕ → Bit
bits_of m inputs s (Whole r) i = signal m inputs s r i
bits_of m inputs s (Element x r) i = word_at m s x (address m inputs s r) i
bits_of m inputs s (BitOf r k) i = within (width_of m r) (signal m inputs s r) (k + i)
bits_of m inputs s (PartOf r high low) i = within (width_of m r) (signal m inputs s r) (low + i)

abbrev pub expression_value : Module → InputBits → ModuleState → Expression → ℕ → Bit
expression_value m inputs s e = extended (size_of m e) (bits_of m inputs s e)

-- Conditions

abbrev pub or_bit : Bit → Bit → Bit
or_bit (Some true) b = Some true
or_bit (Some false) b = b
or_bit None (Some true) = Some true
or_bit None (Some false) = None
or_bit None None = None

-- ! and && of 0, 1 and x (4.1.9)
abbrev pub not_bit : Bit → Bit
not_bit (Some b) = Some (not b)
not_bit None = None

abbrev pub and_bit : Bit → Bit → Bit
and_bit a b = not_bit (or_bit (not_bit a) (not_bit b))

-- some bit is 1: a value is true where it isn't zero (4.1.9)
abbrev pub truth : ℕ → (ℕ → Bit) → Bit
truth zero f = Some false
truth (suc n) f = or_bit (f n) (truth n f)

abbrev pub negated_if : Bool → Bit → Bit
negated_if n b = if n then not_bit b else b

abbrev pub term_bit : Module → InputBits → ModuleState → Term → Bit
term_bit m inputs s x = negated_if x.negated (truth (size_of m x.of) (expression_value m inputs s x.of))

abbrev pub all_bits : Module → InputBits → ModuleState → List Term → Bit
all_bits m inputs s [] = Some true
all_bits m inputs s (x ∷ xs) = and_bit (term_bit m inputs s x) (all_bits m inputs s xs)

-- Assignments

-- what an assignment that isn't carried out yet will change
pub data Update : Type 0 where
  SetRegister : List ℕ → (ℕ → Bit) → Update
  SetWord : List ℕ → Option ℕ → (ℕ → Bit) → Update
  SetPart : List ℕ → Option ℕ → ℕ → ℕ → (ℕ → Bit) → Update

abbrev pub update_of : Module → InputBits → ModuleState → Target → (ℕ → Bit) → Update
update_of m inputs s (ToRegister r) v = SetRegister r v
update_of m inputs s (ToWord x r) v = SetWord x (address m inputs s r) v
update_of m inputs s (ToPart x r high low) v = SetPart x (address m inputs s r) high low v

-- only where the condition is 1: 0 and x are false (9.4)
abbrev pub where_true : Bit → List Update → List Update
where_true (Some true) us = us
where_true (Some false) us = []
where_true None us = []

-- what a statement assigns: what stands at its right, and addresses, are evaluated before anything is assigned (9.2.2, 5.6.4)
abbrev mutual
  pub updates : Module → InputBits → ModuleState → Statement → List Update
  updates m inputs s (Assign to e) = update_of m inputs s to (expression_value m inputs s e) ∷ []
  updates m inputs s (If terms body) = where_true (all_bits m inputs s terms) (updates m inputs s body)
  updates m inputs s (Block body) = body_updates m inputs s body

  pub body_updates : Module → InputBits → ModuleState → Statements → List Update
  body_updates m inputs s Done = []
  body_updates m inputs s (Then first rest) = updates m inputs s first ++ body_updates m inputs s rest

abbrev pub changed_word : List ℕ → Option ℕ → ℕ → ℕ → (ℕ → Bit) → (List ℕ → ℕ → ℕ → Bit) → List ℕ → ℕ → ℕ → Bit
changed_word x None low size v mems y b i = mems y b i
changed_word x (Some a) low size v mems y b i = if bytes_eq y x && (nat_eq b a && (nat_le low i && nat_lt i (low + size))) then v (i - low) else mems y b i

-- One update: of a register, of a word or of a part of it. Nothing is assigned at an address with an x (4.2.2). Bits and addresses beyond
-- what is declared are never looked at.
abbrev pub updated : Module → Update → ModuleState → ModuleState
updated m (SetRegister r v) s = record { regs = λ x. if bytes_eq x r then v else s.regs x; mems = s.mems }
updated m (SetWord x a v) s = record { regs = s.regs; mems = changed_word x a 0 (width_of m x) v s.mems }
updated m (SetPart x a high low v) s = record { regs = s.regs; mems = changed_word x a low (high + 1 - low) v s.mems }

abbrev pub updated_all : Module → List Update → ModuleState → ModuleState
updated_all m [] s = s
updated_all m (u ∷ us) s = updated_all m us (updated m u s)

-- Edges

abbrev pub same_edge : Edge → Edge → Bool
same_edge Rising Rising = true
same_edge Rising Falling = false
same_edge Falling Rising = false
same_edge Falling Falling = true

abbrev pub waits_for : Edge → List ℕ → Always → Bool
waits_for edge clock a = same_edge a.edge edge && bytes_eq a.clock clock

-- At an edge of the clock the blocks that wait for it (9.7.2, 9.9.2), in any order (5.4.2), evaluate in the state before it. Then all is
-- assigned, in the order in which the statements were executed (5.4.1), so that the last wins.
pub record IsEdge (m : Module) (edge : Edge) (clock : List ℕ) (inputs : InputBits) (s end : ModuleState) : Type 0 where
  pub order : List Always
  pub blocks : IsPermutation (filter (waits_for edge clock) m.always) order
  pub assigned : end ≡ updated_all m (flat_map (λ a. updates m inputs s a.body) order) s

-- The start

-- 8'h0f has so many bits: those of its number, with zeros above (2.5.1)
abbrev pub constant : ℕ → List ℕ → ℕ → Bit
constant size digits i = Some (nat_lt i size && lowest_bit (high_bits i (digits_value 16 digits)))

-- a setting is done before the next one (9.2.1)
abbrev pub set_one : Module → Setting → ModuleState → ModuleState
set_one m x s = updated m (SetWord x.memory (Some x.address) (constant x.size x.digits)) s

abbrev pub set_all : Module → List Setting → ModuleState → ModuleState
set_all m [] s = s
set_all m (x ∷ xs) s = set_all m xs (set_one m x s)

-- at first no bit is known (3.2.2)
abbrev pub unset : ModuleState
unset = record { regs = λ x i. None; mems = λ x a i. None }

-- the initial blocks are done, in any order (9.9.1), and no clock has moved
pub record IsModuleStart (m : Module) (s : ModuleState) : Type 0 where
  pub order : List (List Setting)
  pub blocks : IsPermutation m.initial order
  pub set : s ≡ set_all m (flat_map (λ settings. settings) order) unset

-- each edge has an end
abbrev pub EdgesEnd : Type 0
EdgesEnd = (m : Module) (edge : Edge) (clock : List ℕ) (inputs : InputBits) (s : ModuleState) → (end : ModuleState) × IsEdge m edge clock inputs s end

-- each module has a start
abbrev pub ModulesStart : Type 0
ModulesStart = (m : Module) → (s : ModuleState) × IsModuleStart m s
