-- A module of the part of Verilog that a memory's view uses, as a tree. Clauses are those of IEEE 1364-2001; its syntax is annex A.
use Rattle.std.specs.Prelude.{ℕ, List, Bool}

-- nothing, or [W-1:0] of a parameter W (3.3.1)
pub data Range : Type 0 where
  Single : Range
  Wide : List ℕ → Range

-- a decimal number, or 1 << P of a parameter P (2.5.1, 4.1.12)
pub data Amount : Type 0 where
  Number : ℕ → Amount
  PowerOf : List ℕ → Amount

-- parameter P = an amount; (3.11.1)
pub record Parameter : Type 0 where
  pub name : List ℕ
  pub amount : Amount

-- input x; output x; reg x; each with a range (12.3.3, 3.2.2), or a memory: reg [W-1:0] m [0:D-1]; of parameters W and D (3.10.3)
pub data Declaration : Type 0 where
  Input : Range → List ℕ → Declaration
  Output : Range → List ℕ → Declaration
  Register : Range → List ℕ → Declaration
  Memory : List ℕ → List ℕ → List ℕ → Declaration

-- m[5] = 8'h0f; a word of a memory, an address, a size, and the digits as they are written (9.2.1, 2.5.1)
pub record Setting : Type 0 where
  pub memory : List ℕ
  pub address : ℕ
  pub size : ℕ
  pub digits : List ℕ

-- r, m[r], r[5], r[7:4] (4.2.1, 4.2.2)
pub data Expression : Type 0 where
  Whole : List ℕ → Expression
  Element : List ℕ → List ℕ → Expression
  BitOf : List ℕ → ℕ → Expression
  PartOf : List ℕ → ℕ → ℕ → Expression

-- r, m[r], m[r][7:4], at the left of an assignment (9.2)
pub data Target : Type 0 where
  ToRegister : List ℕ → Target
  ToWord : List ℕ → List ℕ → Target
  ToPart : List ℕ → List ℕ → ℕ → ℕ → Target

-- an expression, or ! and an expression (4.1.9)
pub record Term : Type 0 where
  pub negated : Bool
  pub of : Expression

-- t <= e; (9.2.2), or `if` of terms that && joins (9.4), or begin .. end (9.8.1)
mutual
  pub data Statement : Type 0 where
    Assign : Target → Expression → Statement
    If : List Term → Statement → Statement
    Block : Statements → Statement

  pub data Statements : Type 0 where
    Done : Statements
    Then : Statement → Statements → Statements

-- posedge or negedge (9.7.2)
pub data Edge : Type 0 where
  Rising : Edge
  Falling : Edge

-- always @(posedge c) or @(negedge c), and a statement (9.9.2, 9.7.2)
pub record Always : Type 0 where
  pub edge : Edge
  pub clock : List ℕ
  pub body : Statement

-- its parts in this order (12.1); each list of settings is a block initial begin .. end (9.9.1)
pub record Module : Type 0 where
  pub name : List ℕ
  pub ports : List (List ℕ)
  pub parameters : List Parameter
  pub declarations : List Declaration
  pub initial : List (List Setting)
  pub always : List Always
