-- The faults of a file of keys, and steps that may end in one.
use Rattle.std.specs.Prelude.{◌≡◌, ◌≢◌, ℕ, List, [], ◌∷◌, ◌++◌, Result, Ok, Err, MatchResult}
use Rattle.toml_keys.specs.declared.fault.KeyProblem.{KeyProblem}
use Rattle.toml_keys.specs.declared.fault.KeyProblem.TheVariants.{Missing, WrongKind, OutOfRange}

-- the fault of each kind, of the key that it names, and that of memory that ran out
pub record KeyFaults (F : Type 0) : Type 0 where
  pub missing : List ℕ → F
  pub wrong_kind : List ℕ → F
  pub out_of_range : List ℕ → F
  pub memory : F

-- the fault that a key has this problem
abbrev pub key_fault : {F : Type 0} → KeyFaults F → KeyProblem → List ℕ → F
key_fault faults Missing key = faults.missing key
key_fault faults WrongKind key = faults.wrong_kind key
key_fault faults OutOfRange key = faults.out_of_range key

-- one step and then another, unless the first ends in a fault
infixl 10 ◌>>=◌
abbrev pub ◌>>=◌ : {F A B : Type 0} → Result A F → (A → Result B F) → Result B F
(Ok x) >>= f = f x
(Err e) >>= f = Err e

-- what a function returned, seen by view, is what the definition says, unless it is the fault of memory
abbrev pub ViewMatchesUnless : {F X Y : Type 0} → F → (X → Y) → Result X F → Result Y F → Type 0
ViewMatchesUnless memory view result value = MatchResult result (λ x. value ≡ Ok (view x)) (λ e. e ≢ memory → value ≡ Err e)

-- the same, of what is seen as it is
abbrev pub MatchesUnless : {F X : Type 0} → F → Result X F → Result X F → Type 0
MatchesUnless memory result value = ViewMatchesUnless memory (λ x. x) result value

-- an item for each item of a list, made in turn from those before it; the first fault ends it
unfoldable pub in_turn : {F A B : Type 0} → (List B → A → Result B F) → List B → List A → Result (List B) F
in_turn step before [] = Ok before
in_turn step before (x ∷ xs) = step before x >>= λ y. in_turn step (before ++ y ∷ []) xs
