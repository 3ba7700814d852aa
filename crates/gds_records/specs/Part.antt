-- Parts of a list of records, each before what stands after it.
use Rattle.std.specs.Prelude.{◌≡◌, ◌⊎◌, ℕ, List, [], ◌∷◌, ◌++◌, Bool, true, false}
use Rattle.gds_records.specs.Record.{StreamRecord, is_formed}
use Rattle.gds_records.specs.declared.error.Demand.{Demand}
use Rattle.gds_records.specs.declared.error.Demand.TheVariants.{Plain}

-- what may stand from some place on
abbrev pub Rest : Type 1
Rest = List StreamRecord → Type 0

-- which demands count: all of them in a spelling, none for the order alone
abbrev pub Judge : Type 0
Judge = Demand → Bool

-- a part of a file, before a rest
abbrev pub Part : Type 1
Part = Judge → Rest → Rest

-- one part and then another
infixr 12 ◌▸◌
abbrev pub ◌▸◌ : Part → Part → Part
(P ▸ Q) judge K = P judge (Q judge K)

-- the data means x; where this demand doesn't count, data that means nothing will do too
abbrev pub IsRight : {X : Type 0} → Demand → (X → List ℕ → Type 0) → X → Judge → List ℕ → Type 0
IsRight {X} demand V x judge content = V x content ⊎ ((judge demand ≡ false) × ((y : X) → V y content → ⊥))

-- a record of this code, whose data means x
abbrev pub value : {X : Type 0} → Demand → ℕ → (X → List ℕ → Type 0) → X → Part
value demand code V x judge K [] = ⊥
value demand code V x judge K (e ∷ rs) = (is_formed e ≡ true) × (e.code ≡ code) × IsRight demand V x judge e.content
    × K rs

-- a record of this code, whose data is dropped
abbrev pub any : ℕ → Part
any code = value Plain code (λ (u : Unit {0}) content. Unit {0}) tt

-- a record that may be left out, and is dropped
abbrev pub maybe : ℕ → Part
maybe code judge K rs = any code judge K rs ⊎ K rs

-- one part or another
infixr 10 ◌or◌
abbrev pub ◌or◌ : Part → Part → Part
(P or Q) judge K rs = P judge K rs ⊎ Q judge K rs

-- no record, where D holds
abbrev pub nothing : Type 0 → Part
nothing D judge K rs = D × K rs

-- a part for each item in turn, which may look at the items before it
abbrev pub repeated_after : {X : Type 0} → (List X → X → Part) → List X → List X → Part
repeated_after P before [] judge K = K
repeated_after P before (x ∷ xs) judge K = P before x judge (repeated_after P (before ++ x ∷ []) xs judge K)

abbrev pub repeated : {X : Type 0} → (X → Part) → List X → Part
repeated P xs = repeated_after (λ before. P) [] xs

-- a record of this code, which no data makes right
abbrev pub refused : Demand → ℕ → Part
refused demand code = value demand code (λ (u : Unit {0}) content. ⊥) tt

-- such a record, or none
abbrev pub maybe_refused : Demand → ℕ → Part
maybe_refused demand code judge K rs = refused demand code judge K rs ⊎ K rs

-- what is given by i from a value that stands here, as where parts of it are dropped
abbrev pub through : {X Z : Type 0} → (X → Z) → (X → Part) → Z → Part
through {X} i P z judge K rs = (x : X) × (i x ≡ z) × P x judge K rs

-- nothing of a value is kept
abbrev pub gone : {X : Type 0} → X → Unit {0}
gone x = tt
