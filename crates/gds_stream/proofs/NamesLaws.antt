-- Names that differ, by places in the list and one after the other.
use Rattle.std.proofs.Common.{◌≢◌, ℕ, zero, suc, ◌<◌, List, [], ◌∷◌, length, get_or, ◌↔◌, arith}
use Rattle.std.specs.List.{AllByRecursion, AllPairs}
use Rattle.gds_library.specs.declared.library.Structure.{Structure}
use Rattle.gds_stream.specs.NewName.{IsNewName}

-- each name is new among those after it
abbrev pub NamesDiffer : List Structure → Type 0
NamesDiffer [] = Unit {0}
NamesDiffer (s ∷ ss) = IsNewName s.name ss × NamesDiffer ss

all_at : {X : Type 0} (P : X → Type 0) (xs : List X) → AllByRecursion P xs → (k : ℕ) (d : X) → k < length xs
    → P (get_or xs k d)
all_at P [] all k d lt = absurd (omega (arith, lt))
all_at P (x ∷ xs) all zero d lt = all.0
all_at P (x ∷ xs) all (suc k) d lt = all_at P xs all.1 k d (omega (arith, lt))

at_all : {X : Type 0} (P : X → Type 0) (xs : List X) → ((k : ℕ) (d : X) → k < length xs → P (get_or xs k d))
    → AllByRecursion P xs
at_all P [] at = tt
at_all P (x ∷ xs) at = (at 0 x (omega arith), at_all P xs (λ k d lt. at (suc k) d (omega (arith, lt))))

abbrev Differ : Structure → Structure → Type 0
Differ a b = a.name ≢ b.name

pairs_differ : (ss : List Structure) → NamesDiffer ss → AllPairs Differ ss
pairs_differ [] h i j d lt lj = absurd (omega (arith, lj))
pairs_differ (s ∷ ss) h i zero d lt lj = absurd (omega (arith, lt))
pairs_differ (s ∷ ss) h zero (suc j) d lt lj = all_at (Differ s) ss h.0 j d (omega (arith, lj))
pairs_differ (s ∷ ss) h (suc i) (suc j) d lt lj = pairs_differ ss h.1 i j d (omega (arith, lt)) (omega (arith, lj))

differ_pairs : (ss : List Structure) → AllPairs Differ ss → NamesDiffer ss
differ_pairs [] all = tt
differ_pairs (s ∷ ss) all = (
  at_all (Differ s) ss (λ k d lt. all 0 (suc k) d (omega arith) (omega (arith, lt))),
  differ_pairs ss (λ i j d lt lj. all (suc i) (suc j) d (omega (arith, lt)) (omega (arith, lj))),
)

pub names_differ : (ss : List Structure) → NamesDiffer ss ↔ AllPairs (λ (a b : Structure). a.name ≢ b.name) ss
names_differ ss = (pairs_differ ss, differ_pairs ss)
