-- Which pins of a list are at a side.
use Rattle.std.proofs.Common.{◌≡◌, inl, inr, ℕ, zero, suc, ◌+◌, ◌<◌, ℤ, ◌+ℤ◌, List, [], ◌∷◌, ◌++◌, map, Bool, true, false, cond, refl, ap, sym, ◌∙◌, arith}
use Rattle.std.specs.Prelude.{◌≢◌}
use Rattle.std.specs.List.{filter, AllByRecursion}
use Rattle.std.specs.Ordering.{int_eq}
use Rattle.std.proofs.lemmas.Bool.Decides.{Decides-int_eq}
use Rattle.std.proofs.lemmas.Int.{ints}
use Rattle.std.proofs.lemmas.List.{append-nil}
use Rattle.std.proofs.lemmas.List.Elements.{filter-append}
use Rattle.or_geom.proofs.ListLaws.{below_or}
use Rattle.leaf_tables.specs.declared.part.Edge.{Edge}
use Rattle.sram_netlist.specs.InstanceList.{numbers_from, tabulate}
use Rattle.port_lists.proofs.TabulateLaws.{tabulate_more, map_append}
use Rattle.part_edges.specs.PartPins.{PartPin, edge_of}
use Rattle.bank_layout.specs.BankPart.{pin_moved}
use Rattle.bank_layout.specs.BankEdges.{edge_moved}

-- the edges of the pins that pass
abbrev pub shown : (PartPin → Bool) → List PartPin → List Edge
shown q pins = map edge_of (filter q pins)

pub shown_append : (q : PartPin → Bool) (xs ys : List PartPin) → shown q (xs ++ ys) ≡ shown q xs ++ shown q ys
shown_append q xs ys = ap (map edge_of) (filter-append q xs ys) ∙ map_append edge_of (filter q xs) (filter q ys)

-- none passes
pub none_shown : (q : PartPin → Bool) (xs : List PartPin) → AllByRecursion (λ (x : PartPin). q x ≡ false) xs → shown q xs ≡ []
none_shown q [] all = refl
none_shown q (x ∷ xs) all = ap (λ (t : Bool). map edge_of (cond t (x ∷ filter q xs) (filter q xs))) all.0 ∙ none_shown q xs all.1

-- of a list that is moved, what passes before
pub moved_shown : (p q : PartPin → Bool) (dx dy : ℤ) → ((x : PartPin) → q (pin_moved dx dy x) ≡ p x) → (xs : List PartPin) → shown q (map (pin_moved dx dy) xs) ≡ map (edge_moved dx) (shown p xs)
moved_shown p q dx dy same [] = refl
moved_shown p q dx dy same (x ∷ xs) =
    ap (λ (t : Bool). map edge_of (cond t (pin_moved dx dy x ∷ filter q (map (pin_moved dx dy) xs)) (filter q (map (pin_moved dx dy) xs)))) (same x) ∙ by (p x) (moved_shown p q dx dy same xs) where
      by : (t : Bool) → shown q (map (pin_moved dx dy) xs) ≡ map (edge_moved dx) (shown p xs)
          → map edge_of (cond t (pin_moved dx dy x ∷ filter q (map (pin_moved dx dy) xs)) (filter q (map (pin_moved dx dy) xs))) ≡ map (edge_moved dx) (map edge_of (cond t (x ∷ filter p xs) (filter p xs)))
      by true rest = ap (λ (l : List Edge). edge_moved dx (edge_of x) ∷ l) rest
      by false rest = rest

pub all_moved : (P : PartPin → Type 0) (dx dy : ℤ) (xs : List PartPin) → AllByRecursion (λ (x : PartPin). P (pin_moved dx dy x)) xs → AllByRecursion P (map (pin_moved dx dy) xs)
all_moved P dx dy [] all = tt
all_moved P dx dy (x ∷ xs) all = (all.0, all_moved P dx dy xs all.1)

pub all_as : {X : Type 0} (P Q : X → Type 0) (xs : List X) → ((x : X) → P x → Q x) → AllByRecursion P xs → AllByRecursion Q xs
all_as P Q [] to all = tt
all_as P Q (x ∷ xs) to all = (to x all.0, all_as P Q xs to all.1)

-- all of a list by formula pass
all_passed : (q : PartPin → Bool) (f : ℕ → PartPin) (ks : List ℕ) → ((k : ℕ) → q (f k) ≡ true) → shown q (map f ks) ≡ map (λ (k : ℕ). edge_of (f k)) ks
all_passed q f [] all = refl
all_passed q f (k ∷ ks) all =
    ap (λ (t : Bool). map edge_of (cond t (f k ∷ filter q (map f ks)) (filter q (map f ks)))) (all k) ∙ ap (λ (l : List Edge). edge_of (f k) ∷ l) (all_passed q f ks all)

pub all_shown : (q : PartPin → Bool) (n : ℕ) (f : ℕ → PartPin) → ((k : ℕ) → q (f k) ≡ true) → shown q (tabulate n f) ≡ tabulate n (λ (k : ℕ). edge_of (f k))
all_shown q n f all = all_passed q f (numbers_from 0 n) all

more : {A : Type 0} (n : ℕ) (f : ℕ → A) → tabulate (suc n) f ≡ tabulate n f ++ f n ∷ []
more {A = A} n f = let e : suc n ≡ n + 1 = omega arith in ap (λ (m : ℕ). tabulate m f) e ∙ tabulate_more n f

one_item : (q : PartPin → Bool) (x : PartPin) (t : Bool) → q x ≡ t → shown q (x ∷ []) ≡ cond t (edge_of x ∷ []) []
one_item q x t is = ap (λ (u : Bool). map edge_of (cond u (x ∷ []) [])) is ∙ by t where
  by : (u : Bool) → map edge_of (cond u (x ∷ []) []) ≡ cond u (edge_of x ∷ []) []
  by true = refl
  by false = refl

-- none of a list by formula passes
pub none_made : (q : PartPin → Bool) (n : ℕ) (f : ℕ → PartPin) → ((k : ℕ) → k < n → q (f k) ≡ false) → shown q (tabulate n f) ≡ []
none_made q zero f none = refl
none_made q (suc n) f none =
    ap (shown q) (more n f) ∙ (shown_append q (tabulate n f) (f n ∷ [])
    ∙ ((λ i. none_made q n f (λ k lt. none k (omega (arith, lt))) i ++ one_item q (f n) false (none n (omega arith)) i)))

-- only one of them may pass
pub one_made : (q : PartPin → Bool) (n k : ℕ) (f : ℕ → PartPin) (t : Bool) → k < n → ((j : ℕ) → j < n → j ≢ k → q (f j) ≡ false) → q (f k) ≡ t → shown q (tabulate n f) ≡ cond t (edge_of (f k) ∷ []) []
one_made q zero k f t lt others is = absurd (omega (arith, lt))
one_made q (suc n) k f t lt others is =
    ap (shown q) (more n f) ∙ (shown_append q (tabulate n f) (f n ∷ []) ∙ elim (below_or k n (omega (arith, lt))) [
      | inl less ↦ (λ i. one_made q n k f t less (λ j low differ. others j (omega (arith, low)) differ) is i ++ one_item q (f n) false (others n (omega arith) (λ e. omega (arith, e, less))) i) ∙ append-nil _
      | inr e ↦ (λ i. none_made q n f (λ j low. others j (omega (arith, low)) (λ same. omega (arith, same, low, e))) i ++ one_item q (f n) t (ap (λ (m : ℕ). q (f m)) (sym e) ∙ is) i) ∙ ap (λ (m : ℕ). cond t (edge_of (f m) ∷ []) []) (sym e)
    ])

-- Numbers

same_truth : (s t : Bool) → (s ≡ true → t ≡ true) → (t ≡ true → s ≡ true) → s ≡ t
same_truth true true to from = refl
same_truth true false to from = sym (to refl)
same_truth false true to from = from refl
same_truth false false to from = refl

-- both are moved as far
pub equal_moved : (a b d c e : ℤ) → c ≡ a +ℤ d → e ≡ b +ℤ d → int_eq c e ≡ int_eq a b
equal_moved a b d c e first second = same_truth (int_eq c e) (int_eq a b)
    (λ same. (Decides-int_eq a b).1 (let is = (Decides-int_eq c e).0 same in omega (arith, ints, first, second, is)))
    (λ same. (Decides-int_eq c e).1 (let is = (Decides-int_eq a b).0 same in omega (arith, ints, first, second, is)))
