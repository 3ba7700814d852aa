-- Marks, and how references are marked one by one.
use Rattle.std.proofs.Common.{◌≡◌, ◌⊎◌, inl, inr, ℕ, zero, suc, ◌+◌, ◌<◌, Bool, true, false, cond, List, [], ◌∷◌, ◌++◌, length, set, get_or, take, refl, sym, ap, subst, ◌∙◌, arith, append_assoc, get_or-set_same}
use Rattle.std.specs.Prelude.{Contains}
use Rattle.std.proofs.lemmas.List.{length_push, take_more}
use Rattle.std.proofs.lemmas.List.Elements.{Contains-push, Contains-push_cases, Contains-append_left}
use Rattle.std.proofs.lemmas.List.Sums.{sum_by-set}
use Rattle.reference_graph.specs.Reaches.{IsMarked}
use Rattle.reference_graph.specs.Spread.{unmarked, Spreads}

-- a mark after one is set is that one or an old one
pub set_cases : (marks : List Bool) (i k : ℕ) → IsMarked (set marks i true) k → (k ≡ i) ⊎ IsMarked marks k
set_cases [] i k h = inr h
set_cases (m ∷ ms) zero zero h = inl refl
set_cases (m ∷ ms) zero (suc k) h = inr h
set_cases (m ∷ ms) (suc i) zero h = inr h
set_cases (m ∷ ms) (suc i) (suc k) h = elim (set_cases ms i k h) [ inl e ↦ inl (ap suc e) | inr g ↦ inr g ]

set_keeps : (marks : List Bool) (i k : ℕ) → IsMarked marks k → IsMarked (set marks i true) k
set_keeps [] i k h = h
set_keeps (m ∷ ms) zero zero h = refl
set_keeps (m ∷ ms) zero (suc k) h = h
set_keeps (m ∷ ms) (suc i) zero h = h
set_keeps (m ∷ ms) (suc i) (suc k) h = set_keeps ms i k h

-- one mark more is one unmarked node less
fewer : (marks : List Bool) (node : ℕ) → node < length marks → get_or marks node false ≡ false → unmarked (set marks node true) + 1 ≡ unmarked marks
fewer marks node lt e =
    let h = sum_by-set (λ (b : Bool). cond b 0 1) marks node true false lt in
    let h2 = rw e at h in
    omega (arith, h2)

-- a reference that is marked already
spreads_past : (front : List ℕ) (marks : List Bool) (found : List ℕ) (marks' : List Bool) (found' : List ℕ) (node : ℕ)
    → IsMarked marks' node → Spreads front marks found marks' found' → Spreads (front ++ node ∷ []) marks found marks' found'
spreads_past front marks found marks' found' node m s = record {
  added = s.added;
  grown = s.grown;
  from = λ k h. Contains-append_left front (node ∷ []) k (s.from k h);
  each = λ k h. elim (Contains-push_cases front node k h) [ inl before ↦ s.each k before | inr e ↦ subst (IsMarked marks') e m ];
  kept = s.kept;
  only = s.only;
  counted = s.counted;
}

-- a reference that is marked and added
spreads_more : (front : List ℕ) (marks : List Bool) (found : List ℕ) (marks' : List Bool) (found' : List ℕ) (node : ℕ)
    → node < length marks' → get_or marks' node false ≡ false → Spreads front marks found marks' found' → Spreads (front ++ node ∷ []) marks found (set marks' node true) (found' ++ node ∷ [])
spreads_more front marks found marks' found' node lt unset s =
    let here : IsMarked (set marks' node true) node = get_or-set_same marks' node true false lt in
    let less = fewer marks' node lt unset in
    let longer = length_push found' node in
    record {
      added = s.added ++ node ∷ [];
      grown = ap (λ (xs : List ℕ). xs ++ node ∷ []) s.grown ∙ append_assoc found s.added (node ∷ []);
      from = λ k h. elim (Contains-push_cases s.added node k h) [
        | inl before ↦ Contains-append_left front (node ∷ []) k (s.from k before)
        | inr e ↦ subst (Contains (front ++ node ∷ [])) e (Contains-push front node)
      ];
      each = λ k h. elim (Contains-push_cases front node k h) [
        | inl before ↦ set_keeps marks' node k (s.each k before)
        | inr e ↦ subst (IsMarked (set marks' node true)) e here
      ];
      kept = λ k h. set_keeps marks' node k (s.kept k h);
      only = λ k h. elim (set_cases marks' node k h) [
        | inl e ↦ inr (subst (Contains (s.added ++ node ∷ [])) (sym e) (Contains-push s.added node))
        | inr before ↦ elim (s.only k before) [ inl old ↦ inl old | inr new ↦ inr (Contains-append_left s.added (node ∷ []) k new) ]
      ];
      counted = omega (arith, s.counted);
    }

-- one reference further, marked already
pub mark_skips : (references : List ℕ) (i : ℕ) (marks : List Bool) (found : List ℕ) (marks' : List Bool) (found' : List ℕ) (marks'' : List Bool) (found'' : List ℕ)
    → i < length references → get_or marks' (get_or references i 0) false ≡ true → marks'' ≡ marks' → found'' ≡ found'
    → Spreads (take i references) marks found marks' found' → Spreads (take (i + 1) references) marks found marks'' found''
mark_skips references i marks found marks' found' marks'' found'' lt m e f s =
    rw (e, f, take_more references i 0 lt) (spreads_past (take i references) marks found marks' found' (get_or references i 0) m s)

-- one reference further, marked now
pub mark_adds : (references : List ℕ) (i : ℕ) (marks : List Bool) (found : List ℕ) (marks' : List Bool) (found' : List ℕ) (marks'' : List Bool) (found'' : List ℕ)
    → i < length references → get_or references i 0 < length marks' → get_or marks' (get_or references i 0) false ≡ false
    → marks'' ≡ set marks' (get_or references i 0) true → found'' ≡ found' ++ get_or references i 0 ∷ []
    → Spreads (take i references) marks found marks' found' → Spreads (take (i + 1) references) marks found marks'' found''
mark_adds references i marks found marks' found' marks'' found'' lt within m e f s =
    rw (e, f, take_more references i 0 lt) (spreads_more (take i references) marks found marks' found' (get_or references i 0) within m s)
