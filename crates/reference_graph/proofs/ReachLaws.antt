-- The nodes found so far, whose references are marked up to a place.
use Rattle.std.proofs.Common.{◌≡◌, inl, inr, ℕ, ◌+◌, ◌<◌, ◌≤◌, Bool, true, false, List, [], ◌∷◌, ◌++◌, length, set, get_or, replicate, sym, ap, subst, ◌∙◌, arith, get_or-set_same, length-set}
use Rattle.std.specs.Prelude.{Contains}
use Rattle.std.proofs.lemmas.List.{get_or_append_left, length-replicate, get_or_default}
use Rattle.std.proofs.lemmas.List.Elements.{Contains-append_left, Contains-append_right, Contains-append_cases, Contains-push_cases}
use Rattle.std.proofs.lemmas.Bool.{cases_lt}
use Rattle.reference_graph.specs.Reaches.{RefersTo, IsPath, Reaches, IsMarked, MarksReached}
use Rattle.reference_graph.specs.Spread.{Spreads}
use Rattle.reference_graph.proofs.PathLaws.{reaches_on, reaches_start}
use Rattle.reference_graph.proofs.SetLaws.{at_all}
use Rattle.reference_graph.proofs.MarkLaws.{set_cases}

-- what is marked has been found and is reached, and what the nodes found before the place refer to is marked
pub record IsSpread (graph : List (List ℕ)) (start : ℕ) (marks : List Bool) (found : List ℕ) (place : ℕ) : Type 0 where
  pub sized : length marks ≡ length graph
  pub begins : IsMarked marks start
  pub listed : (node : ℕ) → IsMarked marks node → Contains found node
  pub sound : (node : ℕ) → Contains found node → Reaches graph start node
  pub done : (earlier to : ℕ) → earlier < place → earlier < length found → RefersTo graph (get_or found earlier 0) to → IsMarked marks to

pub no_mark : (n k : ℕ) → IsMarked (replicate n false) k → ⊥
no_mark n k m = let no_way : true ≡ false = at_all n k false true m in absurd cc

pub spread_begins : (graph : List (List ℕ)) (start : ℕ) (marks : List Bool) → start < length graph → marks ≡ replicate (length graph) false → IsSpread graph start (set marks start true) (start ∷ []) 0
spread_begins graph start marks lt e =
    let same : length marks ≡ length graph = ap length e ∙ length-replicate (length graph) false in
    record {
      sized = length-set marks start true ∙ same;
      begins = get_or-set_same marks start true false (subst (λ (n : ℕ). start < n) (sym same) lt);
      listed = λ node h. elim (set_cases marks start node h) [
        | inl e ↦ (0, omega arith, sym e)
        | inr m ↦ absurd (no_mark (length graph) node (subst (λ (xs : List Bool). IsMarked xs node) e m))
      ];
      sound = λ node h. elim (Contains-push_cases [] start node h) [
        | inl none ↦ let lt = none.1 in absurd (omega arith)
        | inr e ↦ reaches_start graph start node (sym e)
      ];
      done = λ earlier to before within h. absurd (omega arith);
    }

-- what was found keeps its place
at_grown : (found added found' : List ℕ) (k : ℕ) → found' ≡ found ++ added → k < length found → get_or found' k 0 ≡ get_or found k 0
at_grown found added found' k e lt = ap (λ (xs : List ℕ). get_or xs k 0) e ∙ get_or_append_left found added 0 k lt

at_place : (found added found' : List ℕ) (k place node : ℕ) → found' ≡ found ++ added → place < length found → k ≡ place → node ≡ get_or found place node → get_or found' k 0 ≡ node
at_place found added found' k place node e lt same is =
    ap (λ (i : ℕ). get_or found' i 0) same ∙ at_grown found added found' place e lt ∙ get_or_default found place 0 node lt ∙ sym is

pub spread_on : (graph : List (List ℕ)) (start : ℕ) (marks : List Bool) (found : List ℕ) (place node : ℕ) (references : List ℕ) (marks' : List Bool) (found' : List ℕ)
    → IsSpread graph start marks found place → place < length found → node ≡ get_or found place node → references ≡ get_or graph node [] → length marks' ≡ length marks
    → Spreads references marks found marks' found' → IsSpread graph start marks' found' (place + 1)
spread_on graph start marks found place node references marks' found' i lt e r same s =
    let here : Reaches graph start node = i.sound node (place, lt, sym e) in
    record {
      sized = same ∙ i.sized;
      begins = s.kept start i.begins;
      listed = λ k h. elim (s.only k h) [
        | inl old ↦ subst (λ (xs : List ℕ). Contains xs k) (sym s.grown) (Contains-append_left found s.added k (i.listed k old))
        | inr new ↦ subst (λ (xs : List ℕ). Contains xs k) (sym s.grown) (Contains-append_right found s.added k new)
      ];
      sound = λ k h. elim (Contains-append_cases found s.added k (subst (λ (xs : List ℕ). Contains xs k) s.grown h)) [
        | inl old ↦ i.sound k old
        | inr new ↦ reaches_on graph start node k here (subst (λ (xs : List ℕ). Contains xs k) r (s.from k new))
      ];
      done = λ earlier to before inside h. elim (cases_lt earlier place) [
        | inl l ↦ s.kept to (i.done earlier to l (omega arith) (subst (λ (n : ℕ). RefersTo graph n to) (at_grown found s.added found' earlier s.grown (omega arith)) h))
        | inr g ↦ s.each to (subst (λ (xs : List ℕ). Contains xs to) (sym r) (subst (λ (n : ℕ). RefersTo graph n to) (at_place found s.added found' earlier place node s.grown lt (omega arith) e) h))
      ];
    }

follows : (graph : List (List ℕ)) (marks : List Bool) → ((node to : ℕ) → IsMarked marks node → RefersTo graph node to → IsMarked marks to) → (from to : ℕ) (path : List ℕ) → IsMarked marks from → IsPath graph from path to → IsMarked marks to
follows graph marks closed from to [] m leads = subst (IsMarked marks) (sym leads) m
follows graph marks closed from to (next ∷ rest) m leads = follows graph marks closed next to rest (closed from next m leads.0) leads.1

pub spread_ends : (graph : List (List ℕ)) (start : ℕ) (marks : List Bool) (found : List ℕ) (place : ℕ) → IsSpread graph start marks found place → length found ≤ place → MarksReached graph start marks
spread_ends graph start marks found place i le = record {
  sized = i.sized;
  exact = λ node. (
    λ m. i.sound node (i.listed node m),
    λ r. follows graph marks
        (λ k to m refers. let spot = i.listed k m in i.done spot.0 to (omega (arith, spot.1)) spot.1 (subst (λ (n : ℕ). RefersTo graph n to) (sym spot.2 ∙ get_or_default found spot.0 k 0 spot.1) refers))
        start node r.path i.begins r.leads,
  );
}
