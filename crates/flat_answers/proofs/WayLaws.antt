-- Whether steps lead from one thing to another, by way of a list of things.
use Rattle.std.proofs.Common.{◌⊎◌, inl, inr, List, [], ◌∷◌, subst}
use Rattle.std.specs.Prelude.{Contains}
use Rattle.or_geom.proofs.ListLaws.{contains_cases, contains_none}
use Rattle.flat_answers.proofs.DecisionLaws.{Decided, decide_both, decide_either}

module _ {X : Type 0} (Step : X → X → Type 0) where
  -- a step leads there, or several do that change only at things of the list
  abbrev pub LeadsVia : List X → X → X → Type 0
  LeadsVia [] a b = Step a b
  LeadsVia (v ∷ vs) a b = LeadsVia vs a b ⊎ (LeadsVia vs a v × LeadsVia vs v b)

  pub decide_via : ((a b : X) → Decided (Step a b)) → (vs : List X) (a b : X) → Decided (LeadsVia vs a b)
  decide_via decide [] a b = decide a b
  decide_via decide (v ∷ vs) a b =
      decide_either _ _ (decide_via decide vs a b) (decide_both _ _ (decide_via decide vs a v) (decide_via decide vs v b))

  -- whatever holds of steps, and of two after one another, holds of all that leads there
  pub via_gives : (R : X → X → Type 0) → ((a b : X) → Step a b → R a b) → ((a b c : X) → R a b → R b c → R a c) → (vs : List X) (a b : X)
      → LeadsVia vs a b → R a b
  via_gives R one two [] a b h = one a b h
  via_gives R one two (v ∷ vs) a b (inl h) = via_gives R one two vs a b h
  via_gives R one two (v ∷ vs) a b (inr h) = two a v b (via_gives R one two vs a v h.0) (via_gives R one two vs v b h.1)

  pub at_once : (vs : List X) (a b : X) → Step a b → LeadsVia vs a b
  at_once [] a b step = step
  at_once (v ∷ vs) a b step = inl (at_once vs a b step)

  ends : (vs : List X) (a v : X) → LeadsVia (v ∷ vs) a v → LeadsVia vs a v
  ends vs a v (inl h) = h
  ends vs a v (inr h) = h.0

  begins : (vs : List X) (v b : X) → LeadsVia (v ∷ vs) v b → LeadsVia vs v b
  begins vs v b (inl h) = h
  begins vs v b (inr h) = h.1

  -- one way after another, by a thing of the list
  pub by_way : (vs : List X) (a c b : X) → Contains vs c → LeadsVia vs a c → LeadsVia vs c b → LeadsVia vs a b
  by_way [] a c b among one two = absurd (contains_none c among)
  by_way (v ∷ vs) a c b among one two = elim (contains_cases v vs c among) [
    | inl same ↦ inr (ends vs a v (subst (LeadsVia (v ∷ vs) a) same one), begins vs v b (subst (λ (x : X). LeadsVia (v ∷ vs) x b) same two))
    | inr later ↦ elim one [
      | inl x ↦ elim two [ inl y ↦ inl (by_way vs a c b later x y) | inr y ↦ inr (by_way vs a c v later x y.0, y.1) ]
      | inr x ↦ elim two [ inl y ↦ inr (x.0, by_way vs v c b later x.1 y) | inr y ↦ inr (x.0, y.1) ]
    ]
  ]
