-- Whether a list leads from one of finitely many things to another is decided, and things that are led to have numbers.
use Rattle.std.proofs.Common.{◌≡◌, ◌⊎◌, inl, inr, ℕ, ◌<◌, List, [], ◌∷◌, Some, refl, sym, subst, arith, ◌↔◌}
use Rattle.std.specs.Prelude.{Contains, slice_get}
use Rattle.std.proofs.lemmas.Bool.{cases_lt}
use Rattle.or_geom.proofs.ListLaws.{contained_at, contains_cases, contains_first, contains_later, contains_none, one_at}
use Rattle.net_extractor.specs.FirstDifference.{IsFirst}
use Rattle.label_binding.proofs.PlaceLaws.{at_contained}
use Rattle.tech_rules.specs.Linked.{LeadsBy, AreLinked}
use Rattle.tech_rules.proofs.LinkedLaws.{linked_end, linked_next, linked_on}
use Rattle.flat_answers.proofs.DecisionLaws.{Decided, decide_as, decide_both, decide_either}
use Rattle.flat_answers.proofs.ListedLaws.{Listed}
use Rattle.net_answers.proofs.DifferThereLaws.{first_or_none}

-- whether a thing is one of a list
pub decide_contained : {X : Type 0} → ((x y : X) → Decided (x ≡ y)) → (xs : List X) (x : X) → Decided (Contains xs x)
decide_contained same [] x = inr (λ h. contains_none x h)
decide_contained {X} same (y ∷ ys) x = decide_as ((x ≡ y) ⊎ Contains ys x) (Contains (y ∷ ys) x)
    (λ h. elim h [ inl e ↦ subst (λ (z : X). Contains (y ∷ ys) z) (sym e) (contains_first y ys) | inr k ↦ contains_later y ys x k ])
    (λ h. contains_cases y ys x h) (decide_either (x ≡ y) (Contains ys x) (same x y) (decide_contained same ys x))

pub decide_listed : {X : Type 0} (P : X → Type 0) → ((x y : X) → Decided (x ≡ y)) → Listed P → (x : X) → Decided (P x)
decide_listed P same l x = decide_as (Contains l.0 x) (P x) (l.1 x).0 (l.1 x).1 (decide_contained same l.0 x)

module _ {X : Type 0} (P : X → Type 0) (T : X → X → Type 0) (same : (x y : X) → Decided (x ≡ y)) (touch : (x y : X) → Decided (T x y)) where
  -- by way of these alone
  abbrev Reaches : List X → X → X → Type 0
  Reaches [] a b = T a b
  Reaches (v ∷ vs) a b = Reaches vs a b ⊎ (Reaches vs a v × Reaches vs v b)

  decide_reaches : (vs : List X) (a b : X) → Decided (Reaches vs a b)
  decide_reaches [] a b = touch a b
  decide_reaches (v ∷ vs) a b = decide_either (Reaches vs a b) (Reaches vs a v × Reaches vs v b) (decide_reaches vs a b)
      (decide_both (Reaches vs a v) (Reaches vs v b) (decide_reaches vs a v) (decide_reaches vs v b))

  -- what touches is reached
  at_once : (vs : List X) (a b : X) → T a b → Reaches vs a b
  at_once [] a b touches = touches
  at_once (v ∷ vs) a b touches = inl (at_once vs a b touches)

  ends : (vs : List X) (a v : X) → Reaches (v ∷ vs) a v → Reaches vs a v
  ends vs a v (inl h) = h
  ends vs a v (inr h) = h.0

  begins : (vs : List X) (v b : X) → Reaches (v ∷ vs) v b → Reaches vs v b
  begins vs v b (inl h) = h
  begins vs v b (inr h) = h.1

  -- one way after another
  by_way : (vs : List X) (a c b : X) → Contains vs c → Reaches vs a c → Reaches vs c b → Reaches vs a b
  by_way [] a c b among one two = absurd (contains_none c among)
  by_way (v ∷ vs) a c b among one two = elim (contains_cases v vs c among) [
    | inl is ↦ inr (ends vs a v (subst (Reaches (v ∷ vs) a) is one), begins vs v b (subst (λ (x : X). Reaches (v ∷ vs) x b) is two))
    | inr later ↦ elim one [
      | inl x ↦ elim two [ inl y ↦ inl (by_way vs a c b later x y) | inr y ↦ inr (by_way vs a c v later x y.0, y.1) ]
      | inr x ↦ elim two [ inl y ↦ inr (x.0, by_way vs v c b later x.1 y) | inr y ↦ inr (x.0, y.1) ]
    ]
  ]

  -- a list that leads there
  leads : (vs : List X) (a b : X) → ((v : X) → Contains vs v → P v) → P b → Reaches vs a b → AreLinked P T a b
  leads [] a b among has touches = linked_next P T a b has touches
  leads (v ∷ vs) a b among has (inl h) = leads vs a b (λ w later. among w (contains_later v vs w later)) has h
  leads (v ∷ vs) a b among has (inr h) =
      let below = λ (w : X) (later : Contains vs w). among w (contains_later v vs w later) in
      linked_on P T a v b (leads vs a v below (among v (contains_first v vs)) h.0) (leads vs v b below has h.1)

  -- and each list is found
  found : (vs : List X) (a b : X) (path : List X) → ((v : X) → P v → Contains vs v) → LeadsBy P T a path b → (a ≡ b) ⊎ Reaches vs a b
  found vs a b [] all way = inl way
  found vs a b (next ∷ rest) all way = elim (found vs next b rest all way.2) [
    | inl is ↦ inr (at_once vs a b (subst (T a) is way.1))
    | inr more ↦ inr (by_way vs a next b (all next way.0) (at_once vs a next way.1) more)
  ]

  -- nothing leads to what has not P, but from itself
  stays : (a b : X) (path : List X) → (P b → ⊥) → LeadsBy P T a path b → a ≡ b
  stays a b [] fails way = way
  stays a b (next ∷ rest) fails way = absurd (fails (linked_end P T next b way.0 (record { path = rest; leads = way.2 })))

  itself : (a b : X) → a ≡ b → AreLinked P T a b
  itself a b is = record { path = []; leads = is }

  pub decide_linked : Listed P → (a b : X) → Decided (AreLinked P T a b)
  decide_linked l a b = elim (decide_listed P same l b) [
    | inl has ↦ decide_as ((a ≡ b) ⊎ Reaches l.0 a b) (AreLinked P T a b)
        (λ h. elim h [ inl is ↦ itself a b is | inr reaches ↦ leads l.0 a b (λ v. (l.1 v).0) has reaches ])
        (λ linked. found l.0 a b linked.path (λ v. (l.1 v).1) linked.leads)
        (decide_either (a ≡ b) (Reaches l.0 a b) (same a b) (decide_reaches l.0 a b))
    | inr fails ↦ decide_as (a ≡ b) (AreLinked P T a b) (itself a b) (λ linked. stays a b linked.path fails linked.leads) (same a b)
  ]

-- Things with a relation that is an equivalence among those that have P: the number of a thing is the place of the first one
-- that stands so to it.
module _ {X : Type 0} (P : X → Type 0) (E : X → X → Type 0) (l : Listed P) (has : (x : X) → Decided (P x)) (alike : (x y : X) → Decided (E x y)) where
  abbrev Numbered : X → ℕ → Type 0
  Numbered x n = (first : X) × IsFirst (λ (y : X). E y x) l.0 n first

  number_of : (x : X) → (n : ℕ) × (((y : X) → E y y) → P x → Numbered x n)
  number_of x = elim (first_or_none (λ (y : X). E y x) (λ y. alike y x) l.0) [
    | inl f ↦ (f.0, λ own p. (f.1, f.2))
    | inr none ↦ (0, λ own p. let there = (l.1 x).1 p in absurd (none there.0 x (at_contained l.0 x there) (own x)))
  ]

  -- two have one number exactly where they stand so to each other
  pub numbers : ((x : X) → E x x) → ((x y : X) → P x → E x y → E y x) → ((x y z : X) → E x y → E y z → E x z)
      → (number : X → ℕ) × ((a b : X) → P a → P b → (number a ≡ number b) ↔ E a b)
  numbers own back on = (λ x. (number_of x).0, λ a b p q. by a b (number_of a).0 (number_of b).0 p ((number_of a).1 own p) ((number_of b).1 own q))
    where
      earlier : (a b : X) (m n : ℕ) → E a b → Numbered a m → Numbered b n → m < n → ⊥
      earlier a b m n e x y lt = y.1.before m x.0 lt x.1.here (on x.0 a b x.1.has e)

      by : (a b : X) (m n : ℕ) → P a → Numbered a m → Numbered b n → (m ≡ n) ↔ E a b
      by a b m n p x y = (
        λ is.
            let one : x.0 ≡ y.0 = one_at l.0 n x.0 y.0 (subst (λ (k : ℕ). slice_get l.0 k ≡ Some x.0) is x.1.here) y.1.here in
            let of_first : P x.0 = (l.1 x.0).0 (contained_at l.0 m x.0 x.1.here) in
            on a x.0 b (back x.0 a of_first x.1.has) (subst (λ (z : X). E z b) (sym one) y.1.has),
        λ e. elim (cases_lt m n) [
          | inl lt ↦ absurd (earlier a b m n e x y lt)
          | inr ge ↦ elim (cases_lt n m) [ inl lt ↦ absurd (earlier b a n m (back a b p e) y x lt) | inr le ↦ omega (arith, ge, le) ]
        ],
      )
