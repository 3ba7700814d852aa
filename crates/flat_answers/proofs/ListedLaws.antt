-- Lists of exactly what has a property: from simple properties to composed ones.
use Rattle.std.proofs.Common.{◌≡◌, ◌≢◌, ◌⊎◌, inl, inr, ℕ, zero, suc, ◌<◌, List, [], ◌∷◌, ◌++◌, refl, sym, ap, subst, ◌∙◌, arith, ◌↔◌}
use Rattle.std.specs.Prelude.{Contains}
use Rattle.std.specs.List.{AllByRecursion}
use Rattle.std.specs.List.Sorted.{IsStrictlySortedBy}
use Rattle.std.specs.Cmp.{IsTotalOrder}
use Rattle.std.specs.Ordering.{ordering_reverse}
use Rattle.std.specs.declared.cmp.Ordering.{Ordering}
use Rattle.std.specs.declared.cmp.Ordering.TheVariants.{Less, Equal, Greater}
use Rattle.std.proofs.lemmas.Cmp.{tied_itself}
use Rattle.std.proofs.lemmas.List.Elements.{Contains-append_left, Contains-append_right, Contains-append_cases}
use Rattle.or_geom.proofs.ListLaws.{all_contained, below_or, contains_cases, contains_first, contains_here, contains_later, contains_none}
use Rattle.flat_answers.proofs.DecisionLaws.{Decided, decide_not}

-- a list of exactly what has P
abbrev pub Listed : {X : Type 0} → (X → Type 0) → Type 0
Listed {X} P = (xs : List X) × ((x : X) → Contains xs x ↔ P x)

pub listed_none : {X : Type 0} (P : X → Type 0) → ((x : X) → P x → ⊥) → Listed P
listed_none P none = ([], λ x. (λ h. absurd (contains_none x h), λ p. absurd (none x p)))

pub listed_one : {X : Type 0} (x : X) → Listed (λ (y : X). y ≡ x)
listed_one x = (x ∷ [], λ y. (λ h. elim (contains_cases x [] y h) [ inl e ↦ e | inr k ↦ absurd (contains_none y k) ], λ e. contains_here x [] y e))

pub listed_as : {X : Type 0} (P Q : X → Type 0) → ((x : X) → P x → Q x) → ((x : X) → Q x → P x) → Listed P → Listed Q
listed_as P Q to from l = (l.0, λ x. (λ h. to x ((l.1 x).0 h), λ q. (l.1 x).1 (from x q)))

pub listed_either : {X : Type 0} (P Q : X → Type 0) → Listed P → Listed Q → Listed (λ (x : X). P x ⊎ Q x)
listed_either P Q a b = (
  a.0 ++ b.0,
  λ x. (
    λ h. elim (Contains-append_cases a.0 b.0 x h) [ inl k ↦ inl ((a.1 x).0 k) | inr k ↦ inr ((b.1 x).0 k) ],
    λ h. elim h [ inl p ↦ Contains-append_left a.0 b.0 x ((a.1 x).1 p) | inr q ↦ Contains-append_right a.0 b.0 x ((b.1 x).1 q) ],
  ),
)

-- what stands so to one of the list
over : {X Y : Type 0} (R : X → Y → Type 0) → ((x : X) → Listed (R x)) → (xs : List X) → Listed (λ (y : Y). (x : X) × Contains xs x × R x y)
over R each [] = listed_none _ (λ y h. contains_none h.0 h.1)
over {X} {Y} R each (x ∷ xs) = listed_as (λ (y : Y). R x y ⊎ ((z : X) × Contains xs z × R z y)) (λ (y : Y). (z : X) × Contains (x ∷ xs) z × R z y)
    (λ y h. elim h [ inl r ↦ (x, contains_first x xs, r) | inr k ↦ (k.0, contains_later x xs k.0 k.1, k.2) ])
    (λ y h. elim (contains_cases x xs h.0 h.1) [ inl e ↦ inl (subst (λ (z : X). R z y) e h.2) | inr k ↦ inr (h.0, k, h.2) ])
    (listed_either (R x) (λ (y : Y). (z : X) × Contains xs z × R z y) (each x) (over R each xs))

pub listed_over : {X Y : Type 0} (P : X → Type 0) (R : X → Y → Type 0) → Listed P → ((x : X) → Listed (R x))
    → Listed (λ (y : Y). (x : X) × P x × R x y)
listed_over {X} {Y} P R l each = listed_as (λ (y : Y). (x : X) × Contains l.0 x × R x y) (λ (y : Y). (x : X) × P x × R x y)
    (λ y h. (h.0, (l.1 h.0).0 h.1, h.2)) (λ y h. (h.0, (l.1 h.0).1 h.1, h.2)) (over R each l.0)

-- what is one of these and has Q
pub listed_where : {X : Type 0} (P Q : X → Type 0) → Listed P → ((x : X) → Decided (Q x)) → Listed (λ (x : X). P x × Q x)
listed_where {X} P Q l decide = listed_as (λ (y : X). (x : X) × P x × ((y ≡ x) × Q x)) (λ (x : X). P x × Q x)
    (λ y h. (subst P (sym h.2.0) h.1, subst Q (sym h.2.0) h.2.1)) (λ y h. (y, h.0, (refl, h.1)))
    (listed_over P (λ x y. (y ≡ x) × Q x) l (λ x. elim (decide x) [
      | inl q ↦ listed_as (λ (y : X). y ≡ x) (λ (y : X). (y ≡ x) × Q x) (λ y e. (e, q)) (λ y h. h.0) (listed_one x)
      | inr fails ↦ listed_none (λ (y : X). (y ≡ x) × Q x) (λ y h. fails h.1)
    ]))

pub listed_below : (n : ℕ) → Listed (λ (k : ℕ). k < n)
listed_below zero = listed_none (λ (k : ℕ). k < zero) (λ k lt. omega (arith, lt))
listed_below (suc n) = listed_as (λ (k : ℕ). (k ≡ n) ⊎ (k < n)) (λ (k : ℕ). k < suc n)
    (λ k h. elim h [ inl e ↦ omega (arith, e) | inr lt ↦ omega (arith, lt) ])
    (λ k lt. elim (below_or k n (omega (arith, lt))) [ inl less ↦ inr less | inr same ↦ inl same ])
    (listed_either (λ (k : ℕ). k ≡ n) (λ (k : ℕ). k < n) (listed_one n) (listed_below n))

pub some_or_none : {X : Type 0} (P : X → Type 0) → Listed P → Decided ((x : X) × P x)
some_or_none {X} P l = by l.0 l.1
  where
    by : (xs : List X) → ((x : X) → Contains xs x ↔ P x) → Decided ((x : X) × P x)
    by [] is = inr (λ h. contains_none h.0 ((is h.0).1 h.1))
    by (x ∷ xs) is = inl (x, (is x).0 (contains_first x xs))

-- whether one of them has Q, which has to be decided for these alone
pub decide_some : {X : Type 0} (P Q : X → Type 0) → Listed P → ((x : X) → P x → Decided (Q x)) → Decided ((x : X) × (P x × Q x))
decide_some {X} P Q l decide = elim (among l.0 (λ x. (l.1 x).0)) [
  | inl h ↦ inl (h.0, ((l.1 h.0).0 h.1.0, h.1.1))
  | inr fails ↦ inr (λ h. fails (h.0, ((l.1 h.0).1 h.1.0, h.1.1)))
]
  where
    among : (ys : List X) → ((x : X) → Contains ys x → P x) → Decided ((x : X) × (Contains ys x × Q x))
    among [] has = inr (λ h. contains_none h.0 h.1.0)
    among (y ∷ ys) has = elim (decide y (has y (contains_first y ys))) [
      | inl q ↦ inl (y, (contains_first y ys, q))
      | inr fails ↦ elim (among ys (λ x h. has x (contains_later y ys x h))) [
        | inl h ↦ inl (h.0, (contains_later y ys h.0 h.1.0, h.1.1))
        | inr none ↦ inr (λ h. elim (contains_cases y ys h.0 h.1.0) [ inl e ↦ fails (subst Q e h.1.1) | inr k ↦ none (h.0, (k, h.1.1)) ])
      ]
    ]

-- whether all of them have Q
pub decide_all : {X : Type 0} (P Q : X → Type 0) → Listed P → ((x : X) → Decided (Q x)) → Decided ((x : X) → P x → Q x)
decide_all {X} P Q l decide =
    elim (some_or_none (λ (x : X). P x × (Q x → ⊥)) (listed_where P (λ (x : X). Q x → ⊥) l (λ x. decide_not (Q x) (decide x)))) [
      | inl h ↦ inr (λ all. h.1.1 (all h.0 h.1.0))
      | inr none ↦ inl (λ x p. elim (decide x) [ inl q ↦ q | inr fails ↦ absurd (none (x, (p, fails))) ])
    ]

-- A thing is put into a list in strict order.
pub all_by_contained : {X : Type 0} (P : X → Type 0) (xs : List X) → ((x : X) → Contains xs x → P x) → AllByRecursion P xs
all_by_contained P [] each = tt
all_by_contained P (x ∷ xs) each = (each x (contains_first x xs), all_by_contained P xs (λ y h. each y (contains_later x xs y h)))

-- an order, in which things that compare as equal are one
pub record IsOrder {X : Type 0} (cmp : X → X → Ordering) : Type 0 where
  pub total : IsTotalOrder cmp
  pub one : (x y : X) → cmp x y ≡ Equal → x ≡ y

-- a list of exactly these, in strict order
abbrev pub Ordered : {X : Type 0} → (X → X → Ordering) → (X → Type 0) → Type 0
Ordered {X} cmp P = (xs : List X) × IsStrictlySortedBy cmp xs × ((x : X) → Contains xs x ↔ P x)

put : {X : Type 0} (cmp : X → X → Ordering) → IsOrder cmp → (x : X) (ys : List X) → IsStrictlySortedBy cmp ys
    → Ordered cmp (λ (z : X). (z ≡ x) ⊎ Contains ys z)
unfolding IsStrictlySortedBy
put {X} cmp order x [] rises =
    (x ∷ [], (tt, tt), λ z. (λ h. contains_cases x [] z h, λ h. elim h [ inl e ↦ contains_here x [] z e | inr k ↦ absurd (contains_none z k) ]))
put {X} cmp order x (y ∷ ys) rises = by (put cmp order x ys rises.1) (cmp x y) refl
  where
    by : Ordered cmp (λ (z : X). (z ≡ x) ⊎ Contains ys z) → (o : Ordering) → cmp x y ≡ o → Ordered cmp (λ (z : X). (z ≡ x) ⊎ Contains (y ∷ ys) z)
    by rest Less e = (
      x ∷ y ∷ ys,
      ((e, all_by_contained (λ z. cmp x z ≡ Less) ys (λ z h. order.total.trans x y z e (all_contained (λ w. cmp y w ≡ Less) ys z rises.0 h))), rises),
      λ z. (λ h. contains_cases x (y ∷ ys) z h, λ h. elim h [ inl is ↦ contains_here x (y ∷ ys) z is | inr k ↦ contains_later x (y ∷ ys) z k ]),
    )
    by rest Equal e = (y ∷ ys, rises, λ z. (λ h. inr h, λ h. elim h [ inl is ↦ contains_here y ys z (is ∙ order.one x y e) | inr k ↦ k ]))
    by rest Greater e = (
      y ∷ rest.0,
      (
        all_by_contained (λ z. cmp y z ≡ Less) rest.0 (λ z h. elim ((rest.2 z).0 h) [
          | inl is ↦ subst (λ (w : X). cmp y w ≡ Less) (sym is) (order.total.antisymm y x ∙ ap ordering_reverse e)
          | inr k ↦ all_contained (λ w. cmp y w ≡ Less) ys z rises.0 k
        ]),
        rest.1,
      ),
      λ z. (
        λ h. elim (contains_cases y rest.0 z h) [
          | inl is ↦ inr (contains_here y ys z is)
          | inr k ↦ elim ((rest.2 z).0 k) [ inl is ↦ inl is | inr m ↦ inr (contains_later y ys z m) ]
        ],
        λ h. elim h [
          | inl is ↦ contains_later y rest.0 z ((rest.2 z).1 (inl is))
          | inr k ↦ elim (contains_cases y ys z k) [ inl is ↦ contains_here y rest.0 z is | inr m ↦ contains_later y rest.0 z ((rest.2 z).1 (inr m)) ]
        ],
      ),
    )

ordered_list : {X : Type 0} (cmp : X → X → Ordering) → IsOrder cmp → (xs : List X) → Ordered cmp (Contains xs)
unfolding IsStrictlySortedBy
ordered_list cmp order [] = ([], tt, λ x. (λ h. h, λ h. h))
ordered_list cmp order (x ∷ xs) =
    let rest = ordered_list cmp order xs in
    let all = put cmp order x rest.0 rest.1 in (
      all.0,
      all.1,
      λ z. (
        λ h. elim ((all.2 z).0 h) [ inl e ↦ contains_here x xs z e | inr k ↦ contains_later x xs z ((rest.2 z).0 k) ],
        λ h. (all.2 z).1 (elim (contains_cases x xs z h) [ inl e ↦ inl e | inr k ↦ inr ((rest.2 z).1 k) ]),
      ),
    )

pub listed_ordered : {X : Type 0} (cmp : X → X → Ordering) (P : X → Type 0) → IsOrder cmp → Listed P → Ordered cmp P
listed_ordered cmp P order l = let o = ordered_list cmp order l.0 in (o.0, o.1, λ x. (λ h. (l.1 x).0 ((o.2 x).0 h), λ p. (o.2 x).1 ((l.1 x).1 p)))

-- the first of what has P
abbrev pub First : {X : Type 0} → (X → X → Ordering) → (X → Type 0) → Type 0
First {X} cmp P = (x : X) × P x × ((y : X) → P y → cmp x y ≢ Greater)

first_of : {X : Type 0} (cmp : X → X → Ordering) (P : X → Type 0) → IsTotalOrder cmp → (xs : List X) → IsStrictlySortedBy cmp xs
    → ((x : X) → Contains xs x ↔ P x) → First cmp P ⊎ ((x : X) → P x → ⊥)
unfolding IsStrictlySortedBy
first_of cmp P total [] rises is = inr (λ x p. contains_none x ((is x).1 p))
first_of {X} cmp P total (x ∷ xs) rises is = inl (
  x,
  (is x).0 (contains_first x xs),
  λ y p greater. elim (contains_cases x xs y ((is y).1 p)) [
    | inl e ↦ let bad : ◌≡◌ {A = Ordering} Equal Greater = sym (tied_itself total x) ∙ subst (λ (z : X). cmp x z ≡ Greater) e greater in absurd cc
    | inr k ↦ let bad : ◌≡◌ {A = Ordering} Less Greater = sym (all_contained (λ w. cmp x w ≡ Less) xs y rises.0 k) ∙ greater in absurd cc
  ],
)

pub first_or_none : {X : Type 0} (cmp : X → X → Ordering) (P : X → Type 0) → IsOrder cmp → Listed P → First cmp P ⊎ ((x : X) → P x → ⊥)
first_or_none cmp P order l = let o = listed_ordered cmp P order l in first_of cmp P order.total o.0 o.1 o.2
