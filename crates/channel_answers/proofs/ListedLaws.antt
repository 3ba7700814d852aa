-- Sets that are lists: one thing, two sets, those of numbers and of items; and each such list in strict order.
use Rattle.std.proofs.Common.{◌≡◌, ◌⊎◌, inl, inr, ℕ, zero, suc, ◌+◌, ◌*◌, ◌<◌, ◌≤◌, List, length, [], ◌∷◌, ◌++◌, refl, sym, ap, subst, ◌∙◌, arith, ◌↔◌}
use Rattle.std.specs.Prelude.{Contains}
use Rattle.std.specs.Cmp.{IsTotalOrder}
use Rattle.std.specs.List.{AllByRecursion}
use Rattle.std.specs.List.Sorted.{IsStrictlySortedBy}
use Rattle.std.specs.Ordering.{ordering_reverse}
use Rattle.std.specs.declared.cmp.Ordering.{Ordering}
use Rattle.std.specs.declared.cmp.Ordering.TheVariants.{Less, Equal, Greater}
use native.Mathlib.Nat.{suc-mul}
use Rattle.std.proofs.lemmas.Nat.{mul-le}
use Rattle.std.proofs.lemmas.List.{length-append}
use Rattle.std.proofs.lemmas.List.Elements.{Contains-append_cases, Contains-append_left, Contains-append_right}
use Rattle.or_geom.proofs.ListLaws.{all_contained, below_or, contains_cases, contains_first, contains_here, contains_later, contains_none}

-- a list of at most so many things has what has P, and nothing else
pub record Listed {X : Type 0} (most : ℕ) (P : X → Type 0) : Type 0 where
  pub list : List X
  pub few : length list ≤ most
  pub has : (x : X) → Contains list x ↔ P x

pub listed_none : {X : Type 0} (P : X → Type 0) → ((x : X) → P x → ⊥) → Listed 0 P
listed_none P none = record { list = []; few = omega arith; has = λ x. (λ h. absurd (contains_none x h), λ p. absurd (none x p)) }

pub listed_one : {X : Type 0} (P : X → Type 0) (y : X) → P y → ((x : X) → P x → x ≡ y) → Listed 1 P
listed_one P y is once = record {
  list = y ∷ [];
  few = omega arith;
  has = λ x. (λ h. elim (contains_cases y [] x h) [ inl e ↦ subst P (sym e) is | inr k ↦ absurd (contains_none x k) ], λ p. contains_here y [] x (once x p));
}

pub listed_or : {X : Type 0} (m n : ℕ) (P Q : X → Type 0) → Listed m P → Listed n Q → Listed (m + n) (λ x. P x ⊎ Q x)
listed_or m n P Q a b = record {
  list = a.list ++ b.list;
  few = let long = length-append a.list b.list in let first = a.few in let second = b.few in omega (arith, long, first, second);
  has = λ x. (
    λ h. elim (Contains-append_cases a.list b.list x h) [ inl l ↦ inl ((a.has x).0 l) | inr r ↦ inr ((b.has x).0 r) ],
    λ h. elim h [ inl p ↦ Contains-append_left a.list b.list x ((a.has x).1 p) | inr q ↦ Contains-append_right a.list b.list x ((b.has x).1 q) ],
  );
}

pub listed_as : {X : Type 0} (n : ℕ) (P Q : X → Type 0) → ((x : X) → P x → Q x) → ((x : X) → Q x → P x) → Listed n P → Listed n Q
listed_as n P Q to from a = record { list = a.list; few = a.few; has = λ x. (λ h. to x ((a.has x).0 h), λ q. (a.has x).1 (from x q)) }

-- more are allowed
pub listed_within : {X : Type 0} (m n : ℕ) (P : X → Type 0) → m ≤ n → Listed m P → Listed n P
listed_within m n P le a = record { list = a.list; few = let few = a.few in omega (arith, few, le); has = a.has }

-- where something else is decided
pub listed_where : {X : Type 0} (n : ℕ) (D : Type 0) (P : X → Type 0) → D ⊎ (D → ⊥) → (D → Listed n P) → Listed n (λ x. D × P x)
listed_where n D P (inl d) a = listed_as n P (λ x. D × P x) (λ x p. (d, p)) (λ x q. q.1) (a d)
listed_where n D P (inr never) a = listed_within 0 n (λ x. D × P x) (omega arith) (listed_none (λ x. D × P x) (λ x q. never q.0))

-- so many times as many
pub times : ℕ → ℕ → ℕ
times zero m = 0
times (suc n) m = times n m + m

pub times_is : (n m : ℕ) → times n m ≡ n * m
unfolding times
times_is zero m = omega arith
times_is (suc n) m = let less = times_is n m in let more = suc-mul n m in omega (arith, less, more)

pub times_up : (n m a b : ℕ) → n ≤ a → m ≤ b → times n m ≤ a * b
times_up n m a b less least = let is = times_is n m in let le : n * m ≤ a * b = mul-le n m a b less least in omega (arith, is, le)

-- those of each number below another
pub listed_below : {X : Type 0} (n m : ℕ) (P : ℕ → X → Type 0) → ((k : ℕ) → k < n → Listed m (P k))
    → Listed (times n m) (λ x. (k : ℕ) × (k < n) × P k x)
unfolding times
listed_below zero m P each = listed_none (λ x. (k : ℕ) × (k < 0) × P k x) (λ x p. let lt = p.1 in omega (arith, lt))
listed_below (suc n) m P each =
    listed_as (times n m + m) (λ x. ((k : ℕ) × (k < n) × P k x) ⊎ P n x) (λ x. (k : ℕ) × (k < suc n) × P k x)
    (λ x h. elim h [ inl p ↦ (p.0, (let lt = p.1 in omega (arith, lt)), p.2) | inr q ↦ (n, omega arith, q) ])
    (λ x p. elim (below_or p.0 n (let lt = p.1 in omega (arith, lt))) [ inl lt ↦ inl (p.0, lt, p.2) | inr same ↦ inr (subst (λ (k : ℕ). P k x) same p.2) ])
    (listed_or (times n m) m (λ x. (k : ℕ) × (k < n) × P k x) (P n) (listed_below n m P (λ k lt. each k (omega (arith, lt)))) (each n (omega arith)))

-- those of each item of a list
pub listed_items : {X Y : Type 0} (m : ℕ) (ys : List Y) (P : Y → X → Type 0) → ((y : Y) → Contains ys y → Listed m (P y))
    → Listed (times (length ys) m) (λ x. (y : Y) × Contains ys y × P y x)
unfolding times
listed_items m [] P each = listed_none (λ x. (y : _) × Contains [] y × P y x) (λ x p. contains_none p.0 p.1)
listed_items {X} {Y} m (z ∷ zs) P each =
    listed_as (times (length zs) m + m) (λ x. ((y : Y) × Contains zs y × P y x) ⊎ P z x) (λ x. (y : Y) × Contains (z ∷ zs) y × P y x)
    (λ x h. elim h [ inl q ↦ (q.0, contains_later z zs q.0 q.1, q.2) | inr p ↦ (z, contains_first z zs, p) ])
    (λ x p. elim (contains_cases z zs p.0 p.1) [ inl e ↦ inr (subst (λ (y : Y). P y x) e p.2) | inr k ↦ inl (p.0, k, p.2) ])
    (listed_or (times (length zs) m) m (λ x. (y : Y) × Contains zs y × P y x) (P z) (listed_items m zs P (λ y h. each y (contains_later z zs y h))) (each z (contains_first z zs)))

-- In strict order.

pub all_of : {X : Type 0} (P : X → Type 0) (xs : List X) → ((x : X) → Contains xs x → P x) → AllByRecursion P xs
all_of P [] each = tt
all_of P (x ∷ xs) each = (each x (contains_first x xs), all_of P xs (λ y h. each y (contains_later x xs y h)))

-- the list is in strict order, and has this thing and what the other list has
record IsPut {X : Type 0} (cmp : X → X → Ordering) (x : X) (ys zs : List X) : Type 0 where
  rises : IsStrictlySortedBy cmp zs
  few : length zs ≤ suc (length ys)
  has : (z : X) → Contains zs z ↔ ((z ≡ x) ⊎ Contains ys z)

put : {X : Type 0} (cmp : X → X → Ordering) → IsTotalOrder cmp → ((x y : X) → cmp x y ≡ Equal → x ≡ y) → (x : X) (ys : List X)
    → IsStrictlySortedBy cmp ys → (zs : List X) × IsPut cmp x ys zs
unfolding IsStrictlySortedBy
put {X} cmp total one x [] rises = (
  x ∷ [],
  record { rises = (tt, tt); few = omega arith; has = λ z. (λ h. contains_cases x [] z h, λ h. elim h [ inl e ↦ contains_here x [] z e | inr k ↦ absurd (contains_none z k) ]) },
)
put {X} cmp total one x (y ∷ ys) rises = by (put cmp total one x ys rises.1) (cmp x y) refl
  where
    by : (zs : List X) × IsPut cmp x ys zs → (o : Ordering) → cmp x y ≡ o → (zs : List X) × IsPut cmp x (y ∷ ys) zs
    by rest Less e = (
      x ∷ y ∷ ys,
      record {
        rises = ((e, all_of (λ z. cmp x z ≡ Less) ys (λ z h. total.trans x y z e (all_contained (λ w. cmp y w ≡ Less) ys z rises.0 h))), rises);
        few = omega arith;
        has = λ z. (λ h. contains_cases x (y ∷ ys) z h, λ h. elim h [ inl is ↦ contains_here x (y ∷ ys) z is | inr k ↦ contains_later x (y ∷ ys) z k ]);
      },
    )
    by rest Equal e = (
      y ∷ ys,
      record {
        rises = rises;
        few = omega arith;
        has = λ z. (λ h. inr h, λ h. elim h [ inl is ↦ contains_here y ys z (is ∙ one x y e) | inr k ↦ k ]);
      },
    )
    by rest Greater e =
        let above : (z : X) → Contains rest.0 z → cmp y z ≡ Less = λ z h. elim ((rest.1.has z).0 h) [
          | inl is ↦ subst (λ (w : X). cmp y w ≡ Less) (sym is) (total.antisymm y x ∙ ap ordering_reverse e)
          | inr k ↦ all_contained (λ w. cmp y w ≡ Less) ys z rises.0 k
        ] in (
          y ∷ rest.0,
          record {
            rises = (all_of (λ z. cmp y z ≡ Less) rest.0 above, rest.1.rises);
            few = let less = rest.1.few in omega (arith, less);
            has = λ z. (
              λ h. elim (contains_cases y rest.0 z h) [
                | inl is ↦ inr (contains_here y ys z is)
                | inr k ↦ elim ((rest.1.has z).0 k) [ inl is ↦ inl is | inr m ↦ inr (contains_later y ys z m) ]
              ],
              λ h. elim h [
                | inl is ↦ contains_later y rest.0 z ((rest.1.has z).1 (inl is))
                | inr k ↦ elim (contains_cases y ys z k) [ inl is ↦ contains_here y rest.0 z is | inr m ↦ contains_later y rest.0 z ((rest.1.has z).1 (inr m)) ]
              ],
            );
          },
        )

-- a list of at most so many things in strict order has what has P, and nothing else
pub record ListedInOrder {X : Type 0} (cmp : X → X → Ordering) (most : ℕ) (P : X → Type 0) : Type 0 where
  pub list : List X
  pub few : length list ≤ most
  pub rises : IsStrictlySortedBy cmp list
  pub has : (x : X) → Contains list x ↔ P x

ordered : {X : Type 0} (cmp : X → X → Ordering) → IsTotalOrder cmp → ((x y : X) → cmp x y ≡ Equal → x ≡ y) → (xs : List X)
    → ListedInOrder cmp (length xs) (Contains xs)
unfolding IsStrictlySortedBy
ordered cmp total one [] = record { list = []; few = omega arith; rises = tt; has = λ x. (λ h. h, λ h. h) }
ordered cmp total one (y ∷ ys) =
    let rest = ordered cmp total one ys in
    let more = put cmp total one y rest.list rest.rises in
    record {
      list = more.0;
      few = let less = more.1.few in let least = rest.few in omega (arith, less, least);
      rises = more.1.rises;
      has = λ x. (
        λ h. elim ((more.1.has x).0 h) [ inl e ↦ contains_here y ys x e | inr k ↦ contains_later y ys x ((rest.has x).0 k) ],
        λ h. (more.1.has x).1 (elim (contains_cases y ys x h) [ inl e ↦ inl e | inr k ↦ inr ((rest.has x).1 k) ]),
      );
    }

pub listed_in_order : {X : Type 0} (cmp : X → X → Ordering) (n : ℕ) (P : X → Type 0) → IsTotalOrder cmp → ((x y : X) → cmp x y ≡ Equal → x ≡ y)
    → Listed n P → ListedInOrder cmp n P
listed_in_order cmp n P total one a =
    let found = ordered cmp total one a.list in
    let less = found.few in
    let least = a.few in
    record { list = found.list; few = omega (arith, less, least); rises = found.rises; has = λ x. (λ h. (a.has x).0 ((found.has x).0 h), λ p. (found.has x).1 ((a.has x).1 p)) }
