-- Lists of so many items that hold all things of a kind, and lists without repetition of such things.
use Rattle.std.proofs.Common.{◌≡◌, ◌⊎◌, inl, inr, ℕ, zero, suc, ◌+◌, ◌*◌, ◌<◌, ◌≤◌, List, [], ◌∷◌, ◌++◌, map, length, refl, sym, subst, ◌∙◌, arith, length-append}
use Rattle.std.specs.Prelude.{Contains}
use Rattle.std.specs.List.Sorted.{IsStrictlySortedBy}
use Rattle.std.specs.declared.cmp.Ordering.{Ordering}
use Rattle.std.specs.declared.cmp.Ordering.TheVariants.{Less}
use Rattle.std.proofs.Math.Nat.{suc-mul, zero-mul}
use Rattle.std.proofs.lemmas.List.{length-map}
use Rattle.std.proofs.lemmas.List.Elements.{Contains-append_left, Contains-append_right}
use Rattle.or_geom.proofs.ListLaws.{contains_map, all_contained, below_or}
use Rattle.or_geom.proofs.CountLaws.{AreToldApart, at_most}

-- a list of so many items holds all that P is true of
pub record IsListed (X : Type 0) (number : ℕ) (P : X → Type 0) : Type 0 where
  pub items : List X
  pub size : length items ≡ number
  pub holds : (x : X) → P x → Contains items x

pub nothing_listed : (X : Type 0) (P : X → Type 0) → ((x : X) → P x → ⊥) → IsListed X 0 P
nothing_listed X P never = record { items = []; size = refl; holds = λ x h. absurd (never x h) }

pub fewer_listed : (X : Type 0) (number : ℕ) (P Q : X → Type 0) → ((x : X) → Q x → P x) → IsListed X number P → IsListed X number Q
fewer_listed X number P Q weaker l = record { items = l.items; size = l.size; holds = λ x h. l.holds x (weaker x h) }

pub number_listed : (X : Type 0) (m n : ℕ) (P : X → Type 0) → m ≡ n → IsListed X m P → IsListed X n P
number_listed X m n P same l = record { items = l.items; size = l.size ∙ same; holds = l.holds }

both_hold : (X : Type 0) (xs ys : List X) (P Q : X → Type 0) → ((x : X) → P x → Contains xs x) → ((x : X) → Q x → Contains ys x) → (x : X) → (P x ⊎ Q x) → Contains (xs ++ ys) x
both_hold X xs ys P Q first second x (inl p) = Contains-append_left xs ys x (first x p)
both_hold X xs ys P Q first second x (inr q) = Contains-append_right xs ys x (second x q)

pub both_listed : (X : Type 0) (m n : ℕ) (P Q : X → Type 0) → IsListed X m P → IsListed X n Q → IsListed X (m + n) (λ x. P x ⊎ Q x)
both_listed X m n P Q l k = record {
  items = l.items ++ k.items;
  size = let whole = length-append l.items k.items in let first = l.size in let second = k.size in omega (arith, whole, first, second);
  holds = both_hold X l.items k.items P Q l.holds k.holds;
}

-- y is what f makes of a thing that P is true of
pub record IsMadeOf (X : Type 0) (f : X → X) (P : X → Type 0) (y : X) : Type 0 where
  pub inner : X
  pub has : P inner
  pub is : y ≡ f inner

pub images_listed : (X : Type 0) (n : ℕ) (f : X → X) (P : X → Type 0) → IsListed X n P → IsListed X n (IsMadeOf X f P)
images_listed X n f P l = record {
  items = map f l.items;
  size = length-map l.items f ∙ l.size;
  holds = λ y h. subst (λ (z : X). Contains (map f l.items) z) (sym h.is) (contains_map f l.items h.inner (l.holds h.inner h.has));
}

-- P is true of the thing at one of the first k places
pub record IsAtOneOf (X : Type 0) (k : ℕ) (P : ℕ → X → Type 0) (x : X) : Type 0 where
  pub place : ℕ
  pub before : place < k
  pub has : P place x

last_or_before : (X : Type 0) (k place : ℕ) (P : ℕ → X → Type 0) (x : X) → place < suc k → P place x → ((place < k) ⊎ (place ≡ k)) → P k x ⊎ IsAtOneOf X k P x
last_or_before X k place P x lt has (inl less) = inr (record { place = place; before = less; has = has })
last_or_before X k place P x lt has (inr same) = inl (subst (λ (n : ℕ). P n x) same has)

pub places_listed : (X : Type 0) (k n : ℕ) (P : ℕ → X → Type 0) → ((place : ℕ) → IsListed X n (P place)) → IsListed X (k * n) (IsAtOneOf X k P)
places_listed X zero n P each = number_listed X 0 (0 * n) (IsAtOneOf X 0 P) (sym (zero-mul n)) (nothing_listed X (IsAtOneOf X 0 P) (λ x h. let lt = h.before in omega (arith, lt)))
places_listed X (suc k) n P each =
    number_listed X (n + k * n) (suc k * n) (IsAtOneOf X (suc k) P) (let product = suc-mul k n in omega (arith, product))
    (fewer_listed X (n + k * n) (λ x. P k x ⊎ IsAtOneOf X k P x) (IsAtOneOf X (suc k) P)
    (λ x h. last_or_before X k h.place P x h.before h.has (below_or h.place k (let lt = h.before in omega arith)))
    (both_listed X n (k * n) (P k) (IsAtOneOf X k P) (each k) (places_listed X k n P each)))

told_apart : (X Y : Type 0) (f : X → Y) (cmp : X → X → Ordering) → ((x z : X) → cmp x z ≡ Less → f x ≡ f z → ⊥) → (xs : List X) → IsStrictlySortedBy cmp xs → AreToldApart f xs
unfolding IsStrictlySortedBy
told_apart X Y f cmp apart [] rising = tt
told_apart X Y f cmp apart (x ∷ xs) rising = (λ z h same. apart x z (all_contained (λ w. cmp x w ≡ Less) xs z rising.0 h) same, told_apart X Y f cmp apart xs rising.1)

-- A list in strict order has at most as many items as a list that holds what f makes of each, where f tells things apart
-- of which one comes before the other.
pub at_most_listed : (X Y : Type 0) (f : X → Y) (cmp : X → X → Ordering) → ((x z : X) → cmp x z ≡ Less → f x ≡ f z → ⊥) → (xs : List X) (ys : List Y) → IsStrictlySortedBy cmp xs
    → ((x : X) → Contains xs x → Contains ys (f x)) → length xs ≤ length ys
at_most_listed X Y f cmp apart xs ys rising kept = at_most f xs ys (told_apart X Y f cmp apart xs rising) kept
