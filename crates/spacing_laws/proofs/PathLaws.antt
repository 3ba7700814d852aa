-- Which two stand side by side in lists that have a beginning in common, and differ in how often what follows is repeated.
use Rattle.std.proofs.Common.{◌≡◌, ◌⊎◌, inl, inr, ℕ, zero, suc, ◌<◌, ◌≤◌, List, [], ◌∷◌, ◌++◌, refl, sym, subst, arith}
use Rattle.spacing_laws.proofs.RowLaws.{HasPair}

-- all that stand side by side in the list are related
abbrev pub IsPath : {T : Type 0} → (T → T → Type 0) → List T → Type 0
IsPath R [] = Unit {0}
IsPath R (x ∷ []) = Unit {0}
IsPath R (x ∷ y ∷ l) = R x y × IsPath R (y ∷ l)

abbrev pub PairIn : {T : Type 0} → List T → T → T → Type 0
PairIn l r s = HasPair r s l

path_more : {T : Type 0} (R S : T → T → Type 0) (l : List T) → ((r s : T) → R r s → S r s) → IsPath R l → IsPath S l
path_more R S [] more is = tt
path_more R S (x ∷ []) more is = tt
path_more R S (x ∷ y ∷ l) more is = (more x y is.0, path_more R S (y ∷ l) more is.1)

-- a list has its own pairs
pub own_path : {T : Type 0} (l : List T) → IsPath (PairIn l) l
own_path [] = tt
own_path (x ∷ []) = tt
own_path {T} (x ∷ y ∷ l) = (inl (refl, refl), path_more (PairIn (y ∷ l)) (PairIn (x ∷ y ∷ l)) (y ∷ l) (λ r s h. inr h) (own_path (y ∷ l)))

-- a pair of a path is related
pub pair_related : {T : Type 0} (R : T → T → Type 0) (r s : T) (l : List T) → IsPath R l → HasPair r s l → R r s
pair_related R r s [] is h = absurd h
pair_related R r s (x ∷ []) is h = absurd h
pair_related R r s (x ∷ y ∷ l) is (inl (e, f)) = subst (λ t. R t s) (sym e) (subst (R x) (sym f) is.0)
pair_related R r s (x ∷ y ∷ l) is (inr later) = pair_related R r s (y ∷ l) is.1 later

pub path_tail : {T : Type 0} (R : T → T → Type 0) (x : T) (l : List T) → IsPath R (x ∷ l) → IsPath R l
path_tail R x [] is = tt
path_tail R x (y ∷ l) is = is.1

-- Paths that meet in d

pub path_back : {T : Type 0} (R : T → T → Type 0) (xs ys : List T) → IsPath R (xs ++ ys) → IsPath R ys
path_back R [] ys is = is
path_back R (x ∷ xs) ys is = path_back R xs ys (path_tail R x (xs ++ ys) is)

pub path_front : {T : Type 0} (R : T → T → Type 0) (xs : List T) (d : T) (ys : List T) → IsPath R (xs ++ d ∷ ys) → IsPath R (xs ++ d ∷ [])
path_front R [] d ys is = tt
path_front R (x ∷ []) d ys is = (is.0, tt)
path_front R (x ∷ y ∷ xs) d ys is = (is.0, path_front R (y ∷ xs) d ys is.1)

pub path_join : {T : Type 0} (R : T → T → Type 0) (xs : List T) (d : T) (ys : List T) → IsPath R (xs ++ d ∷ []) → IsPath R (d ∷ ys) → IsPath R (xs ++ d ∷ ys)
path_join R [] d ys is also = also
path_join R (x ∷ []) d ys is also = (is.0, also)
path_join R (x ∷ y ∷ xs) d ys is also = (is.0, path_join R (y ∷ xs) d ys is.1 also)

-- One that is repeated, and two that are repeated in turns

abbrev pub copies : {T : Type 0} → T → ℕ → List T
copies d zero = []
copies d (suc n) = d ∷ copies d n

abbrev pub turns : {T : Type 0} → T → T → ℕ → List T
turns a b zero = []
turns a b (suc n) = a ∷ b ∷ turns a b n

pub path_copies : {T : Type 0} (R : T → T → Type 0) (d : T) (n : ℕ) (ys : List T) → R d d → IsPath R (d ∷ ys) → IsPath R (d ∷ copies d n ++ ys)
path_copies R d zero ys one is = is
path_copies R d (suc n) ys one is = (one, path_copies R d n ys one is)

pub path_turns : {T : Type 0} (R : T → T → Type 0) (a b : T) (n : ℕ) → R a b → R b a → IsPath R (a ∷ b ∷ turns a b n)
path_turns R a b zero one two = (one, tt)
path_turns R a b (suc n) one two = (one, (two, path_turns R a b n one two))

-- of two counts of turns: they are the same, or the first isn't 0 and the second is 2 or more
abbrev pub AreTurnsOf : ℕ → ℕ → Type 0
AreTurnsOf n m = (n ≡ m) ⊎ ((0 < n) × (2 ≤ m))

path_ends : {T : Type 0} (R : T → T → Type 0) (d : T) (ys : List T) (a b : T) (n m : ℕ) → AreTurnsOf n m → IsPath R (d ∷ (ys ++ turns a b m)) → IsPath R (d ∷ (ys ++ turns a b n))
path_ends R d ys a b n m (inl e) is = subst (λ (k : ℕ). IsPath R (d ∷ (ys ++ turns a b k))) (sym e) is
path_ends R d ys a b zero m (inr (some, two)) is = absurd (omega (arith, some))
path_ends R d ys a b (suc n) zero (inr (some, two)) is = absurd (omega (arith, two))
path_ends R d ys a b (suc n) (suc zero) (inr (some, two)) is = absurd (omega (arith, two))
path_ends R d ys a b (suc n) (suc (suc m)) (inr (some, two)) is =
    let last = path_back R (d ∷ ys) (a ∷ b ∷ a ∷ b ∷ turns a b m) is in
    path_join R (d ∷ ys) a (b ∷ turns a b n) (path_front R (d ∷ ys) a (b ∷ a ∷ b ∷ turns a b m) is) (path_turns R a b n last.0 last.1.0)

-- A list of so many copies behind a beginning, and then of turns, has only pairs that another has with two copies or more.
pub same_pairs : {T : Type 0} (xs : List T) (d : T) (ys : List T) (a b : T) (n m k l : ℕ) → 0 < n → 2 ≤ m → AreTurnsOf k l
    → IsPath (PairIn (xs ++ (copies d m ++ (ys ++ turns a b l)))) (xs ++ (copies d n ++ (ys ++ turns a b k)))
same_pairs xs d ys a b zero m k l some two turns_of = absurd (omega (arith, some))
same_pairs xs d ys a b (suc n) zero k l some two turns_of = absurd (omega (arith, two))
same_pairs xs d ys a b (suc n) (suc zero) k l some two turns_of = absurd (omega (arith, two))
same_pairs {T} xs d ys a b (suc n) (suc (suc m)) k l some two turns_of =
    let whole = xs ++ (copies d (suc (suc m)) ++ (ys ++ turns a b l)) in
    let R = PairIn whole in
    let is = own_path whole in
    let back = path_back R xs (d ∷ d ∷ copies d m ++ (ys ++ turns a b l)) is in
    let ends = path_copies_back R d m (ys ++ turns a b l) back.1 in
    path_join R xs d (copies d n ++ (ys ++ turns a b k)) (path_front R xs d (d ∷ copies d m ++ (ys ++ turns a b l)) is)
    (path_copies R d n (ys ++ turns a b k) back.0 (path_ends R d ys a b k l turns_of ends))
  where
    path_copies_back : (R : T → T → Type 0) (d : T) (n : ℕ) (zs : List T) → IsPath R (d ∷ copies d n ++ zs) → IsPath R (d ∷ zs)
    path_copies_back R d zero zs is = is
    path_copies_back R d (suc n) zs is = path_copies_back R d n zs is.1
