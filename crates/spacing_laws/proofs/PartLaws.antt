-- Lists whose numbers are some of another's: where two are nearer than a pitch, so are two of the other.
use Rattle.std.proofs.Common.{◌≡◌, inl, inr, ℕ, zero, suc, ◌+◌, ◌<◌, ◌≤◌, ℤ, List, [], ◌∷◌, ◌++◌, flat_map, sym, subst, arith}
use Rattle.std.proofs.lemmas.Bool.{cases_order}
use Rattle.sram_netlist.specs.InstanceList.{numbers_from}
use Rattle.spacing_laws.proofs.CloseLaws.{HasNear, HasClose, HasBetween, near_front, near_back, near_either, between_sym, close_front, close_back, close_between, HasParts, close_parts}

pub record IsPart (xs ys : List ℤ) : Type 0 where
  pub near : (p x : ℤ) → HasNear p x xs → HasNear p x ys
  pub close : (p : ℤ) → HasClose p xs → HasClose p ys

pub part_same : (xs ys : List ℤ) → xs ≡ ys → IsPart xs ys
part_same xs ys e = record { near = λ p x h. subst (HasNear p x) e h; close = λ p h. subst (HasClose p) e h }

pub part_none : (ys : List ℤ) → IsPart [] ys
part_none ys = record { near = λ p x h. absurd h; close = λ p h. absurd h }

pub part_between : (p : ℤ) (xs ys zs : List ℤ) → IsPart xs ys → HasBetween p zs xs → HasBetween p zs ys
part_between p xs ys [] part h = absurd h
part_between p xs ys (z ∷ zs) part (inl h) = inl (part.near p z h)
part_between p xs ys (z ∷ zs) part (inr h) = inr (part_between p xs ys zs part h)

pub part_both : (p : ℤ) (xs ys us vs : List ℤ) → IsPart xs ys → IsPart us vs → HasBetween p xs us → HasBetween p ys vs
part_both p xs ys us vs a b h = part_between p us vs ys b (between_sym p us ys (part_between p xs ys us a (between_sym p xs us h)))

pub part_append : (xs ys us vs : List ℤ) → IsPart xs ys → IsPart us vs → IsPart (xs ++ us) (ys ++ vs)
part_append xs ys us vs a b = record { near = near; close = λ p h. close p (close_parts p xs us h) }
  where
    near : (p x : ℤ) → HasNear p x (xs ++ us) → HasNear p x (ys ++ vs)
    near p x h = elim (near_either p x xs us h) [
      | inl l ↦ near_front p x ys vs (a.near p x l)
      | inr r ↦ near_back p x ys vs (b.near p x r)
    ]

    close : (p : ℤ) → HasParts p xs us → HasClose p (ys ++ vs)
    close p (inl l) = close_front p ys vs (a.close p l)
    close p (inr (inl r)) = close_back p ys vs (b.close p r)
    close p (inr (inr m)) = close_between p ys vs (part_both p xs ys us vs a b m)

pub part_front : (xs ys : List ℤ) → IsPart xs (xs ++ ys)
part_front xs ys = record { near = λ p x h. near_front p x xs ys h; close = λ p h. close_front p xs ys h }

pub part_back : (xs ys : List ℤ) → IsPart ys (xs ++ ys)
part_back xs ys = record { near = λ p x h. near_back p x xs ys h; close = λ p h. close_back p xs ys h }

pub part_of_part : (xs ys zs : List ℤ) → IsPart xs ys → IsPart ys zs → IsPart xs zs
part_of_part xs ys zs a b = record { near = λ p x h. b.near p x (a.near p x h); close = λ p h. b.close p (a.close p h) }

pub part_lists : (f g : ℕ → List ℤ) (k n : ℕ) → ((i : ℕ) → k ≤ i → i < k + n → IsPart (f i) (g i)) → IsPart (flat_map f (numbers_from k n)) (flat_map g (numbers_from k n))
part_lists f g k zero each = part_none []
part_lists f g k (suc n) each =
    part_append (f k) (g k) (flat_map f (numbers_from (suc k) n)) (flat_map g (numbers_from (suc k) n)) (each k (omega arith) (omega arith))
    (part_lists f g (suc k) n (λ i a b. each i (omega (arith, a)) (omega (arith, b))))

-- one of the lists is a part of all
pub part_one : (f : ℕ → List ℤ) (k n i : ℕ) → k ≤ i → i < k + n → IsPart (f i) (flat_map f (numbers_from k n))
part_one f k zero i a b = absurd (omega (arith, a, b))
part_one f k (suc n) i a b = elim (cases_order i k) [
  | inl same ↦ subst (λ (m : ℕ). IsPart (f m) (f k ++ flat_map f (numbers_from (suc k) n))) (sym same) (part_front (f k) (flat_map f (numbers_from (suc k) n)))
  | inr (inl less) ↦ absurd (omega (arith, a, less))
  | inr (inr later) ↦ part_of_part (f i) (flat_map f (numbers_from (suc k) n)) (f k ++ flat_map f (numbers_from (suc k) n)) (part_one f (suc k) n i (omega (arith, later)) (omega (arith, b))) (part_back (f k) (flat_map f (numbers_from (suc k) n)))
]
