-- What stands in a list, and in the list that a function makes of it.
use Rattle.std.proofs.Common.{◌≡◌, inl, inr, ℕ, zero, suc, ◌<◌, ◌≤◌, List, [], ◌∷◌, length, get_or, map, Some, refl, ap, subst}
use Rattle.std.specs.Prelude.{slice_get}
use Rattle.std.proofs.lemmas.List.{drop_all}
use Rattle.std.proofs.lemmas.Option.{same_Some, slice_get-get_or}
use Rattle.or_geom.specs.Gathering.{SomeHas}
use Rattle.or_geom.proofs.GatheringLaws.{IsAmongLeft, some_has}
use Rattle.or_geom.proofs.ListLaws.{contained_at}

pub mapped_at : {X Y : Type 0} (f : X → Y) (xs : List X) (i : ℕ) (x : X) → slice_get xs i ≡ Some x → slice_get (map f xs) i ≡ Some (f x)
mapped_at f [] i x h = absurd cc
mapped_at f (y ∷ ys) zero x h = let same : y ≡ x = same_Some y x h in ap (λ z. Some (f z)) same
mapped_at f (y ∷ ys) (suc i) x h = mapped_at f ys i x h

-- what stands in the one was made of what stands in the other
pub unmapped_at : {X Y : Type 0} (f : X → Y) (xs : List X) (i : ℕ) (y : Y) → slice_get (map f xs) i ≡ Some y → (x : X) × (slice_get xs i ≡ Some x) × (f x ≡ y)
unmapped_at f [] i y h = absurd cc
unmapped_at f (x ∷ xs) zero y h = (x, refl, same_Some (f x) y h)
unmapped_at f (x ∷ xs) (suc i) y h = unmapped_at f xs i y h

pub mapped_twice : {X Y Z : Type 0} (g : Y → Z) (f : X → Y) (xs : List X) → map (λ x. g (f x)) xs ≡ map g (map f xs)
mapped_twice g f [] = refl
mapped_twice g f (x ∷ xs) = ap (λ zs. g (f x) ∷ zs) (mapped_twice g f xs)

pub some_unmapped : {X Y : Type 0} (P : Y → Type 0) (f : X → Y) (xs : List X) → SomeHas P (map f xs) → SomeHas (λ x. P (f x)) xs
some_unmapped P f [] h = h
some_unmapped P f (x ∷ xs) (inl h) = inl h
some_unmapped P f (x ∷ xs) (inr h) = inr (some_unmapped P f xs h)

-- what a loop over the one finds stands in the other
pub found_mapped : {X Y : Type 0} (P : Y → Type 0) (f : X → Y) (xs : List X) (i : ℕ) (d : X) → i < length xs → P (f (get_or xs i d)) → SomeHas P (map f xs)
found_mapped P f xs i d lt p = some_has P (map f xs) (f (get_or xs i d)) (contained_at (map f xs) i (f (get_or xs i d)) (mapped_at f xs i (get_or xs i d) (slice_get-get_or xs i d lt))) p

-- and where the loop comes to the end there is none
pub none_mapped : {X Y : Type 0} (P : Y → Type 0) (f : X → Y) (xs : List X) (i : ℕ) → length xs ≤ i → IsAmongLeft (λ x. P (f x)) xs i → SomeHas P (map f xs) → ⊥
none_mapped {X} P f xs i le left some = subst (λ (l : List X). SomeHas (λ x. P (f x)) l) (drop_all i xs le) (left (some_unmapped P f xs some))
