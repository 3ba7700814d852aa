-- Two lists in strict order that hold the same things are one list.
use Rattle.std.proofs.Common.{◌≡◌, inl, inr, List, [], ◌∷◌, refl, sym, ap, subst, ◌∙◌}
use Rattle.std.specs.Prelude.{Contains}
use Rattle.std.specs.List.{AllByRecursion}
use Rattle.std.specs.Cmp.{IsTotalOrder}
use Rattle.std.specs.Ordering.{ordering_reverse}
use Rattle.std.specs.List.Sorted.{IsStrictlySortedBy}
use Rattle.std.specs.declared.cmp.Ordering.{Ordering}
use Rattle.std.specs.declared.cmp.Ordering.TheVariants.{Less, Greater}
use Rattle.or_geom.proofs.ListLaws.{contains_none, contains_cases, contains_first, contains_later, all_contained}
use Rattle.or_geom.specs.OneList.{HoldSame}

-- of two things not each comes before the other
pub not_both : {X : Type 0} (cmp : X → X → Ordering) → IsTotalOrder cmp → (x y : X) → cmp x y ≡ Less → cmp y x ≡ Less → ⊥
not_both cmp total x y a b = let e : ◌≡◌ {A = Ordering} Less Greater = sym a ∙ (total.antisymm x y ∙ ap ordering_reverse b) in cc

heads : {X : Type 0} (cmp : X → X → Ordering) → IsTotalOrder cmp → (x y : X) (xs ys : List X) → AllByRecursion (λ z. cmp x z ≡ Less) xs → AllByRecursion (λ z. cmp y z ≡ Less) ys
    → Contains (y ∷ ys) x → Contains (x ∷ xs) y → x ≡ y
heads cmp total x y xs ys above_x above_y a b = elim (contains_cases y ys x a) [
  | inl e ↦ e
  | inr h ↦ elim (contains_cases x xs y b) [
    | inl e ↦ sym e
    | inr k ↦ absurd (not_both cmp total x y (all_contained (λ z. cmp x z ≡ Less) xs y above_x k) (all_contained (λ z. cmp y z ≡ Less) ys x above_y h))
  ]
]

tail : {X : Type 0} (cmp : X → X → Ordering) → IsTotalOrder cmp → (x y : X) (xs ys : List X) → AllByRecursion (λ z. cmp x z ≡ Less) xs → x ≡ y → ((z : X) → Contains (x ∷ xs) z → Contains (y ∷ ys) z)
    → (z : X) → Contains xs z → Contains ys z
tail cmp total x y xs ys above e there z h = elim (contains_cases y ys z (there z (contains_later x xs z h))) [
  | inl k ↦
      let less : cmp x z ≡ Less = all_contained (λ w. cmp x w ≡ Less) xs z above h in
      let self : cmp x x ≡ Less = subst (λ w. cmp x w ≡ Less) (k ∙ sym e) less in
      absurd (not_both cmp total x x self self)
  | inr k ↦ k
]

pub one_list : {X : Type 0} (cmp : X → X → Ordering) → IsTotalOrder cmp → (xs ys : List X) → IsStrictlySortedBy cmp xs → IsStrictlySortedBy cmp ys → HoldSame xs ys → xs ≡ ys
unfolding IsStrictlySortedBy
one_list cmp total [] [] a b same = refl
one_list cmp total [] (y ∷ ys) a b same = absurd (contains_none y (same.back y (contains_first y ys)))
one_list cmp total (x ∷ xs) [] a b same = absurd (contains_none x (same.there x (contains_first x xs)))
one_list {X = X} cmp total (x ∷ xs) (y ∷ ys) a b same =
    let e = heads cmp total x y xs ys a.0 b.0 (same.there x (contains_first x xs)) (same.back y (contains_first y ys)) in
    let rest = one_list cmp total xs ys a.1 b.1 (record { there = tail cmp total x y xs ys a.0 e same.there; back = tail cmp total y x ys xs b.0 (sym e) same.back }) in
    ap (λ (z : X). z ∷ xs) e ∙ ap (λ (zs : List X). y ∷ zs) rest
