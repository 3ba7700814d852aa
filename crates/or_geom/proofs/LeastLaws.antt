-- The least of some names is one.
use Rattle.std.proofs.Common.{◌≡◌, ◌≢◌, ℕ, List, refl}
use Rattle.std.specs.Cmp.{IsTotalOrder}
use Rattle.std.specs.Ordering.{ordering_reverse}
use Rattle.std.specs.declared.cmp.Ordering.{Ordering}
use Rattle.std.specs.declared.cmp.Ordering.TheVariants.{Less, Equal, Greater}
use Rattle.std.proofs.lemmas.Cmp.{nat_list_cmp_total}
use Rattle.std.proofs.lemmas.Map.Lookups.{exact_bytes}
use Rattle.or_geom.specs.Least.{IsLeast}

-- an ordering that isn't Greater, nor is when it is turned, is Equal
neither_greater : (o turned : Ordering) → o ≡ ordering_reverse turned → o ≢ Greater → turned ≢ Greater → o ≡ Equal
neither_greater Less Less e a b = absurd cc
neither_greater Less Equal e a b = absurd cc
neither_greater Less Greater e a b = absurd (b refl)
neither_greater Equal turned e a b = refl
neither_greater Greater turned e a b = absurd (a refl)

-- two things of which neither comes after the other compare as equal
pub neither_after : {X : Type 0} (cmp : X → X → Ordering) → IsTotalOrder cmp → (x y : X) → cmp x y ≢ Greater → cmp y x ≢ Greater → cmp x y ≡ Equal
neither_after cmp total x y a b = neither_greater (cmp x y) (cmp y x) (total.antisymm x y) a b

-- two least names that have P are the same
pub least_is_one : (P : List ℕ → Type 0) (a b : List ℕ) → IsLeast P a → IsLeast P b → a ≡ b
least_is_one P a b p q = exact_bytes a b (neither_after _ nat_list_cmp_total a b (p.least b q.has) (q.least a p.has))
