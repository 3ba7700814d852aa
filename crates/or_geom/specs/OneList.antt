-- A set has one list in strict order.
use Rattle.std.specs.Prelude.{◌≡◌, ℕ, List, Contains}
use Rattle.std.specs.Cmp.{IsTotalOrder}
use Rattle.std.specs.List.Sorted.{IsStrictlySortedBy}
use Rattle.std.specs.declared.cmp.Ordering.{Ordering}

-- the lists hold the same things
pub record HoldSame {X : Type 0} (xs ys : List X) : Type 0 where
  pub there : (x : X) → Contains xs x → Contains ys x
  pub back : (x : X) → Contains ys x → Contains xs x

-- of texts, which stand for any things that a total order compares
abbrev pub AreOneList : Type 0
AreOneList = (cmp : List ℕ → List ℕ → Ordering) → IsTotalOrder cmp → (xs ys : List (List ℕ)) → IsStrictlySortedBy cmp xs → IsStrictlySortedBy cmp ys → HoldSame xs ys → xs ≡ ys
