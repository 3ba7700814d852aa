-- Numbers that are listed.
use Rattle.std.proofs.Common.{◌≡◌, inl, inr, ℕ, Bool, true, false, ◌||◌, ◌==◌, List, [], ◌∷◌, refl, arith}
use Rattle.std.specs.List.{list_any}
use Rattle.std.proofs.lemmas.Bool.Decides.{nat_tests}
use Rattle.sram_netlist.specs.Membership.{IsOneOf}

either_listed : (b : Bool) (v n : ℕ) (vs : List ℕ) → b ≡ (v == n) → (list_any (λ w. w == n) vs ≡ true → IsOneOf n vs) → (b || list_any (λ w. w == n) vs) ≡ true → IsOneOf n (v ∷ vs)
either_listed true v n vs is more h = inl (grind (arith, nat_tests))
either_listed false v n vs is more h = inr (more h)

pub any_is_one : (vs : List ℕ) (n : ℕ) → list_any (λ v. v == n) vs ≡ true → IsOneOf n vs
any_is_one [] n h = absurd cc
any_is_one (v ∷ vs) n h = either_listed (v == n) v n vs refl (any_is_one vs n) h
