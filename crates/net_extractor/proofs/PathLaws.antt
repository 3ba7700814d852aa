-- Paths in whole names.
use Rattle.std.proofs.Common.{◌≡◌, ◌↔◌, ℕ, Bool, true, false, nat_eq, length, List, [], ◌∷◌, ◌++◌, sym, ap, ◌∙◌}
use Rattle.std.proofs.lemmas.List.{append_cancel_left}
use Rattle.net_extractor.specs.Difference.{IsAbove}

-- what follows a front begins with a `/` exactly where the front is above the whole
pub above_by : (path other rest others : List ℕ) (first : ℕ) → other ≡ path ++ rest → rest ≡ first ∷ others → (first ≡ 47) ↔ IsAbove path other
above_by path other rest others first is begins = (
  λ e. record { rest = others; is = is ∙ ap (λ (r : List ℕ). path ++ r) (begins ∙ ap (λ (b : ℕ). b ∷ others) e) },
  λ h. let same : first ∷ others ≡ 47 ∷ h.rest = sym begins ∙ append_cancel_left path rest (47 ∷ h.rest) (sym is ∙ h.is) in cc,
)

pub not_empty : (text : List ℕ) → false ≡ nat_eq (length text) 0 → text ≡ [] → ⊥
not_empty text test none = let e : ◌≡◌ {A = Bool} false true = test ∙ ap (λ (t : List ℕ). nat_eq (length t) 0) none in absurd cc
