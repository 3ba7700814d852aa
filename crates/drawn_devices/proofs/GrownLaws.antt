-- Lists that grow from none.
use Rattle.std.proofs.Common.{◌≡◌, ◌↔◌, List, [], sym, subst}
use Rattle.std.specs.Prelude.{Contains}
use Rattle.or_geom.specs.Adds.{Adds}

-- what grew from none by a set has exactly its things
pub grown : {X : Type 0} (none all : List X) (P : X → Type 0) → none ≡ [] → Adds none all P → (x : X) → Contains all x ↔ P x
grown {X} none all P e a x =
    let b : Adds [] all P = subst (λ (l : List X). Adds l all P) e a in
    (λ h. b.only x (subst (λ (l : List X). Contains l x) b.is h), λ p. subst (λ (l : List X). Contains l x) (sym b.is) (b.each x p))
