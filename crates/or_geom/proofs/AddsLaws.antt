-- A list that grows by exactly the things of a set.
use Rattle.std.proofs.Common.{◌≡◌, ◌⊎◌, inl, inr, ℕ, zero, suc, slice_index_or, ◌<◌, List, [], ◌∷◌, ◌++◌, sym, ap, subst, ◌∙◌, append_assoc, arith}
use Rattle.std.proofs.lemmas.List.{append-nil}
use Rattle.std.proofs.lemmas.List.Elements.{Contains-append_left, Contains-append_right, Contains-append_cases}
use Rattle.or_geom.proofs.ListLaws.{contains_none}
use Rattle.or_geom.specs.Adds.{Adds}

pub adds_none : {X : Type 0} (xs : List X) (P : X → Type 0) → ((x : X) → P x → ⊥) → Adds xs xs P
adds_none xs P none = record {
  added = [];
  is = sym (append-nil xs);
  only = λ x h. absurd (contains_none x h);
  each = λ x p. absurd (none x p);
}

only_one : {X : Type 0} (P : X → Type 0) (x y : X) (k : ℕ) → P y → k < 1 → slice_index_or (y ∷ []) k x ≡ x → P x
only_one P x y zero p lt is = subst P is p
only_one P x y (suc k) p lt is = absurd (omega arith)

pub adds_one : {X : Type 0} (xs ys : List X) (y : X) (P : X → Type 0) → ys ≡ xs ++ y ∷ [] → P y → ((x : X) → P x → x ≡ y) → Adds xs ys P
adds_one xs ys y P is p once = record {
  added = y ∷ [];
  is = is;
  only = λ x h. only_one P x y h.0 p h.1 h.2;
  each = λ x q. (0, omega arith, sym (once x q));
}

pub adds_both : {X : Type 0} (xs ys zs : List X) (P Q : X → Type 0) → Adds xs ys P → Adds ys zs Q → Adds xs zs (λ x. P x ⊎ Q x)
adds_both {X = X} xs ys zs P Q a b = record {
  added = a.added ++ b.added;
  is = b.is ∙ (ap (λ (l : List X). l ++ b.added) a.is ∙ append_assoc xs a.added b.added);
  only = λ x h. elim (Contains-append_cases a.added b.added x h) [ inl l ↦ inl (a.only x l) | inr r ↦ inr (b.only x r) ];
  each = λ x h. elim h [ inl p ↦ Contains-append_left a.added b.added x (a.each x p) | inr q ↦ Contains-append_right a.added b.added x (b.each x q) ];
}

pub adds_as : {X : Type 0} (xs ys : List X) (P Q : X → Type 0) → ((x : X) → P x → Q x) → ((x : X) → Q x → P x) → Adds xs ys P → Adds xs ys Q
adds_as xs ys P Q to from a = record { added = a.added; is = a.is; only = λ x h. to x (a.only x h); each = λ x q. a.each x (from x q) }
