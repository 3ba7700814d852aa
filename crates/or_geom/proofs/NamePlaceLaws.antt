-- A table of the places of names, one name more.
use Rattle.std.proofs.Common.{◌≡◌, ℕ, ◌+◌, ◌-◌, ◌<◌, ◌≤◌, List, [], ◌∷◌, length, get_or, drop, Bool, true, false, cond, Option, Some, refl, sym, ap, subst, ◌∙◌, arith, add-one}
use Rattle.std.specs.Map.{lookup}
use Rattle.std.specs.Prelude.{nat_eq}
use Rattle.std.specs.List.{position_from}
use Rattle.std.specs.Cmp.Lexicographic.{pointwise, same_text}
use Rattle.std.proofs.lemmas.Cmp.{nat_list_eq_equiv}
use Rattle.std.proofs.Math.Seq.{drop-cons}

abbrev pub same : List ℕ → List ℕ → Bool
same name other = pointwise nat_eq name other

pub same_self : (x : List ℕ) → same x x ≡ true
same_self x = nat_list_eq_equiv.refl x

-- a key's entry is put in: at the end, or in place of the one that the key has
pub record PutsEntry {K : Type 0} (text : K → List ℕ) (k : K) (v : ℕ) (put : List (K × ℕ) → List (K × ℕ)) : Type 0 where
  pub none : put [] ≡ (k, v) ∷ []
  pub more : (e : K × ℕ) (es : List (K × ℕ)) → put (e ∷ es) ≡ cond (same (text k) (text e.0)) ((e.0, v) ∷ es) (e ∷ put es)

module _ {K : Type 0} (text : K → List ℕ) (name : List ℕ) (k : K) (v : ℕ) (put : List (K × ℕ) → List (K × ℕ)) (puts : PutsEntry text k v put) where
  present : (b : Bool) → same name (text k) ≡ b → (e : K) (w : ℕ) (rest : Option ℕ) → same (text k) (text e) ≡ true → cond (same name (text e)) (Some v) rest ≡ cond (same name (text k)) (Some v) (cond (same name (text e)) (Some w) rest)
  present b t e w rest eq =
      let one : text k ≡ text e = same_text (text k) (text e) (sym eq) in
      subst (λ (x : List ℕ). cond (same name x) (Some v) rest ≡ cond (same name (text k)) (Some v) (cond (same name x) (Some w) rest)) one (by (same name (text k)))
    where
      by : (c : Bool) → cond c (Some v) rest ≡ cond c (Some v) (cond c (Some w) rest)
      by true = refl
      by false = refl

  absent : (a b : Bool) → same name (text k) ≡ a → (e : K) → same name (text e) ≡ b → (w : ℕ) (rest : Option ℕ) → same (text k) (text e) ≡ false → cond b (Some w) (cond a (Some v) rest) ≡ cond a (Some v) (cond b (Some w) rest)
  absent true true ta e tb w rest ne =
      let one : text k ≡ text e = sym (same_text name (text k) (sym ta)) ∙ same_text name (text e) (sym tb) in
      let is : same (text k) (text e) ≡ true = subst (λ (x : List ℕ). same (text k) x ≡ true) one (same_self (text k)) in
      absurd cc
  absent true false ta e tb w rest ne = refl
  absent false true ta e tb w rest ne = refl
  absent false false ta e tb w rest ne = refl

  step : (b : Bool) (es : List (K × ℕ)) (e : K × ℕ) → same (text k) (text e.0) ≡ b
      → lookup (λ key. same name (text key)) (put es) ≡ cond (same name (text k)) (Some v) (lookup (λ key. same name (text key)) es)
      → lookup (λ key. same name (text key)) (cond b ((e.0, v) ∷ es) (e ∷ put es)) ≡ cond (same name (text k)) (Some v) (cond (same name (text e.0)) (Some e.1) (lookup (λ key. same name (text key)) es))
  step true es e is h = present (same name (text k)) refl e.0 e.1 (lookup (λ key. same name (text key)) es) is
  step false es e is h =
      ap (λ (o : Option ℕ). cond (same name (text e.0)) (Some e.1) o) h
      ∙ absent (same name (text k)) (same name (text e.0)) refl e.0 refl e.1 (lookup (λ key. same name (text key)) es) is

  -- what the entries have for the name, once the key was put in
  lookup-put : (es : List (K × ℕ)) → lookup (λ key. same name (text key)) (put es) ≡ cond (same name (text k)) (Some v) (lookup (λ key. same name (text key)) es)
  lookup-put [] = ap (λ (l : List (K × ℕ)). lookup (λ key. same name (text key)) l) puts.none
  lookup-put (e ∷ es) = ap (λ (l : List (K × ℕ)). lookup (λ key. same name (text key)) l) (puts.more e es) ∙ step (same (text k) (text e.0)) es e refl (lookup-put es)

-- the first place from here on
position-here : (names : List (List ℕ)) (place : ℕ) (name : List ℕ) → place < length names
    → position_from (same name) place (drop place names) ≡ cond (same name (get_or names place [])) (Some place) (position_from (same name) (place + 1) (drop (place + 1) names))
position-here names place name lt = rw (drop-cons names place [] lt) (ap (λ (n : ℕ). cond (same name (get_or names place [])) (Some place) (position_from (same name) (place + 1) (drop n names))) (sym (add-one place)))

-- one place less
pub finds_more : {K : Type 0} (text : K → List ℕ) (names : List (List ℕ)) (place : ℕ) (k : K) (es es' : List (K × ℕ)) (put : List (K × ℕ) → List (K × ℕ)) → PutsEntry text k (place - 1) put → 0 < place → place ≤ length names → text k ≡ get_or names (place - 1) []
    → es' ≡ put es → ((name : List ℕ) → lookup (λ key. same name (text key)) es ≡ position_from (same name) place (drop place names))
    → (name : List ℕ) → lookup (λ key. same name (text key)) es' ≡ position_from (same name) (place - 1) (drop (place - 1) names)
finds_more {K} text names place k es es' put puts some within is inserted old name =
    let up : (place - 1) + 1 ≡ place = omega arith in
    ap (λ (l : List (K × ℕ)). lookup (λ key. same name (text key)) l) inserted
    ∙ lookup-put text name k (place - 1) put puts es
    ∙ ap (λ (o : Option ℕ). cond (same name (text k)) (Some (place - 1)) o) (old name)
    ∙ ap (λ (t : List ℕ). cond (same name t) (Some (place - 1)) (position_from (same name) place (drop place names))) is
    ∙ sym (position-here names (place - 1) name (omega arith) ∙ ap (λ (n : ℕ). cond (same name (get_or names (place - 1) [])) (Some (place - 1)) (position_from (same name) n (drop n names))) up)
