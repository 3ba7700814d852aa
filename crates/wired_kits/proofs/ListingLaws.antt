-- Lists of exactly the shapes of which something holds.
use Rattle.std.proofs.Common.{◌≡◌, ◌⊎◌, inl, inr, ℕ, zero, suc, ◌<◌, ℤ, ◌<ℤ◌, List, [], ◌∷◌, ◌++◌, Contains, sym, subst, arith}
use Rattle.std.proofs.lemmas.Bool.{cases_lt}
use Rattle.std.proofs.lemmas.List.Elements.{Contains-append_left, Contains-append_right, Contains-append_cases}
use Rattle.or_geom.specs.declared.shape.Shape.{Shape}
use Rattle.or_geom.proofs.ListLaws.{contains_none, contains_cases, contains_first, contains_later}
use Rattle.wire_drawing.specs.Drawing.{IsBox}
use Rattle.wire_drawing.proofs.DrawingLaws.{same_box}
use Rattle.kit_nets.proofs.ChannelDrawnLaws.{box_there}

pub record IsListing (Holds : Shape → Type 0) : Type 0 where
  pub list : List Shape
  pub all : (s : Shape) → Holds s → Contains list s
  pub only : (s : Shape) → Contains list s → Holds s

-- none, one box, and one or the other
pub no_shape : (Holds : Shape → Type 0) → ((s : Shape) → Holds s → ⊥) → IsListing Holds
no_shape Holds none = record { list = []; all = λ s h. absurd (none s h); only = λ s h. absurd (contains_none s h) }

pub one_box : (layer : ℕ) (x1 y1 x2 y2 : ℤ) → x1 <ℤ x2 → y1 <ℤ y2 → IsListing (IsBox layer x1 y1 x2 y2)
one_box layer x1 y1 x2 y2 wide tall =
    let box = box_there layer x1 y1 x2 y2 wide tall in
    record {
      list = box.0 ∷ [];
      all = λ s h. subst (Contains (box.0 ∷ [])) (same_box layer x1 y1 x2 y2 box.0 s box.1 h) (contains_first box.0 []);
      only = λ s listed. elim (contains_cases box.0 [] s listed) [ inl same ↦ subst (IsBox layer x1 y1 x2 y2) (sym same) box.1 | inr later ↦ absurd (contains_none s later) ];
    }

pub one_or_other : (Holds Other : Shape → Type 0) → IsListing Holds → IsListing Other → IsListing (λ (s : Shape). Holds s ⊎ Other s)
one_or_other Holds Other a b = record {
  list = a.list ++ b.list;
  all = λ s h. elim h [ inl one ↦ Contains-append_left a.list b.list s (a.all s one) | inr two ↦ Contains-append_right a.list b.list s (b.all s two) ];
  only = λ s listed. elim (Contains-append_cases a.list b.list s listed) [ inl one ↦ inl (a.only s one) | inr two ↦ inr (b.only s two) ];
}

pub listed_as : (Holds Other : Shape → Type 0) → ((s : Shape) → Holds s → Other s) → ((s : Shape) → Other s → Holds s) → IsListing Holds → IsListing Other
listed_as Holds Other to back a = record { list = a.list; all = λ s h. a.all s (back s h); only = λ s listed. to s (a.only s listed) }

-- for each item of a list,
pub each_listed : {X : Type 0} (Holds : X → Shape → Type 0) (xs : List X) → ((x : X) → Contains xs x → IsListing (Holds x)) → IsListing (λ (s : Shape). (x : X) × Contains xs x × Holds x s)
each_listed Holds [] each = no_shape _ (λ s h. contains_none h.0 h.1)
each_listed {X} Holds (x ∷ xs) each =
    listed_as (λ (s : Shape). Holds x s ⊎ ((y : X) × Contains xs y × Holds y s)) (λ (s : Shape). (y : X) × Contains (x ∷ xs) y × Holds y s)
    (λ s h. elim h [ inl here ↦ (x, contains_first x xs, here) | inr later ↦ (later.0, contains_later x xs later.0 later.1, later.2) ])
    (λ s h. elim (contains_cases x xs h.0 h.1) [ inl same ↦ inl (subst (λ (y : X). Holds y s) same h.2) | inr later ↦ inr (h.0, later, h.2) ])
    (one_or_other (Holds x) (λ (s : Shape). (y : X) × Contains xs y × Holds y s) (each x (contains_first x xs)) (each_listed Holds xs (λ y listed. each y (contains_later x xs y listed))))

-- and for each number below one
pub each_below : (Holds : ℕ → Shape → Type 0) (n : ℕ) → ((k : ℕ) → k < n → IsListing (Holds k)) → IsListing (λ (s : Shape). (k : ℕ) × (k < n) × Holds k s)
each_below Holds zero each = no_shape _ (λ s h. let lt = h.1 in omega (arith, lt))
each_below Holds (suc n) each =
    listed_as (λ (s : Shape). ((k : ℕ) × (k < n) × Holds k s) ⊎ Holds n s) (λ (s : Shape). (k : ℕ) × (k < suc n) × Holds k s)
    (λ s h. elim h [ inl below ↦ (below.0, (let lt = below.1 in omega (arith, lt)), below.2) | inr last ↦ (n, omega arith, last) ])
    (λ s h. elim (cases_lt h.0 n) [
      | inl lt ↦ inl (h.0, lt, h.2)
      | inr ge ↦ let lt = h.1 in let same : h.0 ≡ n = omega (arith, ge, lt) in inr (subst (λ (k : ℕ). Holds k s) same h.2)
    ])
    (one_or_other (λ (s : Shape). (k : ℕ) × (k < n) × Holds k s) (Holds n) (each_below Holds n (λ k lt. each k (omega (arith, lt)))) (each n (omega arith)))
