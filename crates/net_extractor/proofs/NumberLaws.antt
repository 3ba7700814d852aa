-- How nets get numbers.
use Rattle.std.proofs.Common.{◌≡◌, ◌⊎◌, ◌↔◌, inl, inr, ℕ, zero, suc, ◌+◌, ◌<◌, replicate, List, length, get_or, set, refl, sym, ap, subst, ◌∙◌, arith}
use Rattle.std.specs.Prelude.{Option, Some, None, slice_get}
use Rattle.std.proofs.lemmas.Bool.{cases_eq}
use Rattle.std.proofs.lemmas.List.{length-set, length-replicate}
use Rattle.std.proofs.lemmas.Option.{slice_get_within, slice_get-get_or}
use Rattle.or_geom.specs.declared.shape.Shape.{Shape}
use Rattle.or_geom.proofs.ListLaws.{one_at}
use Rattle.tech_rules.specs.declared.tech.Connect.{Connect}
use Rattle.tech_rules.specs.Net.{AreOnOneNet}
use Rattle.net_extractor.specs.declared.numbering.Numbering.{Numbering}
use Rattle.net_extractor.specs.NetRoots.{AreNetRoots}
use Rattle.net_extractor.specs.Numbering.{IsGivenTo, NetHasNumber, AreRootsWithin, IsNumbering, GetsNumber, IsNumberAt}
use Rattle.net_extractor.proofs.SetLaws.{set_here, set_elsewhere, was_elsewhere, was_here}

-- a root has one number
given_one : (numbering : Numbering) (root m n : ℕ) → IsGivenTo numbering root m → IsGivenTo numbering root n → m ≡ n
given_one numbering root m n a b = let e : ◌≡◌ {A = Option ℕ} (Some m) (Some n) = one_at numbering.numbers.items root (Some m) (Some n) a b in cc

-- and so has a place
pub on_one : (numbering : Numbering) (k m n : ℕ) → NetHasNumber numbering k m → NetHasNumber numbering k n → m ≡ n
on_one numbering k m n a b =
    let same : a.root ≡ b.root = one_at numbering.roots.items k a.root b.root a.up b.up in
    given_one numbering b.root m n (subst (λ (r : ℕ). IsGivenTo numbering r m) same a.is) b.is

pub roots_within : (connections : List Connect) (shapes : List Shape) (numbering : Numbering) → IsNumbering connections shapes numbering → AreRootsWithin numbering
roots_within connections shapes numbering n = record { within = λ place root up. let lt = n.roots.inside place root up in let sized = n.sized in omega (arith, lt, sized) }

-- the same number is that of another shape exactly where both are on one net
pub whole : (connections : List Connect) (shapes : List Shape) (numbering : Numbering) (from to number : ℕ) (s t : Shape) → IsNumbering connections shapes numbering → slice_get shapes from ≡ Some s → slice_get shapes to ≡ Some t → NetHasNumber numbering from number
    → NetHasNumber numbering to number ↔ AreOnOneNet connections shapes s t
whole connections shapes numbering from to number s t n at_s at_t on =
    let roots = numbering.roots.items in (
      λ other. (n.roots.same from to on.root other.root s t at_s at_t on.up other.up).0 (n.one on.root other.root number on.is other.is),
      λ net.
          let lt = slice_get_within shapes to t at_t in
          let sized = n.roots.sized in
          let up = slice_get-get_or roots to 0 (omega (arith, lt, sized)) in
          let same : on.root ≡ get_or roots to 0 = (n.roots.same from to on.root (get_or roots to 0) s t at_s at_t on.up up).1 net in
          record { root = on.root; up = up ∙ ap (λ (r : ℕ). Some r) (sym same); is = on.is },
    )

-- the shape at the place now has the number, which is one that was given before or the next one
pub record Numbers (connections : List Connect) (shapes : List Shape) (old : Numbering) (place number : ℕ) (new : Numbering) : Type 0 where
  pub numbered : IsNumbering connections shapes new
  pub kept : (k m : ℕ) → NetHasNumber old k m → NetHasNumber new k m
  pub here : NetHasNumber new place number
  pub next : ((number < old.next) × (new.next ≡ old.next)) ⊎ ((number ≡ old.next) × (new.next ≡ old.next + 1))

module _ (connections : List Connect) (shapes : List Shape) (old : Numbering) (place number : ℕ) (new : Numbering) (n : IsNumbering connections shapes old) (g : GetsNumber old place number new) where
  -- the numbers then
  now : List (Option ℕ)
  now = set old.numbers.items g.root (Some number)

  cases_given : (root m : ℕ) → IsGivenTo new root m → ((root ≡ g.root) × (m ≡ number)) ⊎ IsGivenTo old root m
  cases_given root m is =
      let there : slice_get (set old.numbers.items g.root (Some number)) root ≡ Some (Some m) = subst (λ (ns : List (Option ℕ)). slice_get ns root ≡ Some (Some m)) g.numbers is in
      elim (cases_eq root g.root) [
        | inl e ↦
            let here = was_here old.numbers.items g.root (Some number) (Some m) (subst (λ (r : ℕ). slice_get (set old.numbers.items g.root (Some number)) r ≡ Some (Some m)) e there) in
            let same : m ≡ number = cc in
            inl (e, same)
        | inr ne ↦ inr (was_elsewhere old.numbers.items g.root root (Some number) (Some m) ne there)
      ]

  still_given : (root m : ℕ) → IsGivenTo old root m → IsGivenTo new root m
  still_given root m is = elim (cases_eq root g.root) [
    | inl e ↦
        let here : slice_get old.numbers.items g.root ≡ Some (Some m) = subst (λ (r : ℕ). slice_get old.numbers.items r ≡ Some (Some m)) e is in
        let clash : ◌≡◌ {A = Option ℕ} None (Some m) = one_at old.numbers.items g.root None (Some m) g.none here in
        absurd cc
    | inr ne ↦ subst (λ (ns : List (Option ℕ)). slice_get ns root ≡ Some (Some m)) (sym g.numbers) (set_elsewhere old.numbers.items g.root root (Some number) (Some m) ne is)
  ]

  one_given : (root other m : ℕ) → IsGivenTo new root m → IsGivenTo new other m → root ≡ other
  one_given root other m a b = elim (cases_given root m a) [
    | inl here ↦ elim (cases_given other m b) [
      | inl there ↦ here.0 ∙ sym there.0
      | inr before ↦ let lt = n.below other m before in let e = here.1 in let is = g.is in absurd (omega (arith, lt, e, is))
    ]
    | inr before ↦ elim (cases_given other m b) [
      | inl there ↦ let lt = n.below root m before in let e = there.1 in let is = g.is in absurd (omega (arith, lt, e, is))
      | inr too ↦ n.one root other m before too
    ]
  ]

  pub new_number : Numbers connections shapes old place number new
  new_number = record {
    numbered = record {
      roots = subst (AreNetRoots connections shapes) (sym g.roots) n.roots;
      sized = ap length g.numbers ∙ (length-set old.numbers.items g.root (Some number) ∙ n.sized);
      below = λ root m is. elim (cases_given root m is) [
        | inl here ↦ let e = here.1 in let at = g.is in let next = g.next in omega (arith, e, at, next)
        | inr before ↦ let lt = n.below root m before in let next = g.next in omega (arith, lt, next)
      ];
      one = one_given;
    };
    kept = λ k m h. record { root = h.root; up = subst (λ (rs : List ℕ). slice_get rs k ≡ Some h.root) (sym g.roots) h.up; is = still_given h.root m h.is };
    here = record {
      root = g.root;
      up = subst (λ (rs : List ℕ). slice_get rs place ≡ Some g.root) (sym g.roots) g.up;
      is = subst (λ (ns : List (Option ℕ)). slice_get ns g.root ≡ Some (Some number)) (sym g.numbers) (set_here old.numbers.items g.root (Some number) (slice_get_within old.numbers.items g.root None g.none));
    };
    next = inr (g.is, g.next);
  }

pub numbers_at : (connections : List Connect) (shapes : List Shape) (old : Numbering) (place number : ℕ) (new : Numbering) → IsNumbering connections shapes old → IsNumberAt old place number new → Numbers connections shapes old place number new
numbers_at connections shapes old place number new n (inl h) =
    subst (Numbers connections shapes old place number) (sym h.same) (record { numbered = n; kept = λ k m on. on; here = h.had; next = inl (n.below h.had.root number h.had.is, refl) })
numbers_at connections shapes old place number new n (inr g) = new_number connections shapes old place number new n g

no_number : (n k m : ℕ) → slice_get (replicate n None) k ≡ Some (Some m) → ⊥
no_number zero k m on = absurd cc
no_number (suc n) zero m on = absurd cc
no_number (suc n) (suc k) m on = no_number n k m on

-- no net has a number yet
pub numbering_begins : (connections : List Connect) (shapes : List Shape) (count : ℕ) (numbering : Numbering) → AreNetRoots connections shapes numbering.roots.items → numbering.numbers.items ≡ replicate count None → count ≡ length numbering.roots.items
    → IsNumbering connections shapes numbering
numbering_begins connections shapes count numbering roots none counted = record {
  roots = roots;
  sized = ap length none ∙ (length-replicate count None ∙ (counted ∙ roots.sized));
  below = λ root m is. absurd (no_number count root m (subst (λ (ns : List (Option ℕ)). slice_get ns root ≡ Some (Some m)) none is));
  one = λ root other m a b. absurd (no_number count root m (subst (λ (ns : List (Option ℕ)). slice_get ns root ≡ Some (Some m)) none a));
}
