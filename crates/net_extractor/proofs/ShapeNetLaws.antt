-- The numbers of the nets of shapes, one by one.
use Rattle.std.proofs.Common.{◌≡◌, inl, inr, ℕ, ◌+◌, ◌≤◌, List, [], ◌∷◌, ◌++◌, length, map, Option, Some, refl, sym, ap, subst, ◌∙◌, arith, append_assoc, append-nil}
use Rattle.std.specs.Prelude.{slice_get}
use Rattle.std.proofs.lemmas.List.{map-append}
use Rattle.or_geom.specs.declared.shape.Shape.{Shape}
use Rattle.tech_rules.specs.declared.tech.Connect.{Connect}
use Rattle.cell_hierarchy.proofs.CellLaws.{after_push, length_pushed}
use Rattle.net_extractor.specs.declared.numbering.Numbering.{Numbering}
use Rattle.net_extractor.specs.FirstAppearance.{AppearFrom}
use Rattle.net_extractor.specs.Numbering.{NetHasNumber, IsNumbering}
use Rattle.net_extractor.specs.ShapeNets.{AreShapeNets}
use Rattle.net_extractor.proofs.NumberLaws.{Numbers, on_one, whole}

-- the numbers of the first shapes
pub record AreFirstNets (connections : List Connect) (shapes : List Shape) (i : ℕ) (numbering : Numbering) (nets : List ℕ) : Type 0 where
  pub numbered : IsNumbering connections shapes numbering
  pub few : numbering.next ≤ i
  pub sized : length nets ≡ i
  pub on : (k m : ℕ) → slice_get nets k ≡ Some m → NetHasNumber numbering k m
  pub order : (more : List (Option ℕ)) → AppearFrom numbering.next more → AppearFrom 0 (map (λ (net : ℕ). Some net) nets ++ more)

pub first_nets_begin : (connections : List Connect) (shapes : List Shape) (numbering : Numbering) (nets : List ℕ) → IsNumbering connections shapes numbering → numbering.next ≡ 0 → nets ≡ [] → AreFirstNets connections shapes 0 numbering nets
first_nets_begin connections shapes numbering nets n zeroth none =
    subst (AreFirstNets connections shapes 0 numbering) (sym none) (record {
      numbered = n;
      few = omega (arith, zeroth);
      sized = refl;
      on = λ k m at_k. absurd cc;
      order = λ more a. subst (λ (first : ℕ). AppearFrom first more) zeroth a;
    })

-- the number of one more shape
appear_more : (connections : List Connect) (shapes : List Shape) (place number : ℕ) (old new : Numbering) (more : List (Option ℕ)) → Numbers connections shapes old place number new → AppearFrom new.next more → AppearFrom old.next (Some number ∷ more)
appear_more connections shapes place number old new more h a = elim h.next [
  | inl seen ↦ inl (seen.0, subst (λ (n : ℕ). AppearFrom n more) seen.1 a)
  | inr fresh ↦ inr (fresh.0, subst (λ (n : ℕ). AppearFrom n more) fresh.1 a)
]

net_added : (nets : List ℕ) (net : ℕ) (more : List (Option ℕ)) → map (λ (n : ℕ). Some n) (nets ++ net ∷ []) ++ more ≡ map (λ (n : ℕ). Some n) nets ++ (Some net ∷ more)
net_added nets net more =
    ap (λ (ns : List (Option ℕ)). ns ++ more) (map-append (λ (n : ℕ). Some n) nets (net ∷ [])) ∙ append_assoc (map (λ (n : ℕ). Some n) nets) (Some net ∷ []) more

few_more : (connections : List Connect) (shapes : List Shape) (i number : ℕ) (old new : Numbering) → Numbers connections shapes old i number new → old.next ≤ i → new.next ≤ i + 1
few_more connections shapes i number old new h le = elim h.next [
  | inl seen ↦ let e = seen.1 in omega (arith, e, le)
  | inr fresh ↦ let e = fresh.1 in omega (arith, e, le)
]

pub first_nets_more : (connections : List Connect) (shapes : List Shape) (i number : ℕ) (old new : Numbering) (nets next : List ℕ) → Numbers connections shapes old i number new → next ≡ nets ++ number ∷ [] → AreFirstNets connections shapes i old nets
    → AreFirstNets connections shapes (i + 1) new next
first_nets_more connections shapes i number old new nets next h grown a =
    subst (AreFirstNets connections shapes (i + 1) new) (sym grown) (record {
      numbered = h.numbered;
      few = few_more connections shapes i number old new h a.few;
      sized = length_pushed nets number (nets ++ number ∷ []) refl ∙ ap (λ (n : ℕ). n + 1) a.sized;
      on = λ k m at_k. elim (after_push nets number k m at_k) [
        | inl earlier ↦ h.kept k m (a.on k m earlier)
        | inr last ↦ subst (λ (place : ℕ). NetHasNumber new place m) (sym (last.place ∙ a.sized)) (subst (λ (n : ℕ). NetHasNumber new i n) (sym last.is) h.here)
      ];
      order = λ more b. subst (AppearFrom 0) (sym (net_added nets number more)) (a.order (Some number ∷ more) (appear_more connections shapes i number old new more h b));
    })

pub first_nets_all : (connections : List Connect) (shapes : List Shape) (i : ℕ) (numbering : Numbering) (nets : List ℕ) → i ≡ length shapes → AreFirstNets connections shapes i numbering nets → AreShapeNets connections shapes nets
first_nets_all connections shapes i numbering nets counted a = record {
  sized = a.sized ∙ counted;
  one = λ j k m n s t at_s at_t is_m is_n.
      let same = whole connections shapes numbering j k m s t a.numbered at_s at_t (a.on j m is_m) in (
        λ equal. same.0 (subst (NetHasNumber numbering k) (sym equal) (a.on k n is_n)),
        λ net. on_one numbering k m n (same.1 net) (a.on k n is_n),
      );
  numbered = subst (AppearFrom 0) (append-nil (map (λ (n : ℕ). Some n) nets)) (a.order [] tt);
}
