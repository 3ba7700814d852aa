-- Labels that are sorted and of which equal ones are dropped.
use Rattle.std.proofs.Common.{◌≡◌, Bool, true, List, [], ◌∷◌, map, sym, subst, ◌↔◌}
use Rattle.std.specs.Prelude.{Contains}
use Rattle.std.specs.Cmp.{IsEquivalence}
use Rattle.std.specs.List.{AllByRecursion, Any, dedup}
use Rattle.std.specs.List.Sorted.{IsStrictlySortedBy, IsPermutation}
use Rattle.std.specs.declared.cmp.Ordering.{Ordering}
use Rattle.std.specs.declared.cmp.Ordering.TheVariants.{Less}
use Rattle.std.proofs.lemmas.List.Kept.{Any-dedup, Contains-from_dedup}
use Rattle.std.proofs.lemmas.List.Sorted.{Contains-permutation, IsPermutation-sym}
use Rattle.or_geom.proofs.ListLaws.{contains_map}
use Rattle.element_drawing.specs.PlainLabel.{PlainLabel}
use Rattle.cell_chains.proofs.MemberLaws.{image_from}
use Rattle.cell_hierarchy.specs.Plain.{plain_label}
use Rattle.cell_hierarchy.specs.declared.flat.Label.{Label}

all_images : {X Y : Type 0} (P : Y → Type 0) (f : X → Y) (xs : List X) → AllByRecursion (λ x. P (f x)) xs → AllByRecursion P (map f xs)
all_images P f [] all = tt
all_images P f (x ∷ xs) all = (all.0, all_images P f xs all.1)

-- what rises by its images has images that rise
pub images_rise : {X Y : Type 0} (cmp : Y → Y → Ordering) (f : X → Y) (xs : List X) → IsStrictlySortedBy (λ a b. cmp (f a) (f b)) xs → IsStrictlySortedBy cmp (map f xs)
unfolding IsStrictlySortedBy
images_rise cmp f [] rising = tt
images_rise cmp f (x ∷ xs) rising = (all_images (λ y. cmp (f x) y ≡ Less) f xs rising.0, images_rise cmp f xs rising.1)

kept_image : {X Y : Type 0} (E : X → X → Bool) (f : X → Y) → ((x y : X) → E x y ≡ true → f x ≡ f y) → (xs : List X) (x : X) → Any (λ y. E x y ≡ true) xs → Contains (map f xs) (f x)
kept_image E f exact xs x a = subst (Contains (map f xs)) (sym (exact x a.1 a.4)) (contains_map f xs a.1 (a.0, a.2, a.3))

-- the images stay, where what counts as equal has one image
pub same_images : {X Y : Type 0} (E : X → X → Bool) (f : X → Y) → IsEquivalence E → ((x y : X) → E x y ≡ true → f x ≡ f y) → (xs ys : List X) → IsPermutation xs ys → (y : Y) → Contains (map f (dedup E ys)) y ↔ Contains (map f xs) y
same_images E f equiv exact xs ys moved y = (
  λ h.
      let i = image_from f (dedup E ys) y h in
      subst (Contains (map f xs)) i.is (contains_map f xs i.item (Contains-permutation ys xs i.item (IsPermutation-sym xs ys moved) (Contains-from_dedup E ys i.item i.stands))),
  λ h.
      let i = image_from f xs y h in
      subst (Contains (map f (dedup E ys))) i.is (kept_image E f exact (dedup E ys) i.item (Any-dedup equiv ys i.item (Contains-permutation xs ys i.item moved i.stands))),
)

-- a list that was sorted
pub same_items : {X : Type 0} (old new list : List X) → list ≡ new → ((x : X) → Contains old x → Contains new x) → ((x : X) → Contains new x → Contains old x) → (x : X) → Contains list x ↔ Contains old x
same_items {X} old new list is keeps adds x = (λ h. adds x (subst (λ (l : List X). Contains l x) is h), λ h. subst (λ (l : List X). Contains l x) (sym is) (keeps x h))

pub same_plain : (old new list : List Label) → list ≡ new → ((label : PlainLabel) → Contains (map plain_label new) label ↔ Contains (map plain_label old) label) → (label : PlainLabel) → Contains (map plain_label list) label ↔ Contains (map plain_label old) label
same_plain old new list is same = subst (λ (l : List Label). (label : PlainLabel) → Contains (map plain_label l) label ↔ Contains (map plain_label old) label) (sym is) same
