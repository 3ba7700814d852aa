-- Neighbours of a list that stands for names.
use Rattle.std.proofs.Common.{◌≡◌, ◌≢◌, inl, inr, ℕ, ◌+◌, ◌<◌, ◌≤◌, Bool, true, false, not, nat_eq, List, map, length, get_or, Option, None, Some, IsTrue, refl, sym, ap, subst, ◌∙◌, arith}
use Rattle.std.specs.Prelude.{slice_get, option_map}
use Rattle.std.specs.Ordering.{is_lt}
use Rattle.std.proofs.lemmas.Bool.Decides.{nat_tests}
use Rattle.std.proofs.lemmas.List.{length-map}
use Rattle.std.proofs.lemmas.Option.{slice_get_within, slice_get-get_or, slice_get-map}
use Rattle.or_geom.proofs.ListLaws.{one_at, below_or}
use Rattle.drawn_devices.specs.declared.drawn.NetName.{NetName}
use Rattle.device_lvs.specs.NetNames.{pair_order}
use Rattle.device_lvs.specs.Sorted.{AreSplitAt, AreNotSplitBelow, AreJoinedAt, AreNotJoinedBelow, IsLeastJoined, AreLeastBelow, names_at}
use Rattle.device_lvs.proofs.SortedLaws.{name_is, not_itself, not_below_lesser}

-- what stands at a place of the list
pub item_at : {Y : Type 0} (f : Y → NetName) (xs : List Y) (place : ℕ) (d : Y) → place < length xs → slice_get (map f xs) place ≡ Some (f (get_or xs place d))
item_at f xs place d inside = slice_get-map f xs place ∙ ap (option_map f) (slice_get-get_or xs place d inside)

-- the same of an item that is the one there
pub item_is : {Y : Type 0} (f : Y → NetName) (xs : List Y) (place : ℕ) (y : Y) (n : NetName) → slice_get (map f xs) place ≡ Some n → y ≡ get_or xs place y → slice_get (map f xs) place ≡ Some (f y)
item_is f xs place y n there is =
    let within = slice_get_within (map f xs) place n there in
    let long = length-map xs f in
    item_at f xs place y (omega (arith, within, long)) ∙ ap (λ z. Some (f z)) (sym is)

-- the names of two neighbours
pub names_are : {Y : Type 0} (f : Y → NetName) (xs : List Y) (place : ℕ) (d : Y) → place + 1 < length xs → names_at (map f xs) place ≡ ((f (get_or xs place d)).name, (f (get_or xs (place + 1) d)).name)
names_are f xs place d inside =
    let one = name_is (map f xs) place (f (get_or xs place d)) (item_at f xs place d (omega (arith, inside))) in
    let other = name_is (map f xs) (place + 1) (f (get_or xs (place + 1) d)) (item_at f xs (place + 1) d inside) in
    λ i. (one i, other i)

pub unequal : (a b : ℕ) → IsTrue (not (nat_eq a b)) → a ≢ b
unequal a b differ = λ e. let tie : nat_eq a b ≡ true = grind (arith, nat_tests, e) in let other : not (nat_eq a b) ≡ false = ap not tie in cc

pub not_tied : (a b : ℕ) → a ≢ b → IsTrue (not (nat_eq a b))
not_tied a b apart = by (nat_eq a b) refl where
  by : (t : Bool) → nat_eq a b ≡ t → IsTrue (not (nat_eq a b))
  by true is = absurd (apart (grind (arith, nat_tests, is)))
  by false is = ap not is

pub equal : (a b : ℕ) → IsTrue (nat_eq a b) → a ≡ b
equal a b tie = grind (arith, nat_tests, tie)

pub tied : (a b : ℕ) → a ≡ b → IsTrue (nat_eq a b)
tied a b same = grind (arith, nat_tests, same)

pub clash : (b : Bool) → b ≡ false → IsTrue b → ⊥
clash b is holds = cc

pub not_both : (b : Bool) → IsTrue b → IsTrue (not b) → ⊥
not_both true is other = cc
not_both false is other = cc

pub if_not : (b : Bool) → (IsTrue b → ⊥) → IsTrue (not b)
if_not true fails = absurd (fails refl)
if_not false fails = refl

pub split_here : {Y : Type 0} (f : Y → NetName) (xs : List Y) (place : ℕ) (d : Y) → place + 1 < length xs → (f (get_or xs place d)).name ≡ (f (get_or xs (place + 1) d)).name → (f (get_or xs place d)).net ≢ (f (get_or xs (place + 1) d)).net
    → AreSplitAt (map f xs) place
split_here f xs place d inside named apart = record {
  one = f (get_or xs place d);
  other = f (get_or xs (place + 1) d);
  at = record { here = item_at f xs place d (omega (arith, inside)); next = item_at f xs (place + 1) d inside };
  named = named;
  apart = apart;
}

pub split_named : {Y : Type 0} (f : Y → NetName) (xs : List Y) (place : ℕ) (d : Y) → place + 1 < length xs → AreSplitAt (map f xs) place → (f (get_or xs place d)).name ≡ (f (get_or xs (place + 1) d)).name
split_named f xs place d inside s =
    let x = one_at (map f xs) place (f (get_or xs place d)) s.one (item_at f xs place d (omega (arith, inside))) s.at.here in
    let y = one_at (map f xs) (place + 1) (f (get_or xs (place + 1) d)) s.other (item_at f xs (place + 1) d inside) s.at.next in
    ap (λ (n : NetName). n.name) x ∙ s.named ∙ sym (ap (λ (n : NetName). n.name) y)

pub split_apart : {Y : Type 0} (f : Y → NetName) (xs : List Y) (place : ℕ) (d : Y) → place + 1 < length xs → AreSplitAt (map f xs) place → (f (get_or xs place d)).net ≢ (f (get_or xs (place + 1) d)).net
split_apart f xs place d inside s = λ e.
    let x = one_at (map f xs) place (f (get_or xs place d)) s.one (item_at f xs place d (omega (arith, inside))) s.at.here in
    let y = one_at (map f xs) (place + 1) (f (get_or xs (place + 1) d)) s.other (item_at f xs (place + 1) d inside) s.at.next in
    s.apart (sym (ap (λ (n : NetName). n.net) x) ∙ e ∙ ap (λ (n : NetName). n.net) y)

pub joined_here : {Y : Type 0} (f : Y → NetName) (xs : List Y) (place : ℕ) (d : Y) → place + 1 < length xs → (f (get_or xs place d)).net ≡ (f (get_or xs (place + 1) d)).net → (f (get_or xs place d)).name ≢ (f (get_or xs (place + 1) d)).name
    → AreJoinedAt (map f xs) place
joined_here f xs place d inside joined apart = record {
  one = f (get_or xs place d);
  other = f (get_or xs (place + 1) d);
  at = record { here = item_at f xs place d (omega (arith, inside)); next = item_at f xs (place + 1) d inside };
  joined = joined;
  apart = apart;
}

pub joined_net : {Y : Type 0} (f : Y → NetName) (xs : List Y) (place : ℕ) (d : Y) → place + 1 < length xs → AreJoinedAt (map f xs) place → (f (get_or xs place d)).net ≡ (f (get_or xs (place + 1) d)).net
joined_net f xs place d inside s =
    let x = one_at (map f xs) place (f (get_or xs place d)) s.one (item_at f xs place d (omega (arith, inside))) s.at.here in
    let y = one_at (map f xs) (place + 1) (f (get_or xs (place + 1) d)) s.other (item_at f xs (place + 1) d inside) s.at.next in
    ap (λ (n : NetName). n.net) x ∙ s.joined ∙ sym (ap (λ (n : NetName). n.net) y)

pub joined_apart : {Y : Type 0} (f : Y → NetName) (xs : List Y) (place : ℕ) (d : Y) → place + 1 < length xs → AreJoinedAt (map f xs) place → (f (get_or xs place d)).name ≢ (f (get_or xs (place + 1) d)).name
joined_apart f xs place d inside s = λ e.
    let x = one_at (map f xs) place (f (get_or xs place d)) s.one (item_at f xs place d (omega (arith, inside))) s.at.here in
    let y = one_at (map f xs) (place + 1) (f (get_or xs (place + 1) d)) s.other (item_at f xs (place + 1) d inside) s.at.next in
    s.apart (sym (ap (λ (n : NetName). n.name) x) ∙ e ∙ ap (λ (n : NetName). n.name) y)

-- one place more
pub not_split_more : (xs : List NetName) (place : ℕ) → AreNotSplitBelow xs place → (AreSplitAt xs place → ⊥) → AreNotSplitBelow xs (place + 1)
not_split_more xs place so_far here = λ k below split. elim (below_or k place below) [
  | inl before ↦ so_far k before split
  | inr same ↦ here (subst (AreSplitAt xs) same split)
]

pub not_joined_more : (xs : List NetName) (place : ℕ) → AreNotJoinedBelow xs place → (AreJoinedAt xs place → ⊥) → AreNotJoinedBelow xs (place + 1)
not_joined_more xs place so_far here = λ k below joined. elim (below_or k place below) [
  | inl before ↦ so_far k before joined
  | inr same ↦ here (subst (AreJoinedAt xs) same joined)
]

-- the last place has no next one
pub not_split_at_end : (xs : List NetName) (bound : ℕ) → length xs ≤ bound + 1 → AreNotSplitBelow xs bound → AreNotSplitBelow xs (length xs)
not_split_at_end xs bound past so_far = λ k below split.
    let inside = slice_get_within xs (k + 1) split.other split.at.next in
    so_far k (omega (arith, inside, past)) split

least_more : (xs : List NetName) (place : ℕ) (least : Option ℕ) → AreLeastBelow xs place least → (AreJoinedAt xs place → ⊥) → AreLeastBelow xs (place + 1) least
least_more xs place None so_far here = not_joined_more xs place so_far here
least_more xs place (Some at) so_far here = record {
  joined = so_far.joined;
  least = λ k below joined. elim (below_or k place below) [
    | inl before ↦ so_far.least k before joined
    | inr same ↦ absurd (here (subst (AreJoinedAt xs) same joined))
  ];
}

pub kept : (xs : List NetName) (place : ℕ) (least : Option ℕ) → AreLeastBelow xs place least → (AreJoinedAt xs place → ⊥) → AreLeastBelow xs (place + 1) least
kept xs place least so_far here = least_more xs place least so_far here

-- this place has the least names of all so far
pub first_joined : (xs : List NetName) (place : ℕ) → AreNotJoinedBelow xs place → AreJoinedAt xs place → IsLeastJoined xs (place + 1) place
first_joined xs place none here = record {
  joined = here;
  least = λ k below joined. elim (below_or k place below) [
    | inl before ↦ absurd (none k before joined)
    | inr same ↦ subst (λ (m : ℕ). is_lt (pair_order (names_at xs m) (names_at xs place)) ≡ false) (sym same) (not_itself (names_at xs place))
  ];
}

pub lesser_joined : (xs : List NetName) (place at : ℕ) → IsLeastJoined xs place at → AreJoinedAt xs place → is_lt (pair_order (names_at xs place) (names_at xs at)) ≡ true → IsLeastJoined xs (place + 1) place
lesser_joined xs place at so_far here less = record {
  joined = here;
  least = λ k below joined. elim (below_or k place below) [
    | inl before ↦ not_below_lesser (names_at xs k) (names_at xs at) (names_at xs place) (so_far.least k before joined) less
    | inr same ↦ subst (λ (m : ℕ). is_lt (pair_order (names_at xs m) (names_at xs place)) ≡ false) (sym same) (not_itself (names_at xs place))
  ];
}

pub no_lesser_joined : (xs : List NetName) (place at : ℕ) → IsLeastJoined xs place at → is_lt (pair_order (names_at xs place) (names_at xs at)) ≡ false → IsLeastJoined xs (place + 1) at
no_lesser_joined xs place at so_far not_less = record {
  joined = so_far.joined;
  least = λ k below joined. elim (below_or k place below) [
    | inl before ↦ so_far.least k before joined
    | inr same ↦ subst (λ (m : ℕ). is_lt (pair_order (names_at xs m) (names_at xs at)) ≡ false) (sym same) not_less
  ];
}

pub least_at_end : (xs : List NetName) (bound : ℕ) (least : Option ℕ) → length xs ≤ bound + 1 → AreLeastBelow xs bound least → AreLeastBelow xs (length xs) least
least_at_end xs bound None past so_far = λ k below joined.
    let inside = slice_get_within xs (k + 1) joined.other joined.at.next in
    so_far k (omega (arith, inside, past)) joined
least_at_end xs bound (Some at) past so_far = record {
  joined = so_far.joined;
  least = λ k below joined.
      let inside = slice_get_within xs (k + 1) joined.other joined.at.next in
      so_far.least k (omega (arith, inside, past)) joined;
}
