-- The tracks of the nets over one x: in an assignment they differ, and with the lowest free tracks none is left out.
use Rattle.std.proofs.Common.{◌≡◌, ◌⊎◌, inl, inr, ℕ, zero, suc, ◌<◌, ◌≤◌, ℤ, pos, ◌≤ℤ◌, ◌<ℤ◌, ◌+ℤ◌, List, [], ◌∷◌, length, get_or, Bool, true, false, cond, refl, sym, ap, subst, ◌∙◌, arith}
use Rattle.std.specs.Prelude.{Contains, slice_get, Some, int_le, int_lt}
use Rattle.std.proofs.lemmas.Bool.{cases_lt, and_parts, and_from}
use Rattle.std.proofs.lemmas.Int.{ints}
use Rattle.std.proofs.lemmas.Option.{same_Some, slice_get-get_or, slice_get_within}
use Rattle.or_geom.proofs.ListLaws.{contains_none, contains_cases, contains_here, contains_later}
use Rattle.or_geom.proofs.CountLaws.{AreToldApart, at_most}
use Rattle.channel_router.specs.declared.channel.Interval.{Interval}
use Rattle.channel_router.specs.Tracks.{HasTrack, IsTakenBefore, IsLowest, IsAssignment, AreTracksBelow, EndsBefore}
use Rattle.channel_router.specs.Density.{is_over, number_over, IsDensity, DensityIsNeeded, LowestHasTheDensity}
use Rattle.channel_router.proofs.TrackLaws.{lowest_assigns}

-- the tracks of the nets whose intervals are over x
abbrev tracks_over : ℤ → ℤ → List Interval → List ℕ → List ℕ
tracks_over pitch x [] track = []
tracks_over pitch x (interval ∷ rest) [] = []
tracks_over pitch x (interval ∷ rest) (t ∷ ts) = cond (is_over pitch x interval) (t ∷ tracks_over pitch x rest ts) (tracks_over pitch x rest ts)

-- a net over x has this track
record IsTrackOver (pitch x : ℤ) (intervals : List Interval) (track : List ℕ) (t : ℕ) : Type 0 where
  pub i : ℕ
  pub a : Interval
  pub has : HasTrack intervals track i a t
  pub over : is_over pitch x a ≡ true

at_or_below : (a b : ℤ) → int_le a b ≡ true → a ≤ℤ b
at_or_below a b is = grind (arith, ints)

below : (a b : ℤ) → int_lt a b ≡ true → a <ℤ b
below a b is = grind (arith, ints)

is_at_or_below : (a b : ℤ) → a ≤ℤ b → int_le a b ≡ true
is_at_or_below a b h = grind (arith, ints)

is_below : (a b : ℤ) → a <ℤ b → int_lt a b ≡ true
is_below a b h = grind (arith, ints)

over_from : (pitch x : ℤ) (a : Interval) → is_over pitch x a ≡ true → (a.left ≤ℤ x) × (x <ℤ (a.right +ℤ pitch))
over_from pitch x a over =
    let tests = and_parts (int_le a.left x) (int_lt x (a.right +ℤ pitch)) over in
    (at_or_below a.left x tests.0, below x (a.right +ℤ pitch) tests.1)

over_by : (pitch x : ℤ) (a : Interval) → a.left ≤ℤ x → x <ℤ (a.right +ℤ pitch) → is_over pitch x a ≡ true
over_by pitch x a left right = and_from (int_le a.left x) (int_lt x (a.right +ℤ pitch)) (is_at_or_below a.left x left) (is_below x (a.right +ℤ pitch) right)

by_case : (b : Bool) (ts : List ℕ) (t : ℕ) → cond b (suc (length ts)) (length ts) ≡ length (cond b (t ∷ ts) ts)
by_case true ts t = refl
by_case false ts t = refl

number_is : (pitch x : ℤ) (intervals : List Interval) (track : List ℕ) → length track ≡ length intervals → number_over pitch x intervals ≡ length (tracks_over pitch x intervals track)
number_is pitch x [] track sized = refl
number_is pitch x (a ∷ rest) [] sized = absurd (omega (arith, sized))
number_is pitch x (a ∷ rest) (t ∷ ts) sized =
    let more = number_is pitch x rest ts (omega (arith, sized)) in
    ap (λ (n : ℕ). cond (is_over pitch x a) (suc n) n) more ∙ by_case (is_over pitch x a) (tracks_over pitch x rest ts) t

later_track : (pitch x : ℤ) (a : Interval) (rest : List Interval) (u : ℕ) (ts : List ℕ) (t : ℕ) → IsTrackOver pitch x rest ts t → IsTrackOver pitch x (a ∷ rest) (u ∷ ts) t
later_track pitch x a rest u ts t o = record { i = suc o.i; a = o.a; has = record { there = o.has.there; on = o.has.on }; over = o.over }

-- each of them is the track of some net over x
some_net : (pitch x : ℤ) (intervals : List Interval) (track : List ℕ) (t : ℕ) → Contains (tracks_over pitch x intervals track) t → IsTrackOver pitch x intervals track t
some_net pitch x [] track t c = absurd (contains_none t c)
some_net pitch x (a ∷ rest) [] t c = absurd (contains_none t c)
some_net pitch x (a ∷ rest) (u ∷ ts) t c = by_over (is_over pitch x a) refl (some_net pitch x rest ts t) c where
  by_over : (b : Bool) → is_over pitch x a ≡ b → (Contains (tracks_over pitch x rest ts) t → IsTrackOver pitch x rest ts t) → Contains (cond b (u ∷ tracks_over pitch x rest ts) (tracks_over pitch x rest ts)) t → IsTrackOver pitch x (a ∷ rest) (u ∷ ts) t
  by_over true over some c = elim (contains_cases u (tracks_over pitch x rest ts) t c) [
    | inl here ↦ record { i = 0; a = a; has = record { there = refl; on = ap Some (sym here) }; over = over }
    | inr later ↦ later_track pitch x a rest u ts t (some later)
  ]
  by_over false over some c = later_track pitch x a rest u ts t (some c)

-- and the track of each net over x is one of them
of_net : (pitch x : ℤ) (intervals : List Interval) (track : List ℕ) (i : ℕ) (a : Interval) (t : ℕ) → HasTrack intervals track i a t → is_over pitch x a ≡ true → Contains (tracks_over pitch x intervals track) t
of_net pitch x [] track i a t has over = let none = slice_get_within [] i a has.there in absurd (omega (arith, none))
of_net pitch x (b ∷ rest) [] i a t has over = let none = slice_get_within [] i t has.on in absurd (omega (arith, none))
of_net pitch x (b ∷ rest) (u ∷ ts) zero a t has over =
    let same : b ≡ a = same_Some b a has.there in
    let one : u ≡ t = same_Some u t has.on in
    let is : is_over pitch x b ≡ true = ap (is_over pitch x) same ∙ over in
    subst (λ (b : Bool). Contains (cond b (u ∷ tracks_over pitch x rest ts) (tracks_over pitch x rest ts)) t) (sym is) (contains_here u (tracks_over pitch x rest ts) t (sym one))
of_net pitch x (b ∷ rest) (u ∷ ts) (suc i) a t has over =
    let later = of_net pitch x rest ts i a t (record { there = has.there; on = has.on }) over in
    by_over (is_over pitch x b) later where
      by_over : (b : Bool) → Contains (tracks_over pitch x rest ts) t → Contains (cond b (u ∷ tracks_over pitch x rest ts) (tracks_over pitch x rest ts)) t
      by_over true later = contains_later u (tracks_over pitch x rest ts) t later
      by_over false later = later

-- what is left of an assignment without its first net
fewer_nets : (pitch : ℤ) (a : Interval) (rest : List Interval) (u : ℕ) (ts : List ℕ) → IsAssignment pitch (a ∷ rest) (u ∷ ts) → IsAssignment pitch rest ts
fewer_nets pitch a rest u ts assigned = record {
  each = let sized = assigned.each in omega (arith, sized);
  apart = λ i j t a b differ at_i at_j. assigned.apart (suc i) (suc j) t a b (λ e. differ (omega (arith, e))) (record { there = at_i.there; on = at_i.on }) (record { there = at_j.there; on = at_j.on });
}

-- of two intervals over one x none ends a pitch before the other
not_both : (pitch x : ℤ) (a b : Interval) → is_over pitch x a ≡ true → is_over pitch x b ≡ true → EndsBefore pitch a b ⊎ EndsBefore pitch b a → ⊥
not_both pitch x a b over_a over_b (inl before) =
    let ha = over_from pitch x a over_a in
    let hb = over_from pitch x b over_b in
    omega (arith, ints, ha.1, hb.0, before)
not_both pitch x a b over_a over_b (inr before) =
    let ha = over_from pitch x a over_a in
    let hb = over_from pitch x b over_b in
    omega (arith, ints, ha.0, hb.1, before)

all_differ : (pitch x : ℤ) (intervals : List Interval) (track : List ℕ) → IsAssignment pitch intervals track → AreToldApart (λ (t : ℕ). t) (tracks_over pitch x intervals track)
all_differ pitch x [] track assigned = tt
all_differ pitch x (a ∷ rest) [] assigned = tt
all_differ pitch x (a ∷ rest) (u ∷ ts) assigned = by_over (is_over pitch x a) refl (all_differ pitch x rest ts (fewer_nets pitch a rest u ts assigned)) where
  by_over : (b : Bool) → is_over pitch x a ≡ b → AreToldApart (λ (t : ℕ). t) (tracks_over pitch x rest ts) → AreToldApart (λ (t : ℕ). t) (cond b (u ∷ tracks_over pitch x rest ts) (tracks_over pitch x rest ts))
  by_over true over tail = (
    λ z c e.
        let o = some_net pitch x rest ts z c in
        not_both pitch x a o.a over o.over (assigned.apart 0 (suc o.i) u a o.a (λ k. omega (arith, k)) (record { there = refl; on = refl }) (record { there = o.has.there; on = o.has.on ∙ ap Some (sym e) })),
    tail,
  )
  by_over false over tail = tail

-- the numbers below n
abbrev numbers_below : ℕ → List ℕ
numbers_below zero = []
numbers_below (suc n) = n ∷ numbers_below n

as_many : (n : ℕ) → length (numbers_below n) ≡ n
as_many zero = refl
as_many (suc n) = ap suc (as_many n)

in_below : (n t : ℕ) → t < n → Contains (numbers_below n) t
in_below zero t lt = absurd (omega (arith, lt))
in_below (suc n) t lt = elim (cases_lt t n) [
  | inl less ↦ contains_later n (numbers_below n) t (in_below n t less)
  | inr ge ↦ contains_here n (numbers_below n) t (omega (arith, lt, ge))
]

from_below : (n t : ℕ) → Contains (numbers_below n) t → t < n
from_below zero t c = absurd (contains_none t c)
from_below (suc n) t c = elim (contains_cases n (numbers_below n) t c) [
  | inl here ↦ omega (arith, here)
  | inr later ↦ let lt = from_below n t later in omega (arith, lt)
]

numbers_differ : (n : ℕ) → AreToldApart (λ (t : ℕ). t) (numbers_below n)
numbers_differ zero = tt
numbers_differ (suc n) = (λ z c e. let lt = from_below n z c in omega (arith, lt, e), numbers_differ n)

pub needed : DensityIsNeeded
needed pitch y intervals track n assigned few =
    let is = number_is pitch y intervals track assigned.each in
    let size = as_many n in
    let most : length (tracks_over pitch y intervals track) ≤ length (numbers_below n) =
    at_most (λ (t : ℕ). t) (tracks_over pitch y intervals track) (numbers_below n) (all_differ pitch y intervals track assigned)
    (λ t c. let o = some_net pitch y intervals track t c in in_below n t (few o.i t o.has.on)) in
    omega (arith, is, size, most)

-- the greatest track is there, or all are below it
top_track : (track : List ℕ) (m : ℕ) → AreTracksBelow track (suc m) → AreTracksBelow track m ⊎ ((i : ℕ) × (slice_get track i ≡ Some m))
top_track [] m few = inl (λ i t is. let none = slice_get_within [] i t is in absurd (omega (arith, none)))
top_track (u ∷ ts) m few = elim (top_track ts m (λ i t is. few (suc i) t is)) [
  | inr there ↦ inr (suc there.0, there.1)
  | inl rest ↦ elim (cases_lt u m) [
    | inl less ↦ inl (both less rest)
    | inr ge ↦ inr (0, ap Some (let lt = few 0 u refl in omega (arith, lt, ge)))
  ]
] where
  both : u < m → AreTracksBelow ts m → AreTracksBelow (u ∷ ts) m
  both less rest zero t is = let e = same_Some u t is in omega (arith, less, e)
  both less rest (suc i) t is = rest i t is

-- where a net has the track m, and the lower ones are not free, a net of each of them is over its left end
all_there : (pitch : ℤ) (intervals : List Interval) (track : List ℕ) (j m : ℕ) (b : Interval) → pos 0 <ℤ pitch → b.left ≤ℤ b.right → IsLowest pitch intervals track → HasTrack intervals track j b m → (s : ℕ) → s < suc m → Contains (tracks_over pitch b.left intervals track) s
all_there pitch intervals track j m b positive forward l at_j s lt = elim (cases_lt s m) [
  | inl less ↦
      let busy = l.lowest j m s b at_j less in
      of_net pitch b.left intervals track busy.i busy.a s busy.on (over_by pitch b.left busy.a (starts busy.i busy.a busy.before) busy.reaches)
  | inr ge ↦
      of_net pitch b.left intervals track j b s (record { there = at_j.there; on = at_j.on ∙ ap Some (let e : m ≡ s = omega (arith, lt, ge) in e) }) (over_by pitch b.left b (omega (arith, ints)) (omega (arith, ints, positive, forward)))
] where
  starts : (i : ℕ) (a : Interval) → IsTakenBefore i a j b → a.left ≤ℤ b.left
  starts i a (inl less) = omega (arith, ints, less)
  starts i a (inr same) = let e = same.0 in omega (arith, ints, e)

pub enough : LowestHasTheDensity
enough pitch intervals track zero positive forward l count =
    record {
      x = pos 0;
      reached = let none = needed pitch (pos 0) intervals track 0 (lowest_assigns pitch intervals track l) count.below in omega (arith, none);
      greatest = λ y. needed pitch y intervals track 0 (lowest_assigns pitch intervals track l) count.below;
    }
enough pitch intervals track (suc m) positive forward l count = elim (top_track track m count.below) [
  | inl few ↦ let no = count.least m few in absurd (omega (arith, no))
  | inr there ↦ by_top there.0 there.1
] where
  assigned : IsAssignment pitch intervals track
  assigned = lowest_assigns pitch intervals track l

  by_top : (j : ℕ) → slice_get track j ≡ Some m → IsDensity pitch intervals (suc m)
  by_top j on =
      let inside : j < length intervals = let lt = slice_get_within track j m on in let sized = l.each in omega (arith, lt, sized) in
      let none : Interval = record { left = pos 0; right = pos 0 } in
      let b : Interval = get_or intervals j none in
      let there : slice_get intervals j ≡ Some b = slice_get-get_or intervals j none inside in
      let is = number_is pitch b.left intervals track l.each in
      let size = as_many (suc m) in
      let least : length (numbers_below (suc m)) ≤ length (tracks_over pitch b.left intervals track) =
      at_most (λ (t : ℕ). t) (numbers_below (suc m)) (tracks_over pitch b.left intervals track) (numbers_differ (suc m))
      (λ s c. all_there pitch intervals track j m b positive (forward j b there) l (record { there = there; on = on }) s (from_below (suc m) s c)) in
      let most = needed pitch b.left intervals track (suc m) assigned count.below in
      record {
        x = b.left;
        reached = omega (arith, is, size, least, most);
        greatest = λ y. needed pitch y intervals track (suc m) assigned count.below;
      }
