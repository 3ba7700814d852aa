-- The nets that have a track so far, the tracks in use and the free ones.
use Rattle.std.proofs.Common.{◌≡◌, ◌≢◌, ◌⊎◌, inl, inr, ℕ, ◌+◌, ◌<◌, ◌≤◌, ℤ, ◌+ℤ◌, ◌≤ℤ◌, List, [], length, ap, subst, ◌∙◌, arith}
use Rattle.std.specs.Prelude.{Contains, slice_get, Some}
use Rattle.std.proofs.lemmas.Bool.{cases_eq, cases_order}
use Rattle.std.proofs.lemmas.Int.{ints, by_lt_z}
use Rattle.or_geom.proofs.ListLaws.{contains_none, one_at}
use Rattle.channel_router.specs.declared.channel.Interval.{Interval}
use Rattle.channel_router.specs.Order.{IsTakingOrder, IsTaken}
use Rattle.channel_router.specs.Occupied.{Releases, Takes}
use Rattle.channel_router.specs.Tracks.{HasTrack, IsBusy, IsFree}

-- where it is at place k of the order, the nets at earlier places have their tracks
pub record IsState (pitch : ℤ) (intervals : List Interval) (order : List (ℤ × ℕ)) (track : List ℕ) (busy : List (ℤ × ℕ)) (free : List ℕ) (opened k : ℕ) : Type 0 where
  pub sized : length track ≡ length intervals
  pub few : opened ≤ k
  pub below : (i t : ℕ) (a : Interval) → IsTaken order k i → HasTrack intervals track i a t → t < opened
  pub used : (t : ℕ) → t < opened → (i : ℕ) × (a : Interval) × IsTaken order k i × HasTrack intervals track i a t
  pub busy_below : (f : ℤ) (t : ℕ) → Contains busy (f, t) → t < opened
  pub free_below : (t : ℕ) → Contains free t → t < opened
  pub somewhere : (t : ℕ) → t < opened → Contains free t ⊎ ((f : ℤ) × Contains busy (f, t))
  pub apart : (f : ℤ) (t : ℕ) → Contains busy (f, t) → Contains free t → ⊥
  pub one : (f g : ℤ) (t : ℕ) → Contains busy (f, t) → Contains busy (g, t) → f ≡ g
  pub busy_ends : (f : ℤ) (t i : ℕ) (a : Interval) → Contains busy (f, t) → IsTaken order k i → HasTrack intervals track i a t → (a.right +ℤ pitch) ≤ℤ f
  pub busy_met : (f : ℤ) (t : ℕ) → Contains busy (f, t) → (i : ℕ) × (a : Interval) × IsTaken order k i × HasTrack intervals track i a t × ((a.right +ℤ pitch) ≡ f)
  pub free_ends : (t i : ℕ) (a : Interval) → Contains free t → IsTaken order k i → HasTrack intervals track i a t → (p j : ℕ) (x : ℤ) → k ≤ p → slice_get order p ≡ Some (x, j) → (a.right +ℤ pitch) ≤ℤ x
  pub on_free : (j t : ℕ) (b : Interval) → IsTaken order k j → HasTrack intervals track j b t → IsFree pitch intervals track j b t
  pub on_lowest : (j t lower : ℕ) (b : Interval) → IsTaken order k j → HasTrack intervals track j b t → lower < t → IsBusy pitch intervals track j b lower

none_taken : (order : List (ℤ × ℕ)) (i : ℕ) → IsTaken order 0 i → ⊥
none_taken order i taken = let lt = taken.before in omega (arith, lt)

pub state_begins : (pitch : ℤ) (intervals : List Interval) (order : List (ℤ × ℕ)) (track : List ℕ) (busy : List (ℤ × ℕ)) (free : List ℕ) → length track ≡ length intervals → busy ≡ [] → free ≡ [] → IsState pitch intervals order track busy free 0 0
state_begins pitch intervals order track busy free sized no_busy no_free = record {
  sized = sized;
  few = omega arith;
  below = λ i t a taken has. absurd (none_taken order i taken);
  used = λ t lt. absurd (omega (arith, lt));
  busy_below = λ f t there. absurd (none_busy f t there);
  free_below = λ t there. absurd (none_free t there);
  somewhere = λ t lt. absurd (omega (arith, lt));
  apart = λ f t there h. none_busy f t there;
  one = λ f g t there h. absurd (none_busy f t there);
  busy_ends = λ f t i a there taken has. absurd (none_busy f t there);
  busy_met = λ f t there. absurd (none_busy f t there);
  free_ends = λ t i a there. absurd (none_free t there);
  on_free = λ j t b taken. absurd (none_taken order j taken);
  on_lowest = λ j t lower b taken. absurd (none_taken order j taken);
} where
  none_busy : (f : ℤ) (t : ℕ) → Contains busy (f, t) → ⊥
  none_busy f t there = contains_none (f, t) (subst (λ (l : List (ℤ × ℕ)). Contains l (f, t)) no_busy there)

  none_free : (t : ℕ) → Contains free t → ⊥
  none_free t there = contains_none t (subst (λ (l : List ℕ). Contains l t) no_free there)

-- left ends do not fall
pub not_left_of : (intervals : List Interval) (order : List (ℤ × ℕ)) (k p i j : ℕ) (x y : ℤ) → IsTakingOrder intervals order → slice_get order k ≡ Some (x, i) → slice_get order p ≡ Some (y, j) → k ≤ p → x ≤ℤ y
not_left_of intervals order k p i j x y o at_k at_p le = elim (cases_order k p) [
  | inl same ↦
      let e = one_at order k (x, i) (y, j) at_k (ap (λ (q : ℕ). slice_get order q) same ∙ at_p) in
      let f : x ≡ y = ap (λ (z : ℤ × ℕ). z.0) e in
      omega (arith, ints, f)
  | inr (inl less) ↦ elim (o.rises k p i j x y less at_k at_p) [ inl lt ↦ omega (arith, ints, lt) | inr same ↦ (let f = same.0 in omega (arith, ints, f)) ]
  | inr (inr more) ↦ absurd (omega (arith, le, more))
]

-- tracks that are free at the next net's left end become free
pub state_released : (pitch : ℤ) (intervals : List Interval) (order : List (ℤ × ℕ)) (track : List ℕ) (busy : List (ℤ × ℕ)) (free : List ℕ) (opened k net : ℕ) (x : ℤ) (busy_new : List (ℤ × ℕ)) (free_new : List ℕ)
    → IsTakingOrder intervals order → slice_get order k ≡ Some (x, net) → IsState pitch intervals order track busy free opened k → Releases x busy free busy_new free_new → IsState pitch intervals order track busy_new free_new opened k
state_released pitch intervals order track busy free opened k net x busy_new free_new o at_k s r = record {
  sized = s.sized;
  few = s.few;
  below = s.below;
  used = s.used;
  busy_below = λ f t there. s.busy_below f t (r.stays f t there).0;
  free_below = λ t there. elim (r.only t there) [ inl was ↦ s.free_below t was | inr b ↦ s.busy_below b.0 t b.1 ];
  somewhere = λ t lt. elim (s.somewhere t lt) [ inl was ↦ inl (r.free_kept t was) | inr b ↦ by_end t b.0 b.1 ];
  apart = λ f t there now_free. elim (r.only t now_free) [
    | inl was ↦ s.apart f t (r.stays f t there).0 was
    | inr b ↦
        let same = s.one f b.0 t (r.stays f t there).0 b.1 in
        let later = (r.stays f t there).1 in
        let ended = b.2 in
        omega (arith, ints, same, later, ended)
  ];
  one = λ f g t p q. s.one f g t (r.stays f t p).0 (r.stays g t q).0;
  busy_ends = λ f t i a there. s.busy_ends f t i a (r.stays f t there).0;
  busy_met = λ f t there. s.busy_met f t (r.stays f t there).0;
  free_ends = λ t i a there taken has p j y le at_p. elim (r.only t there) [
    | inl was ↦ s.free_ends t i a was taken has p j y le at_p
    | inr b ↦
        let ends = s.busy_ends b.0 t i a b.1 taken has in
        let ended = b.2 in
        let up = not_left_of intervals order k p net j x y o at_k at_p le in
        omega (arith, ints, ends, ended, up)
  ];
  on_free = s.on_free;
  on_lowest = s.on_lowest;
} where
  by_end : (t : ℕ) (f : ℤ) → Contains busy (f, t) → Contains free_new t ⊎ ((g : ℤ) × Contains busy_new (g, t))
  by_end t f there = by_lt_z {P = Contains free_new t ⊎ ((g : ℤ) × Contains busy_new (g, t))} x f (λ less. inr (f, r.kept f t there less)) (λ ended. inl (r.freed f t there ended))

-- the track that the next net takes: free, and the lowest that is
pub record IsReady (pitch : ℤ) (intervals : List Interval) (order : List (ℤ × ℕ)) (track : List ℕ) (busy : List (ℤ × ℕ)) (free free_new : List ℕ) (opened opened_new k : ℕ) (x : ℤ) (t : ℕ) : Type 0 where
  pub inside : t < opened_new
  pub grows : opened ≤ opened_new
  pub few : opened_new ≤ k + 1
  pub free_only : (u : ℕ) → Contains free_new u → Contains free u × (u ≢ t)
  pub somewhere : (u : ℕ) → u < opened_new → (u ≡ t) ⊎ (Contains free_new u ⊎ ((f : ℤ) × Contains busy (f, u)))
  pub used : (u : ℕ) → u < opened_new → (u ≡ t) ⊎ (u < opened)
  pub not_busy : (f : ℤ) → Contains busy (f, t) → ⊥
  pub ended : (i : ℕ) (a : Interval) → IsTaken order k i → HasTrack intervals track i a t → (a.right +ℤ pitch) ≤ℤ x
  pub lower : (u : ℕ) → u < t → (f : ℤ) × Contains busy (f, u)

pub ready : (pitch : ℤ) (intervals : List Interval) (order : List (ℤ × ℕ)) (track : List ℕ) (busy : List (ℤ × ℕ)) (free free_new : List ℕ) (opened opened_new k net : ℕ) (x : ℤ) (t : ℕ)
    → slice_get order k ≡ Some (x, net) → IsState pitch intervals order track busy free opened k → Takes free opened free_new opened_new t → IsReady pitch intervals order track busy free free_new opened opened_new k x t
ready pitch intervals order track busy free free_new opened opened_new k net x t at_k s (inl (takes, same)) = record {
  inside = let lt = s.free_below t takes.there in omega (arith, lt, same);
  grows = omega (arith, same);
  few = let f = s.few in omega (arith, f, same);
  free_only = λ u there. (takes.only u there, λ e. takes.gone (subst (λ (v : ℕ). Contains free_new v) e there));
  somewhere = λ u lt. elim (s.somewhere u (omega (arith, lt, same))) [
    | inl was ↦ elim (takes.kept u was) [ inl e ↦ inl e | inr still ↦ inr (inl still) ]
    | inr b ↦ inr (inr b)
  ];
  used = λ u lt. inr (omega (arith, lt, same));
  not_busy = λ f there. s.apart f t there takes.there;
  ended = λ i a taken has. s.free_ends t i a takes.there taken has k net x (omega arith) at_k;
  lower = λ u lt. elim (s.somewhere u (let less = s.free_below t takes.there in omega (arith, less, lt))) [
    | inl was ↦ absurd (let le = takes.lowest u was in omega (arith, le, lt))
    | inr b ↦ b
  ];
}
ready pitch intervals order track busy free free_new opened opened_new k net x t at_k s (inr takes) =
    let next = takes.next in
    let more = takes.more in
    record {
      inside = omega (arith, next, more);
      grows = omega (arith, more);
      few = let f = s.few in omega (arith, f, more);
      free_only = λ u there. absurd (takes.still u there);
      somewhere = λ u lt. elim (cases_eq u t) [
        | inl e ↦ inl e
        | inr other ↦ inr (inr (in_use u (omega (arith, lt, more, next, other))))
      ];
      used = λ u lt. elim (cases_eq u t) [ inl e ↦ inl e | inr other ↦ inr (omega (arith, lt, more, next, other)) ];
      not_busy = λ f there. let lt = s.busy_below f t there in omega (arith, lt, next);
      ended = λ i a taken has. absurd (let lt = s.below i t a taken has in omega (arith, lt, next));
      lower = λ u lt. in_use u (omega (arith, lt, next));
    } where
      in_use : (u : ℕ) → u < opened → (f : ℤ) × Contains busy (f, u)
      in_use u lt = elim (s.somewhere u lt) [ inl was ↦ absurd (takes.none u was) | inr b ↦ b ]
