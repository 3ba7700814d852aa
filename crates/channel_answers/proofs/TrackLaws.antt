-- Each net gets its lowest free track: nets are taken in order, and tracks become free behind their intervals.
use Rattle.std.proofs.Common.{◌≡◌, ◌⊎◌, inl, inr, ℕ, zero, suc, ◌+◌, ◌<◌, ◌≤◌, ℤ, pos, ◌+ℤ◌, ◌≤ℤ◌, ◌<ℤ◌, List, [], ◌∷◌, length, get_or, refl, ap, subst, ◌∙◌, arith}
use Rattle.std.specs.Prelude.{Contains, slice_get, slice_set, Some}
use Rattle.std.proofs.lemmas.Bool.{cases_order}
use Rattle.std.proofs.lemmas.Cmp.{int_cmp_total, nat_cmp_total, on_total, then_total}
use Rattle.std.proofs.lemmas.Int.{ints, by_lt_z}
use Rattle.std.proofs.lemmas.Option.{same_Some, slice_get-get_or, slice_get_within}
use Rattle.or_geom.proofs.ListLaws.{contains_cases, contains_first, contains_here, contains_later, contains_none}
use Rattle.channel_router.specs.declared.channel.Interval.{Interval}
use Rattle.channel_router.specs.Occupied.{Releases, Takes, TakesFree}
use Rattle.channel_router.specs.Order.{IsTakingOrder}
use Rattle.channel_router.specs.Tracks.{AreAssigned, AreForward}
use Rattle.channel_router.proofs.OccupiedLaws.{pair_cmp}
use Rattle.channel_router.proofs.OrderLaws.{sorted_is_order}
use Rattle.channel_router.proofs.StateLaws.{IsState, ready, state_begins, state_released}
use Rattle.channel_router.proofs.StepLaws.{all_assigned, state_placed}
use Rattle.channel_answers.proofs.OrderLaws.{sorted_there}

-- the lowest of some numbers
abbrev LowestOrNone : List ℕ → Type 0
LowestOrNone free = ((u : ℕ) → Contains free u → ⊥) ⊎ ((track : ℕ) × (rest : List ℕ) × TakesFree free rest track)

only_one : (u : ℕ) (us : List ℕ) → ((v : ℕ) → Contains us v → u < v) → TakesFree (u ∷ us) us u
only_one u us above = record {
  there = contains_first u us;
  lowest = λ v h. elim (contains_cases u us v h) [ inl e ↦ omega (arith, e) | inr k ↦ (let lt = above v k in omega (arith, lt)) ];
  gone = λ h. let lt = above u h in omega (arith, lt);
  kept = λ v h. contains_cases u us v h;
  only = λ v h. contains_later u us v h;
}

same_again : (u t : ℕ) (us rest : List ℕ) → u ≡ t → TakesFree us rest t → TakesFree (u ∷ us) rest t
same_again u t us rest same takes = record {
  there = contains_later u us t takes.there;
  lowest = λ v h. elim (contains_cases u us v h) [ inl e ↦ omega (arith, e, same) | inr k ↦ takes.lowest v k ];
  gone = takes.gone;
  kept = λ v h. elim (contains_cases u us v h) [ inl e ↦ inl (e ∙ same) | inr k ↦ takes.kept v k ];
  only = λ v h. contains_later u us v (takes.only v h);
}

higher_first : (u t : ℕ) (us rest : List ℕ) → t < u → TakesFree us rest t → TakesFree (u ∷ us) (u ∷ rest) t
higher_first u t us rest lt takes = record {
  there = contains_later u us t takes.there;
  lowest = λ v h. elim (contains_cases u us v h) [ inl e ↦ omega (arith, e, lt) | inr k ↦ takes.lowest v k ];
  gone = λ h. elim (contains_cases u rest t h) [ inl e ↦ omega (arith, e, lt) | inr k ↦ takes.gone k ];
  kept = λ v h. elim (contains_cases u us v h) [
    | inl e ↦ inr (contains_here u rest v e)
    | inr k ↦ elim (takes.kept v k) [ inl e ↦ inl e | inr m ↦ inr (contains_later u rest v m) ]
  ];
  only = λ v h. elim (contains_cases u rest v h) [ inl e ↦ contains_here u us v e | inr k ↦ contains_later u us v (takes.only v k) ];
}

lowest_or_none : (free : List ℕ) → LowestOrNone free
lowest_or_none [] = inl (λ u h. contains_none u h)
lowest_or_none (u ∷ us) = elim (lowest_or_none us) [
  | inl none ↦ inr (u, us, only_one u us (λ v h. absurd (none v h)))
  | inr found ↦
      let t = found.0 in
      let takes = found.2 in
      elim (cases_order u t) [
        | inl same ↦ inr (t, found.1, same_again u t us found.1 same takes)
        | inr (inl less) ↦ inr (u, us, only_one u us (λ v h. let le = takes.lowest v h in omega (arith, less, le)))
        | inr (inr more) ↦ inr (t, u ∷ found.1, higher_first u t us found.1 more takes)
      ]
]

-- the next track: the lowest that is free, or else a new one
record Taken (free : List ℕ) (opened : ℕ) : Type 0 where
  pub free_new : List ℕ
  pub opened_new : ℕ
  pub track : ℕ
  pub takes : Takes free opened free_new opened_new track

take : (free : List ℕ) (opened : ℕ) → Taken free opened
take free opened = elim (lowest_or_none free) [
  | inl none ↦ record {
    free_new = [];
    opened_new = opened + 1;
    track = opened;
    takes = inr (record { none = none; still = λ u h. contains_none u h; next = refl; more = refl });
  }
  | inr found ↦ record { free_new = found.1; opened_new = opened; track = found.0; takes = inl (found.2, refl) }
]

-- the tracks that are free again
record Released (left : ℤ) (busy : List (ℤ × ℕ)) (free : List ℕ) : Type 0 where
  pub busy_new : List (ℤ × ℕ)
  pub free_new : List ℕ
  pub releases : Releases left busy free busy_new free_new

stays_busy : (left : ℤ) (z : ℤ × ℕ) (zs : List (ℤ × ℕ)) (free : List ℕ) → left <ℤ z.0 → Released left zs free → Released left (z ∷ zs) free
stays_busy left z zs free later r = record {
  busy_new = z ∷ r.busy_new;
  free_new = r.free_new;
  releases = record {
    stays = λ f t h. elim (contains_cases z r.busy_new (f, t) h) [
      | inl e ↦ (contains_here z zs (f, t) e, (let g : f ≡ z.0 = ap (λ (y : ℤ × ℕ). y.0) e in omega (arith, ints, g, later)))
      | inr k ↦ (let both = s.stays f t k in (contains_later z zs (f, t) both.0, both.1))
    ];
    kept = λ f t h behind. elim (contains_cases z zs (f, t) h) [
      | inl e ↦ contains_here z r.busy_new (f, t) e
      | inr k ↦ contains_later z r.busy_new (f, t) (s.kept f t k behind)
    ];
    freed = λ f t h ended. elim (contains_cases z zs (f, t) h) [
      | inl e ↦ absurd (let g : f ≡ z.0 = ap (λ (y : ℤ × ℕ). y.0) e in omega (arith, ints, g, later, ended))
      | inr k ↦ s.freed f t k ended
    ];
    free_kept = s.free_kept;
    only = λ t h. elim (s.only t h) [ inl was ↦ inl was | inr b ↦ inr (b.0, contains_later z zs (b.0, t) b.1, b.2) ];
  };
} where
  s : Releases left zs free r.busy_new r.free_new
  s = r.releases

becomes_free : (left : ℤ) (z : ℤ × ℕ) (zs : List (ℤ × ℕ)) (free : List ℕ) → z.0 ≤ℤ left → Released left zs free → Released left (z ∷ zs) free
becomes_free left z zs free ended r = record {
  busy_new = r.busy_new;
  free_new = z.1 ∷ r.free_new;
  releases = record {
    stays = λ f t h. let both = s.stays f t h in (contains_later z zs (f, t) both.0, both.1);
    kept = λ f t h behind. elim (contains_cases z zs (f, t) h) [
      | inl e ↦ absurd (let g : f ≡ z.0 = ap (λ (y : ℤ × ℕ). y.0) e in omega (arith, ints, g, behind, ended))
      | inr k ↦ s.kept f t k behind
    ];
    freed = λ f t h le. elim (contains_cases z zs (f, t) h) [
      | inl e ↦ contains_here z.1 r.free_new t (ap (λ (y : ℤ × ℕ). y.1) e)
      | inr k ↦ contains_later z.1 r.free_new t (s.freed f t k le)
    ];
    free_kept = λ t h. contains_later z.1 r.free_new t (s.free_kept t h);
    only = λ t h. elim (contains_cases z.1 r.free_new t h) [
      | inl e ↦ inr (z.0, contains_here z zs (z.0, t) (λ i. (z.0, e i)), ended)
      | inr k ↦ elim (s.only t k) [ inl was ↦ inl was | inr b ↦ inr (b.0, contains_later z zs (b.0, t) b.1, b.2) ]
    ];
  };
} where
  s : Releases left zs free r.busy_new r.free_new
  s = r.releases

release : (left : ℤ) (busy : List (ℤ × ℕ)) (free : List ℕ) → Released left busy free
release left [] free = record {
  busy_new = [];
  free_new = free;
  releases = record {
    stays = λ f t h. absurd (contains_none (f, t) h);
    kept = λ f t h behind. h;
    freed = λ f t h ended. absurd (contains_none (f, t) h);
    free_kept = λ t h. h;
    only = λ t h. inl h;
  };
}
release left (z ∷ zs) free = by_lt_z {P = Released left (z ∷ zs) free} left z.0 (λ later. stays_busy left z zs free later (release left zs free)) (λ ended. becomes_free left z zs free ended (release left zs free))

-- what nets have at a place of the order
record AtPlace (pitch : ℤ) (intervals : List Interval) (order : List (ℤ × ℕ)) (k : ℕ) : Type 0 where
  pub track : List ℕ
  pub busy : List (ℤ × ℕ)
  pub free : List ℕ
  pub opened : ℕ
  pub state : IsState pitch intervals order track busy free opened k

next_place : (pitch : ℤ) (intervals : List Interval) (order : List (ℤ × ℕ)) (k : ℕ) → pos 0 ≤ℤ pitch → AreForward intervals
    → IsTakingOrder intervals order → k < length order → AtPlace pitch intervals order k → AtPlace pitch intervals order (k + 1)
next_place pitch intervals order k positive forward o lt at =
    let z = get_or order k (pos 0, 0) in
    let at_k = slice_get-get_or order k (pos 0, 0) lt in
    let found = o.only k z.1 z.0 at_k in
    let b = found.0 in
    let r = release z.0 at.busy at.free in
    let now = state_released pitch intervals order at.track at.busy at.free at.opened k z.1 z.0 r.busy_new r.free_new o at_k at.state r.releases in
    let t = take r.free_new at.opened in
    let is = ready pitch intervals order at.track r.busy_new r.free_new t.free_new at.opened t.opened_new k z.1 z.0 t.track at_k now t.takes in
    let key : ℤ × ℕ = (b.right +ℤ pitch, t.track) in
    let inside : z.1 < length at.track = let there = slice_get_within intervals z.1 b found.1 in let sized = at.state.sized in omega (arith, there, sized) in
    record {
      track = slice_set at.track z.1 t.track;
      busy = key ∷ r.busy_new;
      free = t.free_new;
      opened = t.opened_new;
      state = state_placed pitch intervals order k z.1 z.0 b o at_k found.1 at.track t.track inside r.busy_new r.free_new t.free_new at.opened t.opened_new (key ∷ r.busy_new) now is
          (λ f u h. (r.releases.stays f u h).1) (λ y h. contains_cases key r.busy_new y h) (λ y h. contains_later key r.busy_new y h) (contains_first key r.busy_new) (forward z.1 b found.1) positive;
    }

-- a list of so many zeros
zeros : (n : ℕ) → (l : List ℕ) × (length l ≡ n)
zeros zero = ([], refl)
zeros (suc n) = let rest = zeros n in (0 ∷ rest.0, ap suc rest.1)

first_place : (pitch : ℤ) (intervals : List Interval) (order : List (ℤ × ℕ)) → AtPlace pitch intervals order 0
first_place pitch intervals order =
    let none = zeros (length intervals) in
    record { track = none.0; busy = []; free = []; opened = 0; state = state_begins pitch intervals order none.0 [] [] none.1 refl refl }

up_to_place : (pitch : ℤ) (intervals : List Interval) (order : List (ℤ × ℕ)) (k : ℕ) → pos 0 ≤ℤ pitch → AreForward intervals
    → IsTakingOrder intervals order → k ≤ length order → AtPlace pitch intervals order k
up_to_place pitch intervals order zero positive forward o le = first_place pitch intervals order
up_to_place pitch intervals order (suc k) positive forward o le =
    subst (λ (n : ℕ). AtPlace pitch intervals order n) place (next_place pitch intervals order k positive forward o (omega (arith, le)) (up_to_place pitch intervals order k positive forward o (omega (arith, le))))
  where
    place : k + 1 ≡ suc k
    place = omega arith

-- nets with their left ends, in the order of their numbers
abbrev listed_from : ℕ → List Interval → List (ℤ × ℕ)
listed_from n [] = []
listed_from n (a ∷ rest) = (a.left, n) ∷ listed_from (suc n) rest

listed_at : (n i : ℕ) (intervals : List Interval) (a : Interval) → slice_get intervals i ≡ Some a
    → slice_get (listed_from n intervals) i ≡ Some (a.left, n + i)
listed_at n i [] a at = absurd cc
listed_at n zero (c ∷ cs) a at = let e : c ≡ a = same_Some c a at in λ k. Some ((e k).left, place k)
  where
    place : n ≡ n + 0
    place = omega arith
listed_at n (suc i) (c ∷ cs) a at = listed_at (suc n) i cs a at ∙ (λ k. Some (a.left, place k))
  where
    place : suc n + i ≡ n + suc i
    place = omega arith

listed_sized : (n : ℕ) (intervals : List Interval) → length (listed_from n intervals) ≡ length intervals
listed_sized n [] = refl
listed_sized n (a ∷ rest) = ap suc (listed_sized (suc n) rest)

order_there : (intervals : List Interval) → (order : List (ℤ × ℕ)) × IsTakingOrder intervals order
order_there intervals =
    let listed = listed_from 0 intervals in
    let sorted = sorted_there pair_cmp (then_total (on_total (λ (z : ℤ × ℕ). z.0) int_cmp_total) (on_total (λ (z : ℤ × ℕ). z.1) nat_cmp_total)) listed in
    (sorted.0, sorted_is_order intervals listed sorted.0 (record { sized = listed_sized 0 intervals; at = λ i a lt at. subst (λ (n : ℕ). slice_get (listed_from 0 intervals) i ≡ Some (a.left, n)) (same i) (listed_at 0 i intervals a at) }) sorted.1 sorted.2)
  where
    same : (i : ℕ) → 0 + i ≡ i
    same i = omega arith

-- the nets of these intervals have tracks, as many as intervals at most
pub record AreOnTracks (pitch : ℤ) (intervals : List Interval) : Type 0 where
  pub track : List ℕ
  pub tracks : ℕ
  pub assigned : AreAssigned pitch intervals track tracks
  pub few : tracks ≤ length intervals

pub tracks_there : (pitch : ℤ) (intervals : List Interval) → pos 0 ≤ℤ pitch → AreForward intervals → AreOnTracks pitch intervals
tracks_there pitch intervals positive forward =
    let order = order_there intervals in
    let last = up_to_place pitch intervals order.0 (length order.0) positive forward order.1 (omega arith) in
    let sized = order.1.sized in
    let few = last.state.few in
    record {
      track = last.track;
      tracks = last.opened;
      assigned = all_assigned pitch intervals order.0 last.track last.busy last.free last.opened (length order.0) order.1 last.state (omega arith);
      few = omega (arith, sized, few);
    }
