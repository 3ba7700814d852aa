-- The next net on its track.
use Rattle.std.proofs.Common.{◌≡◌, ◌⊎◌, inl, inr, ℕ, zero, suc, ◌+◌, ◌<◌, ◌≤◌, ℤ, pos, ◌+ℤ◌, ◌≤ℤ◌, List, length, refl, sym, ap, subst, ◌∙◌, arith}
use Rattle.std.specs.Prelude.{Contains, slice_get, slice_set, Some}
use Rattle.std.proofs.lemmas.Int.{ints}
use Rattle.std.proofs.lemmas.List.{length-set}
use Rattle.std.proofs.lemmas.Option.{slice_get_within, slice_get-get_or}
use Rattle.or_geom.proofs.ListLaws.{one_at, below_or}
use Rattle.channel_router.specs.declared.channel.Interval.{Interval}
use Rattle.channel_router.specs.Order.{IsTakingOrder, IsTaken}
use Rattle.channel_router.specs.Occupied.{NoneEnds}
use Rattle.channel_router.specs.Tracks.{AreAssigned, AreTracksBelow, HasTrack, IsBusy, IsFree, IsTakenBefore}
use Rattle.channel_router.proofs.PlaceLaws.{set_same, set_other, before_place}
use Rattle.channel_router.proofs.StateLaws.{IsState, IsReady}

module _ (pitch : ℤ) (intervals : List Interval) (order : List (ℤ × ℕ)) (k net : ℕ) (x : ℤ) (b : Interval) (o : IsTakingOrder intervals order) (at_k : slice_get order k ≡ Some (x, net)) (there : slice_get intervals net ≡ Some b) where
  left_is : x ≡ b.left
  left_is = let found = o.only k net x at_k in found.2 ∙ ap (λ (c : Interval). c.left) (one_at intervals net found.0 b found.1 there)

  not_taken : IsTaken order k net → ⊥
  not_taken taken =
      let found = o.only taken.p net taken.left taken.at in
      let e : taken.left ≡ b.left = found.2 ∙ ap (λ (c : Interval). c.left) (one_at intervals net found.0 b found.1 there) in
      let l = left_is in
      elim (o.rises taken.p k net net taken.left x taken.before taken.at at_k) [
        | inl less ↦ omega (arith, ints, e, l, less)
        | inr same ↦ let lt = same.1 in omega (arith, lt)
      ]

  taken_later : (i : ℕ) → IsTaken order k i → IsTaken order (k + 1) i
  taken_later i taken = record { p = taken.p; left = taken.left; before = let lt = taken.before in omega (arith, lt); at = taken.at }

  taken_now : IsTaken order (k + 1) net
  taken_now = record { p = k; left = x; before = omega arith; at = at_k }

  taken_cases : (i : ℕ) → IsTaken order (k + 1) i → IsTaken order k i ⊎ (i ≡ net)
  taken_cases i taken = elim (below_or taken.p k taken.before) [
    | inl lt ↦ inl (record { p = taken.p; left = taken.left; before = lt; at = taken.at })
    | inr same ↦
        let e = one_at order k (taken.left, i) (x, net) (ap (λ (q : ℕ). slice_get order q) (sym same) ∙ taken.at) at_k in
        inr (ap (λ (z : ℤ × ℕ). z.1) e)
  ]

  module _ (track : List ℕ) (t : ℕ) (inside : net < length track) where
    -- what a net had before it has
    has_kept : (i u : ℕ) (a : Interval) → IsTaken order k i → HasTrack intervals track i a u → HasTrack intervals (slice_set track net t) i a u
    has_kept i u a taken has = record { there = has.there; on = set_other track net i t (λ e. not_taken (subst (λ (j : ℕ). IsTaken order k j) e taken)) ∙ has.on }

    has_new : HasTrack intervals (slice_set track net t) net b t
    has_new = record { there = there; on = set_same track net t inside }

    has_old : (i u : ℕ) (a : Interval) → IsTaken order k i → HasTrack intervals (slice_set track net t) i a u → HasTrack intervals track i a u
    has_old i u a taken has = record { there = has.there; on = sym (set_other track net i t (λ e. not_taken (subst (λ (j : ℕ). IsTaken order k j) e taken))) ∙ has.on }

    -- a net that has its track by now: one from before, or the new one
    has_cases : (i u : ℕ) (a : Interval) → IsTaken order (k + 1) i → HasTrack intervals (slice_set track net t) i a u → (IsTaken order k i × HasTrack intervals track i a u) ⊎ ((i ≡ net) × (a ≡ b) × (u ≡ t))
    has_cases i u a taken has = elim (taken_cases i taken) [
      | inl before ↦ inl (before, has_old i u a before has)
      | inr same ↦ inr (
        same,
        one_at intervals net a b (ap (λ (j : ℕ). slice_get intervals j) (sym same) ∙ has.there) there,
        one_at (slice_set track net t) net u t (ap (λ (j : ℕ). slice_get (slice_set track net t) j) (sym same) ∙ has.on) (set_same track net t inside),
      )
    ]

    -- the new net's track and interval
    module _ (busy : List (ℤ × ℕ)) (free free_new : List ℕ) (opened opened_new : ℕ) (busy_new : List (ℤ × ℕ)) (s : IsState pitch intervals order track busy free opened k) (r : IsReady pitch intervals order track busy free free_new opened opened_new k x t)
        (none : NoneEnds x busy) (cases : (z : ℤ × ℕ) → Contains busy_new z → (z ≡ (b.right +ℤ pitch, t)) ⊎ Contains busy z) (keeps : (z : ℤ × ℕ) → Contains busy z → Contains busy_new z) (has : Contains busy_new (b.right +ℤ pitch, t))
        (forward : b.left ≤ℤ b.right) (positive : pos 0 ≤ℤ pitch) where
      busy_cases : (f : ℤ) (u : ℕ) → Contains busy_new (f, u) → ((f ≡ (b.right +ℤ pitch)) × (u ≡ t)) ⊎ Contains busy (f, u)
      busy_cases f u in_new = elim (cases (f, u) in_new) [ inl e ↦ inl (ap (λ (z : ℤ × ℕ). z.0) e, ap (λ (z : ℤ × ℕ). z.1) e) | inr was ↦ inr was ]

      not_old : (f : ℤ) (u : ℕ) → u ≡ t → Contains busy (f, u) → ⊥
      not_old f u e was = r.not_busy f (subst (λ (v : ℕ). Contains busy (f, v)) e was)

      ended_at : (i u : ℕ) (a : Interval) → u ≡ t → IsTaken order k i → HasTrack intervals track i a u → (a.right +ℤ pitch) ≤ℤ x
      ended_at i u a e taken on = r.ended i a taken (subst (λ (v : ℕ). HasTrack intervals track i a v) e on)

      placed_ends : (f : ℤ) (u i : ℕ) (a : Interval) → Contains busy_new (f, u) → IsTaken order (k + 1) i → HasTrack intervals (slice_set track net t) i a u → (a.right +ℤ pitch) ≤ℤ f
      placed_ends f u i a in_new taken on = elim (busy_cases f u in_new) [
        | inl new ↦ elim (has_cases i u a taken on) [
          | inl old ↦
              let le = ended_at i u a new.1 old.0 old.1 in
              let l = left_is in
              let e = new.0 in
              omega (arith, ints, le, l, e, forward, positive)
          | inr same ↦
              let e = new.0 in
              let g : a.right ≡ b.right = ap (λ (c : Interval). c.right) same.1 in
              omega (arith, ints, e, g)
        ]
        | inr was ↦ elim (has_cases i u a taken on) [
          | inl old ↦ s.busy_ends f u i a was old.0 old.1
          | inr same ↦ absurd (not_old f u same.2 was)
        ]
      ]

      placed_met : (f : ℤ) (u : ℕ) → Contains busy_new (f, u) → (i : ℕ) × (a : Interval) × IsTaken order (k + 1) i × HasTrack intervals (slice_set track net t) i a u × ((a.right +ℤ pitch) ≡ f)
      placed_met f u in_new = elim (busy_cases f u in_new) [
        | inl new ↦ (net, b, taken_now, subst (λ (v : ℕ). HasTrack intervals (slice_set track net t) net b v) (sym new.1) has_new, sym new.0)
        | inr was ↦ (let m = s.busy_met f u was in (m.0, m.1, taken_later m.0 m.2, has_kept m.0 u m.1 m.2 m.3, m.4))
      ]

      -- who is taken before the net that has its track now has his too
      earlier : (i j : ℕ) (a c : Interval) → IsTaken order (k + 1) j → slice_get intervals i ≡ Some a → slice_get intervals j ≡ Some c → IsTakenBefore i a j c → IsTaken order k i
      earlier i j a c taken at_i at_j before =
          let place = before_place intervals order taken.p i j taken.left a c o taken.at at_i at_j before in
          record { p = place.0; left = a.left; before = let lt = place.1 in let le = taken.before in omega (arith, lt, le); at = place.2 }

      placed_free : (j u : ℕ) (c : Interval) → IsTaken order (k + 1) j → HasTrack intervals (slice_set track net t) j c u → IsFree pitch intervals (slice_set track net t) j c u
      placed_free j u c taken on i a on_i before =
          let taken_i = earlier i j a c taken on_i.there on.there before in
          let old_i = has_old i u a taken_i on_i in
          elim (has_cases j u c taken on) [
            | inl old ↦ s.on_free j u c old.0 old.1 i a old_i before
            | inr same ↦
                let le = ended_at i u a same.2 taken_i old_i in
                let l = left_is in
                let e : c.left ≡ b.left = ap (λ (d : Interval). d.left) same.1 in
                omega (arith, ints, le, l, e)
          ]

      taken_before : (i : ℕ) (a : Interval) → IsTaken order k i → slice_get intervals i ≡ Some a → IsTakenBefore i a net b
      taken_before i a taken at_i =
          let found = o.only taken.p i taken.left taken.at in
          let e : taken.left ≡ a.left = found.2 ∙ ap (λ (c : Interval). c.left) (one_at intervals i found.0 a found.1 at_i) in
          let l = left_is in
          elim (o.rises taken.p k i net taken.left x taken.before taken.at at_k) [
            | inl less ↦ inl (omega (arith, ints, e, l, less))
            | inr same ↦ inr (sym e ∙ same.0 ∙ l, same.1)
          ]

      placed_lowest : (j u lower : ℕ) (c : Interval) → IsTaken order (k + 1) j → HasTrack intervals (slice_set track net t) j c u → lower < u → IsBusy pitch intervals (slice_set track net t) j c lower
      placed_lowest j u lower c taken on lt = elim (has_cases j u c taken on) [
        | inl old ↦
            let w = s.on_lowest j u lower c old.0 old.1 lt in
            let taken_w = earlier w.i j w.a c taken w.on.there on.there w.before in
            record { i = w.i; a = w.a; on = has_kept w.i lower w.a taken_w w.on; before = w.before; reaches = w.reaches }
        | inr same ↦ by_new j u c same.0 same.1 same.2 (new_busy lower (let e = same.2 in omega (arith, e, lt)))
      ] where
        new_busy : (v : ℕ) → v < t → IsBusy pitch intervals (slice_set track net t) net b v
        new_busy v less =
            let f = r.lower v less in
            let m = s.busy_met f.0 v f.1 in
            let later = none f.0 v f.1 in
            let e = m.4 in
            let l = left_is in
            record { i = m.0; a = m.1; on = has_kept m.0 v m.1 m.2 m.3; before = taken_before m.0 m.1 m.2 m.3.there; reaches = omega (arith, ints, later, e, l) }

        by_new : (i v : ℕ) (a : Interval) → i ≡ net → a ≡ b → v ≡ t → IsBusy pitch intervals (slice_set track net t) net b lower → IsBusy pitch intervals (slice_set track net t) i a lower
        by_new i v a e f g busy = subst (λ (m : ℕ). IsBusy pitch intervals (slice_set track net t) m a lower) (sym e) (subst (λ (c : Interval). IsBusy pitch intervals (slice_set track net t) net c lower) (sym f) busy)

      pub state_placed : IsState pitch intervals order (slice_set track net t) busy_new free_new opened_new (k + 1)
      state_placed = record {
        sized = length-set track net t ∙ s.sized;
        few = r.few;
        below = λ i u a taken on. elim (has_cases i u a taken on) [
          | inl old ↦ (let lt = s.below i u a old.0 old.1 in let le = r.grows in omega (arith, lt, le))
          | inr same ↦ (let e = same.2 in let lt = r.inside in omega (arith, e, lt))
        ];
        used = λ u lt. elim (r.used u lt) [
          | inl e ↦ (net, b, taken_now, subst (λ (v : ℕ). HasTrack intervals (slice_set track net t) net b v) (sym e) has_new)
          | inr old ↦ (let m = s.used u old in (m.0, m.1, taken_later m.0 m.2, has_kept m.0 u m.1 m.2 m.3))
        ];
        busy_below = λ f u in_new. elim (busy_cases f u in_new) [
          | inl new ↦ (let e = new.1 in let lt = r.inside in omega (arith, e, lt))
          | inr was ↦ (let lt = s.busy_below f u was in let le = r.grows in omega (arith, lt, le))
        ];
        free_below = λ u in_free. let lt = s.free_below u (r.free_only u in_free).0 in let le = r.grows in omega (arith, lt, le);
        somewhere = λ u lt. elim (r.somewhere u lt) [
          | inl e ↦ inr (b.right +ℤ pitch, subst (λ (v : ℕ). Contains busy_new (b.right +ℤ pitch, v)) (sym e) has)
          | inr (inl in_free) ↦ inl in_free
          | inr (inr in_busy) ↦ inr (in_busy.0, keeps (in_busy.0, u) in_busy.1)
        ];
        apart = λ f u in_new in_free. elim (busy_cases f u in_new) [
          | inl new ↦ (r.free_only u in_free).1 new.1
          | inr was ↦ s.apart f u was (r.free_only u in_free).0
        ];
        one = λ f g u first second. elim (busy_cases f u first) [
          | inl new ↦ elim (busy_cases g u second) [ inl other ↦ new.0 ∙ sym other.0 | inr was ↦ absurd (not_old g u new.1 was) ]
          | inr was ↦ elim (busy_cases g u second) [ inl other ↦ absurd (not_old f u other.1 was) | inr both ↦ s.one f g u was both ]
        ];
        busy_ends = placed_ends;
        busy_met = placed_met;
        free_ends = λ u i a in_free taken on p j y le at_p. elim (has_cases i u a taken on) [
          | inl old ↦ s.free_ends u i a (r.free_only u in_free).0 old.0 old.1 p j y (omega (arith, le)) at_p
          | inr same ↦ absurd ((r.free_only u in_free).1 same.2)
        ];
        on_free = placed_free;
        on_lowest = placed_lowest;
      }

-- where all nets have their tracks
pub all_assigned : (pitch : ℤ) (intervals : List Interval) (order : List (ℤ × ℕ)) (track : List ℕ) (busy : List (ℤ × ℕ)) (free : List ℕ) (opened k : ℕ) → IsTakingOrder intervals order → IsState pitch intervals order track busy free opened k → length order ≤ k → AreAssigned pitch intervals track opened
all_assigned pitch intervals order track busy free opened k o s all = record {
  lowest = record {
    each = s.sized;
    free = λ j t b on. s.on_free j t b (taken j b on.there) on;
    lowest = λ j t lower b on lt. s.on_lowest j t lower b (taken j b on.there) on lt;
  };
  count = record { below = below; least = least opened refl };
} where
  taken : (i : ℕ) (a : Interval) → slice_get intervals i ≡ Some a → IsTaken order k i
  taken i a at_i = let place = o.each i a at_i in record { p = place.0; left = a.left; before = let lt = slice_get_within order place.0 (a.left, i) place.1 in omega (arith, lt, all); at = place.1 }

  below : AreTracksBelow track opened
  below i t on =
      let none : Interval = record { left = pos 0; right = pos 0 } in
      let inside : i < length intervals = let lt = slice_get_within track i t on in let e = s.sized in omega (arith, lt, e) in
      let at_i = slice_get-get_or intervals i none inside in
      s.below i t _ (taken i _ at_i) (record { there = at_i; on = on })

  least : (m : ℕ) → opened ≡ m → (n : ℕ) → AreTracksBelow track n → m ≤ n
  least zero e n few = omega arith
  least (suc m) e n few = let u = s.used m (omega (arith, e)) in let lt = few u.0 m u.3.on in omega (arith, lt)
