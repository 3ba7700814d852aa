-- One track more is free.
use Rattle.std.proofs.Common.{◌≡◌, ◌⊎◌, inl, inr, ℕ, ℤ, ◌≤ℤ◌, List, w64, sym, ap, subst, arith}
use Rattle.std.specs.Prelude.{Contains}
use Rattle.std.specs.Ordering.{nat_cmp}
use Rattle.std.proofs.lemmas.Int.{ints, to_z-of_z}
use Rattle.or_geom.proofs.ListLaws.{contains_cases, contains_first, contains_later}
use Rattle.channel_router.specs.Occupied.{IsEnded, NoneEnds, Releases}
use Rattle.channel_router.proofs.OccupiedLaws.{insert_cases, insert_keeps, insert_has, nat_exact}
use Rattle.channel_router.proofs.occupied.release.Goals as goal

-- what the loop keeps
record IsReleasing (left : ℤ) (busy : List (ℤ × ℕ)) (free : List ℕ) (busy_now : List (ℤ × ℕ)) (free_now : List ℕ) : Type 0 where
  pub still : (from : ℤ) (track : ℕ) → Contains busy_now (from, track) → Contains busy (from, track)
  pub back : (from : ℤ) (track : ℕ) → Contains busy (from, track) → Contains busy_now (from, track) ⊎ (Contains free_now track × (from ≤ℤ left))
  pub kept : (track : ℕ) → Contains free track → Contains free_now track
  pub only : (track : ℕ) → Contains free_now track → Contains free track ⊎ ((from : ℤ) × Contains busy (from, track) × (from ≤ℤ left))

one_more : (left : ℤ) (busy : List (ℤ × ℕ)) (free : List ℕ) (busy_now busy_next : List (ℤ × ℕ)) (free_now free_next : List ℕ) (track : ℕ) → IsReleasing left busy free busy_now free_now → IsEnded left busy_now busy_next track
    → ((u : ℕ) → Contains free_next u → (u ≡ track) ⊎ Contains free_now u) → ((u : ℕ) → Contains free_now u → Contains free_next u) → Contains free_next track → IsReleasing left busy free busy_next free_next
one_more left busy free busy_now busy_next free_now free_next track r e cases keeps has = record {
  still = λ from u there. r.still from u (earlier from u there);
  back = λ from u there. elim (r.back from u there) [
    | inl now ↦ elim (contains_cases (e.from, track) busy_next (from, u) (subst (λ (l : List (ℤ × ℕ)). Contains l (from, u)) e.first now)) [
      | inl is ↦ inr (subst (λ (v : ℕ). Contains free_next v) (sym (ap (λ (z : ℤ × ℕ). z.1) is)) has, (let f : from ≡ e.from = ap (λ (z : ℤ × ℕ). z.0) is in let le = e.ends in omega (arith, ints, f, le)))
      | inr later ↦ inl later
    ]
    | inr was ↦ inr (keeps u was.0, was.1)
  ];
  kept = λ u there. keeps u (r.kept u there);
  only = λ u there. elim (cases u there) [
    | inl is ↦ inr (e.from, subst (λ (v : ℕ). Contains busy (e.from, v)) (sym is) (r.still e.from track (subst (λ (l : List (ℤ × ℕ)). Contains l (e.from, track)) (sym e.first) (contains_first (e.from, track) busy_next))), e.ends)
    | inr was ↦ r.only u was
  ];
} where
  earlier : (from : ℤ) (u : ℕ) → Contains busy_next (from, u) → Contains busy_now (from, u)
  earlier from u there = subst (λ (l : List (ℤ × ℕ)). Contains l (from, u)) (sym e.first) (contains_later (e.from, track) busy_next (from, u) there)

all_released : (left : ℤ) (busy : List (ℤ × ℕ)) (free : List ℕ) (busy_now : List (ℤ × ℕ)) (free_now : List ℕ) → IsReleasing left busy free busy_now free_now → NoneEnds left busy_now → Releases left busy free busy_now free_now
all_released left busy free busy_now free_now r none = record {
  stays = λ from track there. (r.still from track there, none from track there);
  kept = λ from track there later. elim (r.back from track there) [ inl now ↦ now | inr was ↦ absurd (let le = was.1 in omega (arith, ints, le, later)) ];
  freed = λ from track there ended. elim (r.back from track there) [ inl now ↦ absurd (let lt = none from track now in omega (arith, ints, lt, ended)) | inr was ↦ was.0 ];
  free_kept = r.kept;
  only = r.only;
}

pub loop-track-preserved : goal.loop-track-preserved
loop-track-preserved c =
    let i = rw (to_z-of_z w64 c.args.left c.ranges.left) at c.loop-track.invariant in
    let ended = rw (to_z-of_z w64 c.args.left c.ranges.left) at c.in-Some.ensures.ended in
    let before : IsReleasing c.args.left c.args.busy.now.keys c.args.free.now.keys c.loop-track.busy.keys c.loop-track.free.keys = record { still = i.still; back = i.back; kept = i.kept; only = i.only } in
    let keys = c.in_ok-insert.ensures.keys in
    let after = one_more c.args.left c.args.busy.now.keys c.args.free.now.keys c.loop-track.busy.keys c.pop_ended.new.busy.keys c.loop-track.free.keys c.insert.new.self.keys c.in-Some.track before ended
    (λ u there. insert_cases nat_cmp c.loop-track.free.keys c.in-Some.track u (subst (λ (l : List ℕ). Contains l u) keys there))
    (λ u there. subst (λ (l : List ℕ). Contains l u) (sym keys) (insert_keeps nat_cmp c.loop-track.free.keys c.in-Some.track u there))
    (subst (λ (l : List ℕ). Contains l c.in-Some.track) (sym keys) (insert_has nat_cmp nat_exact c.loop-track.free.keys c.in-Some.track)) in
    rw (to_z-of_z w64 c.args.left c.ranges.left) (record { still = after.still; back = after.back; kept = after.kept; only = after.only })

pub returns : goal.returns
returns c =
    let i = rw (to_z-of_z w64 c.args.left c.ranges.left) at c.loop-track.invariant in
    let none = rw (to_z-of_z w64 c.args.left c.ranges.left) at c.in_default.ensures.none in
    let before : IsReleasing c.args.left c.args.busy.now.keys c.args.free.now.keys c.loop-track.busy.keys c.loop-track.free.keys = record { still = i.still; back = i.back; kept = i.kept; only = i.only } in
    all_released c.args.left c.args.busy.now.keys c.args.free.now.keys c.pop_ended.new.busy.keys c.loop-track.free.keys
    (subst (λ (l : List (ℤ × ℕ)). IsReleasing c.args.left c.args.busy.now.keys c.args.free.now.keys l c.loop-track.free.keys) (sym c.in_default.ensures.same) before) none
