use Rattle.std.proofs.Common.{◌⊎◌, ℕ, ℤ, ◌≤ℤ◌, length}
use Rattle.std.specs.Prelude.{Contains}
use Rattle.channel_router.proofs.occupied.release.Given as goal

abbrev pub invariant-loop-track : goal.invariant-loop-track
invariant-loop-track l = record {
  still : (from : ℤ) (track : ℕ) → Contains l.busy.keys (from, track) → Contains l.fn.busy.keys (from, track);
  back : (from : ℤ) (track : ℕ) → Contains l.fn.busy.keys (from, track) → Contains l.busy.keys (from, track) ⊎ (Contains l.free.keys track × (from ≤ℤ l.left));
  kept : (track : ℕ) → Contains l.fn.free.keys track → Contains l.free.keys track;
  only : (track : ℕ) → Contains l.free.keys track → Contains l.fn.free.keys track ⊎ ((from : ℤ) × Contains l.fn.busy.keys (from, track) × (from ≤ℤ l.left));
}

abbrev pub decreases-loop-track : goal.decreases-loop-track
decreases-loop-track l = length l.busy.keys
