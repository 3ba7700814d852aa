-- A routed channel has no more tracks than nets.
use Rattle.std.proofs.Common.{suc, ◌≤◌, ℤ, Bool, true, false, cond, List, [], ◌∷◌, length, arith}
use Rattle.tech_rules.specs.declared.tech.Wire.{Wire}
use Rattle.wire_drawing.specs.Drawing.{pitch}
use Rattle.channel_router.specs.declared.channel.Channel.{Channel}
use Rattle.channel_router.specs.declared.channel.Interval.{Interval}
use Rattle.channel_router.specs.declared.channel.Routed.{Routed}
use Rattle.channel_router.specs.Density.{is_over, number_over, IsDensity}
use Rattle.channel_router.specs.Intervals.{AreIntervals}
use Rattle.channel_router.specs.Routed.{IsRouted}

pub few_over : (p x : ℤ) (intervals : List Interval) → number_over p x intervals ≤ length intervals
few_over p x [] = omega arith
few_over p x (interval ∷ rest) = by (is_over p x interval) (few_over p x rest)
  where
    by : (b : Bool) → number_over p x rest ≤ length rest → cond b (suc (number_over p x rest)) (number_over p x rest) ≤ suc (length rest)
    by true le = omega (arith, le)
    by false le = omega (arith, le)

pub few_tracks : (ch : Channel) (wire : Wire) (intervals : List Interval) (routed : Routed) → ch.nets ≤ 1024 → IsRouted ch wire intervals routed → ((list : List Interval) → AreIntervals ch list → IsDensity (pitch wire) list routed.tracks) → routed.tracks ≤ 1024
few_tracks ch wire intervals routed few is dense =
    let density = dense intervals is.nets in
    let over = few_over (pitch wire) density.x intervals in
    let reached = density.reached in
    let each = is.nets.each in
    omega (arith, few, over, reached, each)
