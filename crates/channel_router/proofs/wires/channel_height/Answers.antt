-- A space and so many pitches.
use Rattle.std.proofs.Common.{◌≡◌, ℕ, ℤ, pos, ◌<◌, ◌+ℤ◌, ◌*ℤ◌, w64, to_z, of_z, subst, sym, ap, ◌∙◌, arith}
use Rattle.std.proofs.lemmas.Int.{ints}
use Rattle.tech_rules.specs.declared.tech.Wire.{Wire}
use Rattle.tech_rules.specs.Facts.{AreSizes}
use Rattle.channel_router.specs.Wires.{IsChannelHeight, channel_height}
use Rattle.channel_router.proofs.HeightLaws.{product_bound, height_kept}
use Rattle.channel_router.proofs.wires.channel_height.Goals as goal

height_bound : (wire : Wire) (t : ℕ) → AreSizes wire → t < 4294967296 → IsChannelHeight (channel_height wire t)
height_bound wire t sizes lt =
    let w = sizes.width in
    let s = sizes.space in
    let m = product_bound t (wire.width +ℤ wire.space) lt (omega (arith, ints, w.from, s.from)) (omega (arith, ints, w.to, s.to)) in
    let low = m.0 in
    let high = m.1 in
    record { above = omega (arith, ints, low, s.from); below = omega (arith, ints, high, s.to) }

computed : (wire : Wire) (t : ℕ) (n : ℤ) → AreSizes wire → t < 4294967296 → n ≡ pos t
    → to_z w64 (of_z w64 (to_z w64 (of_z w64 wire.space) +ℤ to_z w64 (of_z w64 (to_z w64 (of_z w64 n) *ℤ to_z w64 (of_z w64 (to_z w64 (of_z w64 wire.width) +ℤ to_z w64 (of_z w64 wire.space))))))) ≡ channel_height wire t
computed wire t n sizes lt is =
    let w = sizes.width in
    let s = sizes.space in
    let m = product_bound t (wire.width +ℤ wire.space) lt (omega (arith, ints, w.from, s.from)) (omega (arith, ints, w.to, s.to)) in
    let low = m.0 in
    let high = m.1 in
    let e : n *ℤ (wire.width +ℤ wire.space) ≡ pos t *ℤ (wire.width +ℤ wire.space) = ap (λ (z : ℤ). z *ℤ (wire.width +ℤ wire.space)) is in
    height_kept wire.width wire.space n (omega (arith, ints, w.from, w.to)) (omega (arith, ints, s.from, s.to)) (omega (arith, ints, is, lt)) (omega (arith, ints, w.from, w.to, s.from, s.to)) (omega (arith, ints, low, high, e)) (omega (arith, ints, low, high, e, s.from, s.to))
    ∙ ap (λ (z : ℤ). wire.space +ℤ (z *ℤ (wire.width +ℤ wire.space))) is

pub returns-clause-value : goal.returns-clause-value
returns-clause-value c = computed c.args.wire.now c.args.tracks c.from.result c.requires (omega (arith, c.ranges.tracks)) (omega (arith, ints, c.from.ensures))

pub returns-clause-room : goal.returns-clause-room
returns-clause-room c =
    subst IsChannelHeight (sym (computed c.args.wire.now c.args.tracks c.from.result c.requires (omega (arith, c.ranges.tracks)) (omega (arith, ints, c.from.ensures)))) (height_bound c.args.wire.now c.args.tracks c.requires (omega (arith, c.ranges.tracks)))
