-- As many pitches before the rows as there are choices left.
use Rattle.std.proofs.Common.{◌-◌, ◌*◌, ◌+◌, ℤ, pos, ◌-ℤ◌, to_z, of_z, w64, ap, ◌∙◌, arith}
use Rattle.std.proofs.lemmas.Int.{ints}
use Rattle.wire_drawing.specs.Drawing.{pitch}
use Rattle.port_data.proofs.FormulaLaws.{few_pitches, distance_read, exit_made}
use Rattle.port_data.proofs.exits.exit_at.Goals as goal

pub overflow_mul-distance : goal.overflow_mul-distance
overflow_mul-distance c = let few = few_pitches (c.args.choices - c.args.choice) c.pitch.result (let most = c.requires.choices in omega (arith, most)) c.pitch.ensures.few in omega (arith, few)

pub overflow_add-distance : goal.overflow_add-distance
overflow_add-distance c =
    let few = few_pitches (c.args.choices - c.args.choice) c.pitch.result (let most = c.requires.choices in omega (arith, most)) c.pitch.ensures.few in
    let less = c.requires.drive in
    omega (arith, few, less)

pub overflow_sub-result : goal.overflow_sub-result
overflow_sub-result c =
    let few = few_pitches (c.args.choices - c.args.choice) c.pitch.result (let most = c.requires.choices in omega (arith, most)) c.pitch.ensures.few in
    let less = c.requires.drive in
    let read = distance_read c.from.result ((c.args.choices - c.args.choice) * c.pitch.result + c.args.drive) c.from.ensures (omega (arith, few, less)) in
    omega (arith, ints, read, few, less)

pub returns : goal.returns
returns c =
    let few = few_pitches (c.args.choices - c.args.choice) c.pitch.result (let most = c.requires.choices in omega (arith, most)) c.pitch.ensures.few in
    let less = c.requires.drive in
    let read = distance_read c.from.result ((c.args.choices - c.args.choice) * c.pitch.result + c.args.drive) c.from.ensures (omega (arith, few, less)) in
    let made = ap (λ (z : ℤ). to_z w64 (of_z w64 (pos 0 -ℤ z))) read ∙ exit_made c.args.choices c.args.choice c.pitch.result c.args.drive (pitch c.args.wire.now) c.requires.choices c.requires.choice c.pitch.ensures.few c.requires.drive c.pitch.ensures.value in
    λ i. record { x = made i; net = c.args.choice }
