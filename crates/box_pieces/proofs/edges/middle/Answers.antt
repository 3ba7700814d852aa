use Rattle.std.proofs.Common.{◌≡◌, ℤ, subst, sym, rules, w64, to_z, of_z}
use Rattle.std.specs.Prelude.{Contains}
use Rattle.box_pieces.proofs.EdgeLaws.{middle_among}
use Rattle.box_pieces.proofs.edges.middle.Goals as goal

pub returns : goal.returns
returns c =
    let place = c.select_nth_unstable-place.result.1.now in
    let among : Contains c.args.places.now place = middle_among c.args.places.now c.select_nth_unstable-place.result.0.now c.select_nth_unstable-place.result.2.now place c.select_nth_unstable-place.ensures.permutation in
    let read : to_z w64 (of_z w64 c.select_nth_unstable-place.result.1.now) ≡ c.select_nth_unstable-place.result.1.now = search rules in
    subst (λ (z : ℤ). Contains c.args.places.now z) (sym read) among
