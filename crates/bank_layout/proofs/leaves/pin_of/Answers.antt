-- The pin lies in its cell.
use Rattle.std.proofs.Common.{◌≡◌, List, Some, length, refl, ap, subst, arith}
use Rattle.std.specs.Prelude.{slice_get}
use Rattle.std.proofs.lemmas.Option.{slice_get_read}
use Rattle.bank_layout.proofs.PinLaws.{inside_leaf, in_cell}
use Rattle.bank_layout.proofs.leaves.pin_of.Goals as goal

pub returns-clause-inside : goal.returns-clause-inside
returns-clause-inside c =
    let pins = c.leaf_of.ensures.pins in
    let place = c.requires.place in
    let sized = ap length c.as_slice.ensures in
    let at = subst (λ (l : List _). slice_get l c.args.place ≡ Some c.index-as_slice-place.result) c.as_slice.ensures (slice_get_read c.as_slice.result.now (length c.as_slice.result.now) c.args.place c.index-as_slice-place.result refl (omega (arith, sized, pins, place)) c.index-as_slice-place.is) in
    in_cell c.leaf_of.result.now _ (inside_leaf c.args.kit.now c.args.role c.leaf_of.result.now c.args.place c.index-as_slice-place.result c.requires.kit c.leaf_of.ensures.is at)
