use Rattle.std.proofs.Common.{arith}
use Rattle.std.specs.Prelude.{codes}
use Rattle.std.proofs.lemmas.Int.{ints}
use Rattle.macro_views.specs.Microns.{microns}
use Rattle.macro_views.proofs.TextLaws.{five_texts}
use Rattle.macro_views.proofs.LefLaws.{same_length}
use Rattle.macro_views.proofs.lef.write_size.Goals as goal

pub returns : goal.returns
returns c =
    let v = c.args.view.now in
    five_texts c.args.out.now.items (codes "  SIZE ") (microns v.width) (codes " BY ") (microns v.height) (codes " ;") c.in_ok-append.ensures
    (same_length _ v.width _ c.in_ok-append_microns.ensures (omega (arith, ints))) c.in_ok-append-2.ensures
    (same_length _ v.height _ c.in_ok-append_microns-2.ensures (omega (arith, ints))) c.in_ok-append-3.ensures
