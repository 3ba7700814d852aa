use Rattle.std.proofs.Common.{arith}
use Rattle.std.specs.Prelude.{codes}
use Rattle.std.proofs.lemmas.Int.{ints}
use Rattle.macro_views.specs.Lef.{corner_text}
use Rattle.macro_views.proofs.TextLaws.{five_texts}
use Rattle.macro_views.proofs.LefLaws.{same_corner}
use Rattle.macro_views.proofs.lef.append_box.Goals as goal

pub returns : goal.returns
returns c =
    let a = c.args.area in
    five_texts c.args.out.now.items (codes "RECT ") (corner_text a.x1 a.y1) (codes " ") (corner_text a.x2 a.y2) (codes " ;") c.in_ok-append.ensures
    (same_corner _ a.x1 a.y1 _ _ c.in_ok-append_corner.ensures (omega (arith, ints)) (omega (arith, ints))) c.in_ok-append-2.ensures
    (same_corner _ a.x2 a.y2 _ _ c.in_ok-append_corner-2.ensures (omega (arith, ints)) (omega (arith, ints))) c.in_ok-append-3.ensures
