use Rattle.std.proofs.Common.{arith}
use Rattle.std.proofs.lemmas.Int.{ints}
use Rattle.reply_lines.proofs.WordLaws.{five_words}
use Rattle.reply_lines.proofs.finding.add_shape.Goals as goal

pub returns : goal.returns
returns c =
    let r = c.args.shape.rect in
    five_words c.args.line.now _ _ _ _ _ _ _ r.x1 r.y1 r.x2 r.y2 _ _ _ _ c.in_ok-word.ensures c.in_ok-signed.ensures c.in_ok-signed-2.ensures c.in_ok-signed-3.ensures c.in_ok-signed-4.ensures
    c.name_of.ensures (omega (arith, ints)) (omega (arith, ints)) (omega (arith, ints)) (omega (arith, ints))
