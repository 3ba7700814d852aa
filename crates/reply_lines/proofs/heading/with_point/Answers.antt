use Rattle.std.proofs.Common.{arith}
use Rattle.std.proofs.lemmas.Int.{ints}
use Rattle.reply_lines.proofs.WordLaws.{pointed_line}
use Rattle.reply_lines.proofs.heading.with_point.Goals as goal

pub returns : goal.returns
returns c =
    let p = c.args.p in
    pointed_line c.args.number c.args.name.now _ _ _ _ p.x p.y _ _ c.in_ok-line.ensures c.in_ok-signed.ensures c.in_ok-signed-2.ensures c.in_ok-end.ensures (omega (arith, ints)) (omega (arith, ints))
