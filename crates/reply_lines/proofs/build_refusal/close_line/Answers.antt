use Rattle.std.proofs.Common.{arith, codes}
use Rattle.std.proofs.lemmas.Int.{ints}
use Rattle.reply_lines.proofs.WordLaws.{numbered_pair}
use Rattle.reply_lines.proofs.build_refusal.close_line.Goals as goal

pub returns : goal.returns
returns c =
    let from = c.from.ensures in
    numbered_pair 71 c.args.side _ (codes "Close") _ _ _ _ _ c.args.first c.args.second _ _ c.in_ok-line.ensures c.in_ok-number.ensures c.in_ok-signed.ensures c.in_ok-signed-2.ensures c.in_ok-end.ensures
    (omega (arith, from)) (omega (arith, ints)) (omega (arith, ints))
