use Rattle.std.proofs.Common.{◌≤◌, arith}
use Rattle.net_extractor.proofs.JoinLaws.{first_below, second_below}
use Rattle.net_extractor.proofs.sets.join.Goals as goal

pub returns-then-first-second : goal.returns-then-first-second
returns-then-first-second c =
    let le : c.root-first.result ≤ c.root-second.result = omega (arith, c.if-first-second.true) in
    second_below c.args.a c.args.b c.root-first.result c.root-second.result c.args.above.now c.root-first.new.above c.root-second.new.above c.root-first.ensures c.root-second.ensures le

pub returns-else-first-second : goal.returns-else-first-second
returns-else-first-second c =
    first_below c.args.a c.args.b c.root-first.result c.root-second.result c.args.above.now c.root-first.new.above c.root-second.new.above c.root-first.ensures c.root-second.ensures c.if-first-second.false
