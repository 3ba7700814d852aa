use Rattle.std.proofs.Common.{inl, arith}
use Rattle.net_extractor.specs.RunPairs.{IsListedPair, IsRunPair}
use Rattle.net_extractor.proofs.JoinLaws.{joins_as, joins_none}
use Rattle.net_extractor.proofs.PairLaws.{no_pair, listed_pair, pair_listed}
use Rattle.net_extractor.proofs.roots.join_from.Goals as goal

pub returns-then-forest-begin-clause-joins : goal.returns-then-forest-begin-clause-joins
returns-then-forest-begin-clause-joins c =
    let shapes = c.args.forest.shapes.now in
    let order = c.args.forest.places.now in
    let begin = c.args.begin in
    record {
      joins = joins_none (IsListedPair c.args.connections.now shapes order begin _) c.args.above.now c.requires.sets.falls (λ a b h. no_pair c.args.connections.now shapes order begin a b (omega (arith, c.if-forest-begin.true)) h);
      marked = c.requires.sets.marked;
    }

pub returns-clause-joins : goal.returns-clause-joins
returns-clause-joins c =
    let connections = c.args.connections.now in
    let shapes = c.args.forest.shapes.now in
    let order = c.args.forest.places.now in
    let run = c.in_ok-run.run' in
    let own = c.take_run.new.own.items in
    record {
      joins = joins_as (IsRunPair connections shapes own) (IsListedPair connections shapes order c.args.begin run.end) _ _
          (λ a b h. inl (listed_pair connections shapes order c.args.begin run own a b c.in_ok-run.ensures h))
          (λ a b h. inl (pair_listed connections shapes order c.args.begin run own a b c.in_ok-run.ensures h))
          c.in_ok-join_run.ensures.joins;
      marked = c.in_ok-join_run.ensures.marked;
    }
