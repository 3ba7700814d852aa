use Rattle.std.proofs.Common.{◌⊎◌, inl, length}
use Rattle.net_extractor.specs.RunPairs.{IsListedPair}
use Rattle.net_extractor.proofs.JoinLaws.{joins_as, joins_both, joins_none}
use Rattle.net_extractor.proofs.PairLaws.{no_listed, pair_either, pair_cases, listed_within, listed_beyond}
use Rattle.net_extractor.proofs.SearchLaws.{marked_joined}
use Rattle.net_extractor.proofs.roots.join_touching.Goals as goal

pub loop-at-init : goal.loop-at-init
loop-at-init c = record {
  joins = joins_none (IsListedPair c.args.connections.now c.args.forest.shapes.now c.args.forest.places.now 0 0) c.args.above.now c.requires.sets.falls (λ a b h. no_listed c.args.forest.places.now a h.0);
  marked = c.requires.sets.marked;
}

pub join_from-requires-clause-sets : goal.join_from-requires-clause-sets
join_from-requires-clause-sets c = marked_joined _ c.args.forest c.args.above.now c.loop-at.above c.args.marks.now c.loop-at.marks c.requires.sets c.loop-at.invariant

pub loop-at-preserved : goal.loop-at-preserved
loop-at-preserved c =
    let connections = c.args.connections.now in
    let shapes = c.args.forest.shapes.now in
    let order = c.args.forest.places.now in
    let at = c.loop-at.at in
    let end = c.in_ok-at.at in
    record {
      joins = joins_as (λ a b. IsListedPair connections shapes order 0 at a b ⊎ IsListedPair connections shapes order at end a b) (IsListedPair connections shapes order 0 end) _ _
          (λ a b h. inl (pair_either connections shapes order at end a b c.in_ok-at.ensures.beyond h))
          (λ a b h. inl (pair_cases connections shapes order at end a b h))
          (joins_both (IsListedPair connections shapes order 0 at) (IsListedPair connections shapes order at end) _ _ _ c.loop-at.invariant.joins c.in_ok-at.ensures.joins.joins);
      marked = c.in_ok-at.ensures.joins.marked;
    }

pub returns : goal.returns
returns c =
    let connections = c.args.connections.now in
    let shapes = c.args.forest.shapes.now in
    let order = c.args.forest.places.now in
    let end = c.loop-at.at in
    record {
      joins = joins_as (IsListedPair connections shapes order 0 end) (IsListedPair connections shapes order 0 (length order)) _ _
          (λ a b h. inl (listed_within order end a h.0, h.1))
          (λ a b h. inl (listed_beyond order end a c.loop-at-test.false h.0, h.1))
          c.loop-at.invariant.joins;
      marked = c.loop-at.invariant.marked;
    }
