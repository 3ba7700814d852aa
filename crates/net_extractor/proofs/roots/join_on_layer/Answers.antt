use Rattle.std.proofs.Common.{inl, refl}
use Rattle.net_extractor.specs.declared.contacts.Contact.TheVariants.{Joined}
use Rattle.net_extractor.specs.RunPairs.{IsContactPairOf, IsLayerPairOf}
use Rattle.net_extractor.proofs.JoinLaws.{joins_as, joins_none}
use Rattle.net_extractor.proofs.PairLaws.{layer_pair, pair_joined, conductor_of}
use Rattle.net_extractor.proofs.roots.join_on_layer.Goals as goal

pub returns-then-not-is_conductor : goal.returns-then-not-is_conductor
returns-then-not-is_conductor c =
    let shapes = c.args.forest.shapes.now in
    record {
      joins = joins_none (IsLayerPairOf c.args.connections.now shapes c.args.own.now) c.args.above.now c.requires.sets.falls
          (λ a b h. let yes = c.if-not-is_conductor.ensures.1 (conductor_of c.args.connections.now shapes c.args.run c.args.own.now c.requires.run a b h) in absurd cc);
      marked = c.requires.sets.marked;
    }

pub returns : goal.returns
returns c =
    let connections = c.args.connections.now in
    let shapes = c.args.forest.shapes.now in
    let run = c.args.run in
    let own = c.args.own.now in
    record {
      joins = joins_as (IsContactPairOf shapes own Joined run.layer) (IsLayerPairOf connections shapes own) _ _
          (λ a b h. inl (layer_pair connections shapes run own c.requires.run a b (c.if-not-is_conductor.ensures.0 refl) h))
          (λ a b h. inl (pair_joined connections shapes run own c.requires.run a b h))
          c.in_ok-join_contacts.ensures.joins;
      marked = c.in_ok-join_contacts.ensures.marked;
    }
