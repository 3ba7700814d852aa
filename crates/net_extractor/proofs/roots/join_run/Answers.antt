use Rattle.std.proofs.Common.{◌⊎◌, inl, ℕ}
use Rattle.or_geom.specs.Gathering.{SomeHas}
use Rattle.tech_rules.specs.Touch.{IsCutTo}
use Rattle.net_extractor.specs.RunPairs.{IsLayerPairOf, IsOverPairOf, IsRunPair}
use Rattle.net_extractor.proofs.JoinLaws.{joins_as, joins_both}
use Rattle.net_extractor.proofs.PairLaws.{AreAll, all_added, touch_pair, pair_touch}
use Rattle.net_extractor.proofs.SearchLaws.{marked_joined}
use Rattle.net_extractor.proofs.roots.join_run.Goals as goal

pub join_over_layers-requires-clause-sets : goal.join_over_layers-requires-clause-sets
join_over_layers-requires-clause-sets c = marked_joined _ c.args.forest c.args.above.now c.join_on_layer.new.above c.args.marks.now c.join_on_layer.new.marks c.requires.sets c.in_ok-join_on_layer.ensures

pub returns : goal.returns
returns c =
    let connections = c.args.connections.now in
    let shapes = c.args.forest.shapes.now in
    let own = c.args.scratch.now.own.items in
    let layers = c.add_cut_to.new.out.items in
    let cuts : AreAll (IsCutTo connections c.args.run.layer) layers = all_added _ _ _ c.clear.ensures.items c.in_ok-add_cut_to.ensures in
    let on_layer : ℕ → ℕ → Type 0 = IsLayerPairOf connections shapes own in
    let over : ℕ → ℕ → Type 0 = λ a b. SomeHas (λ (layer : ℕ). IsOverPairOf shapes own layer a b) layers in
    let one = rw c.deref.ensures.value at c.in_ok-join_on_layer.ensures in
    let two = rw (c.deref-2.ensures.value, c.deref-3.ensures.value) at c.in_ok-join_over_layers.ensures in
    record {
      joins = joins_as (λ a b. on_layer a b ⊎ over a b) (IsRunPair connections shapes own) _ _
          (λ a b h. inl (touch_pair connections shapes c.args.run own c.requires.run layers a b cuts h))
          (λ a b h. inl (pair_touch connections shapes c.args.run own c.requires.run layers a b cuts h))
          (joins_both on_layer over _ _ _ one.joins two.joins);
      marked = two.marked;
    }
