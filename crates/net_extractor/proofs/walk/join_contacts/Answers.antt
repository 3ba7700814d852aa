use Rattle.std.proofs.Common.{length, arith}
use Rattle.shape_bins.proofs.NodeLaws.{begin_rises}
use Rattle.net_extractor.specs.Marks.{IsSearched}
use Rattle.net_extractor.proofs.SearchLaws.{between_all, between_begins, between_more}
use Rattle.net_extractor.proofs.walk.join_contacts.Goals as goal

pub loop-at-init : goal.loop-at-init
loop-at-init c = record {
  joins = between_begins c.args.forest c.args.search c.requires.run c.nodes_of-range.result c.requires.sets.forest c.nodes_of-range.ensures c.args.above.now c.requires.sets.falls;
  marked = c.requires.sets.marked;
}

pub loop-at-preserved : goal.loop-at-preserved
loop-at-preserved c =
    let forest = c.args.forest in
    let s = c.in_ok-at.ensures in
    let further = s.further in
    record {
      joins = between_more (IsSearched forest c.args.search) forest.places.now 0 _ _ c.args.above.now c.loop-at.above c.step.new.above (omega arith)
          (begin_rises forest.shapes.now forest.places.now (length forest.shapes.now) forest.nodes.now c.loop-at.at c.in_ok-at.at c.requires.sets.forest.trees.each (omega (arith, further))) c.loop-at.invariant.joins s.joins;
      marked = s.marked;
    }

pub returns : goal.returns
returns c = record {
  joins = between_all c.args.forest c.args.search c.requires.run c.nodes_of-range.result c.requires.sets.forest c.nodes_of-range.ensures c.loop-at.at c.args.above.now c.loop-at.above c.loop-at-test.false c.loop-at.invariant.joins;
  marked = c.loop-at.invariant.marked;
}
