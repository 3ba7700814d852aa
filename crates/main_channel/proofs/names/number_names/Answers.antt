-- The name at the index is put in before those behind it.
use Rattle.std.proofs.Common.{◌-◌, ◌<◌, [], length, ◌∙◌, arith}
use Rattle.std.proofs.lemmas.List.{get_or_default}
use Rattle.spice_netlist.proofs.NameIndexLaws.{finds_more}
use Rattle.main_channel.proofs.names.number_names.Goals as goal

pub loop-index-preserved : goal.loop-index-preserved
loop-index-preserved c =
    let lt : c.loop-index.index - 1 < length c.args.names.now = omega (arith, c.loop-index.invariant.within) in
    record {
      within = omega arith;
      is = finds_more (λ key. key.now) c.args.names.now c.loop-index.index c.as_bytes.result c.loop-index.numbers.entries c.insert.new.self.entries c.loop-index-test.true c.loop-index.invariant.within
          (c.as_bytes.ensures ∙ c.index-names-index.is ∙ get_or_default c.args.names.now (c.loop-index.index - 1) _ [] lt) c.in_ok-insert.ensures.entries c.loop-index.invariant.is;
    }
