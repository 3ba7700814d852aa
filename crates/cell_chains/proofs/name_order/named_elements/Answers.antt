use Rattle.std.proofs.lemmas.Option.{slice_get-get_or}
use Rattle.or_geom.proofs.ListLaws.{contained_at}
use Rattle.cell_chains.proofs.name_order.named_elements.Goals as goal

pub named_element-requires : goal.named_element-requires
named_element-requires c = c.requires _ (contained_at c.args.indices.now c.loop-index.index-index _ (slice_get-get_or c.args.indices.now c.loop-index.index-index 0 c.loop-index-test.true))
