use Rattle.box_pieces.specs.Edges.{half_round}
use Rattle.box_pieces.proofs.merge.+add_merged.Given as goal

abbrev pub decreases-add_merged : goal.decreases-add_merged
decreases-add_merged l = half_round l.area
