use Rattle.box_pieces.specs.Edges.{half_round}
use Rattle.box_pieces.proofs.pieces.+add_pieces.Given as goal

abbrev pub decreases-add_pieces : goal.decreases-add_pieces
decreases-add_pieces l = half_round l.area
