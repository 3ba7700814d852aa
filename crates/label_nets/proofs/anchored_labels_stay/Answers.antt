use Rattle.label_nets.proofs.AnchorLaws.{anchored_labels_stay}
use Rattle.label_nets.proofs.anchored_labels_stay.Goals as goal

pub returns : goal.returns
returns c = anchored_labels_stay
