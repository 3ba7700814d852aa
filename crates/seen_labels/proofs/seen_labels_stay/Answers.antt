use Rattle.seen_labels.proofs.SeenLabelLaws.{seen_labels_stay}
use Rattle.seen_labels.proofs.seen_labels_stay.Goals as goal

pub returns : goal.returns
returns c = seen_labels_stay
