use Rattle.shape_bins.proofs.bins.Bins.rect_at.Goals as goal

pub returns : goal.returns
returns c = rw (← c.self.view_is) c.rect_at.ensures
