use Rattle.shape_bins.proofs.bins.Bins.some_over.Goals as goal

pub returns : goal.returns
returns c = rw (← c.self.view_is) c.some_near.ensures
