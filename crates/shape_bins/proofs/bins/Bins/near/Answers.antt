use Rattle.shape_bins.proofs.bins.Bins.near.Goals as goal

pub returns : goal.returns
returns c = rw (← c.self.view_is) c.least_near.ensures
