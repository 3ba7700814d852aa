use Rattle.shape_bins.proofs.bins.Bins.add_near.Goals as goal

pub returns : goal.returns
returns c = rw (← c.self.view_is) c.add_near.ensures
