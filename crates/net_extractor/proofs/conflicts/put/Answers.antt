use Rattle.net_extractor.proofs.conflicts.put.Goals as goal

pub returns : goal.returns
returns c = record { layouts = c.in_ok-insert.ensures.updates.0; rows = c.in_ok-insert-2.ensures.updates.0 }
