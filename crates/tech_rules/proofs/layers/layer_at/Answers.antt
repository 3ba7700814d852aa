use Rattle.tech_rules.proofs.layers.layer_at.Goals as goal

pub returns : goal.returns
returns c = rw c.in_ok-name.ensures (rw c.as_bytes.ensures.value at c.index_at.ensures)
