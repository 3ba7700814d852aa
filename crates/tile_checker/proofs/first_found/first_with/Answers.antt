use Rattle.tile_checker.proofs.first_found.first_with.Goals as goal

pub returns-in-Ok-clause-first : goal.returns-in-Ok-clause-first
returns-in-Ok-clause-first c = rw c.in-Ok.is c.earlier.ensures
