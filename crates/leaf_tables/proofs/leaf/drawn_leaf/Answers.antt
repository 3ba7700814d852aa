use Rattle.cell_hierarchy.specs.Plain.{lists_of}
use Rattle.leaf_tables.specs.Steps.{source_in}
use Rattle.leaf_tables.proofs.StepLaws.{pins_fault}
use Rattle.leaf_tables.proofs.leaf.drawn_leaf.Goals as goal

pub returns-clause-fault : goal.returns-clause-fault
returns-clause-fault c =
    pins_fault (source_in c.args.tech.now c.args.wire.now c.args.lib.now c.args.deck.now) c.args.role c.args.cell.now (lists_of c.in-Ok.flat) c.in-Ok-size_of.size c.in-Err-pins_of.fault
    (record { flat = record { plays = c.requires.plays; flat = c.in-Ok.ensures.flat }; outline = c.in-Ok-size_of.ensures.size }) c.in_default.ensures.ports c.in-Err-pins_of.ensures.fault
