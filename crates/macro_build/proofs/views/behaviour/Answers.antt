use Rattle.port_lists.specs.Held.{held_of}
use Rattle.macro_build.proofs.AnswerLaws.{spells_held}
use Rattle.macro_build.proofs.views.behaviour.Goals as goal

pub returns-clause-memory : goal.returns-clause-memory
returns-clause-memory c =
    spells_held c.texts_are_memories.ensures c.rom_texts_are_memories.ensures c.args.plan.now (held_of c.args.contents) c.args.name.now c.in_ok-verilog_of.field-0.items c.requires.plan c.requires.held c.requires.name
    c.in_ok-verilog_of.ensures
