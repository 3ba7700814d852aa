use Rattle.port_lists.specs.Held.{held_of}
use Rattle.macro_build.proofs.AnswerLaws.{answers_from}
use Rattle.macro_build.proofs.views.netlist_answers.Goals as goal

pub returns : goal.returns
returns c =
    answers_from c.runs_exist.ensures c.runs_answer_numbers.ensures c.runs_obey.ensures c.roms_hold_words.ensures c.args._plan.now (held_of c.args._contents) c.requires.plan c.requires.held
