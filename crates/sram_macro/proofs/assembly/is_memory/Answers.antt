use Rattle.sram_macro.proofs.MemoryLaws.{macro_memory}
use Rattle.sram_macro.proofs.assembly.is_memory.Goals as goal

pub returns : goal.returns
returns c =
    macro_memory c.rows_equal_netlist.ensures c.runs_exist.ensures c.runs_answer_numbers.ensures c.runs_obey.ensures c.args._kit.now c.args._plan.now c.args._name.now c.args._made.now c.requires.plan c.requires.made
