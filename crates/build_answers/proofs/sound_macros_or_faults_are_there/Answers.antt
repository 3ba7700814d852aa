use Rattle.build_answers.proofs.SoundLaws.{sound_macros_or_faults_are_there}
use Rattle.build_answers.proofs.sound_macros_or_faults_are_there.Goals as goal

pub returns : goal.returns
returns c =
    sound_macros_or_faults_are_there c.macros_or_faults_are_there.ensures c.reports_are_there.ensures c.rows_equal_netlist.ensures
    c.nets_are_there.ensures c.alike_or_different.ensures
