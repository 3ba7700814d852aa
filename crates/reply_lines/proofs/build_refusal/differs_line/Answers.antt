use Rattle.reply_lines.proofs.build_refusal.differs_line.Goals as goal

pub returns-in-Unlabelled : goal.returns-in-Unlabelled
returns-in-Unlabelled c = rw c.in-Unlabelled.is c.pins_line.ensures
