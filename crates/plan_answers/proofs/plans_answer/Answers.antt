use Rattle.plan_answers.proofs.PlanLaws.{plans_answer}
use Rattle.plan_answers.proofs.plans_answer.Goals as goal

pub returns : goal.returns
returns c = plans_answer
