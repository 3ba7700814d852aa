-- A column more.
use Rattle.std.proofs.Common.{◌≡◌, [], ◌∙◌, arith}
use Rattle.cell_roles.specs.declared.role.Role.TheVariants.{Precharge}
use Rattle.sram_plan.specs.PlanNumbers.{numbers_of}
use Rattle.port_lists.proofs.TabulateLaws.{grown, all_of}
use Rattle.port_lists.proofs.NumberLaws.{columns_are}
use Rattle.bank_layout.proofs.edges.precharge_roles.Goals as goal

pub loop-preserved : goal.loop-preserved
loop-preserved c = grown [] _ _ c.loop.counter (λ k. Precharge) c.loop.invariant c.in_ok-push.ensures.items

pub returns : goal.returns
returns c = all_of [] _ c.loop.counter _ (λ k. Precharge) c.loop.invariant (let e : c.loop.counter ≡ c.args.plan.now.columns = omega arith in e ∙ columns_are (numbers_of c.args.plan.now) c.requires)
