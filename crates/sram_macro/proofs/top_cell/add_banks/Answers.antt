-- A bank more.
use Rattle.std.proofs.Common.{◌≡◌, ◌≤◌, ◌∙◌, arith}
use Rattle.sram_plan.specs.PlanNumbers.{organization, numbers_of}
use Rattle.macro_layout.specs.Cells.{bank_at}
use Rattle.floorplan.specs.FloorplanNumbers.{floorplan_of}
use Rattle.port_lists.proofs.TabulateLaws.{grown_as, all_of}
use Rattle.port_lists.proofs.NumberLaws.{banks_are}
use Rattle.floorplan.proofs.PlaceLaws.{few_banks}
use Rattle.sram_macro.proofs.top_cell.add_banks.Goals as goal

pub loop-bank-preserved : goal.loop-bank-preserved
loop-bank-preserved c = grown_as _ _ _ _ c.loop-bank.bank (bank_at (organization c.args.plan.now) (floorplan_of c.args.floorplan.now) c.args.name.now) c.loop-bank.invariant c.in_ok-push.ensures.items c.in_ok-bank_instance.ensures

pub returns : goal.returns
returns c = all_of _ _ c.loop-bank.bank _ (bank_at (organization c.args.plan.now) (floorplan_of c.args.floorplan.now) c.args.name.now) c.loop-bank.invariant (let far : c.loop-bank.bank ≡ c.args.plan.now.banks = omega arith in far ∙ banks_are (numbers_of c.args.plan.now) c.requires.plan)

pub bank_instance-requires-clause-few : goal.bank_instance-requires-clause-few
bank_instance-requires-clause-few c = let few : c.args.plan.now.banks ≤ 4 = few_banks (numbers_of c.args.plan.now) c.requires.plan in omega (arith, few)
