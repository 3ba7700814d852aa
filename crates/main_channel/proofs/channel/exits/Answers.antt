-- An exit more.
use Rattle.std.proofs.Common.{ap, ◌∙◌, arith}
use Rattle.std.proofs.lemmas.Int.{ints}
use Rattle.sram_netlist.specs.InstanceList.{tabulate}
use Rattle.main_channel.specs.Formula.{main_exit}
use Rattle.main_channel.proofs.PinLaws.{pushed_main}
use Rattle.main_channel.proofs.StepLaws.{exit_more}
use Rattle.main_channel.proofs.channel.exits.Goals as goal

pub loop-net-preserved : goal.loop-net-preserved
loop-net-preserved c = record {
  is = exit_more _ _ _ c.loop-net.net c.loop-net.invariant.is c.in_ok-push.ensures.items (omega (arith, ints));
  main = λ nets fits.
      let less = c.loop-net-test.true in
      pushed_main nets _ _ _ (c.loop-net.invariant.main nets fits) c.in_ok-push.ensures.items (record { of_net = omega (arith, fits, less); at = record { above = omega (arith, ints); below = omega (arith, ints) } });
}

pub returns-clause-is : goal.returns-clause-is
returns-clause-is c =
    let most = c.loop-net-test.false in
    let least = c.loop-net.auto.net-end in
    c.from_vec.ensures ∙ (c.loop-net.invariant.is ∙ ap (λ n. tabulate n main_exit) (omega (arith, most, least)))
