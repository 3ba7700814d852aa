use Rattle.std.proofs.Common.{◌≡◌, true, false, arith}
use Rattle.std.proofs.lemmas.Grind.{common_steps}
use Rattle.std.specs.List.{list_all}
use Rattle.spice_text.specs.WritableTests.{is_writable}
use Rattle.spice_text.proofs.TestLaws.{refused_by, passed_by}
use Rattle.spice_text.proofs.writable.are_writable.Goals as goal

pub returns-then-not-branch : goal.returns-then-not-branch
returns-then-not-branch c =
    let off : list_all is_writable c.args.subckts.now ≡ false = grind (arith, common_steps, c.loop-subckt.invariant) in
    refused_by c.args.subckts.now off

pub returns : goal.returns
returns c =
    let each : list_all is_writable c.args.subckts.now ≡ true = grind (arith, common_steps, c.loop-subckt.invariant) in
    passed_by c.args.subckts.now c.in_ok-repeats.repeats each c.in_ok-repeats.ensures
