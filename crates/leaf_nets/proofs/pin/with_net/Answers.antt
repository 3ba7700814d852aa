use Rattle.std.proofs.Common.{subst, arith}
use Rattle.leaf_nets.specs.Numbers.{IsNetNumberOf, IsPinBinding}
use Rattle.leaf_nets.proofs.LabelLaws.{last_alone, last_agrees, last_differs, still_wrong}
use Rattle.leaf_nets.proofs.pin.with_net.Goals as goal

pub returns-in-Unlabelled : goal.returns-in-Unlabelled
returns-in-Unlabelled c shapes nets labels pin label before of gives =
    last_alone shapes nets labels pin label c.in-Some.number (subst (IsPinBinding shapes nets labels pin) c.in-Unlabelled.is before) of (subst (IsNetNumberOf shapes nets label) c.in-Some.is gives)

pub returns-then-other-number : goal.returns-then-other-number
returns-then-other-number c shapes nets labels pin label before of gives =
    let same = c.if-other-number.true in
    last_agrees shapes nets labels pin label c.in-On.other c.in-Some.number (omega (arith, same)) (subst (IsPinBinding shapes nets labels pin) c.in-On.is before) of (subst (IsNetNumberOf shapes nets label) c.in-Some.is gives)

pub returns-else-other-number : goal.returns-else-other-number
returns-else-other-number c shapes nets labels pin label before of gives =
    let other = c.if-other-number.false in
    last_differs shapes nets labels pin label c.in-On.other c.in-Some.number (λ same. omega (arith, other, same)) (subst (IsPinBinding shapes nets labels pin) c.in-On.is before) of (subst (IsNetNumberOf shapes nets label) c.in-Some.is gives)

pub returns-in-Wrong : goal.returns-in-Wrong
returns-in-Wrong c shapes nets labels pin label before of gives = still_wrong shapes nets labels pin label (subst (IsPinBinding shapes nets labels pin) c.in-Wrong.is before)
