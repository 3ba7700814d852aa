use Rattle.std.proofs.Common.{◌≡◌, Some, sym}
use Rattle.device_lvs.specs.Roles.{subckt_of}
use Rattle.device_lvs.proofs.RoleLaws.{plain_faults}
use Rattle.device_lvs.proofs.role.listed_of.Goals as goal

pub returns-in-Some-clause-fault : goal.returns-in-Some-clause-fault
returns-in-Some-clause-fault c =
    let there : subckt_of c.args.deck.now.subckts c.args.entry.now ≡ Some c.in-Some.subckt.now = sym (rw (c.as_slice.ensures, c.in_ok-name.ensures) at c.in-Some.ensures) in
    plain_faults c.args.deck.now.subckts c.args.entry.now c.in-Some.subckt.now c.plain_entries.result there c.plain_entries.ensures.fault
