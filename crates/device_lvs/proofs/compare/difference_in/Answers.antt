use Rattle.std.proofs.Common.{None, Some, subst}
use Rattle.device_lvs.specs.ChannelEntries.{IsNotSound, HasNoneOf}
use Rattle.device_lvs.specs.CompareSteps.{cell_pair, IsDifferenceOfNames}
use Rattle.device_lvs.proofs.CompareLaws.{names_differ, names_agree}
use Rattle.device_lvs.proofs.compare.difference_in.Goals as goal

pub returns-in-Some-2 : goal.returns-in-Some-2
returns-in-Some-2 c =
    let sound : HasNoneOf IsNotSound c.args.drawn.now.channels = subst (HasNoneOf IsNotSound) c.as_slice.ensures c.in_default.ensures in
    let found : IsDifferenceOfNames c.args.role.now c.args.drawn.now.names c.in_ok-difference.field-0 = rw c.as_slice-2.ensures at c.in_ok-difference.ensures in
    let differ : IsDifferenceOfNames c.args.role.now c.args.drawn.now.names (Some c.in-Some-2.difference) = subst (IsDifferenceOfNames c.args.role.now c.args.drawn.now.names) c.in-Some-2.is found in
    names_differ (cell_pair c.args.role.now c.args.devices.now c.args.drawn.now c.args.listed.items) c.in-Some-2.difference sound differ

pub difference_of_entries-requires-clause-apart : goal.difference_of_entries-requires-clause-apart
difference_of_entries-requires-clause-apart c =
    let sound : HasNoneOf IsNotSound c.args.drawn.now.channels = subst (HasNoneOf IsNotSound) c.as_slice.ensures c.in_default.ensures in
    let agree : IsDifferenceOfNames c.args.role.now c.args.drawn.now.names None = rw (c.in_default-2.is, c.as_slice-2.ensures) at c.in_ok-difference.ensures in
    names_agree (cell_pair c.args.role.now c.args.devices.now c.args.drawn.now c.args.listed.items) sound agree
