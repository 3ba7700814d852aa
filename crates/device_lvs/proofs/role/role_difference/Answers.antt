use Rattle.std.proofs.Common.{List, refl, sym, subst}
use Rattle.tech_rules.specs.declared.tech.Device.{Device}
use Rattle.cell_hierarchy.specs.Plain.{lists_of}
use Rattle.device_lvs.specs.CompareSteps.{cell_pair, AreComparedAs}
use Rattle.device_lvs.specs.EntrySteps.{HaveDevices}
use Rattle.device_lvs.specs.RoleSteps.{leaf_files}
use Rattle.device_lvs.proofs.RoleLaws.{have_devices, role_compared}
use Rattle.device_lvs.proofs.role.role_difference.Goals as goal

pub difference_in-requires : goal.difference_in-requires
difference_in-requires c =
    subst (λ (l : List Device). HaveDevices l c.in_ok-drawn.drawn.channels) (sym c.as_slice.ensures) (have_devices c.args.tech.now (lists_of c.in_ok-flat.flat) c.in_ok-drawn.drawn c.in_ok-drawn.ensures)

pub returns-clause-compared : goal.returns-clause-compared
returns-clause-compared c =
    let files = leaf_files c.args.tech.now c.args.lib.now c.args.deck.now in
    let entry = c.args.entry.now in
    let pair = cell_pair entry.role c.args.tech.now.devices c.in_ok-drawn.drawn c.in_ok-listed.listed.items in
    let compared : AreComparedAs pair c.in_ok-difference_in.field-0 =
    subst (λ (l : List Device). AreComparedAs (cell_pair entry.role l c.in_ok-drawn.drawn c.in_ok-listed.listed.items) c.in_ok-difference_in.field-0) c.as_slice.ensures c.in_ok-difference_in.ensures in
    role_compared files entry pair c.in_ok-difference_in.field-0
    (record { role = refl; devices = refl; lists = lists_of c.in_ok-flat.flat; flat = c.in_ok-flat.ensures.flat; drawn = c.in_ok-drawn.ensures; listed = c.in_ok-listed.ensures.listed })
    compared
