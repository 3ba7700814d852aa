use Rattle.std.proofs.Common.{◌≡◌, ◌∙◌, List, ℕ, map, ap, subst}
use Rattle.netlist.specs.declared.deck.Subckt.{Subckt}
use Rattle.tech_rules.specs.declared.tech.RoleName.{RoleName}
use Rattle.cell_roles.specs.declared.role.Role.{Role}
use Rattle.cell_roles.specs.Roles.{all_roles}
use Rattle.spice_netlist.specs.Faults.{AreFlatRows, IsFlatFault}
use Rattle.port_lists.specs.Cells.{cell_in}
use Rattle.kit_check.specs.Makers.{subckts_with, role_cells}
use Rattle.kit_check.proofs.rows.rows_of.Goals as goal

pub returns-in-Ok : goal.returns-in-Ok
returns-in-Ok c =
    let kit = c.args.kit.now in
    let name = c.args.name.now in
    let rows = c.in-Ok.rows.pins in
    let base : c.deref.result.now ≡ map (cell_in c.as_slice.result.now) all_roles =
    c.deref.ensures.value ∙ (c.in_ok-leaves.ensures ∙ ap (λ (roles : List Role). map (cell_in c.as_slice.result.now) roles) c.all.ensures) in
    let leaves : c.deref.result.now ≡ role_cells kit = base ∙ ap (λ (names : List RoleName). map (cell_in names) all_roles) c.as_slice.ensures in
    subst (λ (l : List (List ℕ)). AreFlatRows (subckts_with kit c.args.made.now) name l rows) leaves
    (subst (λ (l : List Subckt). AreFlatRows l name c.deref.result.now rows) c.in_ok-deck.ensures.subckts c.in-Ok.ensures.rows)

pub unreachable-requires : goal.unreachable-requires
unreachable-requires c =
    let kit = c.args.kit.now in
    let name = c.args.name.now in
    let fault = c.in-Err.fault in
    let base : c.deref.result.now ≡ map (cell_in c.as_slice.result.now) all_roles =
    c.deref.ensures.value ∙ (c.in_ok-leaves.ensures ∙ ap (λ (roles : List Role). map (cell_in c.as_slice.result.now) roles) c.all.ensures) in
    let leaves : c.deref.result.now ≡ role_cells kit = base ∙ ap (λ (names : List RoleName). map (cell_in names) all_roles) c.as_slice.ensures in
    let is : IsFlatFault (subckts_with kit c.args.made.now) name (role_cells kit) fault =
    subst (λ (l : List (List ℕ)). IsFlatFault (subckts_with kit c.args.made.now) name l fault) leaves
    (subst (λ (l : List Subckt). IsFlatFault l name c.deref.result.now fault) c.in_ok-deck.ensures.subckts c.in-Err.ensures.fault) in
    c.requires fault (λ e. c.in_default.not-Memory e) is
