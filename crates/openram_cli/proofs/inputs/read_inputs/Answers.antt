use Rattle.std.proofs.Common.{◌≡◌, Err}
use Rattle.std.proofs.lemmas.Result.{err_from_is_err_and}
use Rattle.openram_cli.specs.CommandWords.{told_layout}
use Rattle.openram_cli.specs.Inputs.{IsDeckFile, IsLayout, AreCompared, AreLeafCells}
use Rattle.build_command.specs.Design.{IsKitUnder}
use Rattle.command_steps.specs.Outcome.{WithoutRefusal}
use Rattle.openram_cli.specs.declared.inputs.Inputs.{Inputs}
use Rattle.openram_cli.specs.declared.inputs.Inputs.TheVariants as inputs
use Rattle.command_steps.proofs.OutcomeLaws.{read_on, read_ends}
use Rattle.openram_cli.proofs.inputs.read_inputs.Goals as goal

pub returns-in_err-read_layout-in-Check-clause-read : goal.returns-in_err-read_layout-in-Check-clause-read
returns-in_err-read_layout-in-Check-clause-read g c =
    let p = err_from_is_err_and c.from_residual.result c.from_residual.ensures.1 in
    let before = g.S.Store.state c.args.store.now in
    let now = g.S.Store.state c.read_layout.new.store in
    rw (p.1, p.2, c.in-Check.is)
    (read_ends (λ files. IsLayout files (told_layout c.in-Check.words)) (λ files layout. WithoutRefusal (λ (read : Inputs). read ≡ inputs.Check layout)) c.in_err-read_layout-in-Check.field-0.0 before now c.in_err-read_layout-in-Check.ensures.read)

pub returns-in_err-read_layout-in-Nets-clause-read : goal.returns-in_err-read_layout-in-Nets-clause-read
returns-in_err-read_layout-in-Nets-clause-read g c =
    let from = c.from_residual-in_err-read_layout-in-Nets in
    let p = err_from_is_err_and from.result from.ensures.1 in
    let before = g.S.Store.state c.args.store.now in
    let now = g.S.Store.state c.read_layout-in-Nets.new.store in
    rw (p.1, p.2, c.in-Nets.is)
    (read_ends (λ files. IsLayout files (told_layout c.in-Nets.words)) (λ files layout. WithoutRefusal (λ (read : Inputs). read ≡ inputs.Nets layout)) c.in_err-read_layout-in-Nets.field-0.0 before now c.in_err-read_layout-in-Nets.ensures.read)

pub returns-in_err-layout-in-Compare-clause-read : goal.returns-in_err-layout-in-Compare-clause-read
returns-in_err-layout-in-Compare-clause-read g c =
    let from = c.from_residual-in_err-layout-in-Compare in
    let p = err_from_is_err_and from.result from.ensures.1 in
    let netlist = c.in-Compare.netlist.now in
    let before = g.S.Store.state c.args.store.now in
    let now = g.S.Store.state c.read_layout-in-Compare.new.store in
    rw (p.1, p.2, c.in-Compare.is)
    (read_ends (λ files. IsLayout files (told_layout c.in-Compare.layout)) (λ files. AreCompared files netlist) c.in_err-layout-in-Compare.field-0.0 before now c.in_err-layout-in-Compare.ensures.read)

pub returns-in_err-deck-in-Compare-clause-read : goal.returns-in_err-deck-in-Compare-clause-read
returns-in_err-deck-in-Compare-clause-read g c =
    let from = c.from_residual-in_err-deck-in-Compare in
    let p = err_from_is_err_and from.result from.ensures.1 in
    let netlist = c.in-Compare.netlist.now in
    let layout = c.in_ok-layout-in-Compare.layout in
    let refusal = c.in_err-deck-in-Compare.field-0.0 in
    let before = g.S.Store.state c.args.store.now in
    let mid = g.S.Store.state c.read_layout-in-Compare.new.store in
    let now = g.S.Store.state c.read_deck.new.store in
    rw (p.1, p.2, c.in-Compare.is) (
    read_on (λ files. IsLayout files (told_layout c.in-Compare.layout)) (λ files. AreCompared files netlist) layout (Err refusal) before mid now c.in_ok-layout-in-Compare.ensures.read
    (read_ends (λ files. IsDeckFile files netlist) (λ files d. WithoutRefusal (λ (read : Inputs). read ≡ inputs.Compare layout d)) refusal mid now c.in_err-deck-in-Compare.ensures.read)
    )

pub returns-in_err-read_leaf_cells-in-Devices-clause-read : goal.returns-in_err-read_leaf_cells-in-Devices-clause-read
returns-in_err-read_leaf_cells-in-Devices-clause-read g c =
    let from = c.from_residual-in_err-read_leaf_cells-in-Devices in
    let p = err_from_is_err_and from.result from.ensures.1 in
    let name = c.in-Devices.name.now in
    let before = g.S.Store.state c.args.store.now in
    let now = g.S.Store.state c.read_leaf_cells.new.store in
    rw (p.1, p.2, c.in-Devices.is)
    (read_ends (λ files. AreLeafCells files name) (λ files cells. WithoutRefusal (λ (read : Inputs). read ≡ inputs.Devices cells)) c.in_err-read_leaf_cells-in-Devices.field-0.0 before now c.in_err-read_leaf_cells-in-Devices.ensures.read)

pub returns-in_err-read_kit_under-in-Kit-clause-read : goal.returns-in_err-read_kit_under-in-Kit-clause-read
returns-in_err-read_kit_under-in-Kit-clause-read g c =
    let from = c.from_residual-in_err-read_kit_under-in-Kit in
    let p = err_from_is_err_and from.result from.ensures.1 in
    let name = c.in-Kit.name.now in
    let before = g.S.Store.state c.args.store.now in
    let now = g.S.Store.state c.read_kit_under.new.store in
    rw (p.1, p.2, c.in-Kit.is)
    (read_ends (λ files. IsKitUnder files name) (λ files made. WithoutRefusal (λ (read : Inputs). read ≡ inputs.Kit made)) c.in_err-read_kit_under-in-Kit.field-0.0 before now c.in_err-read_kit_under-in-Kit.ensures.read)
