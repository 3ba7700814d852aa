use Rattle.std.proofs.lemmas.Result.{err_from_is_err_and}
use Rattle.command_steps.proofs.OutcomeLaws.{read_then, read_ends}
use Rattle.build_command.specs.Design.{IsDesign}
use Rattle.build_command.specs.Made.{IsOrderMade, order_of}
use Rattle.build_command.proofs.run.work_on.Goals as goal

pub returns-in_err-design-clause-read : goal.returns-in_err-design-clause-read
returns-in_err-design-clause-read g c =
    let p = err_from_is_err_and c.from_residual.result c.from_residual.ensures.1 in
    let before = g.S.Store.state c.args.store.now in
    let now = g.S.Store.state c.read_design.new.store in
    rw (p.1, p.2) (read_ends (λ files. IsDesign files c.args.config.now) (λ files design. IsOrderMade (order_of design)) c.in_err-design.field-0.0 before now c.in_err-design.ensures.read)

pub returns-clause-read : goal.returns-clause-read
returns-clause-read g c =
    let before = g.S.Store.state c.args.store.now in
    let now = g.S.Store.state c.read_design.new.store in
    read_then (λ files. IsDesign files c.args.config.now) (λ design. IsOrderMade (order_of design)) c.in_ok-design.design c.make_design.result before now c.in_ok-design.ensures.read c.make_design.ensures.made c.make_design.ensures.read
