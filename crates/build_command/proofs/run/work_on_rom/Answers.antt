use Rattle.std.proofs.lemmas.Result.{err_from_is_err_and}
use Rattle.command_steps.proofs.OutcomeLaws.{read_then, read_ends}
use Rattle.build_command.specs.RomDesign.{IsRomDesign}
use Rattle.build_command.specs.Made.{IsOrderMade, order_of_rom}
use Rattle.build_command.proofs.run.work_on_rom.Goals as goal

pub returns-in_err-memory-clause-read : goal.returns-in_err-memory-clause-read
returns-in_err-memory-clause-read g c =
    let p = err_from_is_err_and c.from_residual.result c.from_residual.ensures.1 in
    let before = g.S.Store.state c.args.store.now in
    let now = g.S.Store.state c.read_rom.new.store in
    rw (p.1, p.2) (read_ends (λ files. IsRomDesign files c.args.asked.config.now c.args.asked.content.now) (λ files memory. IsOrderMade (order_of_rom memory)) c.in_err-memory.field-0.0 before now c.in_err-memory.ensures.read)

pub returns-clause-read : goal.returns-clause-read
returns-clause-read g c =
    let before = g.S.Store.state c.args.store.now in
    let now = g.S.Store.state c.read_rom.new.store in
    read_then (λ files. IsRomDesign files c.args.asked.config.now c.args.asked.content.now) (λ memory. IsOrderMade (order_of_rom memory)) c.in_ok-memory.memory c.make_rom.result before now c.in_ok-memory.ensures.read c.make_rom.ensures.made c.make_rom.ensures.read
