use Rattle.std.proofs.lemmas.Result.{err_from_is_err_and}
use Rattle.std.specs.Prelude.{codes, ◌++◌}
use Rattle.command_steps.specs.File.{IsTechnologyFile}
use Rattle.command_steps.proofs.OutcomeLaws.{read_then, read_ends}
use Rattle.openram_cli.specs.Inputs.{HasDevices}
use Rattle.openram_cli.proofs.inputs.read_device_technology.Goals as goal

pub returns-clause-read : goal.returns-clause-read
returns-clause-read g c =
    let before = g.S.Store.state c.args.store.now in
    let now = g.S.Store.state c.read_technology_under.new.store in
    read_then (λ files. IsTechnologyFile files (c.args.name.now ++ codes ".toml")) HasDevices c.in_ok-tech.tech c.with_devices.result before now c.in_ok-tech.ensures.read c.with_devices.ensures.devices c.with_devices.ensures.read

pub returns-in_err-tech-clause-read : goal.returns-in_err-tech-clause-read
returns-in_err-tech-clause-read g c =
    let p = err_from_is_err_and c.from_residual.result c.from_residual.ensures.1 in
    let before = g.S.Store.state c.args.store.now in
    let now = g.S.Store.state c.read_technology_under.new.store in
    rw (p.1, p.2) (read_ends (λ files. IsTechnologyFile files (c.args.name.now ++ codes ".toml")) (λ files. HasDevices) c.in_err-tech.field-0.0 before now c.in_err-tech.ensures.read)
