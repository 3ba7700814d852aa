use Rattle.std.proofs.Common.{ℕ, List, refl}
use Rattle.std.specs.Prelude.{codes, ◌++◌}
use Rattle.std.proofs.lemmas.Result.{err_from_is_err_and}
use Rattle.gds_library.specs.Grammar.{Spells}
use Rattle.leaf_tables.specs.Faults.{IsKitFault}
use Rattle.leaf_tables.specs.Kits.{IsKitOf}
use Rattle.reply_lines.specs.declared.refusal.Refusal.TheVariants.{Kit}
use Rattle.command_steps.proofs.OutcomeLaws.{read_said, read_ends}
use Rattle.command_steps.specs.File.{IsFile}
use Rattle.build_command.specs.Design.{IsKitOfLibrary}
use Rattle.build_command.proofs.design.read_kit_over.Goals as goal

pub returns-in_err-text-clause-read : goal.returns-in_err-text-clause-read
returns-in_err-text-clause-read g c =
    let p = err_from_is_err_and c.from_residual.result c.from_residual.ensures.1 in
    let before = g.S.Store.state c.args.store.now in
    let now = g.S.Store.state c.read_under.new.store in
    rw (p.1, p.2) (read_ends (λ files. IsFile files (c.args.name.now ++ codes ".sp")) (λ files. IsKitOfLibrary c.args.tech c.args.lib) c.in_err-text.field-0.0 before now c.in_err-text.ensures.read)

pub returns-clause-read : goal.returns-clause-read
returns-clause-read g c =
    let before = g.S.Store.state c.args.store.now in
    let now = g.S.Store.state c.read_under.new.store in
    read_said (λ files. IsFile files (c.args.name.now ++ codes ".sp")) (λ sp kit. (gds : List ℕ) → Spells gds c.args.lib → IsKitOf c.args.tech gds sp kit)
    (λ sp fault. (gds : List ℕ) → Spells gds c.args.lib → IsKitFault c.args.tech gds sp fault) Kit c.in_ok-text.text c.kit_of.result c.map_err.result before now (λ fault. refl)
    c.in_ok-text.ensures.read c.kit_of.ensures.kit c.kit_of.ensures.fault c.map_err.ensures.cases
