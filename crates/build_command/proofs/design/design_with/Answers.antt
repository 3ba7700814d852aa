use Rattle.std.proofs.Common.{◌≡◌, ℕ, List, Ok, Err, refl, subst}
use Rattle.std.proofs.lemmas.Result.{err_from_is_err_and}
use Rattle.command_steps.proofs.OutcomeLaws.{read_ends, read_then}
use Rattle.command_steps.specs.Outcome.{WithoutRefusal}
use Rattle.command_steps.specs.Reading.{HasRead}
use Rattle.build_command.specs.declared.design.Design.{Design}
use Rattle.build_command.specs.Design.{IsKitUnder}
use Rattle.build_command.proofs.design.design_with.Goals as goal

pub returns-in_err-kit-clause-read : goal.returns-in_err-kit-clause-read
returns-in_err-kit-clause-read g c =
    let p = err_from_is_err_and c.from_residual.result c.from_residual.ensures.1 in
    let refusal = c.in_err-kit.field-0.0 in
    let before = g.S.Store.state c.args.store.now in
    let now = g.S.Store.state c.read_kit_under.new.store in
    let read = subst (λ (name : List ℕ). HasRead (λ files. IsKitUnder files name) (Err refusal) before now) c.file_text.ensures c.in_err-kit.ensures.read in
    rw (p.1, p.2)
    (read_ends (λ files. IsKitUnder files c.args.config.tech_name) (λ files kit. WithoutRefusal (λ (design : Design). design ≡ record { config = c.args.config; plan = c.args.plan; kit = kit })) refusal before now read)

pub returns-clause-read : goal.returns-clause-read
returns-clause-read g c =
    let kit = c.in_ok-kit.kit in
    let made : Design = record { config = c.args.config; plan = c.args.plan; kit = kit } in
    let before = g.S.Store.state c.args.store.now in
    let now = g.S.Store.state c.read_kit_under.new.store in
    let read = subst (λ (name : List ℕ). HasRead (λ files. IsKitUnder files name) (Ok kit) before now) c.file_text.ensures c.in_ok-kit.ensures.read in
    read_then (λ files. IsKitUnder files c.args.config.tech_name) (λ kit. WithoutRefusal (λ (design : Design). design ≡ record { config = c.args.config; plan = c.args.plan; kit = kit })) kit (Ok made) before now read refl refl
