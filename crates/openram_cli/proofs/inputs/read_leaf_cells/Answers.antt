use Rattle.std.proofs.Common.{◌≡◌, Ok, Err, refl}
use Rattle.std.specs.Prelude.{codes, ◌++◌}
use Rattle.std.proofs.lemmas.Result.{err_from_is_err_and}
use Rattle.command_steps.specs.Outcome.{WithoutRefusal}
use Rattle.command_steps.proofs.OutcomeLaws.{read_on, read_then, read_ends}
use Rattle.openram_cli.specs.Inputs.{IsDeckFile, IsLibraryFile, IsDeviceTechnology, AreCellsOver, AreCellsWith}
use Rattle.openram_cli.specs.declared.inputs.LeafCells.{LeafCells}
use Rattle.openram_cli.proofs.inputs.read_leaf_cells.Goals as goal

pub returns-in_err-tech-clause-read : goal.returns-in_err-tech-clause-read
returns-in_err-tech-clause-read g c =
    let p = err_from_is_err_and c.from_residual.result c.from_residual.ensures.1 in
    let name = c.args.name.now in
    let before = g.S.Store.state c.args.store.now in
    let now = g.S.Store.state c.read_device_technology.new.store in
    rw (p.1, p.2) (read_ends (λ files. IsDeviceTechnology files name) (λ files. AreCellsWith files name) c.in_err-tech.field-0.0 before now c.in_err-tech.ensures.read)

pub returns-in_err-lib-clause-read : goal.returns-in_err-lib-clause-read
returns-in_err-lib-clause-read g c =
    let p = err_from_is_err_and c.from_residual-in_err-lib.result c.from_residual-in_err-lib.ensures.1 in
    let name = c.args.name.now in
    let tech = c.in_ok-tech.tech in
    let refusal = c.in_err-lib.field-0.0 in
    let before = g.S.Store.state c.args.store.now in
    let mid = g.S.Store.state c.read_device_technology.new.store in
    let now = g.S.Store.state c.read_library_under.new.store in
    rw (p.1, p.2) (
    read_on (λ files. IsDeviceTechnology files name) (λ files. AreCellsWith files name) tech (Err refusal) before mid now c.in_ok-tech.ensures.read
    (read_ends (λ files. IsLibraryFile files (name ++ codes ".gds")) (λ files. AreCellsOver files name tech) refusal mid now c.in_err-lib.ensures.read)
    )

pub returns-in_err-deck-clause-read : goal.returns-in_err-deck-clause-read
returns-in_err-deck-clause-read g c =
    let p = err_from_is_err_and c.from_residual-in_err-deck.result c.from_residual-in_err-deck.ensures.1 in
    let name = c.args.name.now in
    let tech = c.in_ok-tech.tech in
    let lib = c.in_ok-lib.lib in
    let refusal = c.in_err-deck.field-0.0 in
    let before = g.S.Store.state c.args.store.now in
    let mid = g.S.Store.state c.read_device_technology.new.store in
    let late = g.S.Store.state c.read_library_under.new.store in
    let now = g.S.Store.state c.read_deck_under.new.store in
    rw (p.1, p.2) (
    read_on (λ files. IsDeviceTechnology files name) (λ files. AreCellsWith files name) tech (Err refusal) before mid now c.in_ok-tech.ensures.read (
    read_on (λ files. IsLibraryFile files (name ++ codes ".gds")) (λ files. AreCellsOver files name tech) lib (Err refusal) mid late now c.in_ok-lib.ensures.read
    (read_ends (λ files. IsDeckFile files (name ++ codes ".sp")) (λ files d. WithoutRefusal (λ (cells : LeafCells). cells ≡ record { tech = tech; lib = lib; deck = d })) refusal late now c.in_err-deck.ensures.read)
    )
    )

pub returns-clause-read : goal.returns-clause-read
returns-clause-read g c =
    let name = c.args.name.now in
    let tech = c.in_ok-tech.tech in
    let lib = c.in_ok-lib.lib in
    let deck = c.in_ok-deck.deck in
    let cells : LeafCells = record { tech = tech; lib = lib; deck = deck } in
    let before = g.S.Store.state c.args.store.now in
    let mid = g.S.Store.state c.read_device_technology.new.store in
    let late = g.S.Store.state c.read_library_under.new.store in
    let now = g.S.Store.state c.read_deck_under.new.store in
    read_on (λ files. IsDeviceTechnology files name) (λ files. AreCellsWith files name) tech (Ok cells) before mid now c.in_ok-tech.ensures.read (
    read_on (λ files. IsLibraryFile files (name ++ codes ".gds")) (λ files. AreCellsOver files name tech) lib (Ok cells) mid late now c.in_ok-lib.ensures.read
    (read_then (λ files. IsDeckFile files (name ++ codes ".sp")) (λ d. WithoutRefusal (λ (made : LeafCells). made ≡ record { tech = tech; lib = lib; deck = d })) deck (Ok cells) late now c.in_ok-deck.ensures.read refl refl)
    )
