use Rattle.std.proofs.Common.{Ok, Err, ap}
use Rattle.std.proofs.lemmas.Result.{err_from_is_err_and}
use Rattle.rom_data.specs.Words.{AreWordsOf, IsRomFault}
use Rattle.reply_lines.specs.Statuses.{is_read_failure}
use Rattle.reply_lines.specs.declared.refusal.Refusal.TheVariants.{Rom}
use Rattle.command_steps.proofs.OutcomeLaws.{said_value, said_fault, read_then, read_ends}
use Rattle.command_steps.specs.File.{IsFile}
use Rattle.build_command.specs.RomDesign.{IsRomOf}
use Rattle.build_command.proofs.GoodLaws.{rom_good}
use Rattle.build_command.proofs.rom_design.rom_with.Goals as goal

pub returns-in_err-bytes-clause-read : goal.returns-in_err-bytes-clause-read
returns-in_err-bytes-clause-read g c =
    let p = err_from_is_err_and c.from_residual.result c.from_residual.ensures.1 in
    let before = g.S.Store.state c.args.store.now in
    let now = g.S.Store.state c.read_file.new.store in
    rw (p.1, p.2) (read_ends (λ files. IsFile files c.args.content.now) (λ files. IsRomOf c.args.design) c.in_err-bytes.field-0.0 before now c.in_err-bytes.ensures.read)

pub returns-in_err-words-clause-read : goal.returns-in_err-words-clause-read
returns-in_err-words-clause-read g c =
    let p = err_from_is_err_and c.from_residual-in_err-words.result c.from_residual-in_err-words.ensures.1 in
    let bytes = c.in_ok-bytes.bytes in
    let refusal = c.in_err-words.field-0.0 in
    let before = g.S.Store.state c.args.store.now in
    let now = g.S.Store.state c.read_file.new.store in
    let fault = rw c.as_slice.ensures at c.rom_words.ensures.fault in
    let told = said_fault (IsRomFault c.args.design.plan bytes) Rom c.rom_words.result refusal fault c.in_err-words.ensures.cases in
    rw (p.1, p.2) (read_then (λ files. IsFile files c.args.content.now) (IsRomOf c.args.design) bytes (Err refusal) before now c.in_ok-bytes.ensures.read (λ lasts. told) (ap is_read_failure told.2))

pub returns-clause-good : goal.returns-clause-good
returns-clause-good g c =
    let are : AreWordsOf c.args.design.plan c.as_slice.result.now c.in_ok-words.words.items =
    said_value (λ words. AreWordsOf c.args.design.plan c.as_slice.result.now words.items) Rom c.rom_words.result (Ok c.in_ok-words.words) c.rom_words.ensures.words c.in_ok-words.ensures.cases in
    rom_good c.args.design _ c.requires.design c.requires.suited c.requires.cells (rw c.from_vec.ensures are.stored)
