use Rattle.std.proofs.Common.{◌≡◌, subst, sym, arith}
use Rattle.std.proofs.lemmas.Grind.{common_steps}
use Rattle.spice_text.specs.WrittenText.{deck_text}
use Rattle.spice_text.specs.ReadBack.{IsReadAs}
use Rattle.spice_text.proofs.WrittenBytes.{written_is_read}
use Rattle.spice_text.proofs.write.write_spice.Goals as goal

pub returns-clause-read : goal.returns-clause-read
returns-clause-read c =
    let same : c.loop-subckt.writer.text.items ≡ deck_text c.args.subckts.now = grind (arith, common_steps, c.loop-subckt.invariant.text) in
    subst (IsReadAs c.args.subckts.now) (sym same) (written_is_read c.args.subckts.now (record { each = c.requires.each; differ = c.requires.differ }))
