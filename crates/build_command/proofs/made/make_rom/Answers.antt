use Rattle.build_command.proofs.GoodLaws.{rom_fits}
use Rattle.build_command.proofs.made.make_rom.Goals as goal

pub make_ordered-requires-clause-held : goal.make_ordered-requires-clause-held
make_ordered-requires-clause-held g c = λ lifetimes within. rw (c.read_only-plan.ensures.plan, c.as_slice.ensures) (rom_fits c.args.rom c.requires.good)

pub returns-clause-made : goal.returns-clause-made
returns-clause-made g c =
    let slice = rw c.read_only-plan.ensures.plan at c.make_ordered.ensures.made in
    rw c.as_slice.ensures at slice
