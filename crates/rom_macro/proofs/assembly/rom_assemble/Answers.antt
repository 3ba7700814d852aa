-- A macro in which nothing is written, and which holds the words.
use Rattle.std.proofs.Common.{sym, subst}
use Rattle.sram_plan.specs.declared.numbers.Plan.{Plan}
use Rattle.port_lists.specs.Held.Held.{Fixed}
use Rattle.sram_macro.specs.Leaves.{IsHeld}
use Rattle.sram_macro.specs.Macro.{IsMacro}
use Rattle.rom_macro.proofs.WordLaws.{words_held}
use Rattle.rom_macro.proofs.assembly.rom_assemble.Goals as goal

pub assemble_with-requires-clause-contents : goal.assemble_with-requires-clause-contents
assemble_with-requires-clause-contents c =
    subst (λ (p : Plan). IsHeld c.args.kit.now p (Fixed c.args.words.now)) (sym c.read_only.ensures.plan)
    (record { fit = words_held c.args.plan.now c.args.words.now c.requires.plan c.requires.one_bank c.requires.words; cells = c.requires.cells })

pub returns-clause-ok : goal.returns-clause-ok
returns-clause-ok c = subst (λ (p : Plan). IsMacro c.args.kit.now p (Fixed c.args.words.now) c.args.name.now c.in_ok-made.made) c.read_only.ensures.plan c.in_ok-made.ensures.ok
