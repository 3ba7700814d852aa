-- By the laws of libraries.
use Rattle.std.proofs.Common.{refl}
use Rattle.sram_plan.specs.PlanNumbers.{organization}
use Rattle.floorplan.specs.LayoutOfKit.{layout_kit}
use Rattle.sram_macro.specs.Library.{macro_list, drawing_with}
use Rattle.port_lists.specs.Held.{held_of}
use Rattle.sram_macro.specs.Macro.{macro_bits, names_of_macro}
use Rattle.sram_macro.proofs.KitFacts.{small_kit, free_structures}
use Rattle.sram_macro.proofs.assembly.written_library.Goals as goal

pub returns-clause-writable : goal.returns-clause-writable
returns-clause-writable c =
    let plan = organization c.args.plan.now in
    let kit = layout_kit c.args.kit.now in
    let n = c.args.name.now in
    let held = held_of c.args.contents in
    let d = drawing_with (macro_bits c.args.kit.now c.args.plan.now held) c.args.frame.now.floorplan c.args.wires in
    c.macro_libraries_are_writable.ensures.writable c.args.kit.now.tech.layers (macro_list c.args.kit.now plan n d) c.in_ok-library.field-0 plan kit n d c.in_ok-library.ensures refl
    (free_structures c.args.kit.now (names_of_macro c.args.kit.now c.args.plan.now held n) c.requires.kit c.requires.free) c.requires.plan.plan (small_kit c.args.kit.now c.requires.kit) (c.output_names_are_short.ensures n c.requires.name) c.requires.drawing
