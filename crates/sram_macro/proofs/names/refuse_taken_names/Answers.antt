-- A name more.
use Rattle.std.proofs.Common.{◌≡◌, false, ap, sym, ◌∙◌}
use Rattle.sram_macro.specs.Names.{is_taken, first_taken}
use Rattle.sram_macro.proofs.NameLaws.{free_first}
use Rattle.sram_macro.proofs.names.refuse_taken_names.Goals as goal

pub loop-first-init : goal.loop-first-init
loop-first-init c = sym (ap (first_taken c.args.kit.now) (c.as_slice-rest.ensures.value ∙ c.in_ok-names.ensures))

pub loop-first-preserved : goal.loop-first-preserved
loop-first-preserved c =
    let free : is_taken c.args.kit.now c.in-Some.first.now ≡ false = ap (is_taken c.args.kit.now) (sym c.as_bytes.ensures) ∙ (sym c.is_taken.ensures ∙ c.if-is_taken.false) in
    c.loop-first.invariant ∙ free_first c.args.kit.now _ _ _ c.in-Some.ensures.cases.0 free
