use Rattle.std.proofs.Common.{◌++◌, List, ℕ, ap, ◌∙◌, arith, refl}
use Rattle.std.specs.Prelude.{codes}
use Rattle.std.proofs.lemmas.Int.{ints}
use Rattle.macro_views.specs.Lines.{text_of_lines}
use Rattle.macro_views.specs.Lef.{metal_name, blocked_lines, whole_box, before_supplies, behind_signals}
use Rattle.macro_views.proofs.TextLaws.{text_more, five_texts}
use Rattle.macro_views.proofs.LefLaws.{same_box, same_blocked, obstructions_are}
use Rattle.macro_views.proofs.lef.write_obstructions.Goals as goal

pub returns : goal.returns
returns c =
    let x = c.args.out.now.items in
    let v = c.args.view.now in
    let b0 = blocked_lines (metal_name v 0) (whole_box v) in
    let b1 = blocked_lines (metal_name v 1) (before_supplies v) in
    let b2 = blocked_lines (metal_name v 2) (behind_signals v) in
    let b3 = blocked_lines (metal_name v 3) (whole_box v) in
    let t0 = codes "  OBS\n" in
    let t1 = text_of_lines b0 in
    let t2 = text_of_lines b1 in
    let t3 = text_of_lines b2 in
    let t4 = text_of_lines b3 in
    text_more x ((((t0 ++ t1) ++ t2) ++ t3) ++ t4) (codes "  END\n")
    (five_texts x t0 t1 t2 t3 t4 c.in_ok-append.ensures
    (same_blocked _ (whole_box v) _ c.in_ok-write_blocked.ensures c.metal_name.ensures (same_box _ (whole_box v) refl refl (omega (arith, ints)) (omega (arith, ints))))
    (same_blocked _ (before_supplies v) _ c.in_ok-write_blocked-2.ensures c.metal_name-2.ensures (same_box _ (before_supplies v) refl refl (omega (arith, ints)) (omega (arith, ints))))
    (same_blocked _ (behind_signals v) _ c.in_ok-write_blocked-3.ensures c.metal_name-3.ensures (same_box _ (behind_signals v) (omega (arith, ints)) refl (omega (arith, ints)) (omega (arith, ints))))
    (same_blocked _ (whole_box v) _ c.in_ok-write_blocked-4.ensures c.metal_name-4.ensures (same_box _ (whole_box v) refl refl (omega (arith, ints)) (omega (arith, ints)))))
    c.in_ok-append-2.ensures
    ∙ ap (λ (l : List ℕ). x ++ l) (obstructions_are b0 b1 b2 b3)
