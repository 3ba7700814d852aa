use Rattle.std.proofs.Common.{◌++◌, List, ℕ, sym, ap, ◌∙◌, arith, ◌+ℤ◌}
use Rattle.std.specs.Prelude.{codes}
use Rattle.std.proofs.lemmas.Int.{ints}
use Rattle.macro_views.specs.Lines.{text_of_lines}
use Rattle.macro_views.specs.Lef.{supply_lines}
use Rattle.macro_views.proofs.TextLaws.{text_more, text_append}
use Rattle.macro_views.proofs.LefLaws.{same_supply}
use Rattle.macro_views.proofs.lef.write_supplies.Goals as goal

pub returns : goal.returns
returns c =
    let x = c.args.out.now.items in
    let v = c.args.view.now in
    let vdd = supply_lines v (codes "vdd") (codes "POWER") v.supply_x in
    let gnd = supply_lines v (codes "gnd") (codes "GROUND") (v.supply_x +ℤ v.pitch) in
    text_more x (text_of_lines vdd) (text_of_lines gnd) (same_supply _ v (codes "vdd") (codes "POWER") v.supply_x _ c.in_ok-write_supply.ensures (omega (arith, ints)))
    (same_supply _ v (codes "gnd") (codes "GROUND") (v.supply_x +ℤ v.pitch) _ c.in_ok-write_supply-2.ensures (omega (arith, ints)))
    ∙ ap (λ (l : List ℕ). x ++ l) (sym (text_append vdd gnd))
