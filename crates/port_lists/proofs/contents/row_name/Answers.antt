-- The row's number stands behind the letters.
use Rattle.std.proofs.Common.{List, ℕ, [], ◌++◌, ap, sym, ◌∙◌, append_assoc}
use Rattle.std.proofs.lemmas.List.{append-nil}
use Rattle.std.specs.Prelude.{codes}
use Rattle.std.specs.Fmt.{decimal}
use Rattle.sram_netlist.specs.BitCells.{row_name}
use Rattle.sram_plan.specs.PlanNumbers.{organization}
use Rattle.port_lists.specs.declared.contents.Contents.{Contents}
use Rattle.port_lists.specs.Contents.{bit_cells}
use Rattle.port_lists.proofs.contents.row_name.Goals as goal

pub returns-in_ok-part_name-in-Fixed : goal.returns-in_ok-part_name-in-Fixed
returns-in_ok-part_name-in-Fixed c roles =
    c.in_ok-part_name-in-Fixed.ensures ∙ ap (λ (l : List ℕ). c.args.name.now ++ l) (c.as_bytes.ensures.value ∙ c.in_ok-part-in-Fixed.ensures.ok)
    ∙ ap (λ (l : List ℕ). c.args.name.now ++ (codes "_row" ++ l)) (sym (append-nil (decimal c.args.row)))
    ∙ sym (append_assoc c.args.name.now (codes "_row") (decimal c.args.row ++ []))
    ∙ sym (ap (λ (x : Contents). row_name (bit_cells roles (organization c.args.plan.now) x) c.args.name.now c.args.row) c.in-Fixed.is)
