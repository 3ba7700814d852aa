-- The subcircuits of the array, and four more.
use Rattle.std.proofs.Common.{List, [], ◌∷◌, ◌++◌, append_assoc, ap, ◌∙◌}
use Rattle.std.specs.Prelude.{codes}
use Rattle.tech_rules.specs.declared.tech.RoleName.{RoleName}
use Rattle.port_lists.specs.Cells.{cell_in}
use Rattle.port_lists.specs.Held.{held_of}
use Rattle.port_lists.proofs.SubcktLaws.{from_none}
use Rattle.sram_deck.specs.Deck.{made_subckt, array_ports, array_instances, pre_ports, pre_instances, data_ports, data_instances, bank_ports, bank_instances, logic_ports, logic_instances, top_ports, top_instances}
use Rattle.sram_plan.specs.PlanNumbers.{organization}
use Rattle.bitcell_array.specs.ArrayPart.{row_subckts, array_subckts}
use Rattle.sram_macro.specs.Macro.{macro_bits}
use Rattle.sram_macro.proofs.LibraryLaws.{three_added}
use Rattle.sram_macro.proofs.deck.macro_deck.Goals as goal

pub returns : goal.returns
returns c =
    let plan = organization c.args.plan.now in
    let n = c.args.name.now in
    let bits = macro_bits c.args.kit.now c.args.plan.now (held_of c.args.contents) in
    let cell = cell_in c.args.kit.now.tech.roles in
    let same = c.as_slice-roles.ensures in
    let rows = row_subckts plan cell bits n in
    let array = made_subckt (n ++ codes "_array") (array_ports plan) (array_instances plan bits n) in
    let pre = made_subckt (n ++ codes "_pre") (pre_ports plan) (pre_instances plan cell) in
    let data_ = made_subckt (n ++ codes "_data") (data_ports plan) (data_instances plan cell) in
    let bank = made_subckt (n ++ codes "_bank") (bank_ports plan) (bank_instances plan n) in
    let logic = made_subckt (n ++ codes "_logic") (logic_ports plan) (logic_instances plan cell) in
    let top = made_subckt n (top_ports plan) (top_instances plan n) in
    let parts = array_subckts plan cell bits n in
    let is_parts = from_none _ _ parts c.in_ok-add_subckts.ensures c.new-subckts.ensures in
    let is_data = c.in_ok-data_subckt.ensures ∙ ap (λ (rs : List RoleName). made_subckt (n ++ codes "_data") (data_ports plan) (data_instances plan (cell_in rs))) same in
    let three = three_added parts _ _ _ _ _ _ _ data_ bank logic is_parts c.in_ok-push.ensures.ok c.in_ok-push-2.ensures.ok c.in_ok-push-3.ensures.ok is_data c.in_ok-bank_subckt.ensures c.in_ok-logic_subckt.ensures in
    let four = c.in_ok-push-4.ensures.ok ∙ (λ i. three i ++ c.in_ok-macro_subckt.ensures i ∷ []) in
    let all = four ∙ (append_assoc parts (data_ ∷ bank ∷ logic ∷ []) (top ∷ []) ∙ append_assoc rows (array ∷ pre ∷ []) (data_ ∷ bank ∷ logic ∷ top ∷ [])) in
    λ i. record { subckts = all i; used = 0 }
