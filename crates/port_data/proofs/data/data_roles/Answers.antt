use Rattle.std.proofs.Common.{◌≡◌, ℕ, List, [], ◌++◌, ap, ◌∙◌, append_assoc}
use Rattle.cell_roles.specs.declared.role.Role.{Role}
use Rattle.cell_roles.specs.declared.role.Role.TheVariants.{Sense, Write}
use Rattle.sram_netlist.specs.InstanceList.{tabulate}
use Rattle.sram_netlist.specs.Organization.{inputs_of, columns_of}
use Rattle.sram_plan.specs.PlanNumbers.{organization, numbers_of}
use Rattle.macro_layout.specs.Floorplan.{column_role}
use Rattle.port_lists.proofs.NumberLaws.{columns_are}
use Rattle.port_data.proofs.data.data_roles.Goals as goal

three_lists : (none one two all xs ys zs : List Role) → none ≡ [] → one ≡ none ++ xs → two ≡ one ++ ys → all ≡ two ++ zs → all ≡ xs ++ (ys ++ zs)
three_lists none one two all xs ys zs empty first second third =
    third ∙ (ap (λ (l : List Role). l ++ zs) (second ∙ ap (λ (l : List Role). l ++ ys) (first ∙ ap (λ (l : List Role). l ++ xs) empty)) ∙ append_assoc xs ys zs)

pub returns : goal.returns
returns c =
    let plan = organization c.args.plan.now in
    let ends = ap (λ (r : Role). tabulate c.args.plan.now.columns (λ i. r)) c.end_role.ensures ∙ ap (λ (n : ℕ). tabulate n (λ i. column_role plan.col_bits)) (columns_are (numbers_of c.args.plan.now) c.requires) in
    let written = c.in_ok-add_roles.ensures ∙ ap (λ (n : ℕ). c.new-roles.result.items ++ tabulate n (λ i. Write)) c.inputs_of.ensures in
    three_lists _ _ _ _ (tabulate (inputs_of plan) (λ i. Write)) (tabulate plan.word_size (λ i. Sense)) (tabulate (columns_of plan) (λ i. column_role plan.col_bits)) c.new-roles.ensures.items written c.in_ok-add_roles-2.ensures
    (c.in_ok-add_roles-3.ensures ∙ ap (λ (l : List Role). c.add_roles-2.new.roles.items ++ l) ends)
