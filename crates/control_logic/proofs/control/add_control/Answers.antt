-- One gate behind another.
use Rattle.std.proofs.Common.{ℕ, List, [], ◌∷◌, ◌++◌, ap, ◌∙◌}
use Rattle.std.specs.Prelude.{codes}
use Rattle.cell_roles.specs.declared.role.Role.TheVariants.{Nand2}
use Rattle.sram_netlist.specs.Instances.{Clki, Csd, Wed, Csi, Wei, Wln, Wli, Wrn, Wri, Rdn, Rdi, Dlay, Senn}
use Rattle.sram_plan.specs.PlanNumbers.{organization}
use Rattle.row_decoder.specs.declared.gate.LogicGate.{LogicGate}
use Rattle.row_decoder.specs.Gates.{gate_of_role, logic_gate}
use Rattle.port_lists.specs.Cells.{cell_in}
use Rattle.control_logic.specs.ControlGates.{where_written}
use Rattle.control_logic.proofs.ControlLaws.{behind, gates_are}
use Rattle.control_logic.proofs.control.add_control.Goals as goal

pub returns : goal.returns
returns c =
    let cell = cell_in c.args.roles.now in
    let g = logic_gate (organization c.args.plan.now) cell in
    let n = c.args.plan.now.write_size in
    let senses = c.in_ok-add-7.ensures ∙ ap (λ (net : List ℕ). c.add-6.new.row.items ++ gate_of_role cell Nand2 (codes "xsen") (net ∷ codes "dly" ∷ codes "seb" ∷ []) ∷ []) c.sense_start-start.ensures in
    behind _ _ _ (g Clki ∷ []) _ c.in_ok-add.ensures
    (behind _ _ _ (g Csd ∷ []) _ c.in_ok-add-2.ensures
    (behind _ _ _ (where_written n (g Wed)) _ c.in_ok-add_of_write.ensures
    (behind _ _ _ (g Csi ∷ []) _ c.in_ok-add-3.ensures
    (behind _ _ _ (where_written n (g Wei)) _ c.in_ok-add_of_write-2.ensures
    (behind _ _ _ (g Wln ∷ []) _ c.in_ok-add-4.ensures
    (behind _ _ _ (g Wli ∷ []) _ c.in_ok-add-5.ensures
    (behind _ _ _ (where_written n (g Wrn)) _ c.in_ok-add_of_write-3.ensures
    (behind _ _ _ (where_written n (g Wri)) _ c.in_ok-add_of_write-4.ensures
    (behind _ _ _ (where_written n (g Rdn)) _ c.in_ok-add_of_write-5.ensures
    (behind _ _ _ (where_written n (g Rdi)) _ c.in_ok-add_of_write-6.ensures
    (behind _ _ _ (g Dlay ∷ []) _ c.in_ok-add-6.ensures
    (behind _ _ _ (g Senn ∷ []) _ senses c.in_ok-add-8.ensures))))))))))))
    ∙ ap (λ (gates : List LogicGate). c.args.row.now.items ++ gates) (gates_are g n)
