use Rattle.std.proofs.Common.{◌≡◌, ◌∙◌, List, ℕ, subst}
use Rattle.netlist.specs.declared.deck.Subckt.{Subckt}
use Rattle.spice_netlist.specs.Faults.{AreFlatRows, IsFlatFault}
use Rattle.port_lists.specs.Held.{held_of}
use Rattle.sram_macro.specs.Leaves.{leaf_names}
use Rattle.macro_build.specs.Built.{all_subckts}
use Rattle.sram_macro.proofs.MemoryLaws.{netlist_of}
use Rattle.macro_build.proofs.rows.rows_of.Goals as goal

pub returns-in-Ok : goal.returns-in-Ok
returns-in-Ok c =
    let kit = c.args.order.now.kit.now in
    let name = c.args.order.now.name.now in
    let rows = c.in-Ok.rows.pins in
    let leaves : c.deref.result.now ≡ leaf_names kit (held_of c.args.order.now.contents) = c.deref.ensures.value ∙ c.in_ok-leaves.ensures in
    subst (λ (l : List (List ℕ)). AreFlatRows (all_subckts kit c.args.made.now) name l rows) leaves
    (subst (λ (l : List Subckt). AreFlatRows l name c.deref.result.now rows) c.in_ok-deck.ensures.subckts c.in-Ok.ensures.rows)

pub unreachable-requires : goal.unreachable-requires
unreachable-requires c =
    let kit = c.args.order.now.kit.now in
    let name = c.args.order.now.name.now in
    let held = held_of c.args.order.now.contents in
    let fault = c.in-Err.fault in
    let leaves : c.deref.result.now ≡ leaf_names kit held = c.deref.ensures.value ∙ c.in_ok-leaves.ensures in
    let is : IsFlatFault (all_subckts kit c.args.made.now) name (leaf_names kit held) fault =
    subst (λ (l : List (List ℕ)). IsFlatFault (all_subckts kit c.args.made.now) name l fault) leaves
    (subst (λ (l : List Subckt). IsFlatFault l name c.deref.result.now fault) c.in_ok-deck.ensures.subckts c.in-Err.ensures.fault) in
    (netlist_of c.rows_equal_netlist.ensures kit c.args.order.now.plan.now held name c.args.made.now c.requires.plan c.requires.made).faults fault (λ e. c.in_default.not-Memory e) is
