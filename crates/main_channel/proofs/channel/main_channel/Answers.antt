-- The sides of the channel.
use Rattle.std.proofs.Common.{◌≡◌, ℕ, to_z, of_z, w64, List, length, ap, sym, subst, ◌∙◌, arith}
use Rattle.std.proofs.lemmas.Int.{ints}
use Rattle.cell_roles.specs.declared.role.Role.TheVariants.{Inv}
use Rattle.channel_router.specs.declared.channel.Channel.{Channel}
use Rattle.spice_netlist.specs.Names.{index_of}
use Rattle.sram_netlist.specs.InstanceList.{tabulate, logic_cells}
use Rattle.sram_plan.specs.PlanNumbers.{numbers_of, organization}
use Rattle.port_lists.specs.Cells.{cell_in}
use Rattle.port_lists.proofs.NumberLaws.{banks_are}
use Rattle.macro_layout.specs.Channels.{IsMainChannel}
use Rattle.macro_layout.specs.Pins.{port_nets, main_nets}
use Rattle.floorplan.specs.LayoutOfKit.{layout_kit}
use Rattle.floorplan.specs.FloorplanNumbers.{floorplan_of}
use Rattle.main_channel.specs.Formula.{main_number, main_bottom, main_exit}
use Rattle.main_channel.specs.Names.{channel_names}
use Rattle.main_channel.specs.Numbers.{found_number}
use Rattle.main_channel.proofs.LookLaws.{channel_named}
use Rattle.main_channel.proofs.FormulaLaws.{top_formula, bottom_formula, same_channel}
use Rattle.main_channel.proofs.StatedLaws.{has_exit, exits_are, main_stated, main_outputs}
use Rattle.main_channel.proofs.PinLaws.{in_leaf_read}
use Rattle.main_channel.proofs.CountLaws.{few_cells, few_ports}
use Rattle.main_channel.proofs.RowLaws.{are_gates, fit_roles, gates_sized, names_sized, ports_counted, nets_counted}
use Rattle.main_channel.proofs.ChannelLaws.{sides_are, outputs_there, is_channel, is_near, height_is}
use Rattle.main_channel.proofs.channel.main_channel.Goals as goal

pub net_names-requires-clause-gates : goal.net_names-requires-clause-gates
net_names-requires-clause-gates c = are_gates (organization c.args.plan.now) (cell_in c.args.kit.now.tech.roles) c.deref.result.now (c.deref.ensures.value ∙ c.requires.row.gates)

pub number_names-requires : goal.number_names-requires
number_names-requires c =
    let plan = organization c.args.plan.now in
    let named = ap length (c.deref-2.ensures.value ∙ c.in_ok-names.ensures) in
    let sized = names_sized plan c.deref.result.now in
    let gates = gates_sized plan (cell_in c.args.kit.now.tech.roles) c.deref.result.now (c.deref.ensures.value ∙ c.requires.row.gates) in
    let cells = few_cells plan c.requires.plan.plan in
    let ports = few_ports plan c.requires.plan.plan in
    omega (arith, named, sized, gates, cells, ports)

pub add_row_pins-requires-clause-fit : goal.add_row_pins-requires-clause-fit
add_row_pins-requires-clause-fit c = fit_roles (organization c.args.plan.now) (cell_in c.args.kit.now.tech.roles) c.deref-3.result.now c.deref-4.result.now c.requires.plan.plan (c.deref-3.ensures.value ∙ c.requires.row.gates) (c.deref-4.ensures.value ∙ c.requires.row.roles)

pub add_row_pins-requires-clause-few : goal.add_row_pins-requires-clause-few
add_row_pins-requires-clause-few c =
    let plan = organization c.args.plan.now in
    let gates = gates_sized plan (cell_in c.args.kit.now.tech.roles) c.deref-3.result.now (c.deref-3.ensures.value ∙ c.requires.row.gates) in
    let cells = few_cells plan c.requires.plan.plan in
    omega (arith, gates, cells)

pub overflow_cast-result : goal.overflow_cast-result
overflow_cast-result c =
    let plan = organization c.args.plan.now in
    let count = c.len.ensures in
    let named = ap length c.in_ok-names.ensures in
    let sized = names_sized plan c.deref.result.now in
    let gates = gates_sized plan (cell_in c.args.kit.now.tech.roles) c.deref.result.now (c.deref.ensures.value ∙ c.requires.row.gates) in
    let cells = few_cells plan c.requires.plan.plan in
    let ports = few_ports plan c.requires.plan.plan in
    omega (arith, count, named, sized, gates, cells, ports)

pub returns-clause-channel : goal.returns-clause-channel
returns-clause-channel c =
    let kit = c.args.kit.now in
    let plan = organization c.args.plan.now in
    let built = c.requires.plan.plan in
    let cell = cell_in kit.tech.roles in
    let gates_are = c.deref-3.ensures.value ∙ c.requires.row.gates in
    let long = c.len.ensures in
    let same = ap length c.deref-2.ensures.value in
    let count : c.len.result ≡ length c.deref-2.result.now = omega (arith, long, same) in
    let named = (c.deref-2.ensures.value ∙ c.in_ok-names.ensures) ∙ ap (channel_names plan) (c.deref.ensures.value ∙ sym c.deref-3.ensures.value) in
    let looked : (name : List ℕ) → found_number c.in_ok-numbers.numbers name ≡ main_number plan name = λ name. c.in_ok-numbers.ensures name ∙ ap (λ (l : List (List ℕ)). index_of l name) (c.deref-2.ensures.value ∙ (c.in_ok-names.ensures ∙ (ap (channel_names plan) (c.deref.ensures.value ∙ c.requires.row.gates) ∙ channel_named plan cell))) in
    let a = c.requires.near.logic_x.above in
    let b = c.requires.near.logic_x.below in
    let begins : to_z w64 (of_z w64 c.args.floorplan.now.logic_x) ≡ c.args.floorplan.now.logic_x = omega (arith, ints, a, b) in
    let port = c.port_count-ports.ensures.is in
    let counted = ports_counted plan in
    let ports : c.port_count-ports.result ≡ length (port_nets plan) = omega (arith, port, counted) in
    let floorplan = floorplan_of c.args.floorplan.now in
    let bottom = bottom_formula kit c.requires.kit plan built floorplan (found_number c.in_ok-numbers.numbers) c.deref-3.result.now c.deref-4.result.now _ _ _ _ looked c.new-bottom.ensures.items c.in_ok-add_row_pins.ensures.is c.from_vec-2.ensures gates_are
    (c.deref-4.ensures.value ∙ c.requires.row.roles) begins in
    let outputs = outputs_there _ (main_bottom plan (layout_kit kit) floorplan) c.port_count-ports.result (length (port_nets plan)) (length c.deref-3.result.now) (length (logic_cells plan)) bottom ports (gates_sized plan cell c.deref-3.result.now gates_are) (main_outputs plan built (layout_kit kit) floorplan) in
    let sides = sides_are c.len.result c.port_count-ports.result (found_number c.in_ok-numbers.numbers) c.deref-2.result.now c.deref-3.result.now plan _ _ _ _ _ _ _ count named port c.in_ok-numbers.ensures
    c.new-top.ensures.items c.in_ok-add_bank_pins.ensures.main c.from_vec.ensures c.new-bottom.ensures.items c.in_ok-add_row_pins.ensures.main c.from_vec-2.ensures outputs c.in_ok-exits.ensures.main
    (has_exit c.port_count-ports.result _ c.in_ok-exits.ensures.is) in
    is_channel _ _ (in_leaf_read _ c.leaf_of.ensures.near.height) sides

pub returns-clause-few : goal.returns-clause-few
returns-clause-few c =
    let plan = organization c.args.plan.now in
    let count = c.len.ensures in
    let named = ap length c.in_ok-names.ensures in
    let sized = names_sized plan c.deref.result.now in
    let gates = gates_sized plan (cell_in c.args.kit.now.tech.roles) c.deref.result.now (c.deref.ensures.value ∙ c.requires.row.gates) in
    let cells = few_cells plan c.requires.plan.plan in
    let ports = few_ports plan c.requires.plan.plan in
    omega (arith, count, named, sized, gates, cells, ports)

pub returns-clause-near : goal.returns-clause-near
returns-clause-near c =
    let kit = c.args.kit.now in
    let plan = organization c.args.plan.now in
    let built = c.requires.plan.plan in
    let cell = cell_in kit.tech.roles in
    let gates_are = c.deref-3.ensures.value ∙ c.requires.row.gates in
    let long = c.len.ensures in
    let same = ap length c.deref-2.ensures.value in
    let count : c.len.result ≡ length c.deref-2.result.now = omega (arith, long, same) in
    let named = (c.deref-2.ensures.value ∙ c.in_ok-names.ensures) ∙ ap (channel_names plan) (c.deref.ensures.value ∙ sym c.deref-3.ensures.value) in
    let looked : (name : List ℕ) → found_number c.in_ok-numbers.numbers name ≡ main_number plan name = λ name. c.in_ok-numbers.ensures name ∙ ap (λ (l : List (List ℕ)). index_of l name) (c.deref-2.ensures.value ∙ (c.in_ok-names.ensures ∙ (ap (channel_names plan) (c.deref.ensures.value ∙ c.requires.row.gates) ∙ channel_named plan cell))) in
    let a = c.requires.near.logic_x.above in
    let b = c.requires.near.logic_x.below in
    let begins : to_z w64 (of_z w64 c.args.floorplan.now.logic_x) ≡ c.args.floorplan.now.logic_x = omega (arith, ints, a, b) in
    let port = c.port_count-ports.ensures.is in
    let counted = ports_counted plan in
    let ports : c.port_count-ports.result ≡ length (port_nets plan) = omega (arith, port, counted) in
    let floorplan = floorplan_of c.args.floorplan.now in
    let bottom = bottom_formula kit c.requires.kit plan built floorplan (found_number c.in_ok-numbers.numbers) c.deref-3.result.now c.deref-4.result.now _ _ _ _ looked c.new-bottom.ensures.items c.in_ok-add_row_pins.ensures.is c.from_vec-2.ensures gates_are
    (c.deref-4.ensures.value ∙ c.requires.row.roles) begins in
    let outputs = outputs_there _ (main_bottom plan (layout_kit kit) floorplan) c.port_count-ports.result (length (port_nets plan)) (length c.deref-3.result.now) (length (logic_cells plan)) bottom ports (gates_sized plan cell c.deref-3.result.now gates_are) (main_outputs plan built (layout_kit kit) floorplan) in
    let sides = sides_are c.len.result c.port_count-ports.result (found_number c.in_ok-numbers.numbers) c.deref-2.result.now c.deref-3.result.now plan _ _ _ _ _ _ _ count named port c.in_ok-numbers.ensures
    c.new-top.ensures.items c.in_ok-add_bank_pins.ensures.main c.from_vec.ensures c.new-bottom.ensures.items c.in_ok-add_row_pins.ensures.main c.from_vec-2.ensures outputs c.in_ok-exits.ensures.main
    (has_exit c.port_count-ports.result _ c.in_ok-exits.ensures.is) in
    is_near _ _ (in_leaf_read _ c.leaf_of.ensures.near.height) sides

pub returns-clause-low : goal.returns-clause-low
returns-clause-low c = height_is c.args.kit.now Inv c.leaf_of.result.now c.leaf_of.ensures.is c.leaf_of.ensures.near.height

pub returns-clause-nets : goal.returns-clause-nets
returns-clause-nets c =
    let plan = organization c.args.plan.now in
    let count = c.len.ensures in
    let named = ap length c.in_ok-names.ensures in
    let sized = names_sized plan c.deref.result.now in
    let gates = gates_sized plan (cell_in c.args.kit.now.tech.roles) c.deref.result.now (c.deref.ensures.value ∙ c.requires.row.gates) in
    let counted = nets_counted plan in
    omega (arith, count, named, sized, gates, counted)

pub returns-clause-exits : goal.returns-clause-exits
returns-clause-exits c =
    let plan = organization c.args.plan.now in
    let port = c.port_count-ports.ensures.is in
    let counted = ports_counted plan in
    exits_are plan c.port_count-ports.result _ c.in_ok-exits.ensures.is (omega (arith, port, counted))

pub returns-clause-formula : goal.returns-clause-formula
returns-clause-formula c = λ wire floorplan wired across.
    let kit = c.args.kit.now in
    let plan = organization c.args.plan.now in
    let built = c.requires.plan.plan in
    let cell = cell_in kit.tech.roles in
    let gates_are = c.deref-3.ensures.value ∙ c.requires.row.gates in
    let long = c.len.ensures in
    let same = ap length c.deref-2.ensures.value in
    let count : c.len.result ≡ length c.deref-2.result.now = omega (arith, long, same) in
    let named = (c.deref-2.ensures.value ∙ c.in_ok-names.ensures) ∙ ap (channel_names plan) (c.deref.ensures.value ∙ sym c.deref-3.ensures.value) in
    let looked : (name : List ℕ) → found_number c.in_ok-numbers.numbers name ≡ main_number plan name = λ name. c.in_ok-numbers.ensures name ∙ ap (λ (l : List (List ℕ)). index_of l name) (c.deref-2.ensures.value ∙ (c.in_ok-names.ensures ∙ (ap (channel_names plan) (c.deref.ensures.value ∙ c.requires.row.gates) ∙ channel_named plan cell))) in
    let a = c.requires.near.logic_x.above in
    let b = c.requires.near.logic_x.below in
    let begins : to_z w64 (of_z w64 c.args.floorplan.now.logic_x) ≡ c.args.floorplan.now.logic_x = omega (arith, ints, a, b) in
    let port = c.port_count-ports.ensures.is in
    let counted = ports_counted plan in
    let ports : c.port_count-ports.result ≡ length (port_nets plan) = omega (arith, port, counted) in
    let count = c.len.ensures in
    let sized = names_sized plan c.deref.result.now in
    let long = ap length c.in_ok-names.ensures in
    let gates = gates_sized plan cell c.deref.result.now (c.deref.ensures.value ∙ c.requires.row.gates) in
    let all_nets = nets_counted plan in
    let nets : c.len.result ≡ length (main_nets plan) = omega (arith, count, long, sized, gates, all_nets) in
    same_channel plan (layout_kit kit) wire floorplan _ _ _ _ _ (height_is kit Inv c.leaf_of.result.now c.leaf_of.ensures.is c.leaf_of.ensures.near.height)
    (top_formula kit c.requires.kit plan wire floorplan (found_number c.in_ok-numbers.numbers) c.args.floorplan.now.row_x c.args.floorplan.now.bank_width c.args.plan.now.banks _ _ _ looked c.new-top.ensures.items
    (c.in_ok-add_bank_pins.ensures.is wire wired) c.from_vec.ensures (banks_are (numbers_of c.args.plan.now) c.requires.plan) (sym across.row_x) (sym across.bank_width))
    (bottom_formula kit c.requires.kit plan built floorplan (found_number c.in_ok-numbers.numbers) c.deref-3.result.now c.deref-4.result.now _ _ _ _ looked c.new-bottom.ensures.items c.in_ok-add_row_pins.ensures.is c.from_vec-2.ensures gates_are
    (c.deref-4.ensures.value ∙ c.requires.row.roles) (begins ∙ sym across.logic_x)) (c.in_ok-exits.ensures.is ∙ ap (λ (n : ℕ). tabulate n main_exit) ports) nets

pub returns-clause-stated : goal.returns-clause-stated
returns-clause-stated c = λ wire floorplan wired across.
    let kit = c.args.kit.now in
    let plan = organization c.args.plan.now in
    subst (λ (ch : Channel). IsMainChannel plan (layout_kit kit) wire floorplan ch) (sym (returns-clause-formula c wire floorplan wired across)) (main_stated plan c.requires.plan.plan (layout_kit kit) wire floorplan)
