-- Two names, or three.
use Rattle.std.proofs.Common.{◌++◌, ℕ, List, ap, sym, ◌∙◌}
use Rattle.port_lists.proofs.PortLaws.{two_inputs, three_inputs, after_two, after_three, two_left}
use Rattle.port_lists.proofs.names.NameList.add_row_inputs.Goals as goal

pub returns-in_ok-add-3 : goal.returns-in_ok-add-3
returns-in_ok-add-3 c sizes is =
    after_three _ _ _ _ _ _ _ c.in_ok-add.ensures c.in_ok-add-2.ensures c.in_ok-add-3.ensures ∙ ap (λ (l : List (List ℕ)). c.args.self.now ++ l) (sym (three_inputs sizes (is ∙ c.if-groups-eq3.true)))

pub returns-else-groups-eq3 : goal.returns-else-groups-eq3
returns-else-groups-eq3 c sizes is =
    after_two _ _ _ _ _ c.in_ok-add.ensures c.in_ok-add-2.ensures ∙ ap (λ (l : List (List ℕ)). c.args.self.now ++ l) (sym (two_inputs sizes (is ∙ two_left c.args.groups c.requires c.if-groups-eq3.false)))
