-- A net of the level's ports is near, as they all are.
use Rattle.std.proofs.Common.{◌<◌, List, length, get_or, ap, subst, ◌∙◌}
use Rattle.spice_netlist.specs.declared.level.LevelNet.{LevelNet}
use Rattle.spice_netlist.proofs.LevelLaws.{near_at}
use Rattle.spice_netlist.proofs.level.WalkLevel.net.Goals as goal

pub returns-in-Some-get-clause-near : goal.returns-in-Some-get-clause-near
returns-in-Some-get-clause-near c =
    let found = c.in-Some-get.ensures.lookup in
    near_at c.args.self.now.prefix c.args.self.now.nets.items c.in-Some.index c.in-Some-get.net.now c.requires (subst (λ (ns : List LevelNet). c.in-Some.index < length ns) c.deref.ensures.value found.3.0)
    (found.1 ∙ ap (λ (ns : List LevelNet). get_or ns c.in-Some.index c.in-Some-get.net.now) c.deref.ensures.value)
