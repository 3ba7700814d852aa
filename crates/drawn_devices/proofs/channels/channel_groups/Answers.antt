use Rattle.std.proofs.Common.{◌≡◌, ◌∙◌, List, [], ◌∷◌, ◌++◌, ap, subst}
use Rattle.or_geom.specs.declared.shape.Shape.{Shape}
use Rattle.tech_rules.specs.declared.tech.Connect.{Connect}
use Rattle.net_extractor.specs.ShapeNets.{AreShapeNets}
use Rattle.drawn_devices.proofs.ChannelLaws.{alone_0}
use Rattle.drawn_devices.proofs.ChannelGroupLaws.{groups_are}
use Rattle.drawn_devices.proofs.channels.channel_groups.Goals as goal

pub returns : goal.returns
returns c =
    let nets = c.in_ok-nets.nets in
    let connections : c.deref-2.result.now ≡ alone_0 =
    c.deref-2.ensures.value ∙ (c.in_ok-push.ensures.items ∙ (ap (λ (l : List Connect). l ++ c.in_ok-alone_on.field-0 ∷ []) c.new-connections.ensures.items ∙ ap (λ (x : Connect). x ∷ []) c.in_ok-alone_on.ensures)) in
    let numbered = subst (λ (ss : List Shape). AreShapeNets alone_0 ss nets) (c.in_ok-bins.ensures.bins ∙ c.deref.ensures.value) (subst (λ (cs : List Connect). AreShapeNets cs c.in_ok-bins.bins nets) connections c.in_ok-nets.ensures) in
    groups_are c.args.shapes.now c.args.device.now c.in_ok-list.list.items nets c.in_ok-list.ensures numbered c.in_ok-groups.groups.items (rw (c.deref-3.ensures.value, c.as_slice.ensures) at c.in_ok-groups.ensures)
