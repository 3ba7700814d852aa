-- The net of the next name goes behind the others.
use Rattle.std.proofs.Common.{◌≡◌, [], ◌∷◌, ◌++◌, map, take, sym, ap, subst, ◌∙◌}
use Rattle.std.proofs.lemmas.List.{map_push}
use Rattle.spice_netlist.specs.Levels.{level_key, AreWithinPath, seen_name, view_of}
use Rattle.spice_netlist.proofs.ListLaws.{front_at}
use Rattle.spice_netlist.proofs.LevelLaws.{near_push}
use Rattle.spice_netlist.proofs.level.nets_in.Goals as goal

pub loop-name-preserved : goal.loop-name-preserved
loop-name-preserved c = record {
  near = subst (AreWithinPath c.args.level.now.prefix) (sym c.in_ok-push.ensures.items) (near_push c.args.level.now.prefix c.loop-name.nets.items c.net.result c.loop-name.invariant.near c.net.ensures.near);
  seen = λ path net.
      let v = view_of path net c.args.level.now in
      let names = take c.loop-name.name-index c.args.names.now in
      let step : level_key net c.net.result ≡ seen_name v c.name-item.result = c.net.ensures.seen path net ∙ ap (seen_name v) c.as_bytes.ensures in
      ap (map (level_key net)) c.in_ok-push.ensures.items
      ∙ map_push (level_key net) c.loop-name.nets.items c.net.result
      ∙ (λ i. c.loop-name.invariant.seen path net i ++ step i ∷ [])
      ∙ sym (map_push (seen_name v) names c.name-item.result)
      ∙ ap (map (seen_name v)) (sym (front_at c.args.names.now c.loop-name.name-index c.name-item.result c.loop-name-test.true c.name-item.is));
}
