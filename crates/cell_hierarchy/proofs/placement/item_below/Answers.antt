use Rattle.std.proofs.Common.{◌∙◌, sym, subst, ap}
use Rattle.std.specs.Str.{IsAscii}
use Rattle.or_geom.specs.declared.place.Place.{Place}
use Rattle.or_geom.specs.Place.{IsWithin, placed}
use Rattle.cell_hierarchy.specs.Placed.{path_join}
use Rattle.cell_hierarchy.proofs.NameLaws.{array_name_ascii, join_ascii}
use Rattle.cell_hierarchy.proofs.placement.item_below.Goals as goal

pub path_below-requires-clause-name : goal.path_below-requires-clause-name
path_below-requires-clause-name c = subst IsAscii (sym c.in_ok-name.ensures) (array_name_ascii c.args.n c.args.spot.column c.args.spot.row)

pub returns : goal.returns
returns c =
    let named = array_name_ascii c.args.n c.args.spot.column c.args.spot.row in
    let is = c.in_ok-path.ensures ∙ ap (path_join c.args.outer.now.path.now) c.in_ok-name.ensures in
    record {
      path = λ k. is;
      ascii = subst IsAscii (sym is) (join_ascii c.args.outer.now.path.now _ c.requires.path named);
      applied = λ p. c.then-place.ensures.applied p ∙ ap (λ (q : Place). placed c.args.outer.now.place (placed q p)) c.place_at.ensures.is;
      bound = λ m n v u. c.then-place.ensures.bound m n v (subst (λ (q : Place). IsWithin n q.at) (sym c.place_at.ensures.is) u);
    }
