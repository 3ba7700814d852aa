use Rattle.std.proofs.Common.{◌∙◌, sym, subst, ap}
use Rattle.std.specs.Str.{IsAscii}
use Rattle.cell_hierarchy.specs.Placed.{path_join}
use Rattle.cell_hierarchy.proofs.NameLaws.{reference_name_ascii, reference_name_some, join_ascii}
use Rattle.cell_hierarchy.proofs.placement.reference_below.Goals as goal

pub path_below-requires-clause-name : goal.path_below-requires-clause-name
path_below-requires-clause-name c = subst IsAscii (sym c.in_ok-name.ensures) (reference_name_ascii c.args.n c.args.props.now c.requires.writable)

pub path_below-requires-clause-some : goal.path_below-requires-clause-some
path_below-requires-clause-some c = λ e. reference_name_some c.args.n c.args.props.now c.requires.writable (sym c.in_ok-name.ensures ∙ e)

pub returns : goal.returns
returns c =
    let is = c.in_ok-path.ensures ∙ ap (path_join c.args.outer.now.path.now) c.in_ok-name.ensures in
    record {
      path = λ k. is;
      ascii = subst IsAscii (sym is) (join_ascii c.args.outer.now.path.now _ c.requires.path (reference_name_ascii c.args.n c.args.props.now c.requires.writable));
      applied = c.then-place.ensures.applied;
      bound = c.then-place.ensures.bound;
    }
