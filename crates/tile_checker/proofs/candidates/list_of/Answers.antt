use Rattle.tile_checker.proofs.CandidateLaws.{near_sorted, near_places, candidates_are}
use Rattle.tile_checker.proofs.candidates.list_of.Goals as goal

pub candidates_at-requires : goal.candidates_at-requires
candidates_at-requires c =
    near_places c.args.bins.now c.args._layer c.args._area _
    (near_sorted c.args.bins.now c.args._layer c.args._area c.args.places.now.items c.sort_unstable.new.self.items _ c.sort_unstable.ensures.permutation c.deref.ensures.value c.requires)

pub returns : goal.returns
returns c =
    candidates_are c.args.bins.now c.args._layer c.args._area _ _
    (near_sorted c.args.bins.now c.args._layer c.args._area c.args.places.now.items c.sort_unstable.new.self.items _ c.sort_unstable.ensures.permutation c.deref.ensures.value c.requires)
    c.in_ok-candidates_at.ensures
