-- What a dedup keeps.
use Rattle.std.proofs.lemmas.List.Filters.{dedup_is}
use Rattle.std.proofs.lemmas.List.Kept.{Contains-dedup, Contains-from_dedup, IsStrictlySortedBy-dedup}
use Rattle.cell_hierarchy.proofs.sorted.drop_repetitions.Goals as goal

pub returns : goal.returns
returns g c =
    let is = dedup_is _ _ _ c.dedup.ensures.filtered in
    record {
      rises = rw is (IsStrictlySortedBy-dedup g.met.T.Ord.total g.met.T.Ord.matches_eq _ c.requires);
      keeps = λ exact x h. rw is (Contains-dedup g.met.T.Eq.laws exact _ x h);
      adds_none = λ x h. Contains-from_dedup _ _ x (rw is at h);
    }
