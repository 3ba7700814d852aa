-- What a sort and a dedup keep.
use Rattle.std.proofs.lemmas.List.Sorted.{Contains-permutation, IsPermutation-sym}
use Rattle.or_geom.proofs.ShapeOrderLaws.{same_shape}
use Rattle.cell_hierarchy.proofs.sorted.sort_distinct_shapes.Goals as goal

pub returns : goal.returns
returns g c =
    let moved = c.sort_shapes.ensures.permutation in
    record {
      rises = c.drop_repetitions.ensures.rises;
      keeps = λ s h. c.drop_repetitions.ensures.keeps same_shape s (Contains-permutation _ _ s moved h);
      adds_none = λ s h. Contains-permutation _ _ s (IsPermutation-sym _ _ moved) (c.drop_repetitions.ensures.adds_none s h);
    }
