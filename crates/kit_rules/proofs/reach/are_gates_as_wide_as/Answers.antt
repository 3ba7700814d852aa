use Rattle.std.proofs.Common.{refl, sym, ap, ◌∙◌, arith}
use Rattle.std.proofs.lemmas.Int.{ints}
use Rattle.std.proofs.lemmas.Option.{same_Some}
use Rattle.leaf_tables.specs.declared.kit.Leaf.{Leaf}
use Rattle.kit_rules.proofs.reach.are_gates_as_wide_as.Goals as goal

pub returns-then-not-is_as_wide_as : goal.returns-then-not-is_as_wide_as
returns-then-not-is_as_wide_as c =
    let a = c.requires.reach.above in
    let b = c.requires.reach.below in
    let d = c.leaf_of.ensures.near.width.above in
    let e = c.leaf_of.ensures.near.width.below in (
      (λ t. absurd cc),
      (λ all. let t = c.if-not-is_as_wide_as.ensures.1 (λ leaf here. let h = (all c.leaf_of.result.now c.leaf_of.ensures.is).0 leaf here in omega (arith, ints, h, a, b, d, e)) in absurd cc),
    )

pub returns : goal.returns
returns c =
    let a = c.requires.reach.above in
    let b = c.requires.reach.below in
    let d = c.leaf_of.ensures.near.width.above in
    let e = c.leaf_of.ensures.near.width.below in (
      (λ t inv there.
          let wide = ap (λ (l : Leaf). l.width) (same_Some inv c.leaf_of.result.now (sym there ∙ c.leaf_of.ensures.is)) in (
            (λ leaf here. let h = c.if-not-is_as_wide_as.ensures.0 refl leaf here in omega (arith, ints, h, a, b, d, e, wide)),
            (λ leaf here. let h = c.is_as_wide_as-2.ensures.0 t leaf here in omega (arith, ints, h, a, b, d, e, wide)),
          )),
      (λ all. c.is_as_wide_as-2.ensures.1 (λ leaf here. let h = (all c.leaf_of.result.now c.leaf_of.ensures.is).1 leaf here in omega (arith, ints, h, a, b, d, e))),
    )
