use Rattle.std.proofs.Common.{refl, sym, ap, ◌∙◌, arith}
use Rattle.std.proofs.lemmas.Int.{ints}
use Rattle.std.proofs.lemmas.Option.{same_Some}
use Rattle.tech_rules.specs.declared.tech.Wire.{Wire}
use Rattle.kit_rules.proofs.reach.is_short_reach.Goals as goal

pub returns-then-not-is_inside : goal.returns-then-not-is_inside
returns-then-not-is_inside c wire wired =
    let is = c.reach_with-reach.ensures.is in
    let a = c.reach_with-reach.ensures.near.above in
    let b = c.reach_with-reach.ensures.near.below in
    let d = c.requires.overhang.above in
    let e = c.requires.overhang.below in
    let same = same_Some wire c.wire_of-wire.result.now (sym wired ∙ c.wire_of-wire.ensures.is) in
    let space = ap (λ (w : Wire). w.space) same in
    let width = ap (λ (w : Wire). w.width) same in
    ((λ t. absurd cc), (λ short. let t = c.if-not-is_inside.ensures.1 (let h = short.inside in omega (arith, ints, h, is, a, b, d, e, space, width)) in absurd cc))

pub returns-then-not-is_below_wires : goal.returns-then-not-is_below_wires
returns-then-not-is_below_wires c wire wired =
    let is = c.reach_with-reach.ensures.is in
    let a = c.reach_with-reach.ensures.near.above in
    let b = c.reach_with-reach.ensures.near.below in
    let d = c.requires.overhang.above in
    let e = c.requires.overhang.below in
    let same = same_Some wire c.wire_of-wire.result.now (sym wired ∙ c.wire_of-wire.ensures.is) in
    let space = ap (λ (w : Wire). w.space) same in
    let width = ap (λ (w : Wire). w.width) same in
    ((λ t. absurd cc), (λ short. let t = c.if-not-is_below_wires.ensures.1 (let h = short.wires in omega (arith, ints, h, is, a, b, d, e, space, width)) in absurd cc))

pub returns-then-not-is_as_wide_as : goal.returns-then-not-is_as_wide_as
returns-then-not-is_as_wide_as c wire wired =
    let is = c.reach_with-reach.ensures.is in
    let a = c.reach_with-reach.ensures.near.above in
    let b = c.reach_with-reach.ensures.near.below in
    let d = c.requires.overhang.above in
    let e = c.requires.overhang.below in
    ((λ t. absurd cc), (λ short. let t = c.if-not-is_as_wide_as.ensures.1 (λ leaf there. let h = short.bitcell leaf there in omega (arith, ints, h, is, a, b, d, e)) in absurd cc))

pub returns-then-not-is_as_wide_as-2 : goal.returns-then-not-is_as_wide_as-2
returns-then-not-is_as_wide_as-2 c wire wired =
    let is = c.reach_with-reach.ensures.is in
    let a = c.reach_with-reach.ensures.near.above in
    let b = c.reach_with-reach.ensures.near.below in
    let d = c.requires.overhang.above in
    let e = c.requires.overhang.below in
    ((λ t. absurd cc), (λ short. let t = c.if-not-is_as_wide_as-2.ensures.1 (λ leaf there. let h = short.dff leaf there in omega (arith, ints, h, is, a, b, d, e)) in absurd cc))

pub returns : goal.returns
returns c wire wired =
    let is = c.reach_with-reach.ensures.is in
    let a = c.reach_with-reach.ensures.near.above in
    let b = c.reach_with-reach.ensures.near.below in
    let d = c.requires.overhang.above in
    let e = c.requires.overhang.below in
    let same = same_Some wire c.wire_of-wire.result.now (sym wired ∙ c.wire_of-wire.ensures.is) in
    let space = ap (λ (w : Wire). w.space) same in
    let width = ap (λ (w : Wire). w.width) same in (
      (λ t. record {
        inside = let h = c.if-not-is_inside.ensures.0 refl in omega (arith, ints, h, is, a, b, d, e, space, width);
        bitcell = λ leaf there. let h = c.if-not-is_as_wide_as.ensures.0 refl leaf there in omega (arith, ints, h, is, a, b, d, e);
        dff = λ leaf there. let h = c.if-not-is_as_wide_as-2.ensures.0 refl leaf there in omega (arith, ints, h, is, a, b, d, e);
        wires = let h = c.if-not-is_below_wires.ensures.0 refl in omega (arith, ints, h, is, a, b, d, e, space, width);
        nand2 = λ inv there leaf here. let h = (c.are_gates_as_wide_as.ensures.0 t inv there).0 leaf here in omega (arith, ints, h, is, a, b, d, e);
        nand3 = λ inv there leaf here. let h = (c.are_gates_as_wide_as.ensures.0 t inv there).1 leaf here in omega (arith, ints, h, is, a, b, d, e);
      }),
      (λ short. c.are_gates_as_wide_as.ensures.1 (λ inv there. (
        (λ leaf here. let h = short.nand2 inv there leaf here in omega (arith, ints, h, is, a, b, d, e)),
        (λ leaf here. let h = short.nand3 inv there leaf here in omega (arith, ints, h, is, a, b, d, e)),
      ))),
    )
