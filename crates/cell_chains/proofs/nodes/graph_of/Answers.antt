-- One name after another.
use Rattle.std.proofs.Common.{◌<◌, List, length, subst, arith}
use Rattle.std.specs.Prelude.{Contains}
use Rattle.gds_library.specs.declared.library.Element.{Element}
use Rattle.cell_chains.specs.Numbering.{texts, name_at, referred_names, AreReferences}
use Rattle.cell_chains.proofs.FirstLaws.{first_within}
use Rattle.cell_chains.proofs.ReferenceLaws.{referred_there, graph_more}
use Rattle.cell_chains.proofs.nodes.graph_of.Goals as goal

pub elements_at-requires : goal.elements_at-requires
elements_at-requires c =
    let inside : c.loop-first.first-index < length (texts c.args.names.now) = omega (arith, c.requires.firsts.sized) in
    first_within c.args.structs.now (name_at (texts c.args.names.now) c.loop-first.first-index) _ (c.requires.firsts.each c.loop-first.first-index inside)

pub references-requires-clause-there : goal.references-requires-clause-there
references-requires-clause-there c = λ name h.
    let inside : c.loop-first.first-index < length (texts c.args.names.now) = omega (arith, c.requires.firsts.sized) in
    let of = name_at (texts c.args.names.now) c.loop-first.first-index in
    let same = c.elements_at.ensures of (c.requires.firsts.each c.loop-first.first-index inside) in
    c.requires.there name (referred_there c.args.structs.now of name (subst (λ (es : List Element). Contains (referred_names es) name) same h))

pub loop-first-preserved : goal.loop-first-preserved
loop-first-preserved c =
    let inside : c.loop-first.first-index < length (texts c.args.names.now) = omega (arith, c.requires.firsts.sized) in
    let of = name_at (texts c.args.names.now) c.loop-first.first-index in
    let same = c.elements_at.ensures of (c.requires.firsts.each c.loop-first.first-index inside) in
    rw c.in_ok-push.ensures.items
    (graph_more c.args.structs.now (texts c.args.names.now) c.loop-first.graph.items c.loop-first.first-index c.in_ok-references.field-0
    (subst (λ (es : List Element). AreReferences (texts c.args.names.now) es c.in_ok-references.field-0) same c.in_ok-references.ensures) c.loop-first.invariant)
