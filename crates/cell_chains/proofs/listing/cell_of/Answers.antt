-- The node's structure is the first of its name.
use Rattle.std.proofs.Common.{◌<◌, List, length, Some, refl, sym, subst, ◌∙◌, arith}
use Rattle.std.specs.Prelude.{Contains}
use Rattle.gds_library.specs.declared.library.Element.{Element}
use Rattle.cell_chains.specs.Numbering.{texts, name_at, referred_names}
use Rattle.cell_chains.specs.Listing.{AreTargets}
use Rattle.cell_chains.proofs.NameLaws.{texts_long}
use Rattle.cell_chains.proofs.FirstLaws.{first_read, first_within}
use Rattle.cell_chains.proofs.ReferenceLaws.{referred_there}
use Rattle.cell_chains.proofs.listing.cell_of.Goals as goal

pub elements_at-elements-requires : goal.elements_at-elements-requires
elements_at-elements-requires c =
    let inside : c.args.node < length (texts c.args.nodes.now.names.items) = omega (arith, texts_long c.args.nodes.now.names.items) in
    first_within c.args.structs.now (name_at (texts c.args.nodes.now.names.items) c.args.node) (Some c.in-Some.structure)
    (sym c.in-Some.is ∙ first_read c.args.structs.now (texts c.args.nodes.now.names.items) c.args.nodes.now.firsts.items c.args.node c.index-first.result.now c.requires.nodes.firsts inside c.index-first.ensures)

pub targets-requires-clause-there : goal.targets-requires-clause-there
targets-requires-clause-there c = λ name h.
    let inside : c.args.node < length (texts c.args.nodes.now.names.items) = omega (arith, texts_long c.args.nodes.now.names.items) in
    let of = name_at (texts c.args.nodes.now.names.items) c.args.node in
    let is = sym c.in-Some.is ∙ first_read c.args.structs.now (texts c.args.nodes.now.names.items) c.args.nodes.now.firsts.items c.args.node c.index-first.result.now c.requires.nodes.firsts inside c.index-first.ensures in
    let same = c.elements_at-elements.ensures of is in
    rw c.deref.ensures.value (c.requires.nodes.all name (referred_there c.args.structs.now of name (subst (λ (es : List Element). Contains (referred_names es) name) same h)))

pub returns : goal.returns
returns c =
    let inside : c.args.node < length (texts c.args.nodes.now.names.items) = omega (arith, texts_long c.args.nodes.now.names.items) in
    let of = name_at (texts c.args.nodes.now.names.items) c.args.node in
    let is = sym c.in-Some.is ∙ first_read c.args.structs.now (texts c.args.nodes.now.names.items) c.args.nodes.now.firsts.items c.args.node c.index-first.result.now c.requires.nodes.firsts inside c.index-first.ensures in
    let same = c.elements_at-elements.ensures of is in
    let read = rw c.deref.ensures.value at c.in_ok-targets.ensures in
    record {
      first = c.requires.nodes.firsts.each c.args.node inside ∙ sym is;
      high = refl;
      targets = subst (λ (es : List Element). AreTargets (texts c.args.nodes.now.names.items) c.args.positions.now es c.in_ok-targets.field-0) same read;
    }
