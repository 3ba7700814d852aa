use Rattle.std.proofs.Common.{inl, inr, Some, refl, ap, ◌∙◌, arith}
use Rattle.std.proofs.lemmas.Option.{slice_get_read}
use Rattle.net_extractor.proofs.numbering.number_at.Goals as goal

pub index-requires-2 : goal.index-requires-2
index-requires-2 c =
    let lt = c.requires.within.within c.args.place c.index.result.now (slice_get_read c.args.numbering.now.roots.items _ c.args.place c.index.result.now refl c.requires.inside c.index.ensures) in
    omega (arith, lt)

pub index_mut-requires : goal.index_mut-requires
index_mut-requires c =
    let lt = c.requires.within.within c.args.place c.index.result.now (slice_get_read c.args.numbering.now.roots.items _ c.args.place c.index.result.now refl c.requires.inside c.index.ensures) in
    omega (arith, lt)

pub returns-in-Some : goal.returns-in-Some
returns-in-Some c =
    let numbering = c.args.numbering.now in
    let root = c.index.result.now in
    let up = slice_get_read numbering.roots.items _ c.args.place root refl c.requires.inside c.index.ensures in
    let lt = c.requires.within.within c.args.place root up in
    inl (record {
      had = record { root = root; up = up; is = slice_get_read numbering.numbers.items _ root c.index-2.result.now refl lt c.index-2.ensures ∙ ap (λ o. Some o) c.in-Some.is };
      same = refl;
    })

pub returns : goal.returns
returns c =
    let numbering = c.args.numbering.now in
    let root = c.index.result.now in
    let up = slice_get_read numbering.roots.items _ c.args.place root refl c.requires.inside c.index.ensures in
    let lt = c.requires.within.within c.args.place root up in
    inr (record {
      root = root;
      up = up;
      none = slice_get_read numbering.numbers.items _ root c.index-2.result.now refl lt c.index-2.ensures ∙ ap (λ o. Some o) c.in_default.is;
      is = refl;
      roots = refl;
      numbers = refl;
      next = refl;
    })
