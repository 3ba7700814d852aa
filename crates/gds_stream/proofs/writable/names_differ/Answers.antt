use Rattle.std.proofs.Common.{true, ◌∷◌, subst, sym}
use Rattle.std.proofs.lemmas.List.{nil_from_length}
use Rattle.gds_stream.proofs.NamesLaws.{NamesDiffer, names_differ}
use Rattle.gds_stream.proofs.writable.names_differ.Goals as goal

pub returns-then-not-is_new : goal.returns-then-not-is_new
returns-then-not-is_new c = (
  λ no. absurd cc,
  λ all. let rest = c.loop-structure.invariant.1 ((names_differ c.args.structs.now).1 all) in
      let parts : NamesDiffer (c.in-Some.structure.now ∷ c.in-Some.others.now) =
      subst NamesDiffer c.in-Some.ensures.cases.0 rest in
      let new = c.is_new.ensures.1 parts.0 in
      absurd cc,
)

pub returns : goal.returns
returns c = (
  λ yes. (names_differ c.args.structs.now).0
      (c.loop-structure.invariant.0 (subst NamesDiffer (sym (nil_from_length _ c.in_default.ensures.cases)) tt)),
  λ all. λ i. true,
)
