use Rattle.std.proofs.Common.{◌+◌, inl, drop, refl, sym, subst, arith}
use Rattle.std.proofs.lemmas.List.{drop_all}
use Rattle.or_geom.proofs.ListLaws.{rest_at, contained_at}
use Rattle.std.proofs.lemmas.Option.{slice_get_read}
use Rattle.net_extractor.specs.Contacts.{IsInContactTo}
use Rattle.net_extractor.specs.Sets.{AreThesePlaces}
use Rattle.net_extractor.proofs.JoinLaws.{IsJoining, joins_as, joins_none, joining_goes_on, joining_ends}
use Rattle.net_extractor.proofs.contacts.join_place.Goals as goal
use Rattle.net_extractor.proofs.contacts.join_place.Goals.{then-are_in_contact, else-are_in_contact}

pub join-requires-clause-first : goal.join-requires-clause-first
join-requires-clause-first c =
    let own = c.own-item.result in
    let lt = c.requires.run own (contained_at c.args.run.now c.loop-own.own-index own (slice_get_read c.args.run.now _ c.loop-own.own-index own refl c.loop-own-test.true c.own-item.is)) in
    omega (arith, lt)

pub loop-own-preserved : goal.loop-own-preserved
loop-own-preserved c =
    let own = c.own-item.result in
    let run = c.args.run.now in
    let next = drop (c.loop-own.own-index + 1) run in
    let has = IsInContactTo c.args.contact c.args.place c.args.rect in
    let here = rest_at run c.loop-own.own-index own c.loop-own-test.true c.own-item.is in
    elim c.if-are_in_contact.branch [
      | then-are_in_contact w ↦
          subst (IsJoining has run next c.args.above.now) (sym w.above-is)
          (joining_goes_on has run _ next own _ _ _ here c.loop-own.invariant
          (joins_as (AreThesePlaces own.place c.args.place) (has own) _ _ (λ a b p. inl (record { so = w.if-are_in_contact.ensures.0 refl; pair = p })) (λ a b h. inl h.pair) w.join.ensures))
      | else-are_in_contact w ↦
          subst (IsJoining has run next c.args.above.now) (sym w.above-is)
          (joining_goes_on has run _ next own _ _ _ here c.loop-own.invariant
          (joins_none (has own) c.loop-own.above c.loop-own.invariant.falls (λ a b h. let yes = w.if-are_in_contact.ensures.1 h.so in absurd cc)))
    ]

pub returns : goal.returns
returns c = joining_ends (IsInContactTo c.args.contact c.args.place c.args.rect) c.args.run.now _ _ _ (drop_all c.loop-own.own-index c.args.run.now c.loop-own-test.false) c.loop-own.invariant
