use Rattle.std.proofs.Common.{◌+◌, inl, drop, get_or, subst, arith}
use Rattle.std.proofs.lemmas.List.{drop_all}
use Rattle.std.proofs.lemmas.Option.{slice_get-get_or}
use Rattle.or_geom.specs.declared.shape.Shape.{Shape}
use Rattle.or_geom.specs.Gathering.{SomeHas}
use Rattle.or_geom.proofs.ListLaws.{contained_at, one_at, rest_item}
use Rattle.net_extractor.specs.declared.run.RunShape.{RunShape}
use Rattle.net_extractor.specs.Contacts.{IsInContactTo, IsInContactAt}
use Rattle.net_extractor.proofs.JoinLaws.{joins_as, joining_goes_on, joining_ends}
use Rattle.net_extractor.proofs.contacts.join_places.Goals as goal

pub shape_at-shape-requires : goal.shape_at-shape-requires
shape_at-shape-requires c =
    let places = c.args.places.now in
    let k = c.loop-place.place-index in
    c.requires.places (get_or places k 0) (contained_at places k (get_or places k 0) (slice_get-get_or places k 0 c.loop-place-test.true))

pub join_place-requires-clause-place : goal.join_place-requires-clause-place
join_place-requires-clause-place c =
    let places = c.args.places.now in
    let k = c.loop-place.place-index in
    let lt = c.requires.places (get_or places k 0) (contained_at places k (get_or places k 0) (slice_get-get_or places k 0 c.loop-place-test.true)) in
    omega (arith, lt, c.requires.sized)

pub loop-place-preserved : goal.loop-place-preserved
loop-place-preserved c =
    let shapes = c.args.shapes.now in
    let run = c.args.run.now in
    let places = c.args.places.now in
    let k = c.loop-place.place-index in
    let place = get_or places k 0 in
    let shape = c.shape_at-shape.result in
    joining_goes_on (IsInContactAt c.args.contact shapes run) places _ (drop (k + 1) places) place _ _ _ (rest_item places k 0 c.loop-place-test.true) c.loop-place.invariant
    (joins_as (λ a b. SomeHas (λ (own : RunShape). IsInContactTo c.args.contact place shape.rect own a b) run) (IsInContactAt c.args.contact shapes run place) _ _
    (λ a b some. inl (record { shape = shape; there = c.shape_at-shape.ensures; some = some }))
    (λ a b h. inl (subst (λ (s : Shape). SomeHas (λ (own : RunShape). IsInContactTo c.args.contact place s.rect own a b) run) (one_at shapes place h.shape shape h.there c.shape_at-shape.ensures) h.some))
    c.join_place.ensures)

pub returns : goal.returns
returns c = joining_ends (IsInContactAt c.args.contact c.args.shapes.now c.args.run.now) c.args.places.now _ _ _ (drop_all c.loop-place.place-index c.args.places.now c.loop-place-test.false) c.loop-place.invariant
