use Rattle.std.proofs.Common.{◌<◌, ◌∙◌, length, map, refl, sym, ap, arith}
use Rattle.std.proofs.lemmas.Option.{get_or_from_slice_get, slice_get_read}
use Rattle.std.proofs.lemmas.List.{map-append}
use Rattle.net_extractor.specs.PlainNets.{plain_net}
use Rattle.net_extractor.proofs.NumberLaws.{roots_within}
use Rattle.net_extractor.proofs.EntryLaws.{net_under, entries_begin, entries_more, entries_all}
use Rattle.net_extractor.proofs.nets.numbered_nets.Goals as goal

pub loop-index-init : goal.loop-index-init
loop-index-init c = entries_begin c.args._connections.now c.args.bins.now c.args.labels.now _ _ c.requires.numbered c.requires.next (ap (map plain_net) c.new-entries.ensures)

pub place_at-requires : goal.place_at-requires
place_at-requires c =
    let places = c.args.places.now in
    omega (arith, c.requires.places.sized, c.loop-index-test.true)

pub net_of-net-requires-clause-found : goal.net_of-net-requires-clause-found
net_of-net-requires-clause-found c = c.requires.places.each c.loop-index.index c.label_at-label.result.now c.place_at.result c.label_at-label.ensures c.place_at.ensures

pub net_of-net-requires-clause-sized : goal.net_of-net-requires-clause-sized
net_of-net-requires-clause-sized c = c.loop-index.invariant.numbered.roots.sized

pub net_of-net-requires-clause-within : goal.net_of-net-requires-clause-within
net_of-net-requires-clause-within c = roots_within c.args._connections.now c.args.bins.now c.loop-index.numbering c.loop-index.invariant.numbered

pub net_of-net-requires-clause-few : goal.net_of-net-requires-clause-few
net_of-net-requires-clause-few c = let few = c.loop-index.invariant.few in omega (arith, few, c.loop-index-test.true, c.requires.few)

pub loop-index-preserved : goal.loop-index-preserved
loop-index-preserved c =
    entries_more c.args._connections.now c.args.bins.now c.args.labels.now c.loop-index.index c.label_at-label.result.now c.net_of-net.result c.loop-index.numbering _ (map plain_net c.loop-index.entries) _
    c.loop-index-test.true (sym (get_or_from_slice_get c.args.labels.now c.loop-index.index c.label_at-label.result.now c.label_at-label.result.now c.label_at-label.ensures))
    (net_under c.args._connections.now c.args.bins.now _ c.loop-index.numbering _ c.net_of-net.result c.loop-index.invariant.numbered c.net_of-net.ensures)
    (ap (map plain_net) c.in_ok-push.ensures.ok ∙ map-append plain_net c.loop-index.entries _)
    c.loop-index.invariant

pub returns : goal.returns
returns c = entries_all c.args._connections.now c.args.bins.now c.args.labels.now c.loop-index.index c.loop-index.numbering (map plain_net c.loop-index.entries) c.requires.rises c.loop-index-test.false c.loop-index.invariant
