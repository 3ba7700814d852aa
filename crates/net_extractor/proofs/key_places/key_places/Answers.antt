-- The name at the place is put in before those behind it.
use Rattle.std.proofs.Common.{◌-◌, [], sym, arith}
use Rattle.std.proofs.lemmas.Option.{get_or_from_slice_get}
use Rattle.net_extractor.proofs.KeyLaws.{finds_more}
use Rattle.net_extractor.proofs.key_places.key_places.Goals as goal

pub loop-place-preserved : goal.loop-place-preserved
loop-place-preserved c =
    record {
      within = omega arith;
      is = finds_more (λ key. key.now) c.args.keys.now c.loop-place.place c.get.result c.loop-place.places.entries c.insert.new.self.entries c.loop-place-test.true c.loop-place.invariant.within
          (sym (get_or_from_slice_get c.args.keys.now (c.loop-place.place - 1) c.get.result.now [] c.get.ensures)) c.in_ok-insert.ensures.entries c.loop-place.invariant.is;
    }
