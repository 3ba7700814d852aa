use Rattle.std.proofs.Common.{◌∙◌, map, sym, ap}
use Rattle.net_extractor.specs.KeyPlaces.{first_place, label_key}
use Rattle.net_extractor.specs.PlainNets.{plain_net}
use Rattle.net_extractor.proofs.MixedLaws.{unlabelled}
use Rattle.net_extractor.proofs.pins.pin_net.Goals as goal

pub returns-in_default : goal.returns-in_default
returns-in_default c =
    unlabelled (map plain_net c.args.labels.now) c.args.pin.now
    (ap (first_place (map label_key (map plain_net c.args.labels.now))) (sym (c.deref.ensures.value ∙ c.in_ok-put_pin_key.ensures)) ∙ (sym (c.requires.table c.deref.result.now) ∙ (sym c.find.ensures ∙ c.in_default.is)))
