use Rattle.std.proofs.Common.{◌∙◌, map, sym, ap, subst, arith}
use Rattle.std.proofs.lemmas.Option.{slice_get_within}
use Rattle.net_extractor.specs.PlainNetLabel.{PlainNetLabel}
use Rattle.net_extractor.specs.PlainNets.{plain_net}
use Rattle.net_extractor.specs.Difference.{IsLabelOf}
use Rattle.net_extractor.proofs.MappedLaws.{unmapped_at}
use Rattle.net_extractor.proofs.PlaceLaws.{at_contained}
use Rattle.net_extractor.proofs.pins.first_net.Goals as goal

pub returns : goal.returns
returns c l =
    let labels = c.args.labels.now in
    let h = l.has in
    let e = unmapped_at plain_net labels h.listed.0 h.label (at_contained (map plain_net labels) h.label h.listed) in
    let lt = slice_get_within labels h.listed.0 e.0 e.1 in
    c.loop-label.invariant h.listed.0 e.0 (omega (arith, lt, c.loop-label-test.false)) e.1 (subst (IsLabelOf c.args.pin.now) (sym e.2) h.of) l.net (ap (λ (x : PlainNetLabel). x.net) e.2 ∙ h.on)
