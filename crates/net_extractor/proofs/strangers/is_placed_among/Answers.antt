use Rattle.std.proofs.Common.{refl, subst, ◌∙◌}
use Rattle.or_geom.proofs.GatheringLaws.{among_found}
use Rattle.net_extractor.specs.Difference.{IsOnOnePath, IsPlacedBy}
use Rattle.net_extractor.proofs.PathLaws.{not_empty}
use Rattle.net_extractor.proofs.strangers.is_placed_among.Goals as goal

pub returns-then-is_along : goal.returns-then-is_along
returns-then-is_along c = (
  λ _. among_found (IsPlacedBy c.args.path.now) c.args.pins.now c.loop-pin.pin-index c.pin-item.result c.loop-pin-test.true c.pin-item.is
      (record { leaf = λ e. not_empty c.as_bytes-instance.result.now c.if-is_empty.ensures (c.as_bytes-instance.ensures ∙ e); along = subst (IsOnOnePath c.args.path.now) c.as_bytes-instance.ensures (c.if-is_along.ensures.0 refl) }),
  λ _. refl,
)
