use Rattle.std.proofs.Common.{◌≡◌, w64, to_z, of_z, arith}
use Rattle.std.proofs.lemmas.Int.{to_z-of_z}
use Rattle.std.proofs.lemmas.Result.{on_ok_weaker}
use Rattle.tile_checker.proofs.OwnerLaws.{width_read, enclose_read}
use Rattle.tile_checker.proofs.in_tile.add_violations.Goals as goal

pub returns-in-Width-clause-adds : goal.returns-in-Width-clause-adds
returns-in-Width-clause-adds c =
    let same : to_z w64 (of_z w64 c.in-Width.min) ≡ c.in-Width.min = grind (arith, to_z-of_z) in
    on_ok_weaker _ (λ a. width_read c.args.number c.args.rule.now _ _ _ c.args.bins.now c.args.tile c.args.first _ _ c.in-Width.is same a) c.add_own_widths.ensures.adds

pub returns-in-Enclose-clause-adds : goal.returns-in-Enclose-clause-adds
returns-in-Enclose-clause-adds c =
    let same : to_z w64 (of_z w64 c.in-Enclose.min) ≡ c.in-Enclose.min = grind (arith, to_z-of_z) in
    on_ok_weaker _ (λ a. enclose_read c.args.number c.args.rule.now _ _ _ _ c.args.bins.now c.args.tile c.args.first _ _ c.in-Enclose.is same a) c.add_own_encloses.ensures
