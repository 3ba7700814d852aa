use Rattle.std.proofs.Common.{◌≤ℤ◌, arith, refl}
use Rattle.std.proofs.lemmas.Int.{ints}
use Rattle.std.proofs.lemmas.Result.{on_ok_weaker}
use Rattle.tile_checker.proofs.FilledLaws.{partners_clear, partners_near, partners_outside}
use Rattle.tile_checker.proofs.space.list_partners.Goals as goal

pub returns-then-lies_clear-clause-partners : goal.returns-then-lies_clear-clause-partners
returns-then-lies_clear-clause-partners c =
    let clear = c.if-lies_clear.ensures refl in
    partners_clear c.args.min.value c.args.bins.now c.args.partner c.args.first c.args.area clear.box _ c.args.min.within.positive c.if-partner-first.true c.clear.ensures.items clear.around clear.enough

pub returns-then-min-filled-clause-seen : goal.returns-then-min-filled-clause-seen
returns-then-min-filled-clause-seen c = record {
  wide = c.requires.seen.wide;
  clear = record { covered = c.in-Some.ensures.around.covered; clear = c.in-Some.ensures.clear };
  candidates = c.requires.seen.candidates;
}

pub returns-then-min-filled-clause-partners : goal.returns-then-min-filled-clause-partners
returns-then-min-filled-clause-partners c =
    let enough : c.args.min.value ≤ℤ c.in-Some.filled.clearance = omega (arith, ints) in
    partners_clear c.args.min.value c.args.bins.now c.args.partner c.args.first c.args.area c.in-Some.filled _ c.args.min.within.positive c.if-partner-first.true c.clear.ensures.items c.in-Some.ensures enough

pub returns-in-Some-clause-partners : goal.returns-in-Some-clause-partners
returns-in-Some-clause-partners c =
    on_ok_weaker _ (λ a. partners_outside c.args.min.value c.args.bins.now c.args.partner c.args.first c.args.area c.in-Some.filled.rect _ _ c.if-partner-first.true c.clear.ensures.items c.in-Some.ensures.around a) c.add_outside.ensures

pub returns-clause-partners : goal.returns-clause-partners
returns-clause-partners c = on_ok_weaker _ (λ a. partners_near c.args.min.value c.args.bins.now c.args.partner c.args.first c.args.area _ _ refl a) c.list_candidates.ensures.adds
