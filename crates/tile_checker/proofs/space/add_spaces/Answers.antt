use Rattle.std.proofs.Common.{ℕ, List, sym, subst}
use Rattle.std.proofs.lemmas.Result.{on_ok_weaker}
use Rattle.or_geom.proofs.ListLaws.{contained_at}
use Rattle.tile_checker.specs.Firsts.{ArePartners}
use Rattle.tile_checker.proofs.PlaceLaws.{reachable_in}
use Rattle.tile_checker.proofs.PairLaws.{none_found, hits_partners, pairs_found}
use Rattle.tile_checker.proofs.space.add_spaces.Goals as goal

pub returns-in_default-clause-adds : goal.returns-in_default-clause-adds
returns-in_default-clause-adds c = none_found c.args.rule c.args.bins.now c.args.tile c.args.first c.args.notes.now.found.items c.in_default.ensures

pub grown-requires : goal.grown-requires
grown-requires c = reachable_in c.args.bins.now c.args.first.shape c.requires.reach (contained_at c.args.bins.now c.args.first.place c.args.first.shape c.requires.at)

pub add_pairs-requires-clause-partners : goal.add_pairs-requires-clause-partners
add_pairs-requires-clause-partners c =
    subst (λ (l : List ℕ). ArePartners c.args.rule c.args.bins.now c.args.first.shape l) (sym c.deref.ensures.value)
    (hits_partners c.args.rule c.args.bins.now c.args.first.shape c.in-Some.partner c.part_in-area.result _ c.in-Some.ensures c.in_ok-list_partners.ensures.partners)

pub returns-clause-adds : goal.returns-clause-adds
returns-clause-adds c =
    on_ok_weaker _ (λ a. pairs_found c.args.rule c.args.bins.now c.args.tile c.args.first c.in-Some.partner c.grown.result c.part_in-area.result _ _ _ c.requires.rises c.requires.at c.in-Some.ensures c.grown.ensures c.part_in-area.ensures c.in_ok-list_partners.ensures.partners
    (rw c.list_partners.ensures.found at (rw c.deref.ensures.value at a))) c.add_pairs.ensures
