use Rattle.std.proofs.Common.{◌≡◌, ◌≤◌, ◌<◌, ℕ, List, length, get_or, sym, subst, ◌∙◌}
use Rattle.std.specs.FinMap.{nat_cmp-IsAntisymmetric}
use Rattle.std.proofs.lemmas.List.Sorted.{searched}
use Rattle.device_lvs.specs.Lookup.{table_names}
use Rattle.device_lvs.specs.Sorted.{net_first}
use Rattle.device_lvs.proofs.LookupLaws.{numbers, numbers_rise, found_name, no_name_found, item_beside}
use Rattle.device_lvs.proofs.lookup.NameTable.name_of.Goals as goal

pub returns-in-Ok : goal.returns-in-Ok
returns-in-Ok c =
    let table = c.args.self.now in
    let place = c.in-Ok.place in
    let are : c.deref.result.now ≡ numbers (table_names table) = c.deref.ensures.value ∙ c.requires.nets in
    let there = item_beside table.named.items c.deref.result.now place c.index.result.now are c.in-Ok.ensures.bound c.index.ensures in
    found_name (table_names table) c.deref.result.now place c.args.net (net_first c.index.result.now) are c.in-Ok.ensures.bound (nat_cmp-IsAntisymmetric _ c.args.net (c.in-Ok.ensures.ok 0)) there

pub returns-in-Err : goal.returns-in-Err
returns-in-Err c =
    let table = c.args.self.now in
    let xs = c.deref.result.now in
    let are : xs ≡ numbers (table_names table) = c.deref.ensures.value ∙ c.requires.nets in
    let rise : (i j : ℕ) → i ≤ j → j < length xs → get_or xs i 0 ≤ get_or xs j 0 = subst (λ (l : List ℕ). (i j : ℕ) → i ≤ j → j < length l → get_or l i 0 ≤ get_or l j 0) (sym are) (numbers_rise (table_names table) c.requires.rise) in
    let all = searched xs c.args.net c.binary_search.result c.binary_search.ensures.position rise in
    let at = rw c.in-Err.is at all in
    no_name_found (table_names table) xs c.args.net c.in-Err.field-0 are at.1 at.2
