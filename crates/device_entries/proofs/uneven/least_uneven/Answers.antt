use Rattle.std.proofs.Common.{rules, is_lt, sym, arith}
use Rattle.std.specs.List.Sorted.{IsSorted}
use Rattle.std.proofs.lemmas.Fn.{always_returns_same}
use Rattle.std.proofs.lemmas.List.Sorted.{ranks_by}
use Rattle.std.proofs.lemmas.Option.{slice_get_within}
use Rattle.device_entries.specs.EntryOrder.{entry_order, entry_total}
use Rattle.device_entries.specs.Parting.{ArePartedAt, ComesFirst}
use Rattle.device_entries.proofs.PartingLaws.{first_is_least, none_is_even, parted_back}
use Rattle.device_entries.proofs.uneven.least_uneven.Goals as goal

pub returns-then-comes_first-clause-least : goal.returns-then-comes_first-clause-least
returns-then-comes_first-clause-least c =
    let xs = c.sort_unstable_by.new.self.items in
    let ys = c.sort_unstable_by-2.new.self.items in
    let up_xs : IsSorted entry_order xs = c.sort_unstable_by.ensures.sorted (λ a b. is_lt (entry_order a b)) (ranks_by entry_total (λ e. e)) (always_returns_same _ _ _ (λ a r f k. search rules)) in
    let up_ys : IsSorted entry_order ys = c.sort_unstable_by-2.ensures.sorted (λ a b. is_lt (entry_order a b)) (ranks_by entry_total (λ e. e)) (always_returns_same _ _ _ (λ a r f k. search rules)) in
    let place = c.common_length-place.result in
    let parted : ArePartedAt xs ys place = rw (c.deref.ensures.value, c.deref-2.ensures.value) at c.common_length-place.ensures in
    let first : ComesFirst xs ys place = rw (c.deref-3.ensures.value, c.deref-4.ensures.value) at (c.comes_first.ensures.yes c.if-comes_first.true) in
    let least = first_is_least xs ys c.args.drawn.items c.args.listed.items place c.swap_remove.result c.sort_unstable_by.ensures.permutation c.sort_unstable_by-2.ensures.permutation up_xs up_ys parted first c.swap_remove.ensures.value in
    (least.more, least.least)

pub swap_remove-requires-then-comes_first-2 : goal.swap_remove-requires-then-comes_first-2
swap_remove-requires-then-comes_first-2 c =
    let first = c.comes_first-2.ensures.yes c.if-comes_first-2.true in
    let inside = slice_get_within c.deref-5.result.now c.common_length-place.result first.entry first.there in
    let as_long = c.deref-5.ensures.len in
    omega (arith, inside, as_long)

pub returns-then-comes_first-2-clause-least : goal.returns-then-comes_first-2-clause-least
returns-then-comes_first-2-clause-least c =
    let xs = c.sort_unstable_by.new.self.items in
    let ys = c.sort_unstable_by-2.new.self.items in
    let up_xs : IsSorted entry_order xs = c.sort_unstable_by.ensures.sorted (λ a b. is_lt (entry_order a b)) (ranks_by entry_total (λ e. e)) (always_returns_same _ _ _ (λ a r f k. search rules)) in
    let up_ys : IsSorted entry_order ys = c.sort_unstable_by-2.ensures.sorted (λ a b. is_lt (entry_order a b)) (ranks_by entry_total (λ e. e)) (always_returns_same _ _ _ (λ a r f k. search rules)) in
    let place = c.common_length-place.result in
    let parted : ArePartedAt xs ys place = rw (c.deref.ensures.value, c.deref-2.ensures.value) at c.common_length-place.ensures in
    let first : ComesFirst ys xs place = rw (c.deref-5.ensures.value, c.deref-6.ensures.value) at (c.comes_first-2.ensures.yes c.if-comes_first-2.true) in
    let least = first_is_least ys xs c.args.listed.items c.args.drawn.items place c.swap_remove-then-comes_first-2.result c.sort_unstable_by-2.ensures.permutation c.sort_unstable_by.ensures.permutation up_ys up_xs
    (parted_back xs ys place parted) first c.swap_remove-then-comes_first-2.ensures.value in
    (least.more, λ other odd. least.least other (λ even. odd (sym even)))

pub returns-clause-none : goal.returns-clause-none
returns-clause-none c =
    let xs = c.sort_unstable_by.new.self.items in
    let ys = c.sort_unstable_by-2.new.self.items in
    let place = c.common_length-place.result in
    let parted : ArePartedAt xs ys place = rw (c.deref.ensures.value, c.deref-2.ensures.value) at c.common_length-place.ensures in
    none_is_even xs ys c.args.drawn.items c.args.listed.items place c.sort_unstable_by.ensures.permutation c.sort_unstable_by-2.ensures.permutation parted
    (rw (c.deref-3.ensures.value, c.deref-4.ensures.value) at (c.comes_first.ensures.no c.if-comes_first.false))
    (rw (c.deref-5.ensures.value, c.deref-6.ensures.value) at (c.comes_first-2.ensures.no c.if-comes_first-2.false))
