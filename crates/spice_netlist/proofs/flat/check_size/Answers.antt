-- What the table has for the top.
use Rattle.std.proofs.Common.{◌≡◌, ◌<◌, ◌+◌, ◌^◌, inl, inr, List, length, refl, sym, ap, subst, arith}
use Rattle.spice_netlist.specs.declared.size.Size.{Size}
use Rattle.spice_netlist.specs.Resolved.{ports_at}
use Rattle.spice_netlist.specs.Walk.{walk_at}
use Rattle.spice_netlist.specs.Sizes.{walk_size}
use Rattle.spice_netlist.proofs.FlatLaws.{top_known, top_size, rows_long}
use Rattle.spice_netlist.proofs.flat.check_size.Goals as goal

pub entry-size-requires : goal.entry-size-requires
entry-size-requires c =
    let known = top_known (λ index. walk_size c.args.subckts.now (walk_at c.args.subckts.now index)) c.args.subckts.now c.args.order.now c.in_ok-sizes.sizes.items c.args.top c.requires.order c.in_ok-sizes.ensures in
    subst (λ (table : List Size). c.args.top < length table) (sym c.deref.ensures.value) known.within

pub returns-then-size-gt-MOST_LEAVES : goal.returns-then-size-gt-MOST_LEAVES
returns-then-size-gt-MOST_LEAVES c =
    let known = top_known (λ index. walk_size c.args.subckts.now (walk_at c.args.subckts.now index)) c.args.subckts.now c.args.order.now c.in_ok-sizes.sizes.items c.args.top c.requires.order c.in_ok-sizes.ensures in
    let size = top_size c.args.subckts.now c.in_ok-sizes.sizes.items _ c.args.top c.entry-size.result.now known c.deref.ensures.value (c.entry-size.ensures c.entry-size.result.now) in
    let many = c.if-size-gt-MOST_LEAVES.true in
    (c.requires.hierarchy, c.requires.good, record { either = inl (omega (arith, size.leaves, many), refl) })

pub returns-then-saturating_add-gt-MOST_PINS : goal.returns-then-saturating_add-gt-MOST_PINS
returns-then-saturating_add-gt-MOST_PINS c =
    let known = top_known (λ index. walk_size c.args.subckts.now (walk_at c.args.subckts.now index)) c.args.subckts.now c.args.order.now c.in_ok-sizes.sizes.items c.args.top c.requires.order c.in_ok-sizes.ensures in
    let size = top_size c.args.subckts.now c.in_ok-sizes.sizes.items _ c.args.top c.entry-size.result.now known c.deref.ensures.value (c.entry-size.ensures c.entry-size.result.now) in
    let ports : length c.ports_of.result.now ≡ length (ports_at c.args.subckts.now c.args.top) = ap length c.ports_of.ensures in
    let rows = rows_long c.args.subckts.now c.args.top in
    let few = c.if-size-gt-MOST_LEAVES.false in
    let many = c.if-saturating_add-gt-MOST_PINS.true in
    let sum = c.saturating_add.ensures in
    (c.requires.hierarchy, c.requires.good, record { either = inr (omega (arith, size.leaves, few), omega (arith, size.pins, ports, rows, many, sum), refl) })

pub returns : goal.returns
returns c =
    let known = top_known (λ index. walk_size c.args.subckts.now (walk_at c.args.subckts.now index)) c.args.subckts.now c.args.order.now c.in_ok-sizes.sizes.items c.args.top c.requires.order c.in_ok-sizes.ensures in
    let size = top_size c.args.subckts.now c.in_ok-sizes.sizes.items _ c.args.top c.entry-size.result.now known c.deref.ensures.value (c.entry-size.ensures c.entry-size.result.now) in
    let ports : length c.ports_of.result.now ≡ length (ports_at c.args.subckts.now c.args.top) = ap length c.ports_of.ensures in
    let rows = rows_long c.args.subckts.now c.args.top in
    let few = c.if-size-gt-MOST_LEAVES.false in
    let fits = c.if-saturating_add-gt-MOST_PINS.false in
    let sum = c.saturating_add.ensures in
    (record { leaves = omega (arith, size.leaves, few); pins = omega (arith, size.pins, ports, rows, fits, sum) }, λ index r. c.in_ok-sizes.ensures index ((c.requires.order.exact index).1 r))
