-- The design is the deck's.
use Rattle.std.proofs.Common.{◌≡◌, ℕ, ◌<◌, List, length, None, Some, sym, subst, ◌∙◌}
use Rattle.std.proofs.lemmas.Result.{err_from_is_err_and}
use Rattle.netlist.specs.declared.rows.RowPin.{RowPin}
use Rattle.reference_graph.specs.Reaches.{AreWithin}
use Rattle.spice_netlist.specs.declared.resolved.ResolvedSubckt.{ResolvedSubckt}
use Rattle.spice_text.specs.Words.{lower}
use Rattle.spice_netlist.specs.Names.{index_of}
use Rattle.spice_netlist.specs.Resolved.{names_of, resolved_subckts, graph}
use Rattle.spice_netlist.specs.LowerCase.{AreLow}
use Rattle.spice_netlist.specs.Faults.{AreRows}
use Rattle.spice_netlist.proofs.ResolvedLaws.{index_within, resolved_long, resolved_within}
use Rattle.spice_netlist.proofs.LowLaws.{resolved_low}
use Rattle.spice_netlist.proofs.FlatLaws.{fault_at, rows_at, top_absent}
use Rattle.spice_netlist.proofs.flat.flat_rows.Goals as goal

pub returns-in_default-clause-fault : goal.returns-in_default-clause-fault
returns-in_default-clause-fault c =
    let none : index_of (names_of c.args.deck.now.subckts) (lower c.args.top.now) ≡ None =
    (λ i. index_of (names_of (sym c.as_slice.ensures i)) (sym c.in_ok-top.ensures i)) ∙ sym c.in_ok-design.ensures.top ∙ c.in_default.is in
    top_absent (resolved_subckts c.args.deck.now.subckts (lower c.args.top.now) c.args.leaves.now) (lower c.args.top.now) c.in_ok-top.top (index_of (names_of c.args.deck.now.subckts) (lower c.args.top.now)) none c.in_ok-top.ensures

pub rows_at-requires-clause-within : goal.rows_at-requires-clause-within
rows_at-requires-clause-within c =
    let same : c.as_slice-2.result.now ≡ resolved_subckts c.as_slice.result.now c.in_ok-top.top c.args.leaves.now = c.as_slice-2.ensures ∙ c.in_ok-design.ensures.subckts in
    subst (λ (subckts : List ResolvedSubckt). AreWithin (graph subckts)) (sym same) (resolved_within c.as_slice.result.now c.in_ok-top.top c.args.leaves.now)

pub rows_at-requires-clause-inside : goal.rows_at-requires-clause-inside
rows_at-requires-clause-inside c =
    let same : c.as_slice-2.result.now ≡ resolved_subckts c.as_slice.result.now c.in_ok-top.top c.args.leaves.now = c.as_slice-2.ensures ∙ c.in_ok-design.ensures.subckts in
    let lt : c.in-Some.index < length (names_of c.as_slice.result.now) = index_within (names_of c.as_slice.result.now) c.in_ok-top.top c.in-Some.index (sym c.in_ok-design.ensures.top ∙ c.in-Some.is) in
    subst (λ (subckts : List ResolvedSubckt). c.in-Some.index < length subckts) (sym same)
    (subst (λ (n : ℕ). c.in-Some.index < n) (sym (resolved_long c.as_slice.result.now c.in_ok-top.top c.args.leaves.now)) lt)

pub rows_at-requires-clause-low : goal.rows_at-requires-clause-low
rows_at-requires-clause-low c =
    let same : c.as_slice-2.result.now ≡ resolved_subckts c.as_slice.result.now c.in_ok-top.top c.args.leaves.now = c.as_slice-2.ensures ∙ c.in_ok-design.ensures.subckts in
    subst AreLow (sym same) (resolved_low c.as_slice.result.now c.in_ok-top.top c.args.leaves.now)

pub returns-in_err-pins-clause-fault : goal.returns-in_err-pins-clause-fault
returns-in_err-pins-clause-fault c =
    let same : c.as_slice-2.result.now ≡ resolved_subckts c.args.deck.now.subckts (lower c.args.top.now) c.args.leaves.now =
    c.as_slice-2.ensures ∙ c.in_ok-design.ensures.subckts ∙ (λ i. resolved_subckts (c.as_slice.ensures i) (c.in_ok-top.ensures i) c.args.leaves.now) in
    let there : index_of (names_of c.args.deck.now.subckts) (lower c.args.top.now) ≡ Some c.in-Some.index =
    (λ i. index_of (names_of (sym c.as_slice.ensures i)) (sym c.in_ok-top.ensures i)) ∙ sym c.in_ok-design.ensures.top ∙ c.in-Some.is in
    let p = err_from_is_err_and c.from_residual-in_err-pins.result c.from_residual-in_err-pins.ensures.1 in
    rw (p.1, p.2) (fault_at c.as_slice-2.result.now (resolved_subckts c.args.deck.now.subckts (lower c.args.top.now) c.args.leaves.now) (lower c.args.top.now) (index_of (names_of c.args.deck.now.subckts) (lower c.args.top.now)) c.in-Some.index _ same there c.in_err-pins.ensures)

pub returns-clause-rows : goal.returns-clause-rows
returns-clause-rows c =
    let same : c.as_slice-2.result.now ≡ resolved_subckts c.args.deck.now.subckts (lower c.args.top.now) c.args.leaves.now =
    c.as_slice-2.ensures ∙ c.in_ok-design.ensures.subckts ∙ (λ i. resolved_subckts (c.as_slice.ensures i) (c.in_ok-top.ensures i) c.args.leaves.now) in
    let there : index_of (names_of c.args.deck.now.subckts) (lower c.args.top.now) ≡ Some c.in-Some.index =
    (λ i. index_of (names_of (sym c.as_slice.ensures i)) (sym c.in_ok-top.ensures i)) ∙ sym c.in_ok-design.ensures.top ∙ c.in-Some.is in
    subst (λ (rows : List RowPin). AreRows (resolved_subckts c.args.deck.now.subckts (lower c.args.top.now) c.args.leaves.now) (index_of (names_of c.args.deck.now.subckts) (lower c.args.top.now)) rows) (sym c.from_vec.ensures)
    (rows_at c.as_slice-2.result.now (resolved_subckts c.args.deck.now.subckts (lower c.args.top.now) c.args.leaves.now) (index_of (names_of c.args.deck.now.subckts) (lower c.args.top.now)) c.in-Some.index c.in_ok-pins.pins.items same there c.in_ok-pins.ensures)
