use Rattle.std.proofs.lemmas.Result.{err_from_is_err_and}
use Rattle.toml.specs.View.{view}
use Rattle.toml_keys.proofs.TurnLaws.{goes_on, stops, is_over}
use Rattle.toml_keys.specs.Section.{section_of}
use Rattle.tech_rules.specs.Entries.{entry_after}
use Rattle.tech_rules.specs.Fault.{tech_faults}
use Rattle.tech_rules.proofs.entries.entries_in.Goals as goal

pub returns-in_err-entry : goal.returns-in_err-entry
returns-in_err-entry g c =
    let p = err_from_is_err_and c.from_residual.result c.from_residual.ensures.1 in
    rw (p.1, p.2) (stops view (entry_after (g.E.Entry.entry_in c.args.layers.now) (section_of tech_faults c.args.document.now) c.args.key.now) _ c.args.tables.now c.loop-table.table-index c.table-item.result _ _ _ c.loop-table-test.true c.table-item.is (rw c.as_slice.ensures at c.in_err-entry.ensures) c.loop-table.invariant)

pub loop-table-preserved : goal.loop-table-preserved
loop-table-preserved g c =
    rw c.in_ok-push.ensures.ok
    (goes_on view _ _ c.args.tables.now c.loop-table.table-index c.table-item.result _ _ _ c.loop-table-test.true c.table-item.is (rw c.as_slice.ensures at c.in_ok-entry.ensures) c.loop-table.invariant)

pub returns : goal.returns
returns g c = is_over view _ _ c.args.tables.now c.loop-table.table-index _ c.loop-table-test.false c.loop-table.invariant
