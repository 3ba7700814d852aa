use Rattle.std.proofs.Common.{sym, ◌∙◌, arith}
use Rattle.gds_records.specs.Record.{record_of}
use Rattle.gds_records.proofs.BytesLaws.{shorter_cut}
use Rattle.gds_library.proofs.FaultLaws.{wanted_here, wanted_next, wanted_nowhere}
use Rattle.gds_library.proofs.read.points_wanted.Goals as goal

pub returns-in_default : goal.returns-in_default
returns-in_default c = sym (wanted_nowhere c.args.left c.records.wanted c.records.rest.now (sym c.in_default.ensures))
    ∙ c.records.invariant

pub records-smaller : goal.records-smaller
records-smaller c =
    omega (
      arith,
      shorter_cut c.records.rest.now
          (record_of c.in-Some.record.whole c.in-Some.record.code c.in-Some.record.content.now) c.in-Some.after.now
          (sym c.in-Some.ensures),
    )

pub records-preserved : goal.records-preserved
records-preserved c =
    rw c.points_after-wanted.ensures
    (sym (wanted_next c.args.left c.records.wanted c.records.rest.now c.in-Some.after.now
    (record_of c.in-Some.record.whole c.in-Some.record.code c.in-Some.record.content.now) (sym c.in-Some.ensures)
    c.records-test.true)
    ∙ c.records.invariant)

pub returns : goal.returns
returns c = sym (wanted_here c.args.left c.records.wanted c.records.rest.now c.records-test.false) ∙ c.records.invariant
