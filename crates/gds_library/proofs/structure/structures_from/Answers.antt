use Rattle.std.proofs.Common.{◌-◌, ◌+◌, length, arith, sym, ◌∙◌}
use Rattle.gds_records.specs.Bytes.{records_of}
use Rattle.gds_records.specs.Reading.{next_at}
use Rattle.gds_records.specs.declared.code.TheConstants.{ENDLIB}
use Rattle.gds_records.proofs.UntilLaws.{begins, ends, ends_badly, goes_on, fails, runs_out}
use Rattle.gds_records.proofs.BytesLaws.{pass_on, few_records}
use Rattle.gds_library.specs.ReadLibrary.{structure_at, structures_at}
use Rattle.gds_library.proofs.LibraryLaws.{structure_shrinks, structure_empty, is_taken-append}
use Rattle.gds_library.proofs.structure.structures_from.Goals as goal

pub loop-init : goal.loop-init
unfolding structures_at
loop-init c =
    rw c.new-items.ensures (
      c.new-names.ensures,
      begins structure_at ENDLIB structure_shrinks (length c.args.bytes.now - 0) (records_of c.args.bytes.now)
          (omega (arith, few_records c.args.bytes.now)) (omega (arith, few_records c.args.bytes.now)),
    )

pub returns : goal.returns
returns c = runs_out structure_at ENDLIB c.loop.items _ (records_of c.loop.rest.now) _ (omega arith) c.loop.invariant.1

pub loop-preserved : goal.loop-preserved
loop-preserved c =
    rw c.in_ok-push-in-Ok-structure_from.ensures.ok (
      λ text. c.in-Ok-structure_from.ensures.names c.loop.items c.loop.invariant.0 text
          ∙ sym (is_taken-append c.loop.items c.in-Ok-structure_from.structure text),
      goes_on structure_at ENDLIB c.loop.items _ (length c.args.bytes.now - (c.loop.counter + 1))
          (records_of c.loop.rest.now) _ _ (records_of c.in-Ok-structure_from.after.now)
          structure_empty (omega arith) (sym c.has_code.ensures ∙ c.if-has_code.false)
          (c.in-Ok-structure_from.ensures.read c.loop.items c.loop.invariant.0) c.loop.invariant.1,
    )

pub returns-in-Ok : goal.returns-in-Ok
returns-in-Ok c =
    ends structure_at ENDLIB c.loop.items _ (length c.args.bytes.now - (c.loop.counter + 1))
    (records_of c.loop.rest.now) _ _ (records_of c.in-Ok.after.now)
    (omega arith) (sym c.has_code.ensures ∙ c.if-has_code.true) c.in-Ok.ensures c.loop.invariant.1

pub returns-in-Err : goal.returns-in-Err
returns-in-Err c =
    pass_on c.in-Err.error (next_at ENDLIB (records_of c.loop.rest.now)) (structures_at (records_of c.args.bytes.now))
    c.in-Err.ensures
    (λ t is. ends_badly structure_at ENDLIB c.loop.items _ (length c.args.bytes.now - (c.loop.counter + 1))
    (records_of c.loop.rest.now) _ t (omega arith) (sym c.has_code.ensures ∙ c.if-has_code.true) is c.loop.invariant.1)

pub returns-in-Err-structure_from : goal.returns-in-Err-structure_from
returns-in-Err-structure_from c =
    pass_on c.in-Err-structure_from.error (structure_at c.loop.items (records_of c.loop.rest.now))
    (structures_at (records_of c.args.bytes.now))
    (c.in-Err-structure_from.ensures.read c.loop.items c.loop.invariant.0)
    (λ t is. fails structure_at ENDLIB c.loop.items _ (length c.args.bytes.now - (c.loop.counter + 1))
    (records_of c.loop.rest.now) _ t structure_empty (omega arith) (sym c.has_code.ensures ∙ c.if-has_code.false) is
    c.loop.invariant.1)
