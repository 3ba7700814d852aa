use Rattle.std.proofs.Common.{◌-◌, ◌+◌, length, arith, sym, ◌∙◌}
use Rattle.gds_records.specs.Bytes.{records_of}
use Rattle.gds_records.specs.Reading.{next_at}
use Rattle.gds_records.specs.declared.code.TheConstants.{ENDEL}
use Rattle.gds_records.proofs.UntilLaws.{begins, ends, ends_badly, goes_on, fails, runs_out}
use Rattle.gds_records.proofs.BytesLaws.{pass_on, few_records}
use Rattle.gds_library.specs.ReadElements.{property_at, properties_at}
use Rattle.gds_library.proofs.PropertyLaws.{property_shrinks, property_empty}
use Rattle.gds_library.proofs.property.properties_from.Goals as goal

pub loop-init : goal.loop-init
unfolding properties_at
loop-init c =
    rw c.new-items.ensures
    (begins (λ seen. property_at) ENDEL property_shrinks (length c.args.bytes.now - 0) (records_of c.args.bytes.now)
    (omega (arith, few_records c.args.bytes.now)) (omega (arith, few_records c.args.bytes.now)))

pub returns : goal.returns
returns c = runs_out (λ seen. property_at) ENDEL c.loop.items _ (records_of c.loop.rest.now) _ (omega arith)
    c.loop.invariant

pub loop-preserved : goal.loop-preserved
loop-preserved c =
    rw c.in_ok-push-in-Ok-property_from.ensures.ok
    (goes_on (λ seen. property_at) ENDEL c.loop.items _ (length c.args.bytes.now - (c.loop.counter + 1))
    (records_of c.loop.rest.now) _ _ (records_of c.in-Ok-property_from.after.now)
    property_empty (omega arith) (sym c.has_code.ensures ∙ c.if-has_code.false) c.in-Ok-property_from.ensures
    c.loop.invariant)

pub returns-in-Ok : goal.returns-in-Ok
returns-in-Ok c =
    ends (λ seen. property_at) ENDEL c.loop.items _ (length c.args.bytes.now - (c.loop.counter + 1))
    (records_of c.loop.rest.now) _ _ (records_of c.in-Ok.after.now)
    (omega arith) (sym c.has_code.ensures ∙ c.if-has_code.true) c.in-Ok.ensures c.loop.invariant

pub returns-in-Err : goal.returns-in-Err
returns-in-Err c =
    pass_on c.in-Err.error (next_at ENDEL (records_of c.loop.rest.now)) (properties_at (records_of c.args.bytes.now))
    c.in-Err.ensures
    (λ t is. ends_badly (λ seen. property_at) ENDEL c.loop.items _ (length c.args.bytes.now - (c.loop.counter + 1))
    (records_of c.loop.rest.now) _ t (omega arith) (sym c.has_code.ensures ∙ c.if-has_code.true) is c.loop.invariant)

pub returns-in-Err-property_from : goal.returns-in-Err-property_from
returns-in-Err-property_from c =
    pass_on c.in-Err-property_from.error (property_at (records_of c.loop.rest.now))
    (properties_at (records_of c.args.bytes.now)) c.in-Err-property_from.ensures
    (λ t is. fails (λ seen. property_at) ENDEL c.loop.items _ (length c.args.bytes.now - (c.loop.counter + 1))
    (records_of c.loop.rest.now) _ t property_empty (omega arith) (sym c.has_code.ensures ∙ c.if-has_code.false) is
    c.loop.invariant)
