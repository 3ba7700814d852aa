use Rattle.std.proofs.Common.{◌-◌, ◌+◌, ◌++◌, ◌∷◌, [], length, arith, sym, ap, ◌∙◌, Ok}
use Rattle.gds_records.specs.Bytes.{records_of}
use Rattle.gds_records.specs.Reading.{next_at, as_value}
use Rattle.gds_records.specs.declared.code.TheConstants.{ENDSTR}
use Rattle.gds_records.proofs.UntilLaws.{begins, ends, ends_badly, goes_on, fails, runs_out}
use Rattle.gds_records.proofs.BytesLaws.{pass_on, few_records}
use Rattle.gds_library.specs.Grammar.{kept_elements}
use Rattle.gds_library.specs.ReadElements.{item_at}
use Rattle.gds_library.specs.ReadLibrary.{items_at, elements_at}
use Rattle.gds_library.proofs.ItemLaws.{item_shrinks, item_empty}
use Rattle.gds_library.proofs.LibraryLaws.{kept_elements-append}
use Rattle.gds_library.proofs.structure.elements_from.Goals as goal

pub loop-init : goal.loop-init
unfolding items_at
loop-init c = (
  [],
  sym c.new-items.ensures,
  begins (λ seen. item_at) ENDSTR item_shrinks (length c.args.bytes.now - 0) (records_of c.args.bytes.now)
      (omega (arith, few_records c.args.bytes.now)) (omega (arith, few_records c.args.bytes.now)),
)

pub returns : goal.returns
unfolding elements_at
returns c = ap (as_value kept_elements)
    (runs_out (λ seen. item_at) ENDSTR c.loop.invariant.0 _ (records_of c.loop.rest.now) _ (omega arith)
    c.loop.invariant.2)

pub loop-preserved : goal.loop-preserved
loop-preserved c = (
  c.loop.invariant.0 ++ c.in-Ok-item_from.item ∷ [],
  kept_elements-append c.loop.invariant.0 (c.in-Ok-item_from.item ∷ [])
      ∙ ap (λ es. es ++ kept_elements (c.in-Ok-item_from.item ∷ [])) c.loop.invariant.1
      ∙ sym c.in_ok-keep-in-Ok-item_from.ensures,
  goes_on (λ seen. item_at) ENDSTR c.loop.invariant.0 _ (length c.args.bytes.now - (c.loop.counter + 1))
      (records_of c.loop.rest.now) _ _ (records_of c.in-Ok-item_from.after.now)
      item_empty (omega arith) (sym c.has_code.ensures ∙ c.if-has_code.false) c.in-Ok-item_from.ensures
      c.loop.invariant.2,
)

pub returns-in-Ok : goal.returns-in-Ok
unfolding elements_at
returns-in-Ok c =
    ap (as_value kept_elements)
    (ends (λ seen. item_at) ENDSTR c.loop.invariant.0 _ (length c.args.bytes.now - (c.loop.counter + 1))
    (records_of c.loop.rest.now) _ _ (records_of c.in-Ok.after.now)
    (omega arith) (sym c.has_code.ensures ∙ c.if-has_code.true) c.in-Ok.ensures c.loop.invariant.2)
    ∙ ap (λ es. Ok (es, records_of c.in-Ok.after.now)) c.loop.invariant.1

pub returns-in-Err : goal.returns-in-Err
unfolding elements_at
returns-in-Err c =
    pass_on c.in-Err.error (next_at ENDSTR (records_of c.loop.rest.now)) (elements_at (records_of c.args.bytes.now))
    c.in-Err.ensures
    (λ t is. ap (as_value kept_elements)
    (ends_badly (λ seen. item_at) ENDSTR c.loop.invariant.0 _ (length c.args.bytes.now - (c.loop.counter + 1))
    (records_of c.loop.rest.now) _ t (omega arith) (sym c.has_code.ensures ∙ c.if-has_code.true) is c.loop.invariant.2))

pub returns-in-Err-item_from : goal.returns-in-Err-item_from
unfolding elements_at
returns-in-Err-item_from c =
    pass_on c.in-Err-item_from.error (item_at (records_of c.loop.rest.now))
    (elements_at (records_of c.args.bytes.now)) c.in-Err-item_from.ensures
    (λ t is. ap (as_value kept_elements)
    (fails (λ seen. item_at) ENDSTR c.loop.invariant.0 _ (length c.args.bytes.now - (c.loop.counter + 1))
    (records_of c.loop.rest.now) _ t item_empty (omega arith) (sym c.has_code.ensures ∙ c.if-has_code.false) is
    c.loop.invariant.2))
