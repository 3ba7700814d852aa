use Rattle.std.proofs.Common.{◌≡◌, ◌<◌, length, sym, ◌∙◌, arith}
use Rattle.std.proofs.lemmas.Bool.{eqb-true}
use Rattle.std.proofs.lemmas.List.{nil_from_length}
use Rattle.gds_records.proofs.FileLaws.{are_bytes, is_spelled, is_not_zero}
use Rattle.gds_library.specs.Grammar.{library}
use Rattle.gds_library.specs.ReadLibrary.{library_at}
use Rattle.gds_library.proofs.LibraryLaws.{library_part}
use Rattle.gds_library.proofs.NamedLaws.{at_trailing, tail_fits, not_zero, all_zero}
use Rattle.gds_library.proofs.read.finish.Goals as goal

pub returns-then-is_empty-clause-read : goal.returns-then-is_empty-clause-read
returns-then-is_empty-clause-read c =
    let empty : length c.after_zeros-tail.result.now ≡ 0 = eqb-true _ _ (sym c.is_empty.ensures ∙ c.if-is_empty.true) in
    is_spelled library library_at c.args.bytes.now c.args.rest.now c.args.library library_part
    (are_bytes c.args.bytes.now (λ i. omega (arith, c.type_inv.bytes i))) (omega arith) c.requires
    (all_zero c.args.rest.now c.after_zeros-tail.result.now c.after_zeros-tail.ensures.parts (nil_from_length _ empty))

pub overflow_sub-at : goal.overflow_sub-at
overflow_sub-at c = tail_fits c.args.bytes.now c.args.rest.now c.after_zeros-tail.result.now c.args.library
    (omega arith) c.requires c.after_zeros-tail.ensures.parts

pub returns-clause-refused : goal.returns-clause-refused
returns-clause-refused c lib =
    let some : 0 < length c.after_zeros-tail.result.now =
    (let f = c.is_empty.ensures in let g = c.if-is_empty.false in grind arith) in
    is_not_zero library library_at c.args.bytes.now c.args.rest.now c.args.library lib library_part (omega arith)
    c.requires
    (not_zero c.args.rest.now c.after_zeros-tail.result.now c.after_zeros-tail.ensures.parts
    c.after_zeros-tail.ensures.tail some)

pub returns-clause-first : goal.returns-clause-first
returns-clause-first c =
    let some : 0 < length c.after_zeros-tail.result.now =
    (let f = c.is_empty.ensures in let g = c.if-is_empty.false in grind arith) in
    at_trailing c.args.bytes.now c.args.rest.now c.after_zeros-tail.result.now c.args.library
    (are_bytes c.args.bytes.now (λ i. omega (arith, c.type_inv.bytes i)))
    (are_bytes c.args.rest.now (λ i. omega (arith, c.type_inv.rest i))) (omega arith) c.requires
    c.after_zeros-tail.ensures.parts c.after_zeros-tail.ensures.tail some
