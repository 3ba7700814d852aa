use Rattle.std.proofs.Common.{arith}
use Rattle.gds_records.specs.declared.error.RecordError.TheVariants.{Short, At}
use Rattle.gds_records.proofs.FileLaws.{are_bytes, is_not_read}
use Rattle.gds_library.specs.Grammar.{library}
use Rattle.gds_library.specs.ReadLibrary.{library_at}
use Rattle.gds_library.proofs.LibraryLaws.{library_part}
use Rattle.gds_library.proofs.WritableLaws.{read_is_writable}
use Rattle.gds_library.proofs.NamedLaws.{at_end, refused}
use Rattle.gds_library.proofs.read.read_gds.Goals as goal

pub returns-in-Ok-clause-writable : goal.returns-in-Ok-clause-writable
returns-in-Ok-clause-writable c =
    read_is_writable c.args.bytes.now c.finish.result
    (are_bytes c.args.bytes.now (λ i. omega (arith, c.type_inv.bytes i))) c.finish.ensures.read

pub returns-in-Err-Short-clause-refused : goal.returns-in-Err-Short-clause-refused
returns-in-Err-Short-clause-refused c lib =
    is_not_read library library_at c.args.bytes.now lib Short library_part (omega arith)
    (rw c.in-Err-Short.field-0-is at c.in-Err-Short.ensures)

pub returns-in-Err-Short-clause-first : goal.returns-in-Err-Short-clause-first
returns-in-Err-Short-clause-first c =
    at_end c.args.bytes.now (are_bytes c.args.bytes.now (λ i. omega (arith, c.type_inv.bytes i))) (omega arith)
    (rw c.in-Err-Short.field-0-is at c.in-Err-Short.ensures)

pub returns-in-Err-At-clause-refused : goal.returns-in-Err-At-clause-refused
returns-in-Err-At-clause-refused c =
    refused c.fault_at.result c.args.bytes.now
    (λ lib. is_not_read library library_at c.args.bytes.now lib
    (At c.in-Err-At.left c.in-Err-At.code c.in-Err-At.fault) library_part (omega arith)
    (rw c.in-Err-At.field-0-is at c.in-Err-At.ensures))
