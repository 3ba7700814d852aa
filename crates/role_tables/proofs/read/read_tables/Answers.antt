use Rattle.std.proofs.Common.{length, ap, arith}
use Rattle.std.proofs.lemmas.List.Elements.{All-more}
use Rattle.std.proofs.lemmas.Result.{err_from_is_err_and}
use Rattle.cell_roles.specs.declared.role.Role.{Role}
use Rattle.cell_roles.specs.declared.role.Role.TheVariants.{Bitcell}
use Rattle.cell_roles.specs.declared.leaf_role.LeafRole.TheVariants.{Common}
use Rattle.role_tables.specs.Table.{HasTable}
use Rattle.role_tables.proofs.TableLaws.{first_role, each_role}
use Rattle.role_tables.proofs.read.read_tables.Goals as goal

pub returns-in_err-read_table-clause-err : goal.returns-in_err-read_table-clause-err
returns-in_err-read_table-clause-err c =
    let p = err_from_is_err_and c.from_residual.result c.from_residual.ensures.1 in
    rw (p.1, p.2) (first_role c.args.tech.now c.all-role-items.result c.loop-role.role-index Bitcell _ c.all-role-items.ensures (let many = ap length c.all-role-items.ensures in omega arith) c.loop-role.invariant c.in_err-read_table.ensures.err)

pub loop-role-preserved : goal.loop-role-preserved
loop-role-preserved c =
    All-more (λ (role : Role). HasTable c.args.tech.now (Common role)) c.all-role-items.result c.loop-role.role-index Bitcell (let many = ap length c.all-role-items.ensures in omega arith) c.loop-role.invariant c.in_ok-read_table.ensures.ok

pub returns-clause-ok : goal.returns-clause-ok
returns-clause-ok c =
    each_role (λ (role : Role). HasTable c.args.tech.now (Common role)) c.all-role-items.result c.loop-role.role-index c.all-role-items.ensures c.loop-role-test.false c.loop-role.invariant
