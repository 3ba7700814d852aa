use Rattle.std.proofs.Common.{◌≡◌, ◌≢◌, ℕ, List, [], length, true, ap, subst, sym, ◌∙◌}
use Rattle.std.specs.Prelude.{◌==◌}
use Rattle.std.proofs.lemmas.Bool.{true≢false}
use Rattle.std.proofs.lemmas.Result.{err_from_is_err_and}
use Rattle.or_geom.specs.Gathering.{SomeHas}
use Rattle.cell_roles.specs.LeafRoles.{leaf_role_name}
use Rattle.tech_rules.specs.declared.tech.RoleName.{RoleName}
use Rattle.tech_rules.specs.declared.tech.RoleRows.{RoleRows}
use Rattle.role_tables.specs.Fault.{IsRowsFault}
use Rattle.role_tables.specs.Table.{texts_of}
use Rattle.role_tables.proofs.TableLaws.{rows_fault}
use Rattle.role_tables.proofs.read.read_table.Goals as goal

pub returns-in_err-rows-clause-err : goal.returns-in_err-rows-clause-err
returns-in_err-rows-clause-err c =
    let p = err_from_is_err_and c.from_residual-in_err-rows.result c.from_residual-in_err-rows.ensures.1 in
    let role = c.args.role in
    let texts : c.texts_of-texts.result.now ≡ texts_of c.args.tech.now.tables role = c.texts_of-texts.ensures ∙ ap (λ (l : List RoleRows). texts_of l role) c.as_slice.ensures in
    let bad = subst (λ (l : List (List ℕ)). IsRowsFault role l c.in_err-rows.field-0.0) texts c.in_err-rows.ensures.err in
    let cell = subst (λ (l : List RoleName). SomeHas (λ (entry : RoleName). entry.role ≡ leaf_role_name role) l) c.as_slice-2.ensures (c.names_cell.ensures.0 c.if-not-names_cell.false) in
    let some : texts_of c.args.tech.now.tables role ≢ [] = λ none.
    let test : (length c.texts_of-texts.result.now == 0) ≡ true = ap (λ (l : List (List ℕ)). length l == 0) (texts ∙ none) in
    true≢false (sym test ∙ sym c.is_empty.ensures ∙ c.if-is_empty.false) in
    rw (p.1, p.2) (rows_fault c.args.tech.now role _ (record { cell = cell; rows = some }) bad)
