use Rattle.std.proofs.Common.{refl, ℕ, List, ◌++◌, ◌∷◌, [], Bool, take, ◌+◌, sym, ap, ◌∙◌, subst, arith}
use Rattle.std.specs.Prelude.{if◌then◌else◌}
use Rattle.or_geom.specs.Gathering.{SomeHas}
use Rattle.cell_roles.specs.Tables.{TableRow}
use Rattle.role_tables.specs.Fault.{IsBadText}
use Rattle.role_tables.specs.Point.{MatchOnePoint}
use Rattle.role_tables.specs.Table.{IsWrittenAs, AreRoleRows}
use Rattle.role_tables.proofs.RowsLaws.{row_more, index_fits, first_bad}
use Rattle.role_tables.proofs.rows.read_rows.Goals as goal

pub overflow_cast-result : goal.overflow_cast-result
overflow_cast-result c =
    let fits = index_fits c.args.role c.args.texts.now c.loop-i.i c.loop-i.rows.items c.loop-i.auto.i-end c.loop-i.invariant in
    omega arith

pub returns-in_default-clause-err : goal.returns-in_default-clause-err
returns-in_default-clause-err c =
    let bad = subst (λ (t : List ℕ). IsBadText c.args.role c.loop-i.rows.items t) c.as_bytes.ensures
    (subst (λ (rows : List TableRow). IsBadText c.args.role rows c.as_bytes.result.now) c.deref.ensures.value (c.in_default.ensures.none refl)) in
    (c.in_ok-name_of.ensures, first_bad c.args.role c.args.texts.now c.loop-i.i c.index-texts-i.result c.loop-i.rows.items c.loop-i-test.true c.index-texts-i.is c.loop-i.invariant bad)

pub loop-i-preserved : goal.loop-i-preserved
loop-i-preserved c =
    let rows = c.loop-i.rows.items in
    let row = c.in-Some.row in
    let pushed = c.push.ensures.items ∙ ap (λ (b : Bool). if b then rows ++ row ∷ [] else rows) (sym c.in_ok-map_err.ensures.variant) in
    let written = subst (λ (t : List ℕ). IsWrittenAs c.args.role t row) c.as_bytes.ensures c.in-Some.ensures.some in
    let apart = subst (λ (l : List TableRow). SomeHas (MatchOnePoint row) l → ⊥) c.deref.ensures.value c.in-Some.ensures.apart in
    subst (λ (l : List TableRow). AreRoleRows c.args.role (take (c.loop-i.i + 1) c.args.texts.now) l) (sym pushed)
    (row_more c.args.role c.args.texts.now c.loop-i.i c.index-texts-i.result rows row c.loop-i-test.true c.index-texts-i.is c.loop-i.invariant written apart)
