use Rattle.std.proofs.Common.{◌≡◌, map, codes, sym, ap, ◌∙◌}
use Rattle.std.specs.Cmp.{unsigned_Decides}
use Rattle.std.proofs.lemmas.Bool.{true≢false}
use Rattle.std.proofs.lemmas.Slice.Eq.{slice_eq-Decides}
use Rattle.cell_roles.specs.Acts.{Act}
use Rattle.cell_roles.specs.RowTexts.{drive_char, join_char}
use Rattle.cell_roles.specs.Tables.{TableRow}
use Rattle.role_tables.specs.Columns.{drive_of, join_of}
use Rattle.role_tables.proofs.CodeLaws.{drive_code, join_code, same_column}
use Rattle.role_tables.proofs.row.RowText.says_same.Goals as goal
use Rattle.role_tables.proofs.row.RowText.says_same.Goals.{then-eq, else-eq}

pub returns-else-eq-2 : goal.returns-else-eq-2
returns-else-eq-2 c =
    let first = c.self.inside in
    let second = c.other.inside in (
      (λ is. absurd (true≢false (sym is ∙ c.if-eq-2.false))),
      (λ acts.
          let drives : map drive_of first.drives.now ≡ map drive_of second.drives.now =
          ap (λ (r : TableRow). r.drives) c.self.view_is ∙ ap (λ (a : Act). a.drives) acts ∙ sym (ap (λ (r : TableRow). r.drives) c.other.view_is) in
          let joins : map join_of first.joins.now ≡ map join_of second.joins.now =
          ap (λ (r : TableRow). r.joins) c.self.view_is ∙ ap (λ (a : Act). a.joins) acts ∙ sym (ap (λ (r : TableRow). r.joins) c.other.view_is) in
          let same_drives = same_column drive_of drive_char (codes "01lhz") drive_code first.drives.now second.drives.now c.self.invariant.drives c.other.invariant.drives drives in
          let same_joins = same_column join_of join_char (codes "j-") join_code first.joins.now second.joins.now c.self.invariant.joins c.other.invariant.joins joins in
          elim c.if-eq.branch [
            | then-eq w ↦
                let is = (slice_eq-Decides unsigned_Decides first.joins.now second.joins.now w.eq-then-eq.result w.eq-then-eq.ensures).1 same_joins in
                w.value-is ∙ is
            | else-eq w ↦
                let is = (slice_eq-Decides unsigned_Decides first.drives.now second.drives.now c.eq.result c.eq.ensures).1 same_drives in
                absurd (true≢false (sym is ∙ w.if-eq.false))
          ]),
    )
