use Rattle.std.proofs.Common.{◌≡◌, ℕ, List, length, true, refl, sym, ap, ◌∙◌}
use Rattle.std.specs.Prelude.{◌==◌}
use Rattle.std.proofs.lemmas.Bool.{true≢false}
use Rattle.role_tables.proofs.CutLaws.{looks_cut, stored_cut, drives_cut, joins_cut, next_cut, after_looks, at_drives, at_joins, at_next, after_next, cut_written, counted, none_left}
use Rattle.role_tables.proofs.row.RowText.cut.Goals as goal

pub returns-in_err-looks-clause-none : goal.returns-in_err-looks-clause-none
returns-in_err-looks-clause-none c none row w =
    c.in_err-looks.ensures.none refl _ _ (looks_cut c.args.role c.args.text.now row _ (counted _ _ _ c.inputs.ensures) w)

pub returns-in_err-stored-clause-none : goal.returns-in_err-stored-clause-none
returns-in_err-stored-clause-none c none row w =
    c.in_err-stored.ensures.none refl _ _ (stored_cut c.args.role _ row _ (counted _ _ _ c.stored.ensures) w.widths
    (after_looks c.args.role c.args.text.now _ _ row _ (counted _ _ _ c.inputs.ensures) c.in_ok-looks.ensures.some w))

pub returns-in_err-drives-clause-none : goal.returns-in_err-drives-clause-none
returns-in_err-drives-clause-none c none row w =
    c.in_err-drives.ensures.none refl _ _ (drives_cut c.args.role _ row _ (counted _ _ _ c.driven.ensures) w.widths
    (at_drives c.args.role c.args.text.now _ _ _ _ row _ _ (counted _ _ _ c.inputs.ensures) (counted _ _ _ c.stored.ensures)
    c.in_ok-looks.ensures.some c.in_ok-stored.ensures.some w))

pub returns-in_err-joins-clause-none : goal.returns-in_err-joins-clause-none
returns-in_err-joins-clause-none c none row w =
    c.in_err-joins.ensures.none refl _ _ (joins_cut c.args.role _ row _ (counted _ _ _ c.joined.ensures) w.widths
    (at_joins c.args.role c.args.text.now _ _ _ _ _ _ row _ _ _ (counted _ _ _ c.inputs.ensures) (counted _ _ _ c.stored.ensures)
    (counted _ _ _ c.driven.ensures) c.in_ok-looks.ensures.some c.in_ok-stored.ensures.some c.in_ok-drives.ensures.some w))

pub returns-in_err-next-clause-none : goal.returns-in_err-next-clause-none
returns-in_err-next-clause-none c none row w =
    c.in_err-next.ensures.none refl _ _ (next_cut c.args.role _ row _ (counted _ _ _ c.stored-2.ensures) w.widths
    (at_next c.args.role c.args.text.now _ _ _ _ _ _ _ _ row _ _ _ _ (counted _ _ _ c.inputs.ensures) (counted _ _ _ c.stored.ensures)
    (counted _ _ _ c.driven.ensures) (counted _ _ _ c.joined.ensures) c.in_ok-looks.ensures.some c.in_ok-stored.ensures.some
    c.in_ok-drives.ensures.some c.in_ok-joins.ensures.some w))

pub returns-then-not-is_empty-clause-none : goal.returns-then-not-is_empty-clause-none
returns-then-not-is_empty-clause-none c none row w =
    let behind = after_next c.args.role _ _ _ row _ (counted _ _ _ c.stored-2.ensures) c.in_ok-next.ensures.some w.widths
    (at_next c.args.role c.args.text.now _ _ _ _ _ _ _ _ row _ _ _ _ (counted _ _ _ c.inputs.ensures) (counted _ _ _ c.stored.ensures)
    (counted _ _ _ c.driven.ensures) (counted _ _ _ c.joined.ensures) c.in_ok-looks.ensures.some c.in_ok-stored.ensures.some
    c.in_ok-drives.ensures.some c.in_ok-joins.ensures.some w) in
    let empty : (length c.in_ok-next.behind_next.now == 0) ≡ true = ap (λ (l : List ℕ). length l == 0) behind in
    absurd (true≢false (sym empty ∙ sym c.is_empty.ensures ∙ c.if-not-is_empty.true))

pub returns-clause-some : goal.returns-clause-some
returns-clause-some c =
    cut_written c.args.role c.args.text.now _ _ _ _ _ _ _ _ _ _ _ _ _ _ _ (counted _ _ _ c.inputs.ensures) (counted _ _ _ c.stored.ensures)
    (counted _ _ _ c.driven.ensures) (counted _ _ _ c.joined.ensures) (counted _ _ _ c.stored-2.ensures) c.in_ok-looks.ensures.some
    c.in_ok-stored.ensures.some c.in_ok-drives.ensures.some c.in_ok-joins.ensures.some c.in_ok-next.ensures.some
    (none_left _ (sym c.is_empty.ensures ∙ c.if-not-is_empty.false))
