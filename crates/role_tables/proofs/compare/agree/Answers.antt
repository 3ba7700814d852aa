use Rattle.std.proofs.Common.{◌≡◌, Some, sym, ap, ◌∙◌}
use Rattle.cell_roles.specs.Acts.{Act}
use Rattle.cell_roles.specs.Tables.{TablePoint}
use Rattle.role_tables.specs.Point.{row_act}
use Rattle.role_tables.proofs.PointLaws.{next_long, found_says, none_says}
use Rattle.role_tables.proofs.compare.agree.Goals as goal

pub returns-in_default : goal.returns-in_default
returns-in_default c =
    let point : TablePoint = record { inputs = c.args.inputs.now; stored = c.args.stored.now } in
    let none = none_says c.args.rows.now point (sym c.in_default.ensures) in
    ((λ no. absurd cc), (λ same. let said = same.by_rows in absurd cc))

pub says_same-requires-clause-first : goal.says_same-requires-clause-first
says_same-requires-clause-first c =
    let point : TablePoint = record { inputs = c.args.inputs.now; stored = c.args.stored.now } in
    next_long c.args.role c.args.rows.now point c.in-Some.row.now c.requires.rows (sym c.in-Some.ensures) ∙ sym c.requires.bits

pub says_same-requires-clause-second : goal.says_same-requires-clause-second
says_same-requires-clause-second c =
    let point : TablePoint = record { inputs = c.args.inputs.now; stored = c.args.stored.now } in
    next_long c.args.role c.args.others.now point c.in-Some-first_match.other.now c.requires.others (sym c.in-Some-first_match.ensures) ∙ sym c.requires.bits

pub returns-in-Some-first_match : goal.returns-in-Some-first_match
returns-in-Some-first_match c =
    let point : TablePoint = record { inputs = c.args.inputs.now; stored = c.args.stored.now } in
    let first = found_says c.args.rows.now point c.in-Some.row.now (sym c.in-Some.ensures) in
    let second = found_says c.args.others.now point c.in-Some-first_match.other.now (sym c.in-Some-first_match.ensures) in (
      (λ is. record {
        said = row_act c.in-Some.row.now c.args.stored.now;
        by_rows = first;
        by_others = second ∙ ap (λ (a : Act). Some a) (sym (c.says_same.ensures.0 is));
      }),
      (λ same.
          let of_rows = same.by_rows in
          let of_others = same.by_others in
          let one : row_act c.in-Some.row.now c.args.stored.now ≡ row_act c.in-Some-first_match.other.now c.args.stored.now = cc in
          c.says_same.ensures.1 one),
    )

pub returns-in-None : goal.returns-in-None
returns-in-None c =
    let point : TablePoint = record { inputs = c.args.inputs.now; stored = c.args.stored.now } in
    let none = none_says c.args.others.now point (sym c.in-None.ensures) in
    ((λ no. absurd cc), (λ same. let said = same.by_others in absurd cc))
