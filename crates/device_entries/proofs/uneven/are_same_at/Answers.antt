use Rattle.std.proofs.Common.{ap, ◌∙◌}
use Rattle.std.specs.Ordering.{is_eq}
use Rattle.device_entries.proofs.PartingLaws.{same_at, not_same_at, past_first, past_second}
use Rattle.device_entries.proofs.uneven.are_same_at.Goals as goal

pub returns-in-Some-get-clause-yes : goal.returns-in-Some-get-clause-yes
returns-in-Some-get-clause-yes c = λ yes.
    let a = c.in-Some.ensures.lookup in
    let b = c.in-Some-get.ensures.lookup in
    same_at c.args.entries.now c.args.others.now c.args.place c.in-Some.entry.now c.in-Some-get.other.now c.is_eq.result a.3.0 a.1 b.3.0 b.1 (c.is_eq.ensures ∙ ap is_eq c.compare.ensures) yes

pub returns-in-Some-get-clause-no : goal.returns-in-Some-get-clause-no
returns-in-Some-get-clause-no c = λ no same.
    let a = c.in-Some.ensures.lookup in
    let b = c.in-Some-get.ensures.lookup in
    not_same_at c.args.entries.now c.args.others.now c.args.place c.in-Some.entry.now c.in-Some-get.other.now c.is_eq.result a.1 b.1 (c.is_eq.ensures ∙ ap is_eq c.compare.ensures) no same

pub returns-in-None-get-clause-no : goal.returns-in-None-get-clause-no
returns-in-None-get-clause-no c = λ no same. let b = c.in-None-get.ensures.lookup in past_second c.args.entries.now c.args.others.now c.args.place b.3 same

pub returns-in-None-clause-no : goal.returns-in-None-clause-no
returns-in-None-clause-no c = λ no same. let a = c.in-None.ensures.lookup in past_first c.args.entries.now c.args.others.now c.args.place a.3 same
