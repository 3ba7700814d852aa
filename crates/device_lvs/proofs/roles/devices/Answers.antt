use Rattle.std.proofs.Common.{◌≡◌, ◌≢◌, ◌≤◌, List, [], length, Some, refl, sym, subst}
use Rattle.std.specs.Prelude.{slice_get}
use Rattle.std.proofs.lemmas.Option.{slice_get_read}
use Rattle.std.proofs.lemmas.Result.{err_from_is_err_and}
use Rattle.tech_rules.specs.declared.tech.Device.{Device}
use Rattle.tech_rules.specs.declared.tech.RoleName.{RoleName}
use Rattle.device_lvs.specs.RoleSteps.{leaf_files, AreComparedBelow, HasEarlierCell}
use Rattle.device_lvs.proofs.RoleLaws.{compared_more, compared_again, faults, answers, not_empty}
use Rattle.device_lvs.proofs.roles.devices.Goals as goal

pub loop-place-preserved-then-has_earlier_cell : goal.loop-place-preserved-then-has_earlier_cell
loop-place-preserved-then-has_earlier_cell c =
    let place = c.loop-place.place in
    let again : HasEarlierCell c.args.tech.now.roles place = subst (λ (l : List RoleName). HasEarlierCell l place) c.as_slice-roles.ensures (c.if-has_earlier_cell.ensures.0 refl) in
    compared_again (leaf_files c.args.tech.now c.args.lib.now c.args.deck.now) place c.loop-place.first again c.loop-place.invariant

pub loop-place-preserved : goal.loop-place-preserved
loop-place-preserved c =
    let files = leaf_files c.args.tech.now c.args.lib.now c.args.deck.now in
    let place = c.loop-place.place in
    let entry = c.index-roles-place.result in
    let here : slice_get c.args.tech.now.roles place ≡ Some entry =
    subst (λ (l : List RoleName). slice_get l place ≡ Some entry) c.as_slice-roles.ensures (slice_get_read c.as_slice-roles.result.now _ place entry refl c.loop-place-test.true c.index-roles-place.is) in
    subst (AreComparedBelow files _) (sym c.earlier-first.ensures) (compared_more files place entry c.loop-place.first c.in_ok-found.found here c.loop-place.invariant c.in_ok-found.ensures.compared)

pub returns-in_err-found-clause-fault : goal.returns-in_err-found-clause-fault
returns-in_err-found-clause-fault c =
    let files = leaf_files c.args.tech.now c.args.lib.now c.args.deck.now in
    let place = c.loop-place.place in
    let entry = c.index-roles-place.result in
    let here : slice_get c.args.tech.now.roles place ≡ Some entry =
    subst (λ (l : List RoleName). slice_get l place ≡ Some entry) c.as_slice-roles.ensures (slice_get_read c.as_slice-roles.result.now _ place entry refl c.loop-place-test.true c.index-roles-place.is) in
    let some : c.args.tech.now.devices ≢ [] = subst (λ (l : List Device). l ≢ []) c.as_slice.ensures (not_empty c.as_slice.result.now c.is_empty.result c.is_empty.ensures c.if-is_empty.false) in
    let p = err_from_is_err_and c.from_residual.result c.from_residual.ensures.1 in
    rw (p.1, p.2) (faults files place entry c.loop-place.first c.in_err-found.field-0.0 some here c.loop-place.invariant c.in_err-found.ensures.fault)

pub returns-clause-answer : goal.returns-clause-answer
returns-clause-answer c =
    let files = leaf_files c.args.tech.now c.args.lib.now c.args.deck.now in
    let some : c.args.tech.now.devices ≢ [] = subst (λ (l : List Device). l ≢ []) c.as_slice.ensures (not_empty c.as_slice.result.now c.is_empty.result c.is_empty.ensures c.if-is_empty.false) in
    let past : length c.args.tech.now.roles ≤ c.loop-place.place = subst (λ (l : List RoleName). length l ≤ c.loop-place.place) c.as_slice-roles.ensures c.loop-place-test.false in
    answers files c.loop-place.place c.loop-place.first some past c.loop-place.invariant
