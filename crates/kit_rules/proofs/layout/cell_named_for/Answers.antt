use Rattle.std.proofs.Common.{◌≡◌, ◌∙◌, List, ℕ, Some, None, sym, refl, ap, subst}
use Rattle.std.specs.Prelude.{option_map}
use Rattle.std.specs.List.{find}
use Rattle.std.specs.Str.{bytes_eq}
use Rattle.tech_rules.specs.declared.tech.RoleName.{RoleName}
use Rattle.or_geom.proofs.NameLaws.{other_name}
use Rattle.kit_rules.proofs.FindLaws.{find_here, find_past, find_none, texts_same}
use Rattle.kit_rules.proofs.layout.cell_named_for.Goals as goal

pub returns-then-is : goal.returns-then-is
returns-then-is c =
    let name = c.name-name.result.now in
    let item = c.entry-item.result in
    let found = find_here (λ (entry : RoleName). bytes_eq entry.role name) c.args.roles.now c.loop-entry.entry-index item c.loop-entry-test.true c.entry-item.is
    (texts_same item.role name (c.if-is.ensures.0 refl ∙ c.as_bytes.ensures.value)) c.loop-entry.invariant in
    sym (subst (λ (n : List ℕ). option_map (λ (entry : RoleName). entry.cell) (find (λ (entry : RoleName). bytes_eq entry.role n) c.args.roles.now) ≡ Some item.cell) c.name-name.ensures
    (ap (option_map (λ (entry : RoleName). entry.cell)) found))

pub loop-entry-preserved : goal.loop-entry-preserved
loop-entry-preserved c =
    let name = c.name-name.result.now in
    let item = c.entry-item.result in
    find_past (λ (entry : RoleName). bytes_eq entry.role name) c.args.roles.now c.loop-entry.entry-index item c.loop-entry-test.true c.entry-item.is
    (other_name item.role name (λ e. let same = c.if-is.ensures.1 (e ∙ sym c.as_bytes.ensures.value) in absurd cc)) c.loop-entry.invariant

pub returns : goal.returns
returns c =
    let name = c.name-name.result.now in
    let none = find_none (λ (entry : RoleName). bytes_eq entry.role name) c.args.roles.now c.loop-entry.entry-index c.loop-entry-test.false c.loop-entry.invariant in
    sym (subst (λ (n : List ℕ). option_map (λ (entry : RoleName). entry.cell) (find (λ (entry : RoleName). bytes_eq entry.role n) c.args.roles.now) ≡ None) c.name-name.ensures
    (ap (option_map (λ (entry : RoleName). entry.cell)) none))
