use Rattle.std.proofs.Common.{◌≡◌, inl, inr, ℕ, ◌+◌, ◌<◌, List, length, Some, refl, sym, ap, subst, ◌∙◌, arith}
use Rattle.std.specs.Prelude.{slice_get}
use Rattle.std.proofs.lemmas.Option.{same_Some, slice_get_read}
use Rattle.or_geom.proofs.ListLaws.{below_or}
use Rattle.tech_rules.specs.declared.tech.RoleName.{RoleName}
use Rattle.device_lvs.specs.RoleSteps.{HasEarlierCell}
use Rattle.device_lvs.proofs.roles.has_earlier_cell.Goals as goal

still_none : (roles : List RoleName) (place k : ℕ) (a b : RoleName) → slice_get roles k ≡ Some a → slice_get roles place ≡ Some b → (a.cell ≡ b.cell → ⊥) → ((h : HasEarlierCell roles place) → h.earlier < k → ⊥) → (h : HasEarlierCell roles place) → h.earlier < k + 1 → ⊥
still_none roles place k a b there here none so_far h below = elim (below_or h.earlier k below) [
  | inl less ↦ so_far h less
  | inr same ↦
      let at_k : slice_get roles k ≡ Some h.other = subst (λ (n : ℕ). slice_get roles n ≡ Some h.other) same h.there in
      let one : h.other ≡ a = same_Some h.other a (sym at_k ∙ there) in
      let two : h.entry ≡ b = same_Some h.entry b (sym h.here ∙ here) in
      none (ap (λ (r : RoleName). r.cell) (sym one) ∙ (h.cell ∙ ap (λ (r : RoleName). r.cell) two))
]

pub loop-earlier-preserved : goal.loop-earlier-preserved
loop-earlier-preserved c =
    let roles = c.args.roles.now in
    still_none roles c.args.place c.loop-earlier.earlier c.index-roles-earlier.result c.index-roles-place.result
    (slice_get_read roles (length roles) c.loop-earlier.earlier c.index-roles-earlier.result refl (omega (arith, c.requires, c.loop-earlier-test.true)) c.index-roles-earlier.is)
    (slice_get_read roles (length roles) c.args.place c.index-roles-place.result refl c.requires c.index-roles-place.is)
    (λ same. let yes = c.if-have_one_cell.ensures.1 same in absurd cc) c.loop-earlier.invariant

pub returns : goal.returns
returns c = (λ yes. absurd cc, λ h. absurd (c.loop-earlier.invariant h (omega (arith, h.before, c.loop-earlier-test.false))))
