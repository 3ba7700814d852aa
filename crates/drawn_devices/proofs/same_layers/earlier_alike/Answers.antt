use Rattle.std.proofs.Common.{◌≡◌, inl, inr, ℕ, ◌+◌, ◌<◌, List, length, get_or, Some, refl, sym, subst, ◌∙◌, arith}
use Rattle.std.specs.Prelude.{slice_get}
use Rattle.std.proofs.lemmas.Option.{same_Some, slice_get_read}
use Rattle.or_geom.proofs.ListLaws.{below_or}
use Rattle.tech_rules.specs.declared.tech.Device.{Device}
use Rattle.drawn_devices.specs.SameLayers.{HaveSameLayers, IsAlikeBefore}
use Rattle.drawn_devices.proofs.same_layers.earlier_alike.Goals as goal

still_none : (devices : List Device) (index k : ℕ) (a b : Device) → slice_get devices k ≡ Some a → slice_get devices index ≡ Some b → (HaveSameLayers a b → ⊥) → ((e : ℕ) → e < k → IsAlikeBefore devices index e → ⊥) → (e : ℕ) → e < k + 1 → IsAlikeBefore devices index e → ⊥
still_none devices index k a b there here none so_far e below alike = elim (below_or e k below) [
  | inl less ↦ so_far e less alike
  | inr same ↦
      let at_k : slice_get devices k ≡ Some alike.other = subst (λ (n : ℕ). slice_get devices n ≡ Some alike.other) same alike.there in
      let one : alike.other ≡ a = same_Some alike.other a (sym at_k ∙ there) in
      let two : alike.device ≡ b = same_Some alike.device b (sym alike.here ∙ here) in
      none (subst (λ (d : Device). HaveSameLayers d b) one (subst (λ (d : Device). HaveSameLayers alike.other d) two alike.same))
]

pub loop-earlier-preserved : goal.loop-earlier-preserved
loop-earlier-preserved c =
    let devices = c.args.devices.now in
    let k = c.loop-earlier.earlier in
    let a = c.index-devices-from.result in
    let b = c.index-devices-from-in-loop-earlier.result in
    let there : slice_get devices k ≡ Some a = slice_get_read devices (length devices) k a refl (omega (arith, c.requires, c.loop-earlier-test.true)) (subst (λ (n : ℕ). a ≡ get_or devices n a) c.from.ensures c.index-devices-from.is) in
    let here : slice_get devices c.args.index ≡ Some b = slice_get_read devices (length devices) c.args.index b refl c.requires (subst (λ (n : ℕ). b ≡ get_or devices n b) c.from-in-loop-earlier.ensures c.index-devices-from-in-loop-earlier.is) in
    still_none devices c.args.index k a b there here (λ same. let yes = c.if-have_same_layers.ensures.1 same in absurd cc) c.loop-earlier.invariant

pub returns : goal.returns
returns c = λ e alike. c.loop-earlier.invariant e (omega (arith, alike.before, c.loop-earlier-test.false)) alike
