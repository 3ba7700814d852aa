use Rattle.std.proofs.Common.{◌∙◌, inl, inr, refl, sym}
use Rattle.or_geom.specs.Gathering.{SomeGives}
use Rattle.or_geom.proofs.AddsLaws.{adds_as, adds_one}
use Rattle.drawn_devices.specs.Connections.{GivesAlone, GivesConnection}
use Rattle.drawn_devices.specs.Diffusion.{IsActive}
use Rattle.drawn_devices.proofs.connections.add_connection.Goals as goal

pub returns-then-is_active : goal.returns-then-is_active
returns-then-is_active c =
    let active = c.if-is_active.ensures.0 refl in
    adds_as _ _ (SomeGives GivesAlone c.args.connect.now.to) (GivesConnection c.args.devices.now c.args.connect.now) (λ x g. inl (active, g)) (λ x g. elim g [ inl one ↦ one.1 | inr other ↦ absurd (other.0 active) ])
    (rw c.as_slice.ensures at c.in_ok-add_alone.ensures)

pub returns : goal.returns
returns c =
    let off : IsActive c.args.devices.now c.args.connect.now.cut → ⊥ = λ active. let yes = c.if-is_active.ensures.1 active in absurd cc in
    adds_one _ _ _ (GivesConnection c.args.devices.now c.args.connect.now) c.in_ok-push.ensures.items (inr (off, c.in_ok-copy_of.ensures)) (λ x g. elim g [ inl one ↦ absurd (off one.0) | inr other ↦ other.1 ∙ sym c.in_ok-copy_of.ensures ])
