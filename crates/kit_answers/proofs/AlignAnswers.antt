-- Leaves fit each other, or have a first fault.
use Rattle.std.proofs.Common.{◌≡◌, ◌≢◌, ◌⊎◌, inl, inr, ℤ, List, length, Option, refl, arith}
use Rattle.std.specs.List.{AllByRecursion}
use Rattle.cell_roles.specs.declared.role.Role.{Role}
use Rattle.cell_roles.specs.Roles.{role_name}
use Rattle.leaf_tables.specs.declared.fault.KitFault.{KitFault}
use Rattle.leaf_tables.specs.declared.fault.KitFault.TheVariants as kit_fault
use Rattle.leaf_tables.specs.declared.kit.Leaf.{Leaf}
use Rattle.leaf_tables.specs.Alignment.{AreAligned, Face, IsFirstOdd, IsMisaligned, PinPair, SameHeight, SameWidth, end_in, height_in, heights_equal}
use Rattle.leaf_tables.specs.Alignment.{pins_face, width_in, widths_equal}
use Rattle.leaf_tables.proofs.AlignLaws.{all_each}
use Rattle.kit_answers.proofs.DecidingLaws.{Decided, all_or_first, decide_int, decide_options}

-- all items have it, or one is the first that hasn't
pub all_or_odd : {X : Type 0} (P : X → Type 0) (items : List X) → ((x : X) → Decided (P x))
    → AllByRecursion P items ⊎ ((x : X) × IsFirstOdd P items x)
all_or_odd {X} P items each = elim (all_or_first P (λ (x : X). P x → ⊥) items (λ k x there. each x)) [
  | inl all ↦ inl (all_each P items (length items) (omega arith) (λ k x lt there. all k x there))
  | inr first ↦ inr (first.item, record { place = first.place; there = first.there; odd = first.bad; before = first.before })
]

pub decide_measures : (a b : Option ℤ) → Decided (a ≡ b)
decide_measures = decide_options decide_int

pub aligned_or_fault : (leaves : List Leaf) → AreAligned leaves ⊎ ((fault : KitFault) × (fault ≢ kit_fault.Memory) × IsMisaligned leaves fault)
aligned_or_fault leaves =
    elim (all_or_odd (SameHeight leaves) heights_equal (λ (p : Role × Role). decide_measures (height_in leaves p.0) (height_in leaves p.1))) [
      | inr odd ↦ inr (kit_fault.HeightDiffers (role_name odd.0.0), λ e. absurd (cc), record { pair = odd.0; first = odd.1; named = refl })
      | inl heights ↦
          elim (all_or_odd (SameWidth leaves) widths_equal (λ (p : Role × Role). decide_measures (width_in leaves p.0) (width_in leaves p.1))) [
            | inr odd ↦
                inr (
                  kit_fault.WidthDiffers (role_name odd.0.0),
                  λ e. absurd (cc),
                  record { heights = heights; pair = odd.0; first = odd.1; named = refl },
                )
            | inl widths ↦
                elim (all_or_odd (Face leaves) pins_face
                (λ (p : PinPair). decide_measures (end_in leaves p.role p.pin p.edge) (end_in leaves p.other p.other_pin p.edge))) [
                  | inr odd ↦ inr (
                    kit_fault.EdgePin (role_name odd.0.role) odd.0.pin,
                    λ e. absurd (cc),
                    record { heights = heights; widths = widths; pair = odd.0; first = odd.1; named = refl; of = refl },
                  )
                  | inl facing ↦ inl (record { heights = heights; widths = widths; facing = facing })
                ]
          ]
    ]
