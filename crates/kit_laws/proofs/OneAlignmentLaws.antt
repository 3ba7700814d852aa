-- Leaves fit each other, or have one first fault.
use Rattle.std.proofs.Common.{◌≡◌, ◌≢◌, inl, inr, ℕ, List, Some, refl, sym, ap, subst, ◌∙◌}
use Rattle.std.specs.Prelude.{slice_get}
use Rattle.std.specs.List.{AllByRecursion}
use Rattle.or_geom.proofs.ListLaws.{one_at, contained_at, all_contained}
use Rattle.cell_roles.specs.declared.role.Role.{Role}
use Rattle.cell_roles.specs.Roles.{role_name}
use Rattle.kit_laws.proofs.EachLaws.{one_first}
use Rattle.leaf_tables.specs.declared.fault.KitFault.{KitFault}
use Rattle.leaf_tables.specs.declared.fault.KitFault.TheVariants as kit_fault
use Rattle.leaf_tables.specs.declared.kit.Leaf.{Leaf}
use Rattle.leaf_tables.specs.Alignment.{AreAligned, Face, HeightIsOdd, IsFirstOdd, IsMisaligned, PinIsOdd, PinPair, SameHeight, SameWidth, WidthIsOdd, heights_equal, pins_face, widths_equal}
use Rattle.kit_laws.proofs.StageLaws.{AtMostOne, Staged, ToldOf, one_staged, none_staged}

-- the first item that hasn't P is one
pub one_odd : {X : Type 0} (P : X → Type 0) (items : List X) (x y : X) → IsFirstOdd P items x → IsFirstOdd P items y → x ≡ y
one_odd {X} P items x y a b =
    let Odd : ℕ → Type 0 = λ k. (z : X) × (slice_get items k ≡ Some z) × (P z → ⊥) in
    let place : a.place ≡ b.place = one_first Odd a.place b.place (x, a.there, a.odd) (y, b.there, b.odd) (λ k lt o. o.2 (a.before k o.0 lt o.1)) (λ k lt o. o.2 (b.before k o.0 lt o.1)) in
    one_at items b.place x y (subst (λ (k : ℕ). slice_get items k ≡ Some x) place a.there) b.there

-- and there is none where all have
pub odd_or_all : {X : Type 0} (P : X → Type 0) (items : List X) (x : X) → IsFirstOdd P items x → AllByRecursion P items → ⊥
odd_or_all P items x a all = a.odd (all_contained P items x all (contained_at items a.place x a.there))

-- the stages: heights, widths, pins
record IsOddPin (leaves : List Leaf) (named : List ℕ × List ℕ) : Type 0 where
  pub is : PinIsOdd leaves named.0 named.1

abbrev OddHeight : List Leaf → KitFault → Type 0
OddHeight leaves = ToldOf (HeightIsOdd leaves) (λ name. kit_fault.HeightDiffers name)

abbrev OddWidth : List Leaf → KitFault → Type 0
OddWidth leaves = ToldOf (WidthIsOdd leaves) (λ name. kit_fault.WidthDiffers name)

abbrev OddPin : List Leaf → KitFault → Type 0
OddPin leaves = ToldOf (IsOddPin leaves) (λ (named : List ℕ × List ℕ). kit_fault.EdgePin named.0 named.1)

abbrev AfterHeights : List Leaf → KitFault → Type 0
AfterHeights leaves = Staged (OddWidth leaves) (AllByRecursion (SameWidth leaves) widths_equal) (OddPin leaves)

abbrev AlignmentStages : List Leaf → KitFault → Type 0
AlignmentStages leaves = Staged (OddHeight leaves) (AllByRecursion (SameHeight leaves) heights_equal) (AfterHeights leaves)

same_height : (leaves : List Leaf) → AtMostOne (OddHeight leaves)
same_height leaves f g a b =
    let pair = one_odd (SameHeight leaves) heights_equal a.1.pair b.1.pair a.1.first b.1.first in
    let name : a.0 ≡ b.0 = a.1.named ∙ ap (λ (p : Role × Role). role_name p.0) pair ∙ sym b.1.named in
    a.2 ∙ ap (λ (n : List ℕ). kit_fault.HeightDiffers n) name ∙ sym b.2

same_width : (leaves : List Leaf) → AtMostOne (OddWidth leaves)
same_width leaves f g a b =
    let pair = one_odd (SameWidth leaves) widths_equal a.1.pair b.1.pair a.1.first b.1.first in
    let name : a.0 ≡ b.0 = a.1.named ∙ ap (λ (p : Role × Role). role_name p.0) pair ∙ sym b.1.named in
    a.2 ∙ ap (λ (n : List ℕ). kit_fault.WidthDiffers n) name ∙ sym b.2

same_pin : (leaves : List Leaf) → AtMostOne (OddPin leaves)
same_pin leaves f g a b =
    let p = a.1.is in
    let q = b.1.is in
    let pair = one_odd (Face leaves) pins_face p.pair q.pair p.first q.first in
    let name : a.0.0 ≡ b.0.0 = p.named ∙ ap (λ (x : PinPair). role_name x.role) pair ∙ sym q.named in
    let pin : a.0.1 ≡ b.0.1 = p.of ∙ ap (λ (x : PinPair). x.pin) pair ∙ sym q.of in
    a.2 ∙ (λ i. kit_fault.EdgePin (name i) (pin i)) ∙ sym b.2

-- each fault of leaves that don't fit is that of a stage
alignment_stages : (leaves : List Leaf) (f : KitFault) → f ≢ kit_fault.Memory → IsMisaligned leaves f → AlignmentStages leaves f
alignment_stages leaves (kit_fault.HeightDiffers name) some is = inl (name, is, refl)
alignment_stages leaves (kit_fault.WidthDiffers name) some is = inr (is.heights, inl (name, is, refl))
alignment_stages leaves (kit_fault.EdgePin name pin) some is = inr (is.heights, inr (is.widths, ((name, pin), record { is = is }, refl)))
alignment_stages leaves kit_fault.Memory some is = absurd (some refl)
alignment_stages leaves (kit_fault.Gds fault) some is = absurd is
alignment_stages leaves (kit_fault.Spice fault) some is = absurd is
alignment_stages leaves kit_fault.NoWire some is = absurd is
alignment_stages leaves (kit_fault.Table fault) some is = absurd is
alignment_stages leaves (kit_fault.Flatten fault) some is = absurd is
alignment_stages leaves (kit_fault.Outline name) some is = absurd is
alignment_stages leaves (kit_fault.UnknownSubckt name) some is = absurd is
alignment_stages leaves (kit_fault.PortsDiffer name) some is = absurd is
alignment_stages leaves (kit_fault.PinMissing name pin) some is = absurd is
alignment_stages leaves (kit_fault.PinLayer name pin) some is = absurd is

pub one_alignment_fault : (leaves : List Leaf) (f g : KitFault) → f ≢ kit_fault.Memory → g ≢ kit_fault.Memory → IsMisaligned leaves f → IsMisaligned leaves g → f ≡ g
one_alignment_fault leaves f g some also p q =
    one_staged (OddHeight leaves) (AllByRecursion (SameHeight leaves) heights_equal) (AfterHeights leaves) (same_height leaves)
    (λ h a all. odd_or_all (SameHeight leaves) heights_equal a.1.pair a.1.first all)
    (one_staged (OddWidth leaves) (AllByRecursion (SameWidth leaves) widths_equal) (OddPin leaves) (same_width leaves)
    (λ h a all. odd_or_all (SameWidth leaves) widths_equal a.1.pair a.1.first all) (same_pin leaves))
    f g (alignment_stages leaves f some p) (alignment_stages leaves g also q)

-- leaves that fit each other have none
pub no_alignment_fault : (leaves : List Leaf) (f : KitFault) → f ≢ kit_fault.Memory → IsMisaligned leaves f → AreAligned leaves → ⊥
no_alignment_fault leaves f some p are =
    none_staged (OddHeight leaves) (AllByRecursion (SameHeight leaves) heights_equal) (AfterHeights leaves) (AreAligned leaves)
    (λ h a al. odd_or_all (SameHeight leaves) heights_equal a.1.pair a.1.first al.heights)
    (none_staged (OddWidth leaves) (AllByRecursion (SameWidth leaves) widths_equal) (OddPin leaves) (AreAligned leaves)
    (λ h a al. odd_or_all (SameWidth leaves) widths_equal a.1.pair a.1.first al.widths)
    (λ h a al. odd_or_all (Face leaves) pins_face a.1.is.pair a.1.is.first al.facing))
    f (alignment_stages leaves f some p) are
