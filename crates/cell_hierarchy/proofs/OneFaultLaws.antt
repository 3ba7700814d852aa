-- A structure has one refusal, and none where it has flat lists.
use Rattle.std.proofs.Common.{◌≡◌, ◌≢◌, inl, inr, ℕ, ◌^◌, ◌<◌, min, List, refl, ap, sym, ◌∙◌, arith, ℤ}
use Rattle.std.specs.Ordering.{int_cmp}
use Rattle.std.proofs.lemmas.Map.Lookups.{exact_signed, exact_pairs}
use Rattle.or_geom.specs.declared.shape.Point.{Point}
use Rattle.or_geom.proofs.LeastLaws.{neither_after, least_is_one}
use Rattle.gds_library.specs.declared.library.Structure.{Structure}
use Rattle.tech_rules.specs.declared.tech.Layer.{Layer}
use Rattle.cell_chains.specs.Chains.{IsMissing, IsCyclic, IsDepth, IsSound}
use Rattle.cell_chains.proofs.DepthLaws.{depth_is_one}
use Rattle.cell_hierarchy.specs.Counts.{Total, AreFew, AreMany, IsTotalWithin}
use Rattle.cell_hierarchy.specs.OneTotal.{IsOneTotal}
use Rattle.cell_hierarchy.specs.declared.fault.FlattenFault.{FlattenFault}
use Rattle.cell_hierarchy.specs.declared.fault.FlattenFault.TheVariants as flatten_fault
use Rattle.cell_hierarchy.specs.FlatLists.{point_order, IsFirstFar, HasFew, HasMany, IsFault}
use Rattle.cell_hierarchy.specs.OneAnswer.{FlattenFaultsAreUnique, FlattenFaultsExcludeShapes, FlattenFaultsExcludeLists}
use Rattle.cell_hierarchy.proofs.FarLaws.{point_total}
use Rattle.cell_hierarchy.proofs.OneListsLaws.{shapes_of_lists}

-- two totals of the top are the same
abbrev HasOneTotal : List Layer → List Structure → List ℕ → Type 0
HasOneTotal layers structs top = (a b : Total) → IsTotalWithin 32 layers structs top a → IsTotalWithin 32 layers structs top b → a ≡ b

-- a top whose longest chain is too long isn't sound
deep_unsound : (structs : List Structure) (top : List ℕ) (depth : ℕ) → IsDepth structs top depth → 32 < depth → IsSound structs top → ⊥
deep_unsound structs top depth d lt sound =
    let short = sound.short d.chain d.end d.leads in
    omega (arith, d.long, short)

-- a total isn't both few and many
few_many : (a b : Total) → a ≡ b → AreFew a → AreMany b → ⊥
few_many a b e few (inl lt) = let s = ap (λ (t : Total). t.shapes) e in omega (arith, few.shapes)
few_many a b e few (inr lt) = let s = ap (λ (t : Total). t.labels) e in omega (arith, few.labels)

-- a top doesn't have both few and many
few_not_many : (layers : List Layer) (structs : List Structure) (top : List ℕ) (shapes labels : ℕ) → HasOneTotal layers structs top → HasFew layers structs top → HasMany layers structs top shapes labels → ⊥
few_not_many layers structs top shapes labels one few many = few_many few.total many.total (one few.total many.total few.is many.is) few.few many.many

-- the first far point is one
far_is_one : (layers : List Layer) (structs : List Structure) (top : List ℕ) (a b c d : ℤ) → IsFirstFar layers structs top (record { x = a; y = b }) → IsFirstFar layers structs top (record { x = c; y = d }) → flatten_fault.Far a b ≡ flatten_fault.Far c d
far_is_one layers structs top a b c d p q =
    let first : Point = record { x = a; y = b } in
    let second : Point = record { x = c; y = d } in
    let tied = neither_after point_order point_total first second (p.first second q.far) (q.first first p.far) in
    let both = exact_pairs int_cmp int_cmp exact_signed exact_signed (a, b) (c, d) tied in
    let x = ap (λ (n : ℤ × ℤ). n.0) both in
    let y = ap (λ (n : ℤ × ℤ). n.1) both in
    λ i. flatten_fault.Far (x i) (y i)

-- the numbers of what is too many are one pair
many_is_one : (layers : List Layer) (structs : List Structure) (top : List ℕ) (a b c d : ℕ) → HasOneTotal layers structs top → HasMany layers structs top a b → HasMany layers structs top c d → flatten_fault.TooMany a b ≡ flatten_fault.TooMany c d
many_is_one layers structs top a b c d one p q =
    let same = one p.total q.total p.is q.is in
    let shapes : a ≡ c = p.standing.shapes ∙ (ap (λ (t : Total). min t.shapes (2 ^ 32)) same ∙ sym q.standing.shapes) in
    let labels : b ≡ d = p.standing.labels ∙ (ap (λ (t : Total). min t.labels (2 ^ 32)) same ∙ sym q.standing.labels) in
    λ i. flatten_fault.TooMany (shapes i) (labels i)

-- where a name is missing, that is the fault
unknown_is : (layers : List Layer) (structs : List Structure) (top name : List ℕ) (g : FlattenFault) → g ≢ flatten_fault.Memory → IsFault layers structs top (flatten_fault.UnknownStruct name) → IsFault layers structs top g → flatten_fault.UnknownStruct name ≡ g
unknown_is layers structs top name (flatten_fault.UnknownStruct other) known p q = ap flatten_fault.UnknownStruct (least_is_one (IsMissing structs top) name other p q)
unknown_is layers structs top name (flatten_fault.Cycle other) known p q = absurd (q.0 name p.has)
unknown_is layers structs top name (flatten_fault.TooDeep depth) known p q = absurd (q.0 name p.has)
unknown_is layers structs top name (flatten_fault.TooMany shapes labels) known p q = absurd (q.0.there name p.has)
unknown_is layers structs top name (flatten_fault.Far x y) known p q = absurd (q.0.there name p.has)
unknown_is layers structs top name flatten_fault.Memory known p q = absurd (known refl)

-- where a name reaches itself and none is missing, that is the fault
cycle_is : (layers : List Layer) (structs : List Structure) (top name : List ℕ) (g : FlattenFault) → g ≢ flatten_fault.Memory → IsFault layers structs top (flatten_fault.Cycle name) → IsFault layers structs top g → flatten_fault.Cycle name ≡ g
cycle_is layers structs top name (flatten_fault.UnknownStruct other) known p q = absurd (p.0 other q.has)
cycle_is layers structs top name (flatten_fault.Cycle other) known p q = ap flatten_fault.Cycle (least_is_one (IsCyclic structs top) name other p.1 q.1)
cycle_is layers structs top name (flatten_fault.TooDeep depth) known p q = absurd (q.1 name p.1.has)
cycle_is layers structs top name (flatten_fault.TooMany shapes labels) known p q = absurd (q.0.acyclic name p.1.has)
cycle_is layers structs top name (flatten_fault.Far x y) known p q = absurd (q.0.acyclic name p.1.has)
cycle_is layers structs top name flatten_fault.Memory known p q = absurd (known refl)

-- where the longest chain is too long, none is missing and none reaches itself, that is the fault
too_deep_is : (layers : List Layer) (structs : List Structure) (top : List ℕ) (depth : ℕ) (g : FlattenFault) → g ≢ flatten_fault.Memory → IsFault layers structs top (flatten_fault.TooDeep depth) → IsFault layers structs top g → flatten_fault.TooDeep depth ≡ g
too_deep_is layers structs top depth (flatten_fault.UnknownStruct other) known p q = absurd (p.0 other q.has)
too_deep_is layers structs top depth (flatten_fault.Cycle other) known p q = absurd (p.1 other q.1.has)
too_deep_is layers structs top depth (flatten_fault.TooDeep other) known p q = ap flatten_fault.TooDeep (depth_is_one structs top depth other p.2 q.2)
too_deep_is layers structs top depth (flatten_fault.TooMany shapes labels) known p q = absurd (deep_unsound structs top depth p.2 p.3 q.0)
too_deep_is layers structs top depth (flatten_fault.Far x y) known p q = absurd (deep_unsound structs top depth p.2 p.3 q.0)
too_deep_is layers structs top depth flatten_fault.Memory known p q = absurd (known refl)

-- where the chains are sound and shapes or labels are too many, that is the fault
too_many_is : (layers : List Layer) (structs : List Structure) (top : List ℕ) (shapes labels : ℕ) (g : FlattenFault) → HasOneTotal layers structs top → g ≢ flatten_fault.Memory → IsFault layers structs top (flatten_fault.TooMany shapes labels) → IsFault layers structs top g
    → flatten_fault.TooMany shapes labels ≡ g
too_many_is layers structs top shapes labels (flatten_fault.UnknownStruct other) one known p q = absurd (p.0.there other q.has)
too_many_is layers structs top shapes labels (flatten_fault.Cycle other) one known p q = absurd (p.0.acyclic other q.1.has)
too_many_is layers structs top shapes labels (flatten_fault.TooDeep other) one known p q = absurd (deep_unsound structs top other q.2 q.3 p.0)
too_many_is layers structs top shapes labels (flatten_fault.TooMany c d) one known p q = many_is_one layers structs top shapes labels c d one p.1 q.1
too_many_is layers structs top shapes labels (flatten_fault.Far x y) one known p q = absurd (few_not_many layers structs top shapes labels one q.1 p.1)
too_many_is layers structs top shapes labels flatten_fault.Memory one known p q = absurd (known refl)

-- where the chains are sound and shapes and labels are few, the first far point is the fault
far_is : (layers : List Layer) (structs : List Structure) (top : List ℕ) (x y : ℤ) (g : FlattenFault) → HasOneTotal layers structs top → g ≢ flatten_fault.Memory → IsFault layers structs top (flatten_fault.Far x y) → IsFault layers structs top g → flatten_fault.Far x y ≡ g
far_is layers structs top x y (flatten_fault.UnknownStruct other) one known p q = absurd (p.0.there other q.has)
far_is layers structs top x y (flatten_fault.Cycle other) one known p q = absurd (p.0.acyclic other q.1.has)
far_is layers structs top x y (flatten_fault.TooDeep other) one known p q = absurd (deep_unsound structs top other q.2 q.3 p.0)
far_is layers structs top x y (flatten_fault.TooMany shapes labels) one known p q = absurd (few_not_many layers structs top shapes labels one p.1 q.1)
far_is layers structs top x y (flatten_fault.Far c d) one known p q = far_is_one layers structs top x y c d p.2 q.2
far_is layers structs top x y flatten_fault.Memory one known p q = absurd (known refl)

-- two faults are the same
pub one_fault : IsOneTotal → FlattenFaultsAreUnique
one_fault one layers structs top (flatten_fault.UnknownStruct name) g w f_known g_known p q = unknown_is layers structs top name g g_known p q
one_fault one layers structs top (flatten_fault.Cycle name) g w f_known g_known p q = cycle_is layers structs top name g g_known p q
one_fault one layers structs top (flatten_fault.TooDeep depth) g w f_known g_known p q = too_deep_is layers structs top depth g g_known p q
one_fault one layers structs top (flatten_fault.TooMany shapes labels) g w f_known g_known p q = too_many_is layers structs top shapes labels g (λ a b. one 32 layers structs top a b w) g_known p q
one_fault one layers structs top (flatten_fault.Far x y) g w f_known g_known p q = far_is layers structs top x y g (λ a b. one 32 layers structs top a b w) g_known p q
one_fault one layers structs top flatten_fault.Memory g w f_known g_known p q = absurd (f_known refl)

-- a top with flat lists has no fault
pub fault_or_shapes : IsOneTotal → FlattenFaultsExcludeShapes
fault_or_shapes one layers structs top shapes_ (flatten_fault.UnknownStruct name) w known p l = l.sound.there name p.has
fault_or_shapes one layers structs top shapes_ (flatten_fault.Cycle name) w known p l = l.sound.acyclic name p.1.has
fault_or_shapes one layers structs top shapes_ (flatten_fault.TooDeep depth) w known p l = deep_unsound structs top depth p.2 p.3 l.sound
fault_or_shapes one layers structs top shapes_ (flatten_fault.TooMany shapes labels) w known p l = few_not_many layers structs top shapes labels (λ a b. one 32 layers structs top a b w) l.few p.1
fault_or_shapes one layers structs top shapes_ (flatten_fault.Far x y) w known p l = l.near (record { x = x; y = y }) p.2.far
fault_or_shapes one layers structs top shapes_ flatten_fault.Memory w known p l = absurd (known refl)

pub fault_or_lists : IsOneTotal → FlattenFaultsExcludeLists
fault_or_lists one layers structs top lists f w known p l = fault_or_shapes one layers structs top lists.shapes f w known p (shapes_of_lists layers structs top lists l)
