-- A subcircuit has one refusal, out of memory aside, or else rows.
use Rattle.std.proofs.Common.{◌≡◌, ◌≢◌, inl, inr, ℕ, ◌<◌, ◌≤◌, List, Option, None, Some, refl, sym, ap, ◌∙◌, arith}
use Rattle.or_geom.specs.Least.{IsLeast}
use Rattle.or_geom.proofs.LeastLaws.{least_is_one}
use Rattle.std.proofs.lemmas.Option.{same_Some, none-some}
use Rattle.netlist.specs.declared.rows.RowPin.{RowPin}
use Rattle.spice_netlist.specs.declared.resolved.ResolvedSubckt.{ResolvedSubckt}
use Rattle.spice_netlist.specs.declared.fault.FlatFault.{FlatFault}
use Rattle.spice_netlist.specs.declared.fault.FlatFault.TheVariants.{UnknownSubckt, Cycle, PortCount, TooMany, Memory}
use Rattle.spice_netlist.specs.Faults.{IsUnknownSubckt, IsCyclicSubckt, IsHierarchy, IsTooMany, IsSmall, IsFaultAt, IsTopUnknown, IsFaultOfTop, AreRowsAt, AreRows}
use Rattle.spice_text.specs.Words.{lower}
use Rattle.spice_netlist.specs.Names.{index_of}
use Rattle.spice_netlist.specs.OneAnswer.{FlatFaultsAreUnique, FlatFaultsExcludeRows}
use Rattle.spice_netlist.specs.Resolved.{names_of, resolved_subckts}

-- where nothing reaches itself no name is that of a cycle
no_cycle : (subckts : List ResolvedSubckt) (top : ℕ) (name : List ℕ) → IsLeast (IsCyclicSubckt subckts top) name → IsHierarchy subckts top → ⊥
no_cycle subckts top name c h = h.acyclic c.has.index c.has.reached c.has.itself

-- a number is not both above another and at most it
above : (m n : ℕ) → m < n → n ≤ m → ⊥
above m n lt le = omega (arith, lt, le)

one_count : (subckts : List ResolvedSubckt) (top m n : ℕ) → IsTooMany subckts top m → IsTooMany subckts top n → m ≡ n
one_count subckts top m n a b = elim a.either [
  | inl x ↦ elim b.either [ inl y ↦ x.1 ∙ sym y.1 | inr y ↦ absurd (above _ _ x.0 y.0) ]
  | inr x ↦ elim b.either [ inl y ↦ absurd (above _ _ y.0 x.0) | inr y ↦ x.2 ∙ sym y.2 ]
]

not_small : (subckts : List ResolvedSubckt) (top count : ℕ) → IsTooMany subckts top count → IsSmall subckts top → ⊥
not_small subckts top count a small = elim a.either [ inl x ↦ above _ _ x.0 small.leaves | inr x ↦ above _ _ x.1 small.pins ]

-- a top that is there has one refusal
one_fault_at : (subckts : List ResolvedSubckt) (top : ℕ) (f g : FlatFault) → f ≢ Memory → g ≢ Memory → IsFaultAt subckts top f → IsFaultAt subckts top g → f ≡ g
one_fault_at subckts top (UnknownSubckt a) (UnknownSubckt b) not_f not_g x y = ap UnknownSubckt (least_is_one (IsUnknownSubckt subckts top) a b x y)
one_fault_at subckts top (UnknownSubckt a) (Cycle b) not_f not_g x y = absurd (y.0 a x.has)
one_fault_at subckts top (UnknownSubckt a) (PortCount b) not_f not_g x y = absurd (y.0.there a x.has)
one_fault_at subckts top (UnknownSubckt a) (TooMany n) not_f not_g x y = absurd (y.0.there a x.has)
one_fault_at subckts top (UnknownSubckt a) Memory not_f not_g x y = absurd (not_g refl)
one_fault_at subckts top (Cycle a) (UnknownSubckt b) not_f not_g x y = absurd (x.0 b y.has)
one_fault_at subckts top (Cycle a) (Cycle b) not_f not_g x y = ap Cycle (least_is_one (IsCyclicSubckt subckts top) a b x.1 y.1)
one_fault_at subckts top (Cycle a) (PortCount b) not_f not_g x y = absurd (no_cycle subckts top a x.1 y.0)
one_fault_at subckts top (Cycle a) (TooMany n) not_f not_g x y = absurd (no_cycle subckts top a x.1 y.0)
one_fault_at subckts top (Cycle a) Memory not_f not_g x y = absurd (not_g refl)
one_fault_at subckts top (PortCount a) (UnknownSubckt b) not_f not_g x y = absurd (x.0.there b y.has)
one_fault_at subckts top (PortCount a) (Cycle b) not_f not_g x y = absurd (no_cycle subckts top b y.1 x.0)
one_fault_at subckts top (PortCount a) (PortCount b) not_f not_g x y = ap PortCount (same_Some a b (sym x.1 ∙ y.1))
one_fault_at subckts top (PortCount a) (TooMany n) not_f not_g x y = absurd (none-some a (sym y.1 ∙ x.1))
one_fault_at subckts top (PortCount a) Memory not_f not_g x y = absurd (not_g refl)
one_fault_at subckts top (TooMany m) (UnknownSubckt b) not_f not_g x y = absurd (x.0.there b y.has)
one_fault_at subckts top (TooMany m) (Cycle b) not_f not_g x y = absurd (no_cycle subckts top b y.1 x.0)
one_fault_at subckts top (TooMany m) (PortCount b) not_f not_g x y = absurd (none-some b (sym x.1 ∙ y.1))
one_fault_at subckts top (TooMany m) (TooMany n) not_f not_g x y = ap TooMany (one_count subckts top m n x.2 y.2)
one_fault_at subckts top (TooMany m) Memory not_f not_g x y = absurd (not_g refl)
one_fault_at subckts top Memory g not_f not_g x y = absurd (not_f refl)

-- and so has one that isn't there
one_top_unknown : (top : List ℕ) (f g : FlatFault) → f ≢ Memory → g ≢ Memory → IsTopUnknown top f → IsTopUnknown top g → f ≡ g
one_top_unknown top (UnknownSubckt a) (UnknownSubckt b) not_f not_g x y = ap UnknownSubckt (x ∙ sym y)
one_top_unknown top (UnknownSubckt a) (Cycle b) not_f not_g x y = absurd y
one_top_unknown top (UnknownSubckt a) (PortCount b) not_f not_g x y = absurd y
one_top_unknown top (UnknownSubckt a) (TooMany n) not_f not_g x y = absurd y
one_top_unknown top (UnknownSubckt a) Memory not_f not_g x y = absurd (not_g refl)
one_top_unknown top (Cycle a) g not_f not_g x y = absurd x
one_top_unknown top (PortCount a) g not_f not_g x y = absurd x
one_top_unknown top (TooMany n) g not_f not_g x y = absurd x
one_top_unknown top Memory g not_f not_g x y = absurd (not_f refl)

one_fault : (subckts : List ResolvedSubckt) (name : List ℕ) (top : Option ℕ) (f g : FlatFault) → f ≢ Memory → g ≢ Memory → IsFaultOfTop subckts name top f → IsFaultOfTop subckts name top g → f ≡ g
one_fault subckts name None f g not_f not_g x y = one_top_unknown name f g not_f not_g x y
one_fault subckts name (Some top) f g not_f not_g x y = one_fault_at subckts top f g not_f not_g x y

pub one_flat_fault : FlatFaultsAreUnique
one_flat_fault subckts top leaves f g not_f not_g x y = one_fault (resolved_subckts subckts (lower top) leaves) (lower top) (index_of (names_of subckts) (lower top)) f g not_f not_g x y

-- a top that is refused has no rows
no_rows_at : (subckts : List ResolvedSubckt) (top : ℕ) (f : FlatFault) (rows : List RowPin) → f ≢ Memory → IsFaultAt subckts top f → AreRowsAt subckts top rows → ⊥
no_rows_at subckts top (UnknownSubckt a) rows not_f x r = r.hierarchy.there a x.has
no_rows_at subckts top (Cycle a) rows not_f x r = no_cycle subckts top a x.1 r.hierarchy
no_rows_at subckts top (PortCount a) rows not_f x r = none-some a (sym r.good ∙ x.1)
no_rows_at subckts top (TooMany n) rows not_f x r = not_small subckts top n x.2 r.small
no_rows_at subckts top Memory rows not_f x r = not_f refl

no_rows : (subckts : List ResolvedSubckt) (name : List ℕ) (top : Option ℕ) (f : FlatFault) (rows : List RowPin) → f ≢ Memory → IsFaultOfTop subckts name top f → AreRows subckts top rows → ⊥
no_rows subckts name None f rows not_f x r = r
no_rows subckts name (Some top) f rows not_f x r = no_rows_at subckts top f rows not_f x r

pub no_flat_rows : FlatFaultsExcludeRows
no_flat_rows subckts top leaves f rows not_f x r = no_rows (resolved_subckts subckts (lower top) leaves) (lower top) (index_of (names_of subckts) (lower top)) f rows not_f x r
