-- Chains of references: what their steps determine, one reference more, and the instances on them.
use Rattle.std.proofs.Common.{◌≡◌, ℕ, zero, suc, List, [], ◌∷◌, ◌++◌, map, length, Some, refl, sym, ap, subst, ◌∙◌, append_assoc, arith}
use Rattle.std.specs.Prelude.{Contains, slice_get}
use Rattle.or_geom.specs.declared.shape.Point.{Point}
use Rattle.or_geom.specs.Place.{placed}
use Rattle.or_geom.proofs.ListLaws.{one_at}
use Rattle.gds_library.specs.declared.library.Element.{Element}
use Rattle.gds_library.specs.declared.library.Element.TheVariants.{Boundary, Path, Sref, Aref, Text}
use Rattle.gds_library.specs.declared.library.Structure.{Structure}
use Rattle.cell_chains.specs.Instances.{item_place}
use Rattle.cell_chains.specs.Chains.{elements_of}
use Rattle.leaf_contacts.specs.declared.stand.ReferenceStep.{ReferenceStep}
use Rattle.leaf_contacts.specs.Chains.{Reference, Refers, IsReferenceOf, Leads, point_along, IsInstance}
use Rattle.leaf_contacts.specs.Stands.{reference_step, MissesAll, IsInsideInstance}

same_reference : (r s : Reference) → reference_step r ≡ reference_step s → r.cell ≡ s.cell → r.place ≡ s.place → r ≡ s
same_reference r s same cell place = λ i. record { element = (same i).element; column = (same i).column; row = (same i).row; cell = cell i; place = place i }

-- an element and a step give one reference
refers_once : (e : Element) (r s : Reference) → reference_step r ≡ reference_step s → Refers e r → Refers e s → r ≡ s
refers_once (Boundary layer datatype points props) r s same a b = absurd a
refers_once (Path layer datatype kind width points props) r s same a b = absurd a
refers_once (Sref name place props) r s same a b = same_reference r s same (a.2 ∙ sym b.2) (a.3 ∙ sym b.3)
refers_once (Aref name place columns rows across down props) r s same a b =
    same_reference r s same (a.2 ∙ sym b.2) (a.3 ∙ ((λ i. item_place place (same i).column (same i).row across down) ∙ sym b.3))
refers_once (Text layer texttype at string props) r s same a b = absurd a

-- so do a structure and a step
pub reference_once : (structs : List Structure) (name : List ℕ) (r s : Reference) → reference_step r ≡ reference_step s → IsReferenceOf structs name r → IsReferenceOf structs name s → r ≡ s
reference_once structs name r s same a b =
    let place = ap (λ (t : ReferenceStep). t.element) same in
    let e = one_at (elements_of structs name) s.element a.element b.element (subst (λ (k : ℕ). slice_get (elements_of structs name) k ≡ Some a.element) place a.there) b.there in
    refers_once b.element r s same (subst (λ (e : Element). Refers e r) e a.refers) b.refers

-- a chain leads to one structure
pub leads_once : (structs : List Structure) (from : List ℕ) (chain : List Reference) (to other : List ℕ) → Leads structs from chain to → Leads structs from chain other → to ≡ other
leads_once structs from [] to other a b = a ∙ sym b
leads_once structs from (r ∷ chain) to other a b = leads_once structs r.cell chain to other a.1 b.1

-- the steps from a structure give one chain
pub chain_once : (structs : List Structure) (from : List ℕ) (c d : List Reference) (to other : List ℕ) → Leads structs from c to → Leads structs from d other → map reference_step c ≡ map reference_step d → c ≡ d
chain_once structs from [] [] to other a b same = refl
chain_once structs from [] (s ∷ d) to other a b same = absurd (cc)
chain_once structs from (r ∷ c) [] to other a b same = absurd (cc)
chain_once structs from (r ∷ c) (s ∷ d) to other a b same =
    let head : reference_step r ≡ reference_step s = cc in
    let tail : map reference_step c ≡ map reference_step d = cc in
    let one = reference_once structs from r s head a.0 b.0 in
    let rest = chain_once structs s.cell c d to other (subst (λ (t : Reference). Leads structs t.cell c to) one a.1) b.1 tail in
    λ i. one i ∷ rest i

-- one reference more
pub leads_more : (structs : List Structure) (from : List ℕ) (chain : List Reference) (mid : List ℕ) (r : Reference) → Leads structs from chain mid → IsReferenceOf structs mid r → Leads structs from (chain ++ r ∷ []) r.cell
leads_more structs from [] mid r leads of = (subst (λ (n : List ℕ). IsReferenceOf structs n r) leads of, refl)
leads_more structs from (s ∷ chain) mid r leads of = (leads.0, leads_more structs s.cell chain mid r leads.1 of)

-- a chain with a last reference: what leads to this one
pub record LastLed (structs : List Structure) (from : List ℕ) (chain : List Reference) (r : Reference) (to : List ℕ) : Type 0 where
  pub mid : List ℕ
  pub leads : Leads structs from chain mid
  pub of : IsReferenceOf structs mid r
  pub to_is : to ≡ r.cell

pub last_led : (structs : List Structure) (from : List ℕ) (chain : List Reference) (r : Reference) (to : List ℕ) → Leads structs from (chain ++ r ∷ []) to → LastLed structs from chain r to
last_led structs from [] r to leads = record { mid = from; leads = refl; of = leads.0; to_is = leads.1 }
last_led structs from (s ∷ chain) r to leads =
    let rest = last_led structs s.cell chain r to leads.1 in
    record { mid = rest.mid; leads = (leads.0, rest.leads); of = rest.of; to_is = rest.to_is }

pub point_more : (chain : List Reference) (r : Reference) (p : Point) → point_along (chain ++ r ∷ []) p ≡ point_along chain (placed r.place p)
point_more [] r p = refl
point_more (s ∷ chain) r p = ap (placed s.place) (point_more chain r p)

-- a chain that isn't empty has a last reference
pub record HasLast (chain : List Reference) (n : ℕ) : Type 0 where
  pub before : List Reference
  pub last : Reference
  pub is : chain ≡ before ++ last ∷ []
  pub long : length before ≡ n

pub has_last : (chain : List Reference) (n : ℕ) → length chain ≡ suc n → HasLast chain n
has_last [] n long = absurd (omega arith)
has_last (r ∷ []) n long = record { before = []; last = r; is = refl; long = omega (arith, long) }
has_last (r ∷ s ∷ chain) zero long = absurd (omega (arith, long))
has_last (r ∷ s ∷ chain) (suc n) long =
    let rest = has_last (s ∷ chain) n (omega (arith, long)) in
    let l = rest.long in
    record { before = r ∷ rest.before; last = rest.last; is = ap (λ (c : List Reference). r ∷ c) rest.is; long = omega (arith, l) }

-- on from a chain without instances
pub misses_more : (cells : List (List ℕ)) (from : List ℕ) (chain : List Reference) (r : Reference) → MissesAll cells from chain → (Contains cells r.cell → ⊥) → MissesAll cells from (chain ++ r ∷ [])
misses_more cells from [] r misses other = (misses, other)
misses_more cells from (s ∷ chain) r misses other = (misses.0, misses_more cells s.cell chain r misses.1 other)

pub instance_more : (cells : List (List ℕ)) (structs : List Structure) (from : List ℕ) (chain : List Reference) (mid : List ℕ) (r : Reference) → MissesAll cells from chain → Leads structs from chain mid → IsReferenceOf structs mid r → Contains cells r.cell
    → IsInstance cells structs from (chain ++ r ∷ []) r.cell
instance_more cells structs from [] mid r misses leads of leaf = (misses, subst (λ (n : List ℕ). IsReferenceOf structs n r) leads of, (refl, leaf))
instance_more cells structs from (s ∷ chain) mid r misses leads of leaf = (misses.0, leads.0, instance_more cells structs s.cell chain mid r misses.1 leads.1 of leaf)

-- on from a chain inside an instance
pub inside_more : (cells : List (List ℕ)) (structs : List Structure) (top : List ℕ) (chain : List Reference) (r : Reference) (steps : List ReferenceStep) → IsInsideInstance cells structs top chain steps → IsInsideInstance cells structs top (chain ++ r ∷ []) steps
inside_more cells structs top chain r steps i = record {
  inner = i.inner;
  rest = i.rest ++ r ∷ [];
  is = ap (λ (c : List Reference). c ++ r ∷ []) i.is ∙ append_assoc i.inner i.rest (r ∷ []);
  to = i.to;
  instance = i.instance;
  told = i.told;
}

-- an instance itself
pub inside_itself : (cells : List (List ℕ)) (structs : List Structure) (top : List ℕ) (chain : List Reference) (to : List ℕ) → chain ++ [] ≡ chain → IsInstance cells structs top chain to → IsInsideInstance cells structs top chain (map reference_step chain)
inside_itself cells structs top chain to nil is = record { inner = chain; rest = []; is = sym nil; to = to; instance = is; told = refl }

-- the structure at a chain's beginning is no leaf cell
first_missed : (cells : List (List ℕ)) (from : List ℕ) (chain : List Reference) → MissesAll cells from chain → Contains cells from → ⊥
first_missed cells from [] misses = misses
first_missed cells from (r ∷ chain) misses = misses.0

-- no chain without instances goes on from one
pub no_instance : (cells : List (List ℕ)) (structs : List Structure) (from : List ℕ) (whole chain rest : List Reference) (to : List ℕ) → whole ≡ chain ++ rest → MissesAll cells from whole → IsInstance cells structs from chain to → ⊥
no_instance cells structs from whole [] rest to is misses i = first_missed cells from whole misses i.1
no_instance cells structs from whole (r ∷ chain) rest to is misses i =
    no_instance cells structs r.cell (chain ++ rest) chain rest to refl (subst (MissesAll cells from) is misses).1 i.2

-- of the instances on one chain there is just one
pub instance_once : (cells : List (List ℕ)) (structs : List Structure) (from : List ℕ) (c d more other : List Reference) (to end : List ℕ) → c ++ more ≡ d ++ other → IsInstance cells structs from c to → IsInstance cells structs from d end → c ≡ d
instance_once cells structs from [] [] more other to end same a b = refl
instance_once cells structs from [] (s ∷ d) more other to end same a b = absurd (b.0 a.1)
instance_once cells structs from (r ∷ c) [] more other to end same a b = absurd (a.0 b.1)
instance_once cells structs from (r ∷ c) (s ∷ d) more other to end same a b =
    let head : r ≡ s = cc in
    let tail : c ++ more ≡ d ++ other = cc in
    let rest = instance_once cells structs s.cell c d more other to end tail (subst (λ (t : Reference). IsInstance cells structs t.cell c to) head a.2) b.2 in
    λ i. head i ∷ rest i

-- an instance's chain leads to its leaf cell
pub instance_leads : (cells : List (List ℕ)) (structs : List Structure) (from : List ℕ) (chain : List Reference) (to : List ℕ) → IsInstance cells structs from chain to → Leads structs from chain to
instance_leads cells structs from [] to i = i.0
instance_leads cells structs from (r ∷ chain) to i = (i.1, instance_leads cells structs r.cell chain to i.2)

pub instance_leaf : (cells : List (List ℕ)) (structs : List Structure) (from : List ℕ) (chain : List Reference) (to : List ℕ) → IsInstance cells structs from chain to → Contains cells to
instance_leaf cells structs from [] to i = subst (Contains cells) (sym i.0) i.1
instance_leaf cells structs from (r ∷ chain) to i = instance_leaf cells structs r.cell chain to i.2
