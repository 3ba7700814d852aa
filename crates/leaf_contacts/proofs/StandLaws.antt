-- Where a cell stands one reference below another.
use Rattle.std.proofs.Common.{◌≡◌, ℕ, ◌+◌, ◌*◌, ◌^◌, List, [], ◌∷◌, ◌++◌, map, length, Bool, true, false, Option, Some, None, refl, sym, ap, subst, ◌∙◌, length-append, arith}
use Rattle.std.specs.Prelude.{Contains, slice_get, IsTrue}
use Rattle.std.specs.Option.{option_copied}
use Rattle.std.proofs.lemmas.List.{append-nil, map-append}
use Rattle.or_geom.specs.declared.shape.Point.{Point}
use Rattle.or_geom.specs.declared.place.Place.{Place}
use Rattle.or_geom.specs.Place.{placed, IsWithin}
use Rattle.gds_library.specs.declared.library.Structure.{Structure}
use Rattle.cell_chains.specs.Hierarchy.{IsCellOf}
use Rattle.leaf_contacts.specs.Contact.{leaf_cell_names}
use Rattle.leaf_contacts.specs.declared.cells.CellSummary.{CellSummary}
use Rattle.leaf_contacts.specs.declared.cells.ReachedCells.{ReachedCells}
use Rattle.leaf_contacts.specs.declared.stand.Stand.{Stand}
use Rattle.leaf_contacts.specs.declared.stand.ReferenceStep.{ReferenceStep}
use Rattle.leaf_contacts.specs.Chains.{Reference, IsReferenceOf, Leads, point_along}
use Rattle.leaf_contacts.specs.Stands.{AreReachedCells, IsStandOf, IsReferenceAt, IsInInstance, instance_below, reference_step}
use Rattle.leaf_contacts.proofs.ChainLaws.{leads_more, point_more, misses_more, instance_more, inside_more, inside_itself}
use Rattle.leaf_contacts.proofs.CellLaws.{name_once, summary_at}

-- in which instance a cell stands that is placed in one that stands at the chain's end
pub in_more : (cells : List (List ℕ)) (structs : List Structure) (top : List ℕ) (chain : List Reference) (mid : List ℕ) (r : Reference) (above : Option (List ReferenceStep)) (leaf : Bool) → Leads structs top chain mid → IsReferenceOf structs mid r
    → (leaf ≡ true → Contains cells r.cell) → (leaf ≡ false → Contains cells r.cell → ⊥) → IsInInstance cells structs top chain above → IsInInstance cells structs top (chain ++ r ∷ []) (instance_below above leaf (map reference_step (chain ++ r ∷ [])))
in_more cells structs top chain mid r (Some inner) leaf leads of when_true when_false is = inside_more cells structs top chain r inner is
in_more cells structs top chain mid r None true leads of when_true when_false is =
    inside_itself cells structs top (chain ++ r ∷ []) r.cell (append-nil (chain ++ r ∷ [])) (instance_more cells structs top chain mid r is leads of (when_true refl))
in_more cells structs top chain mid r None false leads of when_true when_false is = misses_more cells top chain r is (when_false refl)

within_more : (chain : List Reference) (r : Reference) (p : Point) → IsWithin (length chain * 2 ^ 33 + 2 ^ 33) p → IsWithin (length (chain ++ r ∷ []) * 2 ^ 33) p
within_more chain r p w =
    let long = length-append chain (r ∷ []) in
    let e : length chain * 2 ^ 33 + 2 ^ 33 ≡ length (chain ++ r ∷ []) * 2 ^ 33 = omega (arith, long) in
    subst (λ (n : ℕ). IsWithin n p) e w

-- what the function makes of the stand above
pub record IsMadeBelow (outer made : Stand) (target : ℕ) (step : ReferenceStep) (place : Place) (leaf : Bool) : Type 0 where
  pub cell : made.cell ≡ target
  pub applied : (p : Point) → placed made.place p ≡ placed outer.place (placed place p)
  pub bound : (m n : ℕ) → IsWithin m outer.place.at → IsWithin n place.at → IsWithin (m + n) made.place.at
  pub steps : made.steps.now ≡ outer.steps.now ++ step ∷ []
  pub instance : option_copied made.instance ≡ instance_below (option_copied outer.instance) leaf made.steps.now

pub stand_below : (tree : ReachedCells) (chain : List Reference) (r : Reference) (outer made : Stand) (target : ℕ) (step : ReferenceStep) (place : Place) (summary : CellSummary) → AreReachedCells tree → IsWithin (2 ^ 33) place.at → slice_get tree.summaries.now target ≡ Some summary
    → IsMadeBelow outer made target step place summary.is_leaf → IsStandOf tree chain outer → IsReferenceAt tree outer.cell target step place r → IsStandOf tree (chain ++ r ∷ []) made
stand_below tree chain r outer made target step place summary is near there m o at =
    let cells = leaf_cell_names tree.leaves.now in
    let structs = tree.structs.now in
    let top = tree.top.now in
    let same = name_once structs tree.cells.now outer.cell at.name o.name at.in_cell o.cell in
    let of : IsReferenceOf structs o.name r = subst (λ (n : List ℕ). IsReferenceOf structs n r) same at.of in
    let about = summary_at tree target r.cell summary is at.to there in
    let leaf = subst (λ (n : List ℕ). IsTrue summary.is_leaf → Contains cells n) at.to.named about.leaf.0 in
    let steps : made.steps.now ≡ map reference_step (chain ++ r ∷ []) =
    m.steps ∙ (ap (λ (l : List ReferenceStep). l ++ step ∷ []) o.steps ∙ (ap (λ (t : ReferenceStep). map reference_step chain ++ t ∷ []) at.step_is ∙ sym (map-append reference_step chain (r ∷ [])))) in
    record {
      name = r.cell;
      cell = subst (λ (k : ℕ). IsCellOf structs tree.cells.now k r.cell) (sym m.cell) at.to;
      leads = leads_more structs top chain o.name r o.leads of;
      place = λ p. m.applied p ∙ (o.place (placed place p) ∙ (ap (λ (q : Place). point_along chain (placed q p)) (sym at.place_is) ∙ sym (point_more chain r p)));
      near = within_more chain r made.place.at (m.bound _ _ o.near near);
      steps = steps;
      instance =
          let here = in_more cells structs top chain o.name r (option_copied outer.instance) summary.is_leaf o.leads of leaf (λ f h. false_leaf summary.is_leaf f (about.leaf.1 (subst (Contains cells) (sym at.to.named) h))) o.instance in
          subst (IsInInstance cells structs top (chain ++ r ∷ [])) (sym m.instance) (subst (λ (l : List ReferenceStep). IsInInstance cells structs top (chain ++ r ∷ []) (instance_below (option_copied outer.instance) summary.is_leaf l)) (sym steps) here);
    }
  where
    false_leaf : (b : Bool) → b ≡ false → IsTrue b → ⊥
    false_leaf b f h = absurd (cc)
