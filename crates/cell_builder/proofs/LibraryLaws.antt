-- Structures among others of a library.
use Rattle.std.proofs.Common.{◌≡◌, ◌≢◌, ◌⊎◌, inl, inr, ℕ, suc, Bool, true, false, cond, List, [], ◌∷◌, ◌++◌, refl, sym, ap, subst, ◌∙◌, arith}
use Rattle.std.specs.Prelude.{Contains}
use Rattle.std.specs.List.{AllPairs}
use Rattle.std.proofs.lemmas.List.Elements.{Contains-append_right}
use Rattle.std.specs.Str.{bytes_eq}
use Rattle.std.proofs.lemmas.Slice.Eq.{bytes_eq-Decides}
use Rattle.or_geom.specs.declared.shape.Shape.{Shape}
use Rattle.or_geom.proofs.ListLaws.{contains_none, contains_cases, contains_first, contains_later}
use Rattle.gds_library.specs.declared.library.Element.{Element}
use Rattle.gds_library.specs.declared.library.Structure.{Structure}
use Rattle.tech_rules.specs.declared.tech.Layer.{Layer}
use Rattle.element_drawing.specs.PlainLabel.{PlainLabel}
use Rattle.element_drawing.specs.OwnLabels.{own_labels}
use Rattle.cell_chains.specs.Instances.{Item}
use Rattle.cell_chains.specs.Chains.{elements_of, IsThere, IsItemFrom, Reaches}
use Rattle.cell_hierarchy.specs.FlatSet.{IsOwnShape, IsShapeBy, IsLabelBy}
use Rattle.cell_builder.specs.Libraries.{NamesResolve, IsComplete, LeavesAreKept, FinishedCellsAreDrawn}
use Rattle.cell_builder.specs.declared.cell.DrawnCell.{DrawnCell}
use Rattle.cell_builder.specs.Finish.{IsFinishedCell, AreFinished}

-- names that differ

abbrev AreNamed : List Structure → Type 0
AreNamed structs = AllPairs (λ (a b : Structure). a.name ≢ b.name) structs

first_differs : (t : Structure) (ts : List Structure) (s : Structure) → AreNamed (t ∷ ts) → Contains ts s → t.name ≢ s.name
first_differs t ts s all c e = all 0 (suc c.0) s (omega arith) (let lt = c.1 in omega (arith, lt)) (e ∙ ap (λ (u : Structure). u.name) (sym c.2))

passed : (s : Structure) (name : List ℕ) (more : List Element) → (s.name ≡ name → ⊥) → (b : Bool) → bytes_eq s.name name ≡ b → cond b s.elements more ≡ more
passed s name more differ true e = absurd (differ ((bytes_eq-Decides s.name name).0 e))
passed s name more differ false e = refl

pub names_resolve : NamesResolve
names_resolve [] s all c = absurd (contains_none s c)
names_resolve (t ∷ ts) s all c = elim (contains_cases t ts s c) [
  | inl e ↦
      let named : t.name ≡ s.name = ap (λ (u : Structure). u.name) (sym e) in
      ap (λ (b : Bool). cond b t.elements (elements_of ts s.name)) ((bytes_eq-Decides t.name s.name).1 named) ∙ ap (λ (u : Structure). u.elements) (sym e)
  | inr later ↦
      passed t s.name (elements_of ts s.name) (first_differs t ts s all later) (bytes_eq t.name s.name) refl
      ∙ names_resolve ts s (λ i j d less lt. all (suc i) (suc j) d (omega (arith, less)) (omega (arith, lt))) later
]

-- structures that follow

pub kept_elements : (structs more : List Structure) (name : List ℕ) → IsThere structs name → elements_of (structs ++ more) name ≡ elements_of structs name
kept_elements [] more name there = absurd there
kept_elements (s ∷ ss) more name (inl e) =
    let same = (bytes_eq-Decides s.name name).1 e in
    ap (λ (b : Bool). cond b s.elements (elements_of (ss ++ more) name)) same ∙ sym (ap (λ (b : Bool). cond b s.elements (elements_of ss name)) same)
kept_elements (s ∷ ss) more name (inr there) = ap (λ (es : List Element). cond (bytes_eq s.name name) s.elements es) (kept_elements ss more name there)

there_by : (s : Structure) (ss : List Structure) (name : List ℕ) (b : Bool) → bytes_eq s.name name ≡ b → IsThere ss name ⊎ (IsThere ss name → ⊥) → IsThere (s ∷ ss) name ⊎ (IsThere (s ∷ ss) name → ⊥)
there_by s ss name true e rest = inl (inl ((bytes_eq-Decides s.name name).0 e))
there_by s ss name false e (inl there) = inl (inr there)
there_by s ss name false e (inr missing) =
    inr (λ there. elim there [ inl named ↦ (let clash : true ≡ false = sym ((bytes_eq-Decides s.name name).1 named) ∙ e in absurd cc) | inr later ↦ missing later ])

pub there_or_not : (structs : List Structure) (name : List ℕ) → IsThere structs name ⊎ (IsThere structs name → ⊥)
there_or_not [] name = inr (λ there. there)
there_or_not (s ∷ ss) name = there_by s ss name (bytes_eq s.name name) refl (there_or_not ss name)

abbrev AllThere : List Structure → List ℕ → Type 0
AllThere structs top = (name : List ℕ) → Reaches structs top name → IsThere structs name

all_there : (structs : List Structure) (top : List ℕ) → IsComplete structs top → AllThere structs top
all_there structs top whole name reached = elim (there_or_not structs name) [ inl there ↦ there | inr missing ↦ absurd (whole name (record { reached = reached; missing = missing })) ]

below_there : (structs : List Structure) (top : List ℕ) (item : Item) → AllThere structs top → IsItemFrom 0 (elements_of structs top) item → AllThere structs item.cell
below_there structs top item all is name reached = all name (record { chain = item ∷ reached.chain; leads = (is, reached.leads) })

here : (structs : List Structure) (top : List ℕ) → AllThere structs top → IsThere structs top
here structs top all = all top (record { chain = []; leads = refl })

shape_kept : (layers : List Layer) (structs more : List Structure) (top : List ℕ) (s : Shape) → AllThere structs top → (chain : List Item) → IsShapeBy layers (structs ++ more) top chain s → IsShapeBy layers structs top chain s
shape_kept layers structs more top s all [] h = subst (λ (es : List Element). IsOwnShape layers es s) (kept_elements structs more top (here structs top all)) h
shape_kept layers structs more top s all (item ∷ items) h =
    let is = subst (λ (es : List Element). IsItemFrom 0 es item) (kept_elements structs more top (here structs top all)) h.0 in
    (is, h.1, shape_kept layers structs more item.cell h.1 (below_there structs top item all is) items h.2, h.3)

kept_shape : (layers : List Layer) (structs more : List Structure) (top : List ℕ) (s : Shape) → AllThere structs top → (chain : List Item) → IsShapeBy layers structs top chain s → IsShapeBy layers (structs ++ more) top chain s
kept_shape layers structs more top s all [] h = subst (λ (es : List Element). IsOwnShape layers es s) (sym (kept_elements structs more top (here structs top all))) h
kept_shape layers structs more top s all (item ∷ items) h =
    let is = subst (λ (es : List Element). IsItemFrom 0 es item) (sym (kept_elements structs more top (here structs top all))) h.0 in
    (is, h.1, kept_shape layers structs more item.cell h.1 (below_there structs top item all h.0) items h.2, h.3)

label_kept : (layers : List Layer) (structs more : List Structure) (top : List ℕ) (l : PlainLabel) → AllThere structs top → (chain : List Item) → IsLabelBy layers (structs ++ more) top chain l → IsLabelBy layers structs top chain l
label_kept layers structs more top l all [] h = subst (λ (es : List Element). Contains (own_labels layers es) l) (kept_elements structs more top (here structs top all)) h
label_kept layers structs more top l all (item ∷ items) h =
    let is = subst (λ (es : List Element). IsItemFrom 0 es item) (kept_elements structs more top (here structs top all)) h.0 in
    (is, h.1, label_kept layers structs more item.cell h.1 (below_there structs top item all is) items h.2, h.3)

kept_label : (layers : List Layer) (structs more : List Structure) (top : List ℕ) (l : PlainLabel) → AllThere structs top → (chain : List Item) → IsLabelBy layers structs top chain l → IsLabelBy layers (structs ++ more) top chain l
kept_label layers structs more top l all [] h = subst (λ (es : List Element). Contains (own_labels layers es) l) (sym (kept_elements structs more top (here structs top all))) h
kept_label layers structs more top l all (item ∷ items) h =
    let is = subst (λ (es : List Element). IsItemFrom 0 es item) (sym (kept_elements structs more top (here structs top all))) h.0 in
    (is, h.1, kept_label layers structs more item.cell h.1 (below_there structs top item all h.0) items h.2, h.3)

pub leaves_are_kept : LeavesAreKept
leaves_are_kept layers structs more top whole =
    let all = all_there structs top whole in
    record {
      shapes = λ s. (λ f. record { chain = f.chain; stands = shape_kept layers structs more top s all f.chain f.stands }, λ f. record { chain = f.chain; stands = kept_shape layers structs more top s all f.chain f.stands });
      labels = λ l. (λ f. record { chain = f.chain; stands = label_kept layers structs more top l all f.chain f.stands }, λ f. record { chain = f.chain; stands = kept_label layers structs more top l all f.chain f.stands });
    }

-- the cells of a finished library

pub record HasDrawn (layers : List Layer) (structs : List Structure) (cell : DrawnCell) : Type 0 where
  pub made : Structure
  pub among : Contains structs made
  pub is : IsFinishedCell layers cell made

pub has_drawn : (layers : List Layer) (cells : List DrawnCell) (made : List Structure) (cell : DrawnCell) → AreFinished layers cells made → Contains cells cell → HasDrawn layers made cell
has_drawn layers [] made cell each c = absurd (contains_none cell c)
has_drawn layers (d ∷ ds) [] cell each c = absurd each
has_drawn layers (d ∷ ds) (s ∷ ss) cell each c = elim (contains_cases d ds cell c) [
  | inl e ↦ record { made = s; among = contains_first s ss; is = subst (λ (x : DrawnCell). IsFinishedCell layers x s) (sym e) each.0 }
  | inr later ↦ let h = has_drawn layers ds ss cell each.1 later in record { made = h.made; among = contains_later s ss h.made h.among; is = h.is }
]

pub finished_cells_are_drawn : FinishedCellsAreDrawn
finished_cells_are_drawn layers adopted cells structs m differ cell c =
    let h = has_drawn layers cells m.made cell m.each c in
    let among = subst (λ (l : List Structure). Contains l h.made) (sym m.parts) (Contains-append_right adopted m.made h.made h.among) in
    let named : h.made.name ≡ cell.name = ap (λ (t : Structure). t.name) h.is.is ∙ h.is.order.name in
    record {
      sorted = h.is.sorted;
      order = h.is.order;
      is = ap (elements_of structs) (sym named) ∙ (names_resolve structs h.made differ among ∙ ap (λ (t : Structure). t.elements) h.is.is);
    }
