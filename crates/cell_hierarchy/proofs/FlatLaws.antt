-- Flat lists have no more items than stand below their structure.
use Rattle.std.proofs.Common.{◌≡◌, ℕ, List, [], ◌∷◌, length, refl, sym, subst, arith}
use Rattle.std.specs.Prelude.{Contains}
use Rattle.std.specs.declared.cmp.Ordering.TheVariants.{Less}
use Rattle.or_geom.specs.Place.{placed}
use Rattle.or_geom.proofs.OneListLaws.{not_both}
use Rattle.gds_library.specs.declared.library.Structure.{Structure}
use Rattle.tech_rules.specs.declared.tech.Layer.{Layer}
use Rattle.element_drawing.specs.PlainLabel.{PlainLabel}
use Rattle.element_drawing.specs.OrderLaws.{label_total}
use Rattle.element_drawing.specs.LabelOrder.{label_order}
use Rattle.element_drawing.specs.OwnLabels.{own_labels}
use Rattle.cell_chains.specs.Instances.{Item}
use Rattle.cell_chains.specs.Chains.{elements_of, IsChain}
use Rattle.cell_hierarchy.specs.Counts.{Total}
use Rattle.cell_hierarchy.specs.FlatSet.{IsLabelBy, IsLabelMoved, path_under}
use Rattle.cell_hierarchy.specs.Bounds.{FlatLabelsAreFew}
use Rattle.cell_hierarchy.proofs.ListedLaws.{IsListed, at_most_listed}
use Rattle.cell_hierarchy.proofs.BoundedBelowLaws.{IsNumber, IsByChains, IsWithinDepth, within_listed}

abbrev labels_of : Total → ℕ
labels_of total = total.labels

labels_add : IsNumber labels_of
labels_add = record { of_none = refl; of_sum = λ a b. refl; of_times = λ n a. refl }

-- the label as an item moves and names it
abbrev moved_label : Item → PlainLabel → PlainLabel
moved_label item label = record { path = path_under item.name label.path; name = label.name; layer = label.layer; at = placed item.place label.at }

is_moved_label : (item : Item) (inner label : PlainLabel) → IsLabelMoved item inner label → label ≡ moved_label item inner
is_moved_label item inner label m = λ i. record { path = m.path i; name = m.name i; layer = m.layer i; at = m.at i }

labels_by_chains : (layers : List Layer) (structs : List Structure) → IsByChains layers structs PlainLabel (IsLabelBy layers structs) labels_of moved_label
labels_by_chains layers structs = record {
  adds = labels_add;
  own = λ name total own. record { items = own_labels layers (elements_of structs name); size = sym own.label_count; holds = λ label h. h };
  below = λ name item items label h. record { item = item; among = (refl, h.0); inner = h.1; has = h.2; is = is_moved_label item h.1 label h.3 };
}

-- where a label's chain ends
abbrev pub chain_end : List ℕ → List Item → List ℕ
chain_end name [] = name
chain_end name (item ∷ items) = chain_end item.cell items

label_chain : (layers : List Layer) (structs : List Structure) (name : List ℕ) (chain : List Item) (label : PlainLabel) → IsLabelBy layers structs name chain label → IsChain structs name chain (chain_end name chain)
label_chain layers structs name [] label h = refl
label_chain layers structs name (item ∷ items) label h = (h.0, label_chain layers structs item.cell items h.1 h.2)

labels_apart : (a b : PlainLabel) → label_order a b ≡ Less → a ≡ b → ⊥
labels_apart a b less same = let self = subst (λ (l : PlainLabel). label_order l b ≡ Less) same less in not_both label_order label_total b b self self

pub labels_are_few : FlatLabelsAreFew
labels_are_few layers structs top lists flat =
    let total = flat.few.total in
    let listed : IsListed PlainLabel (labels_of total) (IsWithinDepth PlainLabel (IsLabelBy layers structs) 32 top) =
    within_listed layers structs PlainLabel (IsLabelBy layers structs) labels_of moved_label (labels_by_chains layers structs) 32 top total flat.few.is in
    let kept : (label : PlainLabel) → Contains lists.labels label → Contains listed.items label = λ label c.
    let f = (flat.labels_exact label).0 c in
    listed.holds label (record {
      chain = f.chain;
      short = flat.sound.short f.chain (chain_end top f.chain) (label_chain layers structs top f.chain label f.stands);
      stands = f.stands;
    }) in
    let most = at_most_listed PlainLabel PlainLabel (λ label. label) label_order labels_apart lists.labels listed.items flat.labels_rise kept in
    let size : length listed.items ≡ total.labels = listed.size in
    let few = flat.few.few.labels in
    omega (arith, most, size, few)
