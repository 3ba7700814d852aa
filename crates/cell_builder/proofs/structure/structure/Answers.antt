-- The structure of a cell.
use Rattle.std.proofs.Common.{◌≡◌, List, [], ◌++◌, map, refl, ◌∙◌, append_assoc, rules}
use Rattle.gds_library.specs.declared.library.Element.{Element}
use Rattle.gds_library.specs.declared.library.Structure.{Structure}
use Rattle.cell_builder.specs.Structures.{instance_element, wire_element, label_element}
use Rattle.cell_builder.proofs.structure.structure.Goals as goal

same_structure : (a b : Structure) → a.name ≡ b.name → a.elements ≡ b.elements → a ≡ b
same_structure a b name elements = λ i. record { name = name i; elements = elements i }

joined : (r t b a n is ws ls : List Element) → r ≡ t → t ≡ b ++ ls → b ≡ a ++ ws → a ≡ n ++ is → n ≡ [] → r ≡ is ++ (ws ++ ls)
joined r t b a n is ws ls e1 e2 e3 e4 e5 = e1 ∙ (e2 ∙ ((λ i. (e3 ∙ (λ j. (e4 ∙ (λ k. e5 k ++ is)) j ++ ws)) i ++ ls) ∙ append_assoc is ws ls))

pub returns : goal.returns
returns c = record {
  sorted = record { name = c.args.cell.now.name; instances = c.args.cell.now.instances; wires = c.in_ok-wires.wires.items; labels = c.in_ok-labels.labels.items };
  order = record { name = refl; instances = refl; wires_rise = c.in_ok-wires.ensures.rises; wires_same = search (c.wires_in_order.ensures, c.in_ok-wires.ensures, c.as_slice.ensures, rules); labels_rise = c.in_ok-labels.ensures.rises; labels_same = search (c.in_ok-labels.ensures, c.as_slice-2.ensures, rules) };
  is = same_structure _ _ c.in_ok-name.ensures (
      joined c.from_vec.result c.add_texts.new.elements.items c.add_boundaries.new.elements.items c.add_references.new.elements.items c.new-elements.result.items _ _ _
      c.from_vec.ensures c.in_ok-add_texts.ensures c.in_ok-add_boundaries.ensures c.in_ok-add_references.ensures c.new-elements.ensures.items
      ∙ (λ i. map instance_element (c.as_slice-3.ensures i) ++ (map (wire_element c.args.layers.now) (c.deref.ensures.value i) ++ map (label_element c.args.layers.now) (c.deref-2.ensures.value i))));
}
