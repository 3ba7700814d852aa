use Rattle.std.proofs.Common.{◌∙◌, ℕ, List, Bor, map, sym, subst}
use Rattle.or_geom.specs.declared.shape.Shape.{Shape}
use Rattle.cell_hierarchy.specs.Plain.{FlatLists, lists_of, plain_label}
use Rattle.net_extractor.specs.ShapeNets.{AreShapeNets}
use Rattle.leaf_nets.specs.declared.leaves.LooseLeaf.{LooseLeaf}
use Rattle.leaf_nets.specs.Numbers.{AreFreeShapes, ArePinNumbers}
use Rattle.leaf_nets.proofs.LeafLaws.{IsNumberedLeaf, wrong_leaf, loose_leaf}
use Rattle.leaf_nets.proofs.leaf.leaf_nets.Goals as goal

pub returns-in-Wrong : goal.returns-in-Wrong
returns-in-Wrong c =
    let kit = c.args.kit.now in
    let cell = c.args.cell.now in
    let connections = c.as_slice-connects.result.now in
    let shapes = c.in_ok-flat.flat.shapes.now in
    let lists : FlatLists = lists_of c.in_ok-flat.flat in
    let nets = c.as_slice.result.now in
    let pins = map (λ (t : Bor (List ℕ)). t.now) c.ports.result.now in
    let numbers : AreShapeNets connections shapes nets =
    subst (AreShapeNets connections shapes) (sym c.as_slice.ensures) (subst (λ (s : List Shape). AreShapeNets connections s c.in_ok-nets.nets) c.in_ok-bins.ensures c.in_ok-nets.ensures) in
    let numbered : IsNumberedLeaf kit c.args.role cell connections lists nets pins =
    record { flat = c.in_ok-flat.ensures.flat; by = c.as_slice-connects.ensures; rises = c.in_ok-flat.ensures.rises; numbers = numbers; ports = c.ports.ensures } in
    let found : ArePinNumbers connections lists nets pins c.in_ok-pin.field-0 =
    subst (λ (s : List Shape). ArePinNumbers connections (record { shapes = s; labels = map plain_label c.in_ok-flat.flat.labels.now }) nets pins c.in_ok-pin.field-0) c.in_ok-bins.ensures c.in_ok-pin.ensures in
    wrong_leaf kit c.args.role cell connections lists nets pins c.in-Wrong.pin numbered (subst (ArePinNumbers connections lists nets pins) c.in-Wrong.is found)

pub returns : goal.returns
returns c =
    let kit = c.args.kit.now in
    let cell = c.args.cell.now in
    let connections = c.as_slice-connects.result.now in
    let shapes = c.in_ok-flat.flat.shapes.now in
    let lists : FlatLists = lists_of c.in_ok-flat.flat in
    let nets = c.as_slice.result.now in
    let pins = map (λ (t : Bor (List ℕ)). t.now) c.ports.result.now in
    let numbers : AreShapeNets connections shapes nets =
    subst (AreShapeNets connections shapes) (sym c.as_slice.ensures) (subst (λ (s : List Shape). AreShapeNets connections s c.in_ok-nets.nets) c.in_ok-bins.ensures c.in_ok-nets.ensures) in
    let numbered : IsNumberedLeaf kit c.args.role cell connections lists nets pins =
    record { flat = c.in_ok-flat.ensures.flat; by = c.as_slice-connects.ensures; rises = c.in_ok-flat.ensures.rises; numbers = numbers; ports = c.ports.ensures } in
    let found : ArePinNumbers connections lists nets pins c.in_ok-pin.field-0 =
    subst (λ (s : List Shape). ArePinNumbers connections (record { shapes = s; labels = map plain_label c.in_ok-flat.flat.labels.now }) nets pins c.in_ok-pin.field-0) c.in_ok-bins.ensures c.in_ok-pin.ensures in
    let leaf : LooseLeaf = record { cell = c.in_ok-cell-in-Right.cell; shapes = c.in_ok-shapes-in-Right.shapes } in
    let free : AreFreeShapes connections shapes nets c.in-Right.numbers.items c.in_ok-shapes-in-Right.shapes =
    subst (λ (l : List ℕ). AreFreeShapes connections shapes l c.in-Right.numbers.items c.in_ok-shapes-in-Right.shapes) (c.as_slice-in-Right.ensures ∙ sym c.as_slice.ensures)
    (subst (λ (l : List ℕ). AreFreeShapes connections shapes c.as_slice-in-Right.result.now l c.in_ok-shapes-in-Right.shapes) c.deref.ensures.value c.in_ok-shapes-in-Right.ensures) in
    loose_leaf kit c.args.role cell connections lists nets pins c.in-Right.numbers.items leaf numbered (subst (ArePinNumbers connections lists nets pins) c.in-Right.is found) free (c.in_ok-cell-in-Right.ensures ∙ c.as_bytes.ensures)
