use Rattle.std.proofs.Common.{refl}
use Rattle.std.proofs.lemmas.Result.{IfOk-weaker}
use Rattle.leaf_contacts.specs.declared.cells.ReachedCells.{ReachedCells}
use Rattle.leaf_contacts.proofs.FlatLaws.{some_loose}
use Rattle.leaf_contacts.proofs.WholeLaws.{answer_is, read_of, stands_are_in}
use Rattle.leaf_contacts.proofs.contact.has_loose_contact.Goals as goal

pub returns-then-not-has_loose : goal.returns-then-not-has_loose
returns-then-not-has_loose c = (λ t. absurd cc, λ h. let t = c.if-not-has_loose.ensures.1 (some_loose c.args.tech.now c.args.lib.now.structs c.args.top.now c.args.leaves.now h) in absurd cc)

pub marks_of-requires-clause-stands : goal.marks_of-requires-clause-stands
marks_of-requires-clause-stands c =
    let tree : ReachedCells = record { layers = c.as_slice-layers.result; leaves = c.args.leaves; top = c.args.top; structs = c.as_slice-structs.result; cells = c.deref-2.result; summaries = c.deref-3.result } in
    let read = read_of c.args.tech.now c.args.lib.now.structs c.args.bins.now tree c.in_ok-cells.cells.items c.deref.result.now c.in_ok-summaries.summaries.items c.as_slice-layers.ensures c.as_slice-structs.ensures c.deref-2.ensures.value
    c.deref.ensures.value c.deref-3.ensures.value c.requires.writable.cells c.in_ok-cells.ensures c.in_ok-summaries.ensures c.requires.flat in
    stands_are_in c.args.tech.now c.args.lib.now.structs c.args.bins.now c.shapes.result.now tree c.in_ok-stands.stands.items c.deref-4.result.now read c.in_ok-stands.ensures c.deref-4.ensures.value c.shapes.ensures

pub has_contact-requires-clause-stands : goal.has_contact-requires-clause-stands
has_contact-requires-clause-stands c =
    let tree : ReachedCells = record { layers = c.as_slice-layers.result; leaves = c.args.leaves; top = c.args.top; structs = c.as_slice-structs.result; cells = c.deref-2.result; summaries = c.deref-3.result } in
    let read = read_of c.args.tech.now c.args.lib.now.structs c.args.bins.now tree c.in_ok-cells.cells.items c.deref.result.now c.in_ok-summaries.summaries.items c.as_slice-layers.ensures c.as_slice-structs.ensures c.deref-2.ensures.value
    c.deref.ensures.value c.deref-3.ensures.value c.requires.writable.cells c.in_ok-cells.ensures c.in_ok-summaries.ensures c.requires.flat in
    stands_are_in c.args.tech.now c.args.lib.now.structs c.args.bins.now c.args.bins.now tree c.in_ok-stands.stands.items c.deref-6.result.now read c.in_ok-stands.ensures c.deref-6.ensures.value refl

pub returns : goal.returns
returns c =
    let tree : ReachedCells = record { layers = c.as_slice-layers.result; leaves = c.args.leaves; top = c.args.top; structs = c.as_slice-structs.result; cells = c.deref-2.result; summaries = c.deref-3.result } in
    let read = read_of c.args.tech.now c.args.lib.now.structs c.args.bins.now tree c.in_ok-cells.cells.items c.deref.result.now c.in_ok-summaries.summaries.items c.as_slice-layers.ensures c.as_slice-structs.ensures c.deref-2.ensures.value
    c.deref.ensures.value c.deref-3.ensures.value c.requires.writable.cells c.in_ok-cells.ensures c.in_ok-summaries.ensures c.requires.flat in
    IfOk-weaker c.has_contact.result _ _
    (λ found told. answer_is _ c.args.lib.now.structs c.shapes.result.now c.in_ok-stands.stands.items c.deref-4.result.now c.deref-6.result.now c.in_ok-marks.marks.items found read c.in_ok-stands.ensures c.deref-4.ensures.value c.deref-6.ensures.value c.shapes.ensures
    c.deref-5.ensures.value c.in_ok-marks.ensures told)
    c.has_contact.ensures
