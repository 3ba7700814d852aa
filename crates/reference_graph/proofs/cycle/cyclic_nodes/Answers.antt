-- Each step of the search enters a node that it has not seen, or leaves the one that it is at, which then waits or is settled.
use Rattle.std.proofs.Common.{◌≡◌, ◌≤◌, min, ℕ, List, [], ◌∷◌, length, set, get_or, reverse, refl, ap, subst, ◌∙◌, arith, rules}
use Rattle.std.specs.Prelude.{sum_by}
use Rattle.std.proofs.lemmas.List.{take_at, nil_from_length}
use Rattle.or_geom.proofs.ListLaws.{reverse_push}
use Rattle.reference_graph.specs.declared.cycle.Standing.{Standing}
use Rattle.reference_graph.specs.declared.cycle.Entry.{Entry}
use Rattle.reference_graph.specs.Waits.{AreSeen}
use Rattle.reference_graph.proofs.PathLaws.{all_within}
use Rattle.reference_graph.proofs.SearchLaws.{next_refers}
use Rattle.reference_graph.proofs.WaitLaws.{weight, settled_lighter, leave_lighter}
use Rattle.reference_graph.proofs.EntryLaws.{State, IsSearch, all_waiting}
use Rattle.reference_graph.proofs.EnterLaws.{search_begins, search_enters, step_lighter}
use Rattle.reference_graph.proofs.LeaveLaws.{marked, leaves_read}
use Rattle.reference_graph.proofs.BackLaws.{cut_read, search_back, search_settles, search_ends}
use Rattle.reference_graph.proofs.cycle.cyclic_nodes.Goals as goal
use Rattle.reference_graph.proofs.cycle.cyclic_nodes.Goals.{then-least-entry, else-least-entry}

pub steps-init : goal.steps-init
steps-init c = rw (c.new-trail.ensures.items, c.in_ok-waiting.ensures.items, c.entered-entry.ensures) (search_begins c.args.graph.now c.args.start c.in_ok-standings.standings.items c.in_ok-marks.marks.items c.requires.inside (search rules) (search rules))

pub next_unseen-requires-clause-within : goal.next_unseen-requires-clause-within
next_unseen-requires-clause-within c =
    let sized : length c.deref.result.now ≡ length c.args.graph.now = ap length c.deref.ensures.value ∙ c.steps.invariant.state.sized in
    rw sized (all_within c.args.graph.now c.steps.entry.node c.references_of-references.result.now c.requires.within c.references_of-references.ensures)

pub index_mut-requires-in-Some : goal.index_mut-requires-in-Some
index_mut-requires-in-Some c =
    let lt = all_within c.args.graph.now c.steps.entry.node c.references_of-references.result.now c.requires.within c.references_of-references.ensures c.in-Some.next 0 c.in-Some.ensures.within in
    let sized = c.steps.invariant.state.sized in
    rw c.entered-entry-in-Some.ensures (omega (arith, lt, sized))

pub steps-smaller-in-Some : goal.steps-smaller-in-Some
steps-smaller-in-Some c =
    let next = rw c.deref.ensures.value at c.in-Some.ensures in
    let lt = all_within c.args.graph.now c.steps.entry.node c.references_of-references.result.now c.requires.within c.references_of-references.ensures c.in-Some.next 0 next.within in
    rw (c.in_ok-push.ensures.items, c.entered-entry-in-Some.ensures)
    (step_lighter c.steps.standings.items c.steps.trail.items (record { node = c.steps.entry.node; place = c.steps.entry.place; next = c.in-Some.next; least = c.steps.entry.least }) (get_or c.references_of-references.result.now c.in-Some.next 0) c.len-place.result (omega (arith, lt, c.steps.invariant.state.sized)) next.unseen)

pub steps-preserved-in-Some : goal.steps-preserved-in-Some
steps-preserved-in-Some c =
    let s : State = record { standings = c.steps.standings.items; waiting = c.steps.waiting.items; marks = c.steps.marks.items } in
    let refs = c.references_of-references.ensures in
    let next = rw c.deref.ensures.value at c.in-Some.ensures in
    let lt = all_within c.args.graph.now c.steps.entry.node c.references_of-references.result.now c.requires.within refs c.in-Some.next 0 next.within in
    let whole : c.steps.waiting.len ≡ length c.steps.waiting.items = omega arith in
    rw (c.in_ok-push.ensures.items, reverse_push, c.in_ok-push-2.ensures.items, c.entered-entry-in-Some.ensures, c.len-place.ensures, whole)
    (search_enters c.args.graph.now c.args.start s c.steps.entry (reverse c.steps.trail.items) c.in-Some.next (get_or c.references_of-references.result.now c.in-Some.next 0) c.steps.invariant lt next.unseen
    (next_refers c.args.graph.now c.steps.entry.node c.references_of-references.result.now c.in-Some.next refs next.within)
    (subst (λ (xs : List ℕ). AreSeen c.steps.standings.items xs c.in-Some.next) refs next.before))

pub settle-requires-clause-within : goal.settle-requires-clause-within
settle-requires-clause-within c =
    rw (c.deref-then-least-entry.ensures.value, c.deref_mut.ensures.value)
    (all_waiting c.args.graph.now c.args.start (record { standings = c.steps.standings.items; waiting = c.steps.waiting.items; marks = c.steps.marks.items }) c.steps.invariant.state)

pub least_waiting-found-requires : goal.least_waiting-found-requires
least_waiting-found-requires c =
    let sized : length c.deref-in-steps.result.now ≡ length c.args.graph.now = ap length c.deref-in-steps.ensures.value ∙ c.steps.invariant.state.sized in
    rw sized (all_within c.args.graph.now c.steps.entry.node c.references_of-references.result.now c.requires.within c.references_of-references.ensures)

pub returns-in_default-pop : goal.returns-in_default-pop
returns-in_default-pop c =
    let s : State = record { standings = c.steps.standings.items; waiting = c.steps.waiting.items; marks = c.steps.marks.items } in
    let s' : State = record { standings = c.if-least-entry.standings.items; waiting = c.if-least-entry.waiting.items; marks = set c.steps.marks.items c.steps.entry.node c.is_some.result } in
    let none = nil_from_length c.steps.trail.items (omega (arith, c.in_default-pop.ensures.cases)) in
    let v = leaves_read c.args.graph.now c.args.start s c.steps.entry [] c.references_of-references.result.now c.deref.result.now c.deref-in-steps.result.now c.least_waiting-found.result c.is_some.result c.unwrap_or.result c.min-least.result
    (subst (λ (vs : List Entry). IsSearch c.args.graph.now c.args.start s c.steps.entry (reverse vs)) none c.steps.invariant)
    c.requires.within c.requires.inside c.references_of-references.ensures c.deref.ensures.value c.deref-in-steps.ensures.value c.in_default.ensures c.least_waiting-found.ensures (search rules) c.unwrap_or.ensures c.min-least.ensures in
    elim c.if-least-entry.branch [
      | then-least-entry w ↦
          let kept : length w.settle.new.standings ≡ length w.deref_mut.result.now = omega arith in
          let sized : length w.settle.new.standings ≡ c.steps.standings.len = omega (arith, ap length w.deref_mut.ensures.value) in
          search_ends c.args.graph.now c.args.start (marked s c.steps.entry.node c.is_some.result) s' c.steps.entry c.min-least.result v w.if-least-entry.true
          (cut_read (marked s c.steps.entry.node c.is_some.result) s' c.steps.entry.place w.deref-then-least-entry.result.now w.deref_mut.result.now w.settle.new.standings w.deref-then-least-entry.ensures.value w.deref_mut.ensures.value
          w.settle.ensures kept (ap (λ v. v.items) w.standings-is ∙ take_at w.settle.new.standings _ c.steps.standings.len sized) (ap (λ v. v.items) w.waiting-is ∙ w.truncate.ensures.items) refl)
      | else-least-entry w ↦ let bottom = v.search'.trail.0 in absurd (omega (arith, w.if-least-entry.false, v.less, v.search'.here.low, bottom))
    ]

pub steps-smaller : goal.steps-smaller
steps-smaller c =
    leave_lighter c.steps.standings.items c.if-least-entry.standings.items c.steps.trail.items c.pop.new.self.items c.in-Some-pop.below
    (elim c.if-least-entry.branch [
      | then-least-entry w ↦
          let kept : length w.settle.new.standings ≡ length w.deref_mut.result.now = omega arith in
          let sized : length w.settle.new.standings ≡ c.steps.standings.len = omega (arith, ap length w.deref_mut.ensures.value) in
          let light = settled_lighter w.deref-then-least-entry.result.now c.steps.entry.place (length w.deref-then-least-entry.result.now) w.deref_mut.result.now w.settle.new.standings kept w.settle.ensures in
          rw (ap (λ v. v.items) w.standings-is ∙ take_at w.settle.new.standings _ c.steps.standings.len sized) (subst (λ (ss : List Standing). sum_by weight w.settle.new.standings ≤ sum_by weight ss) w.deref_mut.ensures.value light)
      | else-least-entry w ↦ rw (ap (λ v. v.items) w.standings-is) (omega arith)
    ])
    c.in-Some-pop.ensures.items

pub steps-preserved : goal.steps-preserved
steps-preserved c =
    let s : State = record { standings = c.steps.standings.items; waiting = c.steps.waiting.items; marks = c.steps.marks.items } in
    let s' : State = record { standings = c.if-least-entry.standings.items; waiting = c.if-least-entry.waiting.items; marks = set c.steps.marks.items c.steps.entry.node c.is_some.result } in
    let popped : reverse c.steps.trail.items ≡ c.in-Some-pop.below ∷ reverse c.pop.new.self.items = ap reverse c.in-Some-pop.ensures.items ∙ reverse_push c.pop.new.self.items c.in-Some-pop.below in
    let v = leaves_read c.args.graph.now c.args.start s c.steps.entry (c.in-Some-pop.below ∷ reverse c.pop.new.self.items) c.references_of-references.result.now c.deref.result.now c.deref-in-steps.result.now c.least_waiting-found.result
    c.is_some.result c.unwrap_or.result c.min-least.result (subst (IsSearch c.args.graph.now c.args.start s c.steps.entry) popped c.steps.invariant) c.requires.within c.requires.inside c.references_of-references.ensures c.deref.ensures.value
    c.deref-in-steps.ensures.value c.in_default.ensures c.least_waiting-found.ensures (search rules) c.unwrap_or.ensures c.min-least.ensures in
    elim c.if-least-entry.branch [
      | then-least-entry w ↦
          let kept : length w.settle.new.standings ≡ length w.deref_mut.result.now = omega arith in
          let sized : length w.settle.new.standings ≡ c.steps.standings.len = omega (arith, ap length w.deref_mut.ensures.value) in
          rw c.lowered-entry.ensures
          (search_settles c.args.graph.now c.args.start (marked s c.steps.entry.node c.is_some.result) s' c.steps.entry c.in-Some-pop.below (reverse c.pop.new.self.items) c.min-least.result (min c.in-Some-pop.below.least c.min-least.result) v w.if-least-entry.true
          (cut_read (marked s c.steps.entry.node c.is_some.result) s' c.steps.entry.place w.deref-then-least-entry.result.now w.deref_mut.result.now w.settle.new.standings w.deref-then-least-entry.ensures.value w.deref_mut.ensures.value
          w.settle.ensures kept (ap (λ v. v.items) w.standings-is ∙ take_at w.settle.new.standings _ c.steps.standings.len sized) (ap (λ v. v.items) w.waiting-is ∙ w.truncate.ensures.items) refl)
          refl)
      | else-least-entry w ↦
          rw (c.lowered-entry.ensures, ap (λ v. v.items) w.standings-is, ap (λ v. v.items) w.waiting-is)
          (search_back c.args.graph.now c.args.start (marked s c.steps.entry.node c.is_some.result) c.steps.entry c.in-Some-pop.below (reverse c.pop.new.self.items) c.min-least.result (min c.in-Some-pop.below.least c.min-least.result) v
          (omega (arith, w.if-least-entry.false, v.less, v.search'.here.low)) refl)
    ]
