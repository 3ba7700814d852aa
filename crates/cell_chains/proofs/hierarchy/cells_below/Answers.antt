-- What the graph's searches find, said of chains.
use Rattle.std.proofs.Common.{◌≡◌, ◌<◌, ◌≤◌, ℕ, List, length, get_or, refl, sym, subst, ◌∙◌, ap, arith}
use Rattle.std.proofs.lemmas.List.Elements.{Contains-get_or}
use Rattle.or_geom.specs.Least.{IsLeast}
use Rattle.reference_graph.specs.Reaches.{IsAcyclic, IsLeastCyclic}
use Rattle.reference_graph.specs.BottomUp.{IsOrder}
use Rattle.reference_graph.specs.Height.{IsHeight, AreHeights}
use Rattle.reference_graph.proofs.PathLaws.{reaches_start, reaches_within}
use Rattle.cell_chains.specs.Chains.{IsMissing, IsCyclic}
use Rattle.cell_chains.specs.Numbering.{texts}
use Rattle.cell_chains.specs.Listing.{IsLeastUnknown, AreKnown, AreListed}
use Rattle.cell_chains.proofs.NameLaws.{texts_long}
use Rattle.cell_chains.proofs.ChainLaws.{graph_within}
use Rattle.cell_chains.proofs.FaultLaws.{setting_of, read_name, least_missing, none_missing, least_cycle, none_cyclic, depth_of, chains_short}
use Rattle.cell_chains.proofs.CellLaws.{are_cells}
use Rattle.cell_chains.proofs.hierarchy.cells_below.Goals as goal

pub first_unknown-requires-clause-within : goal.first_unknown-requires-clause-within
first_unknown-requires-clause-within c = rw c.deref.ensures.value (graph_within c.args.structs.now (texts c.in_ok-nodes.nodes.names.items) c.in_ok-nodes.nodes.graph.items c.in_ok-nodes.ensures.numbered.graph)

pub order-requires-clause-within : goal.order-requires-clause-within
order-requires-clause-within c = rw c.deref-3.ensures.value (graph_within c.args.structs.now (texts c.in_ok-nodes.nodes.names.items) c.in_ok-nodes.nodes.graph.items c.in_ok-nodes.ensures.numbered.graph)

pub least_cyclic-requires-clause-within : goal.least_cyclic-requires-clause-within
least_cyclic-requires-clause-within c =
    rw c.deref-in_default-2.ensures.value (graph_within c.args.structs.now (texts c.in_ok-nodes.nodes.names.items) c.in_ok-nodes.nodes.graph.items c.in_ok-nodes.ensures.numbered.graph)

pub returns-in-Some-clause-fault : goal.returns-in-Some-clause-fault
returns-in-Some-clause-fault c =
    let nodes = c.in_ok-nodes.nodes in
    let s = setting_of c.args.structs.now c.args.top.now nodes c.requires c.in_ok-nodes.ensures in
    let found : IsLeastUnknown c.deref.result.now c.deref-2.result.now nodes.top c.in-Some.node = rw c.in-Some.is at c.in_ok-node.ensures.found in
    let u : IsLeastUnknown nodes.graph.items nodes.firsts.items nodes.top c.in-Some.node =
    subst (λ (g : List (List ℕ)). IsLeastUnknown g nodes.firsts.items nodes.top c.in-Some.node) c.deref.ensures.value (subst (λ fs. IsLeastUnknown c.deref.result.now fs nodes.top c.in-Some.node) c.deref-2.ensures.value found) in
    let inside : c.in-Some.node < length nodes.names.items = omega (arith, u.within, s.graph_is.sized, texts_long nodes.names.items) in
    subst (IsLeast (IsMissing c.args.structs.now c.args.top.now)) (read_name nodes.names.items c.in-Some.node c.index.result.now c.in_ok-name.name inside c.index.ensures c.in_ok-name.ensures)
    (least_missing c.args.structs.now c.args.top.now (texts nodes.names.items) nodes.firsts.items nodes.graph.items nodes.top s c.in_ok-nodes.ensures.numbered.firsts c.in-Some.node u)

pub returns-in_default-2-clause-fault : goal.returns-in_default-2-clause-fault
returns-in_default-2-clause-fault c =
    let nodes = c.in_ok-nodes.nodes in
    let s = setting_of c.args.structs.now c.args.top.now nodes c.requires c.in_ok-nodes.ensures in
    let none : AreKnown c.deref.result.now c.deref-2.result.now nodes.top = rw c.in_default.is at c.in_ok-node.ensures.none in
    let known : AreKnown nodes.graph.items nodes.firsts.items nodes.top =
    subst (λ (g : List (List ℕ)). AreKnown g nodes.firsts.items nodes.top) c.deref.ensures.value (subst (λ fs. AreKnown c.deref.result.now fs nodes.top) c.deref-2.ensures.value none) in
    let found : IsLeastCyclic c.deref-in_default-2.result.now nodes.top c.in-Some-3.node = rw c.in-Some-3.is at c.in_ok-node-2.ensures.least in
    let l : IsLeastCyclic nodes.graph.items nodes.top c.in-Some-3.node = subst (λ (g : List (List ℕ)). IsLeastCyclic g nodes.top c.in-Some-3.node) c.deref-in_default-2.ensures.value found in
    let start_in : nodes.top < length nodes.graph.items = omega (arith, s.start_is.within, s.graph_is.sized) in
    let in_graph : c.in-Some-3.node < length nodes.graph.items =
    reaches_within nodes.graph.items nodes.top c.in-Some-3.node (graph_within c.args.structs.now (texts nodes.names.items) nodes.graph.items s.graph_is) start_in l.reached in
    let inside : c.in-Some-3.node < length nodes.names.items = omega (arith, in_graph, s.graph_is.sized, texts_long nodes.names.items) in (
      none_missing c.args.structs.now c.args.top.now (texts nodes.names.items) nodes.firsts.items nodes.graph.items nodes.top s c.in_ok-nodes.ensures.numbered.firsts known,
      subst (IsLeast (IsCyclic c.args.structs.now c.args.top.now)) (read_name nodes.names.items c.in-Some-3.node c.index-in_default-2.result.now c.in_ok-name-2.name inside c.index-in_default-2.ensures c.in_ok-name-2.ensures)
          (least_cycle c.args.structs.now c.args.top.now (texts nodes.names.items) nodes.graph.items nodes.top s c.in-Some-3.node l),
    )

pub returns-then-depth-gt-DEEPEST-clause-fault : goal.returns-then-depth-gt-DEEPEST-clause-fault
returns-then-depth-gt-DEEPEST-clause-fault c =
    let nodes = c.in_ok-nodes.nodes in
    let order = c.in-Some-2.order.items in
    let heights = c.in_ok-heights.heights.items in
    let s = setting_of c.args.structs.now c.args.top.now nodes c.requires c.in_ok-nodes.ensures in
    let none : AreKnown c.deref.result.now c.deref-2.result.now nodes.top = rw c.in_default.is at c.in_ok-node.ensures.none in
    let known : AreKnown nodes.graph.items nodes.firsts.items nodes.top =
    subst (λ (g : List (List ℕ)). AreKnown g nodes.firsts.items nodes.top) c.deref.ensures.value (subst (λ fs. AreKnown c.deref.result.now fs nodes.top) c.deref-2.ensures.value none) in
    let free : IsAcyclic c.deref-3.result.now nodes.top = rw c.in-Some-2.is at c.in_ok-order.ensures.acyclic in
    let acyclic : IsAcyclic nodes.graph.items nodes.top = subst (λ (g : List (List ℕ)). IsAcyclic g nodes.top) c.deref-3.ensures.value free in
    let ordered : IsOrder c.deref-3.result.now nodes.top order = rw c.in-Some-2.is at c.in_ok-order.ensures.order in
    let o : IsOrder nodes.graph.items nodes.top order = subst (λ (g : List (List ℕ)). IsOrder g nodes.top order) c.deref-3.ensures.value ordered in
    let high : AreHeights nodes.graph.items order heights =
    subst (λ (g : List (List ℕ)). AreHeights g order heights) c.deref-4.ensures.value (subst (λ (ns : List ℕ). AreHeights c.deref-4.result.now ns heights) c.deref-5.ensures.value c.in_ok-heights.ensures) in
    let depth : c.height_at-depth.result ≡ get_or heights nodes.top 0 = c.height_at-depth.ensures.is ∙ ap (λ (hs : List ℕ). get_or hs nodes.top 0) c.deref-6.ensures.value in
    let h : IsHeight nodes.graph.items nodes.top c.height_at-depth.result =
    subst (IsHeight nodes.graph.items nodes.top) (sym depth) (high.each nodes.top ((o.exact nodes.top).1 (reaches_start nodes.graph.items nodes.top nodes.top refl))) in (
      none_missing c.args.structs.now c.args.top.now (texts nodes.names.items) nodes.firsts.items nodes.graph.items nodes.top s c.in_ok-nodes.ensures.numbered.firsts known,
      none_cyclic c.args.structs.now c.args.top.now (texts nodes.names.items) nodes.graph.items nodes.top s acyclic,
      depth_of c.args.structs.now c.args.top.now (texts nodes.names.items) nodes.graph.items nodes.top s c.height_at-depth.result c.height_at-depth.ensures.fits h,
      c.if-depth-gt-DEEPEST.true,
    )

pub listed-requires-clause-known : goal.listed-requires-clause-known
listed-requires-clause-known c =
    let nodes = c.in_ok-nodes.nodes in
    let order = c.in-Some-2.order.items in
    let none : AreKnown c.deref.result.now c.deref-2.result.now nodes.top = rw c.in_default.is at c.in_ok-node.ensures.none in
    let known : AreKnown nodes.graph.items nodes.firsts.items nodes.top =
    subst (λ (g : List (List ℕ)). AreKnown g nodes.firsts.items nodes.top) c.deref.ensures.value (subst (λ fs. AreKnown c.deref.result.now fs nodes.top) c.deref-2.ensures.value none) in
    let ordered : IsOrder c.deref-3.result.now nodes.top order = rw c.in-Some-2.is at c.in_ok-order.ensures.order in
    let o : IsOrder nodes.graph.items nodes.top order = subst (λ (g : List (List ℕ)). IsOrder g nodes.top order) c.deref-3.ensures.value ordered in
    rw c.deref-7.ensures.value (λ k d lt. known (get_or order k d) ((o.exact (get_or order k d)).0 (Contains-get_or order k d lt)))

pub returns-clause-are : goal.returns-clause-are
returns-clause-are c =
    let nodes = c.in_ok-nodes.nodes in
    let order = c.in-Some-2.order.items in
    let heights = c.in_ok-heights.heights.items in
    let cells = c.in_ok-listed.field-0.items in
    let s = setting_of c.args.structs.now c.args.top.now nodes c.requires c.in_ok-nodes.ensures in
    let ordered : IsOrder c.deref-3.result.now nodes.top order = rw c.in-Some-2.is at c.in_ok-order.ensures.order in
    let o : IsOrder nodes.graph.items nodes.top order = subst (λ (g : List (List ℕ)). IsOrder g nodes.top order) c.deref-3.ensures.value ordered in
    let high : AreHeights nodes.graph.items order heights =
    subst (λ (g : List (List ℕ)). AreHeights g order heights) c.deref-4.ensures.value (subst (λ (ns : List ℕ). AreHeights c.deref-4.result.now ns heights) c.deref-5.ensures.value c.in_ok-heights.ensures) in
    let depth : c.height_at-depth.result ≡ get_or heights nodes.top 0 = c.height_at-depth.ensures.is ∙ ap (λ (hs : List ℕ). get_or hs nodes.top 0) c.deref-6.ensures.value in
    let low : get_or heights nodes.top 0 ≤ 32 = subst (λ (n : ℕ). n ≤ 32) depth c.if-depth-gt-DEEPEST.false in
    let listed : AreListed c.args.structs.now (texts nodes.names.items) nodes.firsts.items order heights cells =
    subst (λ (ns : List ℕ). AreListed c.args.structs.now (texts nodes.names.items) nodes.firsts.items ns heights cells) c.deref-7.ensures.value
    (subst (λ (hs : List ℕ). AreListed c.args.structs.now (texts nodes.names.items) nodes.firsts.items c.deref-7.result.now hs cells) c.deref-8.ensures.value c.in_ok-listed.ensures) in
    are_cells c.args.structs.now c.args.top.now (texts nodes.names.items) nodes.firsts.items nodes.graph.items nodes.top order heights cells s
    (record { firsts_are = c.in_ok-nodes.ensures.numbered.firsts; order_is = o; heights_are = high; low = low; listed = listed })

pub returns-clause-sound : goal.returns-clause-sound
returns-clause-sound c =
    let nodes = c.in_ok-nodes.nodes in
    let order = c.in-Some-2.order.items in
    let heights = c.in_ok-heights.heights.items in
    let s = setting_of c.args.structs.now c.args.top.now nodes c.requires c.in_ok-nodes.ensures in
    let none : AreKnown c.deref.result.now c.deref-2.result.now nodes.top = rw c.in_default.is at c.in_ok-node.ensures.none in
    let known : AreKnown nodes.graph.items nodes.firsts.items nodes.top =
    subst (λ (g : List (List ℕ)). AreKnown g nodes.firsts.items nodes.top) c.deref.ensures.value (subst (λ fs. AreKnown c.deref.result.now fs nodes.top) c.deref-2.ensures.value none) in
    let free : IsAcyclic c.deref-3.result.now nodes.top = rw c.in-Some-2.is at c.in_ok-order.ensures.acyclic in
    let acyclic : IsAcyclic nodes.graph.items nodes.top = subst (λ (g : List (List ℕ)). IsAcyclic g nodes.top) c.deref-3.ensures.value free in
    let ordered : IsOrder c.deref-3.result.now nodes.top order = rw c.in-Some-2.is at c.in_ok-order.ensures.order in
    let o : IsOrder nodes.graph.items nodes.top order = subst (λ (g : List (List ℕ)). IsOrder g nodes.top order) c.deref-3.ensures.value ordered in
    let high : AreHeights nodes.graph.items order heights =
    subst (λ (g : List (List ℕ)). AreHeights g order heights) c.deref-4.ensures.value (subst (λ (ns : List ℕ). AreHeights c.deref-4.result.now ns heights) c.deref-5.ensures.value c.in_ok-heights.ensures) in
    let depth : c.height_at-depth.result ≡ get_or heights nodes.top 0 = c.height_at-depth.ensures.is ∙ ap (λ (hs : List ℕ). get_or hs nodes.top 0) c.deref-6.ensures.value in
    let h : IsHeight nodes.graph.items nodes.top c.height_at-depth.result =
    subst (IsHeight nodes.graph.items nodes.top) (sym depth) (high.each nodes.top ((o.exact nodes.top).1 (reaches_start nodes.graph.items nodes.top nodes.top refl))) in
    record {
      there = none_missing c.args.structs.now c.args.top.now (texts nodes.names.items) nodes.firsts.items nodes.graph.items nodes.top s c.in_ok-nodes.ensures.numbered.firsts known;
      acyclic = none_cyclic c.args.structs.now c.args.top.now (texts nodes.names.items) nodes.graph.items nodes.top s acyclic;
      short = chains_short c.args.structs.now c.args.top.now (texts nodes.names.items) nodes.graph.items nodes.top s c.height_at-depth.result c.if-depth-gt-DEEPEST.false h;
    }
