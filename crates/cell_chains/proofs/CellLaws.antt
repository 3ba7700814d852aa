-- The listed cells are the cells from the bottom up.
use Rattle.std.proofs.Common.{◌≡◌, ℕ, zero, suc, ◌-◌, ◌<◌, ◌≤◌, List, [], ◌∷◌, ◌++◌, length, get_or, Option, Some, refl, sym, ap, subst, ◌∙◌, arith, length-append}
use Rattle.std.specs.Prelude.{Contains, slice_get}
use Rattle.std.proofs.lemmas.Option.{slice_get_within, get_or_from_slice_get}
use Rattle.std.proofs.lemmas.List.{get_or_default}
use Rattle.std.proofs.lemmas.List.Elements.{Contains-get_or}
use Rattle.reference_graph.proofs.OrderLaws.{path_back}
use Rattle.reference_graph.specs.Reaches as paths
use Rattle.reference_graph.specs.Reaches.{RefersTo, IsPath}
use Rattle.reference_graph.specs.BottomUp.{IsBottomUp, IsOrder}
use Rattle.reference_graph.specs.Height.{IsHeight, AreHeights}
use Rattle.reference_graph.proofs.PathLaws.{reaches_start}
use Rattle.gds_library.specs.declared.library.Element.{Element}
use Rattle.gds_library.specs.declared.library.Structure.{Structure}
use Rattle.cell_chains.specs.declared.cell.Cell.{Cell}
use Rattle.cell_chains.specs.Chains.{elements_of}
use Rattle.cell_chains.specs.Hierarchy.{referred_name, IsTarget, IsCell, AreCells}
use Rattle.cell_chains.specs.Numbering.{name_at, referred_names, AreFirsts}
use Rattle.cell_chains.specs.Listing.{IsListed, AreListed}
use Rattle.cell_chains.proofs.NameLaws.{one_node}
use Rattle.cell_chains.proofs.MemberLaws.{image_from}
use Rattle.cell_chains.proofs.FirstLaws.{has_first}
use Rattle.cell_chains.proofs.TargetLaws.{refers_among}
use Rattle.cell_chains.proofs.FaultLaws.{IsSetting}

path_join : (graph : List (List ℕ)) (from node to : ℕ) (front back : List ℕ) → IsPath graph from front node → IsPath graph node back to → IsPath graph from (front ++ back) to
path_join graph from node to [] back one two = subst (λ (n : ℕ). IsPath graph n back to) one two
path_join graph from node to (next ∷ rest) back one two = (one.0, path_join graph next node to rest back one.1 two)

-- a node that is reached is at most as high as the start, where that is low
low_below : (graph : List (List ℕ)) (start node high height : ℕ) → IsHeight graph start high → high ≤ 32 → paths.Reaches graph start node → IsHeight graph node height → height ≤ 32
low_below graph start node high height top low r h =
    let le = top.most (r.path ++ h.path) h.end (path_join graph start node h.end r.path h.path r.leads h.leads) in
    let e = length-append r.path h.path in
    omega (arith, le, e, h.long, low)

-- a node is lower than one that refers to it, where that is low
lower_than : (graph : List (List ℕ)) (node to height below : ℕ) → IsHeight graph node height → height ≤ 32 → RefersTo graph node to → IsHeight graph to below → below < height
lower_than graph node to height below h low refers b =
    let le = h.most (to ∷ b.path) b.end (refers, b.leads) in
    omega (arith, le, b.long, low)

-- the last of an order
pub record HasLast (order : List ℕ) (start : ℕ) : Type 0 where
  pub before : ℕ
  pub count : length order ≡ suc before
  pub is : get_or order before 0 ≡ start

last_by : (graph : List (List ℕ)) (start : ℕ) (order : List ℕ) → IsOrder graph start order → (place before : ℕ) → place < length order → get_or order place 0 ≡ start → length order ≡ suc before → (path : List ℕ)
    → IsPath graph (get_or order place 0) path (get_or order before 0) → get_or order before 0 ≡ start
last_by graph start order o place before lt is count [] leads = leads ∙ is
last_by graph start order o place before lt is count (next ∷ rest) leads =
    let s = path_back graph order o.bottom_up place (get_or order place 0) next (get_or order before 0) rest lt refl leads in
    absurd (o.bottom_up.once s.earlier before 0 (omega (arith, s.before)) (omega (arith, count)) s.is)

pub start_last : (graph : List (List ℕ)) (start : ℕ) (order : List ℕ) → IsOrder graph start order → HasLast order start
start_last graph start order o =
    let spot = (o.exact start).1 (reaches_start graph start start refl) in
    let is : get_or order spot.0 0 ≡ start = get_or_default order spot.0 0 start spot.1 ∙ spot.2 in
    let before : ℕ = length order - 1 in
    let count : length order ≡ suc before = omega (arith, spot.1) in
    let r = (o.exact (get_or order before 0)).0 (Contains-get_or order before 0 (omega (arith, spot.1))) in
    record {
      before = before;
      count = count;
      is = last_by graph start order o spot.0 before spot.1 is count r.path (subst (λ (n : ℕ). IsPath graph n r.path (get_or order before 0)) (sym is) r.leads);
    }

-- the structure of a listed cell
pub record HasStructure (structs : List Structure) (name : List ℕ) (cell : Cell) : Type 0 where
  pub structure : Structure
  pub stands : slice_get structs cell.structure ≡ Some structure
  pub named : structure.name ≡ name
  pub first : elements_of structs name ≡ structure.elements

structure_of : (structs : List Structure) (names : List (List ℕ)) (firsts : List (Option ℕ)) (positions : List ℕ) (height node : ℕ) (cell : Cell) → AreFirsts structs names firsts → node < length names → IsListed structs names firsts positions height node cell
    → HasStructure structs (name_at names node) cell
structure_of structs names firsts positions height node cell f lt l =
    let h = has_first 0 structs (name_at names node) cell.structure (sym (f.each node lt) ∙ l.first) in
    let e : h.place ≡ cell.structure = omega (arith, h.is) in
    record { structure = h.structure; stands = subst (λ (k : ℕ). slice_get structs k ≡ Some h.structure) e h.stands; named = h.named; first = h.first }

-- what was found: an order of what the top reaches, the heights, the cells
pub record IsFound (structs : List Structure) (names : List (List ℕ)) (firsts : List (Option ℕ)) (graph : List (List ℕ)) (start : ℕ) (order heights : List ℕ) (cells : List Cell) : Type 0 where
  pub firsts_are : AreFirsts structs names firsts
  pub order_is : IsOrder graph start order
  pub heights_are : AreHeights graph order heights
  pub low : get_or heights start 0 ≤ 32
  pub listed : AreListed structs names firsts order heights cells

high_at : (structs : List Structure) (names : List (List ℕ)) (firsts : List (Option ℕ)) (graph : List (List ℕ)) (start : ℕ) (order heights : List ℕ) (cells : List Cell) → IsFound structs names firsts graph start order heights cells → (place : ℕ)
    → place < length order → IsHeight graph (get_or order place 0) (get_or heights (get_or order place 0) 0)
high_at structs names firsts graph start order heights cells f place lt = f.heights_are.each (get_or order place 0) (Contains-get_or order place 0 lt)

low_at : (structs : List Structure) (names : List (List ℕ)) (firsts : List (Option ℕ)) (graph : List (List ℕ)) (start : ℕ) (order heights : List ℕ) (cells : List Cell) → IsFound structs names firsts graph start order heights cells → (place : ℕ)
    → place < length order → get_or heights (get_or order place 0) 0 ≤ 32
low_at structs names firsts graph start order heights cells f place lt =
    let top = f.heights_are.each start ((f.order_is.exact start).1 (reaches_start graph start start refl)) in
    let r = (f.order_is.exact (get_or order place 0)).0 (Contains-get_or order place 0 lt) in
    low_below graph start (get_or order place 0) (get_or heights start 0) (get_or heights (get_or order place 0) 0) top f.low r (high_at structs names firsts graph start order heights cells f place lt)

node_within : (structs : List Structure) (top : List ℕ) (names : List (List ℕ)) (graph : List (List ℕ)) (start : ℕ) → IsSetting structs top names graph start → (order : List ℕ) → IsBottomUp graph order → (place : ℕ) → place < length order
    → get_or order place 0 < length names
node_within structs top names graph start s order b place lt = let h = b.within place 0 lt in omega (arith, h, s.graph_is.sized)

-- what stands at a place of a list
cell_there : (cells : List Cell) (place : ℕ) → place < length cells → (cell : Cell) × (slice_get cells place ≡ Some cell)
cell_there [] place lt = absurd (omega arith)
cell_there (c ∷ cs) zero lt = (c, refl)
cell_there (c ∷ cs) (suc place) lt = cell_there cs place (omega arith)

-- the cell at a place of the list
pub record HasCell (structs : List Structure) (names : List (List ℕ)) (firsts : List (Option ℕ)) (order heights : List ℕ) (cells : List Cell) (place : ℕ) : Type 0 where
  pub cell : Cell
  pub stands : slice_get cells place ≡ Some cell
  pub high : cell.height ≡ get_or heights (get_or order place 0) 0
  pub its : HasStructure structs (name_at names (get_or order place 0)) cell

cell_at : (structs : List Structure) (top : List ℕ) (names : List (List ℕ)) (firsts : List (Option ℕ)) (graph : List (List ℕ)) (start : ℕ) (order heights : List ℕ) (cells : List Cell) → IsSetting structs top names graph start
    → IsFound structs names firsts graph start order heights cells → (place : ℕ) (cell : Cell) → place < length order → slice_get cells place ≡ Some cell → HasCell structs names firsts order heights cells place
cell_at structs top names firsts graph start order heights cells s f place cell lt stands =
    let l = f.listed.each place cell stands in
    record {
      cell = cell;
      stands = stands;
      high = l.high;
      its =
          structure_of structs names firsts f.listed.positions (get_or heights (get_or order place 0) 0) (get_or order place 0) cell f.firsts_are
          (node_within structs top names graph start s order f.order_is.bottom_up place lt) l;
    }

-- a node to which an element of a structure refers
refers_node : (structs : List Structure) (top : List ℕ) (names : List (List ℕ)) (graph : List (List ℕ)) (start : ℕ) → IsSetting structs top names graph start → (node to : ℕ) (elements : List Element) (n : ℕ) (e : Element) (name : List ℕ) → node < length names
    → elements_of structs (name_at names node) ≡ elements → slice_get elements n ≡ Some e → referred_name e ≡ Some name → to < length names → name_at names to ≡ name → RefersTo graph node to
refers_node structs top names graph start s node to elements n e name lt same stands refers inside named =
    let r = s.graph_is.each node lt in
    let among : Contains (referred_names elements) name = refers_among elements e name (n, slice_get_within elements n e stands, get_or_from_slice_get elements n e e stands) refers in
    let image = image_from (name_at names) (get_or graph node []) name
    (subst (λ (ns : List (List ℕ)). Contains ns name) (sym r.named) (subst (λ (es : List Element). Contains (referred_names es) name) (sym same) among)) in
    let one : image.item ≡ to = one_node names image.item to s.rises (r.within image.item image.stands) inside (image.is ∙ sym named) in
    subst (λ (k : ℕ). Contains (get_or graph node []) k) one image.stands

target_is : (structs : List Structure) (top : List ℕ) (names : List (List ℕ)) (firsts : List (Option ℕ)) (graph : List (List ℕ)) (start : ℕ) (order heights : List ℕ) (cells : List Cell) → IsSetting structs top names graph start
    → (f : IsFound structs names firsts graph start order heights cells) → (k height target to : ℕ) (name : List ℕ) → k < length order → height ≡ get_or heights (get_or order k 0) 0 → RefersTo graph (get_or order k 0) to → name_at names to ≡ name
    → get_or f.listed.positions to 0 ≡ target → IsTarget structs cells k height target name
target_is structs top names firsts graph start order heights cells s f k height target to name lt high refers named placed =
    let b = f.order_is.bottom_up.after k to lt refers in
    let inside : b.earlier < length order = omega (arith, b.before) in
    let same : b.earlier ≡ target = sym (f.listed.placed.each b.earlier inside) ∙ (ap (λ (n : ℕ). get_or f.listed.positions n 0) b.is ∙ placed) in
    let room : b.earlier < length cells = omega (arith, f.listed.sized) in
    let c = cell_there cells b.earlier room in
    let h = cell_at structs top names firsts graph start order heights cells s f b.earlier c.0 inside c.1 in
    let less : get_or heights (get_or order b.earlier 0) 0 < get_or heights (get_or order k 0) 0 =
    lower_than graph (get_or order k 0) (get_or order b.earlier 0) (get_or heights (get_or order k 0) 0) (get_or heights (get_or order b.earlier 0) 0) (high_at structs names firsts graph start order heights cells f k lt)
    (low_at structs names firsts graph start order heights cells f k lt) (subst (RefersTo graph (get_or order k 0)) (sym b.is) refers) (high_at structs names firsts graph start order heights cells f b.earlier inside) in
    subst (λ (t : ℕ). IsTarget structs cells k height t name) same
    (record {
      before = b.before;
      cell = h.cell;
      is = h.stands;
      structure = h.its.structure;
      stands = h.its.stands;
      named = h.its.named ∙ (ap (name_at names) b.is ∙ named);
      lower = omega (arith, less, h.high, high);
    })

cell_is : (structs : List Structure) (top : List ℕ) (names : List (List ℕ)) (firsts : List (Option ℕ)) (graph : List (List ℕ)) (start : ℕ) (order heights : List ℕ) (cells : List Cell) → IsSetting structs top names graph start
    → (f : IsFound structs names firsts graph start order heights cells) → (k : ℕ) (cell : Cell) → slice_get cells k ≡ Some cell → IsCell structs cells k cell
cell_is structs top names firsts graph start order heights cells s f k cell stands =
    let room = slice_get_within cells k cell stands in
    let lt : k < length order = omega (arith, room, f.listed.sized) in
    let inside = node_within structs top names graph start s order f.order_is.bottom_up k lt in
    let l = f.listed.each k cell stands in
    let h = structure_of structs names firsts f.listed.positions (get_or heights (get_or order k 0) 0) (get_or order k 0) cell f.firsts_are inside l in
    let low = low_at structs names firsts graph start order heights cells f k lt in
    record {
      structure = h.structure;
      stands = h.stands;
      first = subst (λ (n : List ℕ). elements_of structs n ≡ h.structure.elements) (sym h.named) h.first;
      low = omega (arith, low, l.high);
      sized = l.targets.sized ∙ ap length h.first;
      each = λ n e name here refers.
          let t = l.targets.each n e name (subst (λ (es : List Element). slice_get es n ≡ Some e) (sym h.first) here) refers in
          target_is structs top names firsts graph start order heights cells s f k cell.height (get_or cell.targets n 0) t.node name lt l.high
          (refers_node structs top names graph start s (get_or order k 0) t.node h.structure.elements n e name inside h.first here refers t.is.within t.is.named) t.is.named t.stands;
    }

-- the listed cells are the cells below the top
pub are_cells : (structs : List Structure) (top : List ℕ) (names : List (List ℕ)) (firsts : List (Option ℕ)) (graph : List (List ℕ)) (start : ℕ) (order heights : List ℕ) (cells : List Cell) → IsSetting structs top names graph start
    → IsFound structs names firsts graph start order heights cells → AreCells structs top cells
are_cells structs top names firsts graph start order heights cells s f =
    let l = start_last graph start order f.order_is in
    let inside : l.before < length order = omega (arith, l.count) in
    let room : l.before < length cells = omega (arith, inside, f.listed.sized) in
    let c = cell_there cells l.before room in
    let h = cell_at structs top names firsts graph start order heights cells s f l.before c.0 inside c.1 in
    record {
      all = cell_is structs top names firsts graph start order heights cells s f;
      before = l.before;
      count = f.listed.sized ∙ l.count;
      last = record { cell = h.cell; is = h.stands; structure = h.its.structure; stands = h.its.stands; named = h.its.named ∙ (ap (name_at names) l.is ∙ s.start_is.named) };
    }
