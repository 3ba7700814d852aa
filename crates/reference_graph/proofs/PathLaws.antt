-- Paths: one step more, one after another, and where they lead.
use Rattle.std.proofs.Common.{◌≡◌, ℕ, ◌<◌, List, [], ◌∷◌, ◌++◌, length, get_or, refl, sym, subst}
use Rattle.std.specs.Prelude.{Contains, All}
use Rattle.std.proofs.lemmas.List.Elements.{Contains-get_or}
use Rattle.reference_graph.specs.Reaches.{RefersTo, AreWithin, IsPath, Reaches, ReachesItself}

-- a path and one reference more
path_push : (graph : List (List ℕ)) (from node to : ℕ) (path : List ℕ) → IsPath graph from path node → RefersTo graph node to → IsPath graph from (path ++ to ∷ []) to
path_push graph from node to [] leads refers = (subst (λ (n : ℕ). RefersTo graph n to) leads refers, refl)
path_push graph from node to (next ∷ rest) leads refers = (leads.0, path_push graph next node to rest leads.1 refers)

-- what a reached node refers to is reached
pub reaches_on : (graph : List (List ℕ)) (from node to : ℕ) → Reaches graph from node → RefersTo graph node to → Reaches graph from to
reaches_on graph from node to r refers = record { path = r.path ++ to ∷ []; leads = path_push graph from node to r.path r.leads refers }

reaches_along : (graph : List (List ℕ)) (from node to : ℕ) (path : List ℕ) → Reaches graph from node → IsPath graph node path to → Reaches graph from to
reaches_along graph from node to [] r leads = subst (Reaches graph from) (sym leads) r
reaches_along graph from node to (next ∷ rest) r leads = reaches_along graph from next to rest (reaches_on graph from node next r leads.0) leads.1

-- and so is what is reached from there
pub reaches_over : (graph : List (List ℕ)) (from node to : ℕ) → Reaches graph from node → Reaches graph node to → Reaches graph from to
reaches_over graph from node to r s = reaches_along graph from node to s.path r s.leads

-- each node reaches itself by the empty path, in the wide sense
pub reaches_start : (graph : List (List ℕ)) (from to : ℕ) → to ≡ from → Reaches graph from to
reaches_start graph from to e = record { path = []; leads = e }

path_within : (graph : List (List ℕ)) (from to : ℕ) (path : List ℕ) → AreWithin graph → from < length graph → IsPath graph from path to → to < length graph
path_within graph from to [] within lt leads = subst (λ (n : ℕ). n < length graph) (sym leads) lt
path_within graph from to (next ∷ rest) within lt leads = path_within graph next to rest within (within from next leads.0) leads.1

-- what is reached is a node of the list
pub reaches_within : (graph : List (List ℕ)) (from to : ℕ) → AreWithin graph → from < length graph → Reaches graph from to → to < length graph
reaches_within graph from to within lt r = path_within graph from to r.path within lt r.leads

-- each reference of a node is below the number of nodes
pub all_within : (graph : List (List ℕ)) (node : ℕ) (references : List ℕ) → AreWithin graph → references ≡ get_or graph node [] → All (λ to. to < length graph) references
all_within graph node references within e = λ k d h. within node (get_or references k d) (subst (λ (xs : List ℕ). Contains xs (get_or references k d)) e (Contains-get_or references k d h))

itself_by : (graph : List (List ℕ)) (node last : ℕ) (path : List ℕ) → IsPath graph node path last → RefersTo graph last node → ReachesItself graph node
itself_by graph node last [] leads refers = record { next = node; rest = []; leads = (subst (λ (n : ℕ). RefersTo graph n node) leads refers, refl) }
itself_by graph node last (next ∷ rest) leads refers = record { next = next; rest = rest ++ node ∷ []; leads = (leads.0, path_push graph next last node rest leads.1 refers) }

-- a node reaches itself if one that it reaches refers back to it
pub itself_from : (graph : List (List ℕ)) (node last : ℕ) → Reaches graph node last → RefersTo graph last node → ReachesItself graph node
itself_from graph node last r refers = itself_by graph node last r.path r.leads refers
