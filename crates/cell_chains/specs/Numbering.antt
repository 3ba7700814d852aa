-- The names to which a library's references lead, numbered in their order: the nodes of a graph of who refers to whom.
use Rattle.std.specs.Prelude.{◌≡◌, ◌<◌, ℕ, suc, List, [], ◌∷◌, map, length, slice_index_or, cond, Contains, Option, Some, None}
use Rattle.std.specs.List.{AllPairs, filter_map, flat_map}
use Rattle.std.specs.Ordering.{nat_cmp}
use Rattle.std.specs.Cmp.Lexicographic.{slice_cmp}
use Rattle.std.specs.Str.{bytes_eq}
use Rattle.std.specs.declared.cmp.Ordering.TheVariants.{Less}
use Rattle.gds_library.specs.declared.library.Element.{Element}
use Rattle.gds_library.specs.declared.library.Structure.{Structure}
use Rattle.cell_chains.specs.declared.nodes.Nodes.{Nodes}
use Rattle.cell_chains.specs.Chains.{elements_of}
use Rattle.cell_chains.specs.Hierarchy.{referred_name}
use denote.Ref.{Bor}

-- the names that are pointed to
abbrev pub texts : List (Bor (List ℕ)) → List (List ℕ)
texts names = map (λ name. name.now) names

-- the name of this number
abbrev pub name_at : List (List ℕ) → ℕ → List ℕ
name_at names node = slice_index_or names node []

-- the names to which the elements refer, element by element
abbrev pub referred_names : List Element → List (List ℕ)
referred_names elements = filter_map referred_name elements

-- the names to which the structures refer, one after another
abbrev pub all_referred : List Structure → List (List ℕ)
all_referred structs = flat_map (λ s. referred_names s.elements) structs

-- each name comes before the next by its bytes
abbrev pub Rises : List (List ℕ) → Type 0
Rises names = AllPairs (λ a b. slice_cmp nat_cmp a b ≡ Less) names

-- the node has the name
pub record IsNodeNamed (names : List (List ℕ)) (name : List ℕ) (node : ℕ) : Type 0 where
  pub within : node < length names
  pub named : name_at names node ≡ name

-- in order, each once, the top and the names to which structures refer
pub record AreNodeNames (structs : List Structure) (top : List ℕ) (names : List (List ℕ)) : Type 0 where
  pub rises : Rises names
  pub all : (name : List ℕ) → Contains (top ∷ all_referred structs) name → Contains names name

-- the place of the first structure of the name, counted from n
abbrev pub first_from : ℕ → List Structure → List ℕ → Option ℕ
first_from n [] name = None
first_from n (s ∷ ss) name = cond (bytes_eq s.name name) (Some n) (first_from (suc n) ss name)

-- for each name the place of its first structure
pub record AreFirsts (structs : List Structure) (names : List (List ℕ)) (firsts : List (Option ℕ)) : Type 0 where
  pub sized : length firsts ≡ length names
  pub each : (node : ℕ) → node < length names → slice_index_or firsts node None ≡ first_from 0 structs (name_at names node)

-- the places of the names to which the elements refer
pub record AreReferences (names : List (List ℕ)) (elements : List Element) (references : List ℕ) : Type 0 where
  pub within : (node : ℕ) → Contains references node → node < length names
  pub named : map (name_at names) references ≡ referred_names elements

-- for each name the places of the names to which its first structure refers
pub record IsGraph (structs : List Structure) (names : List (List ℕ)) (graph : List (List ℕ)) : Type 0 where
  pub sized : length graph ≡ length names
  pub each : (node : ℕ) → node < length names → AreReferences names (elements_of structs (name_at names node)) (slice_index_or graph node [])

-- the names in order, among them those to which structures refer, where their structures stand, and who refers to whom
pub record AreNumberedNodes (structs : List Structure) (nodes : Nodes) : Type 0 where
  pub rises : Rises (texts nodes.names.items)
  pub all : (name : List ℕ) → Contains (all_referred structs) name → Contains (texts nodes.names.items) name
  pub firsts : AreFirsts structs (texts nodes.names.items) nodes.firsts.items
  pub graph : IsGraph structs (texts nodes.names.items) nodes.graph.items

-- and which is the top
pub record AreNamedNodes (structs : List Structure) (top : List ℕ) (nodes : Nodes) : Type 0 where
  pub numbered : AreNumberedNodes structs nodes
  pub start : IsNodeNamed (texts nodes.names.items) top nodes.top
