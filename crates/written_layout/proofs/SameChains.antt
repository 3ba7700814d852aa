-- Structures that draw the same and refer to the same: their chains.
use Rattle.std.proofs.Common.{◌≡◌, ℕ, List, [], ◌∷◌, ◌↔◌, sym}
use Rattle.or_geom.specs.declared.shape.Shape.{Shape}
use Rattle.or_geom.specs.Least.{IsLeast}
use Rattle.gds_library.specs.declared.library.Structure.{Structure}
use Rattle.tech_rules.specs.declared.tech.Layer.{Layer}
use Rattle.element_drawing.specs.OwnShapes.{AreOwnShapes}
use Rattle.element_drawing.specs.OwnLabels.{own_labels}
use Rattle.cell_chains.specs.Instances.{Item}
use Rattle.cell_chains.specs.Chains.{elements_of, IsThere, IsItemOf, IsChain, Reaches, IsMissing, IsCyclic, IsDepth, IsSound}
use Rattle.cell_chains.specs.Hierarchy.{IsChainFault}
use Rattle.cell_chains.specs.declared.fault.ChainFault.{ChainFault}
use Rattle.cell_chains.specs.declared.fault.ChainFault.TheVariants as chain_fault
use Rattle.cell_hierarchy.specs.Counts.{Total, IsBelow, IsTotalWithin}

pub back : {A B : Type 0} → A ↔ B → B ↔ A
back e = (e.1, e.0)

-- the structures of one name draw the same, have the same labels and items, and as much below them
pub record Same (layers : List Layer) (a b : List Structure) : Type 0 where
  pub there : (name : List ℕ) → IsThere a name ↔ IsThere b name
  pub items : (name : List ℕ) (item : Item) → IsItemOf a name item ↔ IsItemOf b name item
  pub drawn : (name : List ℕ) (shapes : List Shape)
      → AreOwnShapes layers (elements_of a name) shapes ↔ AreOwnShapes layers (elements_of b name) shapes
  pub labels : (name : List ℕ) → own_labels layers (elements_of a name) ≡ own_labels layers (elements_of b name)
  pub below : (depth : ℕ)
      → ((name : List ℕ) (total : Total)
      → IsTotalWithin depth layers a name total ↔ IsTotalWithin depth layers b name total)
      → (name : List ℕ) (total : Total)
      → IsBelow (IsTotalWithin depth layers a) (elements_of a name) total
      ↔ IsBelow (IsTotalWithin depth layers b) (elements_of b name) total

pub same_back : (layers : List Layer) (a b : List Structure) → Same layers a b → Same layers b a
same_back layers a b s = record {
  there = λ name. back (s.there name);
  items = λ name item. back (s.items name item);
  drawn = λ name shapes. back (s.drawn name shapes);
  labels = λ name. sym (s.labels name);
  below = λ depth each name total. back (s.below depth (λ other t. back (each other t)) name total);
}

pub same_chain : (layers : List Layer) (a b : List Structure) → Same layers a b
    → (from : List ℕ) (chain : List Item) (to : List ℕ)
    → IsChain a from chain to → IsChain b from chain to
same_chain layers a b s from [] to leads = leads
same_chain layers a b s from (item ∷ items) to leads =
    ((s.items from item).0 leads.0, same_chain layers a b s item.cell items to leads.1)

same_reaches : (layers : List Layer) (a b : List Structure) → Same layers a b → (from to : List ℕ) → Reaches a from to
    → Reaches b from to
same_reaches layers a b s from to r =
    record { chain = r.chain; leads = same_chain layers a b s from r.chain to r.leads }

pub same_missing : (layers : List Layer) (a b : List Structure) → Same layers a b → (top name : List ℕ)
    → IsMissing a top name → IsMissing b top name
same_missing layers a b s top name m = record {
  reached = same_reaches layers a b s top name m.reached;
  missing = λ there. m.missing ((s.there name).1 there);
}

pub same_cyclic : (layers : List Layer) (a b : List Structure) → Same layers a b → (top name : List ℕ)
    → IsCyclic a top name → IsCyclic b top name
same_cyclic layers a b s top name c = record {
  reached = same_reaches layers a b s top name c.reached;
  itself = record {
    item = c.itself.item;
    rest = c.itself.rest;
    leads = same_chain layers a b s name (c.itself.item ∷ c.itself.rest) name c.itself.leads;
  };
}

same_depth : (layers : List Layer) (a b : List Structure) → Same layers a b → (top : List ℕ) (depth : ℕ)
    → IsDepth a top depth → IsDepth b top depth
same_depth layers a b s top depth d = record {
  chain = d.chain;
  end = d.end;
  leads = same_chain layers a b s top d.chain d.end d.leads;
  long = d.long;
  most = λ other to leads. d.most other to (same_chain layers b a (same_back layers a b s) top other to leads);
}

pub same_sound : (layers : List Layer) (a b : List Structure) → Same layers a b → (top : List ℕ) → IsSound a top
    → IsSound b top
same_sound layers a b s top sound =
    let t = same_back layers a b s in record {
      there = λ name m. sound.there name (same_missing layers b a t top name m);
      acyclic = λ name c. sound.acyclic name (same_cyclic layers b a t top name c);
      short = λ chain to leads. sound.short chain to (same_chain layers b a t top chain to leads);
    }

same_least : (P Q : List ℕ → Type 0) → ((name : List ℕ) → P name ↔ Q name) → (name : List ℕ) → IsLeast P name
    → IsLeast Q name
same_least P Q each name l =
    record { has = (each name).0 l.has; least = λ other has. l.least other ((each other).1 has) }

-- why there are no cells
pub same_chain_fault : (layers : List Layer) (a b : List Structure) → Same layers a b
    → (top : List ℕ) (fault : ChainFault)
    → IsChainFault a top fault → IsChainFault b top fault
same_chain_fault layers a b s top (chain_fault.UnknownStruct name) f =
    same_least (IsMissing a top) (IsMissing b top)
    (λ other. (same_missing layers a b s top other, same_missing layers b a (same_back layers a b s) top other)) name f
same_chain_fault layers a b s top (chain_fault.Cycle name) f = (
  λ other m. f.0 other (same_missing layers b a (same_back layers a b s) top other m),
  same_least (IsCyclic a top) (IsCyclic b top)
      (λ other.
      (same_cyclic layers a b s top other, same_cyclic layers b a (same_back layers a b s) top other)) name f.1,
)
same_chain_fault layers a b s top (chain_fault.TooDeep depth) f = (
  λ other m. f.0 other (same_missing layers b a (same_back layers a b s) top other m),
  λ other c. f.1 other (same_cyclic layers b a (same_back layers a b s) top other c),
  same_depth layers a b s top depth f.2,
  f.3,
)
same_chain_fault layers a b s top chain_fault.Memory f = tt
