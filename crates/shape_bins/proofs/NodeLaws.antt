-- Nodes by their places in a list.
use Rattle.std.proofs.Common.{◌≡◌, inl, inr, ℕ, zero, suc, ◌+◌, ◌-◌, ◌<◌, ◌≤◌, List, [], ◌∷◌, length, get_or, Some, refl, sym, subst, ◌∙◌, arith}
use Rattle.std.specs.Prelude.{slice_get}
use Rattle.std.proofs.lemmas.Bool.{cases_eq}
use Rattle.std.proofs.lemmas.Option.{same_Some, slice_get_within, slice_get-get_or}
use Rattle.or_geom.specs.declared.shape.Shape.{Shape}
use Rattle.shape_bins.specs.declared.node.Node.{Node}
use Rattle.shape_bins.specs.Nodes.{IsNodeOver, AreNodes, position_at}

-- what is known of a node at an index
pub record IsNodeAt (shapes : List Shape) (places : List ℕ) (end : ℕ) (nodes : List Node) (at : ℕ) (node : Node) : Type 0 where
  pub counted : 1 ≤ node.size
  pub within : (at + node.size) ≤ length nodes
  pub over : IsNodeOver shapes places node
  pub begins : position_at end nodes at ≡ node.first
  pub behind : position_at end nodes (at + node.size) ≡ node.end
  pub inner : (node.size ≡ 1 → ⊥) → position_at end nodes (at + 1) ≡ node.first

pub node_at : (shapes : List Shape) (places : List ℕ) (end : ℕ) (nodes : List Node) (at : ℕ) (node : Node) → AreNodes shapes places end nodes → slice_get nodes at ≡ Some node → IsNodeAt shapes places end nodes at node
node_at shapes places end [] at node all is = absurd (let lt = slice_get_within [] at node is in omega (arith, lt))
node_at shapes places end (n ∷ ns) zero node all is =
    let e : n ≡ node = same_Some n node is in
    let next : suc (n.size - 1) ≡ 0 + n.size = omega (arith, all.0.counted) in
    subst (λ (m : Node). IsNodeAt shapes places end (n ∷ ns) 0 m) e (record {
      counted = all.0.counted;
      within = omega (arith, all.0.there);
      over = all.0.over;
      begins = refl;
      behind = subst (λ (k : ℕ). position_at end (n ∷ ns) k ≡ n.end) next all.0.behind;
      inner = all.0.inner;
    })
node_at shapes places end (n ∷ ns) (suc at) node all is =
    let more = node_at shapes places end ns at node all.1 is in
    let behind : suc (at + node.size) ≡ suc at + node.size = omega arith in
    let inner : suc (at + 1) ≡ suc at + 1 = omega arith in
    record {
      counted = more.counted;
      within = omega (arith, more.within);
      over = more.over;
      begins = more.begins;
      behind = subst (λ (k : ℕ). position_at end (n ∷ ns) k ≡ node.end) behind more.behind;
      inner = λ many. subst (λ (k : ℕ). position_at end (n ∷ ns) k ≡ node.first) inner (more.inner many);
    }

-- as the code reads it
pub node_read : (shapes : List Shape) (places : List ℕ) (end : ℕ) (nodes : List Node) (at : ℕ) (other : Node) → AreNodes shapes places end nodes → at < length nodes → IsNodeAt shapes places end nodes at (get_or nodes at other)
node_read shapes places end nodes at other all lt = node_at shapes places end nodes at (get_or nodes at other) all (slice_get-get_or nodes at other lt)

pub begin_past : (end : ℕ) (nodes : List Node) (at : ℕ) → length nodes ≤ at → position_at end nodes at ≡ end
begin_past end [] at le = refl
begin_past end (n ∷ ns) zero le = absurd (omega (arith, le))
begin_past end (n ∷ ns) (suc at) le = begin_past end ns at (omega (arith, le))

-- the nodes' positions rise
begin_step : (shapes : List Shape) (places : List ℕ) (end : ℕ) (nodes : List Node) (k : ℕ) → AreNodes shapes places end nodes → position_at end nodes k ≤ position_at end nodes (suc k)
begin_step shapes places end [] k all = omega arith
begin_step shapes places end (n ∷ ns) zero all = elim (cases_eq n.size 1) [
  | inl one ↦
      let next : position_at end ns 0 ≡ n.end = subst (λ (k : ℕ). position_at end ns k ≡ n.end) (omega (arith, one)) all.0.behind in
      omega (arith, next, all.0.over.rises)
  | inr many ↦ let next = all.0.inner many in omega (arith, next)
]
begin_step shapes places end (n ∷ ns) (suc k) all = begin_step shapes places end ns k all.1

begin_further : (shapes : List Shape) (places : List ℕ) (end : ℕ) (nodes : List Node) (k more : ℕ) → AreNodes shapes places end nodes → position_at end nodes k ≤ position_at end nodes (more + k)
begin_further shapes places end nodes k zero all =
    let here : position_at end nodes k ≤ position_at end nodes k = omega arith in
    subst (λ (j : ℕ). position_at end nodes k ≤ position_at end nodes j) (omega arith) here
begin_further shapes places end nodes k (suc more) all =
    let before = begin_further shapes places end nodes k more all in
    let step = begin_step shapes places end nodes (more + k) all in
    let further : position_at end nodes k ≤ position_at end nodes (suc (more + k)) = omega (arith, before, step) in
    subst (λ (j : ℕ). position_at end nodes k ≤ position_at end nodes j) (omega arith) further

pub begin_rises : (shapes : List Shape) (places : List ℕ) (end : ℕ) (nodes : List Node) (a b : ℕ) → AreNodes shapes places end nodes → a ≤ b → position_at end nodes a ≤ position_at end nodes b
begin_rises shapes places end nodes a b all le =
    let e : (b - a) + a ≡ b = omega (arith, le) in
    subst (λ (k : ℕ). position_at end nodes a ≤ position_at end nodes k) e (begin_further shapes places end nodes a (b - a) all)

-- what holds of the positions before a node, and what then holds of those before the next one to look at
pub from_first : (F : ℕ → Type 0) (shapes : List Shape) (places : List ℕ) (end : ℕ) (nodes : List Node) (at : ℕ) (node : Node) → IsNodeAt shapes places end nodes at node → F (position_at end nodes at) → F node.first
from_first F shapes places end nodes at node is f = subst F is.begins f

pub to_behind : (F : ℕ → Type 0) (shapes : List Shape) (places : List ℕ) (end : ℕ) (nodes : List Node) (at : ℕ) (node : Node) → IsNodeAt shapes places end nodes at node → F node.end → F (position_at end nodes (at + node.size))
to_behind F shapes places end nodes at node is f = subst F (sym is.behind) f

pub to_next : (F : ℕ → Type 0) (shapes : List Shape) (places : List ℕ) (end : ℕ) (nodes : List Node) (at : ℕ) (node : Node) → IsNodeAt shapes places end nodes at node → node.size ≡ 1 → F node.end → F (position_at end nodes (at + 1))
to_next F shapes places end nodes at node is one f = subst (λ (k : ℕ). F (position_at end nodes (at + k))) one (to_behind F shapes places end nodes at node is f)

pub to_inner : (F : ℕ → Type 0) (shapes : List Shape) (places : List ℕ) (end : ℕ) (nodes : List Node) (at : ℕ) (node : Node) → IsNodeAt shapes places end nodes at node → (node.size ≡ 1 → ⊥) → F (position_at end nodes at) → F (position_at end nodes (at + 1))
to_inner F shapes places end nodes at node is many f = subst F (is.begins ∙ sym (is.inner many)) f
