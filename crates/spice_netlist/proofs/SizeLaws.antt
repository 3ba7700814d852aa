-- Sizes of the instances so far and the next.
use Rattle.std.proofs.Common.{◌≡◌, ◌⊎◌, inl, inr, ℕ, ◌+◌, List, [], ◌∷◌, ◌++◌, length, cond, true, false, Some, sym, ap, ◌∙◌, None, arith}
use Rattle.spice_netlist.specs.declared.resolved.ResolvedSubckt.{ResolvedSubckt}
use Rattle.spice_netlist.specs.declared.resolved.ResolvedInstance.{ResolvedInstance}
use Rattle.spice_netlist.specs.declared.size.Size.{Size}
use Rattle.spice_netlist.specs.Resolved.{leaf_at}
use Rattle.spice_netlist.specs.Walk.{FlatInstance, visits_by, leaf_count}
use Rattle.spice_netlist.specs.Pins.{pins_of}
use Rattle.spice_netlist.specs.Sizes.{walk_size, both}
use Rattle.spice_netlist.proofs.PinLaws.{count_there, length_there, visits_absent}

same_size : (a b : Size) → a.leaves ≡ b.leaves → a.pins ≡ b.pins → a ≡ b
same_size a b e f = λ i. record { leaves = e i; pins = f i }

module _ (subckts : List ResolvedSubckt) (f : ℕ → List FlatInstance) (p : ResolvedInstance) (front : List ResolvedInstance) where
  pub size_absent : p.index ≡ None → walk_size subckts (visits_by subckts f (front ++ p ∷ [])) ≡ walk_size subckts (visits_by subckts f front)
  size_absent none = ap (walk_size subckts) (visits_absent subckts f p front none)

  pub size_leaf : (k : ℕ) → p.index ≡ Some k → leaf_at subckts k ≡ true
      → walk_size subckts (visits_by subckts f (front ++ p ∷ [])) ≡ both (both (walk_size subckts (visits_by subckts f front)) (record { leaves = 1; pins = length p.nodes })) (walk_size subckts (f k))
  size_leaf k some leaf =
      let count = count_there subckts f p front k some ∙ ap (λ b. leaf_count subckts (visits_by subckts f front) + (cond b 1 0 + leaf_count subckts (f k))) leaf in
      let pins = length_there subckts f p front k some ∙ ap (λ b. length (pins_of subckts (visits_by subckts f front)) + (cond b (length p.nodes) 0 + length (pins_of subckts (f k)))) leaf in
      same_size _ _ (omega (arith, count)) (omega (arith, pins))

  pub size_other : (k : ℕ) → p.index ≡ Some k → leaf_at subckts k ≡ false → walk_size subckts (visits_by subckts f (front ++ p ∷ [])) ≡ both (walk_size subckts (visits_by subckts f front)) (walk_size subckts (f k))
  size_other k some leaf =
      let count = count_there subckts f p front k some ∙ ap (λ b. leaf_count subckts (visits_by subckts f front) + (cond b 1 0 + leaf_count subckts (f k))) leaf in
      let pins = length_there subckts f p front k some ∙ ap (λ b. length (pins_of subckts (visits_by subckts f front)) + (cond b (length p.nodes) 0 + length (pins_of subckts (f k)))) leaf in
      same_size _ _ (omega (arith, count)) (omega (arith, pins))

-- one instance more: what it is itself, and what is below it
pub size_next : (subckts : List ResolvedSubckt) (f : ℕ → List FlatInstance) (p : ResolvedInstance) (front : List ResolvedInstance) (k : ℕ) (size middle below next : Size) → p.index ≡ Some k → size ≡ walk_size subckts (visits_by subckts f front) → below ≡ walk_size subckts (f k)
    → next ≡ both middle below → ((leaf_at subckts k ≡ true) × (middle ≡ both size (record { leaves = 1; pins = length p.nodes }))) ⊎ ((leaf_at subckts k ≡ false) × (middle ≡ size))
    → next ≡ walk_size subckts (visits_by subckts f (front ++ p ∷ []))
size_next subckts f p front k size middle below next some so_far under is branch =
    let me : Size = record { leaves = 1; pins = length p.nodes } in
    is ∙ ap (λ (b : Size). both middle b) under ∙ elim branch [
      | inl leaf ↦
          ap (λ (m : Size). both m (walk_size subckts (f k))) leaf.1
          ∙ ap (λ (s : Size). both (both s me) (walk_size subckts (f k))) so_far
          ∙ sym (size_leaf subckts f p front k some leaf.0)
      | inr other ↦
          ap (λ (m : Size). both m (walk_size subckts (f k))) other.1
          ∙ ap (λ (s : Size). both s (walk_size subckts (f k))) so_far
          ∙ sym (size_other subckts f p front k some other.0)
    ]
