-- Heights from the heights of the nodes below.
use Rattle.std.proofs.Common.{◌≡◌, inl, inr, ℕ, zero, suc, ◌+◌, ◌-◌, ◌^◌, ◌<◌, ◌≤◌, min, max, List, [], ◌∷◌, ◌++◌, length, set, get_or, take, refl, sym, subst, ◌∙◌, arith, length-take-le, get_or-set_same, get_or-set_other, length-set}
use Rattle.std.specs.Prelude.{Contains, All}
use Rattle.std.proofs.lemmas.List.{get_or_default, take_more}
use Rattle.std.proofs.lemmas.List.Elements.{Contains-push, Contains-push_cases, Contains-append_left, Contains-get_or}
use Rattle.std.proofs.lemmas.Bool.{cases_lt}
use Rattle.reference_graph.specs.Reaches.{RefersTo, IsPath}
use Rattle.reference_graph.specs.BottomUp.{IsBottomUp}
use Rattle.reference_graph.specs.Height.{IsHeight, AreHeights, height_above, IsAboveAll}

above_push : (front heights : List ℕ) (height node : ℕ) → IsAboveAll front heights height → IsAboveAll (front ++ node ∷ []) heights (max height (height_above heights node))
above_push front heights height node a =
    elim (cases_lt height (height_above heights node)) [
      | inl higher ↦
          let e : max height (height_above heights node) ≡ height_above heights node = omega arith in
          rw e (record {
            most = λ k h. elim (Contains-push_cases front node k h) [
              | inl before ↦ let le = a.most k before in omega (arith, le)
              | inr same ↦ subst (λ (n : ℕ). height_above heights n ≤ height_above heights node) same (omega arith)
            ];
            least = inr (record { node = node; stands = Contains-push front node; is = refl });
          })
      | inr lower ↦
          let e : max height (height_above heights node) ≡ height = omega arith in
          rw e (record {
            most = λ k h. elim (Contains-push_cases front node k h) [
              | inl before ↦ a.most k before
              | inr same ↦ subst (λ (n : ℕ). height_above heights n ≤ height) same lower
            ];
            least = elim a.least [
              | inl none ↦ inl none
              | inr one ↦ inr (record { node = one.node; stands = Contains-append_left front (node ∷ []) one.node one.stands; is = one.is })
            ];
          })
    ]

-- one reference further
pub above_more : (references heights : List ℕ) (i height : ℕ) → i < length references → IsAboveAll (take i references) heights height → IsAboveAll (take (i + 1) references) heights (max height (height_above heights (get_or references i 0)))
above_more references heights i height lt a = rw (take_more references i 0 lt) (above_push (take i references) heights height (get_or references i 0) a)

-- a prefix of a path is a path
pub record HasFront (graph : List (List ℕ)) (from : ℕ) (path : List ℕ) (n : ℕ) : Type 0 where
  pub end : ℕ
  pub leads : IsPath graph from (take n path) end

front_of : (graph : List (List ℕ)) (from to n : ℕ) (path : List ℕ) → IsPath graph from path to → HasFront graph from path n
front_of graph from to zero path leads = record { end = from; leads = refl }
front_of graph from to (suc n) [] leads = record { end = from; leads = refl }
front_of graph from to (suc n) (next ∷ rest) leads = let h = front_of graph next to n rest leads.1 in record { end = h.end; leads = (leads.0, h.leads) }

over_path : (graph : List (List ℕ)) (node : ℕ) (heights : List ℕ) (height : ℕ) → ((to : ℕ) → RefersTo graph node to → IsHeight graph to (get_or heights to 0)) → IsAboveAll (get_or graph node []) heights height
    → (other : List ℕ) (to : ℕ) → IsPath graph node other to → min (length other) (2 ^ 32 - 1) ≤ height
over_path graph node heights height below a [] to leads = omega arith
over_path graph node heights height below a (next ∷ rest) to leads =
    let m = a.most next leads.0 in
    let h = (below next leads.0).most rest to leads.1 in
    omega (arith, m, h)

-- the node's height from the heights of those that it refers to
pub height_from : (graph : List (List ℕ)) (node : ℕ) (heights : List ℕ) (height : ℕ) → ((to : ℕ) → RefersTo graph node to → IsHeight graph to (get_or heights to 0)) → IsAboveAll (get_or graph node []) heights height → IsHeight graph node height
height_from graph node heights height below a = elim a.least [
  | inl none ↦ record { path = []; end = node; leads = refl; long = sym none; most = over_path graph node heights height below a }
  | inr one ↦
      let b = below one.node one.stands in
      let f = front_of graph one.node b.end (height - 1) b.path b.leads in
      let le : height - 1 ≤ length b.path = omega (arith, one.is, b.long) in
      let e = length-take-le (height - 1) b.path le in
      record {
        path = one.node ∷ take (height - 1) b.path;
        end = f.end;
        leads = (one.stands, f.leads);
        long = omega (arith, e, one.is);
        most = over_path graph node heights height below a;
      }
]

-- the heights of the nodes before the place are known
pub record AreKnown (graph : List (List ℕ)) (order heights : List ℕ) (place : ℕ) : Type 0 where
  pub sized : length heights ≡ length graph
  pub each : (earlier : ℕ) → earlier < place → earlier < length order → IsHeight graph (get_or order earlier 0) (get_or heights (get_or order earlier 0) 0)

-- the references of the node at the place stand before it
below_known : (graph : List (List ℕ)) (order heights : List ℕ) (place : ℕ) → IsBottomUp graph order → place < length order → AreKnown graph order heights place
    → (to : ℕ) → RefersTo graph (get_or order place 0) to → IsHeight graph to (get_or heights to 0)
below_known graph order heights place b lt k to refers =
    let s = b.after place to lt refers in
    subst (λ (n : ℕ). IsHeight graph n (get_or heights n 0)) s.is (k.each s.earlier s.before (omega (arith, s.before)))

pub known_within : (graph : List (List ℕ)) (order : List ℕ) (place : ℕ) (references : List ℕ) → IsBottomUp graph order → place < length order → references ≡ get_or graph (get_or order place 0) []
    → All (λ to. to < length graph) references
known_within graph order place references b lt e = λ k d h.
    let s = b.after place (get_or references k d) lt (subst (λ (xs : List ℕ). Contains xs (get_or references k d)) e (Contains-get_or references k d h)) in
    subst (λ (n : ℕ). n < length graph) s.is (b.within s.earlier 0 (omega (arith, s.before)))

pub known_more : (graph : List (List ℕ)) (order heights : List ℕ) (place : ℕ) (references : List ℕ) (height : ℕ) → IsBottomUp graph order → place < length order → AreKnown graph order heights place
    → references ≡ get_or graph (get_or order place 0) [] → IsAboveAll references heights height → AreKnown graph order (set heights (get_or order place 0) height) (place + 1)
known_more graph order heights place references height b lt k e a =
    let node = get_or order place 0 in
    let small : node < length heights = subst (λ (n : ℕ). node < n) (sym k.sized) (b.within place 0 lt) in
    let new : IsHeight graph node height = height_from graph node heights height (below_known graph order heights place b lt k) (subst (λ (xs : List ℕ). IsAboveAll xs heights height) e a) in
    record {
      sized = length-set heights node height ∙ k.sized;
      each = λ earlier before inside. elim (cases_lt earlier place) [
        | inl old ↦ rw (get_or-set_other heights node (get_or order earlier 0) height 0 (b.once earlier place 0 old lt)) (k.each earlier old inside)
        | inr last ↦
            let same : place ≡ earlier = omega arith in
            subst (λ (i : ℕ). IsHeight graph (get_or order i 0) (get_or (set heights node height) (get_or order i 0) 0)) same (rw (get_or-set_same heights node height 0 small) new)
      ];
    }

pub known_all : (graph : List (List ℕ)) (order heights : List ℕ) (place : ℕ) → length order ≤ place → AreKnown graph order heights place → AreHeights graph order heights
known_all graph order heights place le k = record {
  sized = k.sized;
  each = λ node spot. subst (λ (n : ℕ). IsHeight graph n (get_or heights n 0)) (get_or_default order spot.0 0 node spot.1 ∙ spot.2) (k.each spot.0 (omega (arith, spot.1)) spot.1);
}
