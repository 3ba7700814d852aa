-- Whether a node reaches another, and whether it reaches itself.
use Rattle.std.proofs.Common.{◌≡◌, ◌⊎◌, inl, inr, ℕ, zero, suc, ◌<◌, List, [], ◌∷◌, length, refl, sym, subst, arith}
use Rattle.std.specs.Prelude.{Contains}
use Rattle.std.proofs.lemmas.Bool.{cases_eq, cases_lt}
use Rattle.or_geom.proofs.ListLaws.{contains_none, contains_cases, contains_here, contains_later}
use Rattle.reference_graph.specs.Reaches.{RefersTo, AreWithin, IsPath, Reaches, ReachesItself}
use Rattle.reference_graph.proofs.PathLaws.{reaches_over}

-- a list has a number or it hasn't
contains_or_not : (xs : List ℕ) (x : ℕ) → Contains xs x ⊎ (Contains xs x → ⊥)
contains_or_not [] x = inr (λ has. contains_none x has)
contains_or_not (y ∷ ys) x = elim (cases_eq x y) [
  | inl e ↦ inl (contains_here y ys x e)
  | inr differs ↦ elim (contains_or_not ys x) [
    | inl later ↦ inl (contains_later y ys x later)
    | inr none ↦ inr (λ has. elim (contains_cases y ys x has) [ inl e ↦ differs e | inr later ↦ none later ])
  ]
]

-- a node reaches another by a path that isn't empty
record Leads (graph : List (List ℕ)) (from to : ℕ) : Type 0 where
  next : ℕ
  refers : RefersTo graph from next
  on : Reaches graph next to

leads_reaches : (graph : List (List ℕ)) (from to : ℕ) → Leads graph from to → Reaches graph from to
leads_reaches graph from to l = record { path = l.next ∷ l.on.path; leads = (l.refers, l.on.leads) }

-- a path that isn't empty whose inner nodes are below the bound
abbrev LeadsBelow : List (List ℕ) → ℕ → ℕ → ℕ → Type 0
LeadsBelow graph zero from to = RefersTo graph from to
LeadsBelow graph (suc bound) from to =
    LeadsBelow graph bound from to ⊎ (LeadsBelow graph bound from bound × LeadsBelow graph bound bound to)

module _ (graph : List (List ℕ)) where
  below_or_not : (bound from to : ℕ) → LeadsBelow graph bound from to ⊎ (LeadsBelow graph bound from to → ⊥)
  below_or_not zero from to = contains_or_not _ to
  below_or_not (suc bound) from to = elim (below_or_not bound from to) [
    | inl straight ↦ inl (inl straight)
    | inr not ↦ elim (below_or_not bound from bound) [
      | inr never ↦ inr (λ h. elim h [ inl straight ↦ not straight | inr over ↦ never over.0 ])
      | inl there ↦ elim (below_or_not bound bound to) [
        | inr never ↦ inr (λ h. elim h [ inl straight ↦ not straight | inr over ↦ never over.1 ])
        | inl on ↦ inl (inr (there, on))
      ]
    ]
  ]

  below_leads : (bound from to : ℕ) → LeadsBelow graph bound from to → Leads graph from to
  below_leads zero from to h = record { next = to; refers = h; on = record { path = []; leads = refl } }
  below_leads (suc bound) from to (inl h) = below_leads bound from to h
  below_leads (suc bound) from to (inr h) =
      let first = below_leads bound from bound h.0 in
      let second = leads_reaches graph bound to (below_leads bound bound to h.1) in
      record { next = first.next; refers = first.refers; on = reaches_over graph first.next bound to first.on second }

  -- a reference is such a path
  below_one : (bound from to : ℕ) → RefersTo graph from to → LeadsBelow graph bound from to
  below_one zero from to h = h
  below_one (suc bound) from to h = inl (below_one bound from to h)

  -- what leads to the highest inner node needn't go through it before
  below_there : (bound from : ℕ) → LeadsBelow graph (suc bound) from bound → LeadsBelow graph bound from bound
  below_there bound from (inl h) = h
  below_there bound from (inr h) = h.0

  below_from : (bound to : ℕ) → LeadsBelow graph (suc bound) bound to → LeadsBelow graph bound bound to
  below_from bound to (inl h) = h
  below_from bound to (inr h) = h.1

  -- such paths go on at each node below the bound
  joined_over : (bound node from to : ℕ)
      → ((x y : ℕ) → LeadsBelow graph bound x node → LeadsBelow graph bound node y → LeadsBelow graph bound x y)
      → LeadsBelow graph (suc bound) from node → LeadsBelow graph (suc bound) node to → LeadsBelow graph (suc bound) from to
  joined_over bound node from to join (inl a) (inl b) = inl (join from to a b)
  joined_over bound node from to join (inl a) (inr b) = inr (join from bound a b.0, b.1)
  joined_over bound node from to join (inr a) (inl b) = inr (a.0, join bound to a.1 b)
  joined_over bound node from to join (inr a) (inr b) = inr (a.0, b.1)

  below_joined : (bound node from to : ℕ) → node < bound → LeadsBelow graph bound from node → LeadsBelow graph bound node to
      → LeadsBelow graph bound from to
  below_joined zero node from to lt a b = absurd (omega (arith, lt))
  below_joined (suc bound) node from to lt a b = elim (cases_lt node bound) [
    | inl less ↦ joined_over bound node from to (λ x y. below_joined bound node x y less) a b
    | inr most ↦
        let same : node ≡ bound = omega (arith, lt, most) in
        inr (
          below_there bound from (subst (λ (n : ℕ). LeadsBelow graph (suc bound) from n) same a),
          below_from bound to (subst (λ (n : ℕ). LeadsBelow graph (suc bound) n to) same b),
        )
  ]

  module _ (within : AreWithin graph) where
    path_below : (from next to : ℕ) (rest : List ℕ) → RefersTo graph from next → IsPath graph next rest to
        → LeadsBelow graph (length graph) from to
    path_below from next to [] refers leads =
        subst (LeadsBelow graph (length graph) from) (sym leads) (below_one (length graph) from next refers)
    path_below from next to (later ∷ rest) refers leads =
        below_joined (length graph) next from to (within from next refers) (below_one (length graph) from next refers)
        (path_below next later to rest leads.0 leads.1)

    leads_or_not : (from to : ℕ) → Leads graph from to ⊎ (Leads graph from to → ⊥)
    leads_or_not from to = elim (below_or_not (length graph) from to) [
      | inl below ↦ inl (below_leads (length graph) from to below)
      | inr never ↦ inr (λ l. never (path_below from l.next to l.on.path l.refers l.on.leads))
    ]

    pub reaches_or_not : (from to : ℕ) → Reaches graph from to ⊎ (Reaches graph from to → ⊥)
    reaches_or_not from to = elim (cases_eq to from) [
      | inl same ↦ inl (record { path = []; leads = same })
      | inr differs ↦ elim (leads_or_not from to) [
        | inl l ↦ inl (leads_reaches graph from to l)
        | inr never ↦ inr (λ r. by r.path r.leads differs never)
      ]
    ]
      where
        by : (path : List ℕ) → IsPath graph from path to → (to ≡ from → ⊥) → (Leads graph from to → ⊥) → ⊥
        by [] leads differs never = differs leads
        by (next ∷ rest) leads differs never = never (record { next = next; refers = leads.0; on = record { path = rest; leads = leads.1 } })

    pub itself_or_not : (node : ℕ) → ReachesItself graph node ⊎ (ReachesItself graph node → ⊥)
    itself_or_not node = elim (leads_or_not node node) [
      | inl l ↦ inl (record { next = l.next; rest = l.on.path; leads = (l.refers, l.on.leads) })
      | inr never ↦ inr (λ r. never (record { next = r.next; refers = r.leads.0; on = record { path = r.rest; leads = r.leads.1 } }))
    ]
