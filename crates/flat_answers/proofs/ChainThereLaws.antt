-- The chains from a structure are sound, or have a first fault.
use Rattle.std.proofs.Common.{◌≡◌, ◌≢◌, ◌⊎◌, inl, inr, ℕ, zero, suc, ◌≤◌, ◌^◌, ◌-◌, min, List, [], ◌∷◌, ◌++◌, length, refl, sym, subst, arith, ◌↔◌}
use Rattle.std.specs.Prelude.{Contains, Bool, true, false, cond}
use Rattle.std.specs.Str.{bytes_eq}
use Rattle.std.proofs.lemmas.Bool.{cases_lt}
use Rattle.std.proofs.lemmas.List.Elements.{Contains-append_left, Contains-append_right}
use Rattle.or_geom.specs.Least.{name_order}
use Rattle.or_geom.proofs.ListLaws.{contains_cases, contains_first, contains_later, contains_none}
use Rattle.gds_library.specs.declared.library.Element.{Element}
use Rattle.gds_library.specs.declared.library.Structure.{Structure}
use Rattle.cell_chains.specs.Instances.{Item}
use Rattle.cell_chains.specs.Chains.{elements_of, IsThere, IsItemOf, IsChain, Reaches, IsMissing, IsCyclic, IsDepth, IsSound}
use Rattle.cell_chains.specs.Hierarchy.{IsChainFault}
use Rattle.cell_chains.specs.Numbering.{referred_names}
use Rattle.cell_chains.specs.declared.fault.ChainFault.{ChainFault}
use Rattle.cell_chains.specs.declared.fault.ChainFault.TheVariants as chain_fault
use Rattle.cell_chains.proofs.ChainLaws.{refers_from}
use Rattle.flat_answers.proofs.DecisionLaws.{Decided, decide_as, decide_either, decide_name, decide_not}
use Rattle.flat_answers.proofs.ListedLaws.{Listed, listed_as, listed_either, listed_one, listed_where, some_or_none, first_or_none}
use Rattle.flat_answers.proofs.OrderLaws.{names_in_order}
use Rattle.flat_answers.proofs.ItemLaws.{listed_items_of}
use Rattle.flat_answers.proofs.WayLaws.{LeadsVia, decide_via, via_gives, at_once, by_way}

-- All names to which structures refer.
all_names : List Structure → List (List ℕ)
all_names [] = []
all_names (s ∷ ss) = referred_names s.elements ++ all_names ss

names_among : (b : Bool) (s : Structure) (ss : List Structure) (others : List Element) (name : List ℕ)
    → (Contains (referred_names others) name → Contains (all_names ss) name)
    → Contains (referred_names (cond b s.elements others)) name → Contains (all_names (s ∷ ss)) name
unfolding all_names
names_among true s ss others name rest h = Contains-append_left (referred_names s.elements) (all_names ss) name h
names_among false s ss others name rest h = Contains-append_right (referred_names s.elements) (all_names ss) name (rest h)

named : (structs : List Structure) (from name : List ℕ) → Contains (referred_names (elements_of structs from)) name
    → Contains (all_names structs) name
named [] from name h = absurd (contains_none name h)
named (s ∷ ss) from name h = names_among (bytes_eq s.name from) s ss (elements_of ss from) name (named ss from name) h

decide_there : (structs : List Structure) (name : List ℕ) → Decided (IsThere structs name)
decide_there [] name = inr (λ h. h)
decide_there (s ∷ ss) name = decide_either (s.name ≡ name) (IsThere ss name) (decide_name s.name name) (decide_there ss name)

module _ (structs : List Structure) where
  abbrev Step : List ℕ → List ℕ → Type 0
  Step a b = (item : Item) × (IsItemOf structs a item × (item.cell ≡ b))

  decide_step : (a b : List ℕ) → Decided (Step a b)
  decide_step a b = some_or_none (λ (item : Item). IsItemOf structs a item × (item.cell ≡ b))
      (listed_where (IsItemOf structs a) (λ (item : Item). item.cell ≡ b) (listed_items_of structs a) (λ item. decide_name item.cell b))

  among : (from : List ℕ) (item : Item) → IsItemOf structs from item → Contains (all_names structs) item.cell
  among from item h = named structs from item.cell (refers_from 0 (elements_of structs from) item h)

  -- a chain that isn't empty leads there
  abbrev Goes : List ℕ → List ℕ → Type 0
  Goes a b = (item : Item) × (rest : List Item) × IsChain structs a (item ∷ rest) b

  chain_on : (a b c : List ℕ) (first second : List Item) → IsChain structs a first b → IsChain structs b second c
      → IsChain structs a (first ++ second) c
  chain_on a b c [] second e h = subst (λ (x : List ℕ). IsChain structs x second c) e h
  chain_on a b c (item ∷ items) second h k = (h.0, chain_on item.cell b c items second h.1 k)

  goes_via : (vs : List (List ℕ)) (a b : List ℕ) → LeadsVia Step vs a b → Goes a b
  goes_via = via_gives Step Goes (λ a b step. (step.0, [], (step.1.0, sym step.1.1)))
      (λ a b c one two. (one.0, one.1 ++ two.0 ∷ two.1, chain_on a b c (one.0 ∷ one.1) (two.0 ∷ two.1) one.2 two.2))

  via_goes : (a b : List ℕ) (item : Item) (rest : List Item) → IsChain structs a (item ∷ rest) b → LeadsVia Step (all_names structs) a b
  via_goes a b item [] h = at_once Step (all_names structs) a b (item, (h.0, sym h.1))
  via_goes a b item (next ∷ rest) h =
      by_way Step (all_names structs) a item.cell b (among a item h.0) (at_once Step (all_names structs) a item.cell (item, (h.0, refl)))
      (via_goes item.cell b next rest h.1)

  decide_goes : (a b : List ℕ) → Decided (Goes a b)
  decide_goes a b = decide_as (LeadsVia Step (all_names structs) a b) (Goes a b) (goes_via (all_names structs) a b) (λ h. via_goes a b h.0 h.1 h.2)
      (decide_via Step decide_step (all_names structs) a b)

  decide_reaches : (a b : List ℕ) → Decided (Reaches structs a b)
  decide_reaches a b = decide_as ((b ≡ a) ⊎ Goes a b) (Reaches structs a b)
      (λ h. elim h [ inl e ↦ record { chain = []; leads = e } | inr goes ↦ record { chain = goes.0 ∷ goes.1; leads = goes.2 } ])
      (λ r. by r.chain r.leads) (decide_either (b ≡ a) (Goes a b) (decide_name b a) (decide_goes a b))
    where
      by : (chain : List Item) → IsChain structs a chain b → (b ≡ a) ⊎ Goes a b
      by [] e = inl e
      by (item ∷ rest) h = inr (item, rest, h)

  ends_among : (top to : List ℕ) (chain : List Item) → IsChain structs top chain to → (to ≡ top) ⊎ Contains (all_names structs) to
  ends_among top to [] e = inl e
  ends_among top to (item ∷ rest) h = elim (ends_among item.cell to rest h.1) [
    | inl e ↦ inr (subst (Contains (all_names structs)) (sym e) (among top item h.0))
    | inr later ↦ inr later
  ]

  listed_reached : (top : List ℕ) → Listed (Reaches structs top)
  listed_reached top =
      listed_as (λ (name : List ℕ). ((name ≡ top) ⊎ Contains (all_names structs) name) × Reaches structs top name) (Reaches structs top)
      (λ name h. h.1) (λ name r. (ends_among top name r.chain r.leads, r))
      (listed_where (λ (name : List ℕ). (name ≡ top) ⊎ Contains (all_names structs) name) (Reaches structs top)
      (listed_either (λ (name : List ℕ). name ≡ top) (Contains (all_names structs)) (listed_one top) (all_names structs, λ name. (λ h. h, λ h. h)))
      (decide_reaches top))

  listed_missing : (top : List ℕ) → Listed (IsMissing structs top)
  listed_missing top = listed_as (λ (name : List ℕ). Reaches structs top name × (IsThere structs name → ⊥)) (IsMissing structs top)
      (λ name h. record { reached = h.0; missing = h.1 }) (λ name m. (m.reached, m.missing))
      (listed_where (Reaches structs top) (λ (name : List ℕ). IsThere structs name → ⊥) (listed_reached top)
      (λ name. decide_not _ (decide_there structs name)))

  listed_cyclic : (top : List ℕ) → Listed (IsCyclic structs top)
  listed_cyclic top = listed_as (λ (name : List ℕ). Reaches structs top name × Goes name name) (IsCyclic structs top)
      (λ name h. record { reached = h.0; itself = record { item = h.1.0; rest = h.1.1; leads = h.1.2 } })
      (λ name c. (c.reached, (c.itself.item, c.itself.rest, c.itself.leads)))
      (listed_where (Reaches structs top) (λ (name : List ℕ). Goes name name) (listed_reached top) (λ name. decide_goes name name))

  -- a longest chain of at most n references; of longer ones n count
  record IsDeepest (n : ℕ) (name : List ℕ) : Type 0 where
    chain : List Item
    end : List ℕ
    leads : IsChain structs name chain end
    short : length chain ≤ n
    most : (other : List Item) (to : List ℕ) → IsChain structs name other to → min (length other) n ≤ length chain

  -- the same of those chains whose first item is one of these
  record IsDeepestBy (n : ℕ) (name : List ℕ) (items : List Item) : Type 0 where
    chain : List Item
    end : List ℕ
    leads : IsChain structs name chain end
    short : length chain ≤ suc n
    most : (item : Item) (other : List Item) (to : List ℕ) → Contains items item → IsChain structs item.cell other to
        → min (suc (length other)) (suc n) ≤ length chain

  deepest_by : (n : ℕ) (name : List ℕ) → ((cell : List ℕ) → IsDeepest n cell) → (items : List Item)
      → ((item : Item) → Contains items item → IsItemOf structs name item) → IsDeepestBy n name items
  deepest_by n name below [] are =
      record { chain = []; end = name; leads = refl; short = omega arith; most = λ item other to h leads. absurd (contains_none item h) }
  deepest_by n name below (i ∷ is) are =
      let rest = deepest_by n name below is (λ item h. are item (contains_later i is item h)) in
      let d = below i.cell in
      let rest_most = rest.most in
      let d_most = d.most in
      let d_short = d.short in
      elim (cases_lt (length rest.chain) (suc (length d.chain))) [
        | inl less ↦ record {
          chain = i ∷ d.chain;
          end = d.end;
          leads = (are i (contains_first i is), d.leads);
          short = omega (arith, d_short);
          most = λ item other to h leads. elim (contains_cases i is item h) [
            | inl same ↦ let m = d_most other to (subst (λ (x : Item). IsChain structs x.cell other to) same leads) in omega (arith, m)
            | inr later ↦ let m = rest_most item other to later leads in omega (arith, m, less)
          ];
        }
        | inr ge ↦ record {
          chain = rest.chain;
          end = rest.end;
          leads = rest.leads;
          short = rest.short;
          most = λ item other to h leads. elim (contains_cases i is item h) [
            | inl same ↦ let m = d_most other to (subst (λ (x : Item). IsChain structs x.cell other to) same leads) in omega (arith, m, ge)
            | inr later ↦ rest_most item other to later leads
          ];
        }
      ]

  deepest : (n : ℕ) (name : List ℕ) → IsDeepest n name
  deepest zero name = record { chain = []; end = name; leads = refl; short = omega arith; most = λ other to leads. omega arith }
  deepest (suc n) name =
      let items = listed_items_of structs name in
      let d = deepest_by n name (deepest n) items.0 (λ item. (items.1 item).0) in
      record { chain = d.chain; end = d.end; leads = d.leads; short = d.short; most = by d items.1 }
    where
      by : {items : List Item} → (d : IsDeepestBy n name items) → ((item : Item) → Contains items item ↔ IsItemOf structs name item)
          → (other : List Item) (to : List ℕ) → IsChain structs name other to → min (length other) (suc n) ≤ length d.chain
      by d are [] to leads = omega arith
      by d are (item ∷ rest) to leads = d.most item rest to ((are item).1 leads.0) leads.1

  depth_there : (top : List ℕ) → (depth : ℕ) × IsDepth structs top depth
  depth_there top =
      let d = deepest (2 ^ 32 - 1) top in
      let short = d.short in
      (length d.chain, record { chain = d.chain; end = d.end; leads = d.leads; long = omega (arith, short); most = d.most })

  pub chain_answers : (top : List ℕ) → IsSound structs top ⊎ ((fault : ChainFault) × (IsChainFault structs top fault × (fault ≢ chain_fault.Memory)))
  chain_answers top = elim (first_or_none name_order (IsMissing structs top) names_in_order (listed_missing top)) [
    | inl m ↦ inr (chain_fault.UnknownStruct m.0, (record { has = m.1; least = m.2 }, λ e. absurd cc))
    | inr there ↦ elim (first_or_none name_order (IsCyclic structs top) names_in_order (listed_cyclic top)) [
      | inl c ↦ inr (chain_fault.Cycle c.0, ((there, record { has = c.1; least = c.2 }), λ e. absurd cc))
      | inr acyclic ↦ by there acyclic (depth_there top)
    ]
  ]
    where
      by : ((other : List ℕ) → IsMissing structs top other → ⊥) → ((other : List ℕ) → IsCyclic structs top other → ⊥)
          → (depth : ℕ) × IsDepth structs top depth
          → IsSound structs top ⊎ ((fault : ChainFault) × (IsChainFault structs top fault × (fault ≢ chain_fault.Memory)))
      by there acyclic d =
          let most = d.1.most in
          elim (cases_lt 32 d.0) [
            | inl deep ↦ inr (chain_fault.TooDeep d.0, ((there, acyclic, d.1, deep), λ e. absurd cc))
            | inr low ↦ inl (record {
              there = there;
              acyclic = acyclic;
              short = λ chain to leads. let m = most chain to leads in
                  omega (arith, m, low);
            })
          ]
