-- A table that is filled along an order.
use Rattle.std.proofs.Common.{◌≡◌, ◌≢◌, inl, inr, ℕ, ◌+◌, ◌<◌, ◌≤◌, List, [], length, get_or, set, sym, ap, subst, ◌∙◌, arith, get_or-set_same, get_or-set_other, length-set}
use Rattle.std.specs.Prelude.{Contains}
use Rattle.std.proofs.lemmas.Bool.{cases_lt}
use Rattle.std.proofs.lemmas.List.{get_or_default, get_or-map, length-map}
use Rattle.spice_netlist.specs.declared.resolved.ResolvedSubckt.{ResolvedSubckt}
use Rattle.spice_netlist.specs.declared.resolved.ResolvedInstance.{ResolvedInstance}
use Rattle.spice_netlist.specs.Resolved.{subckt_name_at, instances_at, subckt_references, graph}
use Rattle.spice_netlist.specs.Walk.{FlatInstance, visits_by, walk_at}
use Rattle.spice_netlist.specs.Tables.{HoldsAt, HoldsForReferences, IsTable, IsSubcktOrder}
use Rattle.spice_netlist.proofs.WalkLaws.{refers_references, walk_opens, walk_longer}

pub name_is : (subckts : List ResolvedSubckt) (index : ℕ) (b : ResolvedSubckt) → index < length subckts → b ≡ get_or subckts index b → b.name ≡ subckt_name_at subckts index
name_is subckts index b lt is = ap (λ (x : ResolvedSubckt). x.name) is ∙ sym (get_or-map (λ (x : ResolvedSubckt). x.name) subckts index b [] lt)

-- the table has what f gives of each node of the order before the index
pub record IsFilled {V : Type 0} (f : ℕ → V) (count : ℕ) (order : List ℕ) (table : List V) (index : ℕ) : Type 0 where
  pub sized : length table ≡ count
  pub each : (earlier : ℕ) → earlier < index → earlier < length order → HoldsAt f table (get_or order earlier 0)

pub node_inside : (subckts : List ResolvedSubckt) (order : List ℕ) (index : ℕ) → IsSubcktOrder subckts order → index < length order → get_or order index 0 < length subckts
node_inside subckts order index u lt = subst (λ (n : ℕ). get_or order index 0 < n) (length-map subckts (λ (b : ResolvedSubckt). subckt_references b.instances)) (u.bottom_up.within index 0 lt)

pub filled_more : {V : Type 0} (f : ℕ → V) (subckts : List ResolvedSubckt) (order : List ℕ) (table : List V) (index : ℕ) (v : V) → IsSubcktOrder subckts order → index < length order
    → IsFilled f (length subckts) order table index → v ≡ f (get_or order index 0) → IsFilled f (length subckts) order (set table (get_or order index 0) v) (index + 1)
filled_more f subckts order table index v u lt filled is =
    let node = get_or order index 0 in
    let small : node < length table = subst (λ (n : ℕ). node < n) (sym filled.sized) (node_inside subckts order index u lt) in
    let sized = length-set table node v in
    record {
      sized = sized ∙ filled.sized;
      each = λ earlier before inside. elim (cases_lt earlier index) [
        | inl old ↦
            let k = filled.each earlier old inside in
            let apart : get_or order earlier 0 ≢ node = u.bottom_up.once earlier index 0 old lt in
            record {
              within = subst (λ (n : ℕ). get_or order earlier 0 < n) (sym sized) k.within;
              is = λ d. get_or-set_other table node (get_or order earlier 0) v d apart ∙ k.is d;
            }
        | inr last ↦
            let same : index ≡ earlier = omega arith in
            subst (λ (i : ℕ). HoldsAt f (set table node v) (get_or order i 0)) same
            (record {
              within = subst (λ (n : ℕ). node < n) (sym sized) small;
              is = λ d. get_or-set_same table node v d small ∙ is;
            })
      ];
    }

pub filled_known : {V : Type 0} (f : ℕ → V) (subckts : List ResolvedSubckt) (order : List ℕ) (table : List V) (index : ℕ) (instances : List ResolvedInstance) → IsSubcktOrder subckts order → index < length order
    → IsFilled f (length subckts) order table index → instances ≡ instances_at subckts (get_or order index 0) → HoldsForReferences f table instances
filled_known f subckts order table index instances u lt filled is to refers =
    let listed : Contains (get_or (graph subckts) (get_or order index 0) []) to =
    subst (λ (l : List ℕ). Contains l to) (ap subckt_references is ∙ sym (refers_references subckts (get_or order index 0))) refers in
    let s = u.bottom_up.after index to lt listed in
    subst (HoldsAt f table) s.is (filled.each s.earlier s.before (omega (arith, s.before)))

pub filled_all : {V : Type 0} (f : ℕ → V) (count : ℕ) (order : List ℕ) (table : List V) (index : ℕ) → length order ≤ index → IsFilled f count order table index → IsTable f order table
filled_all f count order table index le filled node spot =
    subst (HoldsAt f table) (get_or_default order spot.0 0 node spot.1 ∙ spot.2) (filled.each spot.0 (omega (arith, spot.1)) spot.1)

-- a node of the order stands at an index in it
pub node_at : (order : List ℕ) (node : ℕ) (spot : Contains order node) → get_or order spot.0 0 ≡ node
node_at order node spot = get_or_default order spot.0 0 node spot.1 ∙ spot.2

-- what a node of the order refers to stands in it too
pub listed_below : (subckts : List ResolvedSubckt) (order : List ℕ) (node to : ℕ) → IsSubcktOrder subckts order → Contains order node → Contains (subckt_references (instances_at subckts node)) to → Contains order to
listed_below subckts order node to u spot refers =
    let same = node_at order node spot in
    let listed : Contains (get_or (graph subckts) (get_or order spot.0 0) []) to =
    subst (λ (i : ℕ). Contains (get_or (graph subckts) i []) to) (sym same) (subst (λ (l : List ℕ). Contains l to) (sym (refers_references subckts node)) refers) in
    let s = u.bottom_up.after spot.0 to spot.1 listed in
    let inside : s.earlier < length order = omega (arith, s.before, spot.1) in
    (s.earlier, inside, get_or_default order s.earlier to 0 inside ∙ s.is)

pub table_known : {V : Type 0} (f : ℕ → V) (subckts : List ResolvedSubckt) (order : List ℕ) (table : List V) (node : ℕ) (instances : List ResolvedInstance) → IsSubcktOrder subckts order → Contains order node
    → IsTable f order table → instances ≡ instances_at subckts node → HoldsForReferences f table instances
table_known f subckts order table node instances u spot known is to refers = known to (listed_below subckts order node to u spot (subst (λ (ps : List ResolvedInstance). Contains (subckt_references ps) to) is refers))

pub walk_opened : (subckts : List ResolvedSubckt) (order : List ℕ) (node : ℕ) → IsSubcktOrder subckts order → Contains order node → walk_at subckts node ≡ visits_by subckts (walk_at subckts) (instances_at subckts node)
walk_opened subckts order node u spot =
    subst (λ (i : ℕ). walk_at subckts i ≡ visits_by subckts (walk_at subckts) (instances_at subckts i)) (node_at order node spot) (walk_opens subckts order spot.0 u.bottom_up u.short spot.1)

-- the walk through a subcircuit is longer than that through one that it refers to
pub walk_shorter : (subckts : List ResolvedSubckt) (order : List ℕ) (node to : ℕ) → IsSubcktOrder subckts order → Contains order node → Contains (subckt_references (instances_at subckts node)) to → length (walk_at subckts to) < length (walk_at subckts node)
walk_shorter subckts order node to u spot refers =
    subst (λ (vs : List FlatInstance). length (walk_at subckts to) < length vs) (sym (walk_opened subckts order node u spot)) (walk_longer subckts (walk_at subckts) (instances_at subckts node) to refers)
