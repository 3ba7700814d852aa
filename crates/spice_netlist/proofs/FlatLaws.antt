-- The top stands in the order.
use Rattle.std.proofs.Common.{◌≡◌, ℕ, ◌+◌, min, List, length, map, get_or, ap, Option, None, Some, refl, sym, subst, ◌∙◌, arith}
use Rattle.std.proofs.lemmas.List.{length-map, length-append}
use Rattle.netlist.specs.declared.rows.RowPin.{RowPin}
use Rattle.std.specs.Prelude.{Contains}
use Rattle.reference_graph.specs.Reaches.{AreWithin, HasCycle}
use Rattle.reference_graph.specs.BottomUp.{IsOrder, OrdersAreLong}
use Rattle.reference_graph.proofs.PathLaws.{reaches_start}
use Rattle.spice_netlist.specs.Limits.{most_leaves, most_pins}
use Rattle.spice_netlist.specs.declared.resolved.ResolvedSubckt.{ResolvedSubckt}
use Rattle.spice_netlist.specs.Resolved.{subckt_name_at, ports_at, graph}
use Rattle.spice_netlist.specs.declared.size.Size.{Size}
use Rattle.spice_netlist.specs.Walk.{walk_at, leaf_count}
use Rattle.spice_netlist.specs.Sizes.{walk_size}
use Rattle.spice_netlist.specs.Pins.{pins_of, port_row, pin_row, named_rows}
use Rattle.spice_netlist.specs.declared.fault.FlatFault.{FlatFault}
use Rattle.spice_netlist.specs.declared.fault.FlatFault.TheVariants.{UnknownSubckt}
use Rattle.spice_netlist.specs.Tables.{HoldsAt, IsTable, IsSubcktOrder}
use Rattle.spice_netlist.specs.Faults.{IsCyclicSubckt, IsFaultAt, IsFaultOfTop, AreRowsAt, AreRows}
use Rattle.spice_netlist.proofs.ResolvedLaws.{graph_long}

pub top_listed : (subckts : List ResolvedSubckt) (order : List ℕ) (top : ℕ) → IsOrder (graph subckts) top order → Contains order top
top_listed subckts order top o = (o.exact top).1 (reaches_start (graph subckts) top top refl)

pub top_known : {V : Type 0} (f : ℕ → V) (subckts : List ResolvedSubckt) (order : List ℕ) (table : List V) (top : ℕ) → IsOrder (graph subckts) top order → IsTable f order table → HoldsAt f table top
top_known f subckts order table top o t = t top (top_listed subckts order top o)

pub upward : (subckts : List ResolvedSubckt) (top : ℕ) (order : List ℕ) → AreWithin (graph subckts) → IsOrder (graph subckts) top order → OrdersAreLong → IsSubcktOrder subckts order
upward subckts top order within o long =
    let most = (long (graph subckts) top order o).nodes in
    record { within = within; bottom_up = o.bottom_up; short = omega (arith, most, graph_long subckts) }

-- where there is a cycle, there is a name of one
pub cycle_named : (subckts : List ResolvedSubckt) (top : ℕ) → HasCycle (graph subckts) top → ((name : List ℕ) → IsCyclicSubckt subckts top name → ⊥) → ⊥
cycle_named subckts top h none = none (subckt_name_at subckts h.node) (record { index = h.node; reached = h.reached; itself = h.itself; is = refl })

pub fault_at : (subckts subckts' : List ResolvedSubckt) (top : List ℕ) (o : Option ℕ) (index : ℕ) (fault : FlatFault) → subckts ≡ subckts' → o ≡ Some index → IsFaultAt subckts index fault → IsFaultOfTop subckts' top o fault
fault_at subckts subckts' top o index fault same there f =
    subst (λ (p : Option ℕ). IsFaultOfTop subckts' top p fault) (sym there) (subst (λ (bs : List ResolvedSubckt). IsFaultAt bs index fault) same f)

pub rows_at : (subckts subckts' : List ResolvedSubckt) (o : Option ℕ) (index : ℕ) (rows : List RowPin) → subckts ≡ subckts' → o ≡ Some index → AreRowsAt subckts index rows → AreRows subckts' o rows
rows_at subckts subckts' o index rows same there r =
    subst (λ (p : Option ℕ). AreRows subckts' p rows) (sym there) (subst (λ (bs : List ResolvedSubckt). AreRowsAt bs index rows) same r)

pub top_absent : (subckts : List ResolvedSubckt) (top name : List ℕ) (o : Option ℕ) → o ≡ None → name ≡ top → IsFaultOfTop subckts top o (UnknownSubckt name)
top_absent subckts top name o none is = subst (λ (p : Option ℕ). IsFaultOfTop subckts top p (UnknownSubckt name)) (sym none) is

-- how many rows there are
pub rows_long : (subckts : List ResolvedSubckt) (top : ℕ) → length (named_rows subckts top) ≡ length (ports_at subckts top) + length (pins_of subckts (walk_at subckts top))
rows_long subckts top =
    let whole = length-append (map port_row (ports_at subckts top)) (map (pin_row subckts) (pins_of subckts (walk_at subckts top))) in
    let ports = length-map (ports_at subckts top) port_row in
    let pins = length-map (pins_of subckts (walk_at subckts top)) (pin_row subckts) in
    omega (arith, whole, ports, pins)

-- what was read at the top
pub at_top : {V : Type 0} (f : ℕ → V) (table read : List V) (top : ℕ) (d v : V) → HoldsAt f table top → read ≡ table → get_or read top d ≡ v → v ≡ f top
at_top {V} f table read top d v known same is = sym is ∙ ap (λ (t : List V). get_or t top d) same ∙ known.is d

-- the size of what is below the top
pub record IsTopSize (subckts : List ResolvedSubckt) (top : ℕ) (size : Size) : Type 0 where
  pub leaves : size.leaves ≡ min (leaf_count subckts (walk_at subckts top)) (most_leaves + 1)
  pub pins : size.pins ≡ min (length (pins_of subckts (walk_at subckts top))) (most_pins + 1)

pub top_size : (subckts : List ResolvedSubckt) (table read : List Size) (top : ℕ) (size : Size) → HoldsAt (λ index. walk_size subckts (walk_at subckts index)) table top
    → read ≡ table → get_or read top size ≡ size → IsTopSize subckts top size
top_size subckts table read top size known same is =
    let at = at_top (λ index. walk_size subckts (walk_at subckts index)) table read top size size known same is in
    record { leaves = ap (λ (s : Size). s.leaves) at; pins = ap (λ (s : Size). s.pins) at }
