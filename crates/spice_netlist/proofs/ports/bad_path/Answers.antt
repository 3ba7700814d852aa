-- The path goes on below the first instance that is bad or has a bad instance inside it.
use Rattle.std.proofs.Common.{ℕ, List, ◌∷◌, [], ◌++◌, Bool, Option, Some, option_map, sym, ap, subst, ◌∙◌}
use Rattle.spice_netlist.specs.Bad.{has_bad}
use Rattle.spice_netlist.specs.Tables.{HoldsForReferences}
use Rattle.spice_netlist.proofs.BadLaws.{goes_by_parts, goes_shorter, goes_inside}
use Rattle.spice_netlist.proofs.TableLaws.{table_known}
use Rattle.spice_netlist.proofs.ports.bad_path.Goals as goal

pub bad_instance-requires-clause-known : goal.bad_instance-requires-clause-known
bad_instance-requires-clause-known c =
    subst (λ (table : List Bool). HoldsForReferences (has_bad c.args.subckts.now) table c.as_slice.result.now) (sym c.deref.ensures.value)
    (table_known (has_bad c.args.subckts.now) c.args.subckts.now c.args.order.now c.in_ok-marks.marks.items c.levels.index c.as_slice.result.now
    c.requires.upward c.levels.invariant.listed c.in_ok-marks.ensures.table (c.as_slice.ensures ∙ c.subckt_at.ensures.instances))

pub returns-in-None : goal.returns-in-None
returns-in-None c =
    sym (goes_by_parts c.args.subckts.now c.args.order.now c.args.top c.levels.index c.levels.path.items c.as_slice.result.now c.requires.upward (c.as_slice.ensures ∙ c.subckt_at.ensures.instances) c.levels.invariant
    ∙ ap (λ (o : Option (List ℕ)). option_map (λ rest. c.levels.path.items ++ rest) o) c.in-None.ensures)

pub returns-in-Some-Itself : goal.returns-in-Some-Itself
returns-in-Some-Itself c =
    let found = rw c.in-Some-Itself.field-0-is at c.in-Some-Itself.ensures in
    ap (λ (path : List ℕ). Some path) (c.from_vec.ensures ∙ c.in_ok-extend_from_slice-in-Some-Itself.ensures.items)
    ∙ sym (goes_by_parts c.args.subckts.now c.args.order.now c.args.top c.levels.index c.levels.path.items c.as_slice.result.now c.requires.upward (c.as_slice.ensures ∙ c.subckt_at.ensures.instances) c.levels.invariant
    ∙ ap (λ (o : Option (List ℕ)). option_map (λ rest. c.levels.path.items ++ rest) o) found.path)

pub levels-smaller : goal.levels-smaller
levels-smaller c =
    goes_shorter c.args.subckts.now c.args.order.now c.args.top c.levels.index c.levels.path.items c.as_slice.result.now c.requires.upward (c.as_slice.ensures ∙ c.subckt_at.ensures.instances) c.levels.invariant
    c.in-Some-Inside.name c.in-Some-Inside.next (rw c.in-Some-Inside.field-0-is at c.in-Some-Inside.ensures)

pub levels-preserved : goal.levels-preserved
levels-preserved c =
    goes_inside c.args.subckts.now c.args.order.now c.args.top c.levels.index c.levels.path.items c.as_slice.result.now c.requires.upward (c.as_slice.ensures ∙ c.subckt_at.ensures.instances) c.levels.invariant
    c.in-Some-Inside.name c.in-Some-Inside.next (rw c.in-Some-Inside.field-0-is at c.in-Some-Inside.ensures)
    c.push.new.self.items
    (c.in_ok-push-in-Some-Inside.ensures.items ∙ ap (λ (path : List ℕ). path ++ 47 ∷ []) c.in_ok-extend_from_slice-in-Some-Inside.ensures.items)
