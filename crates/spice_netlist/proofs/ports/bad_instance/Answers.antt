-- The instances so far have enough nodes, and so has all inside them.
use Rattle.std.proofs.Common.{◌≡◌, ◌+◌, ◌<◌, ℕ, List, ◌∷◌, ◌++◌, Option, eq-eqb, true, false, option_map, nat_eq, length, drop, sym, ap, subst, ◌∙◌}
use Rattle.std.specs.Prelude.{IsSome}
use Rattle.or_geom.proofs.ListLaws.{rest_at}
use Rattle.spice_netlist.specs.Bad.{bad_at, bad_in, has_bad}
use Rattle.spice_netlist.specs.Resolved.{ports_at}
use Rattle.spice_netlist.specs.Walk.{path_above, walk_at}
use Rattle.spice_netlist.proofs.ReferenceLaws.{listed}
use Rattle.spice_netlist.proofs.BadLaws.{bad_inside, bad_later, still_some}
use Rattle.spice_netlist.proofs.ports.bad_instance.Goals as goal

pub subckt_at-requires : goal.subckt_at-requires
subckt_at-requires c =
    subst (λ (n : ℕ). c.in-Some.index < n) c.requires.sized
    (c.requires.known c.in-Some.index (listed c.args.instances.now c.loop-instance.instance-index c.instance-item.result c.in-Some.index c.loop-instance-test.true c.instance-item.is c.in-Some.is)).within

pub entry-requires : goal.entry-requires
entry-requires c = (c.requires.known c.in-Some.index (listed c.args.instances.now c.loop-instance.instance-index c.instance-item.result c.in-Some.index c.loop-instance-test.true c.instance-item.is c.in-Some.is)).within

pub returns-then-entry : goal.returns-then-entry
returns-then-entry c =
    let refers = listed c.args.instances.now c.loop-instance.instance-index c.instance-item.result c.in-Some.index c.loop-instance-test.true c.instance-item.is c.in-Some.is in
    let enough : nat_eq (length c.instance-item.result.nodes) (length (ports_at c.args.subckts.now c.in-Some.index)) ≡ true =
    eq-eqb _ _ (ap length (sym c.as_slice.ensures) ∙ c.if-as_slice-ports.false ∙ ap length (c.as_slice-ports.ensures ∙ c.subckt_at.ensures.ports)) in
    let under : IsSome (bad_at c.args.subckts.now c.in-Some.index) = sym ((c.requires.known c.in-Some.index refers).is false) ∙ c.entry.ensures false ∙ c.if-entry.true in
    let by_part : bad_in c.args.subckts.now c.args.instances.now ≡ option_map (path_above c.instance-item.result) (bad_at c.args.subckts.now c.in-Some.index) =
    c.loop-instance.invariant
    ∙ ap (bad_in c.args.subckts.now) (rest_at c.args.instances.now c.loop-instance.instance-index c.instance-item.result c.loop-instance-test.true c.instance-item.is)
    ∙ bad_inside c.args.subckts.now (walk_at c.args.subckts.now) c.instance-item.result (drop (c.loop-instance.instance-index + 1) c.args.instances.now) c.in-Some.index c.in-Some.is enough under in
    record {
      some = subst (λ (o : Option (List ℕ)). IsSome o) (sym by_part) (still_some (path_above c.instance-item.result) (bad_at c.args.subckts.now c.in-Some.index) under);
      refers = refers;
      path = by_part ∙ ap (λ (name : List ℕ). option_map (λ path. name ++ 47 ∷ path) (bad_at c.args.subckts.now c.in-Some.index)) (sym c.as_bytes-name.ensures);
    }

pub loop-instance-preserved : goal.loop-instance-preserved
loop-instance-preserved c =
    let refers = listed c.args.instances.now c.loop-instance.instance-index c.instance-item.result c.in-Some.index c.loop-instance-test.true c.instance-item.is c.in-Some.is in
    let enough : nat_eq (length c.instance-item.result.nodes) (length (ports_at c.args.subckts.now c.in-Some.index)) ≡ true =
    eq-eqb _ _ (ap length (sym c.as_slice.ensures) ∙ c.if-as_slice-ports.false ∙ ap length (c.as_slice-ports.ensures ∙ c.subckt_at.ensures.ports)) in
    let none : has_bad c.args.subckts.now c.in-Some.index ≡ false = sym ((c.requires.known c.in-Some.index refers).is false) ∙ c.entry.ensures false ∙ c.if-entry.false in
    c.loop-instance.invariant
    ∙ ap (bad_in c.args.subckts.now) (rest_at c.args.instances.now c.loop-instance.instance-index c.instance-item.result c.loop-instance-test.true c.instance-item.is)
    ∙ bad_later c.args.subckts.now (walk_at c.args.subckts.now) c.instance-item.result (drop (c.loop-instance.instance-index + 1) c.args.instances.now) c.in-Some.index c.in-Some.is enough none
