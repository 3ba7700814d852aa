use Rattle.std.proofs.Common.{List, ℕ, Bor, map, refl, sym, subst, arith}
use Rattle.std.specs.Prelude.{Contains}
use Rattle.std.proofs.lemmas.List.{length-map}
use Rattle.cell_hierarchy.specs.Plain.{FlatLists, plain_label}
use Rattle.leaf_nets.specs.Numbers.{IsPinBinding}
use Rattle.leaf_nets.proofs.PinLaws.{wrong_pin, repeated_pin, pins_bare, pins_single, pins_end}
use Rattle.leaf_nets.proofs.pins.pin_numbers.Goals as goal
use Rattle.leaf_nets.proofs.pins.pin_numbers.Goals.{in-Unlabelled, in-On+else-is_listed+in_ok-push-in-On}

pub returns-in-Wrong : goal.returns-in-Wrong
returns-in-Wrong c =
    let lists : FlatLists = record { shapes = c.args.bins.now; labels = map plain_label c.args.labels.now } in
    let pin = c.text_at.result.now in
    record {
      before = c.loop-index.invariant.right;
      pin = pin;
      here = c.text_at.ensures;
      wrong = wrong_pin c.args._connections.now lists c.args.nets.now (map (λ (t : Bor (List ℕ)). t.now) c.args.pins.now) c.loop-index.index pin (record { rises = c.requires.rises; are = c.requires.nets })
          (subst (IsPinBinding c.args.bins.now c.args.nets.now lists.labels pin) c.in-Wrong.is c.pin_binding.ensures);
    }

pub returns-then-is_listed : goal.returns-then-is_listed
returns-then-is_listed c =
    let lists : FlatLists = record { shapes = c.args.bins.now; labels = map plain_label c.args.labels.now } in
    let pin = c.text_at.result.now in
    let number = c.in-On.number in
    let listed = subst (λ (l : List ℕ). Contains l number) c.as_slice.ensures.value (c.if-is_listed.ensures.0 refl) in
    record {
      before = c.loop-index.invariant.right;
      pin = pin;
      here = c.text_at.ensures;
      wrong = repeated_pin c.args._connections.now lists c.args.nets.now (map (λ (t : Bor (List ℕ)). t.now) c.args.pins.now) c.loop-index.index number pin (record { rises = c.requires.rises; are = c.requires.nets })
          ((c.loop-index.invariant.numbered number).0 listed) (subst (IsPinBinding c.args.bins.now c.args.nets.now lists.labels pin) c.in-On.is c.pin_binding.ensures).some;
    }

pub loop-index-preserved : goal.loop-index-preserved
loop-index-preserved c =
    let lists : FlatLists = record { shapes = c.args.bins.now; labels = map plain_label c.args.labels.now } in
    let pins = map (λ (t : Bor (List ℕ)). t.now) c.args.pins.now in
    let pin = c.text_at.result.now in
    let i = c.loop-index.index in
    elim c.match-pin_binding.branch [
      | in-Unlabelled w ↦
          rw w.numbers-is (pins_bare c.args._connections.now lists c.args.nets.now pins i pin c.loop-index.numbers.items c.text_at.ensures
          (subst (IsPinBinding c.args.bins.now c.args.nets.now lists.labels pin) w.in-Unlabelled.is c.pin_binding.ensures) c.loop-index.invariant)
      | in-On+else-is_listed+in_ok-push-in-On w ↦
          rw w.numbers-is (rw w.in_ok-push-in-On.ensures.items (pins_single c.args._connections.now lists c.args.nets.now pins i w.in-On.number pin c.loop-index.numbers.items (record { rises = c.requires.rises; are = c.requires.nets }) c.text_at.ensures
          (subst (IsPinBinding c.args.bins.now c.args.nets.now lists.labels pin) w.in-On.is c.pin_binding.ensures)
          (λ h. let t = w.if-is_listed.ensures.1 (subst (λ (l : List ℕ). Contains l w.in-On.number) (sym w.as_slice.ensures.value) h) in absurd cc) c.loop-index.invariant))
    ]

pub returns : goal.returns
returns c =
    let over = c.loop-index-test.false in
    let within = c.loop-index.auto.index-end in
    let sized = length-map c.args.pins.now (λ (t : Bor (List ℕ)). t.now) in
    pins_end c.args._connections.now (record { shapes = c.args.bins.now; labels = map plain_label c.args.labels.now }) c.args.nets.now (map (λ (t : Bor (List ℕ)). t.now) c.args.pins.now) c.loop-index.index c.loop-index.numbers.items
    (omega (arith, over, within, sized)) c.loop-index.invariant
