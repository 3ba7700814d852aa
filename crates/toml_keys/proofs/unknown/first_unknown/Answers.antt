use Rattle.std.proofs.Common.{refl, sym, ◌∙◌, map}
use Rattle.toml_keys.proofs.UnknownLaws.{key_is_known, key_is_unknown, later_keys, keys_as_members}
use Rattle.toml_keys.proofs.unknown.first_unknown.Goals as goal

pub loop-key-init : goal.loop-key-init
loop-key-init c = record {
  sorted = rw (c.into_iter-key-iterator.ensures.into_iter_gives, c.keys-key-items.ensures.rest) c.keys-key-items.ensures.ordered;
  so_far = rw (c.into_iter-key-iterator.ensures.into_iter_gives, c.keys-key-items.ensures.rest) refl;
}

pub returns-then-is_unknown : goal.returns-then-is_unknown
returns-then-is_unknown c =
    let step = c.in-Some.ensures.steps in
    let passes = rw c.as_str.ensures.value at c.if-is_unknown.ensures in
    let sorted = rw step at c.loop-key.invariant.sorted in
    let so_far = rw step at c.loop-key.invariant.so_far in
    rw (keys_as_members c.args.table.now.entries, c.as_str-then-is_unknown.ensures.value) (sym (key_is_unknown _ _ _ sorted (sym passes)) ∙ so_far)

pub loop-key-preserved : goal.loop-key-preserved
loop-key-preserved c =
    let step = c.in-Some.ensures.steps in
    let fails = rw c.as_str.ensures.value at c.if-is_unknown.ensures in
    let sorted = rw step at c.loop-key.invariant.sorted in
    let so_far = rw step at c.loop-key.invariant.so_far in
    record {
      sorted = later_keys _ _ sorted;
      so_far = sym (key_is_known (map (λ k. k.now) c.args.known.now) c.in-Some.key.now c.next.new.self (sym fails)) ∙ so_far;
    }

pub returns : goal.returns
returns c =
    let step = c.in-None.ensures.steps in
    let so_far = rw step.0 at c.loop-key.invariant.so_far in
    rw (keys_as_members c.args.table.now.entries) so_far
