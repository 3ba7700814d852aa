use Rattle.std.proofs.Common.{◌≡◌, map}
use Rattle.std.specs.List.Sorted.{IsStrictlySortedBy}
use Rattle.std.specs.String.{string_cmp}
use Rattle.std.specs.BTreeMap.{keys}
use Rattle.toml_keys.proofs.UnknownLaws.{unknown_of}
use Rattle.toml_keys.proofs.unknown.first_unknown.Given as goal

abbrev pub invariant-loop-key : goal.invariant-loop-key
invariant-loop-key l = record {
  sorted : IsStrictlySortedBy string_cmp l.key-iterator;
  so_far : unknown_of (map (λ k. k.now) l.known) l.key-iterator ≡ unknown_of (map (λ k. k.now) l.known) (keys l.table);
}
