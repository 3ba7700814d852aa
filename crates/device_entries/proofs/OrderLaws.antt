-- The order of entries tells all entries apart.
use Rattle.std.proofs.Common.{◌≡◌, refl}
use Rattle.std.specs.Ordering.{ordering_then}
use Rattle.std.specs.declared.cmp.Ordering.{Ordering}
use Rattle.std.specs.declared.cmp.Ordering.TheVariants.{Less, Equal, Greater}
use Rattle.std.specs.Cmp.{Equal-is}
use Rattle.std.proofs.lemmas.Map.Lookups.{exact_bytes}
use Rattle.or_geom.specs.Least.{name_order}
use Rattle.device_entries.specs.declared.entry.DeviceEntry.{DeviceEntry}
use Rattle.device_entries.specs.EntryOrder.{entry_order, TiesAreOne}

both_equal : (o p : Ordering) → ordering_then o p ≡ Equal → (o ≡ Equal) × (p ≡ Equal)
both_equal Less p e = absurd cc
both_equal Equal p e = (refl, e)
both_equal Greater p e = absurd cc

pub one_entry : (a b : DeviceEntry) → entry_order a b ≡ Equal → a ≡ b
one_entry a b e =
    let by_model = both_equal (name_order a.model b.model) _ e in
    let by_gate = both_equal (name_order a.gate b.gate) _ by_model.1 in
    let by_low = both_equal (name_order a.low b.low) _ by_gate.1 in
    let model = exact_bytes a.model b.model by_model.0 in
    let gate = exact_bytes a.gate b.gate by_gate.0 in
    let low = exact_bytes a.low b.low by_low.0 in
    let high = exact_bytes a.high b.high by_low.1 in
    λ i. record { model = model i; gate = gate i; low = low i; high = high i }

pub ties_are_one : TiesAreOne
ties_are_one a b e = one_entry a b ((Equal-is (entry_order a b)).0 e)
