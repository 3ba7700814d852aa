-- The intervals of all nets hold all pins and exits.
use Rattle.std.proofs.Common.{◌≡◌, ◌∙◌, ℕ, zero, suc, pos, negsuc, List, length, refl, sym, ap}
use Rattle.std.specs.Prelude.{replicate, slice_get, Some}
use Rattle.std.proofs.lemmas.Option.{same_Some}
use Rattle.channel_router.specs.declared.channel.Interval.{Interval}
use Rattle.channel_router.proofs.PinLaws.{all_widened, empty_hulls}
use Rattle.channel_router.proofs.intervals.intervals_of.Goals as goal

as_many : (n : ℕ) (a : Interval) → length (replicate n a) ≡ n
as_many zero a = refl
as_many (suc n) a = ap suc (as_many n a)

all_same : (n k : ℕ) (a b : Interval) → slice_get (replicate n a) k ≡ Some b → b ≡ a
all_same zero k a b e = absurd cc
all_same (suc n) zero a b e = sym (same_Some a b e)
all_same (suc n) (suc k) a b e = all_same n k a b e

pub returns : goal.returns
returns c =
    let nowhere : Interval = record { left = pos 9223372036854775807; right = negsuc 9223372036854775807 } in
    let top = rw c.as_slice.ensures at c.widened-top.ensures in
    let sides = rw c.as_slice-2.ensures at c.widened-sides.ensures in
    let all = rw c.as_slice-3.ensures at c.widened.ensures in
    let same : c.in_ok-nowhere.nowhere.items ≡ replicate c.args.ch.now.nets nowhere = c.in_ok-nowhere.ensures.items_if_clones_equal (λ y e. e) in
    all_widened c.args.ch.now c.in_ok-nowhere.nowhere.items c.widened-top.result.items c.widened-sides.result.items c.widened.result.items c.requires (ap length same ∙ as_many c.args.ch.now.nets nowhere)
    (empty_hulls c.in_ok-nowhere.nowhere.items nowhere refl refl (λ net b at. all_same c.args.ch.now.nets net nowhere b (ap (λ (l : List Interval). slice_get l net) (sym same) ∙ at))) top sides all
