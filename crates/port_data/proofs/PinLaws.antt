-- Pins of lists that are made number by number.
use Rattle.std.proofs.Common.{◌≡◌, ◌⊎◌, inl, inr, ℕ, zero, suc, ◌+◌, ◌<◌, ◌≤◌, ℤ, List, map, get_or, refl, ap, sym, subst, arith}
use Rattle.std.specs.Prelude.{All}
use Rattle.std.specs.List.{flat_map}
use Rattle.std.proofs.lemmas.Option.{slice_get-get_or}
use Rattle.or_geom.proofs.ListLaws.{contained_at}
use Rattle.sram_netlist.specs.InstanceList.{numbers_from, tabulate, tabulate_lists}
use Rattle.channel_router.specs.declared.channel.ChannelPin.{ChannelPin}
use Rattle.channel_router.specs.Channel.{IsPinOf}
use Rattle.channel_router.proofs.PinListLaws.{pin_first, pin_later, pin_none, pin_cases, pin_in_both, pin_left, pin_right}

-- the pin is in the list of a number below n
pub record IsPinBelow (f : ℕ → List ChannelPin) (from to net : ℕ) (x : ℤ) : Type 0 where
  pub number : ℕ
  pub above : from ≤ number
  pub below : number < to
  pub is : IsPinOf (f number) net x

of_numbers : (f : ℕ → List ChannelPin) (k n net : ℕ) (x : ℤ) → IsPinOf (flat_map f (numbers_from k n)) net x → IsPinBelow f k (k + n) net x
of_numbers f k zero net x p = absurd (pin_none net x p)
of_numbers f k (suc n) net x p = elim (pin_in_both (f k) (flat_map f (numbers_from (suc k) n)) net x p) [
  | inl here ↦ record { number = k; above = omega arith; below = omega arith; is = here }
  | inr later ↦
      let r = of_numbers f (suc k) n net x later in
      let above = r.above in
      let below = r.below in
      record { number = r.number; above = omega (arith, above); below = omega (arith, below); is = r.is }
]

pub of_lists : (f : ℕ → List ChannelPin) (n net : ℕ) (x : ℤ) → IsPinOf (tabulate_lists n f) net x → IsPinBelow f 0 n net x
of_lists f n net x p =
    let r = of_numbers f 0 n net x p in
    let below = r.below in
    record { number = r.number; above = r.above; below = omega (arith, below); is = r.is }

first_or_later : (k i : ℕ) → k ≤ i → (i ≡ k) ⊎ (suc k ≤ i)
first_or_later zero zero le = inl refl
first_or_later zero (suc i) le = inr (omega arith)
first_or_later (suc k) zero le = absurd (omega (arith, le))
first_or_later (suc k) (suc i) le = elim (first_or_later k i (omega (arith, le))) [ inl e ↦ inl (ap suc e) | inr more ↦ inr (omega (arith, more)) ]

to_numbers : (f : ℕ → List ChannelPin) (k n i net : ℕ) (x : ℤ) → k ≤ i → i < k + n → IsPinOf (f i) net x → IsPinOf (flat_map f (numbers_from k n)) net x
to_numbers f k zero i net x above below p = absurd (omega (arith, above, below))
to_numbers f k (suc n) i net x above below p = by (first_or_later k i above) (λ more. to_numbers f (suc k) n i net x more (omega (arith, below)) p)
  where
    by : (i ≡ k) ⊎ (suc k ≤ i) → (suc k ≤ i → IsPinOf (flat_map f (numbers_from (suc k) n)) net x) → IsPinOf (flat_map f (numbers_from k (suc n))) net x
    by (inl e) later = pin_left (f k) (flat_map f (numbers_from (suc k) n)) net x (subst (λ (j : ℕ). IsPinOf (f j) net x) e p)
    by (inr more) later = pin_right (f k) (flat_map f (numbers_from (suc k) n)) net x (later more)

pub to_lists : (f : ℕ → List ChannelPin) (n i net : ℕ) (x : ℤ) → i < n → IsPinOf (f i) net x → IsPinOf (tabulate_lists n f) net x
to_lists f n i net x below p = to_numbers f 0 n i net x (omega arith) (omega (arith, below)) p

-- one pin for each number
pub record IsPinAt (f : ℕ → ChannelPin) (from to net : ℕ) (x : ℤ) : Type 0 where
  pub number : ℕ
  pub above : from ≤ number
  pub below : number < to
  pub of_net : (f number).net ≡ net
  pub at : (f number).x ≡ x

of_each : (f : ℕ → ChannelPin) (k n net : ℕ) (x : ℤ) → IsPinOf (map f (numbers_from k n)) net x → IsPinAt f k (k + n) net x
of_each f k zero net x p = absurd (pin_none net x p)
of_each f k (suc n) net x p = elim (pin_cases (f k) (map f (numbers_from (suc k) n)) net x p) [
  | inl here ↦ record { number = k; above = omega arith; below = omega arith; of_net = here.0; at = here.1 }
  | inr later ↦
      let r = of_each f (suc k) n net x later in
      let above = r.above in
      let below = r.below in
      record { number = r.number; above = omega (arith, above); below = omega (arith, below); of_net = r.of_net; at = r.at }
]

pub of_table : (f : ℕ → ChannelPin) (n net : ℕ) (x : ℤ) → IsPinOf (tabulate n f) net x → IsPinAt f 0 n net x
of_table f n net x p =
    let r = of_each f 0 n net x p in
    let below = r.below in
    record { number = r.number; above = r.above; below = omega (arith, below); of_net = r.of_net; at = r.at }

to_each : (f : ℕ → ChannelPin) (k n i : ℕ) → k ≤ i → i < k + n → IsPinOf (map f (numbers_from k n)) (f i).net (f i).x
to_each f k zero i above below = absurd (omega (arith, above, below))
to_each f k (suc n) i above below = by (first_or_later k i above) (λ more. to_each f (suc k) n i more (omega (arith, below)))
  where
    by : (i ≡ k) ⊎ (suc k ≤ i) → (suc k ≤ i → IsPinOf (map f (numbers_from (suc k) n)) (f i).net (f i).x) → IsPinOf (map f (numbers_from k (suc n))) (f i).net (f i).x
    by (inl e) later = subst (λ (j : ℕ). IsPinOf (map f (numbers_from k (suc n))) (f j).net (f j).x) (sym e) (pin_first (f k) (map f (numbers_from (suc k) n)))
    by (inr more) later = pin_later (f k) (map f (numbers_from (suc k) n)) (f i).net (f i).x (later more)

pub to_table : (f : ℕ → ChannelPin) (n i : ℕ) → i < n → IsPinOf (tabulate n f) (f i).net (f i).x
to_table f n i below = to_each f 0 n i (omega arith) (omega (arith, below))

-- what holds of all pins, by net and place
pub all_pins : (P : ℕ → ℤ → Type 0) (pins : List ChannelPin) → ((net : ℕ) (x : ℤ) → IsPinOf pins net x → P net x) → All (λ pin. P pin.net pin.x) pins
all_pins P pins h k d lt =
    let pin = get_or pins k d in
    h pin.net pin.x (record { pin = pin; listed = contained_at pins k pin (slice_get-get_or pins k d lt); at_x = refl; of_net = refl })
