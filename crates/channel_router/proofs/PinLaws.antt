-- Pins of lists, and the intervals that hold them.
use Rattle.std.proofs.Common.{◌≡◌, ◌⊎◌, inl, inr, ℕ, ◌<◌, ℤ, pos, negsuc, ◌≤ℤ◌, List, [], ◌∷◌, ◌++◌, length, get_or, refl, sym, ap, subst, ◌∙◌, arith}
use Rattle.std.specs.Prelude.{slice_get, slice_set, Some}
use Rattle.std.specs.Int.{int_max, int_min}
use Rattle.std.proofs.lemmas.Bool.{cases_eq}
use Rattle.std.proofs.lemmas.Int.{ints, clamps, by_lt_z}
use Rattle.std.proofs.lemmas.List.{length-map, get_or-map}
use Rattle.std.proofs.lemmas.List.Elements.{All-contains, Contains-append_left, Contains-append_right, Contains-append_cases}
use Rattle.std.proofs.lemmas.Option.{slice_get_within}
use Rattle.or_geom.specs.Distance.{IsNear}
use Rattle.or_geom.proofs.ListLaws.{contains_cases, contains_first, contains_none, one_at}
use Rattle.channel_router.specs.declared.channel.Channel.{Channel}
use Rattle.channel_router.specs.declared.channel.ChannelPin.{ChannelPin}
use Rattle.channel_router.specs.declared.channel.Interval.{Interval}
use Rattle.channel_router.specs.Channel.{ArePinsNear, IsChannel, IsPinOf, places}
use Rattle.channel_router.specs.Hull.{AreHulls, IsHull, Widens}
use Rattle.channel_router.specs.Intervals.{AreIntervals, IsIntervalOf}
use Rattle.channel_router.specs.Routed.{pin_xs}
use Rattle.channel_router.proofs.PlaceLaws.{set_same, set_other}

-- the places of near pins are near
pub near_xs : (pins : List ChannelPin) → ArePinsNear pins → (k : ℕ) (d : ℤ) → k < length (pin_xs pins) → IsNear (get_or (pin_xs pins) k d)
near_xs pins near k d lt =
    let none : ChannelPin = record { x = pos 0; net = 0 } in
    let inside : k < length pins = let e = length-map pins (λ (pin : ChannelPin). pin.x) in omega (arith, e, lt) in
    subst IsNear (sym (get_or-map (λ (pin : ChannelPin). pin.x) pins k none d inside)) (near k none inside)

pub pin_left : (xs ys : List ChannelPin) (net : ℕ) (x : ℤ) → IsPinOf xs net x → IsPinOf (xs ++ ys) net x
pin_left xs ys net x p = record { pin = p.pin; listed = Contains-append_left xs ys p.pin p.listed; at_x = p.at_x; of_net = p.of_net }

pub pin_right : (xs ys : List ChannelPin) (net : ℕ) (x : ℤ) → IsPinOf ys net x → IsPinOf (xs ++ ys) net x
pin_right xs ys net x p = record { pin = p.pin; listed = Contains-append_right xs ys p.pin p.listed; at_x = p.at_x; of_net = p.of_net }

pin_cases : (xs : List ChannelPin) (pin : ChannelPin) (net : ℕ) (x : ℤ) → IsPinOf (xs ++ pin ∷ []) net x → IsPinOf xs net x ⊎ ((pin.net ≡ net) × (pin.x ≡ x))
pin_cases xs pin net x p = elim (Contains-append_cases xs (pin ∷ []) p.pin p.listed) [
  | inl before ↦ inl (record { pin = p.pin; listed = before; at_x = p.at_x; of_net = p.of_net })
  | inr last ↦ elim (contains_cases pin [] p.pin last) [
    | inl is ↦ inr (ap (λ (q : ChannelPin). q.net) (sym is) ∙ p.of_net, ap (λ (q : ChannelPin). q.x) (sym is) ∙ p.at_x)
    | inr none ↦ absurd (contains_none p.pin none)
  ]
]

-- one pin more of another net
hull_elsewhere : (xs : List ChannelPin) (pin : ChannelPin) (net : ℕ) (a : Interval) → (net ≡ pin.net → ⊥) → IsHull xs net a → IsHull (xs ++ pin ∷ []) net a
hull_elsewhere xs pin net a other h = record {
  begins = elim h.begins [ inl e ↦ inl e | inr p ↦ inr (pin_left xs (pin ∷ []) net a.left p) ];
  ends = elim h.ends [ inl e ↦ inl e | inr p ↦ inr (pin_left xs (pin ∷ []) net a.right p) ];
  least = λ x p. elim (pin_cases xs pin net x p) [ inl before ↦ h.least x before | inr here ↦ absurd (other (sym here.0)) ];
  greatest = λ x p. elim (pin_cases xs pin net x p) [ inl before ↦ h.greatest x before | inr here ↦ absurd (other (sym here.0)) ];
}

least_of : (a b m : ℤ) → m ≡ int_min a b → (m ≤ℤ a) × (m ≤ℤ b) × ((m ≡ a) ⊎ (m ≡ b))
least_of a b m is = (
  omega (arith, ints, clamps, is),
  omega (arith, ints, clamps, is),
  by_lt_z {P = (m ≡ a) ⊎ (m ≡ b)} a b (λ less. inl (omega (arith, ints, clamps, is, less))) (λ more. inr (omega (arith, ints, clamps, is, more))),
)

greatest_of : (a b m : ℤ) → m ≡ int_max a b → (a ≤ℤ m) × (b ≤ℤ m) × ((m ≡ a) ⊎ (m ≡ b))
greatest_of a b m is = (
  omega (arith, ints, clamps, is),
  omega (arith, ints, clamps, is),
  by_lt_z {P = (m ≡ a) ⊎ (m ≡ b)} a b (λ less. inr (omega (arith, ints, clamps, is, less))) (λ more. inl (omega (arith, ints, clamps, is, more))),
)

-- one pin more of this net
hull_here : (xs : List ChannelPin) (pin : ChannelPin) (a c : Interval) → c.left ≡ int_min a.left pin.x → c.right ≡ int_max a.right pin.x → IsHull xs pin.net a → IsHull (xs ++ pin ∷ []) pin.net c
hull_here xs pin a c left right h =
    let low = least_of a.left pin.x c.left left in
    let high = greatest_of a.right pin.x c.right right in
    record {
      begins = elim low.2 [
        | inl old ↦ elim h.begins [ inl e ↦ inl (old ∙ e) | inr p ↦ inr (subst (λ (x : ℤ). IsPinOf (xs ++ pin ∷ []) pin.net x) (sym old) (pin_left xs (pin ∷ []) pin.net a.left p)) ]
        | inr new ↦ inr (subst (λ (x : ℤ). IsPinOf (xs ++ pin ∷ []) pin.net x) (sym new) last)
      ];
      ends = elim high.2 [
        | inl old ↦ elim h.ends [ inl e ↦ inl (old ∙ e) | inr p ↦ inr (subst (λ (x : ℤ). IsPinOf (xs ++ pin ∷ []) pin.net x) (sym old) (pin_left xs (pin ∷ []) pin.net a.right p)) ]
        | inr new ↦ inr (subst (λ (x : ℤ). IsPinOf (xs ++ pin ∷ []) pin.net x) (sym new) last)
      ];
      least = λ x p. elim (pin_cases xs pin pin.net x p) [
        | inl before ↦ (let le = h.least x before in let m = low.0 in omega (arith, ints, le, m))
        | inr here ↦ (let e = here.1 in let m = low.1 in omega (arith, ints, e, m))
      ];
      greatest = λ x p. elim (pin_cases xs pin pin.net x p) [
        | inl before ↦ (let le = h.greatest x before in let m = high.0 in omega (arith, ints, le, m))
        | inr here ↦ (let e = here.1 in let m = high.1 in omega (arith, ints, e, m))
      ];
    } where
      last : IsPinOf (xs ++ pin ∷ []) pin.net pin.x
      last = pin_right xs (pin ∷ []) pin.net pin.x (record { pin = pin; listed = contains_first pin []; at_x = refl; of_net = refl })

pub hulls_more : (xs : List ChannelPin) (pin : ChannelPin) (intervals : List Interval) (a c : Interval) → pin.net < length intervals → slice_get intervals pin.net ≡ Some a → c.left ≡ int_min a.left pin.x → c.right ≡ int_max a.right pin.x
    → AreHulls xs intervals → AreHulls (xs ++ pin ∷ []) (slice_set intervals pin.net c)
hulls_more xs pin intervals a c inside at left right hulls net b at_net = elim (cases_eq net pin.net) [
  | inl same ↦
      let e : c ≡ b = one_at (slice_set intervals pin.net c) pin.net c b (set_same intervals pin.net c inside) (ap (λ (n : ℕ). slice_get (slice_set intervals pin.net c) n) (sym same) ∙ at_net) in
      subst (λ (n : ℕ). IsHull (xs ++ pin ∷ []) n b) (sym same) (subst (λ (d : Interval). IsHull (xs ++ pin ∷ []) pin.net d) e (hull_here xs pin a c left right (hulls pin.net a at)))
  | inr other ↦ hull_elsewhere xs pin net b other (hulls net b (sym (set_other intervals pin.net net c other) ∙ at_net))
]

-- pins and exits are near
pub pin_near : (ch : Channel) → IsChannel ch → (net : ℕ) (x : ℤ) → IsPinOf (places ch) net x → IsNear x
pin_near ch channel net x p = subst IsNear p.at_x (elim (Contains-append_cases (ch.top ++ ch.bottom) ch.exits p.pin p.listed) [
  | inl sides ↦ elim (Contains-append_cases ch.top ch.bottom p.pin sides) [
    | inl top ↦ All-contains (λ (q : ChannelPin). IsNear q.x) ch.top p.pin channel.top.near top
    | inr bottom ↦ All-contains (λ (q : ChannelPin). IsNear q.x) ch.bottom p.pin channel.bottom.near bottom
  ]
  | inr exit ↦ All-contains (λ (q : ChannelPin). IsNear q.x) ch.exits p.pin channel.exits.near exit
])

-- intervals that hold all pins and exits, each net having some, are those of the nets
pub hulls_are_intervals : (ch : Channel) (intervals : List Interval) → IsChannel ch → length intervals ≡ ch.nets → AreHulls (ch.top ++ ch.bottom ++ ch.exits) intervals → AreIntervals ch intervals
hulls_are_intervals ch intervals channel sized hulls = record {
  each = sized;
  of_net = λ net a at.
      let inside = slice_get_within intervals net a at in
      let some = channel.met net (omega (arith, inside, sized)) in
      of_hull net a (hulls net a at) some.0 some.1;
} where
  near : (net : ℕ) (x : ℤ) → IsPinOf (places ch) net x → IsNear x
  near net x p = pin_near ch channel net x p

  of_hull : (net : ℕ) (a : Interval) → IsHull (places ch) net a → (x : ℤ) → IsPinOf (places ch) net x → IsIntervalOf (places ch) net a
  of_hull net a h x p =
      let m = near net x p in
      let low = h.least x p in
      let high = h.greatest x p in
      record {
        begins = elim h.begins [ inl e ↦ absurd (omega (arith, ints, m.above, m.below, low, e)) | inr q ↦ q ];
        ends = elim h.ends [ inl e ↦ absurd (omega (arith, ints, m.above, m.below, high, e)) | inr q ↦ q ];
        least = h.least;
        greatest = h.greatest;
      }

-- intervals that hold nothing, widened by all pins and exits
pub all_widened : (ch : Channel) (nowhere top sides all : List Interval) → IsChannel ch → length nowhere ≡ ch.nets → AreHulls [] nowhere → Widens ch.top nowhere top → Widens ch.bottom top sides → Widens ch.exits sides all → AreIntervals ch all
all_widened ch nowhere top sides all channel sized empty first second third =
    hulls_are_intervals ch all channel (third.each ∙ second.each ∙ first.each ∙ sized) (third.hulls (ch.top ++ ch.bottom) (second.hulls ch.top (first.hulls [] empty)))

-- each of them holds nothing
pub empty_hulls : (nowhere : List Interval) (a : Interval) → a.left ≡ pos 9223372036854775807 → a.right ≡ negsuc 9223372036854775807 → ((net : ℕ) (b : Interval) → slice_get nowhere net ≡ Some b → b ≡ a) → AreHulls [] nowhere
empty_hulls nowhere a left right all net b at =
    let e = all net b at in
    record {
      begins = inl (ap (λ (c : Interval). c.left) e ∙ left);
      ends = inl (ap (λ (c : Interval). c.right) e ∙ right);
      least = λ x p. absurd (contains_none p.pin p.listed);
      greatest = λ x p. absurd (contains_none p.pin p.listed);
    }
