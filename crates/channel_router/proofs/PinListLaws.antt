-- The pins of lists that begin or are put together so.
use Rattle.std.proofs.Common.{◌≡◌, ◌⊎◌, inl, inr, ℕ, ℤ, List, [], ◌∷◌, ◌++◌, refl, ap, sym, ◌∙◌}
use Rattle.std.proofs.lemmas.List.Elements.{Contains-append_cases, Contains-append_left, Contains-append_right}
use Rattle.or_geom.proofs.ListLaws.{contains_cases, contains_first, contains_later, contains_none}
use Rattle.channel_router.specs.declared.channel.ChannelPin.{ChannelPin}
use Rattle.channel_router.specs.Channel.{IsPinOf}

pub pin_first : (pin : ChannelPin) (pins : List ChannelPin) → IsPinOf (pin ∷ pins) pin.net pin.x
pin_first pin pins = record { pin = pin; listed = contains_first pin pins; at_x = refl; of_net = refl }

pub pin_later : (pin : ChannelPin) (pins : List ChannelPin) (net : ℕ) (x : ℤ) → IsPinOf pins net x → IsPinOf (pin ∷ pins) net x
pin_later pin pins net x p = record { pin = p.pin; listed = contains_later pin pins p.pin p.listed; at_x = p.at_x; of_net = p.of_net }

pub pin_none : (net : ℕ) (x : ℤ) → IsPinOf [] net x → ⊥
pin_none net x p = contains_none p.pin p.listed

pub pin_cases : (pin : ChannelPin) (pins : List ChannelPin) (net : ℕ) (x : ℤ) → IsPinOf (pin ∷ pins) net x → ((pin.net ≡ net) × (pin.x ≡ x)) ⊎ IsPinOf pins net x
pin_cases pin pins net x p = elim (contains_cases pin pins p.pin p.listed) [
  | inl is ↦ inl (ap (λ (q : ChannelPin). q.net) (sym is) ∙ p.of_net, ap (λ (q : ChannelPin). q.x) (sym is) ∙ p.at_x)
  | inr later ↦ inr (record { pin = p.pin; listed = later; at_x = p.at_x; of_net = p.of_net })
]

pub pin_in_both : (xs ys : List ChannelPin) (net : ℕ) (x : ℤ) → IsPinOf (xs ++ ys) net x → IsPinOf xs net x ⊎ IsPinOf ys net x
pin_in_both xs ys net x p = elim (Contains-append_cases xs ys p.pin p.listed) [
  | inl a ↦ inl (record { pin = p.pin; listed = a; at_x = p.at_x; of_net = p.of_net })
  | inr b ↦ inr (record { pin = p.pin; listed = b; at_x = p.at_x; of_net = p.of_net })
]

pub pin_left : (xs ys : List ChannelPin) (net : ℕ) (x : ℤ) → IsPinOf xs net x → IsPinOf (xs ++ ys) net x
pin_left xs ys net x p = record { pin = p.pin; listed = Contains-append_left xs ys p.pin p.listed; at_x = p.at_x; of_net = p.of_net }

pub pin_right : (xs ys : List ChannelPin) (net : ℕ) (x : ℤ) → IsPinOf ys net x → IsPinOf (xs ++ ys) net x
pin_right xs ys net x p = record { pin = p.pin; listed = Contains-append_right xs ys p.pin p.listed; at_x = p.at_x; of_net = p.of_net }
