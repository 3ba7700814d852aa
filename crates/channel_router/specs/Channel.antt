-- Where nets meet a channel, and what a channel has to be.
use Rattle.std.specs.Prelude.{◌≡◌, ℕ, ◌<◌, ℤ, List, ◌++◌, All, Contains}
use Rattle.or_geom.specs.Distance.{IsNear}
use Rattle.channel_router.specs.declared.channel.Channel.{Channel}
use Rattle.channel_router.specs.declared.channel.ChannelPin.{ChannelPin}

-- a pin of this net in the list, at x
pub record IsPinOf (pins : List ChannelPin) (net : ℕ) (x : ℤ) : Type 0 where
  pub pin : ChannelPin
  pub listed : Contains pins pin
  pub at_x : pin.x ≡ x
  pub of_net : pin.net ≡ net

-- pins of the top, pins of the bottom, and exits
abbrev pub places : Channel → List ChannelPin
places ch = ch.top ++ ch.bottom ++ ch.exits

-- all lie within 2^40
abbrev pub ArePinsNear : List ChannelPin → Type 0
ArePinsNear = All (λ pin. IsNear pin.x)

-- each is of a net that is there
abbrev pub AreOfNets : ℕ → List ChannelPin → Type 0
AreOfNets nets = All (λ pin. pin.net < nets)

-- pins or exits of nets that are there, near the origin
pub record AreInChannel (nets : ℕ) (pins : List ChannelPin) : Type 0 where
  pub of_nets : AreOfNets nets pins
  pub near : ArePinsNear pins

-- the channel's lower end and its pins and exits are near the origin, and each net has a pin or an exit
pub record IsChannel (ch : Channel) : Type 0 where
  pub low : IsNear ch.low
  pub top : AreInChannel ch.nets ch.top
  pub bottom : AreInChannel ch.nets ch.bottom
  pub exits : AreInChannel ch.nets ch.exits
  pub met : (net : ℕ) → net < ch.nets → (x : ℤ) × IsPinOf (places ch) net x
