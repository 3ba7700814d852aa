-- Lists of a channel's pins.
use Rattle.std.specs.Prelude.{◌<◌, ◌^◌, ℕ, ℤ, pos, ◌≤ℤ◌, List, [], ◌∷◌, Option, None, Some, All}
use Rattle.channel_router.specs.declared.channel.ChannelPin.{ChannelPin}
use Rattle.channel_router.specs.Channel.{IsPinOf}

-- a coordinate that the macro may have
pub record IsMacroCoordinate (x : ℤ) : Type 0 where
  pub above : pos 0 ≤ℤ x
  pub below : x ≤ℤ pos (2 ^ 28)

-- a pin in the macro of one of so many nets
pub record IsMainPin (nets : ℕ) (pin : ChannelPin) : Type 0 where
  pub of_net : pin.net < nets
  pub at : IsMacroCoordinate pin.x

abbrev pub AreMainPins : ℕ → List ChannelPin → Type 0
AreMainPins nets pins = All (IsMainPin nets) pins

-- the pin of a net at x, if it has a number
abbrev pub pin_of : Option ℕ → ℤ → List ChannelPin
pin_of None x = []
pin_of (Some net) x = record { x = x; net = net } ∷ []

-- the pin of the net of this name; `look` gives nets of the channel their numbers
abbrev pub numbered_net : (List ℕ → Option ℕ) → List ℕ → ℤ → List ChannelPin
numbered_net look name x = pin_of (look name) x

-- the net has a pin
abbrev pub HasPinOfNet : List ChannelPin → ℕ → Type 0
HasPinOfNet pins net = (x : ℤ) × IsPinOf pins net x
