-- Which pairs of places are joined for a run, and for all runs.
use Rattle.std.specs.Prelude.{◌≡◌, ℕ, List}
use Rattle.or_geom.specs.declared.shape.Shape.{Shape}
use Rattle.tech_rules.specs.declared.tech.Connect.{Connect}
use Rattle.shape_bins.specs.Places.{IsListedBetween}
use Rattle.net_extractor.specs.declared.contacts.Contact.{Contact}
use Rattle.net_extractor.specs.declared.contacts.Contact.TheVariants.{Overlapping}
use Rattle.net_extractor.specs.declared.run.RunShape.{RunShape}
use Rattle.net_extractor.specs.Contacts.{AreInContact}
use Rattle.net_extractor.specs.NetRoots.{AreShapesAt, IsCutPair, IsLayerPair, IsTouchPair}
use Rattle.net_extractor.specs.Runs.{HasPlace}

-- a shape of the run with one that it touches on its layer
abbrev pub IsLayerPairOf : List Connect → List Shape → List RunShape → ℕ → ℕ → Type 0
IsLayerPairOf connections shapes own a b = HasPlace own a × IsLayerPair connections shapes a b

-- with one that it touches as a cut
abbrev pub IsCutPairOf : List Connect → List Shape → List RunShape → ℕ → ℕ → Type 0
IsCutPairOf connections shapes own a b = HasPlace own a × IsCutPair connections shapes a b

-- the second is of the layer, and both are in contact
pub record IsInContactOn (contact : Contact) (layer : ℕ) (one other : Shape) : Type 0 where
  pub on : other.layer ≡ layer
  pub so : AreInContact contact one.rect other.rect

-- with one of the layer that is in contact with it
abbrev pub IsContactPairOf : List Shape → List RunShape → Contact → ℕ → ℕ → ℕ → Type 0
IsContactPairOf shapes own contact layer a b = HasPlace own a × AreShapesAt (IsInContactOn contact layer) shapes a b

-- with one of the layer that shares area with it
abbrev pub IsOverPairOf : List Shape → List RunShape → ℕ → ℕ → ℕ → Type 0
IsOverPairOf shapes own = IsContactPairOf shapes own Overlapping

-- with one that it touches on its layer or as a cut
abbrev pub IsRunPair : List Connect → List Shape → List RunShape → ℕ → ℕ → Type 0
IsRunPair connections shapes own a b = HasPlace own a × IsTouchPair connections shapes a b

-- a shape whose place stands in the order between the positions, with one that it touches so
abbrev pub IsListedPair : List Connect → List Shape → List ℕ → ℕ → ℕ → ℕ → ℕ → Type 0
IsListedPair connections shapes order begin end a b = IsListedBetween order begin end a × IsTouchPair connections shapes a b
