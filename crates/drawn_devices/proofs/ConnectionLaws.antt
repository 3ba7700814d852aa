-- The connections among cut shapes stand for those of the technology.
use Rattle.std.proofs.Common.{◌≡◌, ◌⊎◌, inl, inr, ◌↔◌, ℕ, List, [], ◌∷◌, refl, sym, ap, subst, ◌∙◌}
use Rattle.std.specs.Prelude.{Contains}
use Rattle.or_geom.specs.Adds.{Adds}
use Rattle.or_geom.specs.Gathering.{SomeGives}
use Rattle.or_geom.proofs.AddsLaws.{adds_both}
use Rattle.or_geom.proofs.GatheringLaws.{giver, gives_some, some_has, who_has}
use Rattle.or_geom.proofs.ListLaws.{contains_none, contains_cases, contains_first}
use Rattle.tech_rules.specs.declared.tech.Connect.{Connect}
use Rattle.tech_rules.specs.declared.tech.Device.{Device}
use Rattle.tech_rules.specs.declared.tech.Tech.{Tech}
use Rattle.tech_rules.specs.Touch.{IsConductor, IsCutTo, Joins}
use Rattle.drawn_devices.specs.Connections.{alone, GivesAlone, GivesDevice, GivesConnection}
use Rattle.drawn_devices.specs.CutShapes.{AreCutConnections}
use Rattle.drawn_devices.specs.Diffusion.{IsActive}
use Rattle.drawn_devices.proofs.LayerLaws.{decide_active}
use Rattle.drawn_devices.proofs.GrownLaws.{grown}

-- what the list of a layer alone has
one_alone : (layer other : ℕ) → Contains (layer ∷ []) other → other ≡ layer
one_alone layer other h = elim (contains_cases layer [] other h) [ inl is ↦ is | inr none ↦ absurd (contains_none other none) ]

-- the given connections
abbrev pub IsGiven : Tech → Connect → Type 0
IsGiven tech c = SomeGives (GivesConnection tech.devices) tech.connects c ⊎ SomeGives GivesDevice tech.devices c

abbrev pub AreGiven : Tech → List Connect → Type 0
AreGiven tech list = (c : Connect) → Contains list c ↔ IsGiven tech c

module _ (tech : Tech) (list : List Connect) (given : AreGiven tech list) where
  abbrev Connects : ℕ → Connect → Type 0
  Connects layer c = Contains c.to layer

  from_connect : (layer : ℕ) (c connect : Connect) → Contains tech.connects connect → GivesConnection tech.devices connect c → Contains c.to layer → IsConductor tech.connects layer
  from_connect layer c connect listed (inl g) to =
      let one = giver GivesAlone connect.to c g.1 in
      let is : layer ≡ one.0 = one_alone one.0 layer (subst (Connects layer) one.2 to) in
      some_has (Connects layer) tech.connects connect listed (subst (λ (l : ℕ). Contains connect.to l) (sym is) one.1)
  from_connect layer c connect listed (inr g) to = some_has (Connects layer) tech.connects connect listed (subst (Connects layer) g.1 to)

  conductor_from : (layer : ℕ) → IsConductor list layer → IsConductor tech.connects layer ⊎ IsActive tech.devices layer
  conductor_from layer h =
      let w = who_has (Connects layer) list h in
      elim ((given w.0).0 w.1) [
        | inl g ↦ let one = giver (GivesConnection tech.devices) tech.connects w.0 g in inl (from_connect layer w.0 one.0 one.1 one.2 w.2)
        | inr g ↦
            let one = giver GivesDevice tech.devices w.0 g in
            inr (some_has (λ (d : Device). d.active ≡ layer) tech.devices one.0 one.1 (sym (one_alone one.0.active layer (subst (Connects layer) one.2 w.2))))
      ]

  listed_alone : (layer : ℕ) → Contains list (alone layer) → IsConductor list layer
  listed_alone layer listed = some_has (Connects layer) list (alone layer) listed (contains_first layer [])

  conductor_to : (layer : ℕ) → IsConductor tech.connects layer ⊎ IsActive tech.devices layer → IsConductor list layer
  conductor_to layer (inl h) =
      let w = who_has (Connects layer) tech.connects h in
      elim (decide_active tech.devices w.0.cut) [
        | inl active ↦
            let own : GivesConnection tech.devices w.0 (alone layer) = inl (active, gives_some GivesAlone w.0.to (alone layer) layer w.2 refl) in
            listed_alone layer ((given (alone layer)).1 (inl (gives_some (GivesConnection tech.devices) tech.connects (alone layer) w.0 w.1 own)))
        | inr off ↦
            let own : GivesConnection tech.devices w.0 w.0 = inr (off, refl) in
            some_has (Connects layer) list w.0 ((given w.0).1 (inl (gives_some (GivesConnection tech.devices) tech.connects w.0 w.0 w.1 own))) w.2
      ]
  conductor_to layer (inr h) =
      let w = who_has (λ (d : Device). d.active ≡ layer) tech.devices h in
      listed_alone layer ((given (alone layer)).1 (inr (gives_some GivesDevice tech.devices (alone layer) w.0 w.1 (ap alone (sym w.2)))))

  cut_kept : (cut other : ℕ) → (IsActive tech.devices cut → ⊥) → IsCutTo tech.connects cut other → IsCutTo list cut other
  cut_kept cut other off h =
      let w = who_has (Joins cut other) tech.connects h in
      let own : GivesConnection tech.devices w.0 w.0 = inr (λ active. off (subst (IsActive tech.devices) w.2.by active), refl) in
      some_has (Joins cut other) list w.0 ((given w.0).1 (inl (gives_some (GivesConnection tech.devices) tech.connects w.0 w.0 w.1 own))) w.2

  alone_joins : (cut other layer : ℕ) (c : Connect) → c ≡ alone layer → Joins cut other c → cut ≡ other
  alone_joins cut other layer c is joins =
      let j = subst (Joins cut other) is joins in
      sym j.by ∙ sym (one_alone layer other j.to)

  cut_from : (cut other : ℕ) (c connect : Connect) → Contains tech.connects connect → GivesConnection tech.devices connect c → Joins cut other c → (cut ≡ other) ⊎ (IsCutTo tech.connects cut other × (IsActive tech.devices cut → ⊥))
  cut_from cut other c connect listed (inl g) joins = let one = giver GivesAlone connect.to c g.1 in inl (alone_joins cut other one.0 c one.2 joins)
  cut_from cut other c connect listed (inr g) joins =
      let j = subst (Joins cut other) g.1 joins in
      inr (some_has (Joins cut other) tech.connects connect listed j, λ active. g.0 (subst (IsActive tech.devices) (sym j.by) active))

  cut_only : (cut other : ℕ) → IsCutTo list cut other → (cut ≡ other) ⊎ (IsCutTo tech.connects cut other × (IsActive tech.devices cut → ⊥))
  cut_only cut other h =
      let w = who_has (Joins cut other) list h in
      elim ((given w.0).0 w.1) [
        | inl g ↦ let one = giver (GivesConnection tech.devices) tech.connects w.0 g in cut_from cut other w.0 one.0 one.1 one.2 w.2
        | inr g ↦ let one = giver GivesDevice tech.devices w.0 g in inl (alone_joins cut other one.0.active w.0 one.2 w.2)
      ]

  pub given_are : AreCutConnections tech list
  given_are = record { conductor = λ layer. (conductor_from layer, conductor_to layer); kept = cut_kept; only = cut_only }

-- a list that grew from none by two sets
pub grown_given : (tech : Tech) (none some all : List Connect) → none ≡ [] → Adds none some (SomeGives (GivesConnection tech.devices) tech.connects) → Adds some all (SomeGives GivesDevice tech.devices) → AreGiven tech all
grown_given tech none some all e first second = grown none all (IsGiven tech) e (adds_both none some all (SomeGives (GivesConnection tech.devices) tech.connects) (SomeGives GivesDevice tech.devices) first second)
