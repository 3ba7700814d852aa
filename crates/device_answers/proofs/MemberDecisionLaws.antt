-- What nets are made of is listed, whether two members are on one net is decided, and nets have numbers.
use Rattle.std.proofs.Common.{◌≡◌, ◌⊎◌, inl, inr, ℕ, List, [], ◌∷◌, refl, sym, ap, subst}
use Rattle.std.specs.Prelude.{Contains}
use Rattle.std.proofs.lemmas.Bool.{cases_eq}
use Rattle.or_geom.specs.declared.shape.Point.{Point}
use Rattle.or_geom.specs.declared.shape.Shape.{Shape}
use Rattle.shape_bins.proofs.CoverLaws.{shape_over}
use Rattle.tech_rules.specs.declared.tech.Connect.{Connect}
use Rattle.tech_rules.specs.declared.tech.Tech.{Tech}
use Rattle.tech_rules.specs.Touch.{IsCutTo, Joins, Touch}
use Rattle.tech_rules.proofs.LinkedLaws.{linked_back, linked_itself, linked_on}
use Rattle.net_extractor.proofs.ExtractLaws.{touch_turned}
use Rattle.told_nets.proofs.TellLaws.{told_conductor}
use Rattle.drawn_devices.specs.Cells.{ShareSide}
use Rattle.drawn_devices.specs.Diffusion.{IsActive, IsDiffusion}
use Rattle.drawn_devices.specs.Drawn.{AreNetNumbers}
use Rattle.drawn_devices.specs.Nets.{Member, Drawn, Diffused, IsMember, IsUnderCut, MembersTouch, AreOnDrawnNet}
use Rattle.drawn_devices.proofs.CellLaws.{Has, side_back}
use Rattle.drawn_devices.proofs.LayerLaws.{decide_active}
use Rattle.flat_answers.proofs.DecisionLaws.{Decided, decide_as, decide_both, decide_either, decide_not}
use Rattle.flat_answers.proofs.ListedLaws.{Listed, listed_as, listed_either, listed_one, listed_over, listed_where}
use Rattle.flat_answers.proofs.OrderLaws.{decide_shape}
use Rattle.net_answers.proofs.ToldLaws.{decide_touch, touch_conducts}
use Rattle.device_answers.proofs.CellListLaws.{decide_diffusion, decide_has, decide_point, decide_side, listed_box, listed_items}
use Rattle.device_answers.proofs.LinkDecisionLaws.{decide_contained, decide_linked, decide_listed, numbers}

-- whether two shapes touch
decide_touching : (connections : List Connect) (a b : Shape) → Decided (Touch connections a b)
decide_touching connections a b = elim (told_conductor connections b.layer) [
  | inl conductor ↦ decide_touch connections a b conductor
  | inr plain ↦ elim (told_conductor connections a.layer) [
    | inl conductor ↦ decide_as (Touch connections b a) (Touch connections a b) (touch_turned connections b a) (touch_turned connections a b) (decide_touch connections b a conductor)
    | inr other ↦ inr (λ touch. elim (touch_conducts connections a b touch) [ inl c ↦ other c | inr c ↦ plain c ])
  ]
]

decide_cut : (connections : List Connect) (cut other : ℕ) → Decided (IsCutTo connections cut other)
decide_cut [] cut other = inr (λ h. h)
decide_cut (c ∷ cs) cut other = decide_either (Joins cut other c) (IsCutTo cs cut other)
    (decide_as ((c.cut ≡ cut) × Contains c.to other) (Joins cut other c) (λ h. record { by = h.0; to = h.1 }) (λ j. (j.by, j.to))
    (decide_both (c.cut ≡ cut) (Contains c.to other) (cases_eq c.cut cut) (decide_contained cases_eq c.to other)))
    (decide_cut cs cut other)

decide_member : (a b : Member) → Decided (a ≡ b)
decide_member (Drawn s) (Drawn t) = decide_as (s ≡ t) (Drawn s ≡ Drawn t) (λ e. ap (λ (z : Shape). Drawn z) e) (λ e. cc) (decide_shape s t)
decide_member (Drawn s) (Diffused m q) = inr (λ e. absurd cc)
decide_member (Diffused l p) (Drawn t) = inr (λ e. absurd cc)
decide_member (Diffused l p) (Diffused m q) = decide_as ((l ≡ m) × (p ≡ q)) (Diffused l p ≡ Diffused m q) (λ h i. Diffused (h.0 i) (h.1 i)) (λ e. (cc, cc))
    (decide_both (l ≡ m) (p ≡ q) (cases_eq l m) (decide_point p q))

-- whichever of two members stands first
touch_back : (tech : Tech) (a b : Member) → MembersTouch tech a b → MembersTouch tech b a
touch_back tech (Drawn a) (Drawn b) t = touch_turned tech.connects a b t
touch_back tech (Drawn a) (Diffused m q) t = t
touch_back tech (Diffused l p) (Drawn b) t = t
touch_back tech (Diffused l p) (Diffused m q) t = (sym t.0, side_back p q t.1)

module _ (tech : Tech) (shapes : List Shape) where
  decide_under : (cut : Shape) (layer : ℕ) (p : Point) → Decided (IsUnderCut tech cut layer p)
  decide_under cut layer p = decide_as (IsCutTo tech.connects cut.layer layer × Has cut.rect p) (IsUnderCut tech cut layer p) (λ h. record { connects = h.0; inside = h.1 }) (λ u. (u.connects, u.inside))
      (decide_both (IsCutTo tech.connects cut.layer layer) (Has cut.rect p) (decide_cut tech.connects cut.layer layer) (decide_has cut.rect p))

  decide_members_touch : (a b : Member) → Decided (MembersTouch tech a b)
  decide_members_touch (Drawn a) (Drawn b) = decide_touching tech.connects a b
  decide_members_touch (Drawn a) (Diffused m q) = decide_under a m q
  decide_members_touch (Diffused l p) (Drawn b) = decide_under b l p
  decide_members_touch (Diffused l p) (Diffused m q) = decide_both (l ≡ m) (ShareSide p q) (cases_eq l m) (decide_side p q)

  -- a shape that stays as it is drawn, and a cell of a shape that is diffusion
  abbrev IsOfDrawn : Member → Type 0
  IsOfDrawn m = (s : Shape) × (Contains shapes s × (IsActive tech.devices s.layer → ⊥)) × (m ≡ Drawn s)

  abbrev IsOfDiffusion : Member → Type 0
  IsOfDiffusion m = (s : Shape) × Contains shapes s × ((p : Point) × (Has s.rect p × IsDiffusion tech.devices shapes s.layer p) × (m ≡ Diffused s.layer p))

  member_is : (m : Member) → IsOfDrawn m ⊎ IsOfDiffusion m → IsMember tech shapes m
  member_is m (inl h) = subst (IsMember tech shapes) (sym h.2) h.1
  member_is m (inr h) = subst (IsMember tech shapes) (sym h.2.2) h.2.1.1

  member_of : (m : Member) → IsMember tech shapes m → IsOfDrawn m ⊎ IsOfDiffusion m
  member_of (Drawn s) h = inl (s, h, refl)
  member_of (Diffused layer p) h =
      let over = shape_over layer shapes p.x p.y h.drawn in
      inr (over.shape, over.there, (p, (over.holds, subst (λ (l : ℕ). IsDiffusion tech.devices shapes l p) (sym over.on) h), ap (λ (l : ℕ). Diffused l p) (sym over.on)))

  listed_members : Listed (IsMember tech shapes)
  listed_members = listed_as (λ (m : Member). IsOfDrawn m ⊎ IsOfDiffusion m) (IsMember tech shapes) member_is member_of
      (listed_either IsOfDrawn IsOfDiffusion
      (listed_over (λ (s : Shape). Contains shapes s × (IsActive tech.devices s.layer → ⊥)) (λ (s : Shape) (m : Member). m ≡ Drawn s)
      (listed_where (Contains shapes) (λ (s : Shape). IsActive tech.devices s.layer → ⊥) (listed_items shapes) (λ s. decide_not (IsActive tech.devices s.layer) (decide_active tech.devices s.layer)))
      (λ s. listed_one (Drawn s)))
      (listed_over (Contains shapes) (λ (s : Shape) (m : Member). (p : Point) × (Has s.rect p × IsDiffusion tech.devices shapes s.layer p) × (m ≡ Diffused s.layer p)) (listed_items shapes)
      (λ s. listed_over (λ (p : Point). Has s.rect p × IsDiffusion tech.devices shapes s.layer p) (λ (p : Point) (m : Member). m ≡ Diffused s.layer p)
      (listed_where (Has s.rect) (IsDiffusion tech.devices shapes s.layer) (listed_box s.rect) (decide_diffusion shapes tech.devices s.layer)) (λ p. listed_one (Diffused s.layer p)))))

  pub decide_net : (a b : Member) → Decided (AreOnDrawnNet tech shapes a b)
  decide_net a b = decide_linked (IsMember tech shapes) (MembersTouch tech) decide_member decide_members_touch listed_members a b

  -- numbers of nets
  pub net_numbers : (number : Member → ℕ) × AreNetNumbers tech shapes number
  net_numbers = numbers (IsMember tech shapes) (AreOnDrawnNet tech shapes) listed_members (decide_listed (IsMember tech shapes) decide_member listed_members) decide_net
      (linked_itself (IsMember tech shapes) (MembersTouch tech)) (linked_back (IsMember tech shapes) (MembersTouch tech) (touch_back tech)) (linked_on (IsMember tech shapes) (MembersTouch tech))
