-- Members are linked exactly where the cut shapes are linked in which they stand.
use Rattle.std.proofs.Common.{◌≡◌, ◌⊎◌, inl, inr, ◌↔◌, ℕ, List, refl, sym, ap, subst, ◌∙◌}
use Rattle.std.specs.Prelude.{Contains}
use Rattle.or_geom.specs.declared.shape.Point.{Point}
use Rattle.or_geom.specs.declared.shape.Shape.{Shape}
use Rattle.or_geom.specs.Joined.{AreJoined}
use Rattle.or_geom.proofs.GatheringLaws.{some_has, who_has}
use Rattle.shape_bins.proofs.CoverLaws.{shape_over}
use Rattle.tech_rules.specs.declared.tech.Connect.{Connect}
use Rattle.tech_rules.specs.declared.tech.Tech.{Tech}
use Rattle.tech_rules.specs.Linked.{AreLinked}
use Rattle.tech_rules.specs.Net.{AreOnOneNet}
use Rattle.tech_rules.specs.Touch.{IsConductor, IsCutTo, Joins, ShareArea, TouchOnLayer, TouchByCut, Touch}
use Rattle.tech_rules.proofs.LinkedLaws.{AreRefined, linked_itself, linked_next, linked_map, finer_linked, coarser_linked}
use Rattle.drawn_devices.specs.Cells.{ShareSide}
use Rattle.drawn_devices.specs.CutShapes.{AreCutShapes, StandsIn, AreCutConnections}
use Rattle.drawn_devices.specs.Diffusion.{IsActive, IsDiffusion}
use Rattle.drawn_devices.specs.Nets.{Member, Drawn, Diffused, IsMember, IsUnderCut, MembersTouch, AreOnDrawnNet}
use Rattle.drawn_devices.proofs.CellLaws.{Has, side_back, box_linked, joined_meeting, meeting_joined}
use Rattle.drawn_devices.proofs.LayerLaws.{lies_by, decide_active}

module _ (tech : Tech) (shapes cut : List Shape) (connections : List Connect) (are : AreCutShapes tech.devices shapes cut) (by : AreCutConnections tech connections) where
  -- members and cut shapes that touch, and those that are linked
  abbrev Linked : Member → Member → Type 0
  Linked a b = AreLinked (IsMember tech shapes) (MembersTouch tech) a b

  abbrev Joint : Shape → Shape → Type 0
  Joint s t = AreLinked (Contains cut) (Touch connections) s t

  joint_by : (s t : Shape) → Contains cut t → Touch connections s t → Joint s t
  joint_by s t listed touch = linked_next (Contains cut) (Touch connections) s t listed touch

  -- joined shapes on one active layer touch
  joined_touch : (s t : Shape) → s.layer ≡ t.layer → IsActive tech.devices s.layer → AreJoined s.rect t.rect → Touch connections s t
  joined_touch s t one active joined = inl (record { one_layer = one; conductor = (by.conductor s.layer).1 (inr active); joined = joined })

  -- each member stands in a cut shape
  pub some_stand : (x : Member) → IsMember tech shapes x → (s : Shape) × Contains cut s × StandsIn x s
  some_stand (Drawn a) m = (a, (are.drawn a m.1).1 m.0, refl)
  some_stand (Diffused layer cell) m =
      let over = shape_over layer cut cell.x cell.y ((are.diffused layer cell m.active).1 m) in
      (over.shape, over.there, (sym over.on, over.holds))

  -- shapes that have meeting cells of one layer's diffusion
  diffused_meet : (l : ℕ) (a b : Point) (s t : Shape) → IsActive tech.devices l → Contains cut t → StandsIn (Diffused l a) s → StandsIn (Diffused l b) t → (a ≡ b) ⊎ ShareSide a b → Joint s t
  diffused_meet l a b s t active listed in_s in_t meet =
      joint_by s t listed (joined_touch s t (sym in_s.0 ∙ in_t.0) (subst (IsActive tech.devices) in_s.0 active) (meeting_joined s.rect t.rect a b in_s.1 in_t.1 meet))

  same_meet : (x : Member) (s t : Shape) → IsMember tech shapes x → Contains cut t → StandsIn x s → StandsIn x t → Joint s t
  same_meet (Drawn a) s t m listed in_s in_t = subst (Joint s) (sym in_s ∙ in_t) (linked_itself (Contains cut) (Touch connections) s)
  same_meet (Diffused l cell) s t m listed in_s in_t = diffused_meet l cell cell s t m.active listed in_s in_t (inl refl)

  -- a cut over diffusion
  cut_over : (a s t : Shape) (l : ℕ) (cell : Point) → (IsActive tech.devices a.layer → ⊥) → IsUnderCut tech a l cell → a ≡ s → StandsIn (Diffused l cell) t → TouchByCut connections s t
  cut_over a s t l cell off under same in_t = subst (λ (u : Shape). TouchByCut connections u t) same (record {
    connects = subst (IsCutTo connections a.layer) in_t.0 (by.kept a.layer l off under.connects);
    area = record { x = cell.x; y = cell.y; in_a = under.inside; in_b = in_t.1 };
  })

  on_layer : (a b : Shape) → TouchOnLayer tech.connects a b → TouchOnLayer connections a b
  on_layer a b t = record { one_layer = t.one_layer; conductor = (by.conductor a.layer).1 (inl t.conductor); joined = t.joined }

  by_cut : (a b : Shape) → (IsActive tech.devices a.layer → ⊥) → TouchByCut tech.connects a b → TouchByCut connections a b
  by_cut a b off t = record { connects = by.kept a.layer b.layer off t.connects; area = t.area }

  drawn_touch : (a b : Shape) → (IsActive tech.devices a.layer → ⊥) → (IsActive tech.devices b.layer → ⊥) → Touch tech.connects a b → Touch connections a b
  drawn_touch a b off_a off_b (inl t) = inl (on_layer a b t)
  drawn_touch a b off_a off_b (inr (inl t)) = inr (inl (by_cut a b off_a t))
  drawn_touch a b off_a off_b (inr (inr t)) = inr (inr (by_cut b a off_b t))

  touch_meet : (x z : Member) (s t : Shape) → IsMember tech shapes x → IsMember tech shapes z → Contains cut t → StandsIn x s → StandsIn z t → MembersTouch tech x z → Joint s t
  touch_meet (Drawn a) (Drawn b) s t m n listed in_s in_t touch =
      let here : Touch connections s b = subst (λ (u : Shape). Touch connections u b) in_s (drawn_touch a b m.1 n.1 touch) in
      joint_by s t listed (subst (Touch connections s) in_t here)
  touch_meet (Drawn a) (Diffused l cell) s t m n listed in_s in_t touch = joint_by s t listed (inr (inl (cut_over a s t l cell m.1 touch in_s in_t)))
  touch_meet (Diffused l cell) (Drawn b) s t m n listed in_s in_t touch = joint_by s t listed (inr (inr (cut_over b t s l cell n.1 touch in_t in_s)))
  touch_meet (Diffused l a) (Diffused k b) s t m n listed in_s in_t touch = diffused_meet l a b s t m.active listed in_s (touch.0 ∙ in_t.0, in_t.1) (inr touch.1)

  stand_meet : (x z : Member) (s t : Shape) → IsMember tech shapes x → IsMember tech shapes z → Contains cut t → StandsIn x s → StandsIn z t → (x ≡ z) ⊎ MembersTouch tech x z → Joint s t
  stand_meet x z s t m n listed in_s in_t (inl same) = same_meet x s t m listed in_s (subst (λ (v : Member). StandsIn v t) (sym same) in_t)
  stand_meet x z s t m n listed in_s in_t (inr touch) = touch_meet x z s t m n listed in_s in_t touch

  -- members that stand in the two shapes, one or touching
  record StandMeeting (s t : Shape) : Type 0 where
    x : Member
    z : Member
    of_x : IsMember tech shapes x
    of_z : IsMember tech shapes z
    in_s : StandsIn x s
    in_t : StandsIn z t
    meet : (x ≡ z) ⊎ MembersTouch tech x z

  -- each cell of a cut shape on an active layer is diffusion
  cell_member : (s : Shape) (cell : Point) → Contains cut s → IsActive tech.devices s.layer → Has s.rect cell → IsDiffusion tech.devices shapes s.layer cell
  cell_member s cell listed active has = (are.diffused s.layer cell active).0 (lies_by cut s.layer cell s listed refl has)

  shape_member : (s : Shape) → Contains cut s → (IsActive tech.devices s.layer → ⊥) → IsMember tech shapes (Drawn s)
  shape_member s listed off = ((are.drawn s off).0 listed, off)

  -- boxes of diffusion that are joined on one layer
  diffused_split : (s t : Shape) → Contains cut s → Contains cut t → IsActive tech.devices s.layer → s.layer ≡ t.layer → AreJoined s.rect t.rect → StandMeeting s t
  diffused_split s t in_cut other active one joined =
      let m = joined_meeting s.rect t.rect joined in
      record {
        x = Diffused s.layer m.a;
        z = Diffused s.layer m.b;
        of_x = cell_member s m.a in_cut active m.in_r;
        of_z = subst (λ (l : ℕ). IsDiffusion tech.devices shapes l m.b) (sym one) (cell_member t m.b other (subst (IsActive tech.devices) one active) m.in_s);
        in_s = (refl, m.in_r);
        in_t = (one, m.in_s);
        meet = elim m.meet [ inl same ↦ inl (ap (Diffused s.layer) same) | inr side ↦ inr (refl, side) ];
      }

  area_joined : (s t : Shape) → ShareArea s.rect t.rect → AreJoined s.rect t.rect
  area_joined s t area = let cell : Point = record { x = area.x; y = area.y } in meeting_joined s.rect t.rect cell cell area.in_a area.in_b (inl refl)

  -- what is connected by a cut of its own layer is a conductor's
  self_conductor : (layer other : ℕ) → IsCutTo connections layer other → IsConductor connections other
  self_conductor layer other c = let w = who_has (Joins layer other) connections c in some_has (λ (connect : Connect). Contains connect.to other) connections w.0 w.1 w.2.to

  drawn_conductor : (layer : ℕ) → (IsActive tech.devices layer → ⊥) → IsConductor connections layer → IsConductor tech.connects layer
  drawn_conductor layer off c = elim ((by.conductor layer).0 c) [ inl old ↦ old | inr active ↦ absurd (off active) ]

  -- shapes as they are drawn
  drawn_cut : (s t : Shape) → (IsActive tech.devices t.layer → ⊥) → TouchByCut connections s t → TouchOnLayer tech.connects s t ⊎ TouchByCut tech.connects s t
  drawn_cut s t off touch = elim (by.only s.layer t.layer touch.connects) [
    | inl same ↦
        let conductor = drawn_conductor t.layer off (self_conductor s.layer t.layer touch.connects) in
        inl (record { one_layer = same; conductor = subst (IsConductor tech.connects) (sym same) conductor; joined = area_joined s t touch.area })
    | inr cut_to ↦ inr (record { connects = cut_to.0; area = touch.area })
  ]

  turned_layer : (s t : Shape) → TouchOnLayer tech.connects s t → TouchOnLayer tech.connects t s
  turned_layer s t h =
      let j = h.joined in
      record {
        one_layer = sym h.one_layer;
        conductor = subst (IsConductor tech.connects) h.one_layer h.conductor;
        joined = record { p = j.p; q = j.q; differ = j.differ; p_in_a = j.p_in_b; p_in_b = j.p_in_a; q_in_a = j.q_in_b; q_in_b = j.q_in_a };
      }

  drawn_only : (s t : Shape) → (IsActive tech.devices s.layer → ⊥) → (IsActive tech.devices t.layer → ⊥) → Touch connections s t → Touch tech.connects s t
  drawn_only s t off_s off_t (inl h) = inl (record { one_layer = h.one_layer; conductor = drawn_conductor s.layer off_s h.conductor; joined = h.joined })
  drawn_only s t off_s off_t (inr (inl h)) = elim (drawn_cut s t off_t h) [ inl one ↦ inl one | inr c ↦ inr (inl c) ]
  drawn_only s t off_s off_t (inr (inr h)) = elim (drawn_cut t s off_s h) [ inl one ↦ inl (turned_layer t s one) | inr c ↦ inr (inr c) ]

  -- a drawn shape and a box of diffusion
  cut_split : (s t : Shape) → Contains cut s → Contains cut t → (IsActive tech.devices s.layer → ⊥) → IsActive tech.devices t.layer → TouchByCut connections s t → StandMeeting s t
  cut_split s t listed other off active touch = elim (by.only s.layer t.layer touch.connects) [
    | inl same ↦ absurd (off (subst (IsActive tech.devices) (sym same) active))
    | inr cut_to ↦
        let cell : Point = record { x = touch.area.x; y = touch.area.y } in
        record {
          x = Drawn s;
          z = Diffused t.layer cell;
          of_x = shape_member s listed off;
          of_z = cell_member t cell other active touch.area.in_b;
          in_s = refl;
          in_t = (refl, touch.area.in_b);
          meet = inr (record { connects = cut_to.0; inside = touch.area.in_a });
        }
  ]

  -- a cut on an active layer connects that layer alone
  active_cut : (s t : Shape) → IsActive tech.devices s.layer → TouchByCut connections s t → s.layer ≡ t.layer
  active_cut s t active touch = elim (by.only s.layer t.layer touch.connects) [ inl same ↦ same | inr cut_to ↦ absurd (cut_to.1 active) ]

  mixed_split : (s t : Shape) → Contains cut s → Contains cut t → (IsActive tech.devices s.layer → ⊥) → IsActive tech.devices t.layer → Touch connections s t → StandMeeting s t
  mixed_split s t listed other off active (inl h) = absurd (off (subst (IsActive tech.devices) (sym h.one_layer) active))
  mixed_split s t listed other off active (inr (inl h)) = cut_split s t listed other off active h
  mixed_split s t listed other off active (inr (inr h)) = absurd (off (subst (IsActive tech.devices) (active_cut t s active h) active))

  active_split : (s t : Shape) → Contains cut s → Contains cut t → IsActive tech.devices s.layer → IsActive tech.devices t.layer → Touch connections s t → StandMeeting s t
  active_split s t listed other active active_t (inl h) = diffused_split s t listed other active h.one_layer h.joined
  active_split s t listed other active active_t (inr (inl h)) = diffused_split s t listed other active (active_cut s t active h) (area_joined s t h.area)
  active_split s t listed other active active_t (inr (inr h)) =
      let area : ShareArea s.rect t.rect = record { x = h.area.x; y = h.area.y; in_a = h.area.in_b; in_b = h.area.in_a } in
      diffused_split s t listed other active (sym (active_cut t s active_t h)) (area_joined s t area)

  touch_turned : (s t : Shape) → Touch connections s t → Touch connections t s
  touch_turned s t (inl h) =
      let j = h.joined in
      inl (record {
        one_layer = sym h.one_layer;
        conductor = subst (IsConductor connections) h.one_layer h.conductor;
        joined = record { p = j.p; q = j.q; differ = j.differ; p_in_a = j.p_in_b; p_in_b = j.p_in_a; q_in_a = j.q_in_b; q_in_b = j.q_in_a };
      })
  touch_turned s t (inr (inl h)) = inr (inr h)
  touch_turned s t (inr (inr h)) = inr (inl h)

  members_turned : (x z : Member) → MembersTouch tech x z → MembersTouch tech z x
  members_turned (Drawn a) (Drawn b) (inl h) = inl (turned_layer a b h)
  members_turned (Drawn a) (Drawn b) (inr (inl h)) = inr (inr h)
  members_turned (Drawn a) (Drawn b) (inr (inr h)) = inr (inl h)
  members_turned (Drawn a) (Diffused l c) h = h
  members_turned (Diffused l c) (Drawn b) h = h
  members_turned (Diffused l a) (Diffused k b) h = (sym h.0, side_back a b h.1)

  turned_meeting : (s t : Shape) → StandMeeting t s → StandMeeting s t
  turned_meeting s t m = record { x = m.z; z = m.x; of_x = m.of_z; of_z = m.of_x; in_s = m.in_t; in_t = m.in_s; meet = elim m.meet [ inl same ↦ inl (sym same) | inr touch ↦ inr (members_turned m.x m.z touch) ] }

  split_at : (s t : Shape) → Contains cut s → Contains cut t → Touch connections s t → StandMeeting s t
  split_at s t listed other touch = elim (decide_active tech.devices s.layer) [
    | inl active ↦ elim (decide_active tech.devices t.layer) [
      | inl active_t ↦ active_split s t listed other active active_t touch
      | inr off ↦ turned_meeting s t (mixed_split t s other listed off active (touch_turned s t touch))
    ]
    | inr off ↦ elim (decide_active tech.devices t.layer) [
      | inl active ↦ mixed_split s t listed other off active touch
      | inr off_t ↦ record { x = Drawn s; z = Drawn t; of_x = shape_member s listed off; of_z = shape_member t other off_t; in_s = refl; in_t = refl; meet = inr (drawn_only s t off off_t touch) }
    ]
  ]

  -- members that stand in one cut shape are linked
  whole_linked : (x z : Member) (s : Shape) → IsMember tech shapes x → IsMember tech shapes z → Contains cut s → StandsIn x s → StandsIn z s → Linked x z
  whole_linked (Drawn a) (Drawn b) s m n listed in_a in_b = subst (Linked (Drawn a)) (ap Drawn (in_a ∙ sym in_b)) (linked_itself (IsMember tech shapes) (MembersTouch tech) (Drawn a))
  whole_linked (Drawn a) (Diffused l cell) s m n listed in_a in_s = absurd (m.1 (subst (IsActive tech.devices) (in_s.0 ∙ ap (λ (u : Shape). u.layer) (sym in_a)) n.active))
  whole_linked (Diffused l cell) (Drawn b) s m n listed in_s in_b = absurd (n.1 (subst (IsActive tech.devices) (in_s.0 ∙ ap (λ (u : Shape). u.layer) (sym in_b)) m.active))
  whole_linked (Diffused l a) (Diffused k b) s m n listed in_a in_b =
      let active : IsActive tech.devices s.layer = subst (IsActive tech.devices) in_a.0 m.active in
      let inside = box_linked (IsDiffusion tech.devices shapes s.layer) s.rect (λ p has. cell_member s p listed active has) a b in_a.1 in_b.1 in
      let linked : Linked (Diffused s.layer a) (Diffused s.layer b) =
      linked_map (IsDiffusion tech.devices shapes s.layer) ShareSide (IsMember tech shapes) (MembersTouch tech) (Diffused s.layer) (λ p h. h) (λ p q side. (refl, side)) a b inside in
      subst (λ (layer : ℕ). Linked (Diffused layer a) (Diffused k b)) (sym in_a.0) (subst (λ (layer : ℕ). Linked (Diffused s.layer a) (Diffused layer b)) (sym in_b.0) linked)

  refined : AreRefined (IsMember tech shapes) (MembersTouch tech) (Contains cut) (Touch connections) StandsIn
  refined = record {
    some = some_stand;
    meet = λ x z s t m n listed other in_s in_t meet. stand_meet x z s t m n other in_s in_t meet;
    split = λ s t listed other touch. let m = split_at s t listed other touch in (m.x, m.z, m.of_x, m.of_z, m.in_s, m.in_t, m.meet);
    whole = λ x z s m n listed in_x in_z. whole_linked x z s m n listed in_x in_z;
  }

  -- members are on one net exactly where the cut shapes are in which they stand
  pub nets_alike : (x z : Member) (s t : Shape) → IsMember tech shapes x → IsMember tech shapes z → Contains cut s → Contains cut t → StandsIn x s → StandsIn z t → AreOnDrawnNet tech shapes x z ↔ AreOnOneNet connections cut s t
  nets_alike x z s t m n listed other in_s in_t = (
    λ linked. coarser_linked (IsMember tech shapes) (MembersTouch tech) (Contains cut) (Touch connections) StandsIn refined x z s t m listed other in_s in_t linked,
    λ joint. finer_linked (IsMember tech shapes) (MembersTouch tech) (Contains cut) (Touch connections) StandsIn refined x z s t m n listed in_s in_t joint,
  )
