-- Whether two shapes are on one net can be told.
use Rattle.std.proofs.Common.{◌≡◌, ◌⊎◌, inl, inr, ℕ, ℤ, ◌<ℤ◌, List, [], ◌∷◌, Contains, refl, sym, ap, subst, arith}
use Rattle.std.specs.Int.{int_max}
use Rattle.std.proofs.lemmas.Bool.{cases_eq}
use Rattle.std.proofs.lemmas.Int.{by_lt_z, ints, clamps}
use Rattle.or_geom.specs.declared.shape.Point.{Point}
use Rattle.or_geom.specs.declared.shape.Rect.{Rect}
use Rattle.or_geom.specs.declared.shape.Shape.{Shape}
use Rattle.or_geom.specs.Joined.{IsIn, AreJoined}
use Rattle.or_geom.proofs.ListLaws.{contains_none, contains_cases, contains_first, contains_later}
use Rattle.tech_rules.specs.declared.tech.Connect.{Connect}
use Rattle.tech_rules.specs.Linked.{LeadsBy}
use Rattle.tech_rules.specs.Touch.{IsConductor, Joins, IsCutTo, ShareArea, TouchOnLayer, TouchByCut, Touch}
use Rattle.tech_rules.specs.Net.{AreOnOneNet}
use Rattle.tech_rules.proofs.LinkedLaws.{linked_next, linked_on}
use Rattle.good_nets.proofs.NetLaws.{overlap_shares, shares_overlap}
use Rattle.told_nets.proofs.PointLaws.{meet, opposite_apart}

-- a statement that holds or doesn't
abbrev pub Told : Type 0 → Type 0
Told P = P ⊎ (P → ⊥)

both : {P Q : Type 0} → Told P → Told Q → Told (P × Q)
both (inl p) (inl q) = inl (p, q)
both (inl p) (inr not) = inr (λ h. not h.1)
both (inr not) q = inr (λ h. not h.0)

either : {P Q : Type 0} → Told P → Told Q → Told (P ⊎ Q)
either (inl p) q = inl (inl p)
either (inr not) (inl q) = inl (inr q)
either (inr not) (inr none) = inr (λ h. elim h [ inl p ↦ not p | inr q ↦ none q ])

as_told : {P Q : Type 0} → (P → Q) → (Q → P) → Told P → Told Q
as_told to from (inl p) = inl (to p)
as_told to from (inr not) = inr (λ q. not (from q))

told_below : (a b : ℤ) → Told (a <ℤ b)
told_below a b = by_lt_z a b (λ lt. inl lt) (λ ge. inr (λ lt. omega (arith, ints, lt, ge)))

-- Whether two shapes touch

told_listed : (xs : List ℕ) (x : ℕ) → Told (Contains xs x)
told_listed [] x = inr (λ h. contains_none x h)
told_listed (y ∷ ys) x = elim (cases_eq x y) [
  | inl same ↦ inl (subst (λ (z : ℕ). Contains (y ∷ ys) z) (sym same) (contains_first y ys))
  | inr other ↦ as_told (λ later. contains_later y ys x later) (λ h. elim (contains_cases y ys x h) [ inl same ↦ absurd (other same) | inr later ↦ later ]) (told_listed ys x)
]

-- whether a layer is a conductor
pub told_conductor : (connections : List Connect) (layer : ℕ) → Told (IsConductor connections layer)
told_conductor [] layer = inr (λ h. h)
told_conductor (c ∷ cs) layer = either (told_listed c.to layer) (told_conductor cs layer)

told_cut : (connections : List Connect) (cut other : ℕ) → Told (IsCutTo connections cut other)
told_cut [] cut other = inr (λ h. h)
told_cut (c ∷ cs) cut other = either (as_told (λ h. record { by = h.0; to = h.1 }) (λ (h : Joins cut other c). (h.by, h.to)) (both (cases_eq c.cut cut) (told_listed c.to other))) (told_cut cs cut other)

-- Boxes that meet hold one point, at which they are joined or opposite.
told_joined : (a b : Rect) → Told (AreJoined a b)
told_joined a b =
    by_lt_z b.x2 a.x1 (λ lt. inr (λ j. let l = j.p_in_a.left in let r = j.p_in_b.right in omega (arith, ints, lt, l, r)))
    (λ east. by_lt_z a.x2 b.x1 (λ lt. inr (λ j. let l = j.p_in_b.left in let r = j.p_in_a.right in omega (arith, ints, lt, l, r)))
    (λ west. by_lt_z b.y2 a.y1 (λ lt. inr (λ j. let l = j.p_in_a.low in let r = j.p_in_b.high in omega (arith, ints, lt, l, r)))
    (λ north. by_lt_z a.y2 b.y1 (λ lt. inr (λ j. let l = j.p_in_b.low in let r = j.p_in_a.high in omega (arith, ints, lt, l, r)))
    (λ south.
    let p : Point = record { x = int_max a.x1 b.x1; y = int_max a.y1 b.y1 } in
    let wide_a : a.x1 <ℤ a.x2 = a.wide in
    let wide_b : b.x1 <ℤ b.x2 = b.wide in
    let tall_a : a.y1 <ℤ a.y2 = a.tall in
    let tall_b : b.y1 <ℤ b.y2 = b.tall in
    elim (meet a b p (record { left = omega (arith, ints, clamps); right = omega (arith, ints, clamps); low = omega (arith, ints, clamps); high = omega (arith, ints, clamps) })
    (record { left = omega (arith, ints, clamps); right = omega (arith, ints, clamps); low = omega (arith, ints, clamps); high = omega (arith, ints, clamps) })) [
      | inl joined ↦ inl joined
      | inr (inl o) ↦ inr (λ j. opposite_apart a b p o j)
      | inr (inr o) ↦ inr (λ j. opposite_apart b a p o (record { p = j.p; q = j.q; differ = j.differ; p_in_a = j.p_in_b; p_in_b = j.p_in_a; q_in_a = j.q_in_b; q_in_b = j.q_in_a }))
    ]))))

told_area : (a b : Rect) → Told (ShareArea a b)
told_area a b =
    as_told (λ h. overlap_shares a b (record { left = h.0; right = h.1.0; low = h.1.1.0; high = h.1.1.1 })) (λ s. let o = shares_overlap a b s in (o.left, (o.right, (o.low, o.high))))
    (both (told_below a.x1 b.x2) (both (told_below b.x1 a.x2) (both (told_below a.y1 b.y2) (told_below b.y1 a.y2))))

told_on_layer : (connections : List Connect) (a b : Shape) → Told (TouchOnLayer connections a b)
told_on_layer connections a b =
    as_told (λ h. record { one_layer = h.0; conductor = h.1.0; joined = h.1.1 }) (λ (h : TouchOnLayer connections a b). (h.one_layer, (h.conductor, h.joined)))
    (both (cases_eq a.layer b.layer) (both (told_conductor connections a.layer) (told_joined a.rect b.rect)))

told_by_cut : (connections : List Connect) (a b : Shape) → Told (TouchByCut connections a b)
told_by_cut connections a b = as_told (λ h. record { connects = h.0; area = h.1 }) (λ (h : TouchByCut connections a b). (h.connects, h.area)) (both (told_cut connections a.layer b.layer) (told_area a.rect b.rect))

told_touch : (connections : List Connect) (a b : Shape) → Told (Touch connections a b)
told_touch connections a b = either (told_on_layer connections a b) (either (told_by_cut connections a b) (told_by_cut connections b a))

-- Whether a list leads from one shape to another, by way of these alone

module _ (connections : List Connect) where
  abbrev Reaches : List Shape → Shape → Shape → Type 0
  Reaches [] a b = Touch connections a b
  Reaches (v ∷ vs) a b = Reaches vs a b ⊎ (Reaches vs a v × Reaches vs v b)

  told_reaches : (vs : List Shape) (a b : Shape) → Told (Reaches vs a b)
  told_reaches [] a b = told_touch connections a b
  told_reaches (v ∷ vs) a b = either (told_reaches vs a b) (both (told_reaches vs a v) (told_reaches vs v b))

  -- what touches is reached
  at_once : (vs : List Shape) (a b : Shape) → Touch connections a b → Reaches vs a b
  at_once [] a b touch = touch
  at_once (v ∷ vs) a b touch = inl (at_once vs a b touch)

  ends : (vs : List Shape) (a v : Shape) → Reaches (v ∷ vs) a v → Reaches vs a v
  ends vs a v (inl h) = h
  ends vs a v (inr h) = h.0

  begins : (vs : List Shape) (v b : Shape) → Reaches (v ∷ vs) v b → Reaches vs v b
  begins vs v b (inl h) = h
  begins vs v b (inr h) = h.1

  -- one way after another, by a shape of the list
  by_way : (vs : List Shape) (a c b : Shape) → Contains vs c → Reaches vs a c → Reaches vs c b → Reaches vs a b
  by_way [] a c b among one two = absurd (contains_none c among)
  by_way (v ∷ vs) a c b among one two = elim (contains_cases v vs c among) [
    | inl same ↦ inr (ends vs a v (subst (Reaches (v ∷ vs) a) same one), begins vs v b (subst (λ (x : Shape). Reaches (v ∷ vs) x b) same two))
    | inr later ↦ elim one [
      | inl x ↦ elim two [ inl y ↦ inl (by_way vs a c b later x y) | inr y ↦ inr (by_way vs a c v later x y.0, y.1) ]
      | inr x ↦ elim two [ inl y ↦ inr (x.0, by_way vs v c b later x.1 y) | inr y ↦ inr (x.0, y.1) ]
    ]
  ]

  -- a list of shapes that leads there
  leads : (shapes vs : List Shape) (a b : Shape) → ((v : Shape) → Contains vs v → Contains shapes v) → Contains shapes b → Reaches vs a b → AreOnOneNet connections shapes a b
  leads shapes [] a b among listed touch = linked_next (Contains shapes) (Touch connections) a b listed touch
  leads shapes (v ∷ vs) a b among listed (inl h) = leads shapes vs a b (λ w later. among w (contains_later v vs w later)) listed h
  leads shapes (v ∷ vs) a b among listed (inr h) =
      let below = λ (w : Shape) (later : Contains vs w). among w (contains_later v vs w later) in
      linked_on (Contains shapes) (Touch connections) a v b (leads shapes vs a v below (among v (contains_first v vs)) h.0) (leads shapes vs v b below listed h.1)

  -- and each list is found
  found : (shapes : List Shape) (a b : Shape) (path : List Shape) → LeadsBy (Contains shapes) (Touch connections) a path b → (a ≡ b) ⊎ Reaches shapes a b
  found shapes a b [] same = inl same
  found shapes a b (next ∷ rest) way = elim (found shapes next b rest way.2) [
    | inl same ↦ inr (at_once shapes a b (subst (Touch connections a) same way.1))
    | inr more ↦ inr (by_way shapes a next b way.0 (at_once shapes a next way.1) more)
  ]

  -- a shape on a conductor touches itself
  touches_itself : (a : Shape) → IsConductor connections a.layer → Touch connections a a
  touches_itself a conductor =
      let r = a.rect in
      let wide : r.x1 <ℤ r.x2 = r.wide in
      let tall : r.y1 <ℤ r.y2 = r.tall in
      let p : Point = record { x = r.x1; y = r.y1 } in
      let q : Point = record { x = r.x2; y = r.y2 } in
      let p_in : IsIn r p = record { left = omega (arith, ints); right = omega (arith, ints, wide); low = omega (arith, ints); high = omega (arith, ints, tall) } in
      let q_in : IsIn r q = record { left = omega (arith, ints, wide); right = omega (arith, ints); low = omega (arith, ints, tall); high = omega (arith, ints) } in
      inl (record { one_layer = refl; conductor = conductor; joined = record { p = p; q = q; differ = λ e. let same : r.x1 ≡ r.x2 = ap (λ (z : Point). z.x) e in omega (arith, ints, wide, same); p_in_a = p_in; p_in_b = p_in; q_in_a = q_in; q_in_b = q_in } })

  -- It can be told whether two shapes are on one net, of which the second is on a conductor.
  pub told_net : (shapes : List Shape) (a b : Shape) → Contains shapes b → IsConductor connections b.layer → AreOnOneNet connections shapes a b ⊎ (AreOnOneNet connections shapes a b → ⊥)
  told_net shapes a b listed conductor =
      as_told (λ h. leads shapes shapes a b (λ v there. there) listed h)
      (λ (net : AreOnOneNet connections shapes a b). elim (found shapes a b net.path net.leads) [ inl same ↦ at_once shapes a b (subst (λ (x : Shape). Touch connections x b) (sym same) (touches_itself b conductor)) | inr h ↦ h ])
      (told_reaches shapes a b)
