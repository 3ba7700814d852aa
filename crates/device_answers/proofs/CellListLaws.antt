-- The unit cells of boxes, of layers and of channels are listed, and what is said of them is decided.
use Rattle.std.proofs.Common.{◌≡◌, ◌⊎◌, inl, inr, ℕ, ◌<◌, ℤ, pos, ◌≤ℤ◌, ◌<ℤ◌, ◌+ℤ◌, ◌-ℤ◌, List, [], ◌∷◌, refl, sym, ap, subst, arith}
use Rattle.std.specs.Prelude.{Contains, unsigned_abs}
use Rattle.std.proofs.lemmas.Bool.{cases_eq}
use Rattle.std.proofs.lemmas.Int.{ints, by_lt_z}
use Rattle.or_geom.specs.declared.shape.Point.{Point}
use Rattle.or_geom.specs.declared.shape.Rect.{Rect}
use Rattle.or_geom.specs.declared.shape.Shape.{Shape}
use Rattle.or_geom.specs.Covered.{HasCellInSome}
use Rattle.or_geom.proofs.PlaceLaws.{same_point}
use Rattle.shape_bins.specs.Layers.{rects_on}
use Rattle.shape_bins.proofs.CoverLaws.{shape_over}
use Rattle.tech_rules.specs.declared.tech.Device.{Device}
use Rattle.drawn_devices.specs.Cells.{LiesOn, ShareSide, IsNextAcross, IsNextUpward}
use Rattle.drawn_devices.specs.Channels.{IsChannelCell, ChannelOf}
use Rattle.drawn_devices.specs.Diffusion.{IsActive, IsDiffusion}
use Rattle.drawn_devices.specs.Sides.{IsCellBetween}
use Rattle.drawn_devices.proofs.CellLaws.{Has}
use Rattle.drawn_devices.proofs.LayerLaws.{lies_by, decide_active}
use Rattle.flat_answers.proofs.DecisionLaws.{Decided, decide_as, decide_below, decide_both, decide_either, decide_not}
use Rattle.flat_answers.proofs.ListedLaws.{Listed, decide_all, listed_as, listed_below, listed_none, listed_one, listed_over, listed_where}
use Rattle.device_answers.proofs.LinkDecisionLaws.{decide_linked}

pub decide_int : (a b : ℤ) → Decided (a ≡ b)
decide_int a b = by_lt_z a b (λ lt. inr (λ e. omega (arith, ints, lt, e))) (λ ge. by_lt_z b a (λ lt. inr (λ e. omega (arith, ints, lt, e))) (λ le. inl (omega (arith, ints, ge, le))))

decide_at_most : (a b : ℤ) → Decided (a ≤ℤ b)
decide_at_most a b = by_lt_z b a (λ lt. inr (λ le. omega (arith, ints, lt, le))) (λ le. inl le)

pub decide_point : (p q : Point) → Decided (p ≡ q)
decide_point p q = decide_as ((p.x ≡ q.x) × (p.y ≡ q.y)) (p ≡ q) (λ h. same_point p q h.0 h.1) (λ e. (ap (λ (z : Point). z.x) e, ap (λ (z : Point). z.y) e))
    (decide_both (p.x ≡ q.x) (p.y ≡ q.y) (decide_int p.x q.x) (decide_int p.y q.y))

-- the numbers of a range
pub listed_between : (low high : ℤ) → Listed (IsCellBetween low high)
listed_between low high = by_lt_z low high
    (λ lt. listed_as (λ (z : ℤ). (k : ℕ) × (k < unsigned_abs (high -ℤ low)) × (z ≡ low +ℤ pos k)) (IsCellBetween low high)
    (λ z h. let inside = h.1 in let is = h.2 in record { from = omega (arith, ints, lt, inside, is); below = omega (arith, ints, lt, inside, is) })
    (λ z b. let from = b.from in let below = b.below in (unsigned_abs (z -ℤ low), omega (arith, ints, lt, from, below), omega (arith, ints, lt, from, below)))
    (listed_over (λ (k : ℕ). k < unsigned_abs (high -ℤ low)) (λ (k : ℕ) (z : ℤ). z ≡ low +ℤ pos k) (listed_below (unsigned_abs (high -ℤ low))) (λ k. listed_one (low +ℤ pos k))))
    (λ ge. listed_none (IsCellBetween low high) (λ z b. let from = b.from in let below = b.below in omega (arith, ints, ge, from, below)))

-- the cells of a box
pub listed_box : (r : Rect) → Listed (Has r)
listed_box r = listed_as (λ (p : Point). (x : ℤ) × IsCellBetween r.x1 r.x2 x × ((y : ℤ) × IsCellBetween r.y1 r.y2 y × (p ≡ record { x = x; y = y }))) (Has r)
    (λ p h. subst (Has r) (sym h.2.2) (record { left = h.1.from; right = h.1.below; low = h.2.1.from; high = h.2.1.below }))
    (λ p h. (p.x, record { from = h.left; below = h.right }, (p.y, record { from = h.low; below = h.high }, refl)))
    (listed_over (IsCellBetween r.x1 r.x2) (λ (x : ℤ) (p : Point). (y : ℤ) × IsCellBetween r.y1 r.y2 y × (p ≡ record { x = x; y = y })) (listed_between r.x1 r.x2)
    (λ x. listed_over (IsCellBetween r.y1 r.y2) (λ (y : ℤ) (p : Point). p ≡ record { x = x; y = y }) (listed_between r.y1 r.y2) (λ y. listed_one (record { x = x; y = y }))))

pub decide_has : (r : Rect) (p : Point) → Decided (Has r p)
decide_has r p =
    decide_as (((r.x1 ≤ℤ p.x) × (p.x <ℤ r.x2)) × ((r.y1 ≤ℤ p.y) × (p.y <ℤ r.y2))) (Has r p)
    (λ h. record { left = h.0.0; right = h.0.1; low = h.1.0; high = h.1.1 }) (λ h. ((h.left, h.right), (h.low, h.high)))
    (decide_both _ _ (decide_both _ _ (decide_at_most r.x1 p.x) (decide_below p.x r.x2)) (decide_both _ _ (decide_at_most r.y1 p.y) (decide_below p.y r.y2)))

decide_among : (rects : List Rect) (p : Point) → Decided (HasCellInSome rects p.x p.y)
decide_among [] p = inr (λ none. none)
decide_among (r ∷ rs) p = decide_either (Has r p) (HasCellInSome rs p.x p.y) (decide_has r p) (decide_among rs p)

pub listed_items : {X : Type 0} (xs : List X) → Listed (Contains xs)
listed_items xs = (xs, λ x. (λ h. h, λ h. h))

-- cells that share a side
decide_across : (p q : Point) → Decided (IsNextAcross p q)
decide_across p q = decide_as ((q.x ≡ p.x +ℤ pos 1) × (q.y ≡ p.y)) (IsNextAcross p q) (λ h. record { x = h.0; y = h.1 }) (λ n. (n.x, n.y))
    (decide_both (q.x ≡ p.x +ℤ pos 1) (q.y ≡ p.y) (decide_int q.x (p.x +ℤ pos 1)) (decide_int q.y p.y))

decide_upward : (p q : Point) → Decided (IsNextUpward p q)
decide_upward p q = decide_as ((q.x ≡ p.x) × (q.y ≡ p.y +ℤ pos 1)) (IsNextUpward p q) (λ h. record { x = h.0; y = h.1 }) (λ n. (n.x, n.y))
    (decide_both (q.x ≡ p.x) (q.y ≡ p.y +ℤ pos 1) (decide_int q.x p.x) (decide_int q.y (p.y +ℤ pos 1)))

pub decide_side : (p q : Point) → Decided (ShareSide p q)
decide_side p q = decide_either (IsNextAcross p q ⊎ IsNextAcross q p) (IsNextUpward p q ⊎ IsNextUpward q p)
    (decide_either (IsNextAcross p q) (IsNextAcross q p) (decide_across p q) (decide_across q p))
    (decide_either (IsNextUpward p q) (IsNextUpward q p) (decide_upward p q) (decide_upward q p))

module _ (shapes : List Shape) where
  -- the cells of a layer
  pub listed_lies : (layer : ℕ) → Listed (LiesOn shapes layer)
  listed_lies layer = listed_as (λ (p : Point). (s : Shape) × (Contains shapes s × (s.layer ≡ layer)) × Has s.rect p) (LiesOn shapes layer)
      (λ p h. lies_by shapes layer p h.0 h.1.0 h.1.1 h.2)
      (λ p h. let over = shape_over layer shapes p.x p.y h in (over.shape, (over.there, over.on), over.holds))
      (listed_over (λ (s : Shape). Contains shapes s × (s.layer ≡ layer)) (λ (s : Shape) (p : Point). Has s.rect p)
      (listed_where (Contains shapes) (λ (s : Shape). s.layer ≡ layer) (listed_items shapes) (λ s. cases_eq s.layer layer)) (λ s. listed_box s.rect))

  pub decide_lies : (layer : ℕ) (p : Point) → Decided (LiesOn shapes layer p)
  decide_lies layer p = decide_among (rects_on layer shapes) p

  -- the channel cells of a device, and those of one channel
  pub listed_channel_cells : (device : Device) → Listed (IsChannelCell shapes device)
  listed_channel_cells device = listed_as (λ (p : Point). LiesOn shapes device.gate p × (LiesOn shapes device.active p × LiesOn shapes device.by p)) (IsChannelCell shapes device)
      (λ p h. record { gate = h.0; active = h.1.0; by = h.1.1 }) (λ p c. (c.gate, (c.active, c.by)))
      (listed_where (LiesOn shapes device.gate) (λ (p : Point). LiesOn shapes device.active p × LiesOn shapes device.by p) (listed_lies device.gate)
      (λ p. decide_both (LiesOn shapes device.active p) (LiesOn shapes device.by p) (decide_lies device.active p) (decide_lies device.by p)))

  pub decide_channel : (device : Device) (p q : Point) → Decided (ChannelOf shapes device p q)
  decide_channel device p q = decide_linked (IsChannelCell shapes device) ShareSide decide_point decide_side (listed_channel_cells device) p q

  -- diffusion
  module _ (devices : List Device) where
    decide_clear : (layer : ℕ) (p : Point) → Decided ((device : Device) → Contains devices device → (device.active ≡ layer) × LiesOn shapes device.gate p → ⊥)
    decide_clear layer p = decide_all (Contains devices) (λ (d : Device). (d.active ≡ layer) × LiesOn shapes d.gate p → ⊥) (listed_items devices)
        (λ d. decide_not ((d.active ≡ layer) × LiesOn shapes d.gate p) (decide_both (d.active ≡ layer) (LiesOn shapes d.gate p) (cases_eq d.active layer) (decide_lies d.gate p)))

    pub decide_diffusion : (layer : ℕ) (p : Point) → Decided (IsDiffusion devices shapes layer p)
    decide_diffusion layer p =
        decide_as ((IsActive devices layer × LiesOn shapes layer p) × ((d : Device) → Contains devices d → (d.active ≡ layer) × LiesOn shapes d.gate p → ⊥)) (IsDiffusion devices shapes layer p)
        (λ h. record { active = h.0.0; drawn = h.0.1; clear = λ d there on gate. h.1 d there (on, gate) })
        (λ i. ((i.active, i.drawn), λ d there h. i.clear d there h.0 h.1))
        (decide_both (IsActive devices layer × LiesOn shapes layer p) ((d : Device) → Contains devices d → (d.active ≡ layer) × LiesOn shapes d.gate p → ⊥)
        (decide_both (IsActive devices layer) (LiesOn shapes layer p) (decide_active devices layer) (decide_lies layer p)) (decide_clear layer p))
