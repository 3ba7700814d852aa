-- Whether two shapes of a layout are on one net is decided, and what a label binds.
use Rattle.std.proofs.Common.{◌≡◌, ◌⊎◌, inl, inr, ℕ, ◌≤ℤ◌, List, [], ◌∷◌, refl, sym, ap, subst, ◌∙◌}
use Rattle.std.specs.Prelude.{Contains}
use Rattle.std.specs.declared.cmp.Ordering.{Ordering}
use Rattle.std.specs.declared.cmp.Ordering.TheVariants.{Less, Equal, Greater}
use Rattle.std.proofs.lemmas.Bool.{cases_eq}
use Rattle.or_geom.specs.Gathering.{SomeHas}
use Rattle.or_geom.specs.Joined.{IsIn}
use Rattle.or_geom.specs.ShapeOrder.{shape_order}
use Rattle.or_geom.specs.declared.shape.Point.{Point}
use Rattle.or_geom.specs.declared.shape.Rect.{Rect}
use Rattle.or_geom.specs.declared.shape.Shape.{Shape}
use Rattle.or_geom.proofs.ListLaws.{contains_cases, contains_first, contains_none}
use Rattle.std.specs.Ordering.{ordering_reverse}
use Rattle.or_geom.proofs.ShapeOrderLaws.{shape_total}
use Rattle.tech_rules.specs.declared.tech.Connect.{Connect}
use Rattle.tech_rules.specs.Linked.{LeadsBy}
use Rattle.tech_rules.specs.Net.{AreOnOneNet}
use Rattle.tech_rules.specs.Touch.{IsConductor, Joins, Touch}
use Rattle.tech_rules.proofs.LinkedLaws.{linked_back, linked_further, linked_itself, linked_next, linked_on}
use Rattle.label_binding.specs.Binding.{IsUnder, Binds, BindsNone}
use Rattle.label_binding.specs.declared.anchor.Anchor.{Anchor}
use Rattle.net_extractor.proofs.ExtractLaws.{touch_turned}
use Rattle.label_binding.proofs.OneBindingLaws.{binds_some}
use Rattle.good_nets.proofs.PortLaws.{touches_itself}
use Rattle.told_nets.proofs.TellLaws.{told_conductor, told_net}
use Rattle.flat_answers.proofs.DecisionLaws.{Decided, decide_as, decide_at_most, decide_both, decide_either}
use Rattle.flat_answers.proofs.ListedLaws.{decide_some, listed_where, some_or_none}
use Rattle.flat_answers.proofs.OrderLaws.{decide_shape, shapes_in_order}

module _ (connections : List Connect) where
  joins_conductor : (cut layer : ℕ) (cs : List Connect) → SomeHas (Joins cut layer) cs → IsConductor cs layer
  joins_conductor cut layer [] h = h
  joins_conductor cut layer (c ∷ cs) (inl j) = inl j.to
  joins_conductor cut layer (c ∷ cs) (inr h) = inr (joins_conductor cut layer cs h)

  -- of two shapes that touch one is on a conductor
  pub touch_conducts : (a b : Shape) → Touch connections a b → IsConductor connections a.layer ⊎ IsConductor connections b.layer
  touch_conducts a b (inl t) = inl t.conductor
  touch_conducts a b (inr (inl t)) = inr (joins_conductor a.layer b.layer connections t.connects)
  touch_conducts a b (inr (inr t)) = inl (joins_conductor b.layer a.layer connections t.connects)

  -- what is on one net with a conductor's shape, by way of that shape alone, touches it
  touch_alone : (a b : Shape) (path : List Shape) → IsConductor connections b.layer → LeadsBy (Contains (b ∷ [])) (Touch connections) a path b
      → Touch connections a b
  touch_alone a b [] conductor same = subst (λ (x : Shape). Touch connections x b) (sym same) (touches_itself connections b conductor)
  touch_alone a b (next ∷ rest) conductor leads = elim (contains_cases b [] next leads.0) [
    | inl same ↦ subst (Touch connections a) same leads.1
    | inr k ↦ absurd (contains_none next k)
  ]

  pub decide_touch : (a b : Shape) → IsConductor connections b.layer → Decided (Touch connections a b)
  decide_touch a b conductor = decide_as (AreOnOneNet connections (b ∷ []) a b) (Touch connections a b)
      (λ net. touch_alone a b net.path conductor net.leads)
      (λ touch. linked_next (Contains (b ∷ [])) (Touch connections) a b (contains_first b []) touch)
      (told_net connections (b ∷ []) a b (contains_first b []) conductor)

  module _ (shapes : List Shape) where
    -- the last but one on the way to a shape
    abbrev IsBefore : Shape → Shape → Shape → Type 0
    IsBefore a b x = Contains shapes x × (AreOnOneNet connections shapes a x × Touch connections x b)

    last_touch : (a b : Shape) (path : List Shape) → Contains shapes a → LeadsBy (Contains shapes) (Touch connections) a path b
        → (a ≡ b) ⊎ ((x : Shape) × IsBefore a b x)
    last_touch a b [] listed same = inl same
    last_touch a b (next ∷ rest) listed leads = elim (last_touch next b rest leads.0 leads.2) [
      | inl same ↦ inr (a, (listed, (linked_itself (Contains shapes) (Touch connections) a, subst (Touch connections a) same leads.1)))
      | inr h ↦ inr (
        h.0,
        (
          h.1.0,
          (
            linked_on (Contains shapes) (Touch connections) a next h.0
                (linked_next (Contains shapes) (Touch connections) a next leads.0 leads.1) h.1.1.0,
            h.1.1.1,
          ),
        ),
      )
    ]

    -- where the second is on no conductor, the one before it is
    decide_before : (a b x : Shape) → Contains shapes x → (IsConductor connections b.layer → ⊥)
        → Decided (AreOnOneNet connections shapes a x × Touch connections x b)
    decide_before a b x listed plain = elim (told_conductor connections x.layer) [
      | inl conductor ↦ decide_both (AreOnOneNet connections shapes a x) (Touch connections x b) (told_net connections shapes a x listed conductor)
          (decide_as (Touch connections b x) (Touch connections x b) (touch_turned connections b x) (touch_turned connections x b)
          (decide_touch b x conductor))
      | inr other ↦ inr (λ h. elim (touch_conducts x b h.1) [ inl c ↦ other c | inr c ↦ plain c ])
    ]

    pub decide_net : (a b : Shape) → Contains shapes a → Contains shapes b → Decided (AreOnOneNet connections shapes a b)
    decide_net a b listed there = elim (told_conductor connections b.layer) [
      | inl conductor ↦ told_net connections shapes a b there conductor
      | inr plain ↦ decide_as ((a ≡ b) ⊎ ((x : Shape) × IsBefore a b x)) (AreOnOneNet connections shapes a b)
          (λ h. elim h [
            | inl same ↦ subst (AreOnOneNet connections shapes a) same (linked_itself (Contains shapes) (Touch connections) a)
            | inr k ↦ linked_further (Contains shapes) (Touch connections) a k.0 b k.1.1.0 there k.1.1.1
          ])
          (λ net. last_touch a b net.path listed net.leads)
          (decide_either (a ≡ b) ((x : Shape) × IsBefore a b x) (decide_shape a b)
          (decide_some (Contains shapes) (λ (x : Shape). AreOnOneNet connections shapes a x × Touch connections x b)
          (shapes, λ x. (λ h. h, λ h. h)) (λ x among. decide_before a b x among plain)))
    ]

    pub net_back : (a b : Shape) → Contains shapes a → AreOnOneNet connections shapes a b → AreOnOneNet connections shapes b a
    net_back a b listed net = linked_back (Contains shapes) (Touch connections) (touch_turned connections) a b listed net

-- what a label binds

decide_in : (r : Rect) (p : Point) → Decided (IsIn r p)
decide_in r p = decide_as (((r.x1 ≤ℤ p.x) × (p.x ≤ℤ r.x2)) × ((r.y1 ≤ℤ p.y) × (p.y ≤ℤ r.y2))) (IsIn r p)
    (λ h. record { left = h.0.0; right = h.0.1; low = h.1.0; high = h.1.1 }) (λ i. ((i.left, i.right), (i.low, i.high)))
    (decide_both _ _ (decide_both _ _ (decide_at_most r.x1 p.x) (decide_at_most p.x r.x2))
    (decide_both _ _ (decide_at_most r.y1 p.y) (decide_at_most p.y r.y2)))

decide_under : (label : Anchor) (s : Shape) → Decided (IsUnder label s)
decide_under label s =
    decide_as ((s.layer ≡ label.layer) × IsIn s.rect label.at) (IsUnder label s) (λ h. record { on = h.0; holds = h.1 }) (λ u. (u.on, u.holds))
    (decide_both _ _ (cases_eq s.layer label.layer) (decide_in s.rect label.at))

pub bound_or_none : (shapes : List Shape) (label : Anchor) → ((s : Shape) × Binds shapes label s) ⊎ BindsNone shapes label
bound_or_none shapes label =
    elim (some_or_none (λ (s : Shape). Contains shapes s × IsUnder label s)
    (listed_where (Contains shapes) (IsUnder label) (shapes, λ s. (λ h. h, λ h. h)) (decide_under label))) [
      | inl h ↦ inl (binds_some shapes label (λ none. none h.0 h.1.0 h.1.1))
      | inr none ↦ inr (λ s listed under. none (s, (listed, under)))
    ]

one_of : (s t : Shape) → (shape_order s t ≡ Less → ⊥) → (shape_order t s ≡ Less → ⊥) → s ≡ t
one_of s t first second = by (shape_order s t) refl
  where
    by : (o : Ordering) → shape_order s t ≡ o → s ≡ t
    by Less e = absurd (first e)
    by Equal e = shapes_in_order.one s t e
    by Greater e = absurd (second (shape_total.antisymm t s ∙ ap ordering_reverse e))

pub one_bound : (shapes : List Shape) (label : Anchor) (s t : Shape) → Binds shapes label s → Binds shapes label t → s ≡ t
one_bound shapes label s t a b = one_of s t (b.first s a.listed a.under) (a.first t b.listed b.under)
