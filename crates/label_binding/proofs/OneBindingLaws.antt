-- A label binds a shape, or none.
use Rattle.std.proofs.Common.{◌≡◌, ◌⊎◌, inl, inr, ◌≤ℤ◌, List, [], ◌∷◌, refl, sym, subst, ◌∙◌, arith}
use Rattle.std.specs.declared.cmp.Ordering.{Ordering}
use Rattle.std.specs.declared.cmp.Ordering.TheVariants.{Less, Equal, Greater}
use Rattle.std.proofs.lemmas.Bool.{cases_eq}
use Rattle.std.proofs.lemmas.Int.{by_lt_z, ints}
use Rattle.or_geom.specs.Joined.{IsIn}
use Rattle.or_geom.specs.declared.shape.Point.{Point}
use Rattle.or_geom.specs.declared.shape.Rect.{Rect}
use Rattle.or_geom.specs.declared.shape.Shape.{Shape}
use Rattle.or_geom.proofs.ListLaws.{contains_none, contains_cases, contains_first, contains_later}
use Rattle.or_geom.specs.ShapeOrder.{shape_order}
use Rattle.or_geom.proofs.OneListLaws.{not_both}
use Rattle.or_geom.proofs.ShapeOrderLaws.{shape_total}
use Rattle.label_binding.specs.declared.anchor.Anchor.{Anchor}
use Rattle.label_binding.specs.Binding.{IsUnder, Binds, BindsNone}

-- a point lies in a closed box, or it doesn't
cases_in : (r : Rect) (p : Point) → IsIn r p ⊎ (IsIn r p → ⊥)
cases_in r p =
    by_lt_z p.x r.x1 (λ lt. inr (λ (h : IsIn r p). let le : r.x1 ≤ℤ p.x = h.left in omega (arith, ints)))
    (λ left. by_lt_z r.x2 p.x (λ lt. inr (λ (h : IsIn r p). let le : p.x ≤ℤ r.x2 = h.right in omega (arith, ints)))
    (λ right. by_lt_z p.y r.y1 (λ lt. inr (λ (h : IsIn r p). let le : r.y1 ≤ℤ p.y = h.low in omega (arith, ints)))
    (λ low. by_lt_z r.y2 p.y (λ lt. inr (λ (h : IsIn r p). let le : p.y ≤ℤ r.y2 = h.high in omega (arith, ints)))
    (λ high. inl (record { left = left; right = right; low = low; high = high })))))

-- a shape lies under a label, or it doesn't
cases_under : (label : Anchor) (shape : Shape) → IsUnder label shape ⊎ (IsUnder label shape → ⊥)
cases_under label shape = elim (cases_eq shape.layer label.layer) [
  | inl on ↦ elim (cases_in shape.rect label.at) [ inl holds ↦ inl (record { on = on; holds = holds }) | inr out ↦ inr (λ h. out h.holds) ]
  | inr off ↦ inr (λ h. off h.on)
]

-- no shape comes before itself
not_self : (s t : Shape) → s ≡ t → shape_order s t ≡ Less → ⊥
not_self s t e less =
    let self : shape_order s s ≡ Less = subst (λ (u : Shape). shape_order s u ≡ Less) (sym e) less in
    not_both shape_order shape_total s s self self

-- the label binds a shape of the list, or none
abbrev Decided : List Shape → Anchor → Type 0
Decided shapes label = BindsNone shapes label ⊎ ((s : Shape) × Binds shapes label s)

-- where a shape that isn't under the label stands before the list
skips : (t : Shape) (ts : List Shape) (label : Anchor) → (IsUnder label t → ⊥) → Decided ts label → Decided (t ∷ ts) label
skips t ts label out (inl none) = inl (λ s h under. elim (contains_cases t ts s h) [ inl e ↦ out (subst (IsUnder label) e under) | inr later ↦ none s later under ])
skips t ts label out (inr some) = inr (
  some.0,
  record {
    listed = contains_later t ts some.0 some.1.listed;
    under = some.1.under;
    first = λ other h under less. elim (contains_cases t ts other h) [ inl e ↦ out (subst (IsUnder label) e under) | inr later ↦ some.1.first other later under less ];
  },
)

-- where one that is under it comes before the one that is bound
leads : (t : Shape) (ts : List Shape) (label : Anchor) (s : Shape) → IsUnder label t → Binds ts label s → shape_order t s ≡ Less → Binds (t ∷ ts) label t
leads t ts label s here b before = record {
  listed = contains_first t ts;
  under = here;
  first = λ other h under less. elim (contains_cases t ts other h) [ inl e ↦ not_self other t e less | inr later ↦ b.first other later under (shape_total.trans other t s less before) ];
}

-- where it doesn't
trails : (t : Shape) (ts : List Shape) (label : Anchor) (s : Shape) → Binds ts label s → (shape_order t s ≡ Less → ⊥) → Binds (t ∷ ts) label s
trails t ts label s b not = record {
  listed = contains_later t ts s b.listed;
  under = b.under;
  first = λ other h under less. elim (contains_cases t ts other h) [ inl e ↦ not (subst (λ (u : Shape). shape_order u s ≡ Less) e less) | inr later ↦ b.first other later under less ];
}

-- the earlier in the order of shapes
by_order : (t : Shape) (ts : List Shape) (label : Anchor) (s : Shape) (o : Ordering) → shape_order t s ≡ o → IsUnder label t → Binds ts label s → Decided (t ∷ ts) label
by_order t ts label s Less is here b = inr (t, leads t ts label s here b is)
by_order t ts label s Equal is here b = inr (s, trails t ts label s b (λ less. let e : ◌≡◌ {A = Ordering} Less Equal = sym less ∙ is in cc))
by_order t ts label s Greater is here b = inr (s, trails t ts label s b (λ less. let e : ◌≡◌ {A = Ordering} Less Greater = sym less ∙ is in cc))

-- where one that is under it stands before the list
joins : (t : Shape) (ts : List Shape) (label : Anchor) → IsUnder label t → Decided ts label → Decided (t ∷ ts) label
joins t ts label here (inl none) = inr (
  t,
  record {
    listed = contains_first t ts;
    under = here;
    first = λ other h under less. elim (contains_cases t ts other h) [ inl e ↦ not_self other t e less | inr later ↦ none other later under ];
  },
)
joins t ts label here (inr some) = by_order t ts label some.0 (shape_order t some.0) refl here some.1

decided : (shapes : List Shape) (label : Anchor) → Decided shapes label
decided [] label = inl (λ s h under. contains_none s h)
decided (t ∷ ts) label = elim (cases_under label t) [ inl here ↦ joins t ts label here (decided ts label) | inr out ↦ skips t ts label out (decided ts label) ]

-- a label that doesn't bind none binds a shape
pub binds_some : (shapes : List Shape) (label : Anchor) → (BindsNone shapes label → ⊥) → (s : Shape) × Binds shapes label s
binds_some shapes label not = elim (decided shapes label) [ inl none ↦ absurd (not none) | inr some ↦ some ]
