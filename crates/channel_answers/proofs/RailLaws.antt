-- Rails have their shapes: each tap its wire and its cut, and each rail a box up to its highest tap.
use Rattle.std.proofs.Common.{◌≡◌, ◌⊎◌, inl, inr, ℕ, ◌<◌, ℤ, ◌+ℤ◌, ◌≤ℤ◌, List, [], ◌∷◌, length, refl, sym, ap, subst, ◌∙◌, arith}
use Rattle.std.specs.Prelude.{Contains, Option, slice_get, slice_index, None, Some}
use Rattle.std.proofs.lemmas.Bool.{cases_eq}
use Rattle.std.proofs.lemmas.Int.{ints, by_lt_z}
use Rattle.std.proofs.lemmas.Option.{slice_get_within}
use Rattle.or_geom.proofs.GatheringLaws.{giver, gives_some}
use Rattle.or_geom.proofs.ListLaws.{contains_cases, contains_first, contains_later, contains_none, one_at}
use Rattle.wire_drawing.specs.declared.route.Tap.{Tap}
use Rattle.tech_rules.specs.declared.tech.Wire.{Wire}
use Rattle.wire_drawing.specs.Drawing.{IsBox, IsVia}
use Rattle.rail_bus.specs.Rails.{IsHighest, IsOfTap, IsRail, IsTapOf}
use Rattle.channel_answers.specs.Answers.{RailsHaveShapes}
use Rattle.channel_answers.proofs.ListedLaws.{Listed, listed_as, listed_below, listed_items, listed_none, listed_or, listed_within, times, times_is}
use Rattle.channel_answers.proofs.ShapeLaws.{listed_box, listed_via}

-- the highest tap of a rail, where it has taps
abbrev HighestOrNone : List Tap → ℕ → Type 0
HighestOrNone taps rail = ((y : ℤ) → IsTapOf taps rail y → ⊥) ⊎ ((y : ℤ) × IsHighest taps rail y)

later_tap : (t : Tap) (ts : List Tap) (rail : ℕ) (y : ℤ) → IsTapOf ts rail y → IsTapOf (t ∷ ts) rail y
later_tap t ts rail y is = record { tap = is.tap; listed = contains_later t ts is.tap is.listed; of_rail = is.of_rail; at_y = is.at_y }

tap_cases : (t : Tap) (ts : List Tap) (rail : ℕ) (y : ℤ) → IsTapOf (t ∷ ts) rail y → ((t.rail ≡ rail) × (t.y ≡ y)) ⊎ IsTapOf ts rail y
tap_cases t ts rail y is = elim (contains_cases t ts is.tap is.listed) [
  | inl e ↦ inl (sym (ap (λ (u : Tap). u.rail) e) ∙ is.of_rail, sym (ap (λ (u : Tap). u.y) e) ∙ is.at_y)
  | inr k ↦ inr (record { tap = is.tap; listed = k; of_rail = is.of_rail; at_y = is.at_y })
]

this_highest : (t : Tap) (ts : List Tap) (rail : ℕ) → t.rail ≡ rail → ((y : ℤ) → IsTapOf ts rail y → y ≤ℤ t.y) → IsHighest (t ∷ ts) rail t.y
this_highest t ts rail on above = record {
  tap = record { tap = t; listed = contains_first t ts; of_rail = on; at_y = refl };
  highest = λ other is. elim (tap_cases t ts rail other is) [ inl e ↦ (let at = e.1 in omega (arith, ints, at)) | inr k ↦ above other k ];
}

highest_or_none : (taps : List Tap) (rail : ℕ) → HighestOrNone taps rail
highest_or_none [] rail = inl (λ y is. contains_none is.tap is.listed)
highest_or_none (t ∷ ts) rail = elim (cases_eq t.rail rail) [
  | inr other ↦ elim (highest_or_none ts rail) [
    | inl none ↦ inl (λ y is. elim (tap_cases t ts rail y is) [ inl e ↦ other e.0 | inr k ↦ none y k ])
    | inr found ↦ inr (
      found.0,
      record {
        tap = later_tap t ts rail found.0 found.1.tap;
        highest = λ y is. elim (tap_cases t ts rail y is) [ inl e ↦ absurd (other e.0) | inr k ↦ found.1.highest y k ];
      },
    )
  ]
  | inl on ↦ elim (highest_or_none ts rail) [
    | inl none ↦ inr (t.y, this_highest t ts rail on (λ y is. absurd (none y is)))
    | inr found ↦ by_lt_z {P = HighestOrNone (t ∷ ts) rail} t.y found.0
        (λ less. inr (
          found.0,
          record {
            tap = later_tap t ts rail found.0 found.1.tap;
            highest = λ y is. elim (tap_cases t ts rail y is) [ inl e ↦ (let at = e.1 in omega (arith, ints, at, less)) | inr k ↦ found.1.highest y k ];
          },
        ))
        (λ more. inr (t.y, this_highest t ts rail on (λ y is. let le = found.1.highest y is in omega (arith, ints, le, more))))
  ]
]

of_tap : (xs : List ℤ) (wire : Wire) (tap : Tap) → Listed 2 (IsOfTap xs wire tap)
of_tap xs wire tap = by (slice_get xs tap.rail) refl
  where
    by : (o : Option ℤ) → slice_get xs tap.rail ≡ o → Listed 2 (IsOfTap xs wire tap)
    by None e = listed_within 0 2 (IsOfTap xs wire tap) (omega arith) (listed_none (IsOfTap xs wire tap) (λ s t. let both : ◌≡◌ {A = Option ℤ} (Some t.x) None = sym t.at_x ∙ e in absurd cc))
    by (Some x) e =
        listed_as 2 (λ s. IsBox (slice_index wire.metals 2) x tap.y tap.end (tap.y +ℤ wire.width) s ⊎ IsVia wire 2 x tap.y s) (IsOfTap xs wire tap)
        (λ s kind. record { x = x; at_x = e; kind = kind })
        (λ s t. subst (λ (z : ℤ). IsBox (slice_index wire.metals 2) z tap.y tap.end (tap.y +ℤ wire.width) s ⊎ IsVia wire 2 z tap.y s) (one_at xs tap.rail t.x x t.at_x e) t.kind)
        (listed_or 1 1 (IsBox (slice_index wire.metals 2) x tap.y tap.end (tap.y +ℤ wire.width)) (IsVia wire 2 x tap.y) (listed_box _ _ _ _ _) (listed_via wire 2 x tap.y))

one_highest : (taps : List Tap) (rail : ℕ) (y z : ℤ) → IsHighest taps rail y → IsHighest taps rail z → y ≡ z
one_highest taps rail y z a b = let le = a.highest z b.tap in let ge = b.highest y a.tap in omega (arith, ints, le, ge)

of_rail : (low : ℤ) (xs : List ℤ) (taps : List Tap) (wire : Wire) (rail : ℕ) → Listed 1 (IsRail low xs taps wire rail)
of_rail low xs taps wire rail = by (slice_get xs rail) refl (highest_or_none taps rail)
  where
    by : (o : Option ℤ) → slice_get xs rail ≡ o → HighestOrNone taps rail → Listed 1 (IsRail low xs taps wire rail)
    by None e found = listed_within 0 1 (IsRail low xs taps wire rail) (omega arith) (listed_none (IsRail low xs taps wire rail) (λ s r. let both : ◌≡◌ {A = Option ℤ} (Some r.x) None = sym r.at_x ∙ e in absurd cc))
    by (Some x) e (inl none) = listed_within 0 1 (IsRail low xs taps wire rail) (omega arith) (listed_none (IsRail low xs taps wire rail) (λ s r. none r.y r.highest.tap))
    by (Some x) e (inr found) =
        let y = found.0 in
        listed_as 1 (IsBox (slice_index wire.metals 3) x low (x +ℤ wire.width) (y +ℤ wire.width)) (IsRail low xs taps wire rail)
        (λ s box. record { x = x; at_x = e; y = y; highest = found.1; drawn = box })
        (λ s r. subst (λ (z : ℤ). IsBox (slice_index wire.metals 3) z low (z +ℤ wire.width) (y +ℤ wire.width) s) (one_at xs rail r.x x r.at_x e)
        (subst (λ (z : ℤ). IsBox (slice_index wire.metals 3) r.x low (r.x +ℤ wire.width) (z +ℤ wire.width) s) (one_highest taps rail r.y y r.highest found.1) r.drawn))
        (listed_box _ _ _ _ _)

pub rails_have_shapes : RailsHaveShapes
rails_have_shapes low xs taps wire =
    let of_taps = listed_items 2 taps (IsOfTap xs wire) (λ tap h. of_tap xs wire tap) in
    let rails = listed_below (length xs) 1 (λ rail s. IsRail low xs taps wire rail s) (λ rail lt. of_rail low xs taps wire rail) in
    let all = listed_or (times (length taps) 2) (times (length xs) 1) (λ s. (tap : Tap) × Contains taps tap × IsOfTap xs wire tap s) (λ s. (rail : ℕ) × (rail < length xs) × IsRail low xs taps wire rail s) of_taps rails in
    record {
      shapes = all.list;
      are = record {
        all = λ s shape. (all.has s).1 (elim shape [
          | inl g ↦ inl (giver (IsOfTap xs wire) taps s g)
          | inr r ↦ inr (r.0, slice_get_within xs r.0 r.1.x r.1.at_x, r.1)
        ]);
        only = λ s h. elim ((all.has s).0 h) [
          | inl t ↦ inl (gives_some (IsOfTap xs wire) taps s t.0 t.1 t.2)
          | inr r ↦ inr (r.0, r.2)
        ];
      };
      few =
          let least = all.few in
          let of_taps_few = times_is (length taps) 2 in
          let rails_few = times_is (length xs) 1 in
          omega (arith, least, of_taps_few, rails_few);
    }
