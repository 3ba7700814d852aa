-- The pairs that are found among the shapes near a first one.
use Rattle.std.proofs.Common.{◌≡◌, inl, inr, ℕ, ◌<◌, ℤ, ◌-ℤ◌, List, length, Option, Some, None, refl, sym, subst, ◌∙◌, arith}
use Rattle.std.specs.Prelude.{slice_get}
use Rattle.std.specs.Int.{int_max}
use Rattle.or_geom.specs.Covered.{HasCell}
use Rattle.std.specs.List.Sorted.{IsStrictlySortedBy}
use Rattle.std.specs.declared.cmp.Ordering.TheVariants.{Less}
use Rattle.std.proofs.lemmas.Option.{same_Some, slice_get_within}
use Rattle.or_geom.specs.declared.shape.Rect.{Rect}
use Rattle.or_geom.specs.declared.shape.Shape.{Shape}
use Rattle.or_geom.proofs.ListLaws.{contained_at}
use Rattle.or_geom.specs.Adds.{Adds}
use Rattle.or_geom.specs.Gathering.{SomeGives}
use Rattle.or_geom.specs.ShapeOrder.{shape_order}
use Rattle.or_geom.proofs.AddsLaws.{adds_none, adds_as}
use Rattle.or_geom.proofs.GatheringLaws.{giver, gives_some}
use Rattle.or_geom.proofs.ShapeOrderLaws.{shape_total}
use Rattle.tech_rules.specs.declared.tech.Rule.{Rule}
use Rattle.tech_rules.specs.declared.tech.Rule.TheVariants.{Space}
use Rattle.shape_bins.specs.Layers.{rects_on}
use Rattle.shape_bins.specs.Hits.{IsNearShape}
use Rattle.tile_checker.specs.Breaks.{Breaks, IsGrown}
use Rattle.tile_checker.specs.Found.{AreOnLayersOf, IsSpaceFound}
use Rattle.tile_checker.specs.RuleReport.{IsLater}
use Rattle.tile_checker.specs.declared.violation.Violation.{Violation}
use Rattle.tile_checker.specs.declared.space.SpaceRule.{SpaceRule}
use Rattle.tile_checker.proofs.SpaceLaws.{gap_in, gap_out}
use Rattle.tile_checker.specs.declared.first.First.{First}
use Rattle.tile_checker.specs.Firsts.{IsAt, IsPartner, HasNoPartner, IsPartnerAt, ArePartners, ArePartnersIn}
use Rattle.tile_checker.specs.Tiles.{Owns, IsFromIn, IsPairAt, IsPartIn}
use Rattle.tile_checker.proofs.LayerLaws.{layers_rise}
use Rattle.tile_checker.proofs.NearLaws.{near_meets}
use Rattle.tile_checker.proofs.PlaceLaws.{sorted_at, later_place, place_of}
use Rattle.tile_checker.proofs.FilledLaws.{one_box_covers}

abbrev kind : SpaceRule → Rule
kind rule = Space rule.layer rule.other rule.min.value

-- a partner's shapes, and no others, lie with the first on the rule's layers
pub partner_on : (rule : SpaceRule) (a b : Shape) (partner : ℕ) → IsPartner rule a.layer partner → b.layer ≡ partner → AreOnLayersOf rule a b
partner_on rule a b partner (inl p) on = inl (p.0, on ∙ p.1)
partner_on rule a b partner (inr p) on = inr (p.0, on ∙ p.1)

on_partner : (rule : SpaceRule) (a b : Shape) (partner : ℕ) → IsPartner rule a.layer partner → AreOnLayersOf rule a b → b.layer ≡ partner
on_partner rule a b partner (inl p) (inl on) = on.1 ∙ sym p.1
on_partner rule a b partner (inl p) (inr on) = on.1 ∙ (sym p.0 ∙ (on.0 ∙ sym p.1))
on_partner rule a b partner (inr p) (inl on) = on.1 ∙ (sym p.0 ∙ (on.0 ∙ sym p.1))
on_partner rule a b partner (inr p) (inr on) = on.1 ∙ sym p.1

no_partner : (rule : SpaceRule) (a b : Shape) → HasNoPartner rule a.layer → AreOnLayersOf rule a b → shape_order a b ≡ Less → ⊥
no_partner rule a b none on less =
    let lesser = none b.layer on in
    let rises = layers_rise a b less in
    omega (arith, lesser, rises)

never_found : (rule : SpaceRule) (shapes : List Shape) (first : First) (v : Violation) (second : Option Shape) → HasNoPartner rule first.shape.layer → v.first ≡ first.shape → IsLater shapes v.first second → Breaks (kind rule) shapes v.first second → ⊥
never_found rule shapes first v None none is later breaks = breaks
never_found rule shapes first v (Some b) none is later breaks = no_partner rule v.first b (subst (λ (s : Shape). HasNoPartner rule s.layer) (sym is) none) breaks.on later.1

pub none_found : (rule : SpaceRule) (shapes : List Shape) (tile : Rect) (first : First) (old : List Violation) → HasNoPartner rule first.shape.layer → Adds old old (IsFromIn rule.number (kind rule) shapes tile first)
none_found rule shapes tile first old none =
    adds_none old (IsFromIn rule.number (kind rule) shapes tile first) (λ v f. never_found rule shapes first v v.second none f.from.of f.from.violation.second f.from.violation.breaks)

pair_is : (rule : SpaceRule) (shapes : List Shape) (tile : Rect) (first : First) (places : List ℕ) (v : Violation) → IsStrictlySortedBy shape_order shapes → IsAt shapes first → SomeGives (IsPairAt rule shapes tile first) places v
    → IsFromIn rule.number (kind rule) shapes tile first v
pair_is rule shapes tile first places v rises at g =
    let r = giver (IsPairAt rule shapes tile first) places v g in
    let p = r.2 in
    let f = p.found in
    let base : IsFromIn rule.number (kind rule) shapes tile first (record { rule = rule.number; first = first.shape; second = Some p.second }) = record {
      from = record {
        of = refl;
        violation = record {
          numbered = refl;
          first = contained_at shapes first.place first.shape at;
          second = (contained_at shapes r.0 p.second p.there, sorted_at shape_order shapes first.place r.0 first.shape p.second rises at p.there p.later);
          breaks = record { on = f.on; near = f.near; bare = λ c. f.bare (gap_in rule shapes first.shape p.second f.on c) };
        };
      };
      owned = p.owned;
    } in
    subst (λ (w : Violation). IsFromIn rule.number (kind rule) shapes tile first w) (sym p.is) base

grown_corner : (min : ℤ) (a b : Shape) (tile grown : Rect) → IsGrown min a.rect grown → HasCell tile (int_max (a.rect.x1 -ℤ min) b.rect.x1) (int_max (a.rect.y1 -ℤ min) b.rect.y1)
    → HasCell tile (int_max grown.x1 b.rect.x1) (int_max grown.y1 b.rect.y1)
grown_corner min a b tile grown g h =
    subst (λ (z : ℤ). HasCell tile (int_max z b.rect.x1) (int_max grown.y1 b.rect.y1)) (sym g.left)
    (subst (λ (z : ℤ). HasCell tile (int_max (a.rect.x1 -ℤ min) b.rect.x1) (int_max z b.rect.y1)) (sym g.low) h)

pair_each : (rule : SpaceRule) (shapes : List Shape) (tile : Rect) (first : First) (partner : ℕ) (grown area : Rect) (places : List ℕ) (v : Violation) (second : Option Shape) → IsStrictlySortedBy shape_order shapes → IsAt shapes first
    → IsPartner rule first.shape.layer partner → IsGrown rule.min.value first.shape.rect grown → IsPartIn tile grown area → ArePartnersIn rule.min.value shapes partner first.shape area places → v.first ≡ first.shape → v.rule ≡ rule.number
    → v.second ≡ second → IsLater shapes first.shape second → Breaks (kind rule) shapes first.shape second → Owns tile (kind rule) first.shape second → SomeGives (IsPairAt rule shapes tile first) places v
pair_each rule shapes tile first partner grown area places v None rises at partners is_grown part hits of numbered is later breaks owned = absurd breaks
pair_each rule shapes tile first partner grown area places v (Some b) rises at partners is_grown part hits of numbered is later breaks owned =
    let p = place_of shapes b later.0 in
    let meets = near_meets rule.min.value first.shape.rect b.rect grown rule.min.within.positive breaks.near is_grown in
    let hit : IsNearShape shapes partner area p.0 = record {
      shape = b;
      there = p.1;
      on = on_partner rule first.shape b partner partners breaks.on;
      fits = part b.rect meets (grown_corner rule.min.value first.shape b tile grown is_grown owned);
    } in elim (hits.each p.0 b p.1 hit) [
      | inl among ↦ gives_some (IsPairAt rule shapes tile first) places v p.0 among (record {
        second = b;
        there = p.1;
        later = later_place shape_order shapes first.place p.0 first.shape b shape_total rises at p.1 later.1;
        is = λ i. record { rule = numbered i; first = of i; second = is i };
        found = record { on = breaks.on; near = breaks.near; bare = λ c. breaks.bare (gap_out rule shapes first.shape b breaks.on c) };
        owned = owned;
      })
      | inr harmless ↦ absurd (harmless breaks.near (λ one. breaks.bare (one_box_covers shapes first.shape b one)))
    ]

pub pairs_found : (rule : SpaceRule) (shapes : List Shape) (tile : Rect) (first : First) (partner : ℕ) (grown area : Rect) (places : List ℕ) (old new : List Violation) → IsStrictlySortedBy shape_order shapes → IsAt shapes first
    → IsPartner rule first.shape.layer partner → IsGrown rule.min.value first.shape.rect grown → IsPartIn tile grown area → ArePartnersIn rule.min.value shapes partner first.shape area places
    → Adds old new (SomeGives (IsPairAt rule shapes tile first) places) → Adds old new (IsFromIn rule.number (kind rule) shapes tile first)
pairs_found rule shapes tile first partner grown area places old new rises at partners is_grown part hits a =
    adds_as old new (SomeGives (IsPairAt rule shapes tile first) places) (IsFromIn rule.number (kind rule) shapes tile first)
    (λ v g. pair_is rule shapes tile first places v rises at g)
    (λ v f. pair_each rule shapes tile first partner grown area places v v.second rises at partners is_grown part hits
    f.from.of f.from.violation.numbered refl
    (subst (λ (s : Shape). IsLater shapes s v.second) f.from.of f.from.violation.second)
    (subst (λ (s : Shape). Breaks (kind rule) shapes s v.second) f.from.of f.from.violation.breaks)
    (subst (λ (s : Shape). Owns tile (kind rule) s v.second) f.from.of f.owned))
    a

-- those at the places that were found are partners
pub hits_partners : (rule : SpaceRule) (shapes : List Shape) (a : Shape) (partner : ℕ) (area : Rect) (places : List ℕ) → IsPartner rule a.layer partner → ArePartnersIn rule.min.value shapes partner a area places → ArePartners rule shapes a places
hits_partners rule shapes a partner area places partners hits place h =
    let hit = hits.only place h in
    record { shape = hit.shape; there = hit.there; on = partner_on rule a hit.shape partner partners hit.on }

pub partner_inside : (rule : SpaceRule) (shapes read : List Shape) (a : Shape) (place : ℕ) → read ≡ shapes → IsPartnerAt rule shapes a place → place < length read
partner_inside rule shapes read a place same p = subst (λ (l : List Shape). place < length l) (sym same) (slice_get_within shapes place p.shape p.there)

-- what is read there
pub partner_read : (rule : SpaceRule) (shapes read : List Shape) (a s : Shape) (place : ℕ) → read ≡ shapes → IsPartnerAt rule shapes a place → slice_get read place ≡ Some s → AreOnLayersOf rule a s × (slice_get shapes place ≡ Some s)
partner_read rule shapes read a s place same p at =
    let there : slice_get shapes place ≡ Some s = subst (λ (l : List Shape). slice_get l place ≡ Some s) same at in
    (subst (λ (t : Shape). AreOnLayersOf rule a t) (same_Some p.shape s (sym p.there ∙ there)) p.on, there)

-- a place has one shape, so one pair
pub same_second : (rule : SpaceRule) (shapes : List Shape) (tile : Rect) (first : First) (place : ℕ) (s : Shape) (v : Violation) → slice_get shapes place ≡ Some s → IsPairAt rule shapes tile first place v
    → IsSpaceFound rule (rects_on rule.layer shapes) first.shape s × (v ≡ record { rule = rule.number; first = first.shape; second = Some s }) × Owns tile (kind rule) first.shape (Some s)
same_second rule shapes tile first place s v at p =
    let e : p.second ≡ s = same_Some p.second s (sym p.there ∙ at) in (
      subst (λ (t : Shape). IsSpaceFound rule (rects_on rule.layer shapes) first.shape t) e p.found,
      p.is ∙ (λ i. record { rule = rule.number; first = first.shape; second = Some (e i) }),
      subst (λ (t : Shape). Owns tile (kind rule) first.shape (Some t)) e p.owned,
    )
