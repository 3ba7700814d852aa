-- Which shapes a tile has to look at, so that it finds all that it owns.
use Rattle.std.proofs.Common.{◌≡◌, ℕ, ◌<◌, List, [], length, ℤ, pos, ◌≤ℤ◌, ◌+ℤ◌, ◌-ℤ◌, Option, Some, None, refl, sym, ap, subst, ◌∙◌, arith, ◌↔◌}
use Rattle.std.specs.Prelude.{All, Contains, slice_get}
use Rattle.std.specs.Int.{int_max, int_min}
use Rattle.std.proofs.lemmas.Int.{ints, clamps}
use Rattle.std.proofs.lemmas.Option.{same_Some, slice_get_within}
use Rattle.std.proofs.lemmas.List.Elements.{All-contains}
use Rattle.or_geom.specs.declared.shape.Rect.{Rect}
use Rattle.or_geom.specs.declared.shape.Shape.{Shape}
use Rattle.or_geom.specs.Adds.{Adds}
use Rattle.or_geom.specs.Gathering.{SomeGives}
use Rattle.or_geom.specs.Covered.{HasCell}
use Rattle.or_geom.proofs.ListLaws.{contained_at}
use Rattle.or_geom.proofs.AddsLaws.{adds_none, adds_as}
use Rattle.or_geom.proofs.GatheringLaws.{giver, gives_some}
use Rattle.tech_rules.specs.declared.tech.Rule.{Rule}
use Rattle.tech_rules.specs.declared.tech.Rule.TheVariants.{Width, Space, Enclose}
use Rattle.shape_bins.specs.Meets.{Meet}
use Rattle.shape_bins.specs.Hits.{IsNearShape}
use Rattle.tile_checker.specs.declared.violation.Violation.{Violation}
use Rattle.tile_checker.specs.declared.first.First.{First}
use Rattle.tile_checker.specs.Minimum.{IsMinimum, HasMinimum}
use Rattle.tile_checker.specs.Breaks.{AreNear, Breaks, IsGrown}
use Rattle.tile_checker.specs.RuleReport.{IsLater, IsViolation}
use Rattle.tile_checker.specs.Firsts.{IsAt, IsFrom, ArePlaces}
use Rattle.tile_checker.specs.Tiles.{minimum, corner, Owns, HasCorners, AreTiles, IsViolationIn, IsFoundIn, IsFromIn, IsFromPlace, IsShapeListed, AreFirstPlaces}
use Rattle.tile_checker.proofs.AloneLaws.{IsForOne}
use Rattle.tile_checker.proofs.NearLaws.{near_meets}
use Rattle.tile_checker.proofs.LayerLaws.{lesser, on_lesser}
use Rattle.tile_checker.proofs.PlaceLaws.{place_of}
use Rattle.tile_checker.proofs.TileLaws.{cell_tile}
use Rattle.tile_checker.proofs.PlaceLaws.{adds_all}

-- where no two shapes break the rule, the corner is the first shape's own
alone_at : (rule : Rule) (shapes : List Shape) (tile : Rect) (first : First) (v : Violation) (second : Option Shape) → IsForOne rule shapes → v.first ≡ first.shape → v.second ≡ second → Breaks rule shapes v.first second
    → Owns tile rule v.first v.second ↔ HasCell tile first.shape.rect.x1 first.shape.rect.y1
alone_at rule shapes tile first v None single of is breaks = (
  λ o. subst (λ (a : Shape). HasCell tile a.rect.x1 a.rect.y1) of (subst (λ (s : Option Shape). Owns tile rule v.first s) is o),
  λ h. subst (λ (s : Option Shape). Owns tile rule v.first s) (sym is) (subst (λ (a : Shape). HasCell tile a.rect.x1 a.rect.y1) (sym of) h),
)
alone_at rule shapes tile first v (Some b) single of is breaks = absurd (single v.first b breaks)

pub none_owned : (number : ℕ) (rule : Rule) (shapes : List Shape) (tile : Rect) (first : First) (old : List Violation) → IsForOne rule shapes → (HasCell tile first.shape.rect.x1 first.shape.rect.y1 → ⊥)
    → Adds old old (IsFromIn number rule shapes tile first)
none_owned number rule shapes tile first old single none =
    adds_none old (IsFromIn number rule shapes tile first) (λ v f. none ((alone_at rule shapes tile first v v.second single f.from.of refl f.from.violation.breaks).0 f.owned))

pub all_owned : (number : ℕ) (rule : Rule) (shapes : List Shape) (tile : Rect) (first : First) (old new : List Violation) → IsForOne rule shapes → HasCell tile first.shape.rect.x1 first.shape.rect.y1
    → Adds old new (IsFrom number rule shapes first) → Adds old new (IsFromIn number rule shapes tile first)
all_owned number rule shapes tile first old new single has a =
    adds_as old new (IsFrom number rule shapes first) (IsFromIn number rule shapes tile first)
    (λ v f. record { from = f; owned = (alone_at rule shapes tile first v v.second single f.of refl f.violation.breaks).1 has })
    (λ v f. f.from) a

-- from a first shape at its place
pub from_place : (number : ℕ) (rule : Rule) (shapes : List Shape) (tile : Rect) (first : First) (now next : List Violation) → IsAt shapes first
    → Adds now next (IsFromIn number rule shapes tile first) → Adds now next (IsFromPlace number rule shapes tile first.place)
from_place number rule shapes tile first now next at a =
    adds_as now next (IsFromIn number rule shapes tile first) (IsFromPlace number rule shapes tile first.place)
    (λ v f. record { at = at ∙ ap (λ (s : Shape). Some s) (sym f.from.of); is = record { violation = f.from.violation; owned = f.owned } })
    (λ v p. record { from = record { of = same_Some v.first first.shape (sym p.at ∙ at); violation = p.is.violation }; owned = p.is.owned })
    a

pub inside_read : (shapes read : List Shape) (place : ℕ) → read ≡ shapes → place < length shapes → place < length read
inside_read shapes read place same lt = subst (λ (l : List Shape). place < length l) (sym same) lt

-- what is read at a place
pub place_read : (shapes read : List Shape) (place : ℕ) (s : Shape) → read ≡ shapes → slice_get read place ≡ Some s → slice_get shapes place ≡ Some s
place_read shapes read place s same at = subst (λ (l : List Shape). slice_get l place ≡ Some s) same at

-- all first shapes were looked at
pub rule_found : (number : ℕ) (rule : Rule) (shapes : List Shape) (tile : Rect) (firsts : List ℕ) (old new : List Violation) → AreFirstPlaces rule shapes tile firsts
    → Adds old new (SomeGives (IsFromPlace number rule shapes tile) firsts) → Adds old new (IsViolationIn number rule shapes tile)
rule_found number rule shapes tile firsts old new are a =
    adds_as old new (SomeGives (IsFromPlace number rule shapes tile) firsts) (IsViolationIn number rule shapes tile)
    (λ v g. let r = giver (IsFromPlace number rule shapes tile) firsts v g in r.2.is)
    (λ v w. let l = are.each v.first v.second w.violation.first w.violation.second w.violation.breaks w.owned in
    gives_some (IsFromPlace number rule shapes tile) firsts v l.place l.among (record { at = l.there; is = w }))
    a

-- shapes near an area are listed
abbrev pub AreListed : List Shape → ℕ → Rect → List ℕ → Type 0
AreListed shapes layer area places = (place : ℕ) → IsNearShape shapes layer area place → Contains places place

near_listed : (shapes : List Shape) (layer : ℕ) (area : Rect) (places : List ℕ) (a : Shape) → AreListed shapes layer area places → Contains shapes a → a.layer ≡ layer → Meet a.rect area → IsShapeListed shapes places a
near_listed shapes layer area places a hits h on meet =
    let p = place_of shapes a h in
    record { place = p.0; among = hits p.0 (record { shape = a; there = p.1; on = on; fits = meet }); there = p.1 }

pub near_inside : (shapes : List Shape) (layer : ℕ) (area : Rect) (place : ℕ) → IsNearShape shapes layer area place → place < length shapes
near_inside shapes layer area place hit = slice_get_within shapes place hit.shape hit.there

own_meets : (tile r : Rect) → HasCell tile r.x1 r.y1 → Meet r tile
own_meets tile r h =
    let w = r.wide in
    let t = r.tall in
    record { left = omega (arith, ints, h.right); right = omega (arith, ints, h.left, w); low = omega (arith, ints, h.high); high = omega (arith, ints, h.low, t) }

-- a shape meets the part of an area that lies in the tile
pub part_meets : (tile rect part b : Rect) → part.x1 ≡ int_max rect.x1 tile.x1 → part.y1 ≡ int_max rect.y1 tile.y1 → int_min rect.x2 tile.x2 ≤ℤ part.x2 → int_min rect.y2 tile.y2 ≤ℤ part.y2 → Meet b rect
    → HasCell tile (int_max rect.x1 b.x1) (int_max rect.y1 b.y1) → Meet b part
part_meets tile rect part b x1 y1 x2 y2 m h =
    let w = b.wide in
    let t = b.tall in
    record {
      left = omega (arith, ints, clamps, x2, m.left, m.right, h.right);
      right = omega (arith, ints, clamps, x1, m.left, m.right, h.left, w);
      low = omega (arith, ints, clamps, y2, m.low, m.high, h.high);
      high = omega (arith, ints, clamps, y1, m.low, m.high, h.low, t);
    }

-- a first shape meets the grown tile
corner_meets : (min : ℤ) (a b : Shape) (tile area grown : Rect) → pos 1 ≤ℤ min → AreNear min a.rect b.rect → IsGrown min tile area → IsGrown min a.rect grown
    → HasCell tile (int_max (a.rect.x1 -ℤ min) b.rect.x1) (int_max (a.rect.y1 -ℤ min) b.rect.y1) → Meet a.rect area
corner_meets min a b tile area grown some near t g h =
    let m = near_meets min a.rect b.rect grown some near g in
    let w = a.rect.wide in
    let u = a.rect.tall in
    record {
      left = omega (arith, ints, clamps, h.right, t.right);
      right = omega (arith, ints, clamps, h.left, t.left, m.left, m.right, g.left, g.right, w, some);
      low = omega (arith, ints, clamps, h.high, t.high);
      high = omega (arith, ints, clamps, h.low, t.low, m.low, m.high, g.low, g.high, u, some);
    }

width_each : (layer : ℕ) (min : ℤ) (shapes : List Shape) (tile : Rect) (places : List ℕ) → AreListed shapes layer tile places → (a : Shape) (b : Option Shape) → Contains shapes a → Breaks (Width layer min) shapes a b → Owns tile (Width layer min) a b
    → IsShapeListed shapes places a
width_each layer min shapes tile places hits a None h breaks owned = near_listed shapes layer tile places a hits h breaks.on (own_meets tile a.rect owned)
width_each layer min shapes tile places hits a (Some b) h breaks owned = absurd breaks

pub width_firsts : (layer : ℕ) (min : ℤ) (shapes : List Shape) (tile : Rect) (places : List ℕ) → ArePlaces shapes places → AreListed shapes layer tile places → AreFirstPlaces (Width layer min) shapes tile places
width_firsts layer min shapes tile places are hits = record { inside = are; each = λ a b h later. width_each layer min shapes tile places hits a b h }

enclose_each : (layer : ℕ) (by : List ℕ) (min : ℤ) (shapes : List Shape) (tile : Rect) (places : List ℕ) → AreListed shapes layer tile places → (a : Shape) (b : Option Shape) → Contains shapes a → Breaks (Enclose layer by min) shapes a b
    → Owns tile (Enclose layer by min) a b → IsShapeListed shapes places a
enclose_each layer by min shapes tile places hits a None h breaks owned = near_listed shapes layer tile places a hits h breaks.on (own_meets tile a.rect owned)
enclose_each layer by min shapes tile places hits a (Some b) h breaks owned = absurd breaks

pub enclose_firsts : (layer : ℕ) (by : List ℕ) (min : ℤ) (shapes : List Shape) (tile : Rect) (places : List ℕ) → ArePlaces shapes places → AreListed shapes layer tile places → AreFirstPlaces (Enclose layer by min) shapes tile places
enclose_firsts layer by min shapes tile places are hits = record { inside = are; each = λ a b h later. enclose_each layer by min shapes tile places hits a b h }

pub grown_of : (min : ℤ) (r : Rect) → pos 1 ≤ℤ min → (g : Rect) × IsGrown min r g
grown_of min r some =
    let w = r.wide in
    let h = r.tall in
    (record { x1 = r.x1 -ℤ min; y1 = r.y1 -ℤ min; x2 = r.x2 +ℤ min; y2 = r.y2 +ℤ min; wide = omega (arith, ints, w, some); tall = omega (arith, ints, h, some) }, record { left = refl; right = refl; low = refl; high = refl })

space_each : (layer other : ℕ) (min : ℤ) (shapes : List Shape) (tile area : Rect) (places : List ℕ) → pos 1 ≤ℤ min → IsGrown min tile area → AreListed shapes (lesser layer other) area places → (a : Shape) (b : Option Shape) → Contains shapes a
    → IsLater shapes a b → Breaks (Space layer other min) shapes a b → Owns tile (Space layer other min) a b → IsShapeListed shapes places a
space_each layer other min shapes tile area places some t hits a None h later breaks owned = absurd breaks
space_each layer other min shapes tile area places some t hits a (Some b) h later breaks owned =
    let g = grown_of min a.rect some in
    near_listed shapes (lesser layer other) area places a hits h (on_lesser layer other a b breaks.on later.1) (corner_meets min a b tile area g.0 some breaks.near t g.1 owned)

pub space_firsts : (layer other : ℕ) (min : ℤ) (shapes : List Shape) (tile area : Rect) (places : List ℕ) → pos 1 ≤ℤ min → IsGrown min tile area → ArePlaces shapes places → AreListed shapes (lesser layer other) area places
    → AreFirstPlaces (Space layer other min) shapes tile places
space_firsts layer other min shapes tile area places some t are hits = record { inside = are; each = space_each layer other min shapes tile area places some t hits }

near_places : (shapes : List Shape) (layer : ℕ) (area : Rect) (none places : List ℕ) → none ≡ [] → Adds none places (IsNearShape shapes layer area) → ArePlaces shapes places × AreListed shapes layer area places
near_places shapes layer area none places empty a =
    let all = adds_all places (IsNearShape shapes layer area) (subst (λ (l : List ℕ). Adds l places (IsNearShape shapes layer area)) empty a) in
    (λ place h. near_inside shapes layer area place ((all place).0 h), λ place hit. (all place).1 hit)

pub width_listed : (rule : Rule) (layer : ℕ) (min : ℤ) (shapes : List Shape) (tile : Rect) (none places : List ℕ) → rule ≡ Width layer min → none ≡ [] → Adds none places (IsNearShape shapes layer tile) → AreFirstPlaces rule shapes tile places
width_listed rule layer min shapes tile none places is empty a =
    let n = near_places shapes layer tile none places empty a in
    subst (λ (r : Rule). AreFirstPlaces r shapes tile places) (sym is) (width_firsts layer min shapes tile places n.0 n.1)

pub enclose_listed : (rule : Rule) (layer : ℕ) (by : List ℕ) (min : ℤ) (shapes : List Shape) (tile : Rect) (none places : List ℕ) → rule ≡ Enclose layer by min → none ≡ [] → Adds none places (IsNearShape shapes layer tile)
    → AreFirstPlaces rule shapes tile places
enclose_listed rule layer by min shapes tile none places is empty a =
    let n = near_places shapes layer tile none places empty a in
    subst (λ (r : Rule). AreFirstPlaces r shapes tile places) (sym is) (enclose_firsts layer by min shapes tile places n.0 n.1)

pub space_listed : (rule : Rule) (layer other : ℕ) (min : ℤ) (shapes : List Shape) (tile area : Rect) (none places : List ℕ) → rule ≡ Space layer other min → HasMinimum rule → IsGrown min tile area → none ≡ []
    → Adds none places (IsNearShape shapes (lesser layer other) area) → AreFirstPlaces rule shapes tile places
space_listed rule layer other min shapes tile area none places is minimum grown empty a =
    let n = near_places shapes (lesser layer other) area none places empty a in
    let m : IsMinimum min = subst HasMinimum is minimum in
    subst (λ (r : Rule). AreFirstPlaces r shapes tile places) (sym is) (space_firsts layer other min shapes tile area places m.positive grown n.0 n.1)

-- rules that no two shapes break
pub width_alone : (rule : Rule) (layer : ℕ) (min : ℤ) (shapes : List Shape) → rule ≡ Width layer min → IsForOne rule shapes
width_alone rule layer min shapes is a b breaks = subst (λ (r : Rule). Breaks r shapes a (Some b)) is breaks

pub enclose_alone : (rule : Rule) (layer : ℕ) (by : List ℕ) (min : ℤ) (shapes : List Shape) → rule ≡ Enclose layer by min → IsForOne rule shapes
enclose_alone rule layer by min shapes is a b breaks = subst (λ (r : Rule). Breaks r shapes a (Some b)) is breaks

-- the rule, whose minimum was read
pub width_read : (number : ℕ) (rule : Rule) (layer : ℕ) (min read : ℤ) (shapes : List Shape) (tile : Rect) (first : First) (old new : List Violation) → rule ≡ Width layer min → read ≡ min
    → Adds old new (IsFromIn number (Width layer read) shapes tile first) → Adds old new (IsFromIn number rule shapes tile first)
width_read number rule layer min read shapes tile first old new is same a =
    subst (λ (r : Rule). Adds old new (IsFromIn number r shapes tile first)) (sym is) (subst (λ (m : ℤ). Adds old new (IsFromIn number (Width layer m) shapes tile first)) same a)

pub enclose_read : (number : ℕ) (rule : Rule) (layer : ℕ) (by : List ℕ) (min read : ℤ) (shapes : List Shape) (tile : Rect) (first : First) (old new : List Violation) → rule ≡ Enclose layer by min → read ≡ min
    → Adds old new (IsFromIn number (Enclose layer by read) shapes tile first) → Adds old new (IsFromIn number rule shapes tile first)
enclose_read number rule layer by min read shapes tile first old new is same a =
    subst (λ (r : Rule). Adds old new (IsFromIn number r shapes tile first)) (sym is) (subst (λ (m : ℤ). Adds old new (IsFromIn number (Enclose layer by m) shapes tile first)) same a)

-- the area has the corner of what breaks a rule
corner_in : (area : Rect) (shapes : List Shape) (min : ℤ) (a : Shape) (b : Option Shape) → HasCorners area shapes → pos 1 ≤ℤ min → Contains shapes a → IsLater shapes a b → HasCell area (corner min a b).x (corner min a b).y
corner_in area shapes min a None corners some h later = corners a h
corner_in area shapes min a (Some b) corners some h later =
    let p = corners a h in
    let q = corners b later.0 in
    record {
      left = omega (arith, ints, clamps, q.left);
      right = omega (arith, ints, clamps, p.right, q.right, some);
      low = omega (arith, ints, clamps, q.low);
      high = omega (arith, ints, clamps, p.high, q.high, some);
    }

positive : (rule : Rule) → HasMinimum rule → pos 1 ≤ℤ minimum rule
positive (Width layer min) h = h.positive
positive (Space layer other min) h = h.positive
positive (Enclose layer by min) h = h.positive

-- so some tile owns it
pub owner_of : (rules : List Rule) (shapes : List Shape) (tiles : List Rect) (v : Violation) → All HasMinimum rules → AreTiles shapes tiles → IsViolation rules shapes v
    → (index : ℕ) × (t : Rect) × (slice_get tiles index ≡ Some t) × IsFoundIn rules shapes t v
owner_of rules shapes tiles v minimums are w =
    let some = positive w.rule (All-contains HasMinimum rules w.rule minimums (contained_at rules v.rule w.rule w.numbered)) in
    let inside = corner_in are.area shapes (minimum w.rule) v.first v.second are.corners some w.first w.second in
    let t = cell_tile tiles _ _ (are.tiling.covered _ _ inside) in
    let p = place_of tiles t.0 t.1 in
    (p.0, t.0, p.1, record { violation = w; owned = t.2 })
