-- Which pairs the shapes of a run make with what is found in a leaf.
use Rattle.std.proofs.Common.{◌≡◌, ◌⊎◌, inl, inr, ℕ, ◌+◌, ◌<◌, ◌≤◌, List, [], length, get_or, Some, refl, sym, ap, subst, ◌∙◌, arith}
use Rattle.std.specs.Prelude.{slice_get, Contains}
use Rattle.std.proofs.lemmas.Bool.{cases_lt}
use Rattle.std.proofs.lemmas.Int.{ints}
use Rattle.std.proofs.lemmas.Option.{slice_get_within, slice_get-get_or, get_or_from_slice_get}
use Rattle.or_geom.specs.declared.shape.Rect.{Rect}
use Rattle.or_geom.specs.declared.shape.Shape.{Shape}
use Rattle.or_geom.specs.Adds.{Adds}
use Rattle.or_geom.specs.Containing.{HoldsRect}
use Rattle.or_geom.specs.Gathering.{SomeHas}
use Rattle.or_geom.proofs.GatheringLaws.{some_has, who_has}
use Rattle.or_geom.proofs.ListLaws.{one_at}
use Rattle.tech_rules.specs.declared.tech.Connect.{Connect}
use Rattle.tech_rules.specs.Touch.{IsConductor, IsCutTo}
use Rattle.shape_bins.specs.declared.query.Query.TheVariants.{Meets}
use Rattle.shape_bins.specs.Hits.{IsHit}
use Rattle.shape_bins.specs.Meets.{Meet}
use Rattle.shape_bins.specs.Places.{HasBetween, IsListedBetween}
use Rattle.net_extractor.specs.declared.contacts.Contact.{Contact}
use Rattle.net_extractor.specs.declared.contacts.Contact.TheVariants.{Joined, Overlapping}
use Rattle.net_extractor.specs.declared.run.NearRun.{NearRun}
use Rattle.net_extractor.specs.declared.run.RunShape.{RunShape}
use Rattle.net_extractor.specs.Contacts.{AreInContact, ArePlacesBelow, IsInContactAt, IsInContactTo}
use Rattle.net_extractor.specs.Marks.{IsPairBetween}
use Rattle.net_extractor.specs.NetRoots.{IsTouchPair}
use Rattle.net_extractor.specs.RunPairs.{IsContactPairOf, IsCutPairOf, IsLayerPairOf, IsListedPair, IsOverPairOf, IsRunPair}
use Rattle.net_extractor.specs.Runs.{AreOfRun, HasPlace, IsNearRun}

-- the list has exactly the numbers that have P
pub record AreAll (P : ℕ → Type 0) (list : List ℕ) : Type 0 where
  pub only : (n : ℕ) → Contains list n → P n
  pub each : (n : ℕ) → P n → Contains list n

-- what was added to an empty list
pub all_added : (P : ℕ → Type 0) (none list : List ℕ) → none ≡ [] → Adds none list P → AreAll P list
all_added P none list e a =
    let b : Adds [] list P = subst (λ (l : List ℕ). Adds l list P) e a in
    record {
      only = λ n h. b.only n (subst (λ (l : List ℕ). Contains l n) b.is h);
      each = λ n p. subst (λ (l : List ℕ). Contains l n) (sym b.is) (b.each n p);
    }

-- what is in contact with a rectangle in the hull meets the hull
contact_near : (contact : Contact) (hull a b : Rect) → HoldsRect hull a → AreInContact contact a b → Meet b hull
contact_near Joined hull a b held j = record {
  left = omega (arith, ints, held.right, j.p_in_a.right, j.p_in_b.left);
  right = omega (arith, ints, held.left, j.p_in_a.left, j.p_in_b.right);
  low = omega (arith, ints, held.high, j.p_in_a.high, j.p_in_b.low);
  high = omega (arith, ints, held.low, j.p_in_a.low, j.p_in_b.high);
}
contact_near Overlapping hull a b held s = record {
  left = omega (arith, ints, held.right, s.in_a.right, s.in_b.left);
  right = omega (arith, ints, held.left, s.in_a.left, s.in_b.right);
  low = omega (arith, ints, held.high, s.in_a.high, s.in_b.low);
  high = omega (arith, ints, held.low, s.in_a.low, s.in_b.high);
}

pub run_within : (shapes : List Shape) (run : NearRun) (own : List RunShape) (count : ℕ) → count ≡ length shapes → AreOfRun shapes run own → ArePlacesBelow count own
run_within shapes run own count sized of shape h = let lt = slice_get_within shapes shape.place _ (of shape h).there in omega (arith, lt, sized)

module _ (shapes : List Shape) (run : NearRun) (own : List RunShape) (of : AreOfRun shapes run own) where
  -- a shape of the run as a shape of the list
  abbrev whole : RunShape → Shape
  whole o = record { layer = run.layer; rect = o.rect }

  whole_at : (a : ℕ) (one : Shape) (p : HasPlace own a) → slice_get shapes a ≡ Some one → whole p.shape ≡ one
  whole_at a one p there = one_at shapes a (whole p.shape) one (subst (λ (k : ℕ). slice_get shapes k ≡ Some (whole p.shape)) p.is (of p.shape p.listed).there) there

  whole_contact : (contact : Contact) (layer a b : ℕ) (h : IsContactPairOf shapes own contact layer a b) → AreInContact contact h.0.shape.rect h.1.other.rect
  whole_contact contact layer a b h = subst (λ (s : Shape). AreInContact contact s.rect h.1.other.rect) (sym (whole_at a h.1.one h.0 h.1.first)) h.1.so.so

  -- the second of a pair meets the hull
  pub pair_hit : (contact : Contact) (layer a b : ℕ) → IsContactPairOf shapes own contact layer a b → IsHit shapes layer (Meets run.hull) b
  pair_hit contact layer a b h = record {
    shape = h.1.other;
    there = h.1.second;
    on = h.1.so.on;
    fits = contact_near contact run.hull h.0.shape.rect h.1.other.rect (of h.0.shape h.0.listed).held (whole_contact contact layer a b h);
  }

  -- what is found between two positions makes the pairs of which the second stands there
  pub contact_pair : (contact : Contact) (layer : ℕ) (places found : List ℕ) (first end place a b : ℕ) → AreAll (HasBetween (IsHit shapes layer (Meets run.hull)) places first end) found → Contains found place → IsInContactAt contact shapes own place a b
      → IsPairBetween (IsContactPairOf shapes own contact layer) places first end a b
  contact_pair contact layer places found first end place a b near h j =
      let hit = near.only place h in
      let some = who_has (λ (o : RunShape). IsInContactTo contact place j.shape.rect o a b) own j.some in
      let o = some.0 in
      let t = some.2 in
      let same : hit.1.shape ≡ j.shape = one_at shapes place hit.1.shape j.shape hit.1.there j.there in (
        (
          record { shape = o; listed = some.1; is = sym t.pair.first },
          record {
            one = whole o;
            other = j.shape;
            first = subst (λ (k : ℕ). slice_get shapes k ≡ Some (whole o)) (sym t.pair.first) (of o some.1).there;
            second = subst (λ (k : ℕ). slice_get shapes k ≡ Some j.shape) (sym t.pair.second) j.there;
            so = record { on = ap (λ (s : Shape). s.layer) (sym same) ∙ hit.1.on; so = t.so };
          },
        ),
        subst (IsListedBetween places first end) (sym t.pair.second) hit.0,
      )

  pub pair_contact : (contact : Contact) (layer : ℕ) (places found : List ℕ) (first end a b : ℕ) → AreAll (HasBetween (IsHit shapes layer (Meets run.hull)) places first end) found → IsPairBetween (IsContactPairOf shapes own contact layer) places first end a b
      → SomeHas (λ (place : ℕ). IsInContactAt contact shapes own place a b) found
  pair_contact contact layer places found first end a b near h =
      let p = h.0.0 in
      let t = h.0.1 in
      some_has (λ (place : ℕ). IsInContactAt contact shapes own place a b) found b (near.each b (h.1, pair_hit contact layer a b h.0))
      (record {
        shape = t.other;
        there = t.second;
        some = some_has (λ (s : RunShape). IsInContactTo contact b t.other.rect s a b) own p.shape p.listed (record { so = whole_contact contact layer a b h.0; pair = record { first = sym p.is; second = refl } });
      })

module _ (connections : List Connect) (shapes : List Shape) (run : NearRun) (own : List RunShape) (of : AreOfRun shapes run own) where
  -- what is joined on the run's layer, where that is a conductor
  pub layer_pair : (a b : ℕ) → IsConductor connections run.layer → IsContactPairOf shapes own Joined run.layer a b → IsLayerPairOf connections shapes own a b
  layer_pair a b conductor h =
      let t = h.1 in
      let on : t.one.layer ≡ run.layer = ap (λ (s : Shape). s.layer) (sym (whole_at shapes run own of a t.one h.0 t.first)) in
      (h.0, record { one = t.one; other = t.other; first = t.first; second = t.second; so = record { one_layer = on ∙ sym t.so.on; conductor = subst (IsConductor connections) (sym on) conductor; joined = t.so.so } })

  -- the layer of a pair is a conductor
  pub conductor_of : (a b : ℕ) → IsLayerPairOf connections shapes own a b → IsConductor connections run.layer
  conductor_of a b h = subst (λ (s : Shape). IsConductor connections s.layer) (sym (whole_at shapes run own of a h.1.one h.0 h.1.first)) h.1.so.conductor

  pub pair_joined : (a b : ℕ) → IsLayerPairOf connections shapes own a b → IsContactPairOf shapes own Joined run.layer a b
  pair_joined a b h =
      let t = h.1 in
      let on : t.one.layer ≡ run.layer = ap (λ (s : Shape). s.layer) (sym (whole_at shapes run own of a t.one h.0 t.first)) in
      (h.0, record { one = t.one; other = t.other; first = t.first; second = t.second; so = record { on = sym t.so.one_layer ∙ on; so = t.so.joined } })

  -- over the layers that the run's layer connects as a cut
  pub cut_pair : (layers : List ℕ) (a b : ℕ) → AreAll (IsCutTo connections run.layer) layers → SomeHas (λ (layer : ℕ). IsOverPairOf shapes own layer a b) layers → IsCutPairOf connections shapes own a b
  cut_pair layers a b cuts h =
      let some = who_has (λ (layer : ℕ). IsOverPairOf shapes own layer a b) layers h in
      let p = some.2.0 in
      let t = some.2.1 in
      let same = whole_at shapes run own of a t.one p t.first in
      let to : IsCutTo connections t.one.layer some.0 = subst (λ (s : Shape). IsCutTo connections s.layer some.0) same (cuts.only some.0 some.1) in
      (p, record { one = t.one; other = t.other; first = t.first; second = t.second; so = record { connects = subst (λ (l : ℕ). IsCutTo connections t.one.layer l) (sym t.so.on) to; area = t.so.so } })

  pub pair_cut : (layers : List ℕ) (a b : ℕ) → AreAll (IsCutTo connections run.layer) layers → IsCutPairOf connections shapes own a b → SomeHas (λ (layer : ℕ). IsOverPairOf shapes own layer a b) layers
  pair_cut layers a b cuts h =
      let p = h.0 in
      let t = h.1 in
      let same = whole_at shapes run own of a t.one p t.first in
      let to : IsCutTo connections run.layer t.other.layer = subst (λ (s : Shape). IsCutTo connections s.layer t.other.layer) (sym same) t.so.connects in
      some_has (λ (layer : ℕ). IsOverPairOf shapes own layer a b) layers t.other.layer (cuts.each t.other.layer to)
      (p, record { one = t.one; other = t.other; first = t.first; second = t.second; so = record { on = refl; so = t.so.area } })

  -- on the layer or as a cut
  pub touch_pair : (layers : List ℕ) (a b : ℕ) → AreAll (IsCutTo connections run.layer) layers → IsLayerPairOf connections shapes own a b ⊎ SomeHas (λ (layer : ℕ). IsOverPairOf shapes own layer a b) layers → IsRunPair connections shapes own a b
  touch_pair layers a b cuts (inl on) = (on.0, inl on.1)
  touch_pair layers a b cuts (inr over) = let cut = cut_pair layers a b cuts over in (cut.0, inr cut.1)

  pub pair_touch : (layers : List ℕ) (a b : ℕ) → AreAll (IsCutTo connections run.layer) layers → IsRunPair connections shapes own a b → IsLayerPairOf connections shapes own a b ⊎ SomeHas (λ (layer : ℕ). IsOverPairOf shapes own layer a b) layers
  pair_touch layers a b cuts h = elim h.1 [
    | inl on ↦ inl (h.0, on)
    | inr cut ↦ inr (pair_cut layers a b cuts (h.0, cut))
  ]

-- the first of a pair is a place of a shape
touch_within : (connections : List Connect) (shapes : List Shape) (a b : ℕ) → IsTouchPair connections shapes a b → a < length shapes
touch_within connections shapes a b (inl l) = slice_get_within shapes a l.one l.first
touch_within connections shapes a b (inr c) = slice_get_within shapes a c.one c.first

-- a position at which no place of a shape stands makes no pair
pub no_pair : (connections : List Connect) (shapes : List Shape) (order : List ℕ) (begin a b : ℕ) → length shapes ≤ get_or order begin 0 → IsListedPair connections shapes order begin (begin + 1) a b → ⊥
no_pair connections shapes order begin a b past h =
    let l = h.0 in
    let from = l.from in
    let to = l.to in
    let same : l.at ≡ begin = omega (arith, from, to) in
    let is : get_or order begin 0 ≡ a = ap (λ (n : ℕ). get_or order n 0) (sym same) ∙ get_or_from_slice_get order l.at a 0 l.there in
    let lt = touch_within connections shapes a b h.1 in
    absurd (omega (arith, past, is, lt))

pub listed_pair : (connections : List Connect) (shapes : List Shape) (order : List ℕ) (begin : ℕ) (run : NearRun) (own : List RunShape) (a b : ℕ) → IsNearRun shapes order begin run own → IsRunPair connections shapes own a b → IsListedPair connections shapes order begin run.end a b
listed_pair connections shapes order begin run own a b r h = (subst (λ (k : ℕ). IsListedBetween order begin run.end k) h.0.is (r.placed h.0.shape h.0.listed), h.1)

pub pair_listed : (connections : List Connect) (shapes : List Shape) (order : List ℕ) (begin : ℕ) (run : NearRun) (own : List RunShape) (a b : ℕ) → IsNearRun shapes order begin run own → IsListedPair connections shapes order begin run.end a b → IsRunPair connections shapes own a b
pair_listed connections shapes order begin run own a b r h = (r.each a h.0, h.1)

-- a pair of what stands in the order up to one position, or from there up to another
pub pair_either : (connections : List Connect) (shapes : List Shape) (order : List ℕ) (at end a b : ℕ) → at < end → IsListedPair connections shapes order 0 at a b ⊎ IsListedPair connections shapes order at end a b → IsListedPair connections shapes order 0 end a b
pair_either connections shapes order at end a b lt (inl h) = let to = h.0.to in (record { at = h.0.at; from = omega arith; to = omega (arith, lt, to); there = h.0.there }, h.1)
pair_either connections shapes order at end a b lt (inr h) = (record { at = h.0.at; from = omega arith; to = h.0.to; there = h.0.there }, h.1)

pub pair_cases : (connections : List Connect) (shapes : List Shape) (order : List ℕ) (at end a b : ℕ) → IsListedPair connections shapes order 0 end a b → IsListedPair connections shapes order 0 at a b ⊎ IsListedPair connections shapes order at end a b
pair_cases connections shapes order at end a b h = elim (cases_lt h.0.at at) [
  | inl lt ↦ inl (record { at = h.0.at; from = h.0.from; to = lt; there = h.0.there }, h.1)
  | inr ge ↦ inr (record { at = h.0.at; from = ge; to = h.0.to; there = h.0.there }, h.1)
]

pub no_listed : (order : List ℕ) (a : ℕ) → IsListedBetween order 0 0 a → ⊥
no_listed order a l = let to = l.to in absurd (omega (arith, to))

-- no position is beyond the order's end
pub listed_within : (order : List ℕ) (end a : ℕ) → IsListedBetween order 0 end a → IsListedBetween order 0 (length order) a
listed_within order end a l = record { at = l.at; from = l.from; to = slice_get_within order l.at a l.there; there = l.there }

pub listed_beyond : (order : List ℕ) (end a : ℕ) → length order ≤ end → IsListedBetween order 0 (length order) a → IsListedBetween order 0 end a
listed_beyond order end a past l = let to = l.to in record { at = l.at; from = l.from; to = omega (arith, past, to); there = l.there }

-- where the order has each place, a pair is one of it
pub touch_listed : (connections : List Connect) (shapes : List Shape) (order : List ℕ) (a b : ℕ) → ((place : ℕ) → place < length shapes → Contains order place) → IsTouchPair connections shapes a b → IsListedPair connections shapes order 0 (length order) a b
touch_listed connections shapes order a b whole_order touch =
    let h = whole_order a (touch_within connections shapes a b touch) in
    (record { at = h.0; from = omega arith; to = h.1; there = slice_get-get_or order h.0 a h.1 ∙ ap (λ (n : ℕ). Some n) h.2 }, touch)
