-- The candidates that are kept of a tile answer for each area in it.
use Rattle.std.proofs.Common.{◌≡◌, ℕ, List, [], Some, refl, sym, subst, ◌∙◌, arith}
use Rattle.std.specs.Prelude.{slice_get}
use Rattle.std.proofs.lemmas.Int.{ints}
use Rattle.std.proofs.lemmas.Option.{slice_get_within}
use Rattle.std.proofs.lemmas.List.Sorted.{Contains-permutation, IsPermutation-sym}
use Rattle.std.specs.List.Sorted.{IsPermutation}
use Rattle.or_geom.specs.declared.shape.Rect.{Rect}
use Rattle.or_geom.specs.declared.shape.Shape.{Shape}
use Rattle.or_geom.specs.Adds.{Adds}
use Rattle.or_geom.specs.Containing.{HoldsRect}
use Rattle.or_geom.specs.Gathering.{SomeGives}
use Rattle.or_geom.proofs.AddsLaws.{adds_as}
use Rattle.or_geom.proofs.GatheringLaws.{giver, gives_some}
use Rattle.or_geom.proofs.ListLaws.{one_at}
use Rattle.shape_bins.specs.Hits.{IsNearShape}
use Rattle.shape_bins.specs.Meets.{Meet}
use Rattle.tile_checker.specs.declared.candidates.Candidate.{Candidate}
use Rattle.tile_checker.specs.Firsts.{ArePlaces}
use Rattle.tile_checker.specs.Candidates.{IsCandidateAt, IsCandidate, AreCandidates, AreCandidatesOver, MeetsAt}
use Rattle.tile_checker.proofs.PlaceLaws.{adds_all}

-- what was added to a list that had been emptied, as it is read
pub near_read : (shapes : List Shape) (layer : ℕ) (area : Rect) (none places read : List ℕ) → none ≡ [] → read ≡ places → Adds none places (IsNearShape shapes layer area) → Adds [] read (IsNearShape shapes layer area)
near_read shapes layer area none places read empty same adds =
    subst (λ (l : List ℕ). Adds [] l (IsNearShape shapes layer area)) (sym same) (subst (λ (l : List ℕ). Adds l places (IsNearShape shapes layer area)) empty adds)

-- sorted they are the same
pub near_sorted : (shapes : List Shape) (layer : ℕ) (area : Rect) (places sorted read : List ℕ) → IsPermutation places sorted → read ≡ sorted → Adds [] places (IsNearShape shapes layer area) → Adds [] read (IsNearShape shapes layer area)
near_sorted shapes layer area places sorted read moved same adds =
    let all = adds_all places (IsNearShape shapes layer area) adds in
    subst (λ (l : List ℕ). Adds [] l (IsNearShape shapes layer area)) (sym same) (record {
      added = sorted;
      is = refl;
      only = λ place h. (all place).0 (Contains-permutation sorted places place (IsPermutation-sym places sorted moved) h);
      each = λ place near. Contains-permutation places sorted place moved ((all place).1 near);
    })

-- shapes stand at the places
pub near_places : (shapes : List Shape) (layer : ℕ) (area : Rect) (places : List ℕ) → Adds [] places (IsNearShape shapes layer area) → ArePlaces shapes places
near_places shapes layer area places adds = λ place h.
    let hit = (adds_all places (IsNearShape shapes layer area) adds place).0 h in
    slice_get_within shapes place hit.shape hit.there

-- a place has one shape
pub same_at : (shapes : List Shape) (place : ℕ) (s : Shape) (candidate : Candidate) → slice_get shapes place ≡ Some s → IsCandidateAt shapes place candidate → candidate ≡ record { place = place; rect = s.rect }
same_at shapes place s candidate at p =
    let e : p.shape ≡ s = one_at shapes place p.shape s p.there at in
    p.is ∙ (λ i. record { place = place; rect = (e i).rect })

candidate_is : (shapes : List Shape) (layer : ℕ) (area : Rect) (place : ℕ) (candidate : Candidate) → IsNearShape shapes layer area place → IsCandidateAt shapes place candidate → IsCandidate shapes layer area candidate
candidate_is shapes layer area place candidate hit p =
    let e : p.shape ≡ hit.shape = one_at shapes place p.shape hit.shape p.there hit.there in
    let at : candidate.place ≡ place = λ i. (p.is i).place in
    record {
      shape = hit.shape;
      there = subst (λ (k : ℕ). slice_get shapes k ≡ Some hit.shape) (sym at) hit.there;
      on = hit.on;
      is = (λ i. (p.is i).rect) ∙ (λ i. (e i).rect);
      meets = hit.fits;
    }

-- the shapes at the places of all that meet an area
pub candidates_are : (shapes : List Shape) (layer : ℕ) (area : Rect) (places : List ℕ) (candidates : List Candidate) → Adds [] places (IsNearShape shapes layer area) → Adds [] candidates (SomeGives (IsCandidateAt shapes) places) → AreCandidates shapes layer area candidates
candidates_are shapes layer area places candidates near adds =
    let all = adds_all places (IsNearShape shapes layer area) near in
    adds_all candidates (IsCandidate shapes layer area)
    (adds_as [] candidates (SomeGives (IsCandidateAt shapes) places) (IsCandidate shapes layer area)
    (λ candidate g. let r = giver (IsCandidateAt shapes) places candidate g in candidate_is shapes layer area r.0 candidate ((all r.0).0 r.1) r.2)
    (λ candidate s. gives_some (IsCandidateAt shapes) places candidate candidate.place
    ((all candidate.place).1 (record { shape = s.shape; there = s.there; on = s.on; fits = s.meets }))
    (record { shape = s.shape; there = s.there; is = λ i. record { place = candidate.place; rect = s.is i } }))
    adds)

-- what meets an area meets each that holds it
meets_more : (r asked area : Rect) → HoldsRect asked area → Meet r area → Meet r asked
meets_more r asked area h m = record {
  left = omega (arith, ints, h.right, m.left);
  right = omega (arith, ints, h.left, m.right);
  low = omega (arith, ints, h.high, m.low);
  high = omega (arith, ints, h.low, m.high);
}

-- of those, the ones that meet an area which the other holds
pub candidates_answer : (shapes : List Shape) (layer : ℕ) (area : Rect) (candidates : List Candidate) (old new : List ℕ) → AreCandidatesOver shapes layer area candidates → Adds old new (SomeGives (MeetsAt area) candidates) → Adds old new (IsNearShape shapes layer area)
candidates_answer shapes layer area candidates old new over adds =
    adds_as old new (SomeGives (MeetsAt area) candidates) (IsNearShape shapes layer area)
    (λ place g.
    let r = giver (MeetsAt area) candidates place g in
    let s = (over.are r.0).0 r.1 in
    record {
      shape = s.shape;
      there = subst (λ (k : ℕ). slice_get shapes k ≡ Some s.shape) (sym r.2.is) s.there;
      on = s.on;
      fits = subst (λ (b : Rect). Meet b area) s.is r.2.meets;
    })
    (λ place hit. gives_some (MeetsAt area) candidates place (record { place = place; rect = hit.shape.rect })
    ((over.are (record { place = place; rect = hit.shape.rect })).1
    (record { shape = hit.shape; there = hit.there; on = hit.on; is = refl; meets = meets_more hit.shape.rect over.asked area over.holds hit.fits }))
    (record { is = refl; meets = hit.fits }))
    adds

-- those that are kept of a layer and an area, as they are read
pub kept_are : (shapes : List Shape) (own layer : ℕ) (asked area : Rect) (candidates read : List Candidate) → own ≡ layer → read ≡ candidates → HoldsRect asked area → AreCandidates shapes own asked candidates → AreCandidatesOver shapes layer area read
kept_are shapes own layer asked area candidates read on same holds are = record {
  asked = asked;
  holds = holds;
  are = subst (λ (l : List Candidate). AreCandidates shapes layer asked l) (sym same) (subst (λ (k : ℕ). AreCandidates shapes k asked candidates) on are);
}
