-- Sweeping a ring from its lowest height up.
use Rattle.std.proofs.Common.{◌≡◌, ◌≢◌, ◌⊎◌, inl, inr, ◌+◌, ◌<◌, length, length-append, append_assoc, List, [], ◌∷◌, ◌++◌, ℤ, ◌≤ℤ◌, ◌<ℤ◌, Bool, true, false, not, refl, ap, sym, subst, ◌∙◌, arith}
use Rattle.std.specs.Prelude.{int_le, Contains, IsPermutation}
use Rattle.std.proofs.lemmas.Int.{ints}
use Rattle.std.proofs.lemmas.List.Elements.{Contains-append_cases, Contains-append_left, Contains-append_right}
use Rattle.or_geom.specs.declared.shape.Point.{Point}
use Rattle.or_geom.specs.declared.shape.Rect.{Rect}
use Rattle.or_geom.proofs.ListLaws.{contains_none}
use Rattle.rectilinear.specs.declared.changes.Change.{Change}
use Rattle.rectilinear.specs.declared.ends.End.{End}
use Rattle.rectilinear.specs.declared.ring.RingSide.{RingSide}
use Rattle.rectilinear.specs.Ring.{sides_of}
use Rattle.rectilinear.specs.Slabs.{xor, HasHeight, IsSlab, AreDistinct, IsSlabList}
use Rattle.rectilinear.specs.Rows.{is_odd, is_odd_to, AreEnds, ArePairs}
use Rattle.rectilinear.specs.Heights.{IsNext, AreSlabsFrom}
use Rattle.rectilinear.specs.Changes.{changes_of, ClimbFrom, Climb, HasChange, AreAtHeight, BeginsElsewhere, is_odd_count, is_odd_until, TogglesAll, Passes}
use Rattle.rectilinear.proofs.BandLaws.{band_slabs}
use Rattle.rectilinear.proofs.RingLaws.{ring_is_closed}
use Rattle.rectilinear.proofs.MemberLaws.{distinct_append}
use Rattle.rectilinear.proofs.RowEndLaws.{odd, passed_step, IsSweepOf, sweep_of, ends_of_row, has_append, append_right, append_left, at_height, climb_least, climb_past, climbs, all_above}

-- what the sweep has done so far: the ends are those of the changes done, and the slabs are those that begin at their heights
pub record Sweeps (corners : List Point) (all rest : List Change) (ends : List End) (out : List Rect) : Type 0 where
  pub of : IsSweepOf corners all
  pub done : List Change
  pub parts : all ≡ done ++ rest
  pub under : (h k : ℤ) → HasChange done h → HasChange rest k → h <ℤ k
  pub climb : Climb rest
  pub toggled : TogglesAll done [] ends
  pub only : (r : Rect) → Contains out r → IsSlab corners r
  pub each : (r : Rect) → IsSlab corners r → HasChange rest r.y1 ⊎ Contains out r
  pub past : (r : Rect) → Contains out r → HasChange rest r.y1 → ⊥
  pub distinct : AreDistinct out

pub sweep_begins : (corners : List Point) (sides : List RingSide) (all : List Change) → sides ≡ sides_of corners → IsPermutation (changes_of sides) all → Climb all → Sweeps corners all all [] []
sweep_begins corners sides all e same climb =
    let of = sweep_of corners all (subst (λ (ss : List RingSide). IsPermutation (changes_of ss) all) e same) in
    record {
      of = of;
      done = [];
      parts = refl;
      under = λ h k none has. absurd none;
      climb = climb;
      toggled = record { rise = tt; odd = refl; same = λ x. refl };
      only = λ r one. absurd (contains_none r one);
      each = λ r slab. let near = slab.heights in inl (of.back r.y1 near.has_low);
      past = λ r one has. contains_none r one;
      distinct = tt;
    }

count_both : (xs ys : List Change) (b : Bool) → xor (is_odd_count ys) (xor (is_odd_count xs) b) ≡ xor (is_odd_count (xs ++ ys)) b
count_both [] ys b = refl
count_both (x ∷ xs) ys b = turn (is_odd_count ys) (is_odd_count xs) b ∙ ap not (count_both xs ys b) ∙ turn_back (is_odd_count (xs ++ ys)) b
  where
    turn : (p q b : Bool) → xor p (xor (not q) b) ≡ not (xor p (xor q b))
    turn true true true = refl
    turn true true false = refl
    turn true false true = refl
    turn true false false = refl
    turn false true true = refl
    turn false true false = refl
    turn false false true = refl
    turn false false false = refl

    turn_back : (p b : Bool) → not (xor p b) ≡ xor (not p) b
    turn_back true true = refl
    turn_back true false = refl
    turn_back false b = refl

until_both : (xs ys : List Change) (x : ℤ) (b : Bool) → xor (is_odd_until ys x) (xor (is_odd_until xs x) b) ≡ xor (is_odd_until (xs ++ ys) x) b
until_both [] ys x b = refl
until_both (c ∷ cs) ys x b =
    apart (is_odd_until ys x) (int_le c.x x) (is_odd_until cs x) b ∙ ap (λ (t : Bool). xor (int_le c.x x) t) (until_both cs ys x b) ∙ passed_step (int_le c.x x) (is_odd_until (cs ++ ys) x) b
  where
    apart : (p l q b : Bool) → xor p (xor (xor l q) b) ≡ xor l (xor p (xor q b))
    apart true true true true = refl
    apart true true true false = refl
    apart true true false true = refl
    apart true true false false = refl
    apart true false q b = refl
    apart false true true true = refl
    apart false true true false = refl
    apart false true false true = refl
    apart false true false false = refl
    apart false false q b = refl

toggles_both : (xs ys : List Change) (old now new : List End) → TogglesAll xs old now → TogglesAll ys now new → TogglesAll (xs ++ ys) old new
toggles_both xs ys old now new a b = record {
  rise = b.rise;
  odd = b.odd ∙ ap (λ (t : Bool). xor (is_odd_count ys) t) a.odd ∙ count_both xs ys (is_odd old);
  same = λ x. b.same x ∙ ap (λ (t : Bool). xor (is_odd_until ys x) t) (a.same x) ∙ until_both xs ys x (is_odd_to old x);
}

-- the sweep stands at a height: its changes are done, and the slabs that begin there are still to come
pub record StandsAt (corners : List Point) (all rest : List Change) (low : ℤ) (ends : List End) (out : List Rect) : Type 0 where
  pub of : IsSweepOf corners all
  pub done : List Change
  pub parts : all ≡ done ++ rest
  pub at : HasChange done low
  pub under : (h : ℤ) → HasChange done h → h ≤ℤ low
  pub over : (h : ℤ) → HasChange rest h → low <ℤ h
  pub climb : Climb rest
  pub toggled : TogglesAll done [] ends
  pub only : (r : Rect) → Contains out r → IsSlab corners r
  pub each : (r : Rect) → IsSlab corners r → (r.y1 ≡ low) ⊎ (HasChange rest r.y1 ⊎ Contains out r)
  pub past : (r : Rect) → Contains out r → HasChange rest r.y1 → ⊥
  pub past_low : (r : Rect) → Contains out r → r.y1 ≢ low
  pub distinct : AreDistinct out

begins_here : (c : Change) (others passed rest : List Change) → c ∷ others ≡ passed ++ rest → BeginsElsewhere c.y rest → AreAtHeight c.y passed → HasChange passed c.y
begins_here c others [] [] e elsewhere level = absurd cc
begins_here c others [] (d ∷ ds) e elsewhere level = absurd (elsewhere (ap first (sym e)))
  where
    first : List Change → ℤ
    first [] = c.y
    first (x ∷ xs) = x.y
begins_here c others (d ∷ ds) rest e elsewhere level = inl (sym level.0)

pub stands_at : (corners : List Point) (all before others rest : List Change) (c : Change) (low : ℤ) (ends new : List End) (out : List Rect) → before ≡ c ∷ others → low ≡ c.y
    → Passes before low ends rest new → Sweeps corners all before ends out → StandsAt corners all rest low new out
stands_at corners all before others rest c low ends new out e at p s =
    let here : HasChange p.passed low = subst (λ (z : ℤ). HasChange p.passed z) (sym at)
    (begins_here c others p.passed rest (sym e ∙ p.parts) (subst (λ (z : ℤ). BeginsElsewhere z rest) at p.elsewhere) (subst (λ (z : ℤ). AreAtHeight z p.passed) at p.level)) in
    let in_before : (h : ℤ) → HasChange p.passed h ⊎ HasChange rest h → HasChange before h = λ h has. subst (λ (cs : List Change). HasChange cs h) (sym p.parts) (joined h has) in
    let climb : ClimbFrom low rest = climb_past low p.passed rest p.level (from_first (subst Climb e s.climb)) in
    record {
      of = s.of;
      done = s.done ++ p.passed;
      parts = s.parts ∙ ap (λ (cs : List Change). s.done ++ cs) p.parts ∙ sym (append_assoc s.done p.passed rest);
      at = append_right s.done p.passed low here;
      under = λ h has. elim (has_append s.done p.passed h has) [
        | inl a ↦ let lt = s.under h low a (in_before low (inl here)) in omega (arith, ints, lt)
        | inr b ↦ let is = at_height low p.passed h p.level b in omega (arith, ints, is)
      ];
      over = all_above low rest climb p.elsewhere;
      climb = climbs low rest climb;
      toggled = toggles_both s.done p.passed [] ends new s.toggled p.toggled;
      only = s.only;
      each = λ r slab. elim (s.each r slab) [
        | inl has ↦ elim (has_append p.passed rest r.y1 (subst (λ (cs : List Change). HasChange cs r.y1) p.parts has)) [
          | inl a ↦ inl (at_height low p.passed r.y1 p.level a)
          | inr b ↦ inr (inl b)
        ]
        | inr one ↦ inr (inr one)
      ];
      past = λ r one has. s.past r one (in_before r.y1 (inr has));
      past_low = λ r one is. s.past r one (subst (λ (z : ℤ). HasChange before z) (sym is) (in_before low (inl here)));
      distinct = s.distinct;
    }
  where
    joined : (h : ℤ) → HasChange p.passed h ⊎ HasChange rest h → HasChange (p.passed ++ rest) h
    joined h (inl a) = append_left p.passed rest h a
    joined h (inr b) = append_right p.passed rest h b

    from_first : Climb (c ∷ others) → ClimbFrom low (p.passed ++ rest)
    from_first climb = subst (λ (cs : List Change). ClimbFrom low cs) (sym e ∙ p.parts) (omega (arith, ints, at), climb)

row_ends : (corners : List Point) (all rest : List Change) (low : ℤ) (ends : List End) (out : List Rect) → StandsAt corners all rest low ends out → AreEnds (sides_of corners) low ends
row_ends corners all rest low ends out s = ends_of_row corners all s.done rest low ends s.of s.parts s.under s.over s.toggled

pub ends_are_even : (corners : List Point) (all rest : List Change) (low : ℤ) (ends : List End) (out : List Rect) → StandsAt corners all rest low ends out → is_odd ends ≡ false
ends_are_even corners all rest low ends out s = let are = row_ends corners all rest low ends out s in are.even ∙ ring_is_closed corners low

in_all : (corners : List Point) (all rest : List Change) (low : ℤ) (ends : List End) (out : List Rect) (s : StandsAt corners all rest low ends out) (h : ℤ) → HasHeight corners h → HasChange s.done h ⊎ HasChange rest h
in_all corners all rest low ends out s h has = let of = s.of in has_append s.done rest h (subst (λ (cs : List Change). HasChange cs h) s.parts (of.back h has))

-- above the highest corners there are no slabs
pub sweep_ends : (corners : List Point) (all rest : List Change) (low : ℤ) (ends : List End) (out : List Rect) → rest ≡ [] → StandsAt corners all rest low ends out → IsSlabList corners out
sweep_ends corners all rest low ends out e s = record {
  exact = λ r. (
    s.only r,
    λ slab. elim (s.each r slab) [
      | inl at ↦ absurd (above r slab at)
      | inr (inl has) ↦ absurd (subst (λ (cs : List Change). HasChange cs r.y1) e has)
      | inr (inr one) ↦ one
    ],
  );
  distinct = s.distinct;
}
  where
    above : (r : Rect) → IsSlab corners r → r.y1 ≡ low → ⊥
    above r slab at =
        let near = slab.heights in
        let tall = near.below in
        elim (in_all corners all rest low ends out s r.y2 near.has_high) [
          | inl done ↦ let le = s.under r.y2 done in omega (arith, ints, le, tall, at)
          | inr has ↦ subst (λ (cs : List Change). HasChange cs r.y2) e has
        ]

pub none_swept : (corners : List Point) (all rest : List Change) (ends : List End) (out : List Rect) → rest ≡ [] → Sweeps corners all rest ends out → IsSlabList corners out
none_swept corners all rest ends out e s = record {
  exact = λ r. (s.only r, λ slab. elim (s.each r slab) [ inl has ↦ absurd (subst (λ (cs : List Change). HasChange cs r.y1) e has) | inr one ↦ one ]);
  distinct = s.distinct;
}

-- the next height of corners is the first of the rest
next_height : (corners : List Point) (all rest others : List Change) (n : Change) (low : ℤ) (ends : List End) (out : List Rect) → rest ≡ n ∷ others → StandsAt corners all rest low ends out → IsNext corners low n.y
next_height corners all rest others n low ends out e s =
    let of = s.of in
    let first : HasChange rest n.y = subst (λ (cs : List Change). HasChange cs n.y) (sym e) (inl refl) in
    record {
      has = of.heights n.y (subst (λ (cs : List Change). HasChange cs n.y) (sym s.parts) (append_right s.done rest n.y first));
      above = s.over n.y first;
      none = λ h has lt. elim (in_all corners all rest low ends out s h has) [
        | inl done ↦ let le = s.under h done in absurd (omega (arith, ints, le, lt))
        | inr later ↦ least h (subst (λ (cs : List Change). HasChange cs h) e later) (subst Climb e s.climb)
      ];
    }
  where
    least : (h : ℤ) → HasChange (n ∷ others) h → Climb (n ∷ others) → n.y ≤ℤ h
    least h (inl is) climb = omega (arith, ints, is)
    least h (inr has) climb = climb_least n.y others h climb has

pub sweep_more : (corners : List Point) (all rest others : List Change) (n : Change) (low low2 high2 : ℤ) (ends : List End) (old new : List Rect) → rest ≡ n ∷ others → (low2 ≡ low) × (high2 ≡ n.y)
    → ((added : List Rect) × (new ≡ old ++ added) × ArePairs ends low2 high2 added) → StandsAt corners all rest low ends old → Sweeps corners all rest ends new
sweep_more corners all rest others n low low2 high2 ends old new e at more s =
    let of = s.of in
    let has_low : HasHeight corners low = of.heights low (subst (λ (cs : List Change). HasChange cs low) (sym s.parts) (append_left s.done rest low s.at)) in
    let pairs : ArePairs ends low n.y more.0 = subst (λ (z : ℤ). ArePairs ends low z more.0) at.1 (subst (λ (z : ℤ). ArePairs ends z high2 more.0) at.0 more.2) in
    let from : AreSlabsFrom corners low more.0 = band_slabs corners low n.y ends more.0 has_low (next_height corners all rest others n low ends old e s) (row_ends corners all rest low ends old s) pairs in
    record {
      of = s.of;
      done = s.done;
      parts = s.parts;
      under = λ h k done has. let le = s.under h done in let lt = s.over k has in omega (arith, ints, le, lt);
      climb = s.climb;
      toggled = s.toggled;
      only = λ r one. elim (cases r one) [ inl a ↦ s.only r a | inr b ↦ from.only r b ];
      each = λ r slab. elim (s.each r slab) [
        | inl is ↦ inr (back r (Contains-append_right old more.0 r (from.each r slab is)))
        | inr (inl has) ↦ inl has
        | inr (inr one) ↦ inr (back r (Contains-append_left old more.0 r one))
      ];
      past = λ r one has. elim (cases r one) [
        | inl a ↦ s.past r a has
        | inr b ↦ let is = from.level r b in let lt = s.over r.y1 has in omega (arith, ints, is, lt)
      ];
      distinct = subst AreDistinct (sym more.1) (distinct_append old more.0 s.distinct from.distinct (λ r a b. s.past_low r a (from.level r b)));
    }
  where
    back : (r : Rect) → Contains (old ++ more.0) r → Contains new r
    back r one = subst (λ (xs : List Rect). Contains xs r) (sym more.1) one

    cases : (r : Rect) → Contains new r → Contains old r ⊎ Contains more.0 r
    cases r one = Contains-append_cases old more.0 r (subst (λ (xs : List Rect). Contains xs r) more.1 one)

-- at least one change is done at a height
pub shorter : (before others rest : List Change) (c : Change) (low : ℤ) (ends new : List End) → before ≡ c ∷ others → low ≡ c.y → Passes before low ends rest new → length rest < length before
shorter before others rest c low ends new e at p = counts p.passed (begins_here c others p.passed rest (sym e ∙ p.parts) (subst (λ (z : ℤ). BeginsElsewhere z rest) at p.elsewhere) (subst (λ (z : ℤ). AreAtHeight z p.passed) at p.level)) p.parts
  where
    counts : (passed : List Change) → HasChange passed c.y → before ≡ passed ++ rest → length rest < length before
    counts [] has is = absurd has
    counts (d ∷ ds) has is = rw is (simp length-append (omega arith))

pub next_above : (corners : List Point) (all rest others : List Change) (n : Change) (low high : ℤ) (ends : List End) (out : List Rect) → rest ≡ n ∷ others → high ≡ n.y
    → StandsAt corners all rest low ends out → low <ℤ high
next_above corners all rest others n low high ends out e at s =
    let lt = s.over n.y (subst (λ (cs : List Change). HasChange cs n.y) (sym e) (inl refl)) in omega (arith, ints, lt, at)
