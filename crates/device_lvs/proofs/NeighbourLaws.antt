-- Neighbours in a list in order: where things of one key have two parts, some neighbours have.
use Rattle.std.proofs.Common.{◌≡◌, ◌≢◌, ℕ, zero, suc, ◌+◌, ◌<◌, ◌≤◌, List, ◌∷◌, length, get_or, Some, true, false, refl, sym, ap, subst, ◌∙◌, arith}
use Rattle.std.specs.Prelude.{slice_get}
use Rattle.std.specs.Ordering.{ordering_reverse, is_lt}
use Rattle.std.specs.Cmp.{IsTotalOrder}
use Rattle.std.specs.List.Sorted.{IsSorted}
use Rattle.std.specs.declared.cmp.Ordering.{Ordering}
use Rattle.std.specs.declared.cmp.Ordering.TheVariants.{Less, Equal, Greater}
use Rattle.std.proofs.lemmas.List.Sorted.{sorted_far, ranks_by}
use Rattle.std.proofs.lemmas.Option.{same_Some, slice_get_within, get_or_from_slice_get, slice_get-get_or}
use Rattle.or_geom.proofs.LeastLaws.{neither_after}

-- an order by a key first, whose ties are one key, and parts that are told apart by an order
pub record IsKeyed {X K P : Type 0} (cmp : X → X → Ordering) (key : X → K) (keys : K → K → Ordering) (part : X → P) (parts : P → P → Ordering) : Type 0 where
  pub total : IsTotalOrder cmp
  pub total_keys : IsTotalOrder keys
  pub exact_keys : (x y : K) → keys x y ≡ Equal → x ≡ y
  pub exact_parts : (x y : P) → parts x y ≡ Equal → x ≡ y
  pub tied_parts : (x : P) → parts x x ≡ Equal
  pub leads : (x y : X) → cmp x y ≢ Greater → keys (key x) (key y) ≢ Greater

not_greater : (o turned : Ordering) → o ≡ ordering_reverse turned → is_lt turned ≡ false → o ≢ Greater
not_greater Less turned e less = λ is. absurd cc
not_greater Equal turned e less = λ is. absurd cc
not_greater Greater Less e less = λ is. absurd cc
not_greater Greater Equal e less = λ is. absurd cc
not_greater Greater Greater e less = λ is. absurd cc

-- in a list in order what stands earlier isn't after what stands later
pub rises : {X : Type 0} (cmp : X → X → Ordering) → IsTotalOrder cmp → (xs : List X) (i j : ℕ) (x y : X) → IsSorted cmp xs → i ≤ j → slice_get xs i ≡ Some x → slice_get xs j ≡ Some y → cmp x y ≢ Greater
rises cmp total xs i j x y sorted upto here there =
    let inside = slice_get_within xs j y there in
    let is_x : get_or xs i x ≡ x = get_or_from_slice_get xs i x x here in
    let is_y : get_or xs j x ≡ y = get_or_from_slice_get xs j y x there in
    let far = sorted_far (λ a b. is_lt (cmp a b)) (ranks_by total (λ z. z)) xs sorted i j x upto inside in
    not_greater (cmp x y) (cmp y x) (total.antisymm x y) (subst (λ z. is_lt (cmp y z) ≡ false) is_x (subst (λ z. is_lt (cmp z (get_or xs i x)) ≡ false) is_y far))

-- neighbours of the key of an item, the first with its part and the second with another, which isn't after a later item
pub record Parts {X K P : Type 0} (cmp : X → X → Ordering) (key : X → K) (part : X → P) (xs : List X) (from to : X) : Type 0 where
  pub place : ℕ
  pub one : X
  pub other : X
  pub here : slice_get xs place ≡ Some one
  pub next : slice_get xs (place + 1) ≡ Some other
  pub key_one : key one ≡ key from
  pub key_other : key other ≡ key from
  pub same : part one ≡ part from
  pub differs : part other ≢ part from
  pub upto : cmp other to ≢ Greater

module _ {X K P : Type 0} (cmp : X → X → Ordering) (key : X → K) (keys : K → K → Ordering) (part : X → P) (parts : P → P → Ordering) (k : IsKeyed cmp key keys part parts) where
  -- between two things of one key all have it
  between : (x y z : X) → cmp x y ≢ Greater → cmp y z ≢ Greater → key x ≡ key z → key x ≡ key y
  between x y z low high same =
      let up = k.leads x y low in
      let down : keys (key y) (key x) ≢ Greater = subst (λ (w : K). keys (key y) w ≢ Greater) (sym same) (k.leads y z high) in
      k.exact_keys (key x) (key y) (neither_after keys k.total_keys (key x) (key y) up down)

  moved : (xs : List X) (a c to : X) → key c ≡ key a → part c ≡ part a → Parts cmp key part xs c to → Parts cmp key part xs a to
  moved xs a c to keyed parted p = record {
    place = p.place;
    one = p.one;
    other = p.other;
    here = p.here;
    next = p.next;
    key_one = p.key_one ∙ keyed;
    key_other = p.key_other ∙ keyed;
    same = p.same ∙ parted;
    differs = λ e. p.differs (e ∙ sym parted);
    upto = p.upto;
  }

  step : (xs : List X) (i : ℕ) (a c to : X) (o : Ordering) → parts (part c) (part a) ≡ o → slice_get xs i ≡ Some a → slice_get xs (i + 1) ≡ Some c → key c ≡ key a → cmp c to ≢ Greater
      → (part c ≡ part a → Parts cmp key part xs c to) → Parts cmp key part xs a to
  step xs i a c to Equal is here next keyed upto later = let same = k.exact_parts (part c) (part a) is in moved xs a c to keyed same (later same)
  step xs i a c to Less is here next keyed upto later = record {
    place = i;
    one = a;
    other = c;
    here = here;
    next = next;
    key_one = refl;
    key_other = keyed;
    same = refl;
    upto = upto;
    differs = λ e. let tie : parts (part c) (part a) ≡ Equal = ap (λ (w : P). parts w (part a)) e ∙ k.tied_parts (part a) in absurd cc;
  }
  step xs i a c to Greater is here next keyed upto later = record {
    place = i;
    one = a;
    other = c;
    here = here;
    next = next;
    key_one = refl;
    key_other = keyed;
    same = refl;
    upto = upto;
    differs = λ e. let tie : parts (part c) (part a) ≡ Equal = ap (λ (w : P). parts w (part a)) e ∙ k.tied_parts (part a) in absurd cc;
  }

  -- from one of a key to a later one of the key with another part
  pub parted : (xs : List X) → IsSorted cmp xs → (n i : ℕ) (a b : X) → slice_get xs i ≡ Some a → slice_get xs (i + n) ≡ Some b → key a ≡ key b → part a ≢ part b → Parts cmp key part xs a b
  parted xs sorted zero i a b here there same apart =
      let still : i + 0 ≡ i = omega arith in
      absurd (apart (ap part (same_Some a b (sym here ∙ sym (ap (slice_get xs) still) ∙ there))))
  parted xs sorted (suc n) i a b here there same apart =
      let end = slice_get_within xs (i + suc n) b there in
      let inside : i + 1 < length xs = omega (arith, end) in
      let c = get_or xs (i + 1) a in
      let next : slice_get xs (i + 1) ≡ Some c = slice_get-get_or xs (i + 1) a inside in
      let low = rises cmp k.total xs i (i + 1) a c sorted (omega arith) here next in
      let high = rises cmp k.total xs (i + 1) (i + suc n) c b sorted (omega arith) next there in
      let keyed : key a ≡ key c = between a c b low high same in
      let further : i + suc n ≡ (i + 1) + n = omega arith in
      step xs i a c b (parts (part c) (part a)) refl here next (sym keyed) high
      (λ parted_c. parted xs sorted n (i + 1) c b next (sym (ap (slice_get xs) further) ∙ there) (sym keyed ∙ same) (λ e. apart (sym parted_c ∙ e)))
