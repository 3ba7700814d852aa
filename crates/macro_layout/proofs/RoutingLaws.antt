-- A channel that is moved has its intervals moved, and each net on the track that it had.
use Rattle.std.proofs.Common.{◌≡◌, ◌⊎◌, inl, inr, ℕ, zero, suc, ◌<◌, ℤ, pos, negsuc, ◌+ℤ◌, ◌-ℤ◌, ◌≤ℤ◌, ◌<ℤ◌, List, [], ◌∷◌, ◌++◌, length, Option, Some, None, refl, sym, subst, ◌∙◌, arith}
use Rattle.std.proofs.lemmas.Int.{ints}
use Rattle.std.specs.Prelude.{slice_get}
use Rattle.std.proofs.lemmas.List.Elements.{Contains-append_cases}
use Rattle.channel_router.specs.declared.channel.Channel.{Channel}
use Rattle.channel_router.specs.declared.channel.ChannelPin.{ChannelPin}
use Rattle.channel_router.specs.declared.channel.Interval.{Interval}
use Rattle.channel_router.specs.Channel.{IsPinOf, places}
use Rattle.channel_router.specs.Intervals.{IsIntervalOf, AreIntervals}
use Rattle.channel_router.specs.Tracks.{HasTrack, IsTakenBefore, IsLowest}
use Rattle.channel_router.proofs.PinLaws.{pin_left, pin_right}
use Rattle.macro_layout.specs.Moved.{ArePinsMoved, IsChannelMoved}

-- items of lists

pub record IsItemAt {X : Type 0} (xs : List X) (k : ℕ) : Type 0 where
  pub item : X
  pub is : slice_get xs k ≡ Some item

pub item_at : {X : Type 0} (xs : List X) (k : ℕ) → k < length xs → IsItemAt xs k
item_at [] k lt = absurd (omega (arith, lt))
item_at (x ∷ xs) zero lt = record { item = x; is = refl }
item_at (x ∷ xs) (suc k) lt = let r = item_at xs k (omega (arith, lt)) in record { item = r.item; is = r.is }

pub below_length : {X : Type 0} (xs : List X) (k : ℕ) (x : X) → slice_get xs k ≡ Some x → k < length xs
below_length [] k x e = absurd cc
below_length (y ∷ ys) zero x e = omega arith
below_length (y ∷ ys) (suc k) x e = let lt = below_length ys k x e in omega (arith, lt)

-- pins

pin_cases : (xs ys : List ChannelPin) (net : ℕ) (x : ℤ) → IsPinOf (xs ++ ys) net x → IsPinOf xs net x ⊎ IsPinOf ys net x
pin_cases xs ys net x p = elim (Contains-append_cases xs ys p.pin p.listed) [
  | inl a ↦ inl (record { pin = p.pin; listed = a; at_x = p.at_x; of_net = p.of_net })
  | inr b ↦ inr (record { pin = p.pin; listed = b; at_x = p.at_x; of_net = p.of_net })
]

joined_moved : (dx : ℤ) (xs ys us vs : List ChannelPin) → ArePinsMoved dx xs us → ArePinsMoved dx ys vs → ArePinsMoved dx (xs ++ ys) (us ++ vs)
joined_moved dx xs ys us vs a b net x = (
  λ p. elim (pin_cases us vs net (x +ℤ dx) p) [ inl l ↦ pin_left xs ys net x ((a net x).0 l) | inr r ↦ pin_right xs ys net x ((b net x).0 r) ],
  λ p. elim (pin_cases xs ys net x p) [ inl l ↦ pin_left us vs net (x +ℤ dx) ((a net x).1 l) | inr r ↦ pin_right us vs net (x +ℤ dx) ((b net x).1 r) ],
)

pub places_moved : (dx dy : ℤ) (from to : Channel) → IsChannelMoved dx dy from to → ArePinsMoved dx (places from) (places to)
places_moved dx dy from to m = joined_moved dx (from.top ++ from.bottom) from.exits (to.top ++ to.bottom) to.exits (joined_moved dx from.top from.bottom to.top to.bottom m.top m.bottom) m.exits

there_and_back : (x dx : ℤ) → (x +ℤ (pos 0 -ℤ dx)) +ℤ dx ≡ x
there_and_back x dx = omega (arith, ints)

pins_back : (dx : ℤ) (xs us : List ChannelPin) → ArePinsMoved dx xs us → ArePinsMoved (pos 0 -ℤ dx) us xs
pins_back dx xs us a net x =
    let both = a net (x +ℤ (pos 0 -ℤ dx)) in
    (λ p. subst (IsPinOf us net) (there_and_back x dx) (both.1 p), λ p. both.0 (subst (IsPinOf us net) (sym (there_and_back x dx)) p))

low_back : (a b dy : ℤ) → b ≡ a +ℤ dy → a ≡ b +ℤ (pos 0 -ℤ dy)
low_back a b dy e = omega (arith, ints, e)

pub moved_back : (dx dy : ℤ) (from to : Channel) → IsChannelMoved dx dy from to → IsChannelMoved (pos 0 -ℤ dx) (pos 0 -ℤ dy) to from
moved_back dx dy from to m = record {
  low = low_back from.low to.low dy m.low;
  nets = sym m.nets;
  top = pins_back dx from.top to.top m.top;
  bottom = pins_back dx from.bottom to.bottom m.bottom;
  exits = pins_back dx from.exits to.exits m.exits;
}

-- intervals

pub record IsIntervalMoved (dx : ℤ) (a b : Interval) : Type 0 where
  pub left : b.left ≡ a.left +ℤ dx
  pub right : b.right ≡ a.right +ℤ dx

equal_left : (a b dx : ℤ) → b ≤ℤ (a +ℤ dx) → a ≤ℤ (b +ℤ (pos 0 -ℤ dx)) → b ≡ a +ℤ dx
equal_left a b dx low high = omega (arith, ints, low, high)

equal_right : (a b dx : ℤ) → (a +ℤ dx) ≤ℤ b → (b +ℤ (pos 0 -ℤ dx)) ≤ℤ a → b ≡ a +ℤ dx
equal_right a b dx low high = omega (arith, ints, low, high)

pub interval_moves : (dx : ℤ) (xs us : List ChannelPin) (net : ℕ) (a b : Interval) → ArePinsMoved dx xs us → IsIntervalOf xs net a → IsIntervalOf us net b → IsIntervalMoved dx a b
interval_moves dx xs us net a b pins i j =
    let back = pins_back dx xs us pins in
    record {
      left = equal_left a.left b.left dx (j.least (a.left +ℤ dx) ((pins net a.left).1 i.begins)) (i.least (b.left +ℤ (pos 0 -ℤ dx)) ((back net b.left).1 j.begins));
      right = equal_right a.right b.right dx (j.greatest (a.right +ℤ dx) ((pins net a.right).1 i.ends)) (i.greatest (b.right +ℤ (pos 0 -ℤ dx)) ((back net b.right).1 j.ends));
    }

-- the intervals of two lists, one by one
pub record AreIntervalsMoved (dx : ℤ) (xs ys : List Interval) : Type 0 where
  pub each : length ys ≡ length xs
  pub moved : (i : ℕ) (a b : Interval) → slice_get xs i ≡ Some a → slice_get ys i ≡ Some b → IsIntervalMoved dx a b

pub intervals_move : (dx dy : ℤ) (from to : Channel) (xs ys : List Interval) → IsChannelMoved dx dy from to → AreIntervals from xs → AreIntervals to ys → AreIntervalsMoved dx xs ys
intervals_move dx dy from to xs ys m a b = record {
  each = b.each ∙ (m.nets ∙ sym a.each);
  moved = λ i x y at_x at_y. interval_moves dx (places from) (places to) i x y (places_moved dx dy from to m) (a.of_net i x at_x) (b.of_net i y at_y);
}

-- tracks

pub before_moves : (dx : ℤ) (i j : ℕ) (a b c d : Interval) → IsIntervalMoved dx a c → IsIntervalMoved dx b d → IsTakenBefore i a j b → IsTakenBefore i c j d
before_moves dx i j a b c d m n (inl lt) = let e = m.left in let f = n.left in inl (omega (arith, ints, lt, e, f))
before_moves dx i j a b c d m n (inr same) = let e = m.left in let f = n.left in let g = same.0 in inr (omega (arith, ints, e, f, g), same.1)

pub before_moved : (dx : ℤ) (i j : ℕ) (a b c d : Interval) → IsIntervalMoved dx a c → IsIntervalMoved dx b d → IsTakenBefore i c j d → IsTakenBefore i a j b
before_moved dx i j a b c d m n (inl lt) = let e = m.left in let f = n.left in inl (omega (arith, ints, lt, e, f))
before_moved dx i j a b c d m n (inr same) = let e = m.left in let f = n.left in let g = same.0 in inr (omega (arith, ints, e, f, g), same.1)

-- the two lists, with their tracks
pub record AreTwo (dx pitch : ℤ) (xs ys : List Interval) (track other : List ℕ) : Type 0 where
  pub moved : AreIntervalsMoved dx xs ys
  pub lowest : IsLowest pitch xs track
  pub lows : IsLowest pitch ys other

pub record HasOther (dx : ℤ) (xs ys : List Interval) (other : List ℕ) (i : ℕ) (a : Interval) : Type 0 where
  pub interval : Interval
  pub track : ℕ
  pub has : HasTrack ys other i interval track
  pub moved : IsIntervalMoved dx a interval

pub other_track : (dx pitch : ℤ) (xs ys : List Interval) (track other : List ℕ) → AreTwo dx pitch xs ys track other → (i : ℕ) (a : Interval) → slice_get xs i ≡ Some a → HasOther dx xs ys other i a
other_track dx pitch xs ys track other two i a at =
    let lt = below_length xs i a at in
    let each = two.moved.each in
    let tracks = two.lows.each in
    let b = item_at ys i (omega (arith, lt, each)) in
    let t = item_at other i (omega (arith, lt, each, tracks)) in
    record { interval = b.item; track = t.item; has = record { there = b.is; on = t.is }; moved = two.moved.moved i a b.item at b.is }

record HasFirst (dx : ℤ) (xs ys : List Interval) (track : List ℕ) (i : ℕ) (b : Interval) : Type 0 where
  interval : Interval
  on_track : ℕ
  has : HasTrack xs track i interval on_track
  moved : IsIntervalMoved dx interval b

first_track : (dx pitch : ℤ) (xs ys : List Interval) (track other : List ℕ) → AreTwo dx pitch xs ys track other → (i : ℕ) (b : Interval) → slice_get ys i ≡ Some b → HasFirst dx xs ys track i b
first_track dx pitch xs ys track other two i b at =
    let lt = below_length ys i b at in
    let each = two.moved.each in
    let tracks = two.lowest.each in
    let a = item_at xs i (omega (arith, lt, each)) in
    let t = item_at track i (omega (arith, lt, each, tracks)) in
    record { interval = a.item; on_track = t.item; has = record { there = a.is; on = t.is }; moved = two.moved.moved i a.item b a.is at }

-- Nets that begin below the bound have one track. (Nets are taken by left end, then by number.)
abbrev SameBelow : ℤ → List Interval → List Interval → List ℕ → List ℕ → Type 0
SameBelow bound xs ys track other = (i : ℕ) (a b : Interval) (t u : ℕ) → a.left <ℤ bound → HasTrack xs track i a t → HasTrack ys other i b u → t ≡ u

abbrev SameBefore : List Interval → List Interval → List ℕ → List ℕ → ℕ → Interval → Type 0
SameBefore xs ys track other j c = (i : ℕ) (a b : Interval) (t u : ℕ) → IsTakenBefore i a j c → HasTrack xs track i a t → HasTrack ys other i b u → t ≡ u

three_ways : (m n : ℕ) → (m ≡ n) ⊎ ((m < n) ⊎ (n < m))
three_ways m n = grind arith

not_both : (dx p : ℤ) (a b c d : Interval) → IsIntervalMoved dx a c → IsIntervalMoved dx b d → (a.right +ℤ p) ≤ℤ b.left → d.left <ℤ (c.right +ℤ p) → ⊥
not_both dx p a b c d m n le lt = let e = m.right in let f = n.left in omega (arith, ints, e, f, le, lt)

not_either : (dx p : ℤ) (a b c d : Interval) → IsIntervalMoved dx a c → IsIntervalMoved dx b d → (c.right +ℤ p) ≤ℤ d.left → b.left <ℤ (a.right +ℤ p) → ⊥
not_either dx p a b c d m n le lt = let e = m.right in let f = n.left in omega (arith, ints, e, f, le, lt)

same_here : (dx p : ℤ) (xs ys : List Interval) (track other : List ℕ) → AreTwo dx p xs ys track other → (j : ℕ) (c d : Interval) (t u : ℕ) → SameBefore xs ys track other j c → HasTrack xs track j c t → HasTrack ys other j d u → t ≡ u
same_here dx p xs ys track other two j c d t u before h k =
    let m = two.moved.moved j c d h.there k.there in
    elim (three_ways t u) [
      | inl e ↦ e
      | inr (inl less) ↦
          let busy = two.lows.lowest j u t d k less in
          let f = first_track dx p xs ys track other two busy.i busy.a busy.on.there in
          let earlier = before_moved dx busy.i j f.interval c busy.a d f.moved m busy.before in
          let same = before busy.i f.interval busy.a f.on_track t earlier f.has busy.on in
          let on = subst (HasTrack xs track busy.i f.interval) same f.has in
          absurd (not_both dx p f.interval c busy.a d f.moved m (two.lowest.free j t c h busy.i f.interval on earlier) busy.reaches)
      | inr (inr more) ↦
          let busy = two.lowest.lowest j t u c h more in
          let o = other_track dx p xs ys track other two busy.i busy.a busy.on.there in
          let same = before busy.i busy.a o.interval u o.track busy.before busy.on o.has in
          let on = subst (HasTrack ys other busy.i o.interval) (sym same) o.has in
          absurd (not_either dx p busy.a c o.interval d o.moved m (two.lows.free j u d k busy.i o.interval on (before_moves dx busy.i j busy.a c o.interval d o.moved m busy.before)) busy.reaches)
    ]

less_left : (a c low : ℤ) (k : ℕ) → a <ℤ c → c <ℤ (low +ℤ pos (suc k)) → a <ℤ (low +ℤ pos k)
less_left a c low k lt bound = omega (arith, ints, lt, bound)

same_step : (dx p low : ℤ) (xs ys : List Interval) (track other : List ℕ) → AreTwo dx p xs ys track other → (k : ℕ) → SameBelow (low +ℤ pos k) xs ys track other → (m j : ℕ) (c d : Interval) (t u : ℕ) → j < m → c.left <ℤ (low +ℤ pos (suc k)) → HasTrack xs track j c t → HasTrack ys other j d u
    → t ≡ u
same_step dx p low xs ys track other two k earlier zero j c d t u lt less h g = absurd (omega (arith, lt))
same_step dx p low xs ys track other two k earlier (suc m) j c d t u lt less h g =
    same_here dx p xs ys track other two j c d t u (λ i a b v w before h2 g2. elim before [
      | inl left ↦ earlier i a b v w (less_left a.left c.left low k left less) h2 g2
      | inr same ↦ (let e = same.0 in let lt2 = same.1 in same_step dx p low xs ys track other two k earlier m i a b v w (omega (arith, lt, lt2)) (subst (λ (z : ℤ). z <ℤ (low +ℤ pos (suc k))) (sym e) less) h2 g2)
    ]) h g

-- a number below all left ends
record HasLow (xs : List Interval) : Type 0 where
  low : ℤ
  all : (i : ℕ) (a : Interval) → slice_get xs i ≡ Some a → low ≤ℤ a.left

lesser : (x y : ℤ) → (z : ℤ) × (z ≤ℤ x) × (z ≤ℤ y)
lesser x y = elim (either x y) [ inl le ↦ (x, omega (arith, ints), le) | inr le ↦ (y, le, omega (arith, ints)) ]
  where
    either : (x y : ℤ) → (x ≤ℤ y) ⊎ (y ≤ℤ x)
    either x y = grind (arith, ints)

has_low : (xs : List Interval) → HasLow xs
has_low [] = record { low = pos 0; all = λ i a e. absurd cc }
has_low (x ∷ xs) =
    let r = has_low xs in
    let l = lesser x.left r.low in
    record { low = l.0; all = at_each l.0 r l.1 l.2 }
  where
    at_each : (low : ℤ) (r : HasLow xs) → low ≤ℤ x.left → low ≤ℤ r.low → (i : ℕ) (a : Interval) → slice_get (x ∷ xs) i ≡ Some a → low ≤ℤ a.left
    at_each low r here rest zero a e = subst (λ (b : Option Interval). IsAbove low b) e here
      where
        IsAbove : ℤ → Option Interval → Type 0
        IsAbove low None = ⊥
        IsAbove low (Some b) = low ≤ℤ b.left
    at_each low r here rest (suc i) a e = let le = r.all i a e in omega (arith, ints, le, rest)

same_below : (dx p : ℤ) (xs ys : List Interval) (track other : List ℕ) → AreTwo dx p xs ys track other → (l : HasLow xs) (k : ℕ) → SameBelow (l.low +ℤ pos k) xs ys track other
same_below dx p xs ys track other two l zero i a b t u less h g = let le = l.all i a h.there in absurd (omega (arith, ints, le, less))
same_below dx p xs ys track other two l (suc k) i a b t u less h g = same_step dx p l.low xs ys track other two k (same_below dx p xs ys track other two l k) (suc i) i a b t u (omega arith) less h g

record IsNatural (z : ℤ) : Type 0 where
  number : ℕ
  is : z ≡ pos number

natural : (z : ℤ) → pos 0 ≤ℤ z → IsNatural z
natural (pos n) le = record { number = n; is = refl }
natural (negsuc n) le = absurd (omega (arith, ints, le))

pub same_track : (dx p : ℤ) (xs ys : List Interval) (track other : List ℕ) → AreTwo dx p xs ys track other → (i : ℕ) (a b : Interval) (t u : ℕ) → HasTrack xs track i a t → HasTrack ys other i b u → t ≡ u
same_track dx p xs ys track other two i a b t u h g =
    let l = has_low xs in
    let le = l.all i a h.there in
    let n = natural (a.left -ℤ l.low) (omega (arith, ints, le)) in
    let e = n.is in
    same_below dx p xs ys track other two l (suc n.number) i a b t u (omega (arith, ints, e)) h g
