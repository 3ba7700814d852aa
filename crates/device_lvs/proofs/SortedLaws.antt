-- Names in order: the least that is on two nets, and the least two on one.
use Rattle.std.proofs.Common.{◌≡◌, ◌≢◌, ◌↔◌, ◌⊎◌, inl, inr, ℕ, ◌+◌, ◌-◌, ◌<◌, ◌≤◌, Bool, List, [], ◌∷◌, ◌++◌, map, length, get_or, Option, Some, true, false, refl, sym, ap, subst, ◌∙◌, arith}
use Rattle.std.specs.Prelude.{Contains, slice_get, unwrap_or, option_map}
use Rattle.std.specs.Ordering.{ordering_then, ordering_reverse, nat_cmp, is_lt}
use Rattle.std.specs.Cmp.{IsTotalOrder, on_total, then_total, nat_cmp_total}
use Rattle.std.specs.Cmp.Lexicographic.{nat_list_cmp_total}
use Rattle.std.specs.FinMap.{nat_cmp-IsAntisymmetric}
use Rattle.std.specs.List.Sorted.{IsSorted, IsPermutation}
use Rattle.std.specs.declared.cmp.Ordering.{Ordering}
use Rattle.std.specs.declared.cmp.Ordering.TheVariants.{Less, Equal, Greater}
use Rattle.std.proofs.lemmas.Bool.{cases_lt}
use Rattle.std.proofs.lemmas.Cmp.{tied_itself, alike_right}
use Rattle.std.proofs.lemmas.List.{get_or-map, length-map}
use Rattle.std.proofs.lemmas.List.Sorted.{IsPermutation-map, Contains-permutation, IsPermutation-sym}
use Rattle.std.proofs.lemmas.Map.Lookups.{exact_bytes}
use Rattle.std.proofs.lemmas.Option.{slice_get_within, slice_get-get_or}
use Rattle.or_geom.specs.Least.{name_order, IsLeast}
use Rattle.or_geom.proofs.ListLaws.{contained_at, one_at}
use Rattle.drawn_devices.specs.declared.drawn.NetName.{NetName}
use Rattle.device_lvs.specs.NetNames.{IsOnTwoNets, ShareNet, pair_order, IsLeastPair, AreNotSplit, AreNotJoined}
use Rattle.device_lvs.specs.Sorted.{by_name, by_net, AreNamesSorted, AreSplitAt, AreNotSplitBelow, IsFirstSplit, AreJoinedAt, AreNotJoinedBelow, name_at, names_at, IsLeastJoined}
use Rattle.device_lvs.proofs.NeighbourLaws.{IsKeyed, Parts, parted, rises}

name_total : IsTotalOrder name_order
name_total = nat_list_cmp_total

by_name_total : IsTotalOrder by_name
by_name_total = then_total (on_total (λ (n : NetName). n.name) nat_list_cmp_total) (on_total (λ (n : NetName). n.net) nat_cmp_total)

pub by_net_total : IsTotalOrder by_net
by_net_total = then_total (on_total (λ (n : NetName). n.net) nat_cmp_total) (on_total (λ (n : NetName). n.name) nat_list_cmp_total)

pub first_part : (o p : Ordering) → ordering_then o p ≢ Greater → o ≢ Greater
first_part Less p upto = λ is. absurd cc
first_part Equal p upto = λ is. absurd cc
first_part Greater p upto = λ is. upto refl

second_part : (o p : Ordering) → o ≡ Equal → ordering_then o p ≢ Greater → p ≢ Greater
second_part Less p is upto = absurd cc
second_part Equal p is upto = upto
second_part Greater p is upto = absurd cc

keyed_by_name : IsKeyed by_name (λ n. n.name) name_order (λ n. n.net) nat_cmp
keyed_by_name = record {
  total = by_name_total;
  total_keys = name_total;
  exact_keys = exact_bytes;
  exact_parts = nat_cmp-IsAntisymmetric;
  tied_parts = tied_itself nat_cmp_total;
  leads = λ x y upto. first_part (name_order x.name y.name) (nat_cmp x.net y.net) upto;
}

keyed_by_net : IsKeyed by_net (λ n. n.net) nat_cmp (λ n. n.name) name_order
keyed_by_net = record {
  total = by_net_total;
  total_keys = nat_cmp_total;
  exact_keys = nat_cmp-IsAntisymmetric;
  exact_parts = exact_bytes;
  tied_parts = tied_itself name_total;
  leads = λ x y upto. first_part (nat_cmp x.net y.net) (name_order x.name y.name) upto;
}

-- where an item of a list stands
record StandsAt (xs : List NetName) (x : NetName) : Type 0 where
  at : ℕ
  is : slice_get xs at ≡ Some x

stands : (xs : List NetName) (x : NetName) → Contains xs x → StandsAt xs x
stands xs x there = record { at = there.0; is = slice_get-get_or xs there.0 x there.1 ∙ ap Some there.2 }

-- one of two places comes first
either_way : (i j : ℕ) → (i ≤ j) ⊎ (j ≤ i)
either_way i j = elim (cases_lt i j) [ inl lt ↦ inl (omega (arith, lt)) | inr ge ↦ inr ge ]

parted_name : (xs : List NetName) → IsSorted by_name xs → (i j : ℕ) (a b : NetName) → i ≤ j → slice_get xs i ≡ Some a → slice_get xs j ≡ Some b → a.name ≡ b.name → a.net ≢ b.net
    → Parts by_name (λ n. n.name) (λ n. n.net) xs a b
parted_name xs sorted i j a b upto here there same apart =
    let sum : j ≡ i + (j - i) = omega (arith, upto) in
    parted by_name (λ n. n.name) name_order (λ n. n.net) nat_cmp keyed_by_name xs sorted (j - i) i a b here (sym (ap (slice_get xs) sum) ∙ there) same apart

-- a name on two nets stands beside itself
record SplitOf (xs : List NetName) (name : List ℕ) : Type 0 where
  place : ℕ
  split : AreSplitAt xs place
  is : split.one.name ≡ name

split_of_parts : (xs : List NetName) (a b : NetName) → Parts by_name (λ n. n.name) (λ n. n.net) xs a b → SplitOf xs a.name
split_of_parts xs a b p = record {
  place = p.place;
  split = record { one = p.one; other = p.other; at = record { here = p.here; next = p.next }; named = p.key_one ∙ sym p.key_other; apart = λ e. p.differs (sym e ∙ p.same) };
  is = p.key_one;
}

split_found : (names xs : List NetName) → AreNamesSorted by_name names xs → (name : List ℕ) → IsOnTwoNets names name → SplitOf xs name
split_found names xs order name two =
    let a : NetName = record { name = name; net = two.one } in
    let b : NetName = record { name = name; net = two.other } in
    let p = stands xs a ((order.same a).0 two.has) in
    let q = stands xs b ((order.same b).0 two.other_has) in
    elim (either_way p.at q.at) [
      | inl upto ↦ split_of_parts xs a b (parted_name xs order.rise p.at q.at a b upto p.is q.is refl two.differ)
      | inr upto ↦ split_of_parts xs b a (parted_name xs order.rise q.at p.at b a upto q.is p.is refl (λ e. two.differ (sym e)))
    ]

pub none_split : (names xs : List NetName) → AreNamesSorted by_name names xs → AreNotSplitBelow xs (length xs) → AreNotSplit names
none_split names xs order none = λ name two.
    let found = split_found names xs order name two in
    none found.place (slice_get_within xs found.place found.split.one found.split.at.here) found.split

pub first_is_least : (names xs : List NetName) (place : ℕ) (one : NetName) → AreNamesSorted by_name names xs → IsFirstSplit xs place → slice_get xs place ≡ Some one → IsLeast (IsOnTwoNets names) one.name
first_is_least names xs place one order first here =
    let s = first.split in
    let same : s.one ≡ one = one_at xs place s.one one s.at.here here in
    let has : (n : NetName) (k : ℕ) → slice_get xs k ≡ Some n → Contains names n = λ n k is. (order.same n).1 (contained_at xs k n is) in
    let name : s.one.name ≡ one.name = ap (λ (n : NetName). n.name) same in
    record {
      has = subst (IsOnTwoNets names) name (record {
        one = s.one.net;
        other = s.other.net;
        has = has s.one place s.at.here;
        differ = s.apart;
        other_has = subst (λ (w : List ℕ). Contains names (record { name = w; net = s.other.net })) (sym s.named) (has s.other (place + 1) s.at.next);
      });
      least = λ other two.
          let found = split_found names xs order other two in
          elim (cases_lt found.place place) [
            | inl before ↦ absurd (first.first found.place before found.split)
            | inr upto ↦
                let up = rises by_name by_name_total xs place found.place one found.split.one order.rise upto here found.split.at.here in
                subst (λ (w : List ℕ). name_order one.name w ≢ Greater) found.is (first_part (name_order one.name found.split.one.name) (nat_cmp one.net found.split.one.net) up)
          ];
    }

-- two names on one net stand beside each other, or a lesser second one does
record JoinedOf (xs : List NetName) (first second : List ℕ) : Type 0 where
  place : ℕ
  joined : AreJoinedAt xs place
  is : joined.one.name ≡ first
  upto : name_order joined.other.name second ≢ Greater

less_then : (o p : Ordering) → o ≡ Equal → p ≡ Less → ordering_then o p ≡ Less
less_then Less p is less = refl
less_then Equal p is less = less
less_then Greater p is less = absurd cc

reversed_less : (o turned : Ordering) → o ≡ ordering_reverse turned → o ≡ Less → turned ≡ Greater
reversed_less Less Less e less = absurd cc
reversed_less Less Equal e less = absurd cc
reversed_less Less Greater e less = refl
reversed_less Equal turned e less = absurd cc
reversed_less Greater turned e less = absurd cc

joined_found : (names xs : List NetName) → AreNamesSorted by_net names xs → (first second : List ℕ) → ShareNet names first second → JoinedOf xs first second
joined_found names xs order first second shared =
    let a : NetName = record { name = first; net = shared.net } in
    let b : NetName = record { name = second; net = shared.net } in
    let p = stands xs a ((order.same a).0 shared.has) in
    let q = stands xs b ((order.same b).0 shared.other_has) in
    let less : by_net a b ≡ Less = less_then (nat_cmp shared.net shared.net) (name_order first second) (tied_itself nat_cmp_total shared.net) shared.rise in
    let differ : first ≢ second = λ e. let tie : name_order first second ≡ Equal = ap (name_order first) (sym e) ∙ tied_itself name_total first in let rise = shared.rise in absurd cc in
    elim (either_way p.at q.at) [
      | inl upto ↦
          let sum : q.at ≡ p.at + (q.at - p.at) = omega (arith, upto) in
          let f = parted by_net (λ n. n.net) nat_cmp (λ n. n.name) name_order keyed_by_net xs order.rise (q.at - p.at) p.at a b p.is (sym (ap (slice_get xs) sum) ∙ q.is) refl differ in
          let one_net : nat_cmp f.other.net shared.net ≡ Equal = ap (λ (n : ℕ). nat_cmp n shared.net) f.key_other ∙ tied_itself nat_cmp_total shared.net in
          record {
            place = f.place;
            joined = record { one = f.one; other = f.other; at = record { here = f.here; next = f.next }; joined = f.key_one ∙ sym f.key_other; apart = λ e. f.differs (sym e ∙ f.same) };
            is = f.same;
            upto = second_part (nat_cmp f.other.net shared.net) (name_order f.other.name second) one_net f.upto;
          }
      | inr upto ↦ absurd (rises by_net by_net_total xs q.at p.at b a order.rise upto q.is p.is (reversed_less (by_net a b) (by_net b a) (by_net_total.antisymm a b) less))
    ]

pub none_joined : (names xs : List NetName) → AreNamesSorted by_net names xs → AreNotJoinedBelow xs (length xs) → AreNotJoined names
none_joined names xs order none = λ first second shared.
    let found = joined_found names xs order first second shared in
    none found.place (slice_get_within xs found.place found.joined.one found.joined.at.here) found.joined

pub name_is : (xs : List NetName) (place : ℕ) (n : NetName) → slice_get xs place ≡ Some n → name_at xs place ≡ n.name
name_is xs place n is = ap (λ (o : Option NetName). unwrap_or (option_map (λ (m : NetName). m.name) o) []) is

-- pairs in order
pair_total : IsTotalOrder pair_order
pair_total = then_total (on_total (λ (p : List ℕ × List ℕ). p.0) nat_list_cmp_total) (on_total (λ (p : List ℕ × List ℕ). p.1) nat_list_cmp_total)

then_upto : (o p : Ordering) → o ≡ Equal → p ≢ Greater → ordering_then o p ≢ Greater
then_upto Less p is upto = absurd cc
then_upto Equal p is upto = upto
then_upto Greater p is upto = absurd cc

pair_upto : (a c b : List ℕ) → name_order c b ≢ Greater → pair_order (a, c) (a, b) ≢ Greater
pair_upto a c b upto = then_upto (name_order a a) (name_order c b) (tied_itself name_total a) upto

upto_upto : (o : Ordering) → (x y z : List ℕ × List ℕ) → pair_order x y ≡ o → o ≢ Greater → pair_order y z ≢ Greater → pair_order x z ≢ Greater
upto_upto Less x y z is a b = by (pair_order y z) refl where
  by : (p : Ordering) → pair_order y z ≡ p → pair_order x z ≢ Greater
  by Less less = λ e. let l = pair_total.trans x y z is less in absurd cc
  by Equal tie = λ e. let l : pair_order x z ≡ Less = sym (alike_right pair_total y z x tie) ∙ is in absurd cc
  by Greater more = absurd (b more)
upto_upto Equal x y z is a b = λ e. b (sym (pair_total.congr x y z is) ∙ e)
upto_upto Greater x y z is a b = absurd (a refl)

-- a pair isn't less than itself
pub not_itself : (p : List ℕ × List ℕ) → is_lt (pair_order p p) ≡ false
not_itself p = ap is_lt (tied_itself pair_total p)

-- what isn't less than a pair isn't less than a lesser one
pub not_below_lesser : (x y z : List ℕ × List ℕ) → is_lt (pair_order x y) ≡ false → is_lt (pair_order z y) ≡ true → is_lt (pair_order x z) ≡ false
not_below_lesser x y z no_less less = by (pair_order x z) refl (pair_order z y) refl where
  by : (o : Ordering) → pair_order x z ≡ o → (p : Ordering) → pair_order z y ≡ p → is_lt (pair_order x z) ≡ false
  by Less is Less also = let l : is_lt (pair_order x y) ≡ true = ap is_lt (pair_total.trans x z y is also) in let clash : false ≡ true = sym no_less ∙ l in absurd cc
  by Less is Equal also = let clash : false ≡ true = sym (ap is_lt also) ∙ less in absurd cc
  by Less is Greater also = let clash : false ≡ true = sym (ap is_lt also) ∙ less in absurd cc
  by Equal is p also = ap is_lt is
  by Greater is p also = ap is_lt is

-- what isn't less is not before
not_less_upto : (o turned : Ordering) → o ≡ ordering_reverse turned → is_lt turned ≡ false → o ≢ Greater
not_less_upto Less turned e less = λ is. absurd cc
not_less_upto Equal turned e less = λ is. absurd cc
not_less_upto Greater Less e less = λ is. absurd cc
not_less_upto Greater Equal e less = λ is. absurd cc
not_less_upto Greater Greater e less = λ is. absurd cc

rises_strictly : (o p : Ordering) → o ≡ Equal → ordering_then o p ≢ Greater → p ≢ Equal → p ≡ Less
rises_strictly o Less is upto apart = refl
rises_strictly o Equal is upto apart = absurd (apart refl)
rises_strictly o Greater is upto apart = absurd (second_part o Greater is upto refl)

pub joined_is_least : (names xs : List NetName) (bound place : ℕ) (one other : NetName) → AreNamesSorted by_net names xs → length xs ≤ bound → IsLeastJoined xs bound place → slice_get xs place ≡ Some one → slice_get xs (place + 1) ≡ Some other
    → IsLeastPair names one.name other.name
joined_is_least names xs bound place one other order all least here next =
    let j = least.joined in
    let same_one : j.one ≡ one = one_at xs place j.one one j.at.here here in
    let same_other : j.other ≡ other = one_at xs (place + 1) j.other other j.at.next next in
    let has : (n : NetName) (k : ℕ) → slice_get xs k ≡ Some n → Contains names n = λ n k is. (order.same n).1 (contained_at xs k n is) in
    let one_net : one.net ≡ other.net = ap (λ (n : NetName). n.net) (sym same_one) ∙ j.joined ∙ ap (λ (n : NetName). n.net) same_other in
    let apart : one.name ≢ other.name = λ e. j.apart (ap (λ (n : NetName). n.name) same_one ∙ e ∙ ap (λ (n : NetName). n.name) (sym same_other)) in
    let tie : nat_cmp one.net other.net ≡ Equal = ap (nat_cmp one.net) (sym one_net) ∙ tied_itself nat_cmp_total one.net in
    let up = rises by_net by_net_total xs place (place + 1) one other order.rise (omega arith) here next in
    record {
      shared = record {
        net = one.net;
        has = has one place here;
        other_has = subst (λ (n : ℕ). Contains names (record { name = other.name; net = n })) (sym one_net) (has other (place + 1) next);
        rise = rises_strictly (nat_cmp one.net other.net) (name_order one.name other.name) tie up (λ e. apart (exact_bytes one.name other.name e));
      };
      least = λ a b shared.
          let found = joined_found names xs order a b shared in
          let f = found.joined in
          let inside = slice_get_within xs found.place f.one f.at.here in
          let not_less = least.least found.place (omega (arith, inside, all)) f in
          let mine : names_at xs place ≡ (one.name, other.name) = λ i. (name_is xs place one here i, name_is xs (place + 1) other next i) in
          let theirs : names_at xs found.place ≡ (a, f.other.name) = λ i. ((name_is xs found.place f.one f.at.here ∙ found.is) i, name_is xs (found.place + 1) f.other f.at.next i) in
          let before : pair_order (one.name, other.name) (a, f.other.name) ≢ Greater =
          not_less_upto (pair_order (one.name, other.name) (a, f.other.name)) (pair_order (a, f.other.name) (one.name, other.name)) (pair_total.antisymm (one.name, other.name) (a, f.other.name))
          (ap is_lt (λ i. pair_order (sym theirs i) (sym mine i)) ∙ not_less) in
          upto_upto (pair_order (one.name, other.name) (a, f.other.name)) (one.name, other.name) (a, f.other.name) (a, b) refl before (pair_upto a f.other.name b found.upto);
    }

-- by the names at the place
pub least_names : (names xs : List NetName) (bound place : ℕ) (pair : List ℕ × List ℕ) → AreNamesSorted by_net names xs → length xs ≤ bound → IsLeastJoined xs bound place → pair ≡ names_at xs place → IsLeastPair names pair.0 pair.1
least_names names xs bound place pair order all least is =
    let j = least.joined in
    let found = joined_is_least names xs bound place j.one j.other order all least j.at.here j.at.next in
    let at : names_at xs place ≡ (j.one.name, j.other.name) = λ i. (name_is xs place j.one j.at.here i, name_is xs (place + 1) j.other j.at.next i) in
    subst (λ (q : List ℕ × List ℕ). IsLeastPair names q.0 q.1) (sym (is ∙ at)) found

-- an item of a list that isn't empty
some_item : {Y : Type 0} (ys : List Y) (n : ℕ) → n < length ys → Y
some_item [] n lt = absurd (omega arith)
some_item (y ∷ ys) n lt = y

-- what a sort makes of a list that stands for the names
pub in_order : {Y : Type 0} (f : Y → NetName) (order : NetName → NetName → Ordering) (cmp : Y → Y → Ordering) → ((a b : Y) → cmp a b ≡ order (f a) (f b)) → (names : List NetName) (xs ys : List Y)
    → map f xs ≡ names → IsPermutation xs ys → IsSorted cmp ys → AreNamesSorted order names (map f ys)
in_order f order cmp alike names xs ys are moved sorted =
    let swapped = IsPermutation-map f xs ys moved in
    record {
      rise = λ k d low high.
          let more : k + 1 < length ys = subst (λ (n : ℕ). k + 1 < n) (length-map ys f) high in
          let e = some_item ys (k + 1) more in
          let next = get_or-map f ys (k + 1) e d more in
          let here = get_or-map f ys k e d (omega (arith, more)) in
          ap is_lt ((λ i. order (next i) (here i)) ∙ sym (alike (get_or ys (k + 1) e) (get_or ys k e))) ∙ sorted k e low more;
      same = λ name. (
        λ there. Contains-permutation (map f xs) (map f ys) name swapped (subst (λ (l : List NetName). Contains l name) (sym are) there),
        λ there. subst (λ (l : List NetName). Contains l name) are (Contains-permutation (map f ys) (map f xs) name (IsPermutation-sym (map f xs) (map f ys) swapped) there),
      );
    }
