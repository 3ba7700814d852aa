-- Where two lists of entries part.
use Rattle.std.proofs.Common.{◌≡◌, ◌≢◌, inl, inr, ℕ, ◌+◌, ◌<◌, ◌≤◌, Bool, true, false, List, [], ◌∷◌, ◌++◌, length, get_or, take, Some, refl, sym, ap, subst, ◌∙◌, arith}
use Rattle.std.specs.Prelude.{slice_get}
use Rattle.std.specs.Ordering.{ordering_reverse, eq_by_cmp, is_eq}
use Rattle.std.specs.List.Sorted.{IsSorted, IsPermutation}
use Rattle.std.specs.declared.cmp.Ordering.{Ordering}
use Rattle.std.specs.declared.cmp.Ordering.TheVariants.{Less, Equal, Greater}
use Rattle.std.proofs.lemmas.Bool.{cases_lt}
use Rattle.std.proofs.lemmas.List.{take_more, take_all}
use Rattle.std.proofs.lemmas.Option.{slice_get_within, get_or_from_slice_get, slice_get-get_or, slice_get_read}
use Rattle.std.proofs.lemmas.Cmp.{tied_itself}
use Rattle.or_geom.proofs.ListLaws.{one_at}
use Rattle.device_entries.specs.declared.entry.DeviceEntry.{DeviceEntry}
use Rattle.device_entries.specs.Counts.{AreEven}
use Rattle.device_entries.specs.EntryOrder.{entry_order, entry_total}
use Rattle.device_entries.specs.Parting.{HaveSameAt, AreSameBelow, ArePartedAt, ComesFirst}
use Rattle.device_entries.proofs.OrderLaws.{one_entry, ties_are_one}
use Rattle.device_entries.proofs.CountLaws.{TellsApart, IsLeastMore, least_permuted, even_permuted}

-- one entry more
more_of : (entries : List DeviceEntry) (place : ℕ) (entry : DeviceEntry) → slice_get entries place ≡ Some entry → take (place + 1) entries ≡ take place entries ++ entry ∷ []
more_of entries place entry here =
    take_more entries place entry (slice_get_within entries place entry here) ∙ ap (λ e. take place entries ++ e ∷ []) (get_or_from_slice_get entries place entry entry here)

pub one_more : (entries others : List DeviceEntry) (place : ℕ) → AreSameBelow entries others place → HaveSameAt entries others place → AreSameBelow entries others (place + 1)
one_more entries others place below same =
    let inside = slice_get_within entries place same.entry same.here in
    let inside_others = slice_get_within others place same.entry same.there in
    record {
      inside = omega (arith, inside);
      inside_others = omega (arith, inside_others);
      same = more_of entries place same.entry same.here ∙ ap (λ l. l ++ same.entry ∷ []) below.same ∙ sym (more_of others place same.entry same.there);
    }

-- what stands at the place of both lists
pub same_at : (entries others : List DeviceEntry) (place : ℕ) (x y : DeviceEntry) (is : Bool) → place < length entries → x ≡ get_or entries place x → place < length others → y ≡ get_or others place y
    → is ≡ eq_by_cmp entry_order x y → is ≡ true → HaveSameAt entries others place
same_at entries others place x y is inside here inside_others there tie holds =
    let one : x ≡ y = ties_are_one x y (sym tie ∙ holds) in
    record {
      entry = x;
      here = slice_get_read entries (length entries) place x refl inside here;
      there = slice_get_read others (length others) place y refl inside_others there ∙ ap Some (sym one);
    }

pub not_same_at : (entries others : List DeviceEntry) (place : ℕ) (x y : DeviceEntry) (is : Bool) → x ≡ get_or entries place x → y ≡ get_or others place y → is ≡ eq_by_cmp entry_order x y → is ≡ false → HaveSameAt entries others place → ⊥
not_same_at entries others place x y is here there tie fails same =
    let x_is : x ≡ same.entry = here ∙ get_or_from_slice_get entries place same.entry x same.here in
    let y_is : y ≡ same.entry = there ∙ get_or_from_slice_get others place same.entry y same.there in
    let tied : eq_by_cmp entry_order x y ≡ true = ap (λ (e : DeviceEntry). eq_by_cmp entry_order e y) x_is ∙ ap (λ (e : DeviceEntry). eq_by_cmp entry_order same.entry e) y_is ∙ ap is_eq (tied_itself entry_total same.entry) in
    let clash : false ≡ true = sym fails ∙ tie ∙ tied in
    cc

pub past_first : (entries others : List DeviceEntry) (place : ℕ) → length entries ≤ place → HaveSameAt entries others place → ⊥
past_first entries others place past same = let inside = slice_get_within entries place same.entry same.here in omega (arith, inside, past)

pub past_second : (entries others : List DeviceEntry) (place : ℕ) → length others ≤ place → HaveSameAt entries others place → ⊥
past_second entries others place past same = let inside = slice_get_within others place same.entry same.there in omega (arith, inside, past)

-- behind its end a list has no entry
pub parted_at_end : (entries others : List DeviceEntry) (place : ℕ) → length entries ≤ place → AreSameBelow entries others place → ArePartedAt entries others place
parted_at_end entries others place past below = record {
  below = below;
  differ = λ same. let inside = slice_get_within entries place same.entry same.here in omega (arith, inside, past);
}

-- an entry to look up at
empty_entry : DeviceEntry
empty_entry = record { model = []; gate = []; low = []; high = [] }

tells_apart : TellsApart entry_order
tells_apart = record { total = entry_total; exact = one_entry }

pub parted_back : (entries others : List DeviceEntry) (place : ℕ) → ArePartedAt entries others place → ArePartedAt others entries place
parted_back entries others place parted = record {
  below = record { inside = parted.below.inside_others; inside_others = parted.below.inside; same = sym parted.below.same };
  differ = λ same. parted.differ (record { entry = same.entry; here = same.there; there = same.here });
}

-- an entry that comes first where the lists, in order, part is the least that they don't have equally often
pub first_is_least : (xs ys us vs : List DeviceEntry) (place : ℕ) (entry : DeviceEntry) → IsPermutation us xs → IsPermutation vs ys → IsSorted entry_order xs → IsSorted entry_order ys → ArePartedAt xs ys place → ComesFirst xs ys place
    → entry ≡ get_or xs place entry → IsLeastMore entry_order us vs entry
first_is_least xs ys us vs place entry of_us of_vs up_xs up_ys parted first is =
    let here : slice_get xs place ≡ Some entry = slice_get_read xs (length xs) place entry refl (slice_get_within xs place first.entry first.there) is in
    least_permuted entry_order tells_apart xs ys us vs place entry of_us of_vs up_xs up_ys parted.below.same here
    (λ y there. subst (λ e. entry_order e y ≡ Less) (one_at xs place first.entry entry first.there here) (first.before y there))

-- an ordering that is neither Less nor turns into it is Equal
neither : (o turned : Ordering) → o ≡ ordering_reverse turned → o ≢ Less → turned ≢ Less → o ≡ Equal
neither Less turned e a b = absurd (a refl)
neither Equal turned e a b = refl
neither Greater Less e a b = absurd (b refl)
neither Greater Equal e a b = absurd cc
neither Greater Greater e a b = absurd cc

-- where neither comes first, both have ended
ended : (xs ys : List DeviceEntry) (place : ℕ) → (HaveSameAt xs ys place → ⊥) → (ComesFirst xs ys place → ⊥) → (ComesFirst ys xs place → ⊥) → length xs ≤ place
ended xs ys place differ first second = elim (cases_lt place (length xs)) [
  | inr past ↦ past
  | inl inside ↦ absurd (within inside)
] where
  none_at : length ys ≤ place → (y : DeviceEntry) → slice_get ys place ≡ Some y → ⊥
  none_at past y there = let inside = slice_get_within ys place y there in omega (arith, inside, past)

  both : (x y : DeviceEntry) → slice_get xs place ≡ Some x → slice_get ys place ≡ Some y → ⊥
  both x y here there =
      let tie = neither (entry_order x y) (entry_order y x) (entry_total.antisymm x y)
      (λ less. first (record { entry = x; there = here; before = λ z at. subst (λ e. entry_order x e ≡ Less) (one_at ys place y z there at) less }))
      (λ less. second (record { entry = y; there = there; before = λ z at. subst (λ e. entry_order y e ≡ Less) (one_at xs place x z here at) less })) in
      differ (record { entry = x; here = here; there = there ∙ ap Some (sym (one_entry x y tie)) })

  within : place < length xs → ⊥
  within inside =
      let d = empty_entry in
      let here = slice_get-get_or xs place d inside in
      elim (cases_lt place (length ys)) [
        | inl inside_ys ↦ both (get_or xs place d) (get_or ys place d) here (slice_get-get_or ys place d inside_ys)
        | inr past ↦ first (record { entry = get_or xs place d; there = here; before = λ y there. absurd (none_at past y there) })
      ]

pub none_is_even : (xs ys us vs : List DeviceEntry) (place : ℕ) → IsPermutation us xs → IsPermutation vs ys → ArePartedAt xs ys place → (ComesFirst xs ys place → ⊥) → (ComesFirst ys xs place → ⊥) → AreEven us vs
none_is_even xs ys us vs place of_us of_vs parted first second =
    let past = ended xs ys place parted.differ first second in
    let past_too = ended ys xs place (parted_back xs ys place parted).differ second first in
    let all : xs ≡ ys = sym (take_all place xs past) ∙ parted.below.same ∙ take_all place ys past_too in
    λ entry. even_permuted entry_order xs ys us vs of_us of_vs all entry
