-- The windows that workers share: what all found, from what each found.
use Rattle.std.proofs.Common.{◌≡◌, ◌≢◌, ◌⊎◌, inl, inr, ℕ, ◌+◌, ◌%◌, ◌<◌, ◌≤◌, List, length, get_or, Option, None, Some, Result, Ok, Err, refl, sym, ap, subst, ◌∙◌, arith}
use Rattle.std.specs.Prelude.{slice_get, MatchOption, IfOk}
use Rattle.std.proofs.lemmas.Bool.{cases_lt}
use Rattle.std.proofs.lemmas.Option.{same_Some, slice_get_within, slice_get-get_or}
use Rattle.or_geom.specs.declared.memory.Memory.{Memory}
use Rattle.or_geom.proofs.ListLaws.{one_at}
use Rattle.leaf_tables.specs.declared.kit.Kit.{Kit}
use Rattle.kit_check.specs.declared.share.Found.{Found}
use Rattle.kit_check.specs.declared.window.Window.{Window}
use Rattle.kit_check.specs.Windows.{all_windows}
use Rattle.kit_check.specs.Good.{Answers, IsWindowGood, HasWindowFault}
use Rattle.kit_check.specs.Shares.{IsGoodAt, AreGoodAmong, IsFirstAmong, FindsAmong, IsDealtTo, IsDealtFault, IsAny, IsNotBefore, IsEarlier, IsNoneBefore, IsFirstFound, FindsFirst}

-- where nothing was found, that is what is known
pub match_none : {X : Type 0} (P : Type 0) (Q : X → Type 0) (found : Option X) → MatchOption found P Q → ((x : X) → found ≡ Some x → ⊥) → P
match_none P Q None known other = known
match_none P Q (Some x) known other = absurd (other x refl)

-- one window

pub not_dealt : (workers worker : ℕ) (answers : Answers) (kit : Kit) (name : List ℕ) (index : ℕ) → index % workers ≢ worker → IsDealtFault workers worker answers kit name index None
not_dealt workers worker answers kit name index other = λ mine. absurd (other mine)

pub dealt : (workers worker : ℕ) (answers : Answers) (kit : Kit) (name : List ℕ) (index : ℕ) (w : Window) (found : Option ℕ) → index % workers ≡ worker → slice_get all_windows index ≡ Some w
    → MatchOption found (IsWindowGood answers kit name w) (HasWindowFault answers kit name w) → IsDealtFault workers worker answers kit name index found
dealt workers worker answers kit name index w None mine here good = λ is v there. subst (IsWindowGood answers kit name) (one_at all_windows index w v here there) good
dealt workers worker answers kit name index w (Some number) mine here faulty = (mine, record { w = w; here = here; faulty = faulty })

-- the windows of one worker, up to an index

abbrev pub AreGoodBefore : ℕ → ℕ → Answers → Kit → List ℕ → ℕ → Type 0
AreGoodBefore workers worker answers kit name count = (index : ℕ) → index < count → IsDealtTo workers worker index → IsGoodAt answers kit name index

pub good_before_none : (workers worker : ℕ) (answers : Answers) (kit : Kit) (name : List ℕ) → AreGoodBefore workers worker answers kit name 0
good_before_none workers worker answers kit name = λ index lt. absurd (omega (arith, lt))

pub good_before_more : (workers worker : ℕ) (answers : Answers) (kit : Kit) (name : List ℕ) (count : ℕ) → IsDealtFault workers worker answers kit name count None → AreGoodBefore workers worker answers kit name count
    → AreGoodBefore workers worker answers kit name (count + 1)
good_before_more workers worker answers kit name count here before = λ index lt. elim (cases_lt index count) [
  | inl less ↦ before index less
  | inr ge ↦ let same : count ≡ index = omega (arith, lt, ge) in subst (λ (i : ℕ). IsDealtTo workers worker i → IsGoodAt answers kit name i) same here
]

pub good_before_all : (workers worker : ℕ) (answers : Answers) (kit : Kit) (name : List ℕ) (count : ℕ) → length all_windows ≤ count → AreGoodBefore workers worker answers kit name count → AreGoodAmong (IsDealtTo workers worker) answers kit name
good_before_all workers worker answers kit name count over before = λ index mine w here. let within = slice_get_within all_windows index w here in before index (omega (arith, within, over)) mine w here

pub first_dealt : (workers worker : ℕ) (answers : Answers) (kit : Kit) (name : List ℕ) (f : Found) → IsDealtFault workers worker answers kit name f.index (Some f.fault) → AreGoodBefore workers worker answers kit name f.index
    → IsFirstAmong (IsDealtTo workers worker) answers kit name f
first_dealt workers worker answers kit name f here before = record { mine = here.0; faulty = here.1; before = λ earlier mine lt. before earlier lt mine }

-- what comes first

later : (f g : Found) (one : Result (Option Found) Memory) → f.index ≤ g.index → IsNoneBefore g one → IsNoneBefore f one
later f g (Ok None) le none = tt
later f g (Ok (Some h)) le none = omega (arith, le, none)
later f g (Err memory) le none = none

pub found_none : (found : List (Result (Option Found) Memory)) → FindsFirst found 0 None
found_none found = λ other one lt. absurd (omega (arith, lt))

module _ (found : List (Result (Option Found) Memory)) (count : ℕ) (x : Option Found) (here : slice_get found count ≡ Some (Ok x)) where
  here_is : (other : ℕ) (one : Result (Option Found) Memory) → count ≤ other → other < count + 1 → slice_get found other ≡ Some one → Ok x ≡ one
  here_is other one ge lt there =
      let same : other ≡ count = omega (arith, ge, lt) in
      one_at found count (Ok x) one here (subst (λ (k : ℕ). slice_get found k ≡ Some one) same there)

  -- each of the workers so far found none that comes before this one
  not_before : (first : Option Found) (f : Found) → FindsFirst found count first → IsNotBefore f first → (other : ℕ) (one : Result (Option Found) Memory) → other < count → slice_get found other ≡ Some one → IsNoneBefore f one
  not_before None f so_far le other one lt there = subst (IsNoneBefore f) (sym (so_far other one lt there)) tt
  not_before (Some g) f so_far le other one lt there = later f g one le (so_far.each other one lt there)

  none_before : (first : Option Found) (f : Found) → FindsFirst found count first → IsNotBefore f first → IsNotBefore f x → (other : ℕ) (one : Result (Option Found) Memory) → other < count + 1 → slice_get found other ≡ Some one → IsNoneBefore f one
  none_before first f so_far le le_here other one lt there = elim (cases_lt other count) [
    | inl less ↦ not_before first f so_far le other one less there
    | inr ge ↦ subst (IsNoneBefore f) (here_is other one ge lt there) le_here
  ]

  -- where it was found
  record IsPlaced (f : Found) : Type 0 where
    worker : ℕ
    below : worker < count + 1
    there : slice_get found worker ≡ Some (Ok (Some f))

  placed : (first : Option Found) (f : Found) → FindsFirst found count first → (first ≡ Some f) ⊎ (x ≡ Some f) → IsPlaced f
  placed first f so_far (inl e) =
      let p : IsFirstFound found count f = subst (FindsFirst found count) e so_far in
      let lt = p.below in
      record { worker = p.worker; below = omega (arith, lt); there = p.there }
  placed first f so_far (inr e) = record { worker = count; below = omega arith; there = subst (λ (o : Option Found). slice_get found count ≡ Some (Ok o)) e here }

  pub found_more : (first next : Option Found) → IsEarlier first x next → FindsFirst found count first → FindsFirst found (count + 1) next
  found_more first None e so_far = λ other one lt there. elim (cases_lt other count) [
    | inl less ↦ (subst (FindsFirst found count) e.0 so_far) other one less there
    | inr ge ↦ sym (here_is other one ge lt there) ∙ ap (λ (o : Option Found). Ok o) e.1
  ]
  found_more first (Some f) e so_far =
      let p = placed first f so_far e.0 in
      record { worker = p.worker; below = p.below; there = p.there; each = none_before first f so_far e.1 e.2 }

-- all windows

module _ (answers : Answers) (kit : Kit) (name : List ℕ) (workers : ℕ) (found : List (Result (Option Found) Memory)) where
  abbrev pub AreFoundBy : Type 0
  AreFoundBy = (worker : ℕ) (d : Result (Option Found) Memory) → worker < workers → IfOk (get_or found worker d) (FindsAmong (IsDealtTo workers worker) answers kit name)

  good_by : (worker : ℕ) (one : Result (Option Found) Memory) → one ≡ Ok None → IfOk one (FindsAmong (IsDealtTo workers worker) answers kit name) → AreGoodAmong (IsDealtTo workers worker) answers kit name
  good_by worker one none by = subst (λ (o : Result (Option Found) Memory). IfOk o (FindsAmong (IsDealtTo workers worker) answers kit name)) none by

  good_by_later : (f : Found) (index : ℕ) (one : Result (Option Found) Memory) → index < f.index → IsNoneBefore f one → IfOk one (FindsAmong (IsDealtTo workers (index % workers)) answers kit name) → IsGoodAt answers kit name index
  good_by_later f index (Ok None) lt none by = by index refl
  good_by_later f index (Ok (Some g)) lt none by = by.before index refl (omega (arith, lt, none))
  good_by_later f index (Err memory) lt none by = absurd none

  module _ (some : 0 < workers) (sized : length found ≡ workers) (each : AreFoundBy) where
    read : (worker : ℕ) → worker < workers → slice_get found worker ≡ Some (get_or found worker (Ok None))
    read worker lt = slice_get-get_or found worker (Ok None) (omega (arith, lt, sized))

    own : (index : ℕ) → index % workers < workers
    own index = omega arith

    pub all_found : (first : Option Found) → FindsFirst found (length found) first → FindsAmong IsAny answers kit name first
    all_found None none = λ index any.
        let worker = index % workers in
        let lt = own index in
        let one : Result (Option Found) Memory = get_or found worker (Ok None) in
        good_by worker one (none worker one (omega (arith, lt, sized)) (read worker lt)) (each worker (Ok None) lt) index refl
    all_found (Some f) p =
        let below = p.below in
        let lt : p.worker < workers = omega (arith, below, sized) in
        let same : get_or found p.worker (Ok None) ≡ Ok (Some f) = same_Some (get_or found p.worker (Ok None)) (Ok (Some f)) (sym (read p.worker lt) ∙ p.there) in
        let by : IsFirstAmong (IsDealtTo workers p.worker) answers kit name f =
        subst (λ (o : Result (Option Found) Memory). IfOk o (FindsAmong (IsDealtTo workers p.worker) answers kit name)) same (each p.worker (Ok None) lt) in
        record {
          mine = tt;
          faulty = by.faulty;
          before = λ earlier mine less.
              let worker = earlier % workers in
              let lt_own = own earlier in
              let one : Result (Option Found) Memory = get_or found worker (Ok None) in
              good_by_later f earlier one less (p.each worker one (omega (arith, lt_own, sized)) (read worker lt_own)) (each worker (Ok None) lt_own);
        }
