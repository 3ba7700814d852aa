-- The windows that workers share in the quick check: that all pass, from what each worker found.
use Rattle.std.proofs.Common.{◌≡◌, ◌≢◌, inl, inr, ℕ, ◌+◌, ◌%◌, ◌<◌, ◌≤◌, List, Bool, true, length, get_or, Some, Result, Ok, Err, refl, sym, ap, subst, ◌∙◌, arith}
use Rattle.std.specs.Prelude.{slice_get, IfOk, IsTrue}
use Rattle.std.proofs.lemmas.Bool.{cases_lt}
use Rattle.std.proofs.lemmas.Option.{slice_get_within, slice_get-get_or}
use Rattle.or_geom.specs.declared.memory.Memory.{Memory}
use Rattle.or_geom.proofs.ListLaws.{one_at}
use Rattle.leaf_tables.specs.declared.kit.Kit.{Kit}
use Rattle.kit_check.specs.declared.window.Window.{Window}
use Rattle.kit_check.specs.Windows.{all_windows}
use Rattle.kit_check.specs.Good.{Answers}
use Rattle.kit_check.specs.Shares.{IsDealtTo, IsAny}
use Rattle.kit_check.specs.Quick.{IsPassingWindow, PassesAt, PassAmong, AllFoundTrue}

-- one window

pub passes_at : (answers : Answers) (kit : Kit) (name : List ℕ) (index : ℕ) (w : Window) → slice_get all_windows index ≡ Some w → IsPassingWindow answers kit name w → PassesAt answers kit name index
passes_at answers kit name index w here passes = λ v there. subst (IsPassingWindow answers kit name) (one_at all_windows index w v here there) passes

-- the windows of one worker, up to an index

abbrev pub PassBefore : ℕ → ℕ → Answers → Kit → List ℕ → ℕ → Type 0
PassBefore workers worker answers kit name count = (index : ℕ) → index < count → IsDealtTo workers worker index → PassesAt answers kit name index

pub pass_before_none : (workers worker : ℕ) (answers : Answers) (kit : Kit) (name : List ℕ) → PassBefore workers worker answers kit name 0
pass_before_none workers worker answers kit name = λ index lt. absurd (omega (arith, lt))

pub pass_before_more : (workers worker : ℕ) (answers : Answers) (kit : Kit) (name : List ℕ) (count : ℕ) → (IsDealtTo workers worker count → PassesAt answers kit name count) → PassBefore workers worker answers kit name count
    → PassBefore workers worker answers kit name (count + 1)
pass_before_more workers worker answers kit name count here before = λ index lt. elim (cases_lt index count) [
  | inl less ↦ before index less
  | inr ge ↦ let same : count ≡ index = omega (arith, lt, ge) in subst (λ (i : ℕ). IsDealtTo workers worker i → PassesAt answers kit name i) same here
]

pub pass_before_all : (workers worker : ℕ) (answers : Answers) (kit : Kit) (name : List ℕ) (count : ℕ) → length all_windows ≤ count → PassBefore workers worker answers kit name count → PassAmong (IsDealtTo workers worker) answers kit name
pass_before_all workers worker answers kit name count over before = λ index mine w here. let within = slice_get_within all_windows index w here in before index (omega (arith, within, over)) mine w here

-- what the first so many workers found

pub found_true_none : (found : List (Result Bool Memory)) → AllFoundTrue found 0
found_true_none found = λ worker one lt. absurd (omega (arith, lt))

pub found_true_more : (found : List (Result Bool Memory)) (count : ℕ) (passes : Bool) → slice_get found count ≡ Some (Ok passes) → passes ≡ true → AllFoundTrue found count → AllFoundTrue found (count + 1)
found_true_more found count passes here told before = λ worker one lt there. elim (cases_lt worker count) [
  | inl less ↦ before worker one less there
  | inr ge ↦
      let same : count ≡ worker = omega (arith, lt, ge) in
      let got : Ok passes ≡ one = one_at found worker (Ok passes) one (subst (λ (w : ℕ). slice_get found w ≡ Some (Ok passes)) same here) there in
      sym got ∙ ap (λ (b : Bool). Ok b) told
]

-- all windows

module _ (answers : Answers) (kit : Kit) (name : List ℕ) (workers : ℕ) (found : List (Result Bool Memory)) where
  -- if a worker found that its windows pass, they do
  abbrev pub TellsOfWindows : ℕ → Result Bool Memory → Type 0
  TellsOfWindows worker one = IfOk one (λ (passes : Bool). IsTrue passes → PassAmong (IsDealtTo workers worker) answers kit name)

  abbrev pub AreFoundBy : Type 0
  AreFoundBy = (worker : ℕ) (d : Result Bool Memory) → worker < workers → TellsOfWindows worker (get_or found worker d)

  pass_by : (worker : ℕ) (one : Result Bool Memory) → one ≡ Ok true → TellsOfWindows worker one → PassAmong (IsDealtTo workers worker) answers kit name
  pass_by worker one told tells = (subst (TellsOfWindows worker) told tells) refl

  pub all_pass : 0 < workers → length found ≡ workers → AreFoundBy → AllFoundTrue found (length found) → PassAmong IsAny answers kit name
  all_pass some sized each told = λ index any.
      let worker = index % workers in
      let lt : worker < workers = omega arith in
      let one : Result Bool Memory = get_or found worker (Ok true) in
      let within : worker < length found = omega (arith, lt, sized) in
      pass_by worker one (told worker one within (slice_get-get_or found worker (Ok true) within)) (each worker (Ok true) lt) index refl
