-- What is wrong where a fault stands is one thing, and no library goes on there.
use Rattle.std.proofs.Common.{◌≡◌, ◌≢◌, ◌⊎◌, inl, inr, ℕ, zero, suc, ◌+◌, ◌*◌, ◌/◌, ◌%◌, List, [], ◌∷◌, ◌++◌, length, Bool, true, false, eqb, refl, sym, ap, subst, ◌∙◌, arith}
use Rattle.std.proofs.lemmas.List.{length-append}
use Rattle.std.proofs.lemmas.Bool.{eqb-true, eq-eqb}
use Rattle.gds_records.specs.declared.error.Demand.{Demand}
use Rattle.gds_records.specs.declared.error.Demand.TheVariants.{Plain, Units, Outline, Transform, Track, NewName}
use Rattle.gds_records.specs.Record.{StreamRecord, is_formed}
use Rattle.gds_records.specs.Bytes.{record_bytes, length_in, code_in}
use Rattle.gds_records.specs.Part.{Judge}
use Rattle.gds_records.specs.Spelling.{all_count}
use Rattle.gds_records.proofs.SpellingLaws.{formed_whole, formed_even}
use Rattle.gds_records.proofs.CompareLaws.{same_first}
use Rattle.gds_library.specs.declared.fault.GdsFault.{GdsFault}
use Rattle.gds_library.specs.declared.fault.GdsFault.TheVariants as fault
use Rattle.gds_library.specs.FirstFault.{IsBegun, IsCutShort, IsMissized, HasWrongCount, IsUnmet, IsNextRecord, IsBad}
use Rattle.gds_library.specs.ReadFault.{unmet_fault_of}
use Rattle.gds_library.proofs.OneFaultGrammar.{right_count}

-- the whole record that stands first
record IsHere (rest : List ℕ) (e : StreamRecord) : Type 0 where
  after : List ℕ
  parts : rest ≡ record_bytes e ++ after
  whole : e.whole ≡ true

next_here : (rest : List ℕ) (done : List StreamRecord) (e : StreamRecord) → IsNextRecord rest done e → IsHere rest e
next_here rest done e n = record { after = n.after; parts = n.parts; whole = formed_whole e n.formed }

same_here : (rest : List ℕ) (e d : StreamRecord) → IsHere rest e → IsHere rest d → e ≡ d
same_here rest e d h k = (same_first e d h.after k.after h.whole k.whole (sym h.parts ∙ k.parts)).0

halves : (n : ℕ) → 256 * (n / 256) + n % 256 ≡ n
halves n = omega arith

length_here : (rest : List ℕ) (e : StreamRecord) → IsHere rest e → length_in rest ≡ length e.content + 4
length_here rest e h = ap length_in h.parts ∙ halves (length e.content + 4)

-- its code stands in its bytes
pub code_here : (rest : List ℕ) (done : List StreamRecord) (e : StreamRecord) → IsNextRecord rest done e
    → e.code ≡ code_in rest
code_here rest done e n = sym (ap code_in n.parts ∙ halves e.code)

-- a whole record isn't cut short
not_cut : (rest : List ℕ) (e : StreamRecord) → IsHere rest e → IsCutShort rest → ⊥
not_cut rest e h short =
    let size : length rest ≡ length (record_bytes e ++ h.after) = ap length h.parts in
    let sum : length (record_bytes e ++ h.after) ≡ length (record_bytes e) + length h.after =
    length-append (record_bytes e) h.after in
    let given = length_here rest e h in
    elim short [ inl less ↦ omega (arith, size, sum, less) | inr less ↦ omega (arith, size, sum, given, less) ]

-- a record of the table isn't of an odd length
not_missized : (rest : List ℕ) (e : StreamRecord) → IsHere rest e → is_formed e ≡ true → IsMissized rest → ⊥
not_missized rest e h formed bad =
    let given = length_here rest e h in
    let even = formed_even e formed in
    elim bad [ inl odd ↦ omega (arith, given, even, odd) | inr less ↦ omega (arith, given, less) ]

-- the kinds of faults that stand at a record
pub data Kind : Type 0 where
  cut_short : Kind
  ill : Kind
  misplaced : Kind
  lacking : Demand → Kind

-- their names
abbrev pub fault_named : ℕ → ℕ → Kind → GdsFault
fault_named at code cut_short = fault.Truncated at
fault_named at code ill = fault.BadRecord at code
fault_named at code misplaced = fault.NotInPlace at code
fault_named at code (lacking d) = unmet_fault_of at code d

-- no library has the record there, whatever counts
abbrev pub IsMisplaced : List StreamRecord → StreamRecord → Type 0
IsMisplaced done e = (judge : Judge) → IsBegun judge (done ++ e ∷ []) → ⊥

-- a length that no record has, or a record that is bad
abbrev pub IsIll : List StreamRecord → List ℕ → Type 0
IsIll done rest = IsMissized rest ⊎ ((e : StreamRecord) × IsBad rest done e)

-- what is wrong there
abbrev pub IsWrong : Kind → List StreamRecord → List ℕ → Type 0
IsWrong cut_short done rest = IsCutShort rest
IsWrong ill done rest = (IsCutShort rest → ⊥) × IsIll done rest
IsWrong misplaced done rest = (e : StreamRecord) × IsNextRecord rest done e × IsMisplaced done e
IsWrong (lacking d) done rest = (e : StreamRecord) × IsNextRecord rest done e × (d ≢ Plain) × IsUnmet d done e

-- demands are told apart
number : Demand → ℕ
number Plain = 0
number Units = 1
number Outline = 2
number Transform = 3
number Track = 4
number NewName = 5

numbered : ℕ → Demand
numbered zero = Plain
numbered (suc zero) = Units
numbered (suc (suc zero)) = Outline
numbered (suc (suc (suc zero))) = Transform
numbered (suc (suc (suc (suc zero)))) = Track
numbered (suc (suc (suc (suc (suc n))))) = NewName

back : (d : Demand) → numbered (number d) ≡ d
unfolding number numbered
back Plain = refl
back Units = refl
back Outline = refl
back Transform = refl
back Track = refl
back NewName = refl

-- a record fails one demand
one_demand : (c d : Demand) (done : List StreamRecord) (e : StreamRecord) → IsUnmet c done e → IsUnmet d done e → c ≡ d
one_demand c d done e u v = at (eqb (number c) (number d)) refl where
  at : (b : Bool) → eqb (number c) (number d) ≡ b → c ≡ d
  at true is = sym (back c) ∙ ap numbered (eqb-true (number c) (number d) is) ∙ back d
  at false is =
      let judge : Judge = λ x. eqb (number x) (number d) in
      absurd (v.alone judge (eq-eqb (number d) (number d) refl) (u.without judge is))

-- what has a place isn't ill
not_ill : (done : List StreamRecord) (rest : List ℕ) (e : StreamRecord) → IsNextRecord rest done e
    → (IsUnmet Plain done e → ⊥) → IsIll done rest → ⊥
not_ill done rest e n fit (inl bad) = not_missized rest e (next_here rest done e n) n.formed bad
not_ill done rest e n fit (inr b) =
    let bad = b.1 in
    let same : b.0 ≡ e = same_here rest b.0 e (record { after = bad.0; parts = bad.1; whole = bad.2 })
    (next_here rest done e n) in
    elim bad.3 [
      | inl unformed ↦ (let both : false ≡ true = sym unformed ∙ ap is_formed same ∙ n.formed in cc)
      | inr more ↦ elim more [
        | inl wrong ↦ n.counted (subst (HasWrongCount done) same wrong)
        | inr unmet ↦ fit (subst (λ (x : StreamRecord). IsUnmet Plain done x) same unmet)
      ]
    ]

not_plain : (d : Demand) (done : List StreamRecord) (e : StreamRecord) → d ≢ Plain → IsUnmet d done e
    → IsUnmet Plain done e → ⊥
not_plain d done e off u v = off (one_demand d Plain done e u v)

-- what has no place lacks nothing
no_lack : (d : Demand) (done : List StreamRecord) (e : StreamRecord) → IsMisplaced done e → IsUnmet d done e → ⊥
no_lack d done e off u =
    let judge : Judge = λ x. false in
    off judge (u.without judge refl)

same_next : (done : List StreamRecord) (rest : List ℕ) (e x : StreamRecord) → IsNextRecord rest done e
    → IsNextRecord rest done x → e ≡ x
same_next done rest e x n m = same_here rest e x (next_here rest done e n) (next_here rest done x m)

off_cut : (done : List StreamRecord) (rest : List ℕ) (e : StreamRecord) → IsNextRecord rest done e → IsCutShort rest → ⊥
off_cut done rest e n = not_cut rest e (next_here rest done e n)

-- one thing is wrong at one place
pub one_kind : (k l : Kind) (done : List StreamRecord) (rest : List ℕ) → IsWrong k done rest → IsWrong l done rest
    → k ≡ l
one_kind cut_short cut_short done rest w v = refl
one_kind cut_short ill done rest w v = absurd (v.0 w)
one_kind cut_short misplaced done rest w v = absurd (off_cut done rest v.0 v.1 w)
one_kind cut_short (lacking d) done rest w v = absurd (off_cut done rest v.0 v.1 w)
one_kind ill cut_short done rest w v = absurd (w.0 v)
one_kind ill ill done rest w v = refl
one_kind ill misplaced done rest w v = absurd (not_ill done rest v.0 v.1 (no_lack Plain done v.0 v.2) w.1)
one_kind ill (lacking d) done rest w v = absurd (not_ill done rest v.0 v.1 (not_plain d done v.0 v.2 v.3) w.1)
one_kind misplaced cut_short done rest w v = absurd (off_cut done rest w.0 w.1 v)
one_kind misplaced ill done rest w v = absurd (not_ill done rest w.0 w.1 (no_lack Plain done w.0 w.2) v.1)
one_kind misplaced misplaced done rest w v = refl
one_kind misplaced (lacking d) done rest w v =
    absurd (no_lack d done v.0 (subst (IsMisplaced done) (same_next done rest w.0 v.0 w.1 v.1) w.2) v.3)
one_kind (lacking c) cut_short done rest w v = absurd (off_cut done rest w.0 w.1 v)
one_kind (lacking c) ill done rest w v = absurd (not_ill done rest w.0 w.1 (not_plain c done w.0 w.2 w.3) v.1)
one_kind (lacking c) misplaced done rest w v =
    absurd (no_lack c done w.0 (subst (IsMisplaced done) (same_next done rest v.0 w.0 v.1 w.1) v.2) w.3)
one_kind (lacking c) (lacking d) done rest w v =
    ap (λ (x : Demand). lacking x) (one_demand c d done v.0
    (subst (λ (x : StreamRecord). IsUnmet c done x) (same_next done rest w.0 v.0 w.1 v.1) w.3) v.3)

-- a record that some library has there
goes_on : (done : List StreamRecord) (rest : List ℕ) (e : StreamRecord) (after : List ℕ)
    → rest ≡ record_bytes e ++ after → is_formed e ≡ true → IsBegun all_count (done ++ e ∷ [])
    → IsNextRecord rest done e
goes_on done rest e after parts formed b =
    record { after = after; parts = parts; formed = formed; counted = right_count done e b }

-- no library goes on where something is wrong
pub no_more : (k : Kind) (done : List StreamRecord) (rest : List ℕ) (e : StreamRecord) (after : List ℕ)
    → IsWrong k done rest → rest ≡ record_bytes e ++ after → is_formed e ≡ true → IsBegun all_count (done ++ e ∷ []) → ⊥
no_more cut_short done rest e after w parts formed b = off_cut done rest e (goes_on done rest e after parts formed b) w
no_more ill done rest e after w parts formed b =
    not_ill done rest e (goes_on done rest e after parts formed b) (λ u. u.alone all_count refl b) w.1
no_more misplaced done rest e after w parts formed b =
    let same : e ≡ w.0 = same_next done rest e w.0 (goes_on done rest e after parts formed b) w.1 in
    w.2 all_count (subst (λ (x : StreamRecord). IsBegun all_count (done ++ x ∷ [])) same b)
no_more (lacking d) done rest e after w parts formed b =
    let same : e ≡ w.0 = same_next done rest e w.0 (goes_on done rest e after parts formed b) w.1 in
    w.3.alone all_count refl (subst (λ (x : StreamRecord). IsBegun all_count (done ++ x ∷ [])) same b)
